-- What a line gives is good, where the lines before it give good entries and no reason is against
-- it.
use Rattle.std.proofs.Common.{◌≡◌, ℕ, ◌==◌, ◌&&◌, not, true, false, List, [], ◌∷◌, Option, Some}
use Rattle.std.proofs.Common.{None}
use Rattle.std.proofs.Common.{refl, subst}
use Rattle.std.specs.List.{list_all}
use Rattle.std.proofs.lemmas.Bool.{and_parts, false≢true, not-false}
use Rattle.hex_cells.specs.Sets.{with_cell}
use Rattle.hex_board.specs.Elements.{are_joined, edge_element}
use Rattle.hex_board.specs.Positions.{is_empty_at}
use Rattle.hex_board.proofs.Places.{near_out}
use Rattle.conn_store.specs.declared.entries.Kind.TheVariants.{Full, Semi}
use Rattle.win_cert.specs.Entries.{Context, ScopedEntry, adj_entry, carriers_of, edge_entry}
use Rattle.win_cert.specs.Entries.{elements_at, end_element, entries_at, entry_at, entry_between}
use Rattle.win_cert.specs.Entries.{gives, move_entry}
use Rattle.win_cert.specs.Reasons.{applies, is_bad_reference, is_wrong_scope}
use Rattle.win_cert.specs.declared.reasons.Reason.{Reason}
use Rattle.win_cert.specs.declared.reasons.Reason.TheVariants.{BadStone, CarriersMeet, CommonCell}
use Rattle.win_cert.specs.declared.reasons.Reason.TheVariants.{EndInCarrier, EndsDiffer, MiddleKind}
use Rattle.win_cert.specs.declared.reasons.Reason.TheVariants.{NotEdges, NotJoined, NotNeighbours}
use Rattle.win_cert.specs.declared.reasons.Reason.TheVariants.{WrongScope}
use Rattle.win_cert.specs.Scopes.{elements_in, is_part}
use Rattle.win_cert.specs.Statements.{are_near, entries_named, have_same_ends, is_edge_entry}
use Rattle.win_cert.specs.Statements.{may_take, numbers_in, scope_taken}
use Rattle.win_cert.specs.declared.statements.Statement.TheVariants.{Derivation}
use Rattle.win_cert.specs.declared.lines.Line.{Line}
use Rattle.win_cert.specs.declared.lines.Line.TheVariants.{Adj, And, Key, Or2, Or3, Put, Done, Move}
use Rattle.win_cert.specs.declared.lines.Line.TheVariants.{Cases, Lift, OrMany}
use Rattle.win_cert.proofs.CaseLines.{cases_good, edges_good, or_good}
use Rattle.win_cert.proofs.ChainLines.{and_good, given_is, key_good}
use Rattle.win_cert.proofs.EdgeEntries.{IsGoodOfEdges, good_done, good_move}
use Rattle.win_cert.proofs.GoodEntries.{IsGood, good_between, good_near}
use Rattle.win_cert.proofs.LiftLines.{lift_good}
use Rattle.win_cert.proofs.NamedEntries.{Each, GaveGood, IsGoodEntry, IsLineTaken, taken}
use Rattle.win_cert.proofs.ScopeBoards.{IsSmallBoard, scope_small}

-- ---- `adj`

adj_good : (c : Context) (o p : Option ℕ) (r : ScopedEntry) → IsSmallBoard (elements_at c)
    → are_near (elements_at c) o p ≡ true → adj_entry c o p ≡ Some r → IsGoodEntry c.base r
adj_good c (Some x) (Some y) r m h e = given_is c (entry_between c Full x y 0) r e
    (good_between (elements_at c) Full x y 0 (good_near (elements_at c) x y m (near_out (elements_at c) x y h)))
adj_good c (Some x) None r m h e = absurd (false≢true h)
adj_good c None p r m h e = absurd (false≢true h)

-- ---- `move`

move_good : (c : Context) (k i : ℕ) (entries : List ScopedEntry) (r : ScopedEntry)
    → IsSmallBoard (elements_at c) → is_empty_at (elements_at c).board k ≡ true
    → Each (IsLineTaken c (Derivation (Move k i))) entries
    → list_all (is_edge_entry c.base) entries ≡ true → move_entry c k entries ≡ Some r
    → IsGoodEntry c.base r
move_good c k i [] r m h g f e = absurd (cc)
move_good c k i (a ∷ entries) r m h g f e =
    let w = elements_in c.base (with_cell c.scope k) in
    let t = and_parts (is_edge_entry c.base a) (list_all (is_edge_entry c.base) entries) f in
    let good : IsGood w Full a.x a.y a.carrier
    = subst (λ v. IsGood w v a.x a.y a.carrier) g.0.named.kind_is
    (subst (λ v. IsGood (elements_in c.base v) a.kind a.x a.y a.carrier) g.0.scope_is g.0.good) in
    let edges : (a.x == edge_element w false && a.y == edge_element w true) ≡ true =
    subst (λ v. (a.x == edge_element (elements_in c.base v) false && a.y == edge_element (elements_in c.base v) true) ≡ true) g.0.scope_is t.0 in
    given_is c (edge_entry c Semi (with_cell a.carrier k)) r e
    (good_between (elements_at c) Semi (edge_element (elements_at c) false) (edge_element (elements_at c) true) (with_cell a.carrier k)
    (good_move c.base c.scope k a.carrier m h (edges_good w Full a edges good)))

-- ---- each line

edge_good : (c : Context) (carrier : ℕ) (r : ScopedEntry)
    → IsGoodOfEdges (elements_at c) Full carrier → Some (edge_entry c Full carrier) ≡ Some r
    → IsGoodEntry c.base r
edge_good c carrier r g e = given_is c (edge_entry c Full carrier) r e
    (good_between (elements_at c) Full (edge_element (elements_at c) false) (edge_element (elements_at c) true) carrier g)

-- the line is read over lines that gave good entries, and no reason is against it
pub record IsRead (c : Context) (line : Line) : Type 0 where
  pub small : IsSmallBoard c.base
  pub earlier : GaveGood c
  pub clear : (r : Reason) → applies c (Derivation line) r ≡ false

-- what it names, where it is no `lift`
named : (c : Context) (line : Line) → IsRead c line
    → is_bad_reference c (Derivation line) ≡ not (list_all (λ i. may_take (Derivation line) (entry_at c i)) (numbers_in (Derivation line)))
    → is_wrong_scope c (Derivation line) ≡ not (list_all (λ a. a.scope == scope_taken c (Derivation line)) (entries_named c (Derivation line)))
    → Each (IsLineTaken c (Derivation line)) (entries_at c (numbers_in (Derivation line)))
named c line h p q = taken c (Derivation line) h.earlier h.clear p q

line_good : (c : Context) (line : Line) (r : ScopedEntry) → IsRead c line
    → IsSmallBoard (elements_at c) → gives c line ≡ Some r → IsGoodEntry c.base r
line_good c (Adj x y) r h m e
    = adj_good c (end_element (elements_at c) x) (end_element (elements_at c) y) r m
    (not-false (are_near (elements_at c) (end_element (elements_at c) x) (end_element (elements_at c) y)) (h.clear NotNeighbours)) e
line_good c (And i j) r h m e
    = and_good c (Derivation (And i j)) (entries_at c (i ∷ j ∷ [])) r refl refl m
    (named c (And i j) h refl refl) (h.clear CarriersMeet) (h.clear EndInCarrier) (h.clear MiddleKind) e
line_good c (Key i j) r h m e
    = key_good c (Derivation (Key i j)) (entries_at c (i ∷ j ∷ [])) r refl refl refl m
    (named c (Key i j) h refl refl) (h.clear CarriersMeet) (h.clear EndInCarrier) e
line_good c (Or2 i j) r h m e
    = or_good c (Derivation (Or2 i j)) (entries_at c (i ∷ j ∷ [])) r refl refl m
    (named c (Or2 i j) h refl refl) (h.clear CommonCell)
    (not-false (have_same_ends (entries_at c (i ∷ j ∷ []))) (h.clear EndsDiffer)) e
line_good c (Or3 i j k) r h m e
    = or_good c (Derivation (Or3 i j k)) (entries_at c (i ∷ j ∷ k ∷ [])) r refl refl m
    (named c (Or3 i j k) h refl refl) (h.clear CommonCell)
    (not-false (have_same_ends (entries_at c (i ∷ j ∷ k ∷ []))) (h.clear EndsDiffer)) e
line_good c (OrMany numbers) r h m e
    = or_good c (Derivation (OrMany numbers)) (entries_at c numbers) r refl refl m
    (named c (OrMany numbers) h refl refl) (h.clear CommonCell)
    (not-false (have_same_ends (entries_at c numbers)) (h.clear EndsDiffer)) e
line_good c (Put cells) r h m e = absurd (cc)
line_good c Done r h m e
    = edge_good c 0 r
    (good_done (elements_at c) m (not-false (are_joined (elements_at c)) (h.clear NotJoined))) e
line_good c (Move k i) r h m e
    = move_good c k i (entries_at c (i ∷ [])) r m
    (not-false (is_empty_at (elements_at c).board k) (h.clear BadStone)) (named c (Move k i) h refl refl)
    (not-false (list_all (is_edge_entry c.base) (entries_at c (i ∷ []))) (h.clear NotEdges)) e
line_good c (Cases numbers) r h m e = edge_good c (carriers_of (entries_at c numbers)) r
    (cases_good c (Derivation (Cases numbers)) (entries_at c numbers) refl refl m (named c (Cases numbers) h refl refl) (h.clear CommonCell)
    (not-false (list_all (is_edge_entry c.base) (entries_at c numbers)) (h.clear NotEdges))) e
line_good c (Lift i) r h m e
    = lift_good c (entry_at c i) r h.earlier i refl m
    (not-false (list_all (λ a. is_part a.scope c.scope) (entries_at c (i ∷ []))) (h.clear WrongScope))
    e

-- a line against which there is no reason gives a good entry
pub read_good : (c : Context) (line : Line) (r : ScopedEntry) → IsRead c line
    → gives c line ≡ Some r → IsGoodEntry c.base r
read_good c line r h e = line_good c line r h (scope_small c.base c.scope h.small) e
