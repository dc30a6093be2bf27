-- The lines `or` and `cases`: semi entries of one pair of elements give a full one, where no cell
-- is in all their carriers.
use Rattle.std.proofs.Common.{◌≡◌, ℕ, ◌<◌, ◌==◌, ◌&&◌, true, false, List, [], ◌∷◌, Some, sym, ◌∙◌}
use Rattle.std.proofs.Common.{subst, inl, inr, suc, arith}
use Rattle.std.specs.List.{list_all}
use Rattle.std.proofs.lemmas.Bool.{and_cases, and_parts, both_ways, eqb-true, false_from_ne_true}
use Rattle.std.proofs.lemmas.Bool.{false≢true}
use Rattle.hex_cells.specs.Sets.{has, members}
use Rattle.hex_board.specs.Elements.{PlayerBoard, edge_element}
use Rattle.hex_board.specs.Positions.{AllEmpty, stones_of}
use Rattle.hex_board.proofs.Search.{any_in}
use Rattle.conn_store.specs.Entries.{Misses}
use Rattle.conn_store.specs.Laws.{IsSubset}
use Rattle.conn_store.specs.Links.{StonesLink}
use Rattle.conn_store.specs.declared.entries.Kind.{Kind}
use Rattle.conn_store.specs.declared.entries.Kind.TheVariants.{Full, Semi}
use Rattle.conn_store.proofs.Chains.{empty_both, misses_both}
use Rattle.conn_store.proofs.Sureness.{same, union_left, union_right}
use Rattle.conn_store.proofs.Ways.{linked_kept}
use Rattle.win_cert.specs.Entries.{Context, ScopedEntry, carriers_of, elements_at, entry_between}
use Rattle.win_cert.specs.Entries.{or_entry}
use Rattle.win_cert.specs.Scopes.{elements_in}
use Rattle.win_cert.specs.Statements.{have_same_ends, is_edge_entry, kind_taken, same_ends}
use Rattle.win_cert.specs.Statements.{scope_taken, share_cell}
use Rattle.win_cert.specs.declared.statements.Statement.{Statement}
use Rattle.win_cert.proofs.ChainLines.{given_is}
use Rattle.win_cert.proofs.Middles.{taken_good}
use Rattle.win_cert.proofs.EdgeEntries.{IsGoodOfEdges}
use Rattle.win_cert.proofs.GoodEntries.{IsGood, concluded, good_between, none_empty, none_missed}
use Rattle.win_cert.proofs.GoodEntries.{sure_by_cases}
use Rattle.win_cert.proofs.NamedEntries.{Each, IsGoodEntry, IsLineTaken, each_both, each_passes}
use Rattle.win_cert.proofs.ScopeBoards.{IsSmallBoard, empty_small}

-- ---- the union of the carriers

-- a case: a semi entry of x and y
abbrev pub IsCase : PlayerBoard → ℕ → ℕ → ScopedEntry → Type 0
IsCase e x y a = IsGood e Semi x y a.carrier

all_empty : (e : PlayerBoard) (x y : ℕ) (cases : List ScopedEntry) → Each (IsCase e x y) cases
    → AllEmpty e.board (carriers_of cases)
all_empty e x y [] g = none_empty e
all_empty e x y (a ∷ cases) g = empty_both e a.carrier (carriers_of cases) g.0.empty
    (all_empty e x y cases g.1)

first_missed : (e : PlayerBoard) (x y : ℕ) (cases : List ScopedEntry) → Each (IsCase e x y) cases
    → Misses e x (carriers_of cases)
first_missed e x y [] g = none_missed e x
first_missed e x y (a ∷ cases) g = misses_both e x a.carrier (carriers_of cases) g.0.first
    (first_missed e x y cases g.1)

second_missed : (e : PlayerBoard) (x y : ℕ) (cases : List ScopedEntry) → Each (IsCase e x y) cases
    → Misses e y (carriers_of cases)
second_missed e x y [] g = none_missed e y
second_missed e x y (a ∷ cases) g
    = misses_both e y a.carrier (carriers_of cases) g.0.second (second_missed e x y cases g.1)

all_inside : (c : ℕ) (cases : List ScopedEntry) → IsSubset (carriers_of cases) c
    → Each (λ a. IsSubset a.carrier c) cases
all_inside c [] f = tt
all_inside c (a ∷ cases) f =
    (λ k h. f k (union_left a.carrier (carriers_of cases) k h), all_inside c cases (λ k h. f k (union_right a.carrier (carriers_of cases) k h)))

-- ---- a reply leaves a case

left_case : (P : ScopedEntry → Type 0) (k : ℕ) (cases : List ScopedEntry)
    → list_all (λ (a : ScopedEntry). has a.carrier k) cases ≡ false → Each P cases
    → (a : ScopedEntry) × P a × (has a.carrier k ≡ false)
left_case P k [] h g = absurd (false≢true (sym h))
left_case P k (a ∷ cases) h g
    = elim (and_cases (has a.carrier k) (list_all (λ (w : ScopedEntry). has w.carrier k) cases) h) [
      | inl f ↦ (a, g.0, f)
      | inr f ↦ left_case P k cases f g.1
    ]

not_common : (cases : List ScopedEntry) (k : ℕ) → share_cell cases ≡ false → k < 121
    → list_all (λ (a : ScopedEntry). has a.carrier k) cases ≡ false
not_common cases k f l = false_from_ne_true (list_all (λ (a : ScopedEntry). has a.carrier k) cases)
    (λ t. both_ways (share_cell cases) f
    (any_in (λ j. list_all (λ (a : ScopedEntry). has a.carrier j) cases) 0 121 k (omega arith) (omega (arith, l)) t))

pub good_cases : (e : PlayerBoard) (x y : ℕ) (cases : List ScopedEntry) → IsSmallBoard e
    → Each (IsCase e x y) cases → share_cell cases ≡ false → IsGood e Full x y (carriers_of cases)
good_cases e x y [] m g f = absurd (false≢true (sym (not_common [] 0 f (omega arith))))
good_cases e x y (a ∷ cases) m g f =
    let c = carriers_of (a ∷ cases) in
    let s = stones_of e.board e.player in
    let free : AllEmpty e.board c = all_empty e x y (a ∷ cases) g in
    let inside : Each (λ w. IsSubset w.carrier c) (a ∷ cases) = all_inside c (a ∷ cases) (same c) in
    let both : Each (λ w. IsSubset w.carrier c × IsCase e x y w) (a ∷ cases) =
    each_both (λ w. IsSubset w.carrier c) (IsCase e x y)
    (λ w. IsSubset w.carrier c × IsCase e x y w) (a ∷ cases) (λ w p q. (p, q)) inside g in
    record {
      empty = free;
      first = first_missed e x y (a ∷ cases) g;
      second = second_missed e x y (a ∷ cases) g;
      holds = concluded e (suc (members c 121)) Full x y c m free
          (sure_by_cases (members a.carrier 121) (StonesLink e x y) s a.carrier c (linked_kept e x y) inside.0 g.0.holds
          (λ k h. let w = left_case (λ v. IsSubset v.carrier c × IsCase e x y v) k (a
          ∷ cases) (not_common (a ∷ cases) k f (empty_small e c m free k h)) both in
          (w.0.carrier, w.1.0, w.2, w.1.1.holds)));
    }

-- ---- `or`

or_case : (c : Context) (s : Statement) (a b : ScopedEntry) → kind_taken s ≡ Semi
    → scope_taken c s ≡ c.scope → IsLineTaken c s b → same_ends a b ≡ true
    → IsCase (elements_at c) a.x a.y b
or_case c s a b p q g h =
    let t = and_parts (a.x == b.x) (a.y == b.y) h in
    subst (λ v. IsGood (elements_at c) Semi v a.y b.carrier) (sym (eqb-true a.x b.x t.0))
    (subst (λ v. IsGood (elements_at c) Semi b.x v b.carrier) (sym (eqb-true a.y b.y t.1)) (taken_good c s Semi b p q g))

pub or_good : (c : Context) (s : Statement) (entries : List ScopedEntry) (r : ScopedEntry)
    → kind_taken s ≡ Semi → scope_taken c s ≡ c.scope → IsSmallBoard (elements_at c)
    → Each (IsLineTaken c s) entries → share_cell entries ≡ false → have_same_ends entries ≡ true
    → or_entry c entries ≡ Some r → IsGoodEntry c.base r
or_good c s [] r p q m g f h e = absurd (cc)
or_good c s (a ∷ entries) r p q m g f h e
    = given_is c (entry_between c Full a.x a.y (carriers_of (a ∷ entries))) r e
    (good_between (elements_at c) Full a.x a.y (carriers_of (a ∷ entries)) (good_cases (elements_at c) a.x a.y (a ∷ entries) m (
      taken_good c s Semi a p q g.0,
      each_both (IsLineTaken c s) (λ b. same_ends a b ≡ true)
          (IsCase (elements_at c) a.x a.y) entries (λ b t i. or_case c s a b p q t i) g.1
          (each_passes (same_ends a) entries h),
    ) f))

-- ---- `cases`

-- an entry of the player's edges in its scope
pub edges_good : (e : PlayerBoard) (kind : Kind) (a : ScopedEntry)
    → (a.x == edge_element e false && a.y == edge_element e true) ≡ true
    → IsGood e kind a.x a.y a.carrier
    → IsGoodOfEdges e kind a.carrier
edges_good e kind a h g =
    let t = and_parts (a.x == edge_element e false) (a.y == edge_element e true) h in
    subst (λ v. IsGood e kind v (edge_element e true) a.carrier)
    (eqb-true a.x (edge_element e false) t.0)
    (subst (λ v. IsGood e kind a.x v a.carrier) (eqb-true a.y (edge_element e true) t.1) g)

edge_case : (c : Context) (s : Statement) (a : ScopedEntry) → kind_taken s ≡ Semi
    → scope_taken c s ≡ c.scope → IsLineTaken c s a → is_edge_entry c.base a ≡ true
    → IsGoodOfEdges (elements_at c) Semi a.carrier
edge_case c s a p q g h = edges_good (elements_at c) Semi a
    (subst (λ v. (a.x == edge_element (elements_in c.base v) false && a.y == edge_element (elements_in c.base v) true) ≡ true) (g.scope_is
    ∙ q) h) (taken_good c s Semi a p q g)

pub cases_good : (c : Context) (s : Statement) (entries : List ScopedEntry) → kind_taken s ≡ Semi
    → scope_taken c s ≡ c.scope → IsSmallBoard (elements_at c)
    → Each (IsLineTaken c s) entries → share_cell entries ≡ false
    → list_all (is_edge_entry c.base) entries ≡ true
    → IsGoodOfEdges (elements_at c) Full (carriers_of entries)
cases_good c s entries p q m g f h = good_cases (elements_at c) (edge_element (elements_at c) false)
    (edge_element (elements_at c) true) entries m
    (each_both (IsLineTaken c s) (λ a. is_edge_entry c.base a ≡ true) (λ a. IsGoodOfEdges (elements_at c) Semi a.carrier) entries
    (λ a t i. edge_case c s a p q t i) g
    (each_passes (is_edge_entry c.base) entries h)) f
