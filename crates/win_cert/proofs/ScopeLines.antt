-- Each line that the solver adds: there is no reason against it, and the entry that it gives.
use Rattle.std.proofs.Common.{◌≡◌, ℕ, ◌==◌, ◌&&◌, not, true, false, List, [], ◌∷◌, Some, None}
use Rattle.std.proofs.Common.{min, max, length, refl, ◌∙◌, ap, arith}
use Rattle.std.specs.List.{cons_option, list_all, list_any}
use Rattle.std.proofs.lemmas.Bool.{and_from, and_left, and_parts, and_right, both_ways, eq-eqb}
use Rattle.std.proofs.lemmas.Bool.{false_from_ne_true, not-true}
use Rattle.hex_cells.specs.Sets.{has, with_cell}
use Rattle.hex_cells.specs.declared.board_size.TheConstants.{MOST_CELLS}
use Rattle.hex_board.specs.Elements.{are_joined, edge_element}
use Rattle.hex_board.specs.Positions.{AllEmpty, is_empty_at}
use Rattle.hex_board.proofs.Search.{any_out}
use Rattle.conn_store.specs.Stores.{same_kind}
use Rattle.conn_store.specs.declared.entries.Kind.{Kind}
use Rattle.conn_store.specs.declared.entries.Kind.TheVariants.{Full, Semi}
use Rattle.win_cert.specs.Entries.{Context, ScopedEntry, carriers_of, edge_entry, elements_at}
use Rattle.win_cert.specs.Entries.{entries_at, entry_at, gives, move_entry}
use Rattle.win_cert.specs.Reasons.{reason_against, is_bad_reference, is_bad_stone, is_cell_common}
use Rattle.win_cert.specs.Reasons.{is_no_edge_entry, is_not_joined, is_wrong_scope}
use Rattle.win_cert.specs.declared.reasons.Reason.TheVariants.{BadReference, BadStone, CommonCell}
use Rattle.win_cert.specs.declared.reasons.Reason.TheVariants.{NotEdges, NotJoined, WrongScope}
use Rattle.win_cert.specs.Statements.{cell_numbers, is_edge_entry, may_take}
use Rattle.win_cert.specs.declared.statements.Statement.TheVariants.{Derivation}
use Rattle.win_cert.specs.declared.lines.Line.{Line}
use Rattle.win_cert.specs.declared.lines.Line.TheVariants.{Put, Done, Move, Cases}
use Rattle.win_cert.proofs.CutChains.{none_shared}
use Rattle.win_cert.proofs.CutSteps.{bad_one, told, told_next}
use Rattle.win_cert.specs.Contexts.{context_after}
use Rattle.win_cert.specs.Showing.{GivesEdges}
use Rattle.win_cert.proofs.Appending.{entry_last}

-- ---- `put`

pub put_reasons : (c : Context) (cells : ℕ) → reason_against c (Derivation (Put cells)) ≡ told
    (is_bad_stone c (Derivation (Put cells))) BadStone None
unfolding reason_against
put_reasons c cells = refl

pub put_right : (c : Context) (cells : ℕ) → AllEmpty c.base.board cells
    → reason_against c (Derivation (Put cells)) ≡ None
put_right c cells f = put_reasons c cells
    ∙ told_next (is_bad_stone c (Derivation (Put cells))) BadStone None
    (false_from_ne_true (list_any (λ k. has cells k && not (is_empty_at c.base.board k)) cell_numbers) (λ t.
    let w = any_out (λ k. has cells k && not (is_empty_at c.base.board k)) 0 MOST_CELLS t in
    let u = and_parts (has cells w.0) (not (is_empty_at c.base.board w.0)) w.2 in
    both_ways (is_empty_at c.base.board w.0) (not-true (is_empty_at c.base.board w.0) u.1)
    (f w.0 u.0))) refl

-- ---- the entry of the edges

least_of : (y : ℕ) → (min 0 y ≡ 0) × (max 0 y ≡ y)
least_of y = (omega arith, omega arith)

of_edges : (c : Context) (kind : Kind) (carrier : ℕ)
    → is_edge_entry c.base (edge_entry c kind carrier) ≡ true
of_edges c kind carrier =
    let y : ℕ = edge_element (elements_at c) true in
    and_from (min 0 y == 0) (max 0 y == y) (eq-eqb (min 0 y) 0 (least_of y).0)
    (eq-eqb (max 0 y) y (least_of y).1)

-- the entry of its edges that a line gives
given_edges : (c : Context) (line : Line) (kind : Kind) (carrier : ℕ)
    → gives c line ≡ Some (edge_entry c kind carrier)
    → GivesEdges (context_after c line) kind c.scope carrier (length c.earlier)
given_edges c line kind carrier h = record {
  entry = edge_entry c kind carrier;
  at = entry_last c line (edge_entry c kind carrier) h;
  kind_is = refl;
  scope_is = refl;
  edges = of_edges c kind carrier;
  carrier_is = refl;
}

-- ---- `done`

pub done_reasons : (c : Context)
    → reason_against c (Derivation Done) ≡ told (is_not_joined c (Derivation Done)) NotJoined None
unfolding reason_against
done_reasons c = refl

pub done_right : (c : Context) → are_joined (elements_at c) ≡ true
    → reason_against c (Derivation Done) ≡ None
done_right c h = done_reasons c ∙ told_next (is_not_joined c (Derivation Done)) NotJoined None
    (ap not h) refl

pub done_gives : (c : Context) → GivesEdges (context_after c Done) Full c.scope 0 (length c.earlier)
done_gives c = given_edges c Done Full 0 refl

-- ---- `move`

pub move_reasons : (c : Context) (k i : ℕ) → reason_against c (Derivation (Move k i))
    ≡ told (is_bad_reference c (Derivation (Move k i))) BadReference
    (told (is_bad_stone c (Derivation (Move k i))) BadStone
    (told (is_wrong_scope c (Derivation (Move k i))) WrongScope (told (is_no_edge_entry c (Derivation (Move k i))) NotEdges None)))
unfolding reason_against
move_reasons c k i = refl

one_at : (c : Context) (i : ℕ) (a : ScopedEntry) → entry_at c i ≡ Some a
    → entries_at c (i ∷ []) ≡ a ∷ []
one_at c i a h = ap (λ o. cons_option o []) h

pub move_right : (c : Context) (k i d : ℕ) → is_empty_at (elements_at c).board k ≡ true
    → GivesEdges c Full (with_cell c.scope k) d i → reason_against c (Derivation (Move k i)) ≡ None
move_right c k i d h g =
    let s = Derivation (Move k i) in
    let a = g.entry in
    move_reasons c k i
    ∙ told_next (is_bad_reference c s) BadReference _
    (ap (λ o. not (may_take s o && true)) g.at ∙ bad_one (same_kind a.kind Full && true)
    (and_from (same_kind a.kind Full) true (ap (λ v. same_kind v Full) g.kind_is) refl))
    (told_next (is_bad_stone c s) BadStone _ (ap not h)
    (told_next (is_wrong_scope c s) WrongScope _ (ap (λ es. not (list_all (λ v. v.scope == with_cell c.scope k) es)) (one_at c i a g.at)
    ∙ bad_one (a.scope == with_cell c.scope k) (eq-eqb a.scope (with_cell c.scope k) g.scope_is))
    (told_next (is_no_edge_entry c s) NotEdges _ (ap (λ es. not (list_all (is_edge_entry c.base) es)) (one_at c i a g.at)
    ∙ bad_one (is_edge_entry c.base a) g.edges) refl)))

pub move_gives : (c : Context) (k i d : ℕ) → GivesEdges c Full (with_cell c.scope k) d i
    → GivesEdges (context_after c (Move k i)) Semi c.scope (with_cell d k) (length c.earlier)
move_gives c k i d g = given_edges c (Move k i) Semi (with_cell d k)
    (ap (move_entry c k) (one_at c i g.entry g.at) ∙ ap (λ v. Some (edge_entry c Semi (with_cell v k))) g.carrier_is)

-- ---- `cases`

-- each number has the semi entry of its carrier
pub data AreCases (c : Context) : List ℕ → List ℕ → Type 0 where
  no_cases : AreCases c [] []
  one_more : (i d : ℕ) (numbers carriers : List ℕ) → GivesEdges c Semi c.scope d i
      → AreCases c numbers carriers → AreCases c (i ∷ numbers) (d ∷ carriers)

-- some carrier is without cell k
pub data Leaves (k : ℕ) : List ℕ → Type 0 where
  here : (d : ℕ) (carriers : List ℕ) → has d k ≡ false → Leaves k (d ∷ carriers)
  later : (d : ℕ) (carriers : List ℕ) → Leaves k carriers → Leaves k (d ∷ carriers)

pub cases_reasons : (c : Context) (numbers : List ℕ) → reason_against c (Derivation (Cases numbers))
    ≡ told (is_bad_reference c (Derivation (Cases numbers))) BadReference
    (told (is_wrong_scope c (Derivation (Cases numbers))) WrongScope
    (told (is_cell_common c (Derivation (Cases numbers))) CommonCell (told (is_no_edge_entry c (Derivation (Cases numbers))) NotEdges None)))
unfolding reason_against
cases_reasons c numbers = refl

taken_all : (c : Context) (all numbers carriers : List ℕ) → AreCases c numbers carriers
    → list_all (λ i. may_take (Derivation (Cases all)) (entry_at c i)) numbers ≡ true
taken_all c all numbers carriers no_cases = refl
taken_all c all numbers carriers (one_more i d ns ds g h) =
    and_from (may_take (Derivation (Cases all)) (entry_at c i))
    (list_all (λ j. may_take (Derivation (Cases all)) (entry_at c j)) ns)
    (ap (may_take (Derivation (Cases all))) g.at ∙ and_from (same_kind g.entry.kind Semi) true (ap (λ v. same_kind v Semi) g.kind_is) refl)
    (taken_all c all ns ds h)

scopes_all : (c : Context) (numbers carriers : List ℕ) → AreCases c numbers carriers
    → list_all (λ a. a.scope == c.scope) (entries_at c numbers) ≡ true
scopes_all c numbers carriers no_cases = refl
scopes_all c numbers carriers (one_more i d ns ds g h)
    = ap (λ o. list_all (λ a. a.scope == c.scope) (cons_option o (entries_at c ns))) g.at
    ∙ and_from (g.entry.scope == c.scope) (list_all (λ a. a.scope == c.scope) (entries_at c ns))
    (eq-eqb g.entry.scope c.scope g.scope_is) (scopes_all c ns ds h)

edges_all : (c : Context) (numbers carriers : List ℕ) → AreCases c numbers carriers
    → list_all (is_edge_entry c.base) (entries_at c numbers) ≡ true
edges_all c numbers carriers no_cases = refl
edges_all c numbers carriers (one_more i d ns ds g h)
    = ap (λ o. list_all (is_edge_entry c.base) (cons_option o (entries_at c ns))) g.at
    ∙ and_from (is_edge_entry c.base g.entry)
    (list_all (is_edge_entry c.base) (entries_at c ns)) g.edges (edges_all c ns ds h)

left_out : (c : Context) (k : ℕ) (numbers carriers : List ℕ) → AreCases c numbers carriers
    → Leaves k carriers → list_all (λ a. has a.carrier k) (entries_at c numbers) ≡ false
left_out c k numbers carriers no_cases l = elim l [ ]
left_out c k numbers carriers (one_more i d ns ds g h) (here e es f)
    = ap (λ o. list_all (λ a. has a.carrier k) (cons_option o (entries_at c ns))) g.at
    ∙ and_left (has g.entry.carrier k) (list_all (λ a. has a.carrier k) (entries_at c ns))
    (ap (λ v. has v k) g.carrier_is ∙ f)
left_out c k numbers carriers (one_more i d ns ds g h) (later e es f)
    = ap (λ o. list_all (λ a. has a.carrier k) (cons_option o (entries_at c ns))) g.at
    ∙ and_right (has g.entry.carrier k) (list_all (λ a. has a.carrier k) (entries_at c ns))
    (left_out c k ns ds h f)

pub cases_right : (c : Context) (numbers carriers : List ℕ) → AreCases c numbers carriers
    → ((k : ℕ) → Leaves k carriers) → reason_against c (Derivation (Cases numbers)) ≡ None
cases_right c numbers carriers h f =
    let s = Derivation (Cases numbers) in
    cases_reasons c numbers
    ∙ told_next (is_bad_reference c s) BadReference _
    (ap not (taken_all c numbers numbers carriers h))
    (told_next (is_wrong_scope c s) WrongScope _ (ap not (scopes_all c numbers carriers h))
    (told_next (is_cell_common c s) CommonCell _ (none_shared (entries_at c numbers) (λ k. left_out c k numbers carriers h (f k)))
    (told_next (is_no_edge_entry c s) NotEdges _ (ap not (edges_all c numbers carriers h)) refl)))

pub cases_give : (c : Context) (numbers : List ℕ)
    → GivesEdges (context_after c (Cases numbers)) Full c.scope (carriers_of (entries_at c numbers))
    (length c.earlier)
cases_give c numbers = given_edges c (Cases numbers) Full (carriers_of (entries_at c numbers)) refl
