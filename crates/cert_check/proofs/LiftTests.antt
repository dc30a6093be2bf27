-- What the checker's tests of a `lift` say.
use Rattle.std.proofs.Common.{◌≡◌, ℕ, ◌*◌, ◌<◌, ◌==◌, ◌||◌, ◌↔◌, IsTrue, true, false, Bool, Option}
use Rattle.std.proofs.Common.{Some, None, [], bit_or, cond, refl, sym, ◌∙◌, ap, inl, inr, arith}
use Rattle.std.specs.List.{cons_option, find}
use Rattle.std.specs.Option.{MatchOption, option_map}
use Rattle.std.proofs.lemmas.Bool.{both_ways, eq-eqb, eqb-true, false_from_ne_true}
use Rattle.std.proofs.lemmas.Bool.{ne_eqb, or_left}
use Rattle.hex_cells.specs.Sets.{has}
use Rattle.hex_cells.proofs.Bits.{has_or, same_set}
use Rattle.hex_cells.proofs.Ranges.{find_first, find_none}
use Rattle.hex_board.specs.Elements.{PlayerBoard, HasCell, edge_element}
use Rattle.hex_board.specs.Joined.{cells_of}
use Rattle.hex_board.specs.Places.{at_cell, is_member}
use Rattle.hex_board.specs.Positions.{Within, stones_of}
use Rattle.hex_board.proofs.Placed.{empty_on}
use Rattle.hex_board.proofs.Places.{cell_in, cell_out}
use Rattle.conn_store.proofs.Ways.{own_cell}
use Rattle.win_cert.specs.Entries.{Context, element_on, elements_at, end_for}
use Rattle.win_cert.specs.Entries.{entry_at, gives, lift_between, lift_entry}
use Rattle.win_cert.specs.Scopes.{elements_in, is_part}
use Rattle.win_cert.specs.declared.lines.End.{End}
use Rattle.win_cert.specs.declared.lines.End.TheVariants.{At, First, Second}
use Rattle.win_cert.specs.declared.lines.Line.TheVariants.{Lift}
use Rattle.cert_check.specs.Keeping.{entry_of}
use Rattle.cert_check.specs.declared.given.Given.{Given}

-- ---- a part of a scope

joined_set : (s t k : ℕ) → (has s k ≡ true → has t k ≡ true) → (has s k || has t k) ≡ has t k
joined_set s t k f = joined (has s k) (has t k) f
  where
    joined : (a b : Bool) → (a ≡ true → b ≡ true) → (a || b) ≡ b
    joined true b f = sym (f refl)
    joined false b f = refl

whole : (s t : ℕ) → ((k : ℕ) → has s k ≡ true → has t k ≡ true) → bit_or s t ≡ t
whole s t f = same_set (bit_or s t) t (λ k. has_or s t k ∙ joined_set s t k (f k))

pub part_test : (s t : ℕ) (inside : Bool)
    → (IsTrue inside ↔ ((k : ℕ) → has s k ≡ true → has t k ≡ true)) → inside ≡ is_part s t
part_test s t true h = sym (eq-eqb (bit_or s t) t (whole s t (h.0 refl)))
part_test s t false h = sym (false_from_ne_true (is_part s t) (λ q. both_ways false refl (h.1 (λ k i.
    sym (ap (λ v. has v k) (eqb-true (bit_or s t) t q)) ∙ has_or s t k
    ∙ or_left (has s k) (has t k) i))))

-- ---- the least cell of an element

-- a cell of an element lies on the board
pub cell_there : (e : PlayerBoard) (x k : ℕ) → Within e.board.size (stones_of e.board e.player)
    → HasCell e x k → k < e.board.size * e.board.size
cell_there e x k on h = elim (own_cell e x k on h) [
  | inl f ↦ empty_on e.board k f
  | inr o ↦ on k o
]

abbrev pub found : PlayerBoard → ℕ → Option ℕ
found e x = find (λ k. is_member e x (at_cell k)) (cells_of e.board.size)

-- it is the one that is found in the set of the element's cells
pub least_found : (e : PlayerBoard) (x cells : ℕ) (o : Option ℕ)
    → Within e.board.size (stones_of e.board e.player)
    → ((k : ℕ) → IsTrue (has cells k) ↔ HasCell e x k)
    → MatchOption o ((k : ℕ) → has cells k ≡ false)
    (λ c. (has cells c ≡ true) × ((k : ℕ) → k < c → has cells k ≡ false))
    → found e x ≡ o
least_found e x cells None on all none
    = find_none (λ k. is_member e x (at_cell k)) 0 (e.board.size * e.board.size)
    (λ j _ _. false_from_ne_true (is_member e x (at_cell j)) (λ t. both_ways (has cells j) (none j) ((all j).1 (cell_out e x j t))))
least_found e x cells (Some k) on all some
    = find_first (λ j. is_member e x (at_cell j)) 0 (e.board.size * e.board.size) k (omega arith)
    (omega (arith, cell_there e x k on ((all k).0 some.0)))
    (cell_in e x k ((all k).0 some.0))
    (λ j _ l. false_from_ne_true (is_member e x (at_cell j)) (λ t. both_ways (has cells j) (some.1 j l) ((all j).1 (cell_out e x j t))))

-- the end that names an element that holds no edge
pub end_by_cell : {p q : ℕ} {o : Option ℕ} (e : PlayerBoard) (x : ℕ) → p ≡ edge_element e false
    → q ≡ edge_element e true → (x ≡ p → ⊥) → (x ≡ q → ⊥) → found e x ≡ o
    → option_map At o ≡ end_for e x
end_by_cell e x first second n m h =
    let least : Option End = option_map At (found e x) in
    let next : Option End = cond (x == edge_element e true) (Some Second) least in
    sym (ap (λ b. cond b (Some First) next) (ne_eqb x (edge_element e false) (λ z. n (z ∙ sym first)))
    ∙ ap (λ b. cond b (Some Second) least) (ne_eqb x (edge_element e true) (λ z. m (z ∙ sym second)))
    ∙ ap (option_map At) h)

-- ---- the entry that is named, and what is given

pub named_at : {q : Option Given} {a : Given} (c : Context) (i : ℕ)
    → option_map entry_of q ≡ entry_at c i → q ≡ Some a → entry_at c i ≡ Some (entry_of a)
named_at c i is found = sym is ∙ ap (option_map entry_of) found

pub missing_at : {q : Option Given} (c : Context) (i : ℕ)
    → option_map entry_of q ≡ entry_at c i → q ≡ None → entry_at c i ≡ None
missing_at c i is none = sym is ∙ ap (option_map entry_of) none

-- the element of the scope's board that holds one of the entry's, as the checker finds it
pub held_there : {e : PlayerBoard} {o p : Option ℕ} (c : Context) (s x : ℕ)
    → e ≡ elements_in c.base s → o ≡ element_on (elements_at c) e x → o ≡ p
    → element_on (elements_at c) (elements_in c.base s) x ≡ p
held_there c s x is value found = ap (λ b. element_on (elements_at c) b x) (sym is) ∙ sym value
    ∙ found

pub lift_gives : {o p : Option ℕ} (c : Context) (i : ℕ) (a : Given)
    → entry_at c i ≡ Some (entry_of a)
    → element_on (elements_at c) (elements_in c.base a.scope) a.x ≡ o
    → element_on (elements_at c) (elements_in c.base a.scope) a.y ≡ p
    → gives c (Lift i) ≡ lift_between c (entry_of a) o p
lift_gives {o = o} c i a named x y = ap (λ e. lift_entry c (cons_option e [])) named
    ∙ ap (λ v. lift_between c (entry_of a) v (element_on (elements_at c) (elements_in c.base a.scope) a.y)) x
    ∙ ap (λ v. lift_between c (entry_of a) o v) y
