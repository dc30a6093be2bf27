-- Whether all cells of a `put` are empty.
use Rattle.std.proofs.Common.{◌≡◌, ℕ, ◌<◌, ◌^◌, ◌&&◌, ◌↔◌, not, IsTrue, true, false, Bool, refl}
use Rattle.std.proofs.Common.{sym, ◌∙◌, ap, arith, nat_lt}
use Rattle.std.specs.List.{list_any}
use Rattle.std.proofs.lemmas.Bool.{ltb-true, ltb-false, and_parts, and_from, false_from_ne_true}
use Rattle.std.proofs.lemmas.Bool.{true_from_ne_false, false≢true, true≢false}
use Rattle.hex_cells.specs.Sets.{has}
use Rattle.hex_cells.proofs.Bits.{has_above}
use Rattle.hex_cells.specs.declared.board_size.TheConstants.{MOST_CELLS}
use Rattle.hex_board.proofs.Search.{any_out, any_in}
use Rattle.hex_board.specs.Positions.{Position, is_empty_at}
use Rattle.win_cert.specs.Statements.{cell_numbers}

-- whether a cell of the set is not empty
abbrev pub is_stone_in : Position → ℕ → Bool
is_stone_in p cells = list_any (λ k. has cells k && not (is_empty_at p k)) cell_numbers

-- some cell of the set is not empty, or all are
pub none_in : (p : Position) (cells k : ℕ) → (has cells k ≡ true → k < MOST_CELLS)
    → is_stone_in p cells ≡ false → has cells k ≡ true → is_empty_at p k ≡ true
none_in p cells k small h t = true_from_ne_false (is_empty_at p k) (λ f. true≢false (
    sym (any_in (λ j. has cells j && not (is_empty_at p j)) 0 MOST_CELLS k (omega arith) (small t)
    (and_from (has cells k) (not (is_empty_at p k)) t (ap not f))) ∙ h))

pub bad_stone_is : (p : Position) (cells : ℕ) (inside : Bool)
    → ((k : ℕ) → has cells k ≡ true → k < MOST_CELLS)
    → (IsTrue inside ↔ ((k : ℕ) → has cells k ≡ true → is_empty_at p k ≡ true))
    → is_stone_in p cells ≡ not inside
bad_stone_is p cells true small h = false_from_ne_true (is_stone_in p cells) (λ t.
    let w = any_out (λ k. has cells k && not (is_empty_at p k)) 0 MOST_CELLS t in
    let q = and_parts (has cells w.0) (not (is_empty_at p w.0)) w.2 in
    false≢true (sym (ap not (h.0 refl w.0 q.0)) ∙ q.1))
bad_stone_is p cells false small h = true_from_ne_false (is_stone_in p cells) (λ f.
    false≢true (h.1 (λ k t. none_in p cells k (small k) f t)))

pub inside_of : (p : Position) (cells empties : ℕ) (inside : Bool)
    → ((k : ℕ) → has empties k ≡ is_empty_at p k)
    → (IsTrue inside ↔ ((k : ℕ) → has cells k ≡ true → has empties k ≡ true))
    → (IsTrue inside ↔ ((k : ℕ) → has cells k ≡ true → is_empty_at p k ≡ true))
inside_of p cells empties inside e h
    = (λ t k q. sym (e k) ∙ h.0 t k q, λ f. h.1 (λ k q. e k ∙ f k q))

pub small_set : (cells : ℕ) → cells < 2 ^ MOST_CELLS → (k : ℕ) → has cells k ≡ true
    → k < MOST_CELLS
small_set cells l k h = ltb-true k MOST_CELLS (true_from_ne_false (nat_lt k MOST_CELLS) (λ f.
    false≢true (sym (has_above cells MOST_CELLS k l (ltb-false k MOST_CELLS f)) ∙ h)))
