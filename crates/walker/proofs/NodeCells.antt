-- The cells of a set by rising numbers.
use Rattle.std.proofs.Common.{◌≡◌, ℕ, ◌*◌, ◌+◌, ◌-◌, ◌<◌, ◌≤◌, true, false, [], ◌∷◌, sym, ap, ◌∙◌}
use Rattle.std.proofs.Common.{◌^◌, arith, ⊎_elim}
use Rattle.std.specs.Prelude.{◌&&◌, ◌==◌, not}
use Rattle.std.specs.List.{filter, range_with_len}
use Rattle.std.proofs.lemmas.Bool.{cases_lt, false_from_ne_true}
use Rattle.std.proofs.Math.Nat.{mul-le-mul}
use Rattle.hex_cells.specs.Sets.{has as has_cell}
use Rattle.hex_cells.proofs.Bits.{has_above}
use Rattle.hex_board.specs.Positions.{Position, is_empty_at}
use Rattle.hex_board.proofs.Placed.{empty_on}
use Rattle.play_out.specs.Fills.{empties_of}
use Rattle.tree_words.proofs.Boards.EmptyLaws.{empties-listed}
use Rattle.walker.specs.NewNodes.{cells_by_number}
use Rattle.hex_cells.proofs.Filters.{least_pass, longer_pass, none_pass}
use Rattle.walker.proofs.SeenAdds.{none-cons}

-- no cell
pub by-number-none : (set : ℕ) → ((k : ℕ) → has_cell set k ≡ false) → cells_by_number set ≡ []
unfolding cells_by_number
by-number-none set none = none_pass (has_cell set) 0 121 (λ i l. none i)

-- if none is listed, the set has no cell
pub by-number-empty : (set : ℕ) → set < 2 ^ 121 → cells_by_number set ≡ []
    → (k : ℕ) → has_cell set k ≡ false
unfolding cells_by_number
by-number-empty set small e k = ⊎_elim
    (λ (l : k < 121). false_from_ne_true (has_cell set k) (λ t. absurd (none-cons (has_cell set) 0 121 k (omega arith) (omega (arith, l)) t e)))
    (λ (l : 121 ≤ k). has_above set 121 k small l)
    (cases_lt k 121)

-- the least cell is the first
pub by-number-least : (set rest c : ℕ) → c < 121 → has_cell set c ≡ true
    → ((k : ℕ) → k < c → has_cell set k ≡ false)
    → ((k : ℕ) → has_cell rest k ≡ (has_cell set k && not (k == c)))
    → cells_by_number set ≡ c ∷ cells_by_number rest
unfolding cells_by_number
by-number-least set rest c l t below out = least_pass (has_cell set) (has_cell rest) 0 121 c
    (omega arith) (omega arith) t below out

-- the empty cells of a board
pub by-number-empties : (set : ℕ) (p : Position) → p.size ≤ 11
    → ((k : ℕ) → has_cell set k ≡ is_empty_at p k) → cells_by_number set ≡ empties_of p
unfolding cells_by_number
by-number-empties set p small e =
    let n : ℕ = p.size * p.size in
    let most : n ≤ 11 * 11 = mul-le-mul small small in
    let all : n + (121 - n) ≡ 121 = omega (arith, most) in
    ap (λ (z : ℕ). filter (has_cell set) (range_with_len 0 z)) (sym all)
    ∙ (longer_pass (has_cell set) 0 n (121 - n) (λ i l. false_from_ne_true (has_cell set i)
    (λ t. let on : i < n = empty_on p i (sym (e i) ∙ t) in omega (arith, l, on)))
    ∙ empties-listed set p e)
