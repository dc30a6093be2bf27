-- The bits of a half of a block.
use Rattle.std.proofs.Common.{◌≡◌, ℕ, ◌+◌, ◌-◌, ◌*◌, ◌%◌, ◌^◌, ◌<◌, ◌≤◌, Bool, bit_and, bit_xor}
use Rattle.std.proofs.Common.{List, [], ◌∷◌, ◌++◌, length, sym, ap, ◌∙◌, arith, ⊎_elim}
use Rattle.std.specs.Prelude.{count_ones}
use Rattle.std.specs.Int.{trailing_zeros, w64}
use Rattle.std.proofs.lemmas.Bool.{cases_lt}
use Rattle.hex_cells.proofs.Bits.{has_none}
use Rattle.hex_cells.proofs.HalfBits.{least_in, ranked_in, turned_out}
use Rattle.arena_rule.specs.Adds.{CountAdd}
use Rattle.walker.specs.Climbs.{half_adds}
use Rattle.walker.proofs.SeenAdds.{adds-none, adds-next}

-- no add is left in a half without a cell that is left
pub none-in : (first : ℕ) (won : Bool) (cells left : ℕ) → left ≡ 0
    → half_adds first won cells left ≡ []
none-in first won cells left e = ap (half_adds first won cells) e
    ∙ adds-none first won cells 0 (λ i. has_none i)

-- the next add of a half is at the place of the least cell that is left
pub next-in : (first : ℕ) (won : Bool) (cells left : ℕ) → 0 < left → left < 2 ^ 64
    → half_adds first won cells left
    ≡ record { word = first + 4 * count_ones (bit_and cells (1 * 2 ^ trailing_zeros w64 left % 2 ^ 64 - 1)); won = won }
    ∷ half_adds first won cells (bit_xor left (1 * 2 ^ trailing_zeros w64 left % 2 ^ 64))
next-in first won cells left some small =
    let t = least_in left some small in
    let c : ℕ = trailing_zeros w64 left in
    adds-next first won cells left (bit_xor left (1 * 2 ^ c % 2 ^ 64)) c t.0 t.1 t.2
    (turned_out left c t.0 t.1)
    ∙ ap (λ (m : ℕ). record { word = first + 4 * m; won = won } ∷ half_adds first won cells (bit_xor left (1 * 2 ^ c % 2 ^ 64))) (sym (ranked_in cells c t.0))

-- so a half is done exactly if no cell is left in it
pub done-in : (first : ℕ) (won : Bool) (cells left : ℕ) (after : List CountAdd) → left < 2 ^ 64
    → (half_adds first won cells left ++ after) ≡ [] → left ≡ 0
done-in first won cells left after small e = ⊎_elim
    (λ (some : 0 < left). absurd (none (sym (ap (λ (xs : List CountAdd). xs ++ after) (next-in first won cells left some small)) ∙ e)))
    (λ (no : left ≤ 0). omega arith)
    (cases_lt 0 left)
  where
    none : {x : CountAdd} {xs : List CountAdd} → (x ∷ xs) ≡ [] → ⊥
    none e = let n = ap length e in omega (arith, n)
