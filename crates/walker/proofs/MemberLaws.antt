-- How many numbers of a set lie below another.
use Rattle.std.proofs.Common.{◌≡◌, ℕ, zero, suc, ◌+◌, ◌/◌, ◌%◌, ◌^◌, ◌≤◌, Bool, true, false, cond}
use Rattle.std.proofs.Common.{List, [], ◌∷◌, ◌++◌, length, get_or, refl, sym, ap, ◌∙◌, arith}
use Rattle.hex_cells.specs.Sets.{has as has_cell, members}
use Rattle.hex_cells.proofs.Bits.{has_mod, has_shr}
use Rattle.hex_cells.proofs.Counts.{members_none, members_more}

pub push-last : (l : List ℕ) (c : ℕ) → get_or (l ++ c ∷ []) (length l) 0 ≡ c
push-last [] c = refl
push-last (x ∷ l) c = push-last l c

members-step : (s j : ℕ) → members s (j + 1) ≡ members s j + cond (has_cell s j) 1 0
members-step s j = omega (arith, members_more s j)

pub in-more : (s j : ℕ) → has_cell s j ≡ true → members s (j + 1) ≡ members s j + 1
in-more s j t = members-step s j ∙ ap (λ (b : Bool). members s j + cond b 1 0) t

pub out-more : (s j : ℕ) → has_cell s j ≡ false → members s (j + 1) ≡ members s j
out-more s j t = members-step s j ∙ (ap (λ (b : Bool). members s j + cond b 1 0) t ∙ (omega arith))

one-more : (k : ℕ) → suc k ≡ k + 1
one-more k = omega arith

-- the lowest n cells of a set, below any of them
pub members-low : (s n k : ℕ) → k ≤ n → members (s % 2 ^ n) k ≡ members s k
members-low s n zero l = members_none (s % 2 ^ n) ∙ sym (members_none s)
members-low s n (suc k) l =
    let rest : members (s % 2 ^ n) k ≡ members s k = members-low s n k (omega arith) in
    ap (members (s % 2 ^ n)) (one-more k) ∙ (members_more (s % 2 ^ n) k
    ∙ (ap (λ (b : Bool). cond b 1 0 + members (s % 2 ^ n) k) (has_mod s n k (omega arith)) ∙ (ap (λ (m : ℕ). cond (has_cell s k) 1 0 + m) rest
    ∙ (sym (members_more s k) ∙ sym (ap (members s) (one-more k))))))

-- the cells of a set from n on
pub members-high : (s n k : ℕ) → members s (n + k) ≡ members s n + members (s / 2 ^ n) k
members-high s n zero = omega (arith, ap (members s) (plus-none n), members_none (s / 2 ^ n))
  where
    plus-none : (n : ℕ) → n + 0 ≡ n
    plus-none n = omega arith
members-high s n (suc k) =
    let bit : has_cell (s / 2 ^ n) k ≡ has_cell s (n + k) = has_shr s n k
    ∙ ap (has_cell s) (turned k n) in
    let more : members (s / 2 ^ n) (suc k) ≡ cond (has_cell s (n + k)) 1 0 + members (s / 2 ^ n) k
    = ap (members (s / 2 ^ n)) (one-more k)
    ∙ (members_more (s / 2 ^ n) k ∙ ap (λ (b : Bool). cond b 1 0 + members (s / 2 ^ n) k) bit) in
    let up : members s (n + suc k) ≡ cond (has_cell s (n + k)) 1 0 + members s (n + k)
    = ap (members s) (shift n k) ∙ members_more s (n + k) in
    omega (arith, up, more, members-high s n k)
  where
    turned : (k n : ℕ) → k + n ≡ n + k
    turned k n = omega arith

    shift : (n k : ℕ) → n + suc k ≡ n + k + 1
    shift n k = omega arith
