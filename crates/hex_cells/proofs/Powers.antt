-- What a place of the table of single cells holds.
use Rattle.std.proofs.Common.{◌≡◌, ℕ, zero, suc, ◌+◌, ◌^◌, ◌<◌, ◌==◌, true, List, [], ◌∷◌, length}
use Rattle.std.proofs.Common.{get_or, arith, ap, ◌∙◌}
use Rattle.std.proofs.lemmas.Bool.{and_parts, eqb-true}
use Rattle.std.proofs.Math.Pow.{pow-lt}
use Rattle.hex_cells.specs.Sets.{are_powers}

from : (k : ℕ) (ss : List ℕ) (i : ℕ) → are_powers k ss ≡ true → i < length ss
    → get_or ss i 0 ≡ 2 ^ (k + i)
unfolding are_powers
from k [] i e l = absurd (omega arith)
from k (s ∷ ss) zero e l =
    let same : k ≡ k + zero = omega arith in
    eqb-true s (2 ^ k) ((and_parts (s == 2 ^ k) (are_powers (k + 1) ss) e).0) ∙ ap (λ n. 2 ^ n) same
from k (s ∷ ss) (suc i) e l =
    let same : k + 1 + i ≡ k + suc i = omega arith in
    from (k + 1) ss i ((and_parts (s == 2 ^ k) (are_powers (k + 1) ss) e).1) (omega arith)
    ∙ ap (λ n. 2 ^ n) same

-- the power of two of place i
pub power_at : (ss : List ℕ) (i : ℕ) → are_powers 0 ss ≡ true → i < length ss
    → get_or ss i 0 ≡ 2 ^ i
power_at ss i e l = let same : 0 + i ≡ i = omega arith in from 0 ss i e l ∙ ap (λ n. 2 ^ n) same

-- that of a cell is a set
pub power_below : (c : ℕ) → c < 121 → 2 ^ c < 2 ^ 121
power_below c l = pow-lt l
