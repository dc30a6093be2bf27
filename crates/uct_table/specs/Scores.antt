-- The score formulas, in whole numbers.
use Rattle.std.specs.Prelude.{ℕ, zero, suc, ◌+◌, ◌-◌, ◌*◌, ◌/◌, ◌^◌, ◌==◌, Bool, nat_le}
use Rattle.std.specs.Prelude.{if◌then◌else◌}

-- the greatest number up to this one that passes, or 0
unfoldable pub greatest : (ℕ → Bool) → ℕ → ℕ
greatest passes zero = zero
greatest passes (suc n) = if passes (suc n) then suc n else greatest passes n

-- the greatest r with r·r at most x
unfoldable pub isqrt : ℕ → ℕ
isqrt x = greatest (λ r. nat_le (r * r) x) x

-- the greatest b with 2 to the b at most p, if p is above 0
unfoldable pub log2 : ℕ → ℕ
log2 p = greatest (λ b. nat_le (2 ^ b) p) p

-- the level of p visits: their binary logarithm in 256th parts, straight between powers of two
unfoldable pub level_of : ℕ → ℕ
level_of p = if p == 0 then 0 else (let b = log2 p in 256 * b + 256 * (p - 2 ^ b) / 2 ^ b)

-- the share of wins among visits, in 65536th parts
abbrev pub share_of : ℕ → ℕ → ℕ
share_of wins visits = 65536 * wins / visits

-- the mean of v visits with w wins, and of a seen visits with b seen wins that weigh as 64 visits
unfoldable pub mean_of : ℕ → ℕ → ℕ → ℕ → ℕ
mean_of v w a b = if a == 0 then share_of w v else (v * share_of w v + 64 * share_of b a) / (v + 64)

-- what few visits add: the weight c times the root of the parent's level by the child's visits
unfoldable pub bonus_of : ℕ → ℕ → ℕ → ℕ
bonus_of p v c = c * isqrt (level_of p * 2 ^ 24 / v) / 256

-- the score of a child with v visits, w wins, a seen visits and b seen wins, below p visits
abbrev pub score_of : ℕ → ℕ → ℕ → ℕ → ℕ → ℕ → ℕ
score_of p v w a b c = mean_of v w a b + bonus_of p v c
