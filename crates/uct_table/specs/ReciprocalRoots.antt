-- What is kept of the table of reciprocal roots. No clause of a public call cites this.
use Rattle.std.specs.Prelude.{ℕ, ◌+◌, ◌*◌, ◌^◌, ◌==◌, ◌&&◌, ◌||◌, nat_lt, nat_le, Bool, true, List}
use Rattle.std.specs.Prelude.{[], ◌∷◌}

-- r is above the reciprocal root of v visits, in 2^20th parts, and no more than 1 above a whole
-- one; of no visit nothing is asked
abbrev pub is_above_root : ℕ → ℕ → Bool
is_above_root v r = v == 0 || (nat_lt (2 ^ 40) (r * r * v) && nat_le r (2 ^ 20 + 1))

-- the numbers are above the reciprocal roots of v visits, of one visit more, and so on
unfoldable pub are_above_roots : ℕ → List ℕ → Bool
are_above_roots v [] = true
are_above_roots v (r ∷ rs) = is_above_root v r && are_above_roots (v + 1) rs
