-- Sets of cells as numbers.
use Rattle.std.specs.Prelude.{ℕ, Bool, true, ◌==◌, ◌&&◌, ◌+◌, ◌^◌, zero, suc, cond}
use Rattle.std.specs.Prelude.{List, [], ◌∷◌, bit_and, bit_or, bit_xor}
use Rattle.std.specs.Int.{bit_at}

-- cell k is in the set whose number is s
unfoldable pub has : ℕ → ℕ → Bool
has s k = bit_at s k == 1

-- how many cells below j are in the set s
unfoldable pub members : ℕ → ℕ → ℕ
members s zero = 0
members s (suc j) = cond (has s j) 1 0 + members s j

-- the number of the set s with cell k too
abbrev pub with_cell : ℕ → ℕ → ℕ
with_cell s k = bit_or s (2 ^ k)

-- the number of the set s without cell k
abbrev pub without_cell : ℕ → ℕ → ℕ
without_cell s k = bit_and s (bit_xor s (2 ^ k))

-- the number of the set s without the cells of the set t
abbrev pub without_cells : ℕ → ℕ → ℕ
without_cells s t = bit_and s (bit_xor s t)

-- the numbers are the powers of two from 2 ^ k on
unfoldable pub are_powers : ℕ → List ℕ → Bool
are_powers k [] = true
are_powers k (s ∷ ss) = s == 2 ^ k && are_powers (k + 1) ss
