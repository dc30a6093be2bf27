-- The bits of numbers below 16. No clause of a public call cites this.
use Rattle.std.specs.Prelude.{ℕ, List, [], ◌∷◌, ◌++◌, take}
use Rattle.std.specs.List.{filter, range_with_len}
use Rattle.hex_cells.specs.Sets.{has}

-- the bits of a number below 16 that are set, in rising order
abbrev pub bits_of : ℕ → List ℕ
bits_of n = filter (has n) (range_with_len 0 4)

-- and then 0 up to four
abbrev pub padded_bits : ℕ → List ℕ
padded_bits n = take 4 (bits_of n ++ 0 ∷ 0 ∷ 0 ∷ 0 ∷ [])
