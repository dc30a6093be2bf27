-- The board as `showboard` draws it.
use Rattle.std.specs.Prelude.{ℕ, ◌+◌, ◌-◌, ◌*◌, List, [], ◌∷◌, ◌++◌, length, replicate}
use Rattle.std.specs.Prelude.{if◌then◌else◌}
use Rattle.std.specs.Fmt.{decimal}
use Rattle.std.specs.List.{flat_map, range_with_len}
use Rattle.hex_cells.specs.Sets.{has}
use Rattle.hex_board.specs.Positions.{Position}

-- `B`, `W` or a point
abbrev pub mark : Position → ℕ → ℕ
mark now cell = if has now.black cell then 66 else if has now.white cell then 87 else 46

-- two spaces, and for each column a space and its letter
unfoldable pub header : ℕ → List ℕ
header size = 32 ∷ 32 ∷ flat_map (λ column. 32 ∷ (97 + column) ∷ []) (range_with_len 0 size)

-- a number below 100, right in two places
abbrev pub in_two_places : ℕ → List ℕ
in_two_places n = replicate (2 - length (decimal n)) 32 ++ decimal n

-- the marks of row r, each after a space
unfoldable pub marks : Position → ℕ → List ℕ
marks now r = flat_map
    (λ column. 32 ∷ mark now (r * now.size + column) ∷ []) (range_with_len 0 now.size)

-- row r, from 0: r spaces, the row's number, and its marks
unfoldable pub row_line : Position → ℕ → List ℕ
row_line now r = replicate r 32 ++ in_two_places (r + 1) ++ marks now r

-- the header and the rows, a line feed before each
unfoldable pub picture : Position → List ℕ
picture now = 10 ∷ header now.size
    ++ flat_map (λ r. 10 ∷ row_line now r) (range_with_len 0 now.size)
