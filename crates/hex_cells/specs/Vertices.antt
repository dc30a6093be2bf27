-- Vertices: the names of cells in text.
use Rattle.std.specs.Prelude.{◌≡◌, ℕ, ◌+◌, ◌*◌, ◌/◌, ◌%◌, ◌<◌, List, ◌∷◌, Option, map}
use Rattle.std.specs.Fmt.{decimal}
use Rattle.std.specs.List.{filter, find, range_with_len}
use Rattle.std.specs.Str.{bytes_eq, str_to_ascii_lowercase}
use Rattle.hex_cells.specs.Sets.{has}

-- the vertex of cell k on the board of size n: its column's letter, `a` (97) for the first, and its
-- row's number, 1 for the first
abbrev pub vertex_of : ℕ → ℕ → List ℕ
vertex_of n k = (97 + k % n) ∷ decimal (k / n + 1)

-- the vertices of the set's cells on the board of size n, in rising order of cells
abbrev pub vertices_of : ℕ → ℕ → List (List ℕ)
vertices_of n s = map (vertex_of n) (filter (has s) (range_with_len 0 (n * n)))

-- the text, its letter in either case, is the letter of column c and the number of row r, both from
-- 0: `a` and 1 for the first
abbrev pub NamesPlace : List ℕ → ℕ → ℕ → Type 0
NamesPlace text c r = str_to_ascii_lowercase text ≡ (97 + c) ∷ decimal (r + 1)

-- the text names no place of a column with a letter and a row with a number up to 99
abbrev pub NamesNoPlace : List ℕ → Type 0
NamesNoPlace text = (c r : ℕ) → c < 26 → r < 99 → ¬ (NamesPlace text c r)

-- the text, its letter in either case, is the vertex of cell k of the board of size n
abbrev pub IsVertex : ℕ → List ℕ → ℕ → Type 0
IsVertex n text k = (k < n * n) × (str_to_ascii_lowercase text ≡ vertex_of n k)

-- the cell of the board of size n whose vertex the text is, if there is one
unfoldable pub vertex_cell : ℕ → List ℕ → Option ℕ
vertex_cell n text =
    find (λ k. bytes_eq (str_to_ascii_lowercase text) (vertex_of n k)) (range_with_len 0 (n * n))
