-- The size and the start stones that a record's root names.
use Rattle.std.specs.Prelude.{◌≡◌, ℕ, Bool, true, false, ◌==◌, ◌||◌, List, [], ◌∷◌, ◌++◌, Option}
use Rattle.std.specs.Prelude.{Some, None, MatchOption, is_none, map, find, codes}
use Rattle.std.specs.Fmt.{decimal}
use Rattle.std.specs.List.{list_any, range_with_len}
use Rattle.std.specs.Option.{option_map_or}
use Rattle.std.specs.Str.{bytes_eq}
use Rattle.hex_cells.specs.Sets.{with_cell}
use Rattle.hex_cells.specs.Vertices.{vertex_cell}
use Rattle.hex_cells.specs.declared.board_size.TheConstants.Size.{MAX}
use Rattle.hex_board.specs.Positions.{Position}
use Rattle.sgf_tree.specs.declared.lists.Node.{Node}
use Rattle.sgf_game.specs.Values.{has_named, values_named, first_named}

-- the first GM is `11`, the number of Hex
abbrev pub is_hex : Node → Bool
is_hex root =
    option_map_or (λ value. bytes_eq value (codes "11")) (first_named (codes "GM") root) false

-- the text is the number n, or twice the number n with `:` between
abbrev pub is_size : List ℕ → ℕ → Bool
is_size text n = bytes_eq text (decimal n) || bytes_eq text (decimal n ++ 58 ∷ decimal n)

-- the size from 1 to 11 that a text names
unfoldable pub size_named : List ℕ → Option ℕ
size_named text = find (is_size text) (range_with_len 1 MAX)

-- the size that the first SZ names, and 11 without SZ
abbrev pub size_of : Node → Option ℕ
size_of root = option_map_or size_named (first_named (codes "SZ") root) (Some MAX)

-- the cells that the values under this name are vertices of
abbrev pub cells_named : ℕ → List ℕ → Node → List (Option ℕ)
cells_named n name node = map (vertex_cell n) (values_named name node)

-- the cells of the root's AB, and then those of its AW
abbrev pub set_up_cells : ℕ → Node → List (Option ℕ)
set_up_cells n root = cells_named n (codes "AB") root ++ cells_named n (codes "AW") root

abbrev pub is_cell : ℕ → Option ℕ → Bool
is_cell k None = false
is_cell k (Some cell) = cell == k

abbrev pub is_in : List (Option ℕ) → Option ℕ → Bool
is_in cells None = false
is_in cells (Some k) = list_any (is_cell k) cells

-- a cell stands in the list twice
abbrev pub has_twice : List (Option ℕ) → Bool
has_twice [] = false
has_twice (cell ∷ cells) = is_in cells cell || has_twice cells

-- the node adds stones or takes them away
abbrev pub changes : Node → Bool
changes node =
    has_named (codes "AB") node || has_named (codes "AW") node || has_named (codes "AE") node

-- a node behind the root adds stones or takes them away, or the root takes some away
abbrev pub is_changed_late : Node → List Node → Bool
is_changed_late root behind = list_any changes behind || has_named (codes "AE") root

-- a cell is none of the board, or stands twice
abbrev pub are_misplaced : List (Option ℕ) → Bool
are_misplaced cells = list_any is_none cells || has_twice cells

-- BadSetup: a node behind the root has AB, AW or AE, or the root has AE; or a value of its AB or AW
-- is no vertex, or two of them name one cell
abbrev pub is_bad_setup : ℕ → Node → List Node → Bool
is_bad_setup n root behind = is_changed_late root behind || are_misplaced (set_up_cells n root)

-- the set s with these cells too
abbrev pub with_cells : ℕ → List (Option ℕ) → ℕ
with_cells s [] = s
with_cells s (None ∷ cells) = with_cells s cells
with_cells s (Some k ∷ cells) = with_cells (with_cell s k) cells

-- the start board
abbrev pub start_of : ℕ → Node → Position
start_of n root = record {
  size = n;
  black = with_cells 0 (cells_named n (codes "AB") root);
  white = with_cells 0 (cells_named n (codes "AW") root);
}

-- the start board of a line, if its set-up is not refused; none, if it is
abbrev pub IsStartOf : ℕ → Node → List Node → Option Position → Type 0
IsStartOf n root behind start = MatchOption start (is_bad_setup n root behind ≡ true)
    (λ board. (is_bad_setup n root behind ≡ false) × (board ≡ start_of n root))
