-- How arguments are spelled.
use Rattle.std.specs.Prelude.{ℕ, ◌*◌, ◌<◌, ◌==◌, ◌&&◌, ◌||◌, not, Bool, false, List, [], ◌∷◌}
use Rattle.std.specs.Prelude.{Option, Some, None, codes, if◌then◌else◌}
use Rattle.std.specs.Option.{option_and_then, option_map}
use Rattle.std.specs.Str.{str_eq_ignore_ascii_case}
use Rattle.std.specs.Char.{is_ascii_alphabetic}
use Rattle.htp_line.specs.Reading.{number_of, is_digit}
use Rattle.hex_cells.specs.Vertices.{vertex_cell}
use Rattle.hex_cells.specs.declared.colours.Colour.{Colour}
use Rattle.hex_cells.specs.declared.colours.Colour.TheVariants.{Black, White}
use Rattle.hex_game.specs.declared.moves.Move.TheVariants.{Stone, Swap}
use Rattle.hex_engine.specs.declared.forms.MoveWord.{MoveWord}
use Rattle.hex_engine.specs.declared.forms.MoveWord.TheVariants.{Formless, OffBoard, Says}

-- the word is one of these two, each letter in either case
abbrev pub is_either : List ℕ → List ℕ → List ℕ → Bool
is_either letter name word =
    str_eq_ignore_ascii_case word letter || str_eq_ignore_ascii_case word name

-- the player that the word names: `b` or `black`, `w` or `white`
abbrev pub colour_of : List ℕ → Option Colour
colour_of word =
    if is_either (codes "b") (codes "black") word then Some Black
    else if is_either (codes "w") (codes "white") word then Some White else None

-- a digit but 0
abbrev pub is_first_digit_of : ℕ → Bool
is_first_digit_of b = is_digit b && not (b == 48)

-- one or two digits, of which the first is not 0
abbrev pub is_row : List ℕ → Bool
is_row [] = false
is_row (d ∷ []) = is_first_digit_of d
is_row (d ∷ e ∷ []) = is_first_digit_of d && is_digit e
is_row (d ∷ e ∷ f ∷ more) = false

-- a letter, in either case, and a row, on the board or off it
abbrev pub is_vertex : List ℕ → Bool
is_vertex [] = false
is_vertex (letter ∷ row) = is_ascii_alphabetic letter && is_row row

-- what a vertex says, whether it lies on the board or not
abbrev pub on_board : Option ℕ → MoveWord
on_board None = OffBoard
on_board (Some cell) = Says (Stone cell)

-- what a move's word says on a board of that size
abbrev pub move_word_of : ℕ → List ℕ → MoveWord
move_word_of size word =
    if str_eq_ignore_ascii_case word (codes "swap-pieces") then Says Swap
    else if is_vertex word then on_board (vertex_cell size word)
    else Formless

-- a vertex that a word says lies on a board of that size
abbrev pub IsSaidOf : ℕ → MoveWord → Type 0
IsSaidOf size Formless = Unit {0}
IsSaidOf size OffBoard = Unit {0}
IsSaidOf size (Says (Stone cell)) = cell < size * size
IsSaidOf size (Says Swap) = Unit {0}

-- a number, which stands for columns and rows, or two
abbrev pub sizes_of : List (List ℕ) → Option (ℕ × ℕ)
sizes_of [] = None
sizes_of (a ∷ []) = option_map (λ n. (n, n)) (number_of a)
sizes_of (a ∷ b ∷ []) =
    option_and_then (λ n. option_map (λ m. (n, m)) (number_of b)) (number_of a)
sizes_of (a ∷ b ∷ c ∷ more) = None
