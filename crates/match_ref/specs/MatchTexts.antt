-- The text of a match: a line for each game, with its record if records are wanted, and then how
-- many games the sides won.
use Rattle.std.specs.Prelude.{ℕ, ◌+◌, Bool, true, false, not, if◌then◌else◌}
use Rattle.std.specs.Prelude.{List, [], ◌∷◌, ◌++◌, length, codes, Option, Some, None}
use Rattle.std.specs.Fmt.{decimal}
use Rattle.hex_cells.specs.Colours.{colour_word}
use Rattle.hex_cells.specs.declared.colours.Colour.{Colour}
use Rattle.sgf_game.specs.Record.{record_of}
use Rattle.sgf_tree.specs.Printing.{trees_print}
use Rattle.match_ref.specs.Matches.{game_with, is_side_a}
use Rattle.match_ref.specs.declared.played.Played.{Played}
use Rattle.match_ref.specs.declared.settings.Match.{Match}
use Rattle.match_ref.specs.declared.words.MatchWords.{MatchWords}

abbrev pub side_word : Bool → List ℕ
side_word is_a = if is_a then codes "a" else codes "b"

-- the side and the colour that won game i, with a space at each end
abbrev pub winner_words : ℕ → Option Colour → List ℕ
winner_words i None = codes " none none "
winner_words i (Some player) =
    codes " " ++ side_word (is_side_a i player) ++ codes " " ++ colour_word player ++ codes " "

-- the number of the game, who won it, and how many steps it has
abbrev pub game_line : ℕ → Played → List ℕ
game_line i p = decimal i ++ winner_words i p.winner ++ decimal (length p.steps) ++ codes "\n"

-- the record of the game on the empty board with these steps, as a line
abbrev pub record_line : Match → Played → List ℕ
record_line m p = trees_print (record_of (game_with m p.steps)) ++ codes "\n"

abbrev pub game_text : MatchWords → ℕ → Played → List ℕ
game_text w i p = game_line i p ++ (if w.records then record_line w.setup p else [])

-- the texts of the games from number i on
abbrev pub games_text : MatchWords → ℕ → List Played → List ℕ
games_text w i [] = []
games_text w i (p ∷ ps) = game_text w i p ++ games_text w (i + 1) ps

-- whether this side won game i
abbrev pub has_won : Bool → ℕ → Option Colour → Bool
has_won is_a i None = false
has_won is_a i (Some player) = if is_a then is_side_a i player else not (is_side_a i player)

-- how many of the games from number i on this side won
abbrev pub wins_of : Bool → ℕ → List Played → ℕ
wins_of is_a i [] = 0
wins_of is_a i (p ∷ ps) = (if has_won is_a i p.winner then 1 else 0) + wins_of is_a (i + 1) ps

-- the text of the match
abbrev pub match_text : MatchWords → List Played → List ℕ
match_text w games = games_text w 0 games
    ++ (codes "a " ++ decimal (wins_of true 0 games) ++ codes " b "
    ++ decimal (wins_of false 0 games) ++ codes "\n")
