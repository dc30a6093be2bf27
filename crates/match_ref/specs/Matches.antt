-- Match games: what is played in a match between two sides.
use Rattle.std.specs.Prelude.{◌≡◌, ℕ, ◌+◌, ◌-◌, ◌*◌, ◌/◌, ◌%◌, ◌^◌, ◌<◌, ◌≤◌, ◌==◌, Bool, true}
use Rattle.std.specs.Prelude.{false, ◌||◌, List, [], ◌∷◌, ◌++◌, All, length, if◌then◌else◌, nat_lt}
use Rattle.std.specs.Prelude.{Option, Some, None}
use Rattle.std.specs.List.{slice_get}
use Rattle.hex_cells.specs.Colours.{other_of}
use Rattle.hex_cells.specs.declared.colours.Colour.{Colour}
use Rattle.hex_cells.specs.declared.colours.Colour.TheVariants.{Black, White}
use Rattle.hex_board.specs.Joined.{winner_of}
use Rattle.hex_board.specs.Positions.{Position, empty_board}
use Rattle.hex_game.specs.Games.{GameData, board_of, with_step}
use Rattle.hex_game.specs.Moves.{step_of}
use Rattle.hex_game.specs.declared.moves.Move.TheVariants.{Stone}
use Rattle.hex_game.specs.declared.moves.Step.{Step}
use Rattle.tree_words.specs.Settings.{AreInRange}
use Rattle.tree_words.specs.declared.settings.Knobs.{Knobs}
use Rattle.hex_plan.specs.Openings.{may_move}
use Rattle.hex_plan.specs.Turns.{TurnData}
use Rattle.hex_plan.specs.declared.settings.Means.{Means}
use Rattle.turn_search.specs.Owed.{IsOwed}
use Rattle.match_ref.specs.declared.settings.Match.{Match}
use Rattle.match_ref.specs.declared.settings.Side.{Side}
use Rattle.match_ref.specs.declared.settings.TheConstants.{MOST_GAMES, MOST_THREADS}
use Rattle.match_ref.specs.declared.settings.TheConstants.{MOST_OPENINGS}
use Rattle.match_ref.specs.declared.played.Played.{Played}

-- side a is Black in the games of even number, and White in the others
abbrev pub is_side_a : ℕ → Colour → Bool
is_side_a i Black = i % 2 == 0
is_side_a i White = i % 2 == 1

-- the side that plays this colour in game i
abbrev pub side_of : Match → ℕ → Colour → Side
side_of m i player = if is_side_a i player then m.a else m.b

-- the opening of game i, if the match has openings: games 0 and 1 have the first of the list, games
-- 2 and 3 the second, and so on, and after the last one the first comes anew
abbrev pub opening_of : Match → ℕ → Option ℕ
opening_of m i = slice_get m.openings (i / 2 % length m.openings)

-- the steps before the sides play: a stone of Black's on the opening's cell, if there is one
abbrev pub first_steps : Option ℕ → List Step
first_steps None = []
first_steps (Some cell) = step_of Black (Stone cell) ∷ []

-- whose side moves first: White's, if there is an opening
abbrev pub first_side : Option ℕ → Colour
first_side None = Black
first_side (Some cell) = White

-- the seed of that side in game i: S + 2i·2^40 for side a and S + (2i+1)·2^40 for side b, modulo
-- 2^64, if S is the seed of the match
abbrev pub side_seed : Match → ℕ → Colour → ℕ
side_seed m i player =
    (m.seed + (2 * i + (if is_side_a i player then 0 else 1)) * 2 ^ 40) % 2 ^ 64

-- with what that side searches in game i: with one worker
abbrev pub side_knobs : Match → ℕ → Colour → Knobs
side_knobs m i player = record {
  workers = 1;
  playouts = (side_of m i player).playouts;
  seed = side_seed m i player;
  words = (side_of m i player).words;
  expand = (side_of m i player).expand;
  weight = (side_of m i player).weight;
}

-- by what means a side chooses its moves: it looks for connections if it asks the solver or looks
-- ahead
abbrev pub side_means : Side → Means
side_means s = record {
  hsearch = nat_lt 0 s.solve || nat_lt 0 s.look;
  solve = s.solve;
  look = s.look;
}

-- neither side asks the solver or looks ahead
pub record SearchAlone (m : Match) : Type 0 where
  pub a : (m.a.solve ≡ 0) × (m.a.look ≡ 0)
  pub b : (m.b.solve ≡ 0) × (m.b.look ≡ 0)

-- the cell is that of a turn that a session with these knobs and means owes on the board now with
-- this player to move, after so many turns
pub record IsTurnCell (knobs : Knobs) (means : Means) (now : Position) (mover : Colour)
    (turns cell : ℕ) : Type 0 where
  pub turn : TurnData
  pub owed : IsOwed knobs means now mover turns turn
  pub cell_is : turn.cell ≡ cell

-- how many turns the mover made before, when the sides take turns: half of the steps so far,
-- without the opening's
abbrev pub turns_made : Option ℕ → GameData → ℕ
turns_made opening game = (length game.steps - length (first_steps opening)) / 2

-- These steps are the rest of match game i, from this game on, with this player to move. The game
-- ends when a player is joined or no cell is empty.
abbrev pub PlaysOn : Match → ℕ → GameData → Colour → List Step → Type 0
PlaysOn m i game mover [] = may_move (board_of game) ≡ false
PlaysOn m i game mover (step ∷ steps) =
    (may_move (board_of game) ≡ true) × (cell : ℕ) × (step ≡ step_of mover (Stone cell))
    × IsTurnCell (side_knobs m i mover) (side_means (side_of m i mover)) (board_of game) mover
    (turns_made (opening_of m i) game) cell
    × PlaysOn m i (with_step game step) (other_of mover) steps

-- the game of these steps
abbrev pub game_with : Match → List Step → GameData
game_with m steps = record { start = empty_board m.size; steps = steps }

-- what the sides find of game i: the empty board with the opening's step, if there is one
abbrev pub opened_game : Match → ℕ → GameData
opened_game m i = game_with m (first_steps (opening_of m i))

-- This is match game i: its first step is the opening's, if there is one. Then come those of the
-- sides. The winner is who is joined at the end.
pub record IsMatchGame (m : Match) (i : ℕ) (p : Played) : Type 0 where
  pub sides : List Step
  pub opens : p.steps ≡ first_steps (opening_of m i) ++ sides
  pub plays : PlaysOn m i (opened_game m i) (first_side (opening_of m i)) sides
  pub winner : p.winner ≡ winner_of (board_of (game_with m p.steps))

-- the knobs of a side are in their ranges, whatever its seed
abbrev pub IsSide : Side → Type 0
IsSide s = (seed : ℕ) → seed < 2 ^ 64 → AreInRange (record {
  workers = 1;
  playouts = s.playouts;
  seed = seed;
  words = s.words;
  expand = s.expand;
  weight = s.weight;
})

-- the numbers of the match are in their ranges, and its openings are cells of the board
pub record IsMatch (m : Match) : Type 0 where
  pub games : (1 ≤ m.games) × (m.games ≤ MOST_GAMES)
  pub threads : (1 ≤ m.threads) × (m.threads ≤ MOST_THREADS)
  pub openings : length m.openings ≤ MOST_OPENINGS
  pub on_board : All (λ cell. cell < m.size * m.size) m.openings
  pub side_a : IsSide m.a
  pub side_b : IsSide m.b
