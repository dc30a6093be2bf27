-- What a tree is searched for.
use Rattle.std.specs.Prelude.{◌≡◌, ℕ, ◌^◌, ◌<◌, ◌≤◌, true}
use Rattle.hex_cells.specs.Sets.{has}
use Rattle.hex_cells.specs.declared.colours.Colour.{Colour}
use Rattle.hex_board.specs.Positions.{AllEmpty, Position, IsPosition}
use Rattle.tree_words.specs.declared.settings.Knobs.{Knobs}
use Rattle.tree_words.specs.declared.settings.TheConstants.{MOST_WORKERS, MOST_PLAYOUTS}
use Rattle.tree_words.specs.declared.settings.TheConstants.{LEAST_WORDS, MOST_WORDS, MOST_EXPAND}
use Rattle.uct_table.specs.declared.scoring.TheConstants.{MOST_WEIGHT}

-- a board, the player to move, the cells that he may play, and the knobs
pub record Setting : Type 0 where
  pub board : Position
  pub player : Colour
  pub allowed : ℕ
  pub knobs : Knobs

-- the ranges of the knobs
pub record AreInRange (k : Knobs) : Type 0 where
  pub workers : (1 ≤ k.workers) × (k.workers ≤ MOST_WORKERS)
  pub playouts : (1 ≤ k.playouts) × (k.playouts ≤ MOST_PLAYOUTS)
  pub seed : k.seed < 2 ^ 64
  pub words : (LEAST_WORDS ≤ k.words) × (k.words ≤ MOST_WORDS)
  pub expand : (1 ≤ k.expand) × (k.expand ≤ MOST_EXPAND)
  pub weight : k.weight ≤ MOST_WEIGHT

-- there is an allowed cell
abbrev pub IsAny : ℕ → Type 0
IsAny allowed = (k : ℕ) × (has allowed k ≡ true)

-- what holds of each setting that is searched
pub record IsSetting (s : Setting) : Type 0 where
  pub position : IsPosition s.board.size s.board.black s.board.white
  pub any : IsAny s.allowed
  pub empty : AllEmpty s.board s.allowed
  pub ranges : AreInRange s.knobs
