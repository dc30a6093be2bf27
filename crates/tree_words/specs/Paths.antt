-- Paths, boards and movers.
use Rattle.std.specs.Prelude.{ℕ, ◌==◌, Bool, List, [], ◌∷◌}
use Rattle.std.specs.List.{list_any}
use Rattle.hex_cells.specs.Colours.{other_of}
use Rattle.hex_cells.specs.declared.colours.Colour.{Colour}
use Rattle.hex_board.specs.Positions.{Position, placed}
use Rattle.tree_words.specs.Settings.{Setting}
use Rattle.tree_words.specs.Words.{root_at}
use Rattle.tree_words.specs.Blocks.{LinkedBlock, has_node, place, cell_at, up}

-- a board, and the player to move there
pub record NodeState : Type 0 where
  pub board : Position
  pub player : Colour

-- the root's: the setting's board and player
abbrev pub root_state : Setting → NodeState
root_state s = record { board = s.board; player = s.player }

-- after a stone of the player to move
abbrev pub state_after : NodeState → ℕ → NodeState
state_after p cell = record { board = placed p.board p.player cell; player = other_of p.player }

-- the player who placed the last stone
abbrev pub mover_at : NodeState → Colour
mover_at p = other_of p.player

-- Path: the nodes from x up to the root
abbrev pub path_of : Setting → List LinkedBlock → ℕ → List ℕ
path_of s bs x = up (root_at s ∷ []) (λ b y rest. y ∷ rest) bs x

-- x stands on the path of the node y
abbrev pub is_on : Setting → List LinkedBlock → ℕ → ℕ → Bool
is_on s bs x y = list_any (λ z. z == x) (path_of s bs y)

-- a node of the block b stands on the path of the node y
abbrev pub enters : Setting → List LinkedBlock → LinkedBlock → ℕ → Bool
enters s bs b y = list_any (λ z. has_node b z) (path_of s bs y)

-- the board of x and the player to move there: from the root down each node of the path below the
-- root places its cell, the setting's player first
abbrev pub node_state : Setting → List LinkedBlock → ℕ → NodeState
node_state s bs x = up (root_state s) (λ b y above. state_after above (cell_at b (place b y))) bs x

-- Board(x)
abbrev pub node_board : Setting → List LinkedBlock → ℕ → Position
node_board s bs x = (node_state s bs x).board

-- Mover(x): the player who placed the cell of x; for the root the player not to move
abbrev pub mover_of : Setting → List LinkedBlock → ℕ → Colour
mover_of s bs x = mover_at (node_state s bs x)
