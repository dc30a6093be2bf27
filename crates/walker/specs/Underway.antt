-- What a view has of a walk on its way down.
use Rattle.std.specs.Prelude.{◌≡◌, ◌≢◌, ℕ, ◌+◌, ◌<◌, ◌≤◌, true, false, List, [], ◌∷◌, length, Some}
use Rattle.std.specs.Prelude.{None}
use Rattle.play_out.specs.Fills.{empties_of}
use Rattle.tree_words.specs.Words.{root_at}
use Rattle.tree_words.specs.Blocks.{LinkedBlock, In, has_node}
use Rattle.tree_words.specs.Paths.{NodeState, node_state}
use Rattle.tree_words.specs.Writing.{listed}
use Rattle.tree_words.specs.declared.layout.TheConstants.{TALLY_WORD, MOST_NODES}
use Rattle.arena_rule.specs.Views.{SeatView}
use Rattle.arena_rule.specs.Lookups.{is_known, known_link, IsLoaded, tally_loaded}
use Rattle.arena_rule.specs.Fits.{IsChosen}
use Rattle.walker.specs.Machine.{state_in, cells_in}
use Rattle.walker.specs.declared.ways.Level.{Level}
use Rattle.walker.specs.declared.machine.Walker.{Walker}

-- the level is a known block of which x is a node, and x was chosen
pub record IsLevel (v : SeatView) (l : Level) (x : ℕ) : Type 0 where
  pub block : LinkedBlock
  pub known : In block v.known
  pub start : block.start ≡ l.block
  pub parent : block.parent ≡ l.parent
  pub cells : block.cells ≡ listed v.shape.board.size l.cells
  pub node : has_node block x ≡ true
  pub chosen : IsChosen v block x

-- the levels are those of the path of the known node x: each one's node was chosen, and the first
-- parent is the root
abbrev pub OnWay : SeatView → List Level → ℕ → Type 0
OnWay v [] x = x ≡ root_at v.shape
OnWay v (l ∷ way) x = IsLevel v l x × OnWay v way l.parent

-- the worker has not ended and has its number in hand
pub record HasNumber (w : Walker) (v : SeatView) : Type 0 where
  pub ended : v.ended ≡ 0
  pub ticket : v.ticket ≡ Some w.number

-- a walk with this number goes down and stands at a known node: its way, its state and its loaded
-- visits are those of the node, and there is room on the way for each empty cell
pub record IsDown (number node visits : ℕ) (state : NodeState) (way : List Level)
    (v : SeatView) : Type 0 where
  pub ended : v.ended ≡ 0
  pub ticket : v.ticket ≡ Some number
  pub adds : v.adds ≡ None
  pub known : is_known v node ≡ true
  pub is : state ≡ node_state v.shape v.known node
  pub on_way : OnWay v way node
  pub loaded : IsLoaded v (node + TALLY_WORD)
  pub counted : (tally_loaded v node).visits ≡ visits
  pub few : visits ≤ v.shape.knobs.playouts
  pub room : length way + length (empties_of state.board) ≤ MOST_NODES

abbrev pub Down : Walker → SeatView → Type 0
Down w v = IsDown w.number w.node w.visits (state_in w) w.way v

-- the block below the node is known, and the walker knows where it begins
pub record IsBelow (w : Walker) (v : SeatView) (b : LinkedBlock) : Type 0 where
  pub known : In b v.known
  pub start : b.start ≡ w.start
  pub parent : b.parent ≡ w.node
  pub cells : b.cells ≡ cells_in w

-- the node may get a block: it is not the root, no block is known below it, and it was loaded with
-- visits of at least T
pub record MayClaim (w : Walker) (v : SeatView) : Type 0 where
  pub down : Down w v
  pub below : w.node ≢ root_at v.shape
  pub vacant : known_link v w.node ≡ 0
  pub visits : v.shape.knobs.expand ≤ w.visits
  pub some : 0 < length (empties_of w.board)
  pub room : v.full ≡ false
