-- What a walker does next.
use Rattle.std.specs.Prelude.{ℕ, ◌-◌, if◌then◌else◌, List, [], ◌∷◌}
use Rattle.hex_cells.specs.Colours.{other_of, is_same}
use Rattle.hex_board.specs.Positions.{Position}
use Rattle.play_out.specs.Fills.{empties_of}
use Rattle.tree_words.specs.Settings.{Setting}
use Rattle.tree_words.specs.Blocks.{LinkedBlock, is_header_or_move, header_or_move}
use Rattle.tree_words.specs.Paths.{NodeState}
use Rattle.tree_words.specs.Complete.{set_of}
use Rattle.tree_words.specs.Writing.{listed}
use Rattle.tree_words.specs.Sequence.{size_below}
use Rattle.tree_words.specs.declared.steps.Op.{Op}
use Rattle.tree_words.specs.declared.steps.Op.TheVariants.{Draw, Look, Claim, Write, Publish, Add}
use Rattle.tree_words.specs.declared.steps.Op.TheVariants.{Note, Done}
use Rattle.arena_rule.specs.Lookups.{record_word}
use Rattle.walker.specs.Climbs.{add_op}
use Rattle.walker.specs.declared.ways.Level.{Level}
use Rattle.walker.specs.declared.stages.Stage.{Stage}
use Rattle.walker.specs.declared.stages.Stage.TheVariants.{Drawing, Rooting, Linking, Heading}
use Rattle.walker.specs.declared.stages.Stage.TheVariants.{Scanning, Claiming, Writing, Publishing}
use Rattle.walker.specs.declared.stages.Stage.TheVariants.{Tallying, Seeing, Noting, Ended}
use Rattle.walker.specs.declared.machine.Walker.{Walker}

-- the board where the walk stands, and the player to move there
abbrev pub state_in : Walker → NodeState
state_in w = record { board = w.board; player = w.player }

-- the cells of the block below the node where it stands: the allowed cells at the root, else the
-- empty cells of the board
abbrev pub set_below : List Level → Setting → Position → ℕ
set_below [] s p = s.allowed
set_below (l ∷ way) s p = set_of (empties_of p)

abbrev pub set_in : Walker → ℕ
set_in w = set_below w.way w.shape w.board

abbrev pub cells_in : Walker → List ℕ
cells_in w = listed w.shape.board.size (set_in w)

-- the block that it holds, or would hold, below that node
abbrev pub own_block : Walker → LinkedBlock
own_block w = record {
  start = w.start;
  parent = w.node;
  empties = set_of (empties_of w.board);
  cells = empties_of w.board;
}

-- word i of a new block: a header word, a move or 0
abbrev pub word_of_block : LinkedBlock → ℕ → ℕ
word_of_block b i = if is_header_or_move i then header_or_move b i else 0

-- the next step
abbrev pub op_at : Stage → Walker → Op
op_at Drawing w = Draw
op_at Rooting w = Look w.at
op_at Linking w = Look w.at
op_at Heading w = Look w.at
op_at Scanning w = Look w.scan.at
op_at Claiming w = Claim (size_below (state_in w))
op_at Writing w = Write w.at (word_of_block (own_block w) (w.at - w.start))
op_at Publishing w = Publish w.at w.start
op_at Tallying w = Add w.at (is_same w.ending.winner (other_of w.player))
op_at Seeing w = add_op w.climb
op_at Noting w = Note w.number (record_word w.leaf w.ending.winner)
op_at Ended w = Done

abbrev pub op_of : Walker → Op
op_of w = op_at w.stage w
