-- When a walker may go on: its words are small, and a child that it goes to is there.
use Rattle.std.specs.Prelude.{◌≡◌, ℕ, ◌+◌, ◌*◌, ◌<◌, ◌≤◌, true, length, slice_index}
use Rattle.hex_board.specs.Positions.{is_empty_at}
use Rattle.uct_table.specs.declared.scoring.TheConstants.{MOST_COUNT}
use Rattle.tree_words.specs.declared.layout.TheConstants.{HEADER_WORDS, NODE_WORDS, MOST_NODES}
use Rattle.walker.specs.Ways.{HasWords}
use Rattle.walker.specs.Scans.{CanScan, scan_next}
use Rattle.walker.specs.Machine.{cells_in}
use Rattle.walker.specs.declared.TheConstants.{PAST_WORDS}
use Rattle.walker.specs.declared.stages.Stage.{Stage}
use Rattle.walker.specs.declared.stages.Stage.TheVariants.{Drawing, Rooting, Linking, Heading}
use Rattle.walker.specs.declared.stages.Stage.TheVariants.{Scanning, Claiming, Writing, Publishing}
use Rattle.walker.specs.declared.stages.Stage.TheVariants.{Tallying, Seeing, Noting, Ended}
use Rattle.walker.specs.declared.machine.Walker.{Walker}

-- there is room for one more level, and the child that is kept is one of the block's, whose cell is
-- empty
pub record MayChoose (w : Walker) : Type 0 where
  pub child : w.start + HEADER_WORDS + NODE_WORDS * w.scan.best < PAST_WORDS
  pub room : length w.way < MOST_NODES
  pub size : w.board.size ≡ w.shape.board.size
  pub best : w.scan.best < length (cells_in w)
  pub empty : is_empty_at w.board (slice_index (cells_in w) w.scan.best) ≡ true

-- a look may be answered so; after the last it may choose
pub record MayScan (w : Walker) (x : ℕ) : Type 0 where
  pub look : CanScan w.scan x
  pub last : let scan = scan_next w.scan x in scan.count ≤ scan.place
      → MayChoose (record w { scan = scan })

-- a header word is looked at
pub record MayHead (w : Walker) : Type 0 where
  pub node : w.node < PAST_WORDS
  pub start : w.start < PAST_WORDS
  pub at : w.at < PAST_WORDS
  pub visits : w.visits ≤ MOST_COUNT
  pub size : w.board.size ≡ w.shape.board.size

-- the answer is one with which the walker goes on at this stage
abbrev pub CanGoAt : Stage → Walker → ℕ → Type 0
CanGoAt Drawing w x = Unit {0}
CanGoAt Rooting w x = Unit {0}
CanGoAt Linking w x = (w.node < PAST_WORDS) × (x < PAST_WORDS)
CanGoAt Heading w x = MayHead w
CanGoAt Scanning w x = MayScan w x
CanGoAt Claiming w x = (w.node < PAST_WORDS) × (x < PAST_WORDS)
CanGoAt Writing w x = (w.node < PAST_WORDS) × (w.start < PAST_WORDS) × (w.at < PAST_WORDS)
CanGoAt Publishing w x = x < PAST_WORDS
CanGoAt Tallying w x = HasWords w.way
CanGoAt Seeing w x = w.node < PAST_WORDS
CanGoAt Noting w x = Unit {0}
CanGoAt Ended w x = Unit {0}

abbrev pub CanGo : Walker → ℕ → Type 0
CanGo w x = CanGoAt w.stage w x
