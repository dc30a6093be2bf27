-- How many steps a walk has left at most.
use Rattle.std.specs.Prelude.{ℕ, ◌+◌, ◌-◌, ◌*◌, length}
use Rattle.play_out.specs.Fills.{empties_of}
use Rattle.tree_words.specs.Sequence.{size_below}
use Rattle.tree_words.specs.declared.layout.TheConstants.{MOST_BLOCK_WORDS}
use Rattle.walker.specs.declared.machine.TheConstants.{CHILD_LOOKS, HEAD_STEPS, LEVEL_STEPS}
use Rattle.walker.specs.declared.machine.TheConstants.{UP_STEPS, LAST_STEPS}
use Rattle.walker.specs.declared.scans.Phase.{Phase}
use Rattle.walker.specs.declared.scans.Phase.TheVariants.{Move, Tally, Seen}
use Rattle.walker.specs.declared.stages.Stage.{Stage}
use Rattle.walker.specs.declared.stages.Stage.TheVariants.{Drawing, Rooting, Linking, Heading}
use Rattle.walker.specs.declared.stages.Stage.TheVariants.{Scanning, Claiming, Writing, Publishing}
use Rattle.walker.specs.declared.stages.Stage.TheVariants.{Tallying, Seeing, Noting, Ended}
use Rattle.walker.specs.declared.machine.Walker.{Walker}
use Rattle.walker.specs.Scans.{ScanData}
use Rattle.walker.specs.Machine.{state_in}

-- the looks at the child in hand that are made
abbrev pub looks_made : Phase → ℕ
looks_made Move = 0
looks_made Tally = 1
looks_made Seen = 2

-- the looks that a scan has left
abbrev pub looks_left : ScanData → ℕ
looks_left d = CHILD_LOOKS * (d.count - d.place) - looks_made d.phase

-- the steps of the way up from so deep a node, and those after it
abbrev pub up_left : ℕ → ℕ
up_left depth = UP_STEPS * depth + LAST_STEPS

-- the steps behind the level in hand: a level for each empty cell, and the way up from the deepest
abbrev pub below_left : ℕ → ℕ → ℕ
below_left empties depth = LEVEL_STEPS * empties + up_left (empties + depth)

-- k steps of the level in hand, and all behind it
abbrev pub level_left : Walker → ℕ → ℕ
level_left w k = k + below_left (length (empties_of w.board)) (length w.way)

-- the steps that are left at most until the walk is recorded
abbrev pub left_at : Stage → Walker → ℕ
left_at Drawing w = 0
left_at Rooting w = 1 + LEVEL_STEPS + below_left (length (empties_of w.shape.board)) 0
left_at Linking w = level_left w LEVEL_STEPS
left_at Heading w = level_left w (HEAD_STEPS - (w.at - w.start))
left_at Scanning w = level_left w (looks_left w.scan)
left_at Claiming w = level_left w (HEAD_STEPS + 2 + MOST_BLOCK_WORDS)
left_at Writing w = level_left w (HEAD_STEPS + 1 + (w.start + size_below (state_in w) - w.at))
left_at Publishing w = level_left w (HEAD_STEPS + 1)
left_at Tallying w = up_left (length w.way)
left_at Seeing w = length w.climb + up_left (length w.way)
left_at Noting w = 1
left_at Ended w = 0

abbrev pub steps_left : Walker → ℕ
steps_left w = left_at w.stage w
