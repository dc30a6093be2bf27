-- The machine: what a walker is after an answer.
pub use Rattle.tree_words.specs.Sequence.{outcome_of}
pub use Rattle.walker.specs.Steps.{state_in, set_below, set_in, cells_in, own_block, word_of_block}
pub use Rattle.walker.specs.Steps.{op_at, op_of}
use Rattle.std.specs.Prelude.{ℕ, ◌+◌, ◌*◌, ◌==◌, ◌&&◌, not, nat_lt, nat_le, if◌then◌else◌, Bool}
use Rattle.std.specs.Prelude.{true, List, [], ◌∷◌, length, slice_index}
use Rattle.hex_cells.specs.Colours.{other_of, is_same}
use Rattle.hex_board.specs.Positions.{stones_of, placed}
use Rattle.play_out.specs.Fills.{empties_of}
use Rattle.tree_words.specs.Words.{root_at, end_of, visits_in}
use Rattle.tree_words.specs.Writing.{listed}
use Rattle.tree_words.specs.Sequence.{size_below}
use Rattle.tree_words.specs.declared.layout.TheConstants.{HEADER_WORDS, NODE_WORDS, LINK_WORD}
use Rattle.tree_words.specs.declared.layout.TheConstants.{TALLY_WORD}
use Rattle.arena_rule.specs.Adds.{CountAdd, seen_adds}
use Rattle.walker.specs.Scans.{ScanData, scan_of, scan_next}
use Rattle.walker.specs.Climbs.{adds_after}
use Rattle.walker.specs.declared.ways.Level.{Level}
use Rattle.walker.specs.declared.stages.Stage.{Stage}
use Rattle.walker.specs.declared.stages.Stage.TheVariants.{Drawing, Rooting, Linking, Heading}
use Rattle.walker.specs.declared.stages.Stage.TheVariants.{Scanning, Claiming, Writing, Publishing}
use Rattle.walker.specs.declared.stages.Stage.TheVariants.{Tallying, Seeing, Noting, Ended}
use Rattle.walker.specs.declared.machine.Walker.{Walker}

-- the walk stands at its node, whose link is next
abbrev pub at_node : Walker → Walker
at_node w = record w { stage = Linking; at = w.node + LINK_WORD }

-- the block that begins at b is below the node, and its header is next
abbrev pub at_block : Walker → ℕ → Walker
at_block w b = record w { stage = Heading; start = b; at = b }

-- the node is the leaf: the playout is made from it, and its tally is next
unfoldable pub at_leaf : Walker → Walker
at_leaf w = record w {
  leaf = w.node;
  ending = outcome_of w.shape w.number (state_in w);
  stage = Tallying;
  at = w.node + TALLY_WORD;
}

-- the next seen word is next, or the tally of the node above
abbrev pub on_way_up : List CountAdd → Walker → Walker
on_way_up [] w = record w { stage = Tallying; at = w.node + TALLY_WORD }
on_way_up (a ∷ adds) w = record w { stage = Seeing }

-- after a Draw: a number below N begins a walk, any other ends the worker
unfoldable pub drawn : Walker → ℕ → Walker
drawn w x =
    if nat_lt x w.shape.knobs.playouts
    then record w { number = x; stage = Rooting; at = root_at w.shape + TALLY_WORD }
    else record w { stage = Ended }

-- after the look at the root's tally: the walk stands at the root
unfoldable pub rooted : Walker → ℕ → Walker
rooted w x = at_node (record w {
  way = [];
  node = root_at w.shape;
  board = w.shape.board;
  player = w.shape.player;
  visits = visits_in x;
})

-- the node asks for a block: it was loaded with visits of at least T, its board has an empty cell,
-- and no claim of this worker went past the area's end
abbrev pub asks_block : Walker → Bool
asks_block w =
    not w.full
    && (nat_le w.shape.knobs.expand w.visits && nat_lt 0 (length (empties_of w.board)))

-- after the look at the node's link
unfoldable pub linked : Walker → ℕ → Walker
linked w x =
    if x == 0 then (if asks_block w then record w { stage = Claiming } else at_leaf w)
    else at_block w x

-- after a look at a header word: after the last of the four the children are next, if there are any
unfoldable pub headed : Walker → Walker
headed w =
    if nat_lt (w.at + 1) (w.start + HEADER_WORDS) then record w { at = w.at + 1 }
    else (if length (cells_in w) == 0 then at_leaf w
    else record w {
      stage = Scanning;
      scan = scan_of w.start (length (cells_in w)) w.visits w.shape.knobs.weight;
    })

-- the walk goes to the child that was kept
unfoldable pub chosen : Walker → Walker
chosen w = at_node (record w {
  way = record { parent = w.node; block = w.start; cells = set_in w } ∷ w.way;
  node = w.start + HEADER_WORDS + NODE_WORDS * w.scan.best;
  board = placed w.board w.player (slice_index (cells_in w) w.scan.best);
  player = other_of w.player;
  visits = w.scan.visits;
})

-- the scan has come so far: after its last look the walk goes to the child that was kept
unfoldable pub with_scan : Walker → ScanData → Walker
with_scan w scan =
    if nat_lt scan.place scan.count then record w { scan = scan }
    else chosen (record w { scan = scan })

-- after a look at a child
abbrev pub scanned : Walker → ℕ → Walker
scanned w x = with_scan w (scan_next w.scan x)

-- the adds to seen words have come so far
abbrev pub with_climb : Walker → List CountAdd → Walker
with_climb w left = on_way_up left (record w { climb = left })

-- after a Claim: inside the area the block is held, else the node is the leaf
unfoldable pub claimed : Walker → ℕ → Walker
claimed w x =
    if nat_le (x + size_below (state_in w)) (end_of w.shape)
    then record w { stage = Writing; start = x; at = x }
    else at_leaf (record w { full = true })

-- after a Write: the next word, or the link
unfoldable pub written : Walker → Walker
written w =
    if nat_lt (w.at + 1) (w.start + size_below (state_in w)) then record w { at = w.at + 1 }
    else record w { stage = Publishing; at = w.node + LINK_WORD }

-- after a Publish: the walk goes on by the link that now holds
abbrev pub linked_now : Walker → ℕ → Walker
linked_now w x = at_block w (if x == 0 then w.start else x)

-- after the add to the node's tally: the seen words of its block are next, and at the root the
-- record
abbrev pub risen : List Level → Walker → Walker
risen [] w = record w { stage = Noting }
risen (l ∷ way) w = let mover = other_of w.player in
    let stones = stones_of w.ending.full mover in
    let won = is_same w.ending.winner mover in
    let seen = seen_adds stones won (l.block + HEADER_WORDS) (listed w.shape.board.size l.cells) in
    on_way_up seen (record w { way = way; node = l.parent; player = mover; climb = seen })

-- after the add to a seen word
abbrev pub seen_on : Walker → Walker
seen_on w = with_climb w (adds_after w.climb)

-- what the walker is after the answer x
abbrev pub next_at : Stage → Walker → ℕ → Walker
next_at Drawing w x = drawn w x
next_at Rooting w x = rooted w x
next_at Linking w x = linked w x
next_at Heading w x = headed w
next_at Scanning w x = scanned w x
next_at Claiming w x = claimed w x
next_at Writing w x = written w
next_at Publishing w x = linked_now w x
next_at Tallying w x = risen w.way w
next_at Seeing w x = seen_on w
next_at Noting w x = record w { stage = Drawing }
next_at Ended w x = w

abbrev pub next : Walker → ℕ → Walker
next w x = next_at w.stage w x
