-- The layout: what each word of a tree holds, and how its parts are read.
use Rattle.std.specs.Prelude.{ℕ, ◌+◌, ◌*◌, ◌/◌, ◌%◌, ◌^◌, ◌==◌, List, slice_index, if◌then◌else◌}
use Rattle.hex_cells.specs.declared.colours.Colour.{Colour}
use Rattle.hex_cells.specs.declared.colours.Colour.TheVariants.{Black, White}
use Rattle.tree_words.specs.Settings.{Setting}
use Rattle.tree_words.specs.declared.layout.TheConstants.{NEXT_AT, TICKET_AT, RECORDS_AT}
use Rattle.tree_words.specs.declared.layout.TheConstants.{FRONT_WORDS, HEADER_WORDS, NODE_WORDS}
use Rattle.tree_words.specs.declared.layout.TheConstants.{LINK_WORD, TALLY_WORD, SEEN_WORD}
use Rattle.tree_words.specs.declared.layout.TheConstants.{LOW_EMPTIES_WORD, HIGH_EMPTIES_WORD}
use Rattle.tree_words.specs.declared.layout.TheConstants.{COUNT_WORD, HIGH_EMPTIES_SHIFT}
use Rattle.tree_words.specs.declared.layout.TheConstants.{PLACE_UNIT, VISITS_SHIFT, RECORD_UNIT}
use Rattle.tree_words.specs.declared.types.NodeFields.{NodeFields}
use Rattle.tree_words.specs.declared.types.Block.{Block}

-- the first word of the root node, behind NEXT, TICKET and the records
abbrev pub root_at : Setting → ℕ
root_at s = s.knobs.playouts + RECORDS_AT

-- the first word of the block area, behind the root's four words
abbrev pub area_at : Setting → ℕ
area_at s = s.knobs.playouts + FRONT_WORDS

-- the word after the block area, which is the number of words
abbrev pub end_of : Setting → ℕ
end_of s = s.knobs.playouts + s.knobs.words + FRONT_WORDS

-- NEXT: the first word that is not claimed yet
abbrev pub next_in : List ℕ → ℕ
next_in words = slice_index words NEXT_AT

-- TICKET: the next playout number
abbrev pub ticket_in : List ℕ → ℕ
ticket_in words = slice_index words TICKET_AT

-- the record of playout k
abbrev pub record_in : List ℕ → ℕ → ℕ
record_in words k = slice_index words (RECORDS_AT + k)

-- a record is twice its leaf's first word, and 1 more if White won
abbrev pub leaf_in : ℕ → ℕ
leaf_in n = n / RECORD_UNIT

abbrev pub winner_in : ℕ → Colour
winner_in n = if n % RECORD_UNIT == 0 then Black else White

-- a move word is 256 times the place and the cell
abbrev pub move_word : ℕ → ℕ → ℕ
move_word place cell = PLACE_UNIT * place + cell

abbrev pub cell_in : ℕ → ℕ
cell_in move = move % PLACE_UNIT

abbrev pub place_in : ℕ → ℕ
place_in move = move / PLACE_UNIT

-- visits and wins
pub record Count : Type 0 where
  pub visits : ℕ
  pub wins : ℕ

-- a tally and a seen word are 2^32 times the visits and the wins
abbrev pub visits_in : ℕ → ℕ
visits_in n = n / 2 ^ VISITS_SHIFT

abbrev pub wins_in : ℕ → ℕ
wins_in n = n % 2 ^ VISITS_SHIFT

abbrev pub count_in : ℕ → Count
count_in n = record { visits = visits_in n; wins = wins_in n }

-- the words of the node at x: its move, its link, its tally and its seen word
abbrev pub link_in : List ℕ → ℕ → ℕ
link_in words x = slice_index words (x + LINK_WORD)

abbrev pub tally_in : List ℕ → ℕ → Count
tally_in words x = count_in (slice_index words (x + TALLY_WORD))

abbrev pub seen_in : List ℕ → ℕ → Count
seen_in words x = count_in (slice_index words (x + SEEN_WORD))

-- the fields of the node at x
abbrev pub node_in : List ℕ → ℕ → NodeFields
node_in words x = record {
  cell = cell_in (slice_index words x);
  place = place_in (slice_index words x);
  link = link_in words x;
  visits = (tally_in words x).visits;
  wins = (tally_in words x).wins;
  seen = (seen_in words x).visits;
  seen_wins = (seen_in words x).wins;
}

-- how many nodes the block at b has
abbrev pub nodes_in : List ℕ → ℕ → ℕ
nodes_in words b = slice_index words (b + COUNT_WORD)

-- the first word of the node of place k of the block at b
abbrev pub node_at : ℕ → ℕ → ℕ
node_at b k = b + HEADER_WORDS + NODE_WORDS * k

-- the fields of the header of the block at b: the first word of the parent node, the empty cells 0
-- to 63 and 64 to 120 as bits, and the count
abbrev pub block_in : List ℕ → ℕ → Block
block_in words b = record {
  parent = slice_index words b;
  empties = slice_index words (b + HIGH_EMPTIES_WORD) * 2 ^ HIGH_EMPTIES_SHIFT
      + slice_index words (b + LOW_EMPTIES_WORD);
  count = nodes_in words b;
}
