-- Traces: the bytes that a closed tree is written as.
use Rattle.std.specs.Prelude.{ℕ, ◌/◌, ◌%◌, ◌^◌, List, [], ◌∷◌, ◌++◌, length, min, take, codes}
use Rattle.std.specs.Int.{w64, to_le_bytes}
use Rattle.std.specs.List.{flat_map}
use Rattle.std.specs.declared.option.Option.{Option}
use Rattle.std.specs.declared.option.Option.TheVariants.{None, Some}
use Rattle.hex_cells.specs.declared.colours.Colour.{Colour}
use Rattle.hex_cells.specs.declared.colours.Colour.TheVariants.{Black, White}
use Rattle.hex_plan.specs.Turns.{TurnData}
use Rattle.tree_words.specs.Closing.{ClosedTree}
use Rattle.tree_words.specs.Settings.{Setting}
use Rattle.tree_words.specs.Words.{next_in}
use Rattle.tree_words.specs.declared.layout.TheConstants.{HIGH_EMPTIES_SHIFT}

-- 64-bit words as bytes, the low byte of each first
abbrev pub bytes_of : List ℕ → List ℕ
bytes_of words = flat_map (to_le_bytes w64) words

-- the number of a player
abbrev pub colour_number : Colour → ℕ
colour_number Black = 0
colour_number White = 1

-- the two words of a set of cells: cells 0 to 63 as bits, and then those from 64 on
abbrev pub low_word : ℕ → ℕ
low_word set = set % 2 ^ HIGH_EMPTIES_SHIFT

abbrev pub high_word : ℕ → ℕ
high_word set = set / 2 ^ HIGH_EMPTIES_SHIFT

-- how many words of a tree are written: all below NEXT
abbrev pub written_count : List ℕ → ℕ
written_count words = min (next_in words) (length words)

-- the fields of a trace: the shape, and how many words of the tree follow
abbrev pub fields_of : Setting → ℕ → List ℕ
fields_of s q =
    s.board.size
    ∷ low_word s.board.black ∷ high_word s.board.black
    ∷ low_word s.board.white ∷ high_word s.board.white
    ∷ colour_number s.player
    ∷ low_word s.allowed ∷ high_word s.allowed
    ∷ s.knobs.workers ∷ s.knobs.playouts ∷ s.knobs.seed
    ∷ s.knobs.words ∷ s.knobs.expand ∷ s.knobs.weight
    ∷ q ∷ []

-- the text of a tree: a name of eight bytes, the fields, and the written words
abbrev pub trace_text : ClosedTree → List ℕ
trace_text tree =
    codes "HEXTREE1"
    ++ (bytes_of (fields_of tree.shape (written_count tree.words))
    ++ bytes_of (take (written_count tree.words) tree.words))

-- the text of the tree, if there is one
abbrev pub text_if : Option ClosedTree → List ℕ
text_if None = []
text_if (Some tree) = trace_text tree

-- Trace: of a turn without a closed tree it is empty, else it is the tree's text
abbrev pub trace_of : TurnData → List ℕ
trace_of turn = text_if turn.closed
