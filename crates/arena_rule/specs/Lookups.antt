-- What is looked up in a view: its nodes, its loads, its walks, and the adds of the walk in hand.
use Rattle.std.specs.Prelude.{◌≡◌, ℕ, ◌+◌, ◌*◌, ◌==◌, ◌&&◌, nat_lt, nat_le, if◌then◌else◌, Bool}
use Rattle.std.specs.Prelude.{false, List, [], ◌∷◌, length, take, count_by, Option, Some, None}
use Rattle.hex_cells.specs.declared.colours.Colour.{Colour}
use Rattle.hex_cells.specs.declared.colours.Colour.TheVariants.{Black, White}
use Rattle.play_out.specs.Fills.{empties_of}
use Rattle.tree_words.specs.Settings.{Setting}
use Rattle.tree_words.specs.Words.{Count, root_at, leaf_in, count_in}
use Rattle.tree_words.specs.Blocks.{LinkedBlock, one_if, is_node, link_of}
use Rattle.tree_words.specs.Paths.{node_board, is_on}
use Rattle.tree_words.specs.Told.{told_block}
use Rattle.tree_words.specs.declared.layout.TheConstants.{TALLY_WORD, SEEN_WORD, RECORD_UNIT}
use Rattle.arena_rule.specs.Views.{SeatView, HeldBlock, Flight, WordLoad}
use Rattle.arena_rule.specs.Adds.{CountAdd, walk_adds}

-- x is a known node: the root, or a node of a known block
abbrev pub is_known : SeatView → ℕ → Bool
is_known v x = is_node (root_at v.shape) v.known x

-- the first word of the known block below x, or 0
abbrev pub known_link : SeatView → ℕ → ℕ
known_link v x = link_of v.known x

-- the told block of the link b at the known node x
abbrev pub told_below : SeatView → ℕ → ℕ → LinkedBlock
told_below v x b = told_block v.shape v.known x b

-- the number of empty cells of the board of a known node
abbrev pub empties_at : SeatView → ℕ → ℕ
empties_at v x = length (empties_of (node_board v.shape v.known x))

-- the value last loaded of a word
abbrev pub load_of : List WordLoad → ℕ → Option ℕ
load_of [] w = None
load_of (l ∷ loads) w = if l.word == w then Some l.value else load_of loads w

-- the word was loaded
abbrev pub IsLoaded : SeatView → ℕ → Type 0
IsLoaded v w = (n : ℕ) × (load_of v.loads w ≡ Some n)

-- a load's number, and 0 if nothing was loaded
abbrev pub or_zero : Option ℕ → ℕ
or_zero None = 0
or_zero (Some n) = n

-- the visits and wins of a node as last loaded, and its seen visits and seen wins
abbrev pub tally_loaded : SeatView → ℕ → Count
tally_loaded v x = count_in (or_zero (load_of v.loads (x + TALLY_WORD)))

abbrev pub seen_loaded : SeatView → ℕ → Count
seen_loaded v x = count_in (or_zero (load_of v.loads (x + SEEN_WORD)))

-- how many recorded walks of the view go through x: their leaf has x on its path
abbrev pub recorded_through : SeatView → ℕ → ℕ
recorded_through v x = count_by (λ w. is_on v.shape v.known x (leaf_in w.value)) v.walks

-- how many recorded walks of the view have x as their leaf
abbrev pub recorded_at : SeatView → ℕ → ℕ
recorded_at v x = count_by (λ w. leaf_in w.value == x) v.walks

-- 1 if a walk is in flight and its leaf passes the test: it goes through every node of its
-- leaf's path, whichever adds are made
abbrev pub flying : (ℕ → Bool) → Option Flight → ℕ
flying test None = 0
flying test (Some f) = one_if (test f.leaf)

-- how many walks of the view go through x, and how many have it as their leaf, the one in flight
-- included
abbrev pub walks_through : SeatView → ℕ → ℕ
walks_through v x = recorded_through v x + flying (λ leaf. is_on v.shape v.known x leaf) v.adds

abbrev pub walks_at : SeatView → ℕ → ℕ
walks_at v x = recorded_at v x + flying (λ leaf. leaf == x) v.adds

-- the adds that a walk in flight has made: the number in hand is the walk's
abbrev pub adds_made : Setting → List LinkedBlock → Option ℕ → Option Flight → List CountAdd
adds_made s bs None flight = []
adds_made s bs (Some k) None = []
adds_made s bs (Some k) (Some f) = take f.made (walk_adds s bs k f.leaf)

-- how many of the adds count in the word
abbrev pub adds_in : ℕ → List CountAdd → ℕ
adds_in w adds = count_by (λ a. a.word == w) adds

-- the word i lies in the held block
abbrev pub is_held : Option HeldBlock → ℕ → Bool
is_held None i = false
is_held (Some h) i = nat_le h.start i && nat_lt i (h.start + h.size)

-- the record of a playout with this leaf and this winner
abbrev pub record_word : ℕ → Colour → ℕ
record_word leaf Black = RECORD_UNIT * leaf
record_word leaf White = RECORD_UNIT * leaf + 1
