-- What a view fits: which steps a seat may make, told from its view alone.
use Rattle.std.specs.Prelude.{◌≡◌, ◌≢◌, ◌⊎◌, ℕ, ◌+◌, ◌<◌, ◌≤◌, if◌then◌else◌, true, false, List}
use Rattle.std.specs.Prelude.{length, map, Option, Some, None, slice_get}
use Rattle.std.specs.List.{range_with_len}
use Rattle.tree_words.specs.Words.{root_at, end_of}
use Rattle.tree_words.specs.Blocks.{LinkedBlock, In, has_node, child, size, block_size}
use Rattle.tree_words.specs.Blocks.{is_header_or_move, header_or_move}
use Rattle.tree_words.specs.Paths.{node_state, is_on}
use Rattle.tree_words.specs.Sequence.{search_game, outcome_of}
use Rattle.tree_words.specs.Descents.{pick}
use Rattle.tree_words.specs.declared.layout.TheConstants.{LINK_WORD, TALLY_WORD, SEEN_WORD}
use Rattle.tree_words.specs.declared.steps.Op.{Op}
use Rattle.tree_words.specs.declared.steps.Op.TheVariants.{Draw, Look, Claim, Write, Publish, Add}
use Rattle.tree_words.specs.declared.steps.Op.TheVariants.{Note, Done}
use Rattle.arena_rule.specs.Views.{SeatView, HeldBlock, Flight, HasDrawnNothing, HasEnded}
use Rattle.arena_rule.specs.Adds.{CountAdd, walk_adds}
use Rattle.arena_rule.specs.Lookups.{is_known, known_link, told_below, empties_at, IsLoaded}
use Rattle.arena_rule.specs.Lookups.{tally_loaded, seen_loaded, record_word}

-- Draw: the view stands for one worker, who has not ended, has no number in hand and holds nothing
pub record FitsDraw (v : SeatView) : Type 0 where
  pub width : v.width ≡ 1
  pub ended : v.ended ≡ 0
  pub ticket : v.ticket ≡ None
  pub held : v.held ≡ None

-- Look: the word is one of the table's
abbrev pub FitsLook : SeatView → ℕ → Type 0
FitsLook v i = i < end_of v.shape

-- the known node x may get a block of so many words: it is not the root, no block is known below
-- it, it was loaded with visits of at least T, and these are the words of a block for the empty
-- cells of its board, of which there is one at least
pub record MayGetBlock (v : SeatView) (x size : ℕ) : Type 0 where
  pub known : is_known v x ≡ true
  pub below : x ≢ root_at v.shape
  pub vacant : known_link v x ≡ 0
  pub loaded : IsLoaded v (x + TALLY_WORD)
  pub visits : v.shape.knobs.expand ≤ (tally_loaded v x).visits
  pub some : 0 < empties_at v x
  pub fits : size ≡ block_size (empties_at v x)

-- Claim: a number is in hand, no adds are begun, nothing is held, no claim went past the area's
-- end, and some known node may get a block of that size
pub record FitsClaim (v : SeatView) (size : ℕ) : Type 0 where
  pub number : ℕ
  pub ticket : v.ticket ≡ Some number
  pub adds : v.adds ≡ None
  pub held : v.held ≡ None
  pub room : v.full ≡ false
  pub node : ℕ
  pub may : MayGetBlock v node size

-- Write: a block is held, and the word is its first unwritten one
pub record FitsWrite (v : SeatView) (i : ℕ) : Type 0 where
  pub block : HeldBlock
  pub held : v.held ≡ Some block
  pub left : length block.written < block.size
  pub next : i ≡ block.start + length block.written

-- the words of a block that is not linked yet: its header and moves, with links, tallies and seen
-- words 0
unfoldable pub block_words : LinkedBlock → List ℕ
block_words b =
    map (λ i. if is_header_or_move i then header_or_move b i else 0) (range_with_len 0 (size b))

-- Publish: the held block begins at b, and l is the link of a known node before b that may get a
-- block of its size; what was written is the told block of that node, whole
pub record FitsPublish (v : SeatView) (l b : ℕ) : Type 0 where
  pub block : HeldBlock
  pub held : v.held ≡ Some block
  pub start : block.start ≡ b
  pub node : ℕ
  pub link : l ≡ node + LINK_WORD
  pub above : node < b
  pub may : MayGetBlock v node block.size
  pub written : block.written ≡ block_words (told_below v node b)

-- the add of number `made` of the walk of playout k to this leaf is this one
abbrev pub IsNextAdd : SeatView → ℕ → ℕ → ℕ → CountAdd → Type 0
IsNextAdd v k leaf made a = slice_get (walk_adds v.shape v.known k leaf) made ≡ Some a

-- The node y of the known block b was chosen: the tally of its parent is loaded, and the tallies
-- and seen words of all nodes of the block, and y is the one that Choice gives for these counts
pub record IsChosen (v : SeatView) (b : LinkedBlock) (y : ℕ) : Type 0 where
  pub parent : IsLoaded v (b.parent + TALLY_WORD)
  pub tallies : (i : ℕ) → i < length b.cells → IsLoaded v (child b i + TALLY_WORD)
  pub seen : (i : ℕ) → i < length b.cells → IsLoaded v (child b i + SEEN_WORD)
  pub choice : y ≡ child b (pick (search_game v.shape) (tally_loaded v) (seen_loaded v) b b.parent)

-- the first Add of a walk to a leaf: the leaf is a known node other than the root, each node of its
-- path below the root was chosen, and the leaf was loaded with visits below T, or its board has no
-- empty cell, or a claim went past the area's end
pub record MayBegin (v : SeatView) (leaf : ℕ) : Type 0 where
  pub known : is_known v leaf ≡ true
  pub below : leaf ≢ root_at v.shape
  pub chosen : (b : LinkedBlock) (y : ℕ) → In b v.known → has_node b y ≡ true
      → is_on v.shape v.known y leaf ≡ true → IsChosen v b y
  pub ends : ((tally_loaded v leaf).visits < v.shape.knobs.expand)
      ⊎ ((empties_at v leaf ≡ 0) ⊎ (v.full ≡ true))

-- the word is the next of the adds: of the walk in flight, or the first of a walk that may begin
abbrev pub IsNext : SeatView → ℕ → Option Flight → CountAdd → Type 0
IsNext v k None a =
    (leaf : ℕ) × (a.word ≡ leaf + TALLY_WORD) × MayBegin v leaf × IsNextAdd v k leaf 0 a
IsNext v k (Some f) a = IsNextAdd v k f.leaf f.made a

-- Add: a number is in hand, nothing is held, and this is the next of the adds of its walk
pub record FitsAdd (v : SeatView) (a : CountAdd) : Type 0 where
  pub number : ℕ
  pub ticket : v.ticket ≡ Some number
  pub held : v.held ≡ None
  pub next : IsNext v number v.adds a

-- the record of the walk of playout k to a known leaf
abbrev pub record_told : SeatView → ℕ → ℕ → ℕ
record_told v k leaf =
    record_word leaf (outcome_of v.shape k (node_state v.shape v.known leaf)).winner

-- Note: k is the number in hand, all adds of its walk are made, and n is the record of the leaf and
-- of the playout's result
pub record FitsNote (v : SeatView) (k n : ℕ) : Type 0 where
  pub ticket : v.ticket ≡ Some k
  pub flight : Flight
  pub adds : v.adds ≡ Some flight
  pub all : flight.made ≡ length (walk_adds v.shape v.known k flight.leaf)
  pub value : n ≡ record_told v k flight.leaf

-- the view fits the step; no step is left if all workers have ended
abbrev pub FitsStep : SeatView → Op → Type 0
FitsStep v Draw = FitsDraw v
FitsStep v (Look i) = FitsLook v i
FitsStep v (Claim words) = FitsClaim v words
FitsStep v (Write i value) = FitsWrite v i
FitsStep v (Publish l b) = FitsPublish v l b
FitsStep v (Add i won) = FitsAdd v (record { word = i; won = won })
FitsStep v (Note k value) = FitsNote v k value
FitsStep v Done = HasEnded v

-- a split: the view has drawn nothing, and both parts stand for a worker at least
pub record CanSplit (v : SeatView) (part : ℕ) : Type 0 where
  pub nothing : HasDrawnNothing v
  pub given : 1 ≤ part
  pub kept : part < v.width

-- a join: all workers of both views have ended
pub record CanJoin (v other : SeatView) : Type 0 where
  pub left : HasEnded v
  pub right : HasEnded other
