-- Which views belong to a walker.
pub use Rattle.walker.specs.Underway.{IsLevel, OnWay, HasNumber, IsDown, Down, IsBelow, MayClaim}
pub use Rattle.walker.specs.Looking.{HasKept, KeepsBest, children_loaded, InChild, IsScan}
use Rattle.std.specs.Prelude.{◌≡◌, ◌≢◌, ℕ, ◌+◌, ◌-◌, ◌<◌, ◌≤◌, true, List, [], ◌++◌, length, take}
use Rattle.std.specs.Prelude.{drop, Option, Some, None, ◌⊎◌, Contains}
use Rattle.tree_words.specs.Words.{root_at}
use Rattle.tree_words.specs.Blocks.{LinkedBlock}
use Rattle.tree_words.specs.Paths.{node_state}
use Rattle.tree_words.specs.Sequence.{outcome_of, size_below}
use Rattle.tree_words.specs.declared.layout.TheConstants.{HEADER_WORDS, LINK_WORD, TALLY_WORD}
use Rattle.arena_rule.specs.Views.{SeatView, Flight}
use Rattle.arena_rule.specs.Adds.{CountAdd, adds_up, walk_adds}
use Rattle.arena_rule.specs.Lookups.{is_known, known_link, empties_at}
use Rattle.arena_rule.specs.Fits.{MayBegin, block_words}
use Rattle.arena_rule.specs.Afters.{after}
use Rattle.arena_rule.specs.Answers.{MayAnswer}
use Rattle.arena_rule.specs.IsView.{IsView}
use Rattle.arena_rule.specs.Owing.{IsSeenWord}
use Rattle.walker.specs.Machine.{op_of, next, state_in, own_block}
use Rattle.walker.specs.declared.stages.Stage.{Stage}
use Rattle.walker.specs.declared.stages.Stage.TheVariants.{Drawing, Rooting, Linking, Heading}
use Rattle.walker.specs.declared.stages.Stage.TheVariants.{Scanning, Claiming, Writing, Publishing}
use Rattle.walker.specs.declared.stages.Stage.TheVariants.{Tallying, Seeing, Noting, Ended}
use Rattle.walker.specs.declared.machine.Walker.{Walker}

-- no block is known below x, or its board is full
abbrev pub IsBare : SeatView → ℕ → Type 0
IsBare v x = (known_link v x ≡ 0) ⊎ (empties_at v x ≡ 0)

-- the walk has its leaf and goes up: these adds are left, of those that its playout gives; before
-- the first the walk stands at its leaf and may begin
abbrev pub Leaves : Walker → SeatView → Option Flight → List CountAdd → Type 0
Leaves w v None left =
    MayBegin v w.leaf × (w.leaf ≡ w.node) × (left ≡ walk_adds v.shape v.known w.number w.leaf)
    × IsBare v w.leaf
Leaves w v (Some f) left =
    (f.leaf ≡ w.leaf) × (left ≡ drop f.made (walk_adds v.shape v.known w.number w.leaf))
    × (f.made + length left ≡ length (walk_adds v.shape v.known w.number w.leaf))

pub record Up (w : Walker) (v : SeatView) : Type 0 where
  pub hand : HasNumber w v
  pub held : v.held ≡ None
  pub leaf : is_known v w.leaf ≡ true
  pub ending : w.ending ≡ outcome_of v.shape w.number (node_state v.shape v.known w.leaf)

-- and it stands at a node of the leaf's path
pub record Climbs (w : Walker) (v : SeatView) : Type 0 where
  pub up : Up w v
  pub player : w.player ≡ (node_state v.shape v.known w.node).player
  pub way : OnWay v w.way w.node

-- the adds of the nodes from there up to the root
abbrev pub adds_above : Walker → SeatView → List CountAdd
adds_above w v = (adds_up v.shape w.ending v.known w.node).adds

-- the walker holds its block, of which so many words are written
abbrev pub HoldsBlock : Walker → SeatView → ℕ → Type 0
HoldsBlock w v n = v.held ≡ Some (record {
  start = w.start;
  size = size_below (state_in w);
  written = take n (block_words (own_block w));
})

-- what the view is at each stage
pub record AtDraw (w : Walker) (v : SeatView) : Type 0 where
  pub ended : v.ended ≡ 0
  pub ticket : v.ticket ≡ None
  pub adds : v.adds ≡ None
  pub held : v.held ≡ None

pub record AtRoot (w : Walker) (v : SeatView) : Type 0 where
  pub hand : HasNumber w v
  pub adds : v.adds ≡ None
  pub held : v.held ≡ None
  pub at : w.at ≡ root_at v.shape + TALLY_WORD

pub record AtLink (w : Walker) (v : SeatView) : Type 0 where
  pub down : Down w v
  pub held : v.held ≡ None
  pub at : w.at ≡ w.node + LINK_WORD

pub record AtHeader (w : Walker) (v : SeatView) : Type 0 where
  pub down : Down w v
  pub held : v.held ≡ None
  pub block : LinkedBlock
  pub below : IsBelow w v block
  pub at : (w.start ≤ w.at) × (w.at < w.start + HEADER_WORDS)

pub record AtChild (w : Walker) (v : SeatView) : Type 0 where
  pub down : Down w v
  pub held : v.held ≡ None
  pub block : LinkedBlock
  pub below : IsBelow w v block
  pub scan : IsScan w v block

pub record AtClaim (w : Walker) (v : SeatView) : Type 0 where
  pub may : MayClaim w v
  pub held : v.held ≡ None

pub record AtWrite (w : Walker) (v : SeatView) : Type 0 where
  pub may : MayClaim w v
  pub above : w.node < w.start
  pub at : (w.start ≤ w.at) × (w.at < w.start + size_below (state_in w))
  pub held : HoldsBlock w v (w.at - w.start)

pub record AtPublish (w : Walker) (v : SeatView) : Type 0 where
  pub may : MayClaim w v
  pub above : w.node < w.start
  pub at : w.at ≡ w.node + LINK_WORD
  pub held : HoldsBlock w v (size_below (state_in w))

pub record AtTally (w : Walker) (v : SeatView) : Type 0 where
  pub climbs : Climbs w v
  pub at : w.at ≡ w.node + TALLY_WORD
  pub left : Leaves w v v.adds (adds_above w v)

-- the adds are at seen words of known nodes
abbrev pub AreSeen : SeatView → List CountAdd → Type 0
AreSeen v climb = (a : CountAdd) → Contains climb a → IsSeenWord v a.word

pub record AtSeen (w : Walker) (v : SeatView) : Type 0 where
  pub climbs : Climbs w v
  pub some : w.climb ≢ []
  pub seen : AreSeen v w.climb
  pub flight : Flight
  pub adds : v.adds ≡ Some flight
  pub left : Leaves w v (Some flight) (w.climb ++ adds_above w v)

pub record AtNote (w : Walker) (v : SeatView) : Type 0 where
  pub up : Up w v
  pub flight : Flight
  pub adds : v.adds ≡ Some flight
  pub left : Leaves w v (Some flight) []

pub record AtEnd (w : Walker) (v : SeatView) : Type 0 where
  pub ended : v.ended ≡ 1

abbrev pub Stands : Stage → Walker → SeatView → Type 0
Stands Drawing w v = AtDraw w v
Stands Rooting w v = AtRoot w v
Stands Linking w v = AtLink w v
Stands Heading w v = AtHeader w v
Stands Scanning w v = AtChild w v
Stands Claiming w v = AtClaim w v
Stands Writing w v = AtWrite w v
Stands Publishing w v = AtPublish w v
Stands Tallying w v = AtTally w v
Stands Seeing w v = AtSeen w v
Stands Noting w v = AtNote w v
Stands Ended w v = AtEnd w v

-- The view belongs to the walker: it is in order and of the walker's shape, stands for one worker,
-- is full if the walker had a claim past the area's end, and is what the walker's stage says.
pub record Belongs (w : Walker) (v : SeatView) : Type 0 where
  pub shape : v.shape ≡ w.shape
  pub view : IsView v
  pub width : v.width ≡ 1
  pub full : v.full ≡ w.full
  pub stands : Stands w.stage w v

-- the answer is one that the walker's next step may give, by a view that belongs to it
abbrev pub MayGet : Walker → ℕ → Type 0
MayGet w x = (v : SeatView) × Belongs w v × MayAnswer v (op_of w) x

-- The walker w with its view v makes its next step: the answer is one that the step may give, and
-- both are afterwards what they are after it.
pub record MakesStep (w : Walker) (v : SeatView) (later : Walker) (view : SeatView) : Type 0 where
  pub answer : ℕ
  pub may : MayAnswer v (op_of w) answer
  pub walker_is : later ≡ next w answer
  pub view_is : view ≡ after v (op_of w) answer
