-- What the rule says of known blocks, of held ones, of wins, and of views in order.
use Rattle.std.specs.Prelude.{◌≡◌, ◌≢◌, ℕ, ◌+◌, ◌<◌, ◌≤◌, true, List, Some, slice_index}
use Rattle.tree_words.specs.Settings.{Setting}
use Rattle.tree_words.specs.Words.{root_at, link_in, tally_in, seen_in}
use Rattle.tree_words.specs.Blocks.{LinkedBlock, In, is_node, size, is_header_or_move}
use Rattle.tree_words.specs.Blocks.{header_or_move}
use Rattle.tree_words.specs.declared.steps.Op.{Op}
use Rattle.arena_rule.specs.Views.{SeatView, HeldBlock}
use Rattle.arena_rule.specs.Fits.{FitsStep, CanSplit, CanJoin}
use Rattle.arena_rule.specs.Afters.{after, kept_part, given_part, joined}
use Rattle.arena_rule.specs.Answers.{MayAnswer}
use Rattle.arena_rule.specs.IsView.{IsView}
use Rattle.arena_rule.specs.Runs.{Arena, RuleHolds, IsSeat}

-- the link of the block's parent names it, and its header and moves stand there
pub record IsShown (words : List ℕ) (b : LinkedBlock) : Type 0 where
  pub link : link_in words b.parent ≡ b.start
  pub block : (j : ℕ) → j < size b → is_header_or_move j ≡ true
      → slice_index words (b.start + j) ≡ header_or_move b j

-- each block that a seat knows is shown
abbrev pub KnowsShown : Arena → Type 0
KnowsShown a = (id : ℕ) (v : SeatView) (b : LinkedBlock) → IsSeat a.views id v → In b v.known
    → IsShown a.words b

-- each of these blocks is known after the step too
abbrev pub KeepsKnown : SeatView → Type 0
KeepsKnown v = (op : Op) (x : ℕ) (b : LinkedBlock) → In b v.known → In b (after v op x).known

-- no link of a node of the tree names a block that a seat holds
abbrev pub HoldsUnnamed : (s : Setting) (a : Arena) → RuleHolds s a → Type 0
HoldsUnnamed s a rule = (id : ℕ) (v : SeatView) (h : HeldBlock) (x : ℕ)
    → IsSeat a.views id v → v.held ≡ Some h
    → is_node (root_at s) rule.blocks x ≡ true → link_in a.words x ≢ h.start

-- the wins of each node of the tree are at most its visits, and its seen wins at most its seen
-- visits
abbrev pub WinsAmongVisits : (s : Setting) (a : Arena) → RuleHolds s a → Type 0
WinsAmongVisits s a rule = (x : ℕ) → is_node (root_at s) rule.blocks x ≡ true
    → ((tally_in a.words x).wins ≤ (tally_in a.words x).visits)
    × ((seen_in a.words x).wins ≤ (seen_in a.words x).visits)

-- each step that fits the view and whose answer it may give leaves a view in order
abbrev pub StepsKeepOrder : SeatView → Type 0
StepsKeepOrder v =
    (op : Op) (x : ℕ) → FitsStep v op → MayAnswer v op x → IsView (after v op x)

-- each split of the view leaves both views in order, and each join with a view in order of its
-- shape
abbrev pub SplitsKeepOrder : SeatView → Type 0
SplitsKeepOrder v =
    (part : ℕ) → CanSplit v part → IsView (kept_part v part) × IsView (given_part v part)

abbrev pub JoinsKeepOrder : SeatView → Type 0
JoinsKeepOrder v =
    (w : SeatView) → IsView w → w.shape ≡ v.shape → CanJoin v w → IsView (joined v w)
