-- The state before a step, and the forms of the laws of the parts.
--
-- Each part P of the rule has four laws, over the shape of the view that steps:
--   P-step   after a step that fits
--   P-split  after a split
--   P-join   after a join
--   P-first  of the opening words and the first views
-- The blocks after a step are one more if a Publish wins.
use Rattle.std.proofs.Common.{◌≡◌, ◌≢◌, ℕ, ◌<◌, List, [], ◌∷◌}
use Rattle.std.specs.Prelude.{◌==◌, if◌then◌else◌, sum_by, slice_index}
use mathlib.Core.Option.{some}
use lib.ListN.{get_elem?}
use Rattle.play_out.specs.Fills.{empties_of}
use Rattle.tree_words.specs.Settings.{Setting}
use Rattle.tree_words.specs.Blocks.{LinkedBlock}
use Rattle.tree_words.specs.Complete.{set_of}
use Rattle.tree_words.specs.Opening.{root_block, opening_words}
use Rattle.tree_words.specs.declared.steps.Op.{Op}
use Rattle.tree_words.specs.declared.steps.Op.TheVariants.{Draw, Look, Claim, Write, Publish, Add}
use Rattle.tree_words.specs.declared.steps.Op.TheVariants.{Note, Done}
use Rattle.arena_rule.specs.Views.{SeatView, HasDrawnNothing}
use Rattle.arena_rule.specs.Lookups.{told_below}
use Rattle.arena_rule.specs.Fits.{CanJoin}
use Rattle.arena_rule.specs.Afters.{node_of_link}
use Rattle.arena_rule.specs.Parts.{Each, width_of, Sole}
use Rattle.arena_rule.specs.Rule.{IsState}

-- the rule holds, over the shape of the view v, which is the one of seat id and not spent
pub record Before (bs : List LinkedBlock) (words : List ℕ) (views : List SeatView) (id : ℕ)
    (v : SeatView) : Type 0 where
  pub state : IsState v.shape bs words views
  pub at : get_elem? views id ≡ some v
  pub live : 0 < v.width

-- the linked blocks after a step: if a Publish finds 0, the told block is one more
abbrev pub blocks_after : List LinkedBlock → List ℕ → SeatView → Op → List LinkedBlock
blocks_after bs words v Draw = bs
blocks_after bs words v (Look i) = bs
blocks_after bs words v (Claim size) = bs
blocks_after bs words v (Write i value) = bs
blocks_after bs words v (Publish l b)
    = if slice_index words l == 0 then told_below v (node_of_link l) b ∷ bs else bs
blocks_after bs words v (Add i won) = bs
blocks_after bs words v (Note k value) = bs
blocks_after bs words v Done = bs

-- the other seat of a join
pub record Other (views : List SeatView) (id : ℕ) (v : SeatView) (other : ℕ)
    (w : SeatView) : Type 0 where
  pub at : get_elem? views other ≡ some w
  pub differ : other ≢ id
  pub live : 0 < w.width
  pub can : CanJoin v w

-- the linked blocks of the opening words
abbrev pub opening_blocks : Setting → List LinkedBlock
opening_blocks s = root_block s (set_of (empties_of s.board)) ∷ []

-- views with which a search may begin: of its shape, with nothing drawn, known or loaded, for K
-- workers together
pub record AreFirst (s : Setting) (views : List SeatView) : Type 0 where
  pub each : Each
      (λ v. (v.shape ≡ s) × HasDrawnNothing v × (v.known ≡ []) × (v.loads ≡ []) × (0 < v.width)) views
  pub sum : sum_by width_of views ≡ s.knobs.workers
  pub sole : Sole (opening_words s) views
