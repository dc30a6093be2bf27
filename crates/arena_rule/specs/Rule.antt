-- The arena rule.
use Rattle.std.specs.Prelude.{◌≡◌, ℕ, List, [], ◌∷◌, ◌++◌, length, slice_index, slice_set}
use Rattle.tree_words.specs.Settings.{Setting, IsSetting}
use Rattle.tree_words.specs.Words.{end_of}
use Rattle.tree_words.specs.Blocks.{LinkedBlock}
use Rattle.tree_words.specs.declared.steps.Op.{Op}
use Rattle.arena_rule.specs.Views.{SeatView, spent_view}
use Rattle.arena_rule.specs.Afters.{word_of, put, answer_of, after, kept_part, given_part, joined}
use Rattle.arena_rule.specs.Parts.{Widths, Fresh, AreApart, AreLinked, AreWritten, Known, Sums}
use Rattle.arena_rule.specs.Parts.{Tickets, InHand, Sole}
use Rattle.arena_rule.specs.Bounds.{AreLoads, FirstVisits, LeafBound, Room}

-- the parts of the rule hold, if bs are the linked blocks
pub record IsState (s : Setting) (bs : List LinkedBlock)
    (words : List ℕ) (views : List SeatView) : Type 0 where
  pub setting : IsSetting s
  pub long : length words ≡ end_of s
  pub widths : Widths s words views
  pub fresh : Fresh s words
  pub apart : AreApart s bs words views
  pub linked : AreLinked s bs words
  pub held : AreWritten words views
  pub known : Known s bs views
  pub sums : Sums s bs words views
  pub tickets : Tickets s bs words views
  pub in_hand : InHand s words views
  pub sole : Sole words views
  pub loaded : AreLoads words views
  pub first_visits : FirstVisits bs words views
  pub leaf_bound : LeafBound s bs words views
  pub room : Room s bs words views

-- the arena rule: between any two steps there are blocks of which all parts hold
pub record Rule (s : Setting) (words : List ℕ) (views : List SeatView) : Type 0 where
  pub blocks : List LinkedBlock
  pub state : IsState s blocks words views

-- the words, and the views, after a step of the seat with the view v, whose number is id
abbrev pub words_after : List ℕ → Op → List ℕ
words_after words op = slice_set words (word_of op) (put op (slice_index words (word_of op)))

abbrev pub views_after : List ℕ → List SeatView → ℕ → SeatView → Op → List SeatView
views_after words views id v op =
    slice_set views id (after v op (answer_of op (slice_index words (word_of op))))

-- the views after a split of the seat, and after a join of the seat with the one whose number is
-- other and whose view is w
abbrev pub views_split : List SeatView → ℕ → SeatView → ℕ → List SeatView
views_split views id v part = slice_set views id (kept_part v part) ++ given_part v part ∷ []

abbrev pub views_joined : List SeatView → ℕ → SeatView → ℕ → SeatView → List SeatView
views_joined views id v other w =
    slice_set (slice_set views id (joined v w)) other (spent_view v.shape)
