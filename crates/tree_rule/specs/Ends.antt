-- What a closed tree has of its last seat.
use Rattle.std.specs.Prelude.{◌≡◌, ℕ, ◌<◌, ◌≤◌, List, length, slice_index, Some}
use mathlib.Core.Option.{some}
use lib.ListN.{get_elem?}
use Rattle.tree_words.specs.Settings.{Setting}
use Rattle.tree_words.specs.Words.{next_in, record_in}
use Rattle.tree_words.specs.Blocks.{LinkedBlock, In}
use Rattle.arena_rule.specs.Views.{SeatView}
use Rattle.arena_rule.specs.Parts.{value_noted}
use Rattle.arena_rule.specs.Rule.{Rule}
use Rattle.arena_rule.specs.Shown.{IsShown}

-- each of the blocks is what the words show: its parent's link names it, and its header and moves
-- stand there
abbrev pub AreShown : List ℕ → List LinkedBlock → Type 0
AreShown words blocks = (b : LinkedBlock) → In b blocks → IsShown words b

-- the record of each playout is the value that the view's walks have for its number
abbrev pub AreRecords : Setting → List ℕ → SeatView → Type 0
AreRecords s words v = (k : ℕ) → k < s.knobs.playouts → record_in words k ≡ value_noted k v

-- if the view has a copy of all words, the words are that copy
abbrev pub AreCopied : List ℕ → SeatView → Type 0
AreCopied words v = (copy : List ℕ) → v.whole ≡ Some copy → words ≡ copy

-- from NEXT on the words are those of the room
abbrev pub IsSameBehind : List ℕ → List ℕ → Type 0
IsSameBehind words room =
    (i : ℕ) → next_in words ≤ i → i < length room → slice_index words i ≡ slice_index room i

-- the words at the end: with the views of some seats, of which the one whose number is id has the
-- view v, the arena rule holds of them
pub record EndsWith (s : Setting) (id : ℕ) (v : SeatView) (words : List ℕ) : Type 0 where
  pub views : List SeatView
  pub rule : Rule s words views
  pub at : get_elem? views id ≡ some v
