-- Views in order: what can be told of a view alone.
use Rattle.std.specs.Prelude.{◌≡◌, ◌⊎◌, ℕ, ◌+◌, ◌<◌, ◌≤◌, true, List, [], ◌∷◌, Some}
use Rattle.tree_words.specs.Settings.{Setting, IsSetting}
use Rattle.tree_words.specs.Words.{root_at, area_at, end_of}
use Rattle.tree_words.specs.Blocks.{LinkedBlock, is_node, size, cover, InOrder}
use Rattle.tree_words.specs.Told.{told_block}
use Rattle.arena_rule.specs.Views.{SeatView, HeldBlock, Flight, HasEnded}
use Rattle.arena_rule.specs.Lookups.{is_known, is_held}

-- the block b is known after the blocks `known`: its parent is known, it is the told block of its
-- link, and it lies inside the area
pub record IsTold (s : Setting) (known : List LinkedBlock) (b : LinkedBlock) : Type 0 where
  pub parent : is_node (root_at s) known b.parent ≡ true
  pub told : b ≡ told_block s known b.parent b.start
  pub inside : (area_at s ≤ b.start) × (b.start + size b ≤ end_of s)

abbrev pub AreTold : Setting → List LinkedBlock → Type 0
AreTold s [] = Unit {0}
AreTold s (b ∷ known) = IsTold s known b × AreTold s known

-- the view stands for two or more workers, who have all ended: a join tells nothing of what the
-- other seat knew
pub record IsJoined (v : SeatView) : Type 0 where
  pub ended : HasEnded v
  pub more : 2 ≤ v.width

-- The view is in order. Its shape is one that is searched, and it stands for a worker at least.
-- Each known block is told by the ones behind it and lies inside the area; but for a joined view
-- they stand in order: each lies behind its parent, is the only one below it, and shares no word
-- with another. A number in hand is below N, a held block lies inside the area and shares no word
-- with a known one, and the leaf of a walk in flight is a known node.
pub record IsView (v : SeatView) : Type 0 where
  pub setting : IsSetting v.shape
  pub width : 1 ≤ v.width
  pub known : AreTold v.shape v.known
  pub order : IsJoined v ⊎ InOrder (root_at v.shape) v.known
  pub ticket : (k : ℕ) → v.ticket ≡ Some k → k < v.shape.knobs.playouts
  pub held : (h : HeldBlock) → v.held ≡ Some h
      → (area_at v.shape ≤ h.start) × (h.start + h.size ≤ end_of v.shape)
  pub apart : (i : ℕ) → is_held v.held i ≡ true → cover i v.known ≡ 0
  pub leaf : (f : Flight) → v.adds ≡ Some f → is_known v f.leaf ≡ true
