-- Where the nodes of linked blocks lie, and what their words say.
use Rattle.std.proofs.Common.{◌≡◌, ℕ, ◌+◌, ◌*◌, ◌/◌, ◌<◌, ◌≤◌, true, List, length, refl, ap, ◌∙◌}
use Rattle.std.proofs.Common.{arith}
use Rattle.std.specs.Prelude.{slice_index}
use Rattle.tree_words.specs.Settings.{Setting, IsSetting}
use Rattle.tree_words.specs.Words.{root_at, area_at, end_of, next_in, nodes_in}
use Rattle.tree_words.specs.Blocks.{LinkedBlock, size, has_node, In}
use Rattle.tree_words.specs.Complete.{Linked}
use Rattle.tree_words.specs.Growth.{root_end}
use Rattle.tree_words.specs.Records.{Recorded, leaf_of}
use Rattle.tree_words.specs.Roots.{root_link, root_count}
use Rattle.tree_words.proofs.Blocks.BlockLaws.{has-at, root_node}
use Rattle.tree_words.proofs.Boards.RootLaws.{complete_in, root_of}
use Rattle.trace_audit.proofs.Cells.{IsMove, move_is}

module _ (s : Setting) (words : List ℕ) (bs : List LinkedBlock) (h : IsSetting s)
    (lk : Linked s words bs) where
  pub lies : (b : LinkedBlock) → In b bs → (area_at s ≤ b.start) × (b.start + size b ≤ end_of s)
  lies b i = (complete_in s (next_in words) bs b lk.complete i).1.inside

  pub parent_is : (b : LinkedBlock) → In b bs → slice_index words b.start ≡ b.parent
  parent_is b i =
      let none : b.start ≡ b.start + 0 = omega arith in
      ap (slice_index words) none ∙ lk.shows.blocks b 0 i (omega arith) refl

  pub count_is : (b : LinkedBlock) → In b bs → slice_index words (b.start + 3) ≡ length b.cells
  count_is b i = lk.shows.blocks b 3 i (omega arith) refl

  -- the place of a node in its block, and what its move says
  pub move_of : (b : LinkedBlock) (x : ℕ) → In b bs → has_node b x ≡ true
      → (k : ℕ) × (k < length b.cells) × (x ≡ b.start + 4 + 4 * k) × IsMove s words bs b k
  move_of b x i n =
      let at = has-at b x n in
      (at.0, at.1, omega (arith, at.2), move_is s words (next_in words) bs b at.0 h lk.order lk.complete i (λ j l m. lk.shows.blocks b j i l m) at.1)

  pub place_of : (b : LinkedBlock) (x : ℕ) → In b bs → has_node b x ≡ true
      → (x ≡ b.start + 4 + 4 * (slice_index words x / 256))
      × (slice_index words x / 256 < length b.cells)
  place_of b x i n =
      let m = move_of b x i n in
      let place : slice_index words x / 256 ≡ m.0 = ap (λ (y : ℕ). slice_index words y / 256) m.2
      ∙ m.3.place in
      (omega (arith, m.2, place), omega (arith, m.1, place))

  pub most_of : (b : LinkedBlock) (x : ℕ) → In b bs → has_node b x ≡ true
      → (area_at s ≤ x) × (x + 4 ≤ end_of s)
  most_of b x i n = let m = move_of b x i n in let l = lies b i in
      (omega (arith, m.2, l.0), omega (arith, m.1, m.2, l.1))

  -- the root's block lies inside the area
  pub root_within : Recorded s bs words → root_end s words ≤ end_of s
  root_within rec =
      let first = rec 0 (omega (arith, h.ranges.playouts.0)) in
      let f = root_of (root_at s) bs (leaf_of words 0) lk.order first.node first.below in
      let link : root_link s words ≡ f.0.start
      = lk.shows.links (root_at s) (root_node (root_at s) bs) ∙ f.3 in
      let count : root_count s words ≡ length f.0.cells = ap (nodes_in words) link
      ∙ count_is f.0 f.1 in
      omega (arith, link, count, (lies f.0 f.1).1)
