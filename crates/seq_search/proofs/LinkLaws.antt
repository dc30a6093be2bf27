-- The block that the link of a node names, and what stands in it.
use Rattle.std.proofs.Common.{◌≡◌, ◌≢◌, ℕ, ◌+◌, ◌*◌, ◌≤◌, ◌<◌, true, List, length, slice_index}
use Rattle.std.proofs.Common.{refl, sym, ap, ◌∙◌, ⊎_elim, arith}
use Rattle.tree_words.specs.Settings.{Setting}
use Rattle.tree_words.specs.Words.{root_at, link_in, next_in, move_word, tally_in, seen_in}
use Rattle.tree_words.specs.Blocks.{LinkedBlock, block_size, child, has_node, place, cell_at}
use Rattle.tree_words.specs.Blocks.{is_node, In, link_of}
use Rattle.tree_words.specs.Paths.{root_state, state_after, node_state}
use Rattle.tree_words.specs.Trees.{oldest_first}
use Rattle.tree_words.specs.Descents.{Names}
use Rattle.tree_words.proofs.Walks.Adds.{is_child}
use Rattle.tree_words.proofs.Blocks.BlockLaws.{has-at, move-word, move-stays}
use Rattle.tree_words.proofs.Walks.Down.{child-has}
use Rattle.tree_words.proofs.Blocks.GameLaws.{IsWhole, whole-in, in-node, up-in}
use Rattle.tree_words.proofs.Blocks.Orders.{link-names}
use Rattle.tree_words.specs.Walks.{AtMost}
use Rattle.seq_search.specs.Steps.{Holds}
use Rattle.tree_words.proofs.Blocks.Members.{node-in, in-turned, names-in, filled-in}

-- b is the block below x
pub record IsBelow (s : Setting) (bs : List LinkedBlock) (words : List ℕ) (x : ℕ)
    (b : LinkedBlock) : Type 0 where
  pub names : Names (oldest_first bs) x b
  pub inside : In b bs
  pub parent : b.parent ≡ x
  pub start : b.start ≡ link_in words x
  pub whole : IsWhole s (next_in words) bs b
  pub some : 0 < length b.cells
  pub count : slice_index words (b.start + 3) ≡ length b.cells
  pub fits : b.start + block_size (length b.cells) ≤ length words

module _ (s : Setting) (bs : List LinkedBlock) (words : List ℕ) (k : ℕ)
    (h : Holds s bs words k) where
  -- a node's four words are words of the tree
  pub node-fits : (x : ℕ) → is_node (root_at s) bs x ≡ true → x + 4 ≤ length words
  node-fits x n = ⊎_elim
      (λ (e : x ≡ root_at s). omega (arith, e, h.long))
      (λ (t : (b : LinkedBlock) × In b bs × (has_node b x ≡ true)).
      let w = whole-in s (next_in words) bs t.0 h.linked.order h.linked.complete t.1 in
      let a = has-at t.0 x t.2 in
      omega (arith, w.inside.1, a.1, a.2, h.long))
      (node-in (root_at s) bs x n)

  -- a link that is not 0 names a block
  pub below : (x : ℕ) → is_node (root_at s) bs x ≡ true → (link_in words x ≢ 0)
      → (b : LinkedBlock) × IsBelow s bs words x b
  below x n l =
      let link : link_in words x ≡ link_of bs x = h.linked.shows.links x n in
      let some : 0 < link_of bs x = omega (arith, link, l) in
      let t = link-names (root_at s) bs x h.linked.order some in
      let b : LinkedBlock = t.0 in
      let i = names-in (oldest_first bs) x b t.1 in
      let inside : In b bs = in-turned b bs i.0 in
      let w = whole-in s (next_in words) bs b h.linked.order h.linked.complete inside in (
        b,
        record {
          names = t.1;
          inside = inside;
          parent = i.1;
          start = t.2 ∙ sym link;
          whole = w;
          some = filled-in bs b h.filled inside;
          count = h.linked.shows.blocks b 3 inside (omega arith) refl;
          fits = omega (arith, w.inside.1, h.long);
        },
      )

  -- a child is a node
  pub child-node : (b : LinkedBlock) (i : ℕ) → In b bs → i < length b.cells
      → is_node (root_at s) bs (child b i) ≡ true
  child-node b i inside l = in-node (root_at s) bs b (child b i) inside (child-has b i l)

  -- the move word of a child
  pub child-move : (b : LinkedBlock) (i : ℕ) → In b bs → i < length b.cells
      → slice_index words (child b i) ≡ move_word i (cell_at b i)
  child-move b i inside l =
      let at : b.start + (4 + 4 * i) ≡ child b i = omega arith in
      ap (slice_index words) (sym at)
      ∙ h.linked.shows.blocks b (4 + 4 * i) inside (omega (arith, l)) (move-stays i)
      ∙ move-word b i

  -- the counts of a child
  pub child-counts : (b : LinkedBlock) (i : ℕ) → In b bs → i < length b.cells
      → AtMost k (tally_in words (child b i)) × AtMost k (seen_in words (child b i))
  child-counts b i inside l = h.counts (child b i) (child-node b i inside l)

  -- the spot of a child is its parent's after its cell
  pub child-spot : (b : LinkedBlock) (i : ℕ) → In b bs → i < length b.cells
      → node_state s bs (child b i) ≡ state_after (node_state s bs b.parent) (cell_at b i)
  child-spot b i inside l =
      up-in (root_state s) (λ c y above. state_after above (cell_at c (place c y))) (root_at s) bs b
      (child b i) h.linked.order inside (child-has b i l)
      ∙ ap (λ (j : ℕ). state_after (node_state s bs b.parent) (cell_at b j)) (is_child b.start i)
