-- What a walk adds, word by word.
use Rattle.std.proofs.Common.{◌≡◌, ◌≢◌, ◌⊎◌, ℕ, ◌+◌, ◌<◌, true, cond, List, length, set as set_at}
use Rattle.std.proofs.Common.{length-set, get_or-set_same, get_or-set_other, slice_index, sym, ap}
use Rattle.std.proofs.Common.{◌∙◌, subst, ⊎_elim, arith}
use Rattle.hex_cells.specs.Sets.{has as has_cell}
use Rattle.hex_cells.specs.declared.colours.Colour.{Colour}
use Rattle.tree_words.specs.Words.{cell_in, root_at, tally_in, seen_in, node_at}
use Rattle.seq_search.specs.Adding.{Sighted}
use Rattle.tree_words.specs.Settings.{Setting}
use Rattle.tree_words.specs.Blocks.{LinkedBlock, is_node}
use Rattle.tree_words.specs.Paths.{root_state, node_state}
use Rattle.tree_words.specs.Walks.{plus}
use Rattle.tree_words.specs.Trees.{oldest_first}
use Rattle.play_out.specs.declared.playouts.Ending.{Ending}
use Rattle.tree_words.specs.Sequence.{search_game}
use Rattle.tree_words.specs.Descents.{adds, sees}
use Rattle.seq_search.specs.Descending.{steps_below}

module _ (b n set amount : ℕ) (before now : List ℕ) (s : Sighted b n set amount before now) where
  -- the move of the next node, and its seen word, are as before
  pub sighted-move : slice_index now (node_at b n) ≡ slice_index before (node_at b n)
  sighted-move = s.others (node_at b n) (λ k l e. omega arith)

  pub sighted-word : slice_index now (node_at b n + 3) ≡ slice_index before (node_at b n + 3)
  sighted-word = s.others (node_at b n + 3) (λ k l e. omega arith)

  -- the next node gains the amount if its cell is in the set, and else nothing
  pub sighted-next : (gain : ℕ)
      → gain ≡ cond (has_cell set (cell_in (slice_index before (node_at b n)))) amount 0
      → node_at b n + 3 < length before → (after : List ℕ)
      → after ≡ set_at now (node_at b n + 3) (slice_index now (node_at b n + 3) + gain)
      → Sighted b (n + 1) set amount before after
  sighted-next gain h l after is =
      let j : ℕ = node_at b n + 3 in
      let v : ℕ = slice_index now j + gain in
      let lj : j < length now = omega (arith, l, s.long) in
      let other : (i : ℕ) → i ≢ j → slice_index after i ≡ slice_index now i
      = λ i ne. ap (λ (w : List ℕ). slice_index w i) is ∙ get_or-set_other now j i v 0 ne in
      let same : slice_index after j ≡ v = ap (λ (w : List ℕ). slice_index w j) is
      ∙ get_or-set_same now j v 0 lj in
      let seen : slice_index after j ≡ slice_index before j + cond (has_cell set (cell_in (slice_index before (node_at b n)))) amount 0
      = same ∙ (λ i. sighted-word i + h i) in
      record {
        long = ap length is ∙ length-set now j v ∙ s.long;
        seen = λ k lk. ⊎_elim (λ (m : k < n). other (node_at b k + 3) (λ e. omega (arith, m, e)) ∙ s.seen k m)
            (λ (e : k ≡ n). subst (λ (m : ℕ). slice_index after (node_at b m + 3) ≡ slice_index before (node_at b m + 3)
            + cond (has_cell set (cell_in (slice_index before (node_at b m)))) amount 0) (sym e) seen)
            (last k lk);
        others = λ i h'. other i (h' n (omega arith))
            ∙ s.others i (λ k lk. h' k (omega (arith, lk)));
      }
    where
      last : (k : ℕ) → k < n + 1 → (k < n) ⊎ (k ≡ n)
      last k l = grind arith

-- how far the adds have come: the way is gone down to x, the counts of x are still to come, and
-- these are the steps that are left
pub record Adding (s : Setting) (bs : List LinkedBlock) (o : Ending) (before now : List ℕ) (x : ℕ)
    (who : Colour) (left : List ℕ) : Type 0 where
  pub long : length now ≡ length before
  pub node : is_node (root_at s) bs x ≡ true
  pub player : who ≡ (node_state s bs x).player
  pub tally : (w : ℕ) → is_node (root_at s) bs w ≡ true
      → plus (tally_in now w)
      (adds (search_game s) (tally_in before) (seen_in before) o (oldest_first bs) x (node_state s bs x) w)
      ≡ plus (tally_in before w)
      (adds (search_game s) (tally_in before) (seen_in before) o (oldest_first bs) (root_at s) (root_state s) w)
  pub seen : (w : ℕ) → is_node (root_at s) bs w ≡ true
      → plus (seen_in now w)
      (sees (search_game s) (tally_in before) (seen_in before) o (oldest_first bs) x (node_state s bs x) w)
      ≡ plus (seen_in before w)
      (sees (search_game s) (tally_in before) (seen_in before) o (oldest_first bs) (root_at s) (root_state s) w)
  pub others : (i : ℕ) → ((w : ℕ) → is_node (root_at s) bs w ≡ true → (i ≢ w + 2) × (i ≢ w + 3))
      → slice_index now i ≡ slice_index before i
  pub rest : left ≡ steps_below s bs before x
