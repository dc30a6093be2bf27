-- What a view's known blocks tell, the linked blocks tell too: nodes, boards and the adds of walks.
use Rattle.std.proofs.Common.{◌≡◌, ℕ, true, List, ◌∷◌, ap, ◌∙◌}
use Rattle.std.proofs.lemmas.Bool.{or_right}
use mathlib.Core.Option.{some}
use lib.ListN.{get_elem?}
use Rattle.tree_words.specs.Settings.{Setting}
use Rattle.tree_words.specs.Words.{root_at}
use Rattle.tree_words.specs.Blocks.{LinkedBlock, has_node, InOrder, is_node}
use Rattle.tree_words.specs.Paths.{NodeState, node_state}
use Rattle.play_out.specs.declared.playouts.Ending.{Ending}
use Rattle.tree_words.specs.Sequence.{outcome_of}
use Rattle.tree_words.specs.Told.{Knows}
use Rattle.tree_words.proofs.Blocks.Within.{within-node, within-state, within-up}
use Rattle.arena_rule.specs.Views.{SeatView}
use Rattle.arena_rule.specs.Adds.{root_adds, node_adds, Gathered, adds_up, walk_adds}
use Rattle.arena_rule.proofs.Before.{Before}

-- the adds of a walk to a known node
pub within-adds : (s : Setting) (bs ks : List LinkedBlock) (k leaf : ℕ) → InOrder (root_at s) bs
    → Knows (root_at s) bs ks → is_node (root_at s) ks leaf ≡ true
    → walk_adds s ks k leaf ≡ walk_adds s bs k leaf
unfolding walk_adds
within-adds s bs ks k leaf g kn n =
    let o : Ending = outcome_of s k (node_state s bs leaf) in
    ap (λ (p : NodeState). (adds_up s (outcome_of s k p) ks leaf).adds)
    (within-state s bs ks leaf g kn n)
    ∙ ap (λ (a : Gathered). a.adds)
    (within-up (root_adds s o) (node_adds o) (root_at s) bs ks leaf g kn n)

-- a node stays one if one more block is known
pub node-more : (r : ℕ) (d : LinkedBlock) (ks : List LinkedBlock) (x : ℕ) → is_node r ks x ≡ true
    → is_node r (d ∷ ks) x ≡ true
node-more r d ks x n = or_right (has_node d x) (is_node r ks x) n

module _ (bs : List LinkedBlock) (words : List ℕ) (views : List SeatView) (id : ℕ) (v : SeatView)
    (b : Before bs words views id v) where
  pub shape-of-each : (j : ℕ) (u : SeatView) → get_elem? views j ≡ some u → u.shape ≡ v.shape
  shape-of-each j u e = (b.state.widths.each j u e).shape

  pub known-node : (j : ℕ) (u : SeatView) (x : ℕ) → get_elem? views j ≡ some u
      → is_node (root_at v.shape) u.known x ≡ true → is_node (root_at v.shape) bs x ≡ true
  known-node j u x e n = within-node (root_at v.shape) bs u.known x (b.state.known j u e) n

  pub known-adds : (j : ℕ) (u : SeatView) (k leaf : ℕ) → get_elem? views j ≡ some u
      → is_node (root_at v.shape) u.known leaf ≡ true
      → walk_adds v.shape u.known k leaf ≡ walk_adds v.shape bs k leaf
  known-adds j u k leaf e n = within-adds v.shape bs u.known k leaf b.state.linked.blocks.order
      (b.state.known j u e) n

  pub known-state : (j : ℕ) (u : SeatView) (x : ℕ) → get_elem? views j ≡ some u
      → is_node (root_at v.shape) u.known x ≡ true
      → node_state v.shape u.known x ≡ node_state v.shape bs x
  known-state j u x e n = within-state v.shape bs u.known x b.state.linked.blocks.order
      (b.state.known j u e) n
