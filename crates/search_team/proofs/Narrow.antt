-- A search in a shape whose area ends earlier gives the tree of the whole shape.
use Rattle.std.proofs.Common.{◌≡◌, ◌≤◌, sym, ap, ◌∙◌, subst}
use Rattle.std.specs.Prelude.{min}
use Rattle.tree_words.specs.Settings.{Setting}
use Rattle.tree_words.specs.Words.{end_of, next_in}
use Rattle.tree_words.specs.Areas.{IsNarrower, all_words}
use Rattle.tree_words.specs.Closing.{ClosedTree}
use Rattle.tree_words.specs.Sequence.{seq_of}
use Rattle.tree_words.specs.Trees.{IsTreeOf}
use Rattle.tree_words.proofs.Areas.SameSequence.{widened_tree}

pub whole_tree : (s n : Setting) (closed whole : ClosedTree) → IsNarrower n s → closed.shape ≡ n
    → (n.knobs.workers ≡ 1 → IsTreeOf n closed.words (seq_of n).0)
    → (n.knobs.workers ≡ 1 → next_in closed.words ≡ (seq_of n).1)
    → whole.words ≡ all_words s closed.words
    → min (next_in closed.words) (end_of s) ≤ end_of closed.shape
    → s.knobs.workers ≡ 1 → IsTreeOf s whole.words (seq_of s).0
whole_tree s n closed whole narrower shape tree next words inside one =
    let workers : n.knobs.workers ≡ 1 = ap (λ (t : Setting). t.knobs.workers) narrower.area ∙ one in
    subst (λ w. IsTreeOf s w (seq_of s).0) (sym words)
    (widened_tree s n closed.words narrower (subst (λ (t : Setting). min (next_in closed.words)
    (end_of s) ≤ end_of t) shape inside) (next workers) (tree workers))
