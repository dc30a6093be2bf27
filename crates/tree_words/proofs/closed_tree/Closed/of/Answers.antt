use Rattle.tree_words.proofs.Areas.FirstWords.{all_full, full_kept}
use Rattle.tree_words.proofs.closed_tree.Closed.of.Goals as goal

pub invariant_of-result : goal.invariant_of-result
invariant_of-result c = full_kept c.args.shape c.args.words.items c.requires

pub returns : goal.returns
returns c =
    let words = all_full c.args.shape c.args.words.items c.requires.long in
    λ i. record { shape = c.args.shape; words = words i }
