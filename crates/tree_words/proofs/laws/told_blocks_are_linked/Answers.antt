use Rattle.std.proofs.Common.{refl}
use Rattle.tree_words.specs.Words.{link_in}
use Rattle.tree_words.proofs.Blocks.Within.{within-state, told-real}
use Rattle.tree_words.proofs.laws.told_blocks_are_linked.Goals as goal

pub returns-clause-nodes : goal.returns-clause-nodes
returns-clause-nodes c s words blocks h known x k n = within-state s blocks known x h.order k n

pub returns-clause-blocks : goal.returns-clause-blocks
returns-clause-blocks c s words blocks set h known x k n l
    = told-real s words blocks known x (link_in words x) h k n set.position.most refl l
