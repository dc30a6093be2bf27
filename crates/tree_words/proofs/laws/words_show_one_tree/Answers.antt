use Rattle.tree_words.proofs.Blocks.OneTree.{one-blocks, one-tree}
use Rattle.tree_words.proofs.laws.words_show_one_tree.Goals as goal

pub returns-clause-blocks : goal.returns-clause-blocks
returns-clause-blocks c s words set bs others h k
    = one-blocks s words bs others set.position.most h k

pub returns-clause-tree : goal.returns-clause-tree
returns-clause-tree c s words set bs others h k = one-tree s words bs others set.position.most h k
