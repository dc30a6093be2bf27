use Rattle.std.proofs.Common.{arith}
use Rattle.tree_words.specs.Roots.{HasRoot}
use Rattle.tree_words.specs.Settings.{IsSetting}
use Rattle.tree_words.proofs.Boards.RootLaws.{has_root}
use Rattle.tree_words.proofs.closed_tree.Closed.root_link.Goals as goal

pub returns-clause-root : goal.returns-clause-root
returns-clause-root c =
    let tree = c.args.self.now in
    has_root tree.shape tree.words c.keeps.ensures.setting c.keeps.ensures.closed

pub returns-clause-range : goal.returns-clause-range
returns-clause-range c =
    let tree = c.args.self.now in
    let set : IsSetting tree.shape = c.keeps.ensures.setting in
    let root : HasRoot tree.shape tree.words
    = has_root tree.shape tree.words set c.keeps.ensures.closed in
    omega (arith, root.within, c.keeps.ensures.closed.long, set.ranges.playouts.1, set.ranges.words.1)
