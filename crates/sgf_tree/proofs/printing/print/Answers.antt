use Rattle.std.proofs.Common.{◌≡◌, sym, subst, arith}
use Rattle.std.proofs.lemmas.Grind.{common_steps}
use Rattle.sgf_tree.specs.Grammar.{Text}
use Rattle.sgf_tree.specs.Printing.{trees_print}
use Rattle.sgf_tree.proofs.Printed.{text_printed}
use Rattle.sgf_tree.proofs.printing.print.Goals as goal

pub returns-in-Ok-clause-text : goal.returns-in-Ok-clause-text
returns-in-Ok-clause-text c =
    let trees = c.args.collection.now.trees in
    let is : c.of.result ≡ trees_print trees = grind (arith, common_steps) in
    subst (Text trees) (sym is) (text_printed trees c.requires.text)
