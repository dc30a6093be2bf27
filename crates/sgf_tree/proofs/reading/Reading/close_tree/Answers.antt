use Rattle.std.proofs.Common.{arith}
use Rattle.std.proofs.lemmas.Grind.{common_steps}
use Rattle.sgf_tree.proofs.Stacks.{stack-push, row-push, length-stack}
use Rattle.sgf_tree.proofs.reading.Reading.close_tree.Goals as goal

pub returns : goal.returns
returns c = (grind (arith, common_steps, stack-push, row-push), grind (arith, common_steps, length-stack))
