use Rattle.std.proofs.Common.{arith, []}
use Rattle.std.proofs.lemmas.Grind.{common_steps}
use Rattle.sgf_tree.proofs.Stacks.{stack-push, length-stack}
use Rattle.sgf_tree.proofs.reading.Reading.open_tree.Goals as goal

pub returns-then-len-ge-MAX_OPEN : goal.returns-then-len-ge-MAX_OPEN
returns-then-len-ge-MAX_OPEN c = omega (arith, length-stack c.args.self.now.outer.items [])

pub returns : goal.returns
returns c = (grind (arith, common_steps, stack-push), grind (arith, common_steps, stack-push, length-stack))
