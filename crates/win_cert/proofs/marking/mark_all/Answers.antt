-- One number more is marked.
use Rattle.std.proofs.Common.{arith}
use Rattle.win_cert.proofs.CutMarks.{next_marked}
use Rattle.win_cert.proofs.marking.mark_all.Goals as goal

pub numbers-preserved : goal.numbers-preserved
numbers-preserved c
    = next_marked c.args.marks.now.items c.numbers.marks.items c.args.numbers.now c.numbers.number-index (omega arith) c.requires c.numbers.invariant
