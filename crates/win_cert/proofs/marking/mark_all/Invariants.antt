-- The numbers so far are marked.
use Rattle.std.proofs.Common.{take}
use Rattle.win_cert.specs.Cutting.{IsMarkedBy}
use Rattle.win_cert.proofs.marking.mark_all.Given as goal

abbrev pub invariant-numbers : goal.invariant-numbers
invariant-numbers l = IsMarkedBy l.initial.marks.items (take l.number-index l.numbers) l.marks.items
