use Rattle.std.proofs.Common.{arith, ◌+◌}
use Rattle.win_cert.specs.Lines.{lines_of}
use Rattle.win_cert.proofs.StepLines.{line_added, step_is}
use Rattle.win_cert.proofs.reading.take_line.Goals as goal

pub returns-in_ok-add-in-Derivation-clause-value : goal.returns-in_ok-add-in-Derivation-clause-value
returns-in_ok-add-in-Derivation-clause-value c = λ some.
    let rest = lines_of c.next_step.new.reader.rest.now in
    line_added c.args.version c.args.size
    (c.args.reader.now.line + 1) c.args.lines.now.items c.add.new.lines.items
    (lines_of c.args.reader.now.rest.now) rest c.in-Derivation.line
    (λ e. absurd (omega (arith, e))) c.in_ok-add-in-Derivation.ensures.ok
    (step_is c.in_ok-step.step c.in-Derivation.line rest _ c.in-Derivation.is (c.in_ok-step.ensures.value (λ e. cc)))
