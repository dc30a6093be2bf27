use Rattle.std.proofs.Common.{ap, sym, ◌∙◌, ◌+◌, drop, Some}
use Rattle.win_cert.specs.Lines.{lines_of}
use Rattle.win_cert.proofs.LineParts.{last_line, next_line}
use Rattle.std.proofs.lemmas.List.{take_rest}
use Rattle.win_cert.proofs.reader.Reader.next.Goals as goal

pub returns-in-None-clause-line : goal.returns-in-None-clause-line
returns-in-None-clause-line c = last_line c.args.self.now.rest.now (sym c.in-None.ensures)

pub returns-in-Some-clause-line : goal.returns-in-Some-clause-line
returns-in-Some-clause-line c =
    let text = c.args.self.now.rest.now in
    next_line text c.in-Some.end (sym c.in-Some.ensures)
    ∙ ap (λ words. Some (words, lines_of (drop (c.in-Some.end + 1) text))) (sym c.of.ensures)
    ∙ ap (λ rest. Some (c.of.result, lines_of rest)) (sym (take_rest text (c.in-Some.end + 1)))
