use Rattle.std.proofs.Common.{ap, ◌∙◌}
use Rattle.win_cert.specs.Verdicts.{raised}
use Rattle.win_cert.proofs.SameVerdict.{raised_alike}
use Rattle.win_cert.proofs.raising.raise.Goals as goal

pub returns-clause-verdict : goal.returns-clause-verdict
returns-clause-verdict c =
    let cert = c.args.cert.now in
    raised_alike cert _
    (ap (λ lines. record (raised cert) { lines = lines }) (c.of.ensures ∙ c.in_ok-lines.ensures ∙ c.as_slice.ensures))
