use Rattle.cert_check.proofs.Stepping.{IsReadTo}
use Rattle.cert_check.proofs.checking.check.Given as goal

abbrev pub invariant-lines : goal.invariant-lines
invariant-lines l = IsReadTo l.cert l.checker l.number l.line-index
