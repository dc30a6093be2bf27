use Rattle.hsearch.specs.Waiting.{IsWithRange}
use Rattle.hsearch.proofs.waiting.Waiting.put_from.Given as goal

abbrev pub invariant-entries : goal.invariant-entries
invariant-entries l = IsWithRange l.fn.self l.self l.first l.number
