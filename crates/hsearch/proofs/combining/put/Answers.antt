use Rattle.std.proofs.Common.{arith}
use Rattle.conn_store.proofs.Numbers.{counted_full}
use Rattle.conn_store.proofs.Tables.{held_count}
use Rattle.hsearch.proofs.combining.put.Goals as goal

pub returns-then-held-most-clause-full : goal.returns-then-held-most-clause-full
returns-then-held-most-clause-full c =
    λ e. counted_full c.args.store.now c.args.entry.kind c.args.entry.x c.args.entry.y
    (omega (arith, held_count c.held-held.result _ c.held-held.ensures.numbers, c.most.ensures, c.if-held-most.true))
