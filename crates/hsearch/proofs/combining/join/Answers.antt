use Rattle.std.proofs.lemmas.Option.{slice_get_within}
use Rattle.hsearch.proofs.Growth.{IsPut, grown_put}
use Rattle.hsearch.proofs.Steps.{over_put}
use Rattle.hsearch.proofs.combining.join.Goals as goal

pub returns-in-Some-clause-extends : goal.returns-in-Some-clause-extends
returns-in-Some-clause-extends c = grown_put _ c.in-Some.entry _ _ c.put.ensures.after

pub returns-in-Some-clause-joined : goal.returns-in-Some-clause-joined
returns-in-Some-clause-joined c =
    let p : IsPut c.args.store.now c.put.new.store c.in-Some.entry c.put.result =
    record { dominated = c.put.ensures.dominated; full = c.put.ensures.full; after = c.put.ensures.after } in
    let o = c.requires.first in
    over_put c.args.store.now c.put.new.store c.args.first.now.number c.args.other c.args.first.now.middle c.in-Some.entry c.put.result
    (slice_get_within c.args.store.now.entries c.args.first.now.number o.entry.0 o.entry.1) c.requires.other c.in-Some.ensures.gives p
