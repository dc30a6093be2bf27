use Rattle.std.proofs.Common.{refl}
use Rattle.hsearch.proofs.Growth.{IsPut, grown_put}
use Rattle.hsearch.proofs.Steps.{chosen_put}
use Rattle.hsearch.proofs.combining.choose_three.Goals as goal

pub returns-in-Some-clause-extends : goal.returns-in-Some-clause-extends
returns-in-Some-clause-extends c = grown_put _ c.in-Some.entry _ _ c.put.ensures.after

pub returns-in-Some-clause-chosen : goal.returns-in-Some-clause-chosen
returns-in-Some-clause-chosen c =
    let p : IsPut c.args.store.now c.put.new.store c.in-Some.entry c.put.result =
    record { dominated = c.put.ensures.dominated; full = c.put.ensures.full; after = c.put.ensures.after } in
    chosen_put c.args.store.now c.put.new.store _ _ _ c.in-Some.entry c.put.result
    (c.requires.first, (c.requires.second, (c.requires.third, tt))) c.in-Some.ensures.next c.in-Some.ensures.cause refl p
