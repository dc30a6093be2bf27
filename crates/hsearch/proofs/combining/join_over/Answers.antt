use Rattle.std.proofs.Common.{◌<◌, arith, get_or, length, subst, sym}
use Rattle.hsearch.specs.Taken.{IsAndSettledOver}
use Rattle.hsearch.proofs.Steps.{at_place, joined_all, joined_more, number_grown, over_kept}
use Rattle.hsearch.proofs.combining.join_over.Goals as goal

pub join-requires-clause-first : goal.join-requires-clause-first
join-requires-clause-first c
    = over_kept c.args.store.now c.others.store c.over-first.result c.others.invariant.grown c.over-first.ensures.over

pub join-requires-clause-other : goal.join-requires-clause-other
join-requires-clause-other c =
    number_grown c.args.store.now c.others.store
    (get_or c.args.list.now c.others.place 0) c.others.invariant.grown
    (c.requires.list (get_or c.args.list.now c.others.place 0) (at_place c.args.list.now c.others.place (omega arith)))

pub others-preserved : goal.others-preserved
others-preserved c =
    joined_more c.args.store.now c.others.store c.join.new.store c.over-first.result.number c.over-first.result.middle c.args.list.now c.others.place
    c.others.invariant
    c.join.ensures.extends
    (subst (λ n. n < length c.args.store.now.entries) (sym c.over-first.ensures.names.0) c.requires.number) (omega arith) c.requires.list
    c.join.ensures.joined

pub returns-clause-joined : goal.returns-clause-joined
returns-clause-joined c =
    λ i m. subst (λ n. IsAndSettledOver c.others.store n i c.args.middle) c.over-first.ensures.names.0
    (subst (λ u. IsAndSettledOver c.others.store c.over-first.result.number i u) c.over-first.ensures.names.1
    (joined_all c.others.store c.over-first.result.number c.over-first.result.middle c.args.list.now (λ q l. c.others.invariant.done q (omega arith)) i m))
