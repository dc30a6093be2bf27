-- The loop has gone over the entries at the places.
use Rattle.std.proofs.Common.{◌∙◌, refl, sym, rules, tests, slice_get}
use Rattle.std.proofs.lemmas.List.{map-id}
use Rattle.std.proofs.lemmas.Iterator.{YieldsList-from_slice}
use Rattle.std.proofs.lemmas.Iterator.Consumers.{YieldsList-at, YieldsList-end, YieldsList-from_filter_map}
use Rattle.edge_tables.proofs.cases.together.Goals as goal

pub returns : goal.returns
returns c =
    let end = YieldsList-end (YieldsList-at {t = c.filter_map-entry-items.result} (cc)
    (YieldsList-from_filter_map _ (λ p. slice_get c.args.entries.now p) (YieldsList-from_slice c.args.places.now cc)
    c.filter_map-entry-items.ensures.closure (λ x r q k. search (rules, tests))))
    c.loop-entry.yielded _ c.loop-entry.yielded_by _ _ c.in-None.is c.next.ensures.steps in
    let all = rw (sym (map-id c.loop-entry.yielded) ∙ end.0) at c.loop-entry.invariant in
    record { cells = all.cells; lines = all.lines; by_cases = refl }
