use Rattle.std.proofs.Common.{refl, subst, ◌<◌}
use Rattle.conn_store.specs.Stores.{most_of}
use Rattle.conn_store.specs.declared.entries.Held.{Held}
use Rattle.conn_store.proofs.Tables.{IsLooked, looked_full, looked_in, looked_not_full, looked_out}
use Rattle.conn_store.proofs.Tables.{looked_room, numbers_here}
use Rattle.conn_store.proofs.stores.Store.add.Goals as goal

pub has_inside-requires-clause-numbers : goal.has_inside-requires-clause-numbers
has_inside-requires-clause-numbers c
    = numbers_here c.args.self.now c.args.entry _ _ c.pair-held.ensures.numbers c.entries.ensures.value

pub returns-then-has_inside-clause-dominated : goal.returns-then-has_inside-clause-dominated
returns-then-has_inside-clause-dominated c =
    let k : IsLooked c.args.self.now c.args.entry c.pair-held.result.now c.entries.result.now c.has_inside.result =
    record { held = c.pair-held.ensures.numbers; few = c.pair-held.ensures.few; same_entries = c.entries.ensures.value; answer = c.has_inside.ensures } in
    (λ e. looked_out _ _ _ _ _ k c.if-has_inside.true, λ g. refl)

pub returns-then-has_inside-clause-full : goal.returns-then-has_inside-clause-full
returns-then-has_inside-clause-full c =
    let k : IsLooked c.args.self.now c.args.entry c.pair-held.result.now c.entries.result.now c.has_inside.result =
    record { held = c.pair-held.ensures.numbers; few = c.pair-held.ensures.few; same_entries = c.entries.ensures.value; answer = c.has_inside.ensures } in
    (λ e. absurd (cc), λ g. absurd (g.0 (looked_out _ _ _ _ _ k c.if-has_inside.true)))

pub returns-then-held-most-clause-dominated : goal.returns-then-held-most-clause-dominated
returns-then-held-most-clause-dominated c =
    let k : IsLooked c.args.self.now c.args.entry c.pair-held.result.now c.entries.result.now c.has_inside.result =
    record { held = c.pair-held.ensures.numbers; few = c.pair-held.ensures.few; same_entries = c.entries.ensures.value; answer = c.has_inside.ensures } in
    (λ e. absurd (cc), λ g. absurd (looked_in _ _ _ _ _ k c.if-has_inside.false g))

pub returns-then-held-most-clause-full : goal.returns-then-held-most-clause-full
returns-then-held-most-clause-full c =
    let k : IsLooked c.args.self.now c.args.entry c.pair-held.result.now c.entries.result.now c.has_inside.result =
    record { held = c.pair-held.ensures.numbers; few = c.pair-held.ensures.few; same_entries = c.entries.ensures.value; answer = c.has_inside.ensures } in
    (λ e. (looked_in _ _ _ _ _ k c.if-has_inside.false, looked_full _ _ _ _ _ _ k c.most.ensures c.if-held-most.true), λ g. refl)

pub append-requires-clause-room : goal.append-requires-clause-room
append-requires-clause-room c =
    let k : IsLooked c.args.self.now c.args.entry c.pair-held.result.now c.entries.result.now c.has_inside.result =
    record { held = c.pair-held.ensures.numbers; few = c.pair-held.ensures.few; same_entries = c.entries.ensures.value; answer = c.has_inside.ensures } in
    subst (λ (h : Held). h.count < most_of c.args.entry.kind) c.pair-held.ensures.numbers
    (looked_room _ _ _ _ _ _ k c.most.ensures c.if-held-most.false)

pub returns-clause-dominated : goal.returns-clause-dominated
returns-clause-dominated c =
    let k : IsLooked c.args.self.now c.args.entry c.pair-held.result.now c.entries.result.now c.has_inside.result =
    record { held = c.pair-held.ensures.numbers; few = c.pair-held.ensures.few; same_entries = c.entries.ensures.value; answer = c.has_inside.ensures } in
    (λ e. absurd (cc), λ g. absurd (looked_in _ _ _ _ _ k c.if-has_inside.false g))

pub returns-clause-full : goal.returns-clause-full
returns-clause-full c =
    let k : IsLooked c.args.self.now c.args.entry c.pair-held.result.now c.entries.result.now c.has_inside.result =
    record { held = c.pair-held.ensures.numbers; few = c.pair-held.ensures.few; same_entries = c.entries.ensures.value; answer = c.has_inside.ensures } in
    (λ e. absurd (cc), λ g. absurd (looked_not_full _ _ _ _ _ _ k c.most.ensures c.if-held-most.false g.1))
