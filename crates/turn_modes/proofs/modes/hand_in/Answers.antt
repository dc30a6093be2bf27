-- What was handed over is what was told.
use Rattle.std.proofs.Common.{ℕ, List, Ok, Err, rules, subst, sym}
use Rattle.std.proofs.lemmas.Result.{err_from_is_err_and}
use Rattle.turn_modes.specs.HandingIn.{IsTurnOf}
use Rattle.turn_modes.proofs.Handed.{handed_as}
use Rattle.turn_modes.proofs.modes.hand_in.Goals as goal

pub returns-in_err-hand_over-clause-hands : goal.returns-in_err-hand_over-clause-hands
returns-in_err-hand_over-clause-hands g c =
    let p = err_from_is_err_and c.from_residual-in_err-hand_over.result
    c.from_residual-in_err-hand_over.ensures.1 in
    let turn = c.in_ok-told.told.turn in
    let says : IsTurnOf c.args.mode c.args.options.now turn c.deref.result.now
    = subst (λ (text : List ℕ). IsTurnOf c.args.mode c.args.options.now turn text)
    (sym c.deref.ensures.value) c.in_ok-told.ensures in
    rw (p.1, p.2)
    (handed_as (IsTurnOf c.args.mode c.args.options.now)
    (g.D.Link.Link.told c.devices.inside.link.now) (g.D.Link.Link.told c.hand_over.new.link) _ _
    (g.D.Archive.Archive.told c.devices.inside.archive.now) (g.D.Archive.Archive.told c.hand_over.new.archive) _ _
    turn c.deref.result.now (Err c.in_err-hand_over.field-0.0)
    (search rules) (search rules) (search rules) (search rules) says c.in_err-hand_over.ensures.hands)

pub returns-clause-hands : goal.returns-clause-hands
returns-clause-hands g c =
    let turn = c.in_ok-told.told.turn in
    let says : IsTurnOf c.args.mode c.args.options.now turn c.deref.result.now
    = subst (λ (text : List ℕ). IsTurnOf c.args.mode c.args.options.now turn text)
    (sym c.deref.ensures.value) c.in_ok-told.ensures in
    handed_as (IsTurnOf c.args.mode c.args.options.now)
    (g.D.Link.Link.told c.devices.inside.link.now) (g.D.Link.Link.told c.hand_over.new.link) _ _
    (g.D.Archive.Archive.told c.devices.inside.archive.now) (g.D.Archive.Archive.told c.hand_over.new.archive) _ _
    turn c.deref.result.now (Ok tt)
    (search rules) (search rules) (search rules) (search rules) says c.in_ok-hand_over.ensures.hands
