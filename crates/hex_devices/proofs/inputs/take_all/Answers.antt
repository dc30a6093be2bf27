-- What was taken, and at what it ended.
use Rattle.std.proofs.Common.{ℕ, List, refl, arith, rules, subst}
use Rattle.hex_io.specs.Told.{Both, TakesBytes}
use Rattle.hex_devices.proofs.InputLaws.{took_nothing, took_all, took_before}
use Rattle.hex_devices.proofs.inputs.take_all.Goals as goal

pub pieces-init : goal.pieces-init
pieces-init g c
    = record { in_limit = grind arith; took = took_nothing _ _ (search rules); reads = refl; writes = refl }

pub returns-in-Err-clause-takes : goal.returns-in-Err-clause-takes
returns-in-Err-clause-takes g c
    = took_before _ _ _ c.pieces.input.items c.args.limit c.pieces.invariant.in_limit c.pieces.invariant.took c.in-Err.ensures.told

pub returns-then-count-eq0-clause-takes : goal.returns-then-count-eq0-clause-takes
returns-then-count-eq0-clause-takes g c =
    let told = g.L.Link.told in
    let buf : List ℕ = c.read_some.new.buffer in
    let none : Both (told c.pieces.link) (told c.read_some.new.link) (λ o t. TakesBytes o t 0 buf) =
    subst (λ n. Both (told c.pieces.link) (told c.read_some.new.link) (λ o t. TakesBytes o t n buf)) c.if-count-eq0.true c.in-Ok.ensures.told in
    (c.pieces.invariant.in_limit, took_all _ _ _ c.pieces.input.items buf c.pieces.invariant.took none)
