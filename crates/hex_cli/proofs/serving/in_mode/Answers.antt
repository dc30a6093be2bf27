-- What each kind of mode does.
use Rattle.std.proofs.Common.{subst, sym, ◌∙◌}
use Rattle.hex_cli.specs.Served.{IsIdleBy, ServesBy}
use Rattle.hex_cli.proofs.serving.in_mode.Goals as goal

pub returns-in-Session-clause-does : goal.returns-in-Session-clause-does
returns-in-Session-clause-does g c =
    subst (λ kind. ServesBy kind c.args.options.now c.play.result
    c.args.devices.now c.play.new.devices)
    (sym c.in-Session.is ∙ c.of.ensures) c.play.ensures.plays

pub returns-in-WholeInput-clause-does : goal.returns-in-WholeInput-clause-does
returns-in-WholeInput-clause-does g c =
    subst (λ kind. ServesBy kind c.args.options.now c.serve_input.result
    c.args.devices.now c.serve_input.new.devices)
    (sym c.in-WholeInput.is ∙ c.of.ensures) c.serve_input.ensures.answers

pub returns-in-OneTurn-clause-does : goal.returns-in-OneTurn-clause-does
returns-in-OneTurn-clause-does g c =
    subst (λ kind. ServesBy kind c.args.options.now c.serve_turn.result
    c.args.devices.now c.serve_turn.new.devices)
    (sym c.in-OneTurn.is ∙ c.of.ensures) c.serve_turn.ensures.hands

pub returns-in-Session-clause-idle : goal.returns-in-Session-clause-idle
returns-in-Session-clause-idle g c =
    subst (λ kind. IsIdleBy kind c.args.devices.now c.play.new.devices)
    (sym c.in-Session.is ∙ c.of.ensures) tt

pub returns-in-WholeInput-clause-idle : goal.returns-in-WholeInput-clause-idle
returns-in-WholeInput-clause-idle g c =
    subst (λ kind. IsIdleBy kind c.args.devices.now c.serve_input.new.devices)
    (sym c.in-WholeInput.is ∙ c.of.ensures)
    (c.serve_input.ensures.unfetched, c.serve_input.ensures.unarchived)

pub returns-in-OneTurn-clause-idle : goal.returns-in-OneTurn-clause-idle
returns-in-OneTurn-clause-idle g c =
    subst (λ kind. IsIdleBy kind c.args.devices.now c.serve_turn.new.devices)
    (sym c.in-OneTurn.is ∙ c.of.ensures) c.serve_turn.ensures.unfetched
