-- The turn of mode sim, and its text.
use Rattle.std.proofs.Common.{refl}
use Rattle.turn_modes.proofs.TextLaws.{simulation_says}
use Rattle.turn_modes.proofs.modes.simulation.Goals as goal

pub returns : goal.returns
returns c =
    let text = c.in_ok-text.text.items in
    let turned = c.in_ok-turn.ensures in (
      simulation_says c.args.options.now c.in_ok-turn.turn text text turned.turn refl
          c.in_ok-text.ensures,
      turned.scheduled,
    )
