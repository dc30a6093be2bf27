-- What the conversation left is what its run left.
use Rattle.std.proofs.Common.{subst, sym, ◌∙◌, ap, refl}
use Rattle.hex_devices.specs.Devices.{CountsStop}
use Rattle.htp_session.proofs.Conversations.{conversed_same}
use Rattle.hex_cli.specs.Modes.{engine_options}
use Rattle.hex_devices.specs.Statuses.{stop_in}
use Rattle.hex_io.specs.declared.limits.TheConstants.{INPUT_LIMIT}
use Rattle.hex_cli.proofs.RunLaws.{stop_in_end}
use Rattle.hex_cli.proofs.playing.play.Goals as goal

pub returns-clause-plays : goal.returns-clause-plays
returns-clause-plays g c =
    let held = conversed_same c.converse-outcome.result c.engine_options.result
    (engine_options c.args.options.now) c.args.options.now.size c.args.options.now.size INPUT_LIMIT
    _ _ _ _ c.engine_options.ensures.value refl c.converse-outcome.ensures.converses in
    (held.0, (c.converse-outcome.result, c.of.ensures, held.1), held.2)

pub returns-clause-counts : goal.returns-clause-counts
returns-clause-counts g c =
    subst (CountsStop c.args.devices.now c.converse-outcome.new.devices)
    (sym (ap stop_in c.of.ensures ∙ stop_in_end c.converse-outcome.result))
    c.converse-outcome.ensures.counts
