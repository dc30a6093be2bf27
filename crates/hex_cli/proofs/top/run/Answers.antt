-- What the status tells of the end, and what the devices of a run leave.
use Rattle.std.proofs.Common.{sym, ap, ◌∙◌, subst}
use Rattle.hex_io.specs.Reported.{Reported}
use Rattle.hexd_args.specs.declared.settings.Mode.TheVariants.{Htp, Check, Migrate, Audit, Sim}
use Rattle.hexd_args.specs.declared.settings.Mode.TheVariants.{Bench, Solve}
use Rattle.turn_modes.specs.OneTurn.{IsBenchmark, IsSimulation}
use Rattle.hex_devices.specs.Statuses.{error_line, status_of, stop_in}
use Rattle.hex_devices.specs.declared.ends.End.TheVariants.{Usage}
use Rattle.hex_devices.proofs.StatusLaws.{same_end}
use Rattle.hex_cli.specs.AuditTexts.{IsAuditText}
use Rattle.hex_cli.specs.CertTexts.{IsCheckText, IsMigrateText}
use Rattle.hex_cli.specs.Determined.{Determines}
use Rattle.hex_cli.specs.Headline.{HasHeadline}
use Rattle.hex_cli.specs.Modes.{AnswersBy, HandsInBy, kind_of, solve_options}
use Rattle.hex_cli.specs.Playing.{HasGoodTurns, HasKnownThreats, HasPlayed}
use Rattle.hex_cli.specs.SolveTexts.{IsSolveText}
use Rattle.hex_cli.proofs.Doings.{idle_unarchived, idle_unfetched}
use Rattle.hex_cli.proofs.Leavings.{complete_as, determines, has_headline, in_mode, known_threats}
use Rattle.hex_cli.proofs.Leavings.{long_as, played, simulated}
use Rattle.hex_cli.proofs.top.run.Goals as goal

pub returns-clause-usage : goal.returns-clause-usage
returns-clause-usage g c = (
  λ e. c.serve-end.ensures.usage.0 (same_end c.serve-end.result Usage (sym c.status.ensures ∙ e)),
  λ none. c.status.ensures ∙ ap status_of (c.serve-end.ensures.usage.1 none),
)

pub returns-clause-well_formed : goal.returns-clause-well_formed
returns-clause-well_formed g c = λ served.
    c.serve-end.ensures.well_formed (λ e. served (c.status.ensures ∙ ap status_of e))

-- ---- mode htp

pub returns-clause-conversed : goal.returns-clause-conversed
returns-clause-conversed g c =
    in_mode HasPlayed Htp c.args.line.now c.status.result c.serve-end.result
    c.args.devices.now c.serve-end.new.devices c.status.ensures c.serve-end.ensures.does
    (played c.args.devices.now c.serve-end.new.devices)

pub returns-clause-headline : goal.returns-clause-headline
returns-clause-headline g c =
    in_mode HasHeadline Htp c.args.line.now c.status.result c.serve-end.result
    c.args.devices.now c.serve-end.new.devices c.status.ensures c.serve-end.ensures.does
    (has_headline c.args.devices.now c.serve-end.new.devices)

pub returns-clause-good_turns : goal.returns-clause-good_turns
returns-clause-good_turns g c =
    in_mode HasGoodTurns Htp c.args.line.now c.status.result c.serve-end.result
    c.args.devices.now c.serve-end.new.devices c.status.ensures c.serve-end.ensures.does
    (λ o end d. d)

pub returns-clause-threats : goal.returns-clause-threats
returns-clause-threats g c =
    in_mode HasKnownThreats Htp c.args.line.now c.status.result c.serve-end.result
    c.args.devices.now c.serve-end.new.devices c.status.ensures c.serve-end.ensures.does
    (known_threats c.args.devices.now c.serve-end.new.devices)

pub returns-clause-determined : goal.returns-clause-determined
returns-clause-determined g c =
    in_mode Determines Htp c.args.line.now c.status.result c.serve-end.result
    c.args.devices.now c.serve-end.new.devices c.status.ensures c.serve-end.ensures.does
    (determines c.args.devices.now c.serve-end.new.devices)

-- ---- the modes that take their whole input

pub returns-clause-checked : goal.returns-clause-checked
returns-clause-checked g c =
    in_mode (λ o. AnswersBy IsCheckText) Check c.args.line.now c.status.result c.serve-end.result
    c.args.devices.now c.serve-end.new.devices c.status.ensures c.serve-end.ensures.does
    (λ o end d. d)

pub returns-clause-migrated : goal.returns-clause-migrated
returns-clause-migrated g c =
    in_mode (λ o. AnswersBy IsMigrateText) Migrate c.args.line.now c.status.result
    c.serve-end.result
    c.args.devices.now c.serve-end.new.devices c.status.ensures c.serve-end.ensures.does
    (λ o end d. d)

pub returns-clause-audited : goal.returns-clause-audited
returns-clause-audited g c =
    in_mode (λ o. AnswersBy IsAuditText) Audit c.args.line.now c.status.result c.serve-end.result
    c.args.devices.now c.serve-end.new.devices c.status.ensures c.serve-end.ensures.does
    (λ o end d. d)

pub returns-clause-solved : goal.returns-clause-solved
returns-clause-solved g c =
    in_mode (λ o. AnswersBy (IsSolveText (solve_options o))) Solve c.args.line.now
    c.status.result c.serve-end.result
    c.args.devices.now c.serve-end.new.devices c.status.ensures c.serve-end.ensures.does
    (λ o end d. d)

-- ---- the modes that hand in one turn

pub returns-clause-simulated : goal.returns-clause-simulated
returns-clause-simulated g c =
    in_mode (HandsInBy IsSimulation) Sim c.args.line.now c.status.result c.serve-end.result
    c.args.devices.now c.serve-end.new.devices c.status.ensures c.serve-end.ensures.does
    (simulated c.args.devices.now c.serve-end.new.devices)

pub returns-clause-benchmarked : goal.returns-clause-benchmarked
returns-clause-benchmarked g c =
    in_mode (HandsInBy IsBenchmark) Bench c.args.line.now c.status.result c.serve-end.result
    c.args.devices.now c.serve-end.new.devices c.status.ensures c.serve-end.ensures.does
    (λ o end d. d)

-- ---- what stands idle

pub returns-clause-idle_shelf : goal.returns-clause-idle_shelf
returns-clause-idle_shelf g c = λ options well_formed idle.
    idle_unfetched (kind_of options.mode options) c.args.devices.now c.serve-end.new.devices
    (c.serve-end.ensures.idle options well_formed) idle

pub returns-clause-idle_archive : goal.returns-clause-idle_archive
returns-clause-idle_archive g c = λ options mode well_formed whole.
    idle_unarchived (kind_of options.mode options) mode c.args.devices.now c.serve-end.new.devices
    (c.serve-end.ensures.idle options well_formed) whole

-- ---- the causes

pub returns-clause-too_long : goal.returns-clause-too_long
returns-clause-too_long g c = λ options well_formed.
    long_as (kind_of options.mode options) options c.serve-end.result c.status.result
    c.args.devices.now c.serve-end.new.devices c.status.ensures
    (c.serve-end.ensures.does options well_formed)

pub returns-clause-complete : goal.returns-clause-complete
returns-clause-complete g c = λ options well_formed none.
    complete_as (kind_of options.mode options) options c.serve-end.result c.status.result
    c.args.devices.now c.serve-end.new.devices c.status.ensures
    (c.serve-end.ensures.does options well_formed)
    (record {
      read = λ e. none.reads (c.serve-end.ensures.counts.reads.rose (ap stop_in e));
      write = λ e. none.writes (c.serve-end.ensures.counts.writes.rose (ap stop_in e));
      archive = λ e. none.archives (c.serve-end.ensures.counts.archives.rose (ap stop_in e));
    })

pub returns-clause-errors : goal.returns-clause-errors
returns-clause-errors g c = λ end e.
    subst (Reported (g.E.Link.told c.args.errors.now) (g.E.Link.told c.report.new.errors)
    (g.E.Link.write_faults c.args.errors.now) (g.E.Link.write_faults c.report.new.errors))
    (c.line.ensures ∙ ap error_line (same_end c.serve-end.result end (sym c.status.ensures ∙ e)))
    c.report.ensures
