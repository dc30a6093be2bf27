-- Words that made options are well formed, and what was done for these options was done for them.
use Rattle.std.proofs.Common.{◌≡◌, Some, refl, subst}
use Rattle.hexd_args.specs.declared.settings.Options.{Options}
use Rattle.hex_cli.specs.Modes.{kind_of}
use Rattle.hex_cli.specs.Served.{IsIdleBy, ServesBy}
use Rattle.hex_cli.proofs.Doings.{does_no_usage}
use Rattle.hex_cli.proofs.serving.serve.Goals as goal

pub returns-in-None-clause-usage : goal.returns-in-None-clause-usage
returns-in-None-clause-usage g c = (
  λ e options well_formed.
      let made = (c.in-None.ensures.exact options).1 well_formed in
      cc,
  λ none. refl,
)

pub returns-in-None-clause-does : goal.returns-in-None-clause-does
returns-in-None-clause-does g c = λ options well_formed.
    let made = (c.in-None.ensures.exact options).1 well_formed in
    absurd cc

pub returns-in-None-clause-idle : goal.returns-in-None-clause-idle
returns-in-None-clause-idle g c = λ options well_formed.
    let made = (c.in-None.ensures.exact options).1 well_formed in
    absurd cc

pub returns-in-Some-clause-usage : goal.returns-in-Some-clause-usage
returns-in-Some-clause-usage g c =
    let o = c.in-Some.options.now in (
      λ e. absurd
          (does_no_usage (kind_of o.mode o) o c.in_mode.result _ _ c.in_mode.ensures.does e),
      λ none. absurd (none o ((c.in-Some.ensures.exact o).0 refl)),
    )

pub returns-in-Some-clause-well_formed : goal.returns-in-Some-clause-well_formed
returns-in-Some-clause-well_formed g c = λ used.
    let o = c.in-Some.options.now in
    (o, (c.in-Some.ensures.exact o).0 refl)

pub returns-in-Some-clause-untouched : goal.returns-in-Some-clause-untouched
returns-in-Some-clause-untouched g c = λ none.
    let o = c.in-Some.options.now in
    absurd (none o ((c.in-Some.ensures.exact o).0 refl))

pub returns-in-Some-clause-does : goal.returns-in-Some-clause-does
returns-in-Some-clause-does g c = λ options well_formed.
    let made : Some c.in-Some.options.now ≡ Some options
    = (c.in-Some.ensures.exact options).1 well_formed in
    let same : c.in-Some.options.now ≡ options = cc in
    subst (λ (o : Options). ServesBy (kind_of o.mode o) o c.in_mode.result
    c.args.devices.now c.in_mode.new.devices) same c.in_mode.ensures.does

pub returns-in-Some-clause-idle : goal.returns-in-Some-clause-idle
returns-in-Some-clause-idle g c = λ options well_formed.
    let made : Some c.in-Some.options.now ≡ Some options
    = (c.in-Some.ensures.exact options).1 well_formed in
    let same : c.in-Some.options.now ≡ options = cc in
    subst (λ (o : Options). IsIdleBy (kind_of o.mode o)
    c.args.devices.now c.in_mode.new.devices) same c.in_mode.ensures.idle
