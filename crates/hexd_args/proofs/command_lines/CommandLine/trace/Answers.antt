-- The words make these options well formed, and no others.
use Rattle.std.proofs.Common.{◌≡◌, ◌∙◌, Some, ap, refl}
use Rattle.std.proofs.lemmas.Result.{IfOk-weaker}
use Rattle.hexd_args.specs.declared.settings.Options.{Options}
use Rattle.hexd_args.proofs.command_lines.CommandLine.trace.Goals as goal

pub returns-in-Some-clause-well_formed : goal.returns-in-Some-clause-well_formed
returns-in-Some-clause-well_formed c = IfOk-weaker c.copied.result _ _ (λ name is o well.
    let made : Some c.in-Some.options.now ≡ Some o = (c.in-Some.ensures.exact o).1 well in
    let same : c.in-Some.options.now ≡ o = cc in
    is ∙ c.name_of.ensures ∙ ap (λ (x : Options). x.trace) same) c.copied.ensures

pub returns-in-Some-clause-refused : goal.returns-in-Some-clause-refused
returns-in-Some-clause-refused c = IfOk-weaker c.copied.result _ _ (λ name is none.
    absurd (none c.in-Some.options.now ((c.in-Some.ensures.exact c.in-Some.options.now).0 refl)))
    c.copied.ensures

pub returns-in-None-clause-well_formed : goal.returns-in-None-clause-well_formed
returns-in-None-clause-well_formed c = λ o well.
    let made = (c.in-None.ensures.exact o).1 well in
    absurd cc
