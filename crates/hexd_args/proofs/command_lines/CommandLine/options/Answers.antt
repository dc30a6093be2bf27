-- What the type keeps is said of the fields, and the clause of the words that contracts see.
use Rattle.std.proofs.Common.{◌≡◌, ◌↔◌, List, Some, subst}
use Rattle.option_words.specs.Values.{TextBytes}
use Rattle.hexd_args.specs.Reading.{WellFormed}
use Rattle.hexd_args.proofs.command_lines.CommandLine.options.Goals as goal

pub returns-clause-exact : goal.returns-clause-exact
returns-clause-exact c = λ o.
    let kept : (c.self.inside.options ≡ Some o) ↔ WellFormed c.args.self.now o
    = subst (λ (words : List TextBytes). (c.self.inside.options ≡ Some o) ↔ WellFormed words o)
    c.self.view_is (c.self.invariant.exact o) in
    rw c.as_ref.ensures.value kept
