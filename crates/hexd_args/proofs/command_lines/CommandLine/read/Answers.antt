-- The words that are kept are those that were read.
use Rattle.std.proofs.Common.{◌≡◌, ◌↔◌, List, Some, subst}
use Rattle.option_words.specs.Values.{TextBytes}
use Rattle.hexd_args.specs.Reading.{WellFormed}
use Rattle.hexd_args.specs.declared.settings.Options.{Options}
use Rattle.hexd_args.proofs.command_lines.CommandLine.read.Goals as goal

pub invariant_of-result : goal.invariant_of-result
invariant_of-result c = record {
  exact = subst (λ (words : List TextBytes). (o : Options)
      → (c.in_ok-options.options ≡ Some o) ↔ WellFormed words o)
      c.deref.ensures.value c.in_ok-options.ensures.exact;
  ranges = c.in_ok-options.ensures.ranges;
}
