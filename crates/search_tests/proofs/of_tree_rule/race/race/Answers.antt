-- Each step of the script fits, and what stands at its end.
use Rattle.std.proofs.Common.{◌≡◌, sym, subst, ◌∙◌}
use Rattle.search_tests.specs.Scripts.{TwoViews, AllFit, RaceEnds, both_views, after_script}
use Rattle.search_tests.proofs.RaceScript.{two_seats, script, all-fit, ended}
use Rattle.search_tests.proofs.of_tree_rule.race.race.Goals as goal

pub follow-requires-clause-fits : goal.follow-requires-clause-fits
follow-requires-clause-fits c =
    let same : both_views c.args.first.now c.args.second.now ≡ two_seats = λ i. record { first = c.requires.first i; second = c.requires.second i } in
    subst (λ (t : TwoViews). AllFit t script) (sym same) (all-fit c.requires.fills)

pub returns : goal.returns
returns c =
    let same : both_views c.args.first.now c.args.second.now ≡ two_seats = λ i. record { first = c.requires.first i; second = c.requires.second i } in
    record {
      ended = λ e.
          let last : both_views c.follow.new.a c.follow.new.b ≡ after_script two_seats script = c.follow.ensures.views e
          ∙ (λ i. after_script (same i) script) in
          subst (λ (t : TwoViews). RaceEnds t.first t.second) (sym last) ended;
    }
