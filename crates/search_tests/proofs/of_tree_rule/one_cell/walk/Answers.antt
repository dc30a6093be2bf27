-- Each step of the script fits, and at its end both workers have ended.
use Rattle.std.proofs.Common.{◌≡◌, sym, subst, ◌∙◌}
use Rattle.search_tests.specs.Scripts.{TwoViews, AllFit, HaveEnded, both_views, after_script}
use Rattle.search_tests.proofs.OneCell.{two_seats, script, all-fit, ended}
use Rattle.search_tests.proofs.of_tree_rule.one_cell.walk.Goals as goal

pub follow-requires-clause-fits : goal.follow-requires-clause-fits
follow-requires-clause-fits c =
    let same : both_views c.args.first.now c.args.second.now ≡ two_seats = λ i. record { first = c.requires.first i; second = c.requires.second i } in
    subst (λ (t : TwoViews). AllFit t script) (sym same) all-fit

pub returns-clause-ended : goal.returns-clause-ended
returns-clause-ended c e =
    let same : both_views c.args.first.now c.args.second.now ≡ two_seats = λ i. record { first = c.requires.first i; second = c.requires.second i } in
    let last : both_views c.follow.new.a c.follow.new.b ≡ after_script two_seats script = c.follow.ensures.views e ∙ (λ i. after_script (same i) script) in
    subst (λ (t : TwoViews). HaveEnded t.first t.second) (sym last) ended
