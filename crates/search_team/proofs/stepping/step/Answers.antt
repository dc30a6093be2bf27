-- The step fits, and is the walker's next.
use Rattle.std.proofs.Common.{refl, sym, subst}
use Rattle.arena_rule.specs.Fits.{FitsStep}
use Rattle.walker.proofs.Fitting.{fits}
use Rattle.search_team.proofs.Going.{run-begins, goes}
use Rattle.search_team.proofs.stepping.step.Goals as goal

pub act-answer-requires-clause-fits : goal.act-answer-requires-clause-fits
act-answer-requires-clause-fits c =
    subst (FitsStep c.args.seat.now.view) (sym c.requires.next)
    (fits c.args.walker.now c.args.seat.now.view c.requires.belongs)

pub returns-clause-gone : goal.returns-clause-gone
returns-clause-gone c =
    goes (run-begins refl c.requires.belongs)
    (record { op_is = c.requires.next; some = c.requires.some; later_is = λ x. refl })
    c.act-answer.ensures.answer c.got.ensures.is c.act-answer.ensures.view
