-- What the laws of the machine say of the answer that is taken.
use Rattle.std.proofs.Common.{◌<◌, ◌≤◌, sym, ap, ◌∙◌, subst}
use Rattle.arena_rule.specs.Afters.{after}
use Rattle.walker.specs.declared.machine.Walker.{Walker}
use Rattle.walker.specs.declared.machine.TheConstants.{WALK_STEPS}
use Rattle.walker.specs.Machine.{op_of}
use Rattle.walker.specs.Belongs.{Belongs}
use Rattle.walker.proofs.Keeps.{keeps}
use Rattle.walker.proofs.GoingOn.{can-go}
use Rattle.walker.proofs.Endings.{ends, ended}
use Rattle.walker.proofs.Falling.{fewer, bound}
use Rattle.walker.specs.Measure.{steps_left}
use Rattle.walker.proofs.machine.Walker.got.Goals as goal

pub go_on-requires : goal.go_on-requires
go_on-requires c = can-go c.args.self.now c.requires.0 c.requires.1 c.args.answer c.requires.2

pub returns-clause-belongs : goal.returns-clause-belongs
returns-clause-belongs c
    = λ v b may. subst (λ (w : Walker). Belongs w (after v (op_of c.args.self.now) c.args.answer))
    (sym c.go_on.ensures) (keeps c.args.self.now v b c.args.answer may)

pub returns-clause-ended : goal.returns-clause-ended
returns-clause-ended c = (
  λ e. ends c.args.self.now c.requires.0 c.requires.1 c.args.answer c.requires.2
      (sym (ap op_of c.go_on.ensures) ∙ e),
  λ h. ap op_of c.go_on.ensures
      ∙ ended c.args.self.now c.requires.0 c.requires.1 c.args.answer c.requires.2 h,
)

pub returns-clause-fewer : goal.returns-clause-fewer
returns-clause-fewer c = λ nd nn. subst (λ (w : Walker). steps_left w < steps_left c.args.self.now)
    (sym c.go_on.ensures)
    (fewer c.args.self.now c.requires.0 c.requires.1 c.args.answer c.requires.2 nd nn)

pub returns-clause-bound : goal.returns-clause-bound
returns-clause-bound c = λ e. subst (λ (w : Walker). steps_left w ≤ WALK_STEPS)
    (sym c.go_on.ensures)
    (bound c.args.self.now c.requires.0 c.requires.1 c.args.answer e)
