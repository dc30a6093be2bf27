-- A view that belongs to the walker fits its step.
use Rattle.std.proofs.Common.{sym, subst}
use Rattle.arena_rule.specs.Fits.{FitsStep}
use Rattle.walker.proofs.Fitting.{fits}
use Rattle.walker.proofs.machine.Walker.op.Goals as goal

pub returns-clause-fits : goal.returns-clause-fits
returns-clause-fits c = λ v b. subst (FitsStep v) (sym c.step.ensures) (fits c.args.self.now v b)
