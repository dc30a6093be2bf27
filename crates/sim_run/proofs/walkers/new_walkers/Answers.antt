-- One more new walker.
use Rattle.std.proofs.Common.{All, length, sym, ap, ◌∙◌, ◌+◌, ℕ, subst, arith}
use Rattle.std.proofs.lemmas.List.{length_push}
use Rattle.std.proofs.lemmas.List.Elements.{All-push}
use Rattle.sim_run.specs.BetweenSteps.{IsNew}
use Rattle.sim_run.proofs.walkers.new_walkers.Goals as goal

pub workers-preserved : goal.workers-preserved
workers-preserved c =
    let new = c.push_reserved.ensures in
    let was = c.workers.invariant in
    record {
      each = subst (All (IsNew c.args.shape.now)) (sym new.items)
          (All-push (IsNew c.args.shape.now) c.workers.walkers.items c.new.result was.each c.new.ensures.belongs);
      count = ap length new.items ∙ length_push c.workers.walkers.items c.new.result
          ∙ ap (λ (n : ℕ). n + 1) was.count;
      room = omega (arith, was.room, new.capacity);
    }
