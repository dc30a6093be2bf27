use Rattle.std.proofs.Common.{◌≡◌, ◌<◌, [], ◌∷◌, ◌++◌, length, All, subst, sym, ap, ◌∙◌, arith}
use Rattle.std.proofs.Common.{length-append}
use Rattle.std.proofs.lemmas.List.Elements.{All-push}
use Rattle.turn_modes.proofs.Words.{first_step, next_step, last_step}
use Rattle.turn_modes.proofs.schedules.schedule.Goals as goal

pub steps-init : goal.steps-init
steps-init c =
    let none : length c.in_ok-list.list.items ≡ 0 = ap length c.in_ok-list.ensures.items in
    record {
      within = omega arith;
      rest = first_step c.args.workers c.args.seed c.args.steps c.in_ok-list.list.items
          c.seed_from_u64-generator.result
          (omega arith) c.in_ok-list.ensures.items c.seed_from_u64-generator.ensures;
      below = λ k d l. absurd (omega arith);
    }

pub steps-preserved : goal.steps-preserved
steps-preserved c =
    let items : c.push.new.self.items ≡ c.steps.list.items ++ c.worker_of.result ∷ []
    = c.in_ok-push.ensures.items in
    let many = ap length items ∙ length-append c.steps.list.items (c.worker_of.result ∷ []) in
    record {
      within = omega arith;
      rest = next_step c.args.workers c.args.steps c.next_u64.result c.worker_of.result c.args.seed
          c.steps.list.items c.push.new.self.items c.steps.generator c.next_u64.new.self
          (omega arith)
          c.next_u64.ensures c.worker_of.ensures.value items c.steps.invariant.rest;
      below = subst (All (λ worker. worker < c.args.workers)) (sym items)
          (All-push (λ worker. worker < c.args.workers) c.steps.list.items c.worker_of.result
          c.steps.invariant.below c.worker_of.ensures.below);
    }

pub returns-clause-value : goal.returns-clause-value
returns-clause-value c
    = last_step c.args.workers c.args.steps c.args.seed c.steps.list.items c.steps.generator
    (omega arith) c.steps.invariant.rest
