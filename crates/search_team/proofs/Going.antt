-- The one shape of what a worker makes: a run, which goes on by the next step of some walker or by
-- a run more. The code may have no more of that walker than a part that another lent: a scan, a
-- climb or new nodes.
use Rattle.std.proofs.Common.{◌≡◌, ◌≢◌, ℕ, ◌<◌, sym, ap, ◌∙◌, subst, arith, set}
use Rattle.std.proofs.Math.Path.{subst₂}
use Rattle.std.specs.Prelude.{option_map}
use Rattle.tree_words.specs.declared.steps.Op.{Op}
use Rattle.tree_words.specs.declared.steps.Op.TheVariants.{Done}
use Rattle.arena_rule.specs.Views.{SeatView}
use Rattle.arena_rule.specs.Fits.{FitsStep}
use Rattle.arena_rule.specs.Answers.{MayAnswer}
use Rattle.arena_rule.specs.Afters.{after, word_of, put}
use Rattle.arena_rule.proofs.Changes.{whole-after}
use Rattle.walker.specs.declared.machine.Walker.{Walker}
use Rattle.walker.specs.Machine.{op_of, next}
use Rattle.walker.specs.Choosing.{CanGo}
use Rattle.walker.specs.Belongs.{Belongs}
use Rattle.walker.proofs.Fitting.{fits}
use Rattle.walker.proofs.Keeps.{keeps}
use Rattle.walker.proofs.Falling.{fewer, bound}
use Rattle.walker.proofs.GoingOn.{can-go}
use Rattle.search_team.specs.WorkLeft.{work_left}
use Rattle.search_team.specs.Runs.{HasRun, HasGone}
use Rattle.search_team.proofs.Falls.{falls}

-- the step op is the walker's next, and after the answer x the walker is `later x`
pub record IsNext (w : Walker) (op : Op) (later : ℕ → Walker) : Type 0 where
  pub op_is : op ≡ op_of w
  pub some : op ≢ Done
  pub later_is : (x : ℕ) → later x ≡ next w x

-- no step: the walker, or a part of it that it lent, stands where it stood
pub run-begins : {w z : Walker} {v : SeatView} → z ≡ w → Belongs w v → HasRun w v z v
run-begins {w} {z} {v} is b = subst (λ (u : Walker). HasRun w v u v) (sym is)
    (record { belongs = b; left = omega arith; lone = λ e. e })

-- a run more
pub run-runs : {first w later : Walker} {begun v view : SeatView} → HasRun first begun w v
    → HasRun w v later view → HasRun first begun later view
run-runs run more = record {
  belongs = more.belongs;
  left = let l = run.left in let m = more.left in omega (arith, l, m);
  lone = λ e. more.lone (run.lone e);
}

-- what the loops over runs need
pub ruleset run_rules = (run-begins, run-runs)

module _ {first w : Walker} {begun v : SeatView} (run : HasRun first begun w v) {op : Op}
    {later : ℕ → Walker} (n : IsNext w op later) where
  -- the view fits the next step
  pub fits-next : FitsStep v op
  fits-next = subst (FitsStep v) (sym n.op_is) (fits w v run.belongs)

  module _ {x : ℕ} (may : MayAnswer v op x) where
    may-next : MayAnswer v (op_of w) x
    may-next = subst (λ (o : Op). MayAnswer v o x) n.op_is may

    -- the walker can take the answer
    pub can-next : CanGo w x
    can-next = can-go w v run.belongs x may-next

    -- and has run on
    pub goes : {z : Walker} → z ≡ later x → {u : SeatView} → u ≡ after v op x
        → HasGone first begun z u
    goes z-is u-is = subst₂ (HasGone first begun) (sym (z-is ∙ n.later_is x))
        (sym (u-is ∙ ap (λ (o : Op). after v o x) n.op_is)) (record {
          run = run-runs run (record {
            belongs = keeps w v run.belongs x may-next;
            left = omega (arith, less);
            lone = λ e. whole-after v (op_of w) x
                ∙ ap (option_map (λ ws. set ws (word_of (op_of w)) (put (op_of w) x))) e;
          });
          fewer = let l = run.left in omega (arith, l, less);
        })
      where
        less : work_left (next w x) (after v (op_of w) x) < work_left w v
        less = falls w (next w x) v (op_of w) x (fits w v run.belongs) may-next
            (λ nd. fewer w v run.belongs x may-next nd (λ e. n.some (n.op_is ∙ e)))
            (bound w v run.belongs x)
