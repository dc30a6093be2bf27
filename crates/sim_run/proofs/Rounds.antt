-- A round of a simulation: one step of each walker that is not finished.
use Rattle.std.proofs.Common.{◌≡◌, ℕ, ◌+◌, ◌<◌, ◌≤◌, Bool, true, false, List, [], ◌∷◌, length}
use Rattle.std.proofs.Common.{get_or, Option, Some, None, IfSome, is_some, refl, sym, ap, ◌∙◌}
use Rattle.std.proofs.Common.{subst, ⊎_elim, zero, suc, arith}
use Rattle.std.proofs.lemmas.Bool.{cases_lt}
use mathlib.Core.Option.{some, some-injective}
use lib.ListN.{get_elem?}
use Rattle.tree_words.specs.Settings.{Setting}
use Rattle.tree_words.specs.declared.steps.Op.{Op}
use Rattle.arena_rule.proofs.Options.{false-true}
use Rattle.walker.specs.declared.machine.Walker.{Walker}
use Rattle.sim_run.specs.Steps.{SimulationData, IsFinished, StepsOnce}
use Rattle.sim_run.specs.BetweenSteps.{AreFinished, steps_to_come}

-- from `start` on the walkers below i had their turn: some made a step, or each of them is finished
-- and nothing changed
pub record HaveStepped (s : Setting) (start now : SimulationData) (stepped : Bool)
    (i : ℕ) : Type 0 where
  pub more : stepped ≡ true → steps_to_come s now < steps_to_come s start
  pub all : stepped ≡ false
      → (now ≡ start)
      × ((j : ℕ) (w : Walker) → j < i → get_elem? now.walkers j ≡ some w → IsFinished w)

module _ (s : Setting) (start old new : SimulationData) (b : Bool) (id : ℕ) (made : Option (Op × ℕ))
    (h : HaveStepped s start old b id) (step : StepsOnce old id made new)
    (fewer : IfSome made (λ _. steps_to_come s new < steps_to_come s old)) where
  at-most : (c : Bool) → b ≡ c → steps_to_come s old ≤ steps_to_come s start
  at-most true e = let l = h.more e in omega (arith, l)
  at-most false e = omega (arith, ap (steps_to_come s) (h.all e).0)

  pub round-stepped : is_some made ≡ true → HaveStepped s start new true (id + 1)
  round-stepped e = by made e fewer
    where
      by : (o : Option (Op × ℕ)) → is_some o ≡ true
          → IfSome o (λ _. steps_to_come s new < steps_to_come s old)
          → HaveStepped s start new true (id + 1)
      by None q l = absurd (false-true q)
      by (Some m) q l = record {
        more = λ _. omega (arith, l, at-most b refl);
        all = λ z. absurd (false-true (sym z));
      }

  pub round-passed : is_some made ≡ false → HaveStepped s start new b (id + 1)
  round-passed e = by made e step
    where
      by : (o : Option (Op × ℕ)) → is_some o ≡ false → StepsOnce old id o new
          → HaveStepped s start new b (id + 1)
      by (Some m) q t = absurd (false-true (sym q))
      by None q t =
          let same = t.1.same in
          record {
            more = λ z. let l = h.more z in omega (arith, l, ap (steps_to_come s) same);
            all = λ z. (
              same ∙ (h.all z).0,
              λ j w l at.
                  let was : get_elem? old.walkers j ≡ some w
                  = subst (λ (r : SimulationData). get_elem? r.walkers j ≡ some w) same at in
                  ⊎_elim
                  (λ (m : j < id). (h.all z).1 j w m was)
                  (λ (m : id ≤ j). let j_is : j ≡ id = omega (arith, m, l) in
                  subst IsFinished
                  (some-injective t.0 w (sym t.1.at ∙ sym (ap (get_elem? old.walkers) j_is) ∙ was)) t.1.finished)
                  (cases_lt j id),
            );
          }

pub at-get : {A : Type 0} (l : List A) (i : ℕ) (d : A) → i < length l
    → get_elem? l i ≡ some (get_or l i d)
at-get [] i d h = absurd (omega (arith, h))
at-get (x ∷ xs) zero d h = refl
at-get (x ∷ xs) (suc i) d h = at-get xs i d (omega (arith, h))

-- after all of them
pub round-over : (s : Setting) (start now : SimulationData) (b : Bool) (i : ℕ)
    → HaveStepped s start now b i → length now.walkers ≤ i → b ≡ false → AreFinished now.walkers
round-over s start now b i h l e k d m
    = (h.all e).1 k (get_or now.walkers k d) (omega (arith, l, m)) (at-get now.walkers k d m)
