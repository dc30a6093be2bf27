-- An add of a climb that a walker lent is a step of the walker with the climb put back.
use Rattle.std.proofs.Common.{◌≡◌, ◌≢◌, ℕ, ◌<◌, List, [], ◌∷◌, refl, sym, ap, ◌∙◌, subst, arith}
use Rattle.std.proofs.Common.{Bool}
use Rattle.tree_words.specs.declared.steps.Op.{Op}
use Rattle.tree_words.specs.declared.steps.Op.TheVariants.{Add}
use Rattle.arena_rule.specs.Views.{SeatView}
use Rattle.arena_rule.specs.Owing.{IsSeenWord}
use Rattle.arena_rule.specs.Adds.{CountAdd}
use Rattle.walker.specs.declared.TheConstants.{PAST_WORDS}
use Rattle.walker.specs.declared.machine.Walker.{Walker}
use Rattle.walker.specs.declared.stages.Stage.{Stage}
use Rattle.walker.specs.declared.stages.Stage.TheVariants.{Seeing}
use Rattle.walker.specs.Climbs.{add_op, adds_after}
use Rattle.walker.specs.Machine.{with_climb}
use Rattle.walker.specs.Choosing.{CanGo}
use Rattle.walker.specs.Belongs.{Belongs, Stands, AtSeen}
use Rattle.search_team.specs.Runs.{HasRun}
use Rattle.search_team.proofs.Going.{IsNext, run-begins, run-runs}

-- if the walker is at a climb, it is not at its end
pub more-adds : (w : Walker) (v : SeatView) → Belongs w v → w.stage ≡ Seeing → w.climb ≢ []
more-adds w v b e = let a : AtSeen w v = subst (λ (t : Stage). Stands t w v) e b.stands in a.some

-- and begins where the walker stands
pub climb-begins : (w : Walker) (v : SeatView) → Belongs w v → w.stage ≡ Seeing
    → (c : List CountAdd) → c ≡ w.climb → HasRun w v (with_climb w c) v
climb-begins w v b s c e = run-begins (by c e (λ none. more-adds w v b s (sym e ∙ none))) b
  where
    by : (c : List CountAdd) → c ≡ w.climb → c ≢ [] → with_climb w c ≡ w
    by [] e ne = absurd (ne refl)
    by (a ∷ c) e ne = ap (λ (d : List CountAdd). record w { climb = d; stage = Seeing }) e
        ∙ ap (λ (t : Stage). record w { stage = t }) (sym s)

-- what the two halves of a climb need
pub ruleset climb_rules = (run-runs, climb-begins, more-adds)

-- the climb with one add more stands at the same walker
twice : (w : Walker) (a : CountAdd) (c : List CountAdd)
    → with_climb w c ≡ with_climb (record w { climb = a ∷ c; stage = Seeing }) c
twice w a [] = refl
twice w a (b ∷ c) = refl

-- the next add of the climb c is the next step
pub next-add : (w : Walker) (c : List CountAdd) → c ≢ [] → {op : Op} → op ≡ add_op c
    → IsNext (with_climb w c) op (λ x. with_climb w (adds_after c))
next-add w [] ne e = absurd (ne refl)
next-add w (a ∷ c) ne e = record { op_is = e; some = λ d. absurd (cc); later_is = λ x. twice w a c }

-- with any answer the node is small
pub node-small : (w : Walker) (c : List CountAdd) (x : ℕ) → c ≢ [] → CanGo (with_climb w c) x
    → w.node < PAST_WORDS
node-small w [] x ne can = absurd (ne refl)
node-small w (a ∷ c) x ne can = can

-- the word of an add of a climb is the seen word of a known node
pub seen-add : (w : Walker) (c : List CountAdd) (v : SeatView) → Belongs (with_climb w c) v
    → (word : ℕ) (won : Bool) → add_op c ≡ Add word won → IsSeenWord v word
seen-add w [] v b word won e = absurd (cc)
seen-add w (a ∷ c) v b word won e
    = let is : a.word ≡ word = cc in subst (IsSeenWord v) is (b.stands.seen a (0, omega arith, refl))
