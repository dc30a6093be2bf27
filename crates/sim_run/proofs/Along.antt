-- Steps along a schedule, one after the other.
use Rattle.std.proofs.Common.{◌≡◌, ℕ, zero, suc, ◌+◌, ◌<◌, List, [], ◌∷◌, ◌++◌, length, get_or}
use Rattle.std.proofs.Common.{take, Option, refl, sym, ap, ◌∙◌, subst, arith}
use Rattle.std.specs.List.{range_with_len}
use Rattle.std.proofs.lemmas.List.{take_more}
use Rattle.tree_words.specs.declared.steps.Op.{Op}
use Rattle.sim_run.specs.Steps.{SimulationData, StepsOnce, StepsAlong, rounds}

pub along-both : (a b c : SimulationData) (ids more : List ℕ) → StepsAlong a ids b
    → StepsAlong b more c → StepsAlong a (ids ++ more) c
along-both a b c [] more e h = subst (λ (r : SimulationData). StepsAlong r more c) e h
along-both a b c (id ∷ ids) more t h = (t.0, t.1, t.2, along-both t.0 b c ids more t.3 h)

module _ (a b c : SimulationData) (made : Option (Op × ℕ)) where
  along-once : (ids : List ℕ) (id : ℕ) → StepsAlong a ids b → StepsOnce b id made c
      → StepsAlong a (ids ++ id ∷ []) c
  along-once ids id h step = along-both a b c ids (id ∷ []) h (c, made, step, refl)

  -- one entry more of a list
  pub along-entry : (ids : List ℕ) (i id d : ℕ) → i < length ids → id ≡ get_or ids i d
      → StepsAlong a (take i ids) b → StepsOnce b id made c → StepsAlong a (take (i + 1) ids) c
  along-entry ids i id d l e h step
      = subst (λ (m : List ℕ). StepsAlong a m c)
      (sym (take_more ids i d l ∙ ap (λ (k : ℕ). take i ids ++ k ∷ []) (sym e)))
      (along-once (take i ids) id h step)

  -- one walker more of a round
  pub along-worker : (n : ℕ) → StepsAlong a (range_with_len 0 n) b → StepsOnce b n made c
      → StepsAlong a (range_with_len 0 (n + 1)) c
  along-worker n h step
      = subst (λ (l : List ℕ). StepsAlong a l c)
      (sym (ap (range_with_len 0) (next n) ∙ snoc 0 n n (omega arith)))
      (along-once (range_with_len 0 n) n h step)
    where
      next : (n : ℕ) → n + 1 ≡ suc n
      next n = omega arith

      snoc : (a n m : ℕ) → a + n ≡ m → range_with_len a (suc n) ≡ range_with_len a n ++ m ∷ []
      snoc a zero m e = ap (λ (k : ℕ). k ∷ []) (omega (arith, e))
      snoc a (suc n) m e = ap (λ (l : List ℕ). a ∷ l) (snoc (a + 1) n m (omega (arith, e)))

-- one round more
pub along-round : (a b c : SimulationData) (workers count n : ℕ) → count ≡ workers
    → StepsAlong a (rounds workers n) b → StepsAlong b (range_with_len 0 count) c
    → StepsAlong a (rounds workers (suc n)) c
along-round a b c workers count n e h more
    = along-both a b c (rounds workers n) (range_with_len 0 workers) h
    (subst (λ (k : ℕ). StepsAlong b (range_with_len 0 k) c) e more)
