-- The levels of an array, the last first.
use Rattle.std.proofs.Common.{◌≡◌, ℕ, ◌+◌, ◌-◌, ◌<◌, ◌≤◌, List, [], ◌∷◌, length, take, set, get_or}
use Rattle.std.proofs.Common.{reverse, refl, ap, ◌∙◌, arith}
use Rattle.std.proofs.lemmas.List.{take_more, take_more_set, reverse-append, length-reverse}
use Rattle.std.proofs.lemmas.List.{length-take-le}
use Rattle.walker.specs.declared.ways.Level.{Level}
use Rattle.walker.specs.Ways.{levels_to}

pub levels-none : (ls : List Level) → levels_to ls 0 ≡ []
unfolding levels_to
levels-none ls = refl

pub levels-at : (ls : List Level) (n : ℕ) → n ≡ 0 → levels_to ls n ≡ []
levels-at ls n e = ap (levels_to ls) e ∙ levels-none ls

pub levels-long : (ls : List Level) (n : ℕ) → n ≤ length ls → length (levels_to ls n) ≡ n
unfolding levels_to
levels-long ls n h = length-reverse (take n ls) ∙ length-take-le n ls h

-- one more, which was written there
pub levels-set : (ls : List Level) (n : ℕ) (l : Level) → n < length ls
    → levels_to (set ls n l) (n + 1) ≡ l ∷ levels_to ls n
unfolding levels_to
levels-set ls n l h = ap reverse (take_more_set ls n l h) ∙ reverse-append (take n ls) (l ∷ [])

-- the last of them
pub levels-last : (ls : List Level) (n : ℕ) (l : Level) → 0 < n → n ≤ length ls
    → levels_to ls n ≡ get_or ls (n - 1) l ∷ levels_to ls (n - 1)
unfolding levels_to
levels-last ls n l p h =
    ap (λ (m : ℕ). reverse (take m ls)) (back n p)
    ∙ ap reverse (take_more ls (n - 1) l (omega arith))
    ∙ reverse-append (take (n - 1) ls) (get_or ls (n - 1) l ∷ [])
  where
    back : (n : ℕ) → 0 < n → n ≡ n - 1 + 1
    back n p = omega arith
