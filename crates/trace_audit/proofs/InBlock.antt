-- Counts and bounds as they are tested.
use Rattle.std.proofs.Common.{◌≡◌, ℕ, ◌≤◌, Bool, true, false, refl, ap, arith}
use Rattle.std.specs.Prelude.{nat_le, MatchBool}
use Rattle.std.proofs.lemmas.Bool.Decides.{nat_tests}
use Rattle.tree_words.specs.Words.{Count, count_in}

-- a word is told by its count
pub count_one : (m n : ℕ) → count_in m ≡ count_in n → m ≡ n
count_one m n e = omega (arith, ap (λ (c : Count). c.visits) e, ap (λ (c : Count). c.wins) e)

pub le_match : (a d b c : ℕ) → a ≡ d → b ≡ c → MatchBool (nat_le a b) (d ≤ c) (d ≤ c → ⊥)
le_match a d b c f e = by (nat_le a b) refl
  where
    not_le : (a b : ℕ) → nat_le a b ≡ false → a ≤ b → ⊥
    not_le a b h l = grind (arith, nat_tests)

    is_le : (a b : ℕ) → nat_le a b ≡ true → a ≤ b
    is_le a b h = grind (arith, nat_tests)

    by : (t : Bool) → nat_le a b ≡ t → MatchBool t (d ≤ c) (d ≤ c → ⊥)
    by true h = omega (arith, is_le a b h, e, f)
    by false h = λ l. not_le a b h (omega (arith, l, e, f))
