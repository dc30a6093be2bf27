-- Words that are copied one by one.
use Rattle.std.proofs.Common.{◌≡◌, ◌≢◌, ◌⊎◌, ℕ, zero, suc, ◌+◌, ◌<◌, ◌≤◌, List, [], ◌∷◌, length}
use Rattle.std.proofs.Common.{set, sym, ap, ◌∙◌, ⊎_elim, inl, inr, arith, length-set}
use Rattle.std.specs.Prelude.{slice_index}
use Rattle.std.proofs.lemmas.List.{ext_get_or, get_or-set_other, get_or-set_same}
use Rattle.std.proofs.lemmas.Bool.{cases_lt}
use mathlib.Core.Option.{some, some-injective, some-ne-none}
use mathlib.Core.Logic.{dite}
use native.Mathlib.Decide.{ℕ_discrete}
use lib.ListN.{get_elem?}

-- the first i words are copied, and those from `next` on were the same
pub record Copied (words : List ℕ) (next i : ℕ) (room : List ℕ) : Type 0 where
  pub long : length room ≡ length words
  pub each : (j : ℕ) → j < length room → (j < i) ⊎ (next ≤ j)
      → slice_index room j ≡ slice_index words j

pub found : (l : List ℕ) (i a : ℕ) → get_elem? l i ≡ some a → slice_index l i ≡ a
found [] i a e = absurd (some-ne-none a (sym e))
found (x ∷ xs) zero a e = some-injective x a e
found (x ∷ xs) (suc i) a e = found xs i a e

-- one word more, and all of them
pub copied-more : (words room : List ℕ) (next i a : ℕ) → Copied words next i room
    → get_elem? words i ≡ some a → i < length room → Copied words next (i + 1) (set room i a)
copied-more words room next i a c e l = record {
  long = length-set room i a ∙ c.long;
  each = λ j m o. dite (ℕ_discrete j i)
      (λ (q : j ≡ i). ap (slice_index (set room i a)) q ∙ get_or-set_same room i a 0 l ∙ sym (ap (slice_index words) q ∙ found words i a e))
      (λ (ne : j ≢ i). get_or-set_other room i j a 0 ne ∙ c.each j (omega (
        arith,
        m,
        length-set room i a,
      )) (⊎_elim (λ (t : j < i + 1). inl (omega (arith, t, ne))) (λ (t : next ≤ j). inr t) o));
}

pub copied-all : (words room : List ℕ) (next i : ℕ) → Copied words next i room
    → (length room ≤ i) ⊎ (next ≤ i) → room ≡ words
copied-all words room next i c o =
    ext_get_or 0 room words c.long
    (λ j l. c.each j l (⊎_elim (λ (t : length room ≤ i). inl (omega (arith, t, l))) (λ (t : next ≤ i). by j (omega (arith, t))) o))
  where
    by : (j : ℕ) → next ≤ i → (j < i) ⊎ (next ≤ j)
    by j l = ⊎_elim (λ (t : j < i). inl t) (λ (t : i ≤ j). inr (omega (arith, t, l))) (cases_lt j i)
