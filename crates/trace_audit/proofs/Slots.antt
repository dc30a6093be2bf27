-- The index with one slot for four words.
use Rattle.std.proofs.Common.{◌≡◌, ⊎_elim, ℕ, zero, suc, ◌+◌, ◌*◌, ◌/◌, ◌%◌, ◌<◌, ◌≤◌, Bool, true}
use Rattle.std.proofs.Common.{false, cond, List, length, length-set, replicate, set}
use Rattle.std.proofs.Common.{get_or-set_same, get_or-set_other, slice_index, inl, inr, refl, sym}
use Rattle.std.proofs.Common.{ap, ◌∙◌, subst, arith}
use Rattle.std.specs.Prelude.{◌==◌, ◌⊎◌}
use Rattle.std.proofs.lemmas.Bool.{cases_eq, eq-eqb, ne_eqb}
use Rattle.std.proofs.lemmas.Grind.{same_number_lists}
use Rattle.std.proofs.lemmas.List.{length-replicate}
use Rattle.trace_audit.specs.Slots.{AreSlots, IsNearTaken, entries_from, entry_in}
use Rattle.tree_words.proofs.Areas.CutAreas.{none_left}

pub entries_long : (i n : ℕ) (slots : List ℕ) → length (entries_from i n slots) ≡ n
unfolding entries_from
entries_long i zero slots = refl
entries_long i (suc n) slots = ap suc (entries_long (i + 1) n slots)

pub entries_at : (i n : ℕ) (slots : List ℕ) (k : ℕ) → k < n
    → slice_index (entries_from i n slots) k ≡ entry_in slots (i + k)
unfolding entries_from
entries_at i zero slots k l = absurd (omega (arith, l))
entries_at i (suc n) slots zero l = ap (entry_in slots) (omega arith)
entries_at i (suc n) slots (suc k) l = entries_at (i + 1) n slots k (omega (arith, l))
    ∙ ap (entry_in slots) (omega arith)

no_entry : (t : Bool) → cond t (0 / 4) 0 ≡ 0
no_entry true = refl
no_entry false = refl

-- a slot that is 0 has no number
pub entry_none : (slots : List ℕ) (i : ℕ) → slice_index slots (i / 4) ≡ 0 → entry_in slots i ≡ 0
entry_none slots i e = ap (λ (n : ℕ). cond (n % 4 == i % 4) (n / 4) 0) e ∙ no_entry (0 % 4 == i % 4)

-- one of another word has none for this one
pub entry_other : (slots : List ℕ) (i n : ℕ) → slice_index slots (i / 4) ≡ n → (n % 4 ≡ i % 4 → ⊥)
    → entry_in slots i ≡ 0
entry_other slots i n e d = ap (λ (m : ℕ). cond (m % 4 == i % 4) (m / 4) 0) e
    ∙ ap (λ (t : Bool). cond t (n / 4) 0) (ne_eqb (n % 4) (i % 4) d)

pub entry_own : (slots : List ℕ) (i n : ℕ) → slice_index slots (i / 4) ≡ n → n % 4 ≡ i % 4
    → entry_in slots i ≡ n / 4
entry_own slots i n e d = ap (λ (m : ℕ). cond (m % 4 == i % 4) (m / 4) 0) e
    ∙ ap (λ (t : Bool). cond t (n / 4) 0) (eq-eqb (n % 4) (i % 4) d)

-- no slot is used
pub entries_none : (n m : ℕ) → entries_from 0 n (replicate m 0) ≡ replicate n 0
entries_none n m = same_number_lists (entries_from 0 n (replicate m 0)) (replicate n 0)
    (entries_long 0 n (replicate m 0) ∙ sym (length-replicate {A = ℕ} n 0))
    (λ k l. entries_at 0 n (replicate m 0) k (omega (arith, l, entries_long 0 n (replicate m 0))) ∙ entry_none
    (replicate m 0) (0 + k) (none_left m ((0 + k) / 4)) ∙ sym (none_left n k))

pub slots_none : (n : ℕ) → AreSlots n (replicate (n / 4 + 1) 0)
slots_none n = record {
  many = omega (arith, length-replicate {A = ℕ} (n / 4 + 1) 0);
  used = λ k. inl (none_left (n / 4 + 1) k);
}

module _ (n : ℕ) (slots : List ℕ) (a : AreSlots n slots) (at : ℕ) (l : at < n) where
  pub slot_inside : at / 4 < length slots
  slot_inside = let m = a.many in omega (arith, m, l)

  module _ (number v : ℕ) (some : 0 < number) (is : v ≡ 4 * number + at % 4) where
    same_piece : (k : ℕ) → k / 4 ≡ at / 4 → (k ≡ at → ⊥) → k % 4 ≡ at % 4 → ⊥
    same_piece k e d f = d (omega (arith, e, f))

    pub slots_set : AreSlots n (set slots (at / 4) v)
    slots_set = record {
      many = let m = a.many in omega (arith, m, length-set slots (at / 4) v);
      used = λ k. ⊎_elim
          (λ (e : k ≡ at / 4).
          let here : slice_index (set slots (at / 4) v) k ≡ v
          = ap (slice_index (set slots (at / 4) v)) e
          ∙ get_or-set_same slots (at / 4) v 0 slot_inside in
          inr (omega (arith, here, is, some), omega (arith, here, is, e, l)))
          (λ (e : k ≡ at / 4 → ⊥). subst (λ (m : ℕ). (m ≡ 0) ⊎ ((4 ≤ m) × (4 * k + m % 4 < n))) (sym (get_or-set_other slots (at / 4) k v 0 e)) (a.used k))
          (cases_eq k (at / 4));
    }

    -- if no other word of the piece has a number
    pub entries_set : ((slice_index slots (at / 4) ≡ 0) ⊎ (slice_index slots (at / 4) % 4 ≡ at % 4))
        → entries_from 0 n (set slots (at / 4) v) ≡ set (entries_from 0 n slots) at number
    entries_set free =
        let now : List ℕ = set slots (at / 4) v in
        let old : List ℕ = entries_from 0 n slots in
        let here : slice_index now (at / 4) ≡ v = get_or-set_same slots (at / 4) v 0 slot_inside in
        same_number_lists (entries_from 0 n now) (set old at number)
        (entries_long 0 n now ∙ sym (length-set old at number ∙ entries_long 0 n slots))
        (λ k m.
        let few : k < n = omega (arith, m, entries_long 0 n now) in
        let zero_more : 0 + k ≡ k = omega arith in
        entries_at 0 n now k few ∙ ap (entry_in now) zero_more ∙ ⊎_elim
        (λ (e : k ≡ at).
        let inside : at < length old = omega (arith, entries_long 0 n slots, l) in
        let rest : v % 4 ≡ at % 4 = omega (arith, is) in
        let part : v / 4 ≡ number = omega (arith, is) in
        ap (entry_in now) e ∙ entry_own now at v here rest ∙ part
        ∙ sym (ap (slice_index (set old at number)) e ∙ get_or-set_same old at number 0 inside))
        (λ (e : k ≡ at → ⊥).
        let stays : slice_index (set old at number) k ≡ entry_in slots k
        = get_or-set_other old at k number 0 e ∙ entries_at 0 n slots k few
        ∙ ap (entry_in slots) zero_more in
        ⊎_elim
        (λ (f : k / 4 ≡ at / 4).
        let new : entry_in now k ≡ 0 = entry_other now k v (ap (slice_index now) f ∙ here)
        (λ q. same_piece k f e (omega (arith, sym q, is))) in
        let none : entry_in slots k ≡ 0 = ⊎_elim
        (λ (q : slice_index slots (at / 4) ≡ 0). entry_none slots k (ap (slice_index slots) f ∙ q))
        (λ (q : slice_index slots (at / 4) % 4 ≡ at % 4). entry_other slots k (slice_index slots (at / 4))
        (ap (slice_index slots) f) (λ w. same_piece k f e (sym w ∙ q)))
        free in
        new ∙ sym none ∙ sym stays)
        (λ (f : k / 4 ≡ at / 4 → ⊥). ap (λ (m : ℕ). cond (m % 4 == k % 4) (m / 4) 0) (get_or-set_other slots (at / 4) (k / 4) v 0 f) ∙ sym stays)
        (cases_eq (k / 4) (at / 4)))
        (cases_eq k at))

  -- another word of the piece has one
  pub entry_taken : (slice_index slots (at / 4) ≡ 0 → ⊥)
      → (slice_index slots (at / 4) % 4 ≡ at % 4 → ⊥) → IsNearTaken (entries_from 0 n slots) at
  entry_taken some other =
      let m : ℕ = slice_index slots (at / 4) in
      let j : ℕ = 4 * (at / 4) + m % 4 in
      let used : (4 ≤ m) × (j < n)
      = ⊎_elim (λ (e : m ≡ 0). absurd (some e)) (λ (e : (4 ≤ m) × (j < n)). e)
      (a.used (at / 4)) in
      let piece : j / 4 ≡ at / 4 = omega arith in
      let rest : j % 4 ≡ m % 4 = omega arith in
      let zero_more : 0 + j ≡ j = omega arith in
      let number : slice_index (entries_from 0 n slots) j ≡ m / 4 = entries_at 0 n slots j used.1
      ∙ ap (entry_in slots) zero_more ∙ entry_own slots j m (ap (slice_index slots) piece)
      (sym rest) in
      (j, λ e. other (sym rest ∙ ap (λ (q : ℕ). q % 4) e), omega arith, omega arith, omega (arith, number, used.0))
