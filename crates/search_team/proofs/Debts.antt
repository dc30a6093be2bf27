-- A worker's table keeps what its seat owes.
use Rattle.std.proofs.Common.{◌≡◌, ◌≢◌, ◌⊎◌, ℕ, zero, suc, ◌+◌, ◌*◌, ◌<◌, ◌≤◌, Bool, true, false}
use Rattle.std.proofs.Common.{cond, List, [], ◌∷◌, length, length-set, set, refl, sym, ap, ◌∙◌, subst}
use Rattle.std.proofs.Common.{inl, inr, ⊎_elim, arith, get_or-set_same, get_or-set_other}
use Rattle.std.specs.Prelude.{◌==◌, slice_index, replicate}
use Rattle.std.proofs.lemmas.List.{length-replicate, set-get_or}
use Rattle.std.proofs.lemmas.Bool.{eq-eqb, ne_eqb}
use mathlib.Core.Logic.{dite}
use native.Mathlib.Decide.{ℕ_discrete}
use Rattle.tree_words.specs.Sequence.{amount_of}
use Rattle.tree_words.specs.declared.layout.TheConstants.{VISIT}
use Rattle.arena_rule.specs.Adds.{CountAdd, amount_at}
use Rattle.tree_words.specs.Settings.{Setting}
use Rattle.arena_rule.specs.Owing.{Debtor, CanGive, debts_but, owed_part, owed_to}
use Rattle.arena_rule.proofs.Debts.{but-here, but-else}
use Rattle.search_team.specs.declared.holding.Sums.{Sums}
use Rattle.search_team.specs.declared.holding.TheConstants.{SLOTS, MOST_HELD}
use Rattle.search_team.specs.Debts.{slot_of, sum_at, HoldsDebts}

-- zeros
zeros : (n i : ℕ) → slice_index (replicate n 0) i ≡ 0
zeros zero i = refl
zeros (suc n) zero = refl
zeros (suc n) (suc i) = zeros n i

both-zero : (t : Bool) (n : ℕ) → n ≡ 0 → cond t n 0 ≡ 0
both-zero true n e = e
both-zero false n e = refl

-- nothing is owed
pub holds-none : (z : Setting) (t : Sums) → t.words ≡ replicate SLOTS 0 → t.sums ≡ replicate SLOTS 0
    → t.most ≤ MOST_HELD → t.most ≤ owed_part z → HoldsDebts z t []
holds-none z t w s most part =
    let zero : (i : ℕ) → slice_index t.sums i ≡ 0
    = λ i. ap (λ (l : List ℕ). slice_index l i) s ∙ zeros SLOTS i in
    let nothing : ℕ = 0 in
    let long : length (replicate SLOTS nothing) ≡ SLOTS = length-replicate SLOTS nothing in
    record {
      words = ap length w ∙ long;
      sums = ap length s ∙ long;
      most = most;
      part = part;
      few = λ i. omega (arith, zero i);
      placed = λ i. inl (zero i);
      owes = λ k. sym (both-zero (slice_index t.words (slot_of k) == k) (slice_index t.sums (slot_of k)) (zero (slot_of k)));
    }

-- Slot i has the word w and the sum n now. That is all that has changed, if what is owed to a word of
-- slot i is its sum there, and what is owed to another is what was.
holds-at : (z : Setting) (t u : Sums) (owed owed' : List CountAdd) (i w n : ℕ) → i < SLOTS
    → HoldsDebts z t owed → u.words ≡ set t.words i w → u.sums ≡ set t.sums i n → u.most ≡ t.most
    → n < t.most + 2 * VISIT → (n ≡ 0) ⊎ (slot_of w ≡ i)
    → ((k : ℕ) → slot_of k ≡ i → amount_at k owed' ≡ cond (w == k) n 0)
    → ((k : ℕ) → slot_of k ≢ i → amount_at k owed' ≡ amount_at k owed) → HoldsDebts z u owed'
holds-at z t u owed owed' i w n l h ws s m less place here else = record {
  words = ap length ws ∙ length-set t.words i w ∙ h.words;
  sums = ap length s ∙ length-set t.sums i n ∙ h.sums;
  most = omega (arith, m, h.most);
  part = omega (arith, m, h.part);
  few = λ j. dite (ℕ_discrete j i)
      (λ (q : j ≡ i). omega (arith, sum-at j q, less, m))
      (λ (ne : j ≢ i). omega (arith, sum-off j ne, h.few j, m));
  placed = λ j. dite (ℕ_discrete j i)
      (λ (q : j ≡ i). ⊎_elim
      (λ (e : n ≡ 0). inl (sum-at j q ∙ e))
      (λ (e : slot_of w ≡ i). inr (ap slot_of (word-at j q) ∙ e ∙ sym q))
      place)
      (λ (ne : j ≢ i). ⊎_elim
      (λ (e : slice_index t.sums j ≡ 0). inl (sum-off j ne ∙ e))
      (λ (e : slot_of (slice_index t.words j) ≡ j). inr (ap slot_of (word-off j ne) ∙ e))
      (h.placed j));
  owes = λ k. dite (ℕ_discrete (slot_of k) i)
      (λ (q : slot_of k ≡ i). here k q ∙ (λ j. cond (sym (word-at (slot_of k) q) j == k) (sym (sum-at (slot_of k) q) j) 0))
      (λ (ne : slot_of k ≢ i). else k ne ∙ h.owes k
      ∙ (λ j. cond (sym (word-off (slot_of k) ne) j == k) (sym (sum-off (slot_of k) ne) j) 0));
}
  where
    set-at : (xs ys : List ℕ) (y j : ℕ) → ys ≡ set xs i y → length xs ≡ SLOTS → j ≡ i → slice_index ys j ≡ y
    set-at xs ys y j is long q = ap (λ (k : List ℕ). slice_index k j) is ∙ ap (slice_index (set xs i y)) q
        ∙ get_or-set_same xs i y 0 (omega (arith, l, long))

    word-at : (j : ℕ) → j ≡ i → slice_index u.words j ≡ w
    word-at j q = set-at t.words u.words w j ws h.words q

    sum-at : (j : ℕ) → j ≡ i → slice_index u.sums j ≡ n
    sum-at j q = set-at t.sums u.sums n j s h.sums q

    word-off : (j : ℕ) → j ≢ i → slice_index u.words j ≡ slice_index t.words j
    word-off j ne = ap (λ (k : List ℕ). slice_index k j) ws ∙ get_or-set_other t.words i j w 0 ne

    sum-off : (j : ℕ) → j ≢ i → slice_index u.sums j ≡ slice_index t.sums j
    sum-off j ne = ap (λ (k : List ℕ). slice_index k j) s ∙ get_or-set_other t.sums i j n 0 ne

-- what is owed to a word of slot i, by the table before
owes-at : (z : Setting) (t : Sums) (owed : List CountAdd) (i k : ℕ) → HoldsDebts z t owed
    → slot_of k ≡ i → amount_at k owed ≡ cond (slice_index t.words i == k) (slice_index t.sums i) 0
owes-at z t owed i k h q = h.owes k
    ∙ ap (λ (j : ℕ). cond (slice_index t.words j == k) (slice_index t.sums j) 0) q

-- a slot that has a sum is that of its word
own-slot : (z : Setting) (t : Sums) (owed : List CountAdd) (i : ℕ) → HoldsDebts z t owed
    → slice_index t.sums i ≢ 0 → slot_of (slice_index t.words i) ≡ i
own-slot z t owed i h some = ⊎_elim (λ (e : slice_index t.sums i ≡ 0). absurd (some e))
    (λ (q : slot_of (slice_index t.words i) ≡ i). q) (h.placed i)

-- the sum of a slot may be given
pub can-give : (z : Setting) (t : Sums) (d : Debtor) (i n : ℕ) → HoldsDebts z t d.owed → n ≡ slice_index t.sums i
    → n ≢ 0 → CanGive d (slice_index t.words i) n
can-give z t d i n h e some =
    let w : ℕ = slice_index t.words i in
    record {
      owes = e ∙ sym (owes-at z t d.owed i w h (own-slot z t d.owed i h (λ none. some (e ∙ none)))
          ∙ ap (λ (b : Bool). cond b (slice_index t.sums i) 0) (eq-eqb w w refl));
      some = omega (arith, some);
    }

-- and is none afterwards
pub holds-given : (z : Setting) (t u : Sums) (owed owed' : List CountAdd) (i : ℕ) → i < SLOTS
    → HoldsDebts z t owed → slice_index t.sums i ≢ 0 → u.words ≡ t.words → u.sums ≡ set t.sums i 0
    → u.most ≡ t.most → owed' ≡ debts_but (slice_index t.words i) owed
    → HoldsDebts z u owed'
holds-given z t u owed owed' i l h some ws s m o =
    let w : ℕ = slice_index t.words i in
    let at = own-slot z t owed i h some in
    holds-at z t u owed owed' i w 0 l h (ws ∙ sym (set-get_or t.words i 0)) s m (omega arith) (inl refl)
    (λ k q. ap (amount_at k) o ∙ dite (ℕ_discrete k w)
    (λ (e : k ≡ w). ap (λ (j : ℕ). amount_at j (debts_but w owed)) e ∙ but-here w owed ∙ sym (both-zero (w == k) 0 refl))
    (λ (ne : k ≢ w). but-else w k owed ne ∙ owes-at z t owed i k h q
    ∙ ap (λ (b : Bool). cond b (slice_index t.sums i) 0) (ne_eqb w k (λ e. ne (sym e))) ∙ sym (both-zero (w == k) 0 refl)))
    (λ k ne. ap (amount_at k) o ∙ but-else w k owed (λ e. ne (ap slot_of e ∙ at)))

-- an empty slot gets another word
pub holds-taken : (z : Setting) (t u : Sums) (owed : List CountAdd) (i word : ℕ) → i < SLOTS
    → HoldsDebts z t owed → slice_index t.sums i ≡ 0 → u.words ≡ set t.words i word
    → u.sums ≡ t.sums → u.most ≡ t.most → HoldsDebts z u owed
holds-taken z t u owed i word l h empty ws s m =
    holds-at z t u owed owed i word 0 l h ws
    (s ∙ sym (ap (set t.sums i) (sym empty) ∙ set-get_or t.sums i 0)) m (omega arith) (inl refl)
    (λ k q. owes-at z t owed i k h q ∙ both-zero (slice_index t.words i == k) (slice_index t.sums i) empty
    ∙ sym (both-zero (word == k) 0 refl))
    (λ k ne. refl)

-- what is owed to a word is at most the sum of its slot, so one add more may be owed to it
pub may-owe : (z : Setting) (t : Sums) (d : Debtor) (i word : ℕ) → z ≡ d.view.shape
    → HoldsDebts z t d.owed → slot_of word ≡ i → slice_index t.sums i ≤ t.most
    → owed_to word d ≤ owed_part d.view.shape
may-owe z t d i word shape h at low = subst (λ (k : Setting). owed_to word d ≤ owed_part k) shape
    (omega (arith, owes-at z t d.owed i word h at, most (slice_index t.words i == word), low, h.part))
  where
    most : (b : Bool) → cond b (slice_index t.sums i) 0 ≤ slice_index t.sums i
    most true = omega arith
    most false = omega arith

-- an add more is owed to a word in its slot
pub holds-owed : (z : Setting) (t u : Sums) (owed owed' : List CountAdd) (i n word : ℕ) (won : Bool) → i < SLOTS
    → HoldsDebts z t owed → slot_of word ≡ i → slice_index t.words i ≡ word
    → slice_index t.sums i ≤ t.most → n ≡ slice_index t.sums i + amount_of won
    → u.words ≡ t.words → u.sums ≡ set t.sums i n → u.most ≡ t.most
    → owed' ≡ record { word = word; won = won } ∷ owed
    → HoldsDebts z u owed'
holds-owed z t u owed owed' i n word won l h at has low is ws s m o =
    holds-at z t u owed owed' i word n l h
    (ws ∙ sym (ap (set t.words i) (sym has) ∙ set-get_or t.words i 0)) s m (omega (arith, is, low, small won)) (inr at)
    (λ k q. ap (amount_at k) o
    ∙ ap (λ (a : ℕ). cond (word == k) (amount_of won) 0 + a)
    (owes-at z t owed i k h q ∙ ap (λ (w : ℕ). cond (w == k) (slice_index t.sums i) 0) has)
    ∙ sum (word == k))
    (λ k ne. ap (amount_at k) o ∙ off k (ne_eqb word k (λ e. ne (ap slot_of (sym e) ∙ at))))
  where
    small : (t : Bool) → amount_of t < VISIT + VISIT
    small true = omega arith
    small false = omega arith

    sum : (b : Bool) → cond b (amount_of won) 0 + cond b (slice_index t.sums i) 0 ≡ cond b n 0
    sum true = omega (arith, is)
    sum false = refl

    off : (k : ℕ) → (word == k) ≡ false → cond (word == k) (amount_of won) 0 + amount_at k owed ≡ amount_at k owed
    off k e = omega (arith, ap (λ (b : Bool). cond b (amount_of won) 0) e)

-- if no slot has a sum, nothing is owed
pub holds-nothing : (z : Setting) (t : Sums) (owed : List CountAdd) → HoldsDebts z t owed
    → ((j : ℕ) → j < SLOTS → slice_index t.sums j ≡ 0) → owed ≡ []
holds-nothing z t [] h empty = refl
holds-nothing z t (a ∷ owed) h empty =
    let none : sum_at t a.word ≡ 0
    = both-zero (slice_index t.words (slot_of a.word) == a.word) (slice_index t.sums (slot_of a.word))
    (empty (slot_of a.word) (omega arith)) in
    absurd (omega (arith, h.owes a.word, none, ap (λ (b : Bool). cond b (amount_of a.won) 0) (eq-eqb a.word a.word refl), some a.won))
  where
    some : (t : Bool) → 0 < amount_of t
    some true = omega arith
    some false = omega arith
