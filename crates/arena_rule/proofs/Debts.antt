-- Sums of what seats owe: who owes to a word, and what stands after an add is owed or given.
use Rattle.std.proofs.Common.{◌≡◌, ◌≢◌, ◌⊎◌, inl, inr, ℕ, zero, suc, ◌+◌, ◌*◌, ◌<◌, ◌≤◌, Bool, true, false, cond}
use Rattle.std.proofs.Common.{List, [], ◌∷◌, length, length-set, set, refl, sym, ap, ◌∙◌}
use Rattle.std.proofs.Common.{⊎_elim, arith, get_or-set_same, get_or-set_other}
use Rattle.std.specs.Prelude.{◌==◌, not, slice_index, Contains}
use Rattle.std.proofs.lemmas.List.{get_or_past}
use Rattle.std.proofs.lemmas.List.Sums.{sum_by-cons}
use Rattle.std.proofs.lemmas.Bool.{eqb-true, eq-eqb, ne_eqb, cases_Bool}
use mathlib.Core.Option.{some, some-injective, some-ne-none}
use mathlib.Core.Logic.{dite}
use native.Mathlib.Decide.{ℕ_discrete, dec_le}
use lib.ListN.{get_elem?}
use Rattle.tree_words.specs.Words.{visits_in, wins_in}
use Rattle.tree_words.specs.Sequence.{amount_of}
use Rattle.tree_words.specs.declared.layout.TheConstants.{VISIT}
use Rattle.tree_words.specs.declared.settings.TheConstants.{MOST_PLAYOUTS}
use Rattle.tree_words.proofs.Blocks.BlockLaws.{clash}
use Rattle.arena_rule.specs.Views.{SeatView}
use Rattle.arena_rule.specs.Adds.{CountAdd, amount_at}
use Rattle.arena_rule.specs.Owing.{Debtor, views_of, owed_to, owed_in, debts_but}

-- a list of numbers in which the same is added at one place, beside one that has more everywhere
pub set-sum : (F W : List ℕ) (i j m n : ℕ) (o : ℕ → ℕ) → length F ≡ length W
    → ((k : ℕ) → slice_index F k ≡ slice_index W k + o k) → m ≡ n + o i
    → slice_index (set F i m) j ≡ slice_index (set W i n) j + o j
set-sum F W i j m n o long h e = dite (ℕ_discrete j i)
    (λ (q : j ≡ i). dite (dec_le (suc i) (length F))
    (λ (l : suc i ≤ length F).
    omega (
      arith,
      ap (slice_index (set F i m)) q,
      ap (slice_index (set W i n)) q,
      ap o q,
      get_or-set_same F i m 0 l,
      get_or-set_same W i n 0 (omega (arith, l, long)),
      e,
    ))
    (λ (far : suc i ≤ length F → ⊥).
    let past : length F ≤ j = least far q in
    omega (
      arith,
      get_or_past (set F i m) j 0 (omega (arith, length-set F i m, past)),
      get_or_past (set W i n) j 0 (omega (arith, length-set W i n, past, long)),
      h j,
      get_or_past F j 0 past,
      get_or_past W j 0 (omega (arith, past, long)),
    )))
    (λ (ne : j ≢ i). omega (arith, get_or-set_other F i j m 0 ne, get_or-set_other W i j n 0 ne, h j))
  where
    least : (suc i ≤ length F → ⊥) → j ≡ i → length F ≤ j
    least far q = grind (arith, far, q)

-- a word that gets more
pub set-more : (l : List ℕ) (i j n : ℕ) → i < length l
    → slice_index (set l i (slice_index l i + n)) j ≡ slice_index l j + cond (i == j) n 0
set-more l i j n h = ⊎_elim
    (λ (t : (i == j) ≡ true).
    let e : j ≡ i = sym (eqb-true i j t) in
    ap (slice_index (set l i (slice_index l i + n))) e
    ∙ get_or-set_same l i (slice_index l i + n) 0 h
    ∙ omega (arith, ap (slice_index l) e, ap (λ (u : Bool). cond u n 0) t))
    (λ (t : (i == j) ≡ false).
    get_or-set_other l i j (slice_index l i + n) 0 (λ e. clash (i == j) (eq-eqb i j (sym e)) t)
    ∙ omega (arith, ap (λ (u : Bool). cond u n 0) t))
    (cases_Bool (i == j))

-- a view of the list is that of a seat
pub at-view : (seats : List Debtor) (j : ℕ) (u : SeatView) → get_elem? (views_of seats) j ≡ some u
    → (d : Debtor) × (get_elem? seats j ≡ some d) × (d.view ≡ u)
at-view [] j u e = absurd (some-ne-none u (sym e))
at-view (d ∷ seats) zero u e = (d, refl, some-injective d.view u e)
at-view (d ∷ seats) (suc j) u e = at-view seats j u e

-- somebody owes what is owed
pub who-owes : (i : ℕ) (seats : List Debtor) → 0 < owed_in i seats
    → (j : ℕ) × (d : Debtor) × (get_elem? seats j ≡ some d) × (0 < owed_to i d)
who-owes i [] l = absurd (omega (arith, l))
who-owes i (d ∷ seats) l = dite (ℕ_discrete (owed_to i d) 0)
    (λ (z : owed_to i d ≡ 0).
    let t = who-owes i seats (omega (arith, l, z, sum_by-cons (owed_to i) d seats)) in
    (suc t.0, t.1, t.2, t.3))
    (λ (ne : owed_to i d ≢ 0). (0, d, refl, omega (arith, ne)))

-- and an add of that word is among the adds
pub which-add : (i : ℕ) (adds : List CountAdd) → 0 < amount_at i adds
    → (a : CountAdd) × Contains adds a × (a.word ≡ i)
which-add i [] l = absurd (omega (arith, l))
which-add i (a ∷ adds) l = ⊎_elim
    (λ (t : (a.word == i) ≡ true). (a, (0, omega arith, refl), eqb-true a.word i t))
    (λ (t : (a.word == i) ≡ false).
    let r = which-add i adds (omega (arith, l, ap (λ (u : Bool). cond u (amount_of a.won) 0) t)) in
    let c = r.1 in (r.0, (suc c.0, (let m = c.1 in omega arith), c.2), r.2))
    (cases_Bool (a.word == i))

-- the debts but those to the word i
pub but-here : (i : ℕ) (adds : List CountAdd) → amount_at i (debts_but i adds) ≡ 0
but-here i [] = refl
but-here i (a ∷ adds) = by (a.word == i) refl (but-here i adds)
  where
    by : (t : Bool) → (a.word == i) ≡ t → amount_at i (debts_but i adds) ≡ 0
        → amount_at i (cond (not t) (a ∷ debts_but i adds) (debts_but i adds)) ≡ 0
    by true e h = h
    by false e h = omega (arith, h, ap (λ (u : Bool). cond u (amount_of a.won) 0) e)

pub but-else : (i j : ℕ) (adds : List CountAdd) → j ≢ i
    → amount_at j (debts_but i adds) ≡ amount_at j adds
but-else i j [] ne = refl
but-else i j (a ∷ adds) ne = by (a.word == i) refl (but-else i j adds ne)
  where
    by : (t : Bool) → (a.word == i) ≡ t
        → amount_at j (debts_but i adds) ≡ amount_at j adds
        → amount_at j (cond (not t) (a ∷ debts_but i adds) (debts_but i adds)) ≡ cond (a.word == j)
        (amount_of a.won) 0 + amount_at j adds
    by true e h =
        let off : (a.word == j) ≡ false
        = ne_eqb a.word j (λ q. ne (sym q ∙ eqb-true a.word i e)) in
        omega (arith, h, ap (λ (u : Bool). cond u (amount_of a.won) 0) off)
    by false e h = omega (arith, h)

pub but-among : (i : ℕ) (adds : List CountAdd) (c : CountAdd) → Contains (debts_but i adds) c
    → Contains adds c
but-among i [] c h = h
but-among i (a ∷ adds) c h = by (a.word == i) (λ k. but-among i adds c k) h
  where
    later : Contains adds c → Contains (a ∷ adds) c
    later r = (suc r.0, (let m = r.1 in omega arith), r.2)

    by : (t : Bool) → (Contains (debts_but i adds) c → Contains adds c)
        → Contains (cond (not t) (a ∷ debts_but i adds) (debts_but i adds)) c
        → Contains (a ∷ adds) c
    by true among k = later (among k)
    by false among (zero, l, e) = (0, omega arith, e)
    by false among (suc n, l, e) = later (among (n, (omega (arith, l)), e))

pub add-or : (a c : CountAdd) (adds : List CountAdd) → Contains (a ∷ adds) c
    → (a ≡ c) ⊎ Contains adds c
add-or a c adds (zero, l, e) = inl e
add-or a c adds (suc n, l, e) = inr (n, omega (arith, l), e)

-- two halves
pub visits-less : (m n : ℕ) → m ≤ n → visits_in m ≤ visits_in n
visits-less m n l = omega arith

-- one visit more, and a win or none
pub wins-one : (x : ℕ) (won : Bool) → wins_in x ≤ visits_in x → visits_in x < MOST_PLAYOUTS
    → wins_in (x + amount_of won) ≤ visits_in (x + amount_of won)
wins-one x true l h = omega (arith, l, h)
wins-one x false l h = omega (arith, l, h)

-- visits and wins more
pub wins-more : (x n c w : ℕ) → wins_in x ≤ visits_in x → n ≡ VISIT * c + w → w ≤ c
    → visits_in (x + n) ≤ MOST_PLAYOUTS
    → wins_in (x + n) ≤ visits_in (x + n)
wins-more x n c w l e h m = omega (arith, l, e, h, m)
