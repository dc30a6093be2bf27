-- Numbers in hand and recorded: how often a view has one, and how many there are.
use Rattle.std.proofs.Common.{◌≡◌, ◌⊎◌, ℕ, zero, suc, ◌+◌, ◌*◌, ◌%◌, ◌<◌, ◌≤◌, Bool, true, false}
use Rattle.std.proofs.Common.{cond, List, [], ◌∷◌, ◌++◌, length, get_or, Option, Some, None, refl}
use Rattle.std.proofs.Common.{sym, ap, ◌∙◌, ⊎_elim, inl, inr, arith}
use Rattle.std.specs.Prelude.{◌==◌, ◌&&◌, nat_lt, sum_by, count_by, Contains}
use Rattle.std.proofs.lemmas.List.Sums.{sum_by-cons, sum_by-append}
use Rattle.std.proofs.lemmas.Bool.Decides.{nat_tests}
use mathlib.Core.Option.{some}
use lib.ListN.{get_elem?}
use Rattle.hex_cells.specs.declared.colours.Colour.{Colour}
use Rattle.hex_cells.specs.declared.colours.Colour.TheVariants.{Black, White}
use Rattle.tree_words.specs.Blocks.{LinkedBlock, one_if}
use Rattle.tree_words.specs.Words.{leaf_in, winner_in, ticket_in}
use Rattle.arena_rule.specs.Views.{SeatView, Walked}
use Rattle.arena_rule.specs.Lookups.{record_word}
use Rattle.arena_rule.specs.Parts.{in_hand, times_drawn}
use Rattle.arena_rule.proofs.Before.{Before}
use Rattle.arena_rule.proofs.Totals.{total_add, total_same}
use Rattle.arena_rule.proofs.Below.{sum_below, below_add, below_hit, below_none, below_ones}
use Rattle.arena_rule.proofs.Below.{below_same, below_swap}
use Rattle.std.proofs.lemmas.Bool.{eq-eqb}

-- how often the number k stands in walks, and the value that they have for it
abbrev pub times_walked : ℕ → List Walked → ℕ
times_walked k walks = count_by (λ w. w.number == k) walks

abbrev pub value_walked : ℕ → List Walked → ℕ
value_walked k walks = sum_by (λ w. cond (w.number == k) w.value 0) walks

pub walked-cons : (k : ℕ) (w : Walked) (walks : List Walked)
    → times_walked k (w ∷ walks) ≡ one_if (w.number == k) + times_walked k walks
walked-cons k w walks = sum_by-cons (λ q. cond (q.number == k) 1 0) w walks

pub value-cons : (k : ℕ) (w : Walked) (walks : List Walked)
    → value_walked k (w ∷ walks) ≡ cond (w.number == k) w.value 0 + value_walked k walks
value-cons k w walks = sum_by-cons (λ q. cond (q.number == k) q.value 0) w walks

pub walked-append : (k : ℕ) (a b : List Walked)
    → times_walked k (a ++ b) ≡ times_walked k a + times_walked k b
walked-append k a b = sum_by-append (λ q. cond (q.number == k) 1 0) a b

pub value-append : (k : ℕ) (a b : List Walked)
    → value_walked k (a ++ b) ≡ value_walked k a + value_walked k b
value-append k a b = sum_by-append (λ q. cond (q.number == k) q.value 0) a b

-- a number that no walk has has no value
pub value-none : (k : ℕ) (walks : List Walked) → times_walked k walks ≡ 0 → value_walked k walks ≡ 0
value-none k [] e = refl
value-none k (w ∷ walks) e
    = by (w.number == k) (times_walked k walks) (value_walked k walks) w.value
    (sym (walked-cons k w walks) ∙ e) (value-none k walks) (value-cons k w walks)
  where
    by : (t : Bool) (c s x : ℕ) {m : ℕ} → cond t 1 0 + c ≡ 0 → (c ≡ 0 → s ≡ 0)
        → m ≡ cond t x 0 + s → m ≡ 0
    by true c s x e h q = absurd (omega arith)
    by false c s x e h q = omega (arith, q, h (omega arith))

-- the walks of a longer list
pub contains-cons : (w x : Walked) (walks : List Walked) → Contains (w ∷ walks) x
    → (w ≡ x) ⊎ Contains walks x
contains-cons w x walks c = by c.0 c.1 c.2
  where
    by : (k : ℕ) → k < length (w ∷ walks) → get_or (w ∷ walks) k x ≡ x → (w ≡ x) ⊎ Contains walks x
    by zero l e = inl e
    by (suc k) l e = inr (k, omega arith, e)

pub contains-append : (x : Walked) (a b : List Walked) → Contains (a ++ b) x
    → Contains a x ⊎ Contains b x
contains-append x [] b c = inr c
contains-append x (w ∷ a) b c = ⊎_elim
    (λ (e : w ≡ x). inl (0, omega arith, e))
    (λ (d : Contains (a ++ b) x). ⊎_elim (λ (h : Contains a x). inl (
      suc h.0,
      (let l = h.1 in omega arith),
      h.2,
    )) (λ (h : Contains b x). inr h) (contains-append x a b d))
    (contains-cons w x (a ++ b) c)

-- a record's leaf and winner
pub leaf-recorded : (leaf : ℕ) (c : Colour) → leaf_in (record_word leaf c) ≡ leaf
leaf-recorded leaf Black = omega arith
leaf-recorded leaf White = omega arith

pub winner-recorded : (leaf : ℕ) (c : Colour) → winner_in (record_word leaf c) ≡ c
winner-recorded leaf Black = ap (λ (t : Bool). cond t Black White) (even leaf)
  where
    even : (n : ℕ) → ((2 * n) % 2 == 0) ≡ true
    even n = eq-eqb ((2 * n) % 2) 0 (omega arith)
winner-recorded leaf White = ap (λ (t : Bool). cond t Black White) (odd leaf)
  where
    odd : (n : ℕ) → ((2 * n + 1) % 2 == 0) ≡ false
    odd n = grind (arith, nat_tests)

-- 1 if a number is in hand
abbrev pub has_number : Option ℕ → ℕ
has_number None = 0
has_number (Some k) = 1

abbrev pub holds_ticket : SeatView → ℕ
holds_ticket v = has_number v.ticket

abbrev pub walks_of : SeatView → ℕ
walks_of v = length v.walks

-- 1 if k is below TICKET and below N
abbrev pub due : ℕ → ℕ → ℕ → ℕ
due k ticket n = one_if (nat_lt k ticket && nat_lt k n)

pub due_one : (k t n : ℕ) → due k t n ≤ 1
due_one k t n = grind (arith, nat_tests)

hand-count : (n : ℕ) (o : Option ℕ) → ((k : ℕ) → o ≡ Some k → k < n)
    → sum_below n (λ j. in_hand j o) ≡ has_number o
hand-count n None h = below_none n
hand-count n (Some k) h = below_hit n k 1 (h k refl)

walks-count : (n : ℕ) (walks : List Walked) → ((w : Walked) → Contains walks w → w.number < n)
    → sum_below n (λ j. times_walked j walks) ≡ length walks
walks-count n [] h = below_none n
walks-count n (w ∷ walks) h =
    omega (
      arith,
      below_same n (λ j. times_walked j (w ∷ walks))
          (λ j. cond (w.number == j) 1 0 + times_walked j walks) (λ j _. walked-cons j w walks),
      below_add n (λ j. cond (w.number == j) 1 0) (λ j. times_walked j walks),
      below_hit n w.number 1 (h w (0, omega arith, refl)),
      walks-count n walks (λ q c. h q (suc c.0, (let l = c.1 in omega arith), c.2)),
    )

module _ (bs : List LinkedBlock) (words : List ℕ) (views : List SeatView) (id : ℕ) (v : SeatView)
    (b : Before bs words views id v) where
  -- a view has drawn as many numbers below N as it has walks, and one in hand
  drawn-count : (j : ℕ) (u : SeatView) → get_elem? views j ≡ some u
      → sum_below v.shape.knobs.playouts (λ k. times_drawn k u) ≡ holds_ticket u + walks_of u
  drawn-count j u e =
      let n : ℕ = v.shape.knobs.playouts in
      let h = b.state.in_hand j u e in
      below_add n (λ k. in_hand k u.ticket) (λ k. times_walked k u.walks)
      ∙ omega (arith, hand-count n u.ticket (λ k q. (h.ticket k q).1), walks-count n u.walks (λ w c. (h.walks w c).1))

  -- recorded walks and numbers in hand are at most N
  pub few : sum_by walks_of views + sum_by holds_ticket views ≤ v.shape.knobs.playouts
  few =
      let n : ℕ = v.shape.knobs.playouts in
      omega (
        arith,
        total_add holds_ticket walks_of views,
        total_same (λ u. sum_below n (λ k. times_drawn k u))
            (λ u. holds_ticket u + walks_of u) views drawn-count,
        below_swap n times_drawn views,
        below_same n (λ k. sum_by (times_drawn k) views) (λ k. due k (ticket_in words) n)
            (λ k _. b.state.tickets.once k),
        below_ones n (λ k. due k (ticket_in words) n) (λ k. due_one k (ticket_in words) n),
      )
