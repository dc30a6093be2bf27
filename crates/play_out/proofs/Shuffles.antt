-- The shuffle, from the last place down.
use Rattle.std.proofs.Common.{◌≡◌, ℕ, ◌-◌, ◌<◌, ◌≤◌, List, [], ◌∷◌, ◌++◌, length, take, drop}
use Rattle.std.proofs.Common.{get_or, ◌+◌, refl, sym, ◌∙◌, ap, subst, arith, suc, inl, inr}
use Rattle.std.specs.List.{swap}
use Rattle.std.proofs.Math.ListN.{set, length-set}
use Rattle.std.proofs.lemmas.Bool.{cases_eq}
use Rattle.std.proofs.lemmas.List.{drop-set-lt, get_or_read, get_or_default, get_or-set_same}
use Rattle.std.proofs.lemmas.List.{get_or-set_other}
use Rattle.std.proofs.lemmas.List.Edits.{swap_is}
use Rattle.std.specs.List.Sorted.{IsPermutation}
use Rattle.std.proofs.lemmas.List.Sorted.{IsPermutation-refl, IsPermutation-trans}
use Rattle.rand_core.specs.Stream.{Stream, next_u64}
use Rattle.hex_board.specs.Positions.{Position}
use Rattle.std.proofs.Math.Seq.{take-append_seam}
use Rattle.play_out.specs.Fills.{empties_of, order_of}
use Rattle.play_out.specs.Streams.{stream_at, state_for, words_of, place_of, shuffled}

-- the cells, and the state of the generator, if the places below i are still to be shuffled, and
-- what began as start
pub record Shuffling (start : List ℕ) (first : List ℕ) (cells : List ℕ) (state : List ℕ)
    (i : ℕ) : Type 0 where
  pub order : shuffled (i - 1) (words_of (i - 1) (stream_at state)) cells ≡ shuffled
      (length start - 1) (words_of (length start - 1) (stream_at first)) start
  pub same : IsPermutation start cells
  pub within : i ≤ length cells

pub first_shuffling : (start first : List ℕ) → Shuffling start first start first (length start)
first_shuffling start first
    = record { order = refl; same = IsPermutation-refl start; within = omega arith }

step : (n : ℕ) (stream : Stream) (cells : List ℕ) → shuffled (suc n) (words_of (suc n) stream) cells
    ≡ shuffled n (words_of n (next_u64 stream).1)
    (swap cells (suc n) (place_of (next_u64 stream).0 (suc n)))
unfolding shuffled words_of
step n stream cells = refl

-- the same with the place as m, and with what the word gave as data
pub step_at : (m n : ℕ) (stream rest : Stream) (cells next : List ℕ) (word j : ℕ) → m ≡ suc n
    → (word, rest) ≡ next_u64 stream
    → j ≡ place_of word m → next ≡ swap cells m j → shuffled n (words_of n rest) next ≡ shuffled m
    (words_of m stream) cells
step_at m n stream rest cells next word j q e f g =
    let w : word ≡ (next_u64 stream).0 = ap (λ (p : ℕ × Stream). p.0) e in
    let r : rest ≡ (next_u64 stream).1 = ap (λ (p : ℕ × Stream). p.1) e in
    let g' : next ≡ swap cells (suc n) (place_of (next_u64 stream).0 (suc n)) =
    g ∙ (ap (λ v. swap cells m v) f ∙ (ap (λ v. swap cells m (place_of v m)) w ∙ ap (λ v. swap cells v (place_of (next_u64 stream).0 v)) q)) in
    subst (λ v. shuffled n (words_of n rest) next ≡ shuffled v (words_of v stream) cells) (sym q)
    (ap (λ v. shuffled n (words_of n v) next) r ∙ (ap (λ v. shuffled n (words_of n (next_u64 stream).1) v) g' ∙ sym (step n stream cells)))

-- one word more settles place m
pub next_shuffling : (start first cells state after next : List ℕ) (i m : ℕ)
    → Shuffling start first cells state i → i ≡ m + 1
    → shuffled (m - 1) (words_of (m - 1) (stream_at after)) next ≡ shuffled m
    (words_of m (stream_at state)) cells → IsPermutation cells next
    → length next ≡ length cells
    → Shuffling start first next after m
next_shuffling start first cells state after next i m s e o p len =
    let q : m ≡ i - 1 = omega arith in
    record {
      order = o ∙ ((λ j. shuffled (q j) (words_of (q j) (stream_at state)) cells) ∙ s.order);
      same = IsPermutation-trans start cells next s.same p;
      within = omega (arith, s.within);
    }

-- the same, told of equal values
pub same_shuffling : (start first cells state next after : List ℕ) (i m : ℕ) → next ≡ cells
    → after ≡ state → m ≡ i → Shuffling start first cells state i
    → Shuffling start first next after m
same_shuffling start first cells state next after i m e f g s =
    subst (λ v. Shuffling start first v after m) (sym e)
    (subst (λ v. Shuffling start first cells v m) (sym f) (subst (λ v. Shuffling start first cells state v) (sym g) s))

-- two writes are a swap
pub swapped : (cells : List ℕ) (i j cell moved : ℕ) → i < length cells → j < length cells
    → cell ≡ get_or cells j cell → moved ≡ get_or cells i moved
    → set (set cells i cell) j moved ≡ swap cells i j
swapped cells i j cell moved l m e f =
    ap (λ v. set (set cells i v) j moved) (get_or_read cells j cell m e 0)
    ∙ (ap (λ v. set (set cells i (get_or cells j 0)) j v) (get_or_read cells i moved l f 0) ∙ swap_is cells i j 0 l m)

-- and the first place has what was at the other
pub swapped_first : (cells : List ℕ) (i j cell moved : ℕ) → i < length cells → j < length cells
    → cell ≡ get_or cells j cell → moved ≡ get_or cells i moved
    → cell ≡ get_or (set (set cells i cell) j moved) i cell
swapped_first cells i j cell moved l m e f = elim (cases_eq i j) [
  | inl q ↦
      let in_next : j < length (set cells i cell) = omega (arith, m, length-set cells i cell) in
      sym (ap (λ v. get_or (set (set cells i cell) j moved) v cell) q ∙ get_or-set_same (set cells i cell) j moved cell in_next
      ∙ (f ∙ get_or_default cells i moved cell l ∙ ap (λ v. get_or cells v cell) q ∙ sym e))
  | inr n ↦ sym (get_or-set_other (set cells i cell) j i moved cell n ∙ get_or-set_same cells i cell cell l)
]

-- what stands past both places of a swap stays
pub drop-swap : (xs : List ℕ) (i j n : ℕ) → i < n → j < n → drop n (swap xs i j) ≡ drop n xs
drop-swap [] i j n l m = refl
drop-swap (x ∷ xs) i j n l m = drop-set-lt n (set (x ∷ xs) i (get_or (x ∷ xs) j x)) j
    (get_or (x ∷ xs) i x) m ∙ drop-set-lt n (x ∷ xs) i (get_or (x ∷ xs) j x) l

-- no place is left
pub all_shuffled : (start first cells state : List ℕ) (i : ℕ) → Shuffling start first cells state i
    → (1 < i → ⊥)
    → cells ≡ shuffled (length start - 1) (words_of (length start - 1) (stream_at first)) start
unfolding shuffled
all_shuffled start first cells state i s n =
    let z : i - 1 ≡ 0 = omega arith in
    subst (λ v. shuffled v (words_of v (stream_at state)) cells ≡ shuffled (length start - 1) (words_of (length start - 1) (stream_at first)) start) z s.order

-- ---- a shuffle of the front of a list

pub front_is : (n : ℕ) (xs ys : List ℕ) → length xs ≡ n → take n (xs ++ ys) ≡ xs
front_is n xs ys e = subst (λ v. take v (xs ++ ys) ≡ xs) e (take-append_seam xs ys)

pub dealt : (p : Position) (seed k : ℕ) (listed state ys : List ℕ) → listed ≡ empties_of p
    → state ≡ state_for seed k
    → ys ≡ shuffled (length listed - 1) (words_of (length listed - 1) (stream_at state)) listed
    → ys ≡ order_of p seed k
unfolding order_of
dealt p seed k listed state ys e f g =
    g ∙ (ap (λ v. shuffled (length listed - 1) (words_of (length listed - 1) (stream_at v)) listed) f
    ∙ ap (λ v. shuffled (length v - 1) (words_of (length v - 1) (stream_at (state_for seed k))) v) e)
