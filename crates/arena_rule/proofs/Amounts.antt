-- What a list of adds adds to a word: sums, prefixes, and the seen words of one block.
use Rattle.std.proofs.Common.{◌≡◌, ◌≢◌, ℕ, zero, suc, ◌+◌, ◌*◌, ◌<◌, ◌≤◌, Bool, true, false, cond}
use Rattle.std.proofs.Common.{List, [], ◌∷◌, ◌++◌, length, get_or, take, Some, refl, ap, ◌∙◌, arith}
use Rattle.std.specs.Prelude.{◌==◌, ◌&&◌, count_by, sum_by, slice_get}
use Rattle.std.proofs.lemmas.List.Sums.{sum_by-cons, sum_by_more, sum_by_more_le, sum_by-take-le}
use Rattle.std.proofs.lemmas.List.Sums.{sum_by-le-sum_by}
use Rattle.std.proofs.lemmas.Option.{slice_get_within, get_or_from_slice_get}
use Rattle.hex_cells.specs.Sets.{has as has_cell}
use Rattle.tree_words.specs.Sequence.{amount_of}
use Rattle.tree_words.specs.declared.layout.TheConstants.{SEEN_WORD, VISIT}
use Rattle.arena_rule.specs.Adds.{CountAdd, seen_adds, amount_at}
use Rattle.arena_rule.specs.Lookups.{adds_in}
use Rattle.std.proofs.lemmas.Bool.{eq-eqb, ne_eqb}

pub amount-append : (w : ℕ) (a b : List CountAdd)
    → amount_at w (a ++ b) ≡ amount_at w a + amount_at w b
amount-append w [] b = omega arith
amount-append w (x ∷ xs) b = omega (arith, amount-append w xs b)

-- what one add adds to the word
abbrev amount_here : ℕ → CountAdd → ℕ
amount_here w a = cond (a.word == w) (amount_of a.won) 0

amount-sum : (w : ℕ) (adds : List CountAdd) → amount_at w adds ≡ sum_by (amount_here w) adds
amount-sum w [] = refl
amount-sum w (a ∷ adds) = omega (arith, amount-sum w adds, sum_by-cons (amount_here w) a adds)

-- one add more
pub amount-next : (w made : ℕ) (adds : List CountAdd) (a : CountAdd) → slice_get adds made ≡ Some a
    → amount_at w (take (made + 1) adds) ≡ amount_at w (take made adds) + cond (a.word == w)
    (amount_of a.won) 0
amount-next w made adds a e =
    omega (
      arith,
      amount-sum w (take (made + 1) adds),
      amount-sum w (take made adds),
      sum_by_more (amount_here w) adds made a (slice_get_within adds made a e),
      ap (amount_here w) (get_or_from_slice_get adds made a a e),
    )

-- how many of the adds to a word are wins
abbrev pub wins_added : ℕ → List CountAdd → ℕ
wins_added w adds = count_by (λ a. (a.word == w) && a.won) adds

-- an amount has the number of adds as its visits, and the wins among them as its wins
pub amount-parts : (w : ℕ) (adds : List CountAdd)
    → amount_at w adds ≡ VISIT * adds_in w adds + wins_added w adds
amount-parts w [] = refl
amount-parts w (a ∷ adds) =
    omega (
      arith,
      by (a.word == w) a.won,
      amount-parts w adds,
      sum_by-cons (λ (o : CountAdd). cond (o.word == w) 1 0) a adds,
      sum_by-cons (λ (o : CountAdd). cond ((o.word == w) && o.won) 1 0) a adds,
    )
  where
    by : (t u : Bool) → cond t (amount_of u) 0 ≡ VISIT * cond t 1 0 + cond (t && u) 1 0
    by true true = refl
    by true false = refl
    by false u = refl

pub wins-less : (w : ℕ) (adds : List CountAdd) → wins_added w adds ≤ adds_in w adds
wins-less w adds = sum_by-le-sum_by (λ (a : CountAdd). cond ((a.word == w) && a.won) 1 0)
    (λ a. cond (a.word == w) 1 0) adds (λ a. by (a.word == w) a.won)
  where
    by : (t u : Bool) → cond (t && u) 1 0 ≤ cond t 1 0
    by true true = omega arith
    by true false = omega arith
    by false u = omega arith

-- the adds before one of them are fewer
pub adds-before : (w made : ℕ) (adds : List CountAdd) (a : CountAdd) → slice_get adds made ≡ Some a
    → adds_in w (take made adds) + cond (a.word == w) 1 0 ≤ adds_in w adds
adds-before w made adds a e =
    let one : CountAdd → ℕ = λ o. cond (o.word == w) 1 0 in
    omega (arith, sum_by_more_le one adds made a (slice_get_within adds made a e), ap one (get_or_from_slice_get adds made a a e))

pub adds-take : (w n : ℕ) (adds : List CountAdd) → adds_in w (take n adds) ≤ adds_in w adds
adds-take w n adds = sum_by-take-le (λ (a : CountAdd). cond (a.word == w) 1 0) adds n

-- an amount of one visit or of none is that of one add or of none
pub one-add : (t u : Bool) (n m : ℕ) → cond t (amount_of u) 0 ≡ VISIT * n + m → m ≤ n
    → n ≡ cond t 1 0
one-add true true n m e l = omega (arith, e)
one-add true false n m e l = omega (arith, e)
one-add false u n m e l = omega (arith, e)

-- an add of another word
pub miss : (a w : ℕ) (won : Bool) → a ≢ w → cond (a == w) (amount_of won) 0 ≡ 0
miss a w won ne = ap (λ (t : Bool). cond t (amount_of won) 0) (ne_eqb a w ne)

-- and of this one
pub hit : (a w : ℕ) (won : Bool) → a ≡ w → cond (a == w) (amount_of won) 0 ≡ amount_of won
hit a w won e = ap (λ (t : Bool). cond t (amount_of won) 0) (eq-eqb a w e)

seen-cons : (w set : ℕ) (won : Bool) (y c : ℕ) (cells : List ℕ)
    → amount_at w (seen_adds set won y (c ∷ cells))
    ≡ cond (has_cell set c) (cond (y + SEEN_WORD == w) (amount_of won) 0) 0 + amount_at w
    (seen_adds set won (y + 4) cells)
seen-cons w set won y c cells = by (has_cell set c)
  where
    by : (t : Bool)
        → amount_at w
        (cond t (record { word = y + SEEN_WORD; won = won } ∷ seen_adds set won (y + 4) cells) (seen_adds set won (y + 4) cells))
        ≡ cond t (cond (y + SEEN_WORD == w) (amount_of won) 0) 0 + amount_at w
        (seen_adds set won (y + 4) cells)
    by true = refl
    by false = omega arith

if_none : (t : Bool) (n : ℕ) → n ≡ 0 → cond t n 0 ≡ 0
if_none true n e = e
if_none false n e = refl

-- a word that is no seen word of the block
pub seen-none : (w set : ℕ) (won : Bool) (y : ℕ) (cells : List ℕ)
    → ((j : ℕ) → j < length cells → y + 4 * j + SEEN_WORD ≢ w)
    → amount_at w (seen_adds set won y cells) ≡ 0
seen-none w set won y [] h = refl
seen-none w set won y (c ∷ cells) h =
    omega (
      arith,
      seen-cons w set won y c cells,
      if_none (has_cell set c) (cond (y + SEEN_WORD == w) (amount_of won) 0)
          (miss (y + SEEN_WORD) w won (λ e. h 0 (omega arith) (omega (arith, e)))),
      seen-none w set won (y + 4) cells (λ j l e. h (suc j) (omega arith) (omega (arith, e))),
    )

-- the seen word of the node of place i
pub seen-hit : (set : ℕ) (won : Bool) (y i : ℕ) (cells : List ℕ) → i < length cells
    → amount_at (y + 4 * i + SEEN_WORD)
    (seen_adds set won y cells) ≡ cond (has_cell set (get_or cells i 0)) (amount_of won) 0
seen-hit set won y i [] l = absurd (omega arith)
seen-hit set won y zero (c ∷ cells) l =
    let e : y + 4 * zero + SEEN_WORD ≡ y + SEEN_WORD = omega arith in
    ap (λ (n : ℕ). amount_at n (seen_adds set won y (c ∷ cells))) e
    ∙ omega (
      arith,
      seen-cons (y + SEEN_WORD) set won y c cells,
      ap (λ (n : ℕ). cond (has_cell set c) n 0) (hit (y + SEEN_WORD) (y + SEEN_WORD) won refl),
      seen-none (y + SEEN_WORD) set won (y + 4) cells (λ j l e. omega (arith, e)),
    )
seen-hit set won y (suc i) (c ∷ cells) l =
    let w : ℕ = y + 4 * suc i + SEEN_WORD in
    let v : ℕ = y + 4 + 4 * i + SEEN_WORD in
    let e : w ≡ v = omega arith in
    omega (
      arith,
      seen-cons w set won y c cells,
      if_none (has_cell set c) (cond (y + SEEN_WORD == w) (amount_of won) 0)
          (miss (y + SEEN_WORD) w won (λ q. omega (arith, q))),
      ap (λ (n : ℕ). amount_at n (seen_adds set won (y + 4) cells)) e,
      seen-hit set won (y + 4) i cells (omega arith),
    )
