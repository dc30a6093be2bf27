-- The shuffled cells of a board without stones, and the boards after stones on them.
use Rattle.std.proofs.Common.{◌≡◌, ℕ, zero, suc, ◌+◌, ◌-◌, ◌*◌, ◌/◌, ◌<◌, ◌≤◌, not}
use Rattle.std.proofs.Common.{Bool, true, false, cond, List, [], ◌∷◌, ◌++◌, length, take, get_or}
use Rattle.std.proofs.Common.{Option, Some, None, refl, sym, ap, ◌∙◌, inl, inr, zero-add, add-one}
use Rattle.std.proofs.Common.{arith}
use Rattle.std.specs.Prelude.{is_some}
use Rattle.std.specs.List.{filter, range_with_len, swap}
use Rattle.std.proofs.lemmas.Bool.{cases_lt}
use Rattle.std.proofs.lemmas.List.{take_more, length-take-le}
use Rattle.std.proofs.lemmas.List.FromFn.{length-range_with_len, get_or-range_with_len}
use Rattle.std.proofs.lemmas.List.Edits.{length-swap}
use Rattle.std.proofs.lemmas.List.Sums.{prefix_len_is}
use Rattle.hex_cells.specs.Colours.{other_of}
use Rattle.hex_cells.specs.declared.colours.Colour.{Colour}
use Rattle.hex_cells.specs.declared.colours.Colour.TheVariants.{Black}
use Rattle.hex_board.specs.Joined.{winner_of}
use Rattle.hex_board.specs.Positions.{Position, empty_board, is_empty_at, placed}
use Rattle.hex_board.proofs.EmptyBoards.{all_empty}
use Rattle.play_out.specs.Fills.{ListsEmpties, empties_of, filled_by, order_of}
use Rattle.play_out.specs.Streams.{place_of, shuffled, state_for, stream_at, words_of}
use Rattle.turn_modes.specs.Positions.{board_on, is_open, mover_after, shuffled_cells, placed_count}
use Rattle.turn_modes.proofs.Placing.{mover_from, from_black, one_stone_more, next_is_empty}

-- ---- the board without stones

keeps_all : (p : ℕ → Bool) (a m : ℕ) → ((k : ℕ) → k < a + m → p k ≡ true)
    → length (filter p (range_with_len a m)) ≡ m
keeps_all p a zero h = refl
keeps_all p a (suc m) h =
    ap (λ b. length (cond b (a ∷ filter p (range_with_len (a + 1) m))
    (filter p (range_with_len (a + 1) m)))) (h a (omega arith))
    ∙ ap suc (keeps_all p (a + 1) m (λ k l. h k (omega arith)))

bare_count : (n : ℕ) → length (empties_of (empty_board n)) ≡ n * n
unfolding empties_of
bare_count n = keeps_all (is_empty_at (empty_board n)) 0 (n * n)
    (λ k l. all_empty n k (omega arith))

-- ---- the shuffled cells

as_many : (i : ℕ) (words cells : List ℕ) → length (shuffled i words cells) ≡ length cells
unfolding shuffled
as_many zero words cells = refl
as_many (suc i) [] cells = refl
as_many (suc i) (word ∷ words) cells = as_many i words (swap cells (suc i) (place_of word (suc i)))
    ∙ length-swap cells (suc i) (place_of word (suc i))

-- they are all cells of the board
pub all_cells : (size seed : ℕ) → length (shuffled_cells size seed) ≡ size * size
unfolding order_of
all_cells size seed =
    let start : List ℕ = empties_of (empty_board size) in
    let last : ℕ = length start - 1 in
    as_many last (words_of last (stream_at (state_for seed 0))) start ∙ bare_count size

-- ---- the boards after stones on them

pub first_board : (size : ℕ) (cells : List ℕ) (board : Position) → board ≡ empty_board size
    → board ≡ board_on size cells 0
unfolding board_on filled_by
first_board size cells board e = e

-- the next cell is empty
pub next_empty : (size m x d : ℕ) (cells : List ℕ) (board : Position)
    → ListsEmpties (empty_board size) cells → m < length cells → x ≡ get_or cells m d
    → board ≡ board_on size cells m → is_empty_at board x ≡ true
unfolding board_on
next_empty size m x d cells board once l e b = ap (λ p. is_empty_at p x) b
    ∙ next_is_empty (empty_board size) Black cells m x d once l e

-- a stone on it makes the next board
pub next_board : (size m x : ℕ) (cells : List ℕ) (board next : Position) (player : Colour)
    → m < length cells → x ≡ get_or cells m x
    → board ≡ board_on size cells m → player ≡ mover_after m → next ≡ placed board player x
    → next ≡ board_on size cells (m + 1)
unfolding board_on
next_board size m x cells board next player l e b c n =
    let start : Position = empty_board size in
    let more : take (m + 1) cells ≡ take m cells ++ x ∷ [] = take_more cells m x l
    ∙ ap (λ y. take m cells ++ y ∷ []) (sym e) in
    let mover : mover_from Black (length (take m cells)) ≡ player
    = ap (mover_from Black) (length-take-le m cells (omega arith)) ∙ from_black m ∙ sym c in
    n ∙ sym (ap (filled_by start Black) more ∙ one_stone_more start Black (take m cells) x
    ∙ ap (λ q. placed q (mover_from Black (length (take m cells))) x) (sym b)
    ∙ ap (λ q. placed board q x) mover)

-- who moves there
pub next_mover : (m : ℕ) (player next : Colour) → player ≡ mover_after m → next ≡ other_of player
    → next ≡ mover_after (m + 1)
next_mover m player next e f = f ∙ ap other_of e ∙ ap mover_after (sym (add-one m))

-- nobody is joined on an open board
pub none_joined : (p : Position) → is_open p ≡ true → winner_of p ≡ None
none_joined p h = none (winner_of p) h
  where
    none : (w : Option Colour) → not (is_some w) ≡ true → w ≡ None
    none None h = refl
    none (Some c) h = absurd (cc)

-- ---- how many stones are placed

-- each board up to this one is open
pub open_so_far : (size m : ℕ) (cells : List ℕ) (next : Position)
    → ((k : ℕ) → k < m → is_open (board_on size cells (k + 1)) ≡ true)
    → next ≡ board_on size cells (m + 1) → is_open next ≡ true
    → (k : ℕ) → k < m + 1 → is_open (board_on size cells (k + 1)) ≡ true
open_so_far size m cells next before b here k l = elim (cases_lt k m) [
  | inl h ↦ before k h
  | inr g ↦ let same : k ≡ m = omega arith in ap (λ i. is_open (board_on size cells (i + 1))) same
      ∙ ap is_open (sym b) ∙ here
]

pub all_placed : (size n : ℕ) (cells : List ℕ) → n ≤ size * size / 3
    → ((m : ℕ) → m < n → is_open (board_on size cells (m + 1)) ≡ true)
    → (n < size * size / 3 → is_open (board_on size cells (n + 1)) ≡ false)
    → n ≡ placed_count size cells
unfolding placed_count
all_placed size n cells few before stop =
    let most : ℕ = size * size / 3 in
    let test : ℕ → Bool = λ m. is_open (board_on size cells (m + 1)) in
    let many = length-range_with_len 0 most in
    sym (prefix_len_is test (range_with_len 0 most) n 0 (omega arith)
    (λ k l. ap test (at k (omega arith)) ∙ before k l)
    (λ l. ap test (at n (omega arith)) ∙ stop (omega arith)))
  where
    at : (k : ℕ) → k < size * size / 3 → get_or (range_with_len 0 (size * size / 3)) k 0 ≡ k
    at k l = get_or-range_with_len 0 (size * size / 3) k 0 l ∙ zero-add k
