-- The cells of a block: each empty cell is among them; and what is told of each of them.
use Rattle.std.proofs.Common.{◌≡◌, ⊎_elim, ℕ, zero, suc, ◌+◌, ◌<◌, true, cond, List, [], ◌∷◌}
use Rattle.std.proofs.Common.{length, set, get_or-set_same, get_or-set_other, slice_index, inl, inr}
use Rattle.std.proofs.Common.{sym, ap, ◌∙◌, arith}
use Rattle.std.specs.Prelude.{◌==◌, count_by}
use Rattle.std.proofs.lemmas.Bool.{cases_eq}
use Rattle.hex_board.specs.Positions.{Position, is_empty_at}
use Rattle.play_out.specs.Fills.{empties_of}
use Rattle.play_out.proofs.Counting.{counted_later, empties_listed}
use Rattle.tree_words.specs.Words.{node_at}
use Rattle.trace_audit.specs.Gains.{AreUnseen, cell_of_node, turned_word}

-- where a number stands in a list
stands_at : (xs : List ℕ) (c : ℕ) → 0 < count_by (λ e. e == c) xs → (k : ℕ) × (k < length xs)
    × (slice_index xs k ≡ c)
stands_at [] c l = absurd (omega (arith, l))
stands_at (x ∷ xs) c l = ⊎_elim
    (λ (e : x ≡ c). (zero, omega arith, e))
    (λ (e : x ≡ c → ⊥).
    let rest = stands_at xs c (omega (arith, l, counted_later c x xs e)) in
    (suc rest.0, omega (arith, rest.1), rest.2))
    (cases_eq x c)

-- each empty cell stands in the list of the empty cells
pub empty_stands : (p : Position) (c : ℕ) → is_empty_at p c ≡ true
    → (k : ℕ) × (k < length (empties_of p)) × (slice_index (empties_of p) k ≡ c)
empty_stands p c e
    = stands_at (empties_of p) c (omega (arith, empties_listed p c ∙ ap (λ (t : _). cond t 1 0) e))

-- no node yet
pub unseen_none : (words sums : List ℕ) (b : ℕ) (unseen : List ℕ)
    → ((c : ℕ) → slice_index unseen c ≡ 0) → AreUnseen words sums b 0 unseen
unseen_none words sums b unseen e c l = inr (λ k m. absurd (omega (arith, m)), e c)

-- a node more
pub unseen_next : (words sums : List ℕ) (b n : ℕ) (unseen : List ℕ) (cell v : ℕ)
    → AreUnseen words sums b n unseen → cell ≡ cell_of_node words b n → cell < length unseen
    → v ≡ turned_word (slice_index sums (node_at b n + 3))
    → AreUnseen words sums b (n + 1) (set unseen cell v)
unseen_next words sums b n unseen cell v a is inside e c l = ⊎_elim
    (λ (q : c ≡ cell). inl (n, omega arith, sym is ∙ sym q, ap (slice_index (set unseen cell v)) q ∙ get_or-set_same unseen cell v 0 inside ∙ e))
    (λ (q : c ≡ cell → ⊥).
    let stays : slice_index (set unseen cell v) c ≡ slice_index unseen c
    = get_or-set_other unseen cell c v 0 q in
    ⊎_elim
    (λ (f : (k : ℕ) × (k < n) × (cell_of_node words b k ≡ c)
    × (slice_index unseen c ≡ turned_word (slice_index sums (node_at b k + 3)))). inl (f.0, omega (arith, f.1), f.2, stays ∙ f.3))
    (λ (f : ((k : ℕ) → k < n → cell_of_node words b k ≡ c → ⊥) × (slice_index unseen c ≡ 0)).
    inr (
      λ k m z. ⊎_elim (λ (w : k ≡ n). q (sym z ∙ ap (cell_of_node words b) w ∙ sym is))
          (λ (w : k ≡ n → ⊥). f.0 k (omega (arith, m, w)) z) (cases_eq k n),
      stays ∙ f.1,
    ))
    (a c l))
    (cases_eq c cell)
