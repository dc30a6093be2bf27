-- The writes of a new block, one by one.
use Rattle.std.proofs.Common.{◌≡◌, ℕ, zero, suc, ◌+◌, ◌-◌, ◌*◌, ◌/◌, ◌%◌, ◌<◌, ◌≤◌, ◌==◌, ◌&&◌}
use Rattle.std.proofs.Common.{nat_lt, nat_le, Bool, true, false, cond, List, [], ◌∷◌, ◌++◌, length}
use Rattle.std.proofs.Common.{get_or, refl, sym, ap, ◌∙◌, subst, ⊎_elim, arith, add-one, append-nil}
use Rattle.std.proofs.Common.{add-zero, length-append}
use Rattle.std.proofs.Math.ListN.{set as set_word, length-set, get_or-append}
use Rattle.std.proofs.Math.Seq.{get_or-append_seam}
use Rattle.std.proofs.Common.{get_or-set_same, get_or-set_other}
use Rattle.std.proofs.lemmas.Bool.Decides.{nat_tests}
use Rattle.std.proofs.lemmas.Bool.{cases_eq, cases_lt, cases_Bool}
use Rattle.std.specs.List.{filter, range_with_len}
use Rattle.std.proofs.lemmas.List.FromFn.{length-range_with_len}
use Rattle.std.proofs.lemmas.List.Sums.{length-filter, count_by-le-length}
use Rattle.hex_cells.specs.Sets.{has as has_cell}
use Rattle.tree_words.specs.Words.{move_word}
use Rattle.tree_words.specs.Blocks.{LinkedBlock, has_node, place, cell_at}
use Rattle.tree_words.proofs.Blocks.BlockLaws.{has-at, has-here}
use Rattle.tree_words.specs.Writing.{WritesMoves}
use Rattle.play_out.proofs.Listing.{filter_more}

-- a block of these cells
abbrev pub block_of : ℕ → ℕ → ℕ → List ℕ → LinkedBlock
block_of start parent empties cells
    = record { start = start; parent = parent; empties = empties; cells = cells }

zero-add : (k : ℕ) → 0 + k ≡ k
zero-add k = omega arith

-- no node, no move
pub no-moves : (a p e : ℕ) (words : List ℕ) → WritesMoves (block_of a p e []) words words
no-moves a p e words = record {
  long = refl;
  each = λ i. sym (ap (λ (t : Bool). cond t (move_word ((i - a - 4) / 4) 0) (get_or words i 0)) (none a i));
}
  where
    none : (a i : ℕ)
        → (nat_le (a + 4) i && (nat_lt i (a + (4 + 4 * 0)) && ((i - a) % 4 == 0))) ≡ false
    none a i = grind (arith, nat_tests)

-- a node of the longer block, but the last, is one of the shorter
same-has : (a n i : ℕ) → (i ≡ a + (4 + 4 * n) → ⊥)
    → (nat_le (a + 4) i && (nat_lt i (a + (4 + 4 * (n + 1))) && ((i - a) % 4 == 0)))
    ≡ (nat_le (a + 4) i && (nat_lt i (a + (4 + 4 * n)) && ((i - a) % 4 == 0)))
same-has a n i d = ⊎_elim
    (λ (l : i < a + (4 + 4 * n)). grind (arith, nat_tests))
    (λ (l : a + (4 + 4 * n) ≤ i). ⊎_elim
    (λ (e : (i - a) % 4 ≡ 0). let far : a + (4 + 4 * (n + 1)) ≤ i = omega arith in grind (arith, nat_tests))
    (λ (e : (i - a) % 4 ≡ 0 → ⊥). grind (arith, nat_tests))
    (cases_eq ((i - a) % 4) 0))
    (cases_lt i (a + (4 + 4 * n)))

-- one move more
pub one-move : (a p e : ℕ) (cs : List ℕ) (c at : ℕ) (before words : List ℕ)
    → at ≡ a + (4 + 4 * length cs) → at < length words
    → WritesMoves (block_of a p e cs) before words
    → WritesMoves (block_of a p e (cs ++ c ∷ [])) before
    (set_word words at (move_word (length cs) c))
one-move a p e cs c at before words is l w =
    let b : LinkedBlock = block_of a p e cs in
    let d : LinkedBlock = block_of a p e (cs ++ c ∷ []) in
    let n : length (cs ++ c ∷ []) ≡ length cs + 1 = length-append cs (c ∷ []) in
    record {
      long = length-set words at (move_word (length cs) c) ∙ w.long;
      each = λ i. ⊎_elim
          (λ (q : i ≡ at).
          let h : has_node d i ≡ true = ap (has_node d) (q ∙ is)
          ∙ has-here d (length cs) (omega (arith, n)) in
          let k : place d i ≡ length cs = omega (arith, q, is) in
          ap (λ (z : ℕ). get_or (set_word words at (move_word (length cs) c)) z 0) q
          ∙ get_or-set_same words at (move_word (length cs) c) 0 l
          ∙ sym (ap (λ (t : Bool). cond t (move_word (place d i) (cell_at d (place d i))) (get_or before i 0)) h
          ∙ ap (λ (z : ℕ). move_word z (get_or (cs ++ c ∷ []) z 0)) k
          ∙ ap (move_word (length cs)) (get_or-append_seam cs c [] 0)))
          (λ (q : i ≡ at → ⊥).
          let h : has_node d i ≡ has_node b i
          = ap (λ (m : ℕ). nat_le (a + 4) i && (nat_lt i (a + (4 + 4 * m)) && ((i - a) % 4 == 0))) n ∙ same-has a (length cs) i (λ z. q (z ∙ sym is)) in
          get_or-set_other words at i (move_word (length cs) c) 0 q ∙ w.each i
          ∙ ⊎_elim
          (λ (t : has_node b i ≡ true).
          let k = has-at b i t in
          let low : place b i < length cs = omega (arith, k.1, k.2) in
          ap (λ (u : Bool). cond u (move_word (place b i) (cell_at b (place b i))) (get_or before i 0)) t
          ∙ sym (ap (λ (u : Bool). cond u (move_word (place d i) (cell_at d (place d i))) (get_or before i 0)) (h ∙ t)
          ∙ ap (move_word (place b i)) (get_or-append cs (c ∷ []) 0 (place b i) low)))
          (λ (t : has_node b i ≡ false).
          ap (λ (u : Bool). cond u (move_word (place b i) (cell_at b (place b i))) (get_or before i 0)) t
          ∙ sym (ap (λ (u : Bool). cond u (move_word (place d i) (cell_at d (place d i))) (get_or before i 0)) (h ∙ t)))
          (cases_Bool (has_node b i)))
          (cases_eq i at);
    }

-- the moves of the first k cells of the board that are in the set are written
pub record Moved (start set : ℕ) (before words : List ℕ) (place k : ℕ) : Type 0 where
  pub many : place ≡ length (filter (has_cell set) (range_with_len 0 k))
  pub moves : WritesMoves
      (block_of start 0 0 (filter (has_cell set) (range_with_len 0 k))) before words

pub moved-none : (start set : ℕ) (words : List ℕ) → Moved start set words words 0 0
moved-none start set words = record { many = refl; moves = no-moves start 0 0 words }

pub cells-more : (set k : ℕ) → filter (has_cell set) (range_with_len 0 (k + 1)) ≡ filter
    (has_cell set) (range_with_len 0 k) ++ cond (has_cell set k) (k ∷ []) []
cells-more set k = ap (λ (z : ℕ). filter (has_cell set) (range_with_len 0 z)) (add-one k)
    ∙ filter_more (has_cell set) 0 k k (zero-add k)

pub moved-one : (start set : ℕ) (before words : List ℕ) (n k at : ℕ)
    → Moved start set before words n k → has_cell set k ≡ true → at ≡ start + 4 + 4 * n
    → at < length words
    → Moved start set before (set_word words at (256 * n + k)) (n + 1) (k + 1)
moved-one start set before words n k at m h is l =
    let cs : List ℕ = filter (has_cell set) (range_with_len 0 k) in
    let next : filter (has_cell set) (range_with_len 0 (k + 1)) ≡ cs ++ k ∷ [] = cells-more set k
    ∙ ap (λ (t : Bool). cs ++ cond t (k ∷ []) []) h in
    let one : WritesMoves (block_of start 0 0 (cs ++ k ∷ [])) before
    (set_word words at (move_word (length cs) k))
    = one-move start 0 0 cs k at before words (omega (arith, is, m.many)) l m.moves in
    record {
      many = ap (λ (z : ℕ). z + 1) m.many ∙ sym (length-append cs (k ∷ [])) ∙ sym (ap length next);
      moves = subst (λ (l : List ℕ). WritesMoves (block_of start 0 0 l) before (set_word words at (move_word n k))) (sym next)
          (subst (λ (z : ℕ). WritesMoves (block_of start 0 0 (cs ++ k ∷ [])) before (set_word words at (move_word z k))) (sym m.many) one);
    }

pub moved-past : (start set : ℕ) (before words : List ℕ) (n k : ℕ)
    → Moved start set before words n k → has_cell set k ≡ false
    → Moved start set before words n (k + 1)
moved-past start set before words n k m h =
    let cs : List ℕ = filter (has_cell set) (range_with_len 0 k) in
    let next : filter (has_cell set) (range_with_len 0 (k + 1)) ≡ cs = cells-more set k
    ∙ (ap (λ (t : Bool). cs ++ cond t (k ∷ []) []) h ∙ append-nil cs) in
    record {
      many = m.many ∙ sym (ap length next);
      moves = subst (λ (l : List ℕ). WritesMoves (block_of start 0 0 l) before words)
          (sym next) m.moves;
    }

cells-step : (set n : ℕ) → length (filter (has_cell set) (range_with_len 0 n)) ≤ length
    (filter (has_cell set) (range_with_len 0 (suc n)))
cells-step set n
    = omega (
      arith,
      ap length (filter_more (has_cell set) 0 n n (zero-add n)),
      length-append (filter (has_cell set) (range_with_len 0 n)) (cond (has_cell set n) (n ∷ []) []),
    )

-- of the first k cells there are no more than of all
pub cells-fewer : (set k n : ℕ) → length (filter (has_cell set) (range_with_len 0 k)) ≤ length
    (filter (has_cell set) (range_with_len 0 (k + n)))
cells-fewer set k zero
    = omega (arith, ap (λ (z : ℕ). length (filter (has_cell set) (range_with_len 0 z))) (add-zero k))
cells-fewer set k (suc n)
    = omega (arith, cells-fewer set k n, cells-step set (k + n), ap (λ (z : ℕ). length (filter (has_cell set) (range_with_len 0 z))) (shift k n))
  where
    shift : (k n : ℕ) → k + suc n ≡ suc (k + n)
    shift k n = omega arith

-- if cell k is in the set, there are more cells than those below it
pub few_places : (start set all k n : ℕ) (before words : List ℕ) → Moved start set before words n k
    → k < all → has_cell set k ≡ true → n < length (filter (has_cell set) (range_with_len 0 all))
few_places start set all k n before words m l h =
    let cs : List ℕ = filter (has_cell set) (range_with_len 0 k) in
    let next : length (filter (has_cell set) (range_with_len 0 (k + 1))) ≡ length cs + 1
    = ap length (cells-more set k ∙ ap (λ (t : Bool). cs ++ cond t (k ∷ []) []) h)
    ∙ length-append cs (k ∷ []) in
    omega (arith, m.many, next, cells-fewer set (k + 1) (all - (k + 1)), ap (λ (z : ℕ). length (filter (has_cell set) (range_with_len 0 z))) (rest all k l))
  where
    rest : (all k : ℕ) → k < all → k + 1 + (all - (k + 1)) ≡ all
    rest all k l = omega arith

pub moved-few : (start set : ℕ) (before words : List ℕ) (n k : ℕ)
    → Moved start set before words n k → n ≤ k
moved-few start set before words n k m
    = omega (
      arith,
      m.many,
      length-filter (has_cell set) (range_with_len 0 k),
      count_by-le-length (has_cell set) (range_with_len 0 k),
      length-range_with_len 0 k,
    )
