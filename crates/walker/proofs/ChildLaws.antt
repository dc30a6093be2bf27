-- The children of a block, as they were loaded.
use Rattle.std.proofs.Common.{◌≡◌, ℕ, zero, suc, ◌+◌, ◌*◌, ◌<◌, ◌≤◌, List, [], ◌∷◌, ◌++◌, length}
use Rattle.std.proofs.Common.{map, take, get_or, Some, refl, ap, ◌∙◌, arith}
use Rattle.std.specs.Prelude.{slice_get}
use Rattle.std.proofs.lemmas.List.{take_more, take_all, length-take-le}
use Rattle.uct_table.specs.Choice.{Child}
use Rattle.tree_words.specs.Words.{Count}
use Rattle.tree_words.specs.Blocks.{LinkedBlock, child}
use Rattle.tree_words.specs.Sequence.{child_of}
use Rattle.tree_words.specs.Descents.{pairs_of}
use Rattle.arena_rule.specs.Views.{SeatView}
use Rattle.arena_rule.specs.Lookups.{tally_loaded, seen_loaded}
use Rattle.walker.specs.Belongs.{children_loaded}
use Rattle.walker.proofs.Going.{pairs-same}

pairs-long : (p q : ℕ → Count) (y : ℕ) (cs : List ℕ)
    → length (map child_of (pairs_of p q y cs)) ≡ length cs
pairs-long p q y [] = refl
pairs-long p q y (c ∷ cs) = ap suc (pairs-long p q (y + 4) cs)

-- one child more
pairs-push : (p q : ℕ → Count) (y c : ℕ) (cs : List ℕ)
    → map child_of (pairs_of p q y (cs ++ c ∷ [])) ≡ map child_of (pairs_of p q y cs) ++ child_of
    (p (y + 4 * length cs), q (y + 4 * length cs)) ∷ []
pairs-push p q y c [] = let e : y ≡ y + 4 * 0 = omega arith in λ i. child_of (p (e i), q (e i)) ∷ []
pairs-push p q y c (d ∷ cs) =
    let e : y + 4 + 4 * length cs ≡ y + 4 * suc (length cs) = omega arith in
    ap (λ (xs : List Child). child_of (p y, q y) ∷ xs)
    (pairs-push p q (y + 4) c cs ∙ (λ i. map child_of (pairs_of p q (y + 4) cs) ++ child_of (p (e i), q (e i)) ∷ []))

pub children-long : (v : SeatView) (b : LinkedBlock) (n : ℕ) → n ≤ length b.cells
    → length (children_loaded v b n) ≡ n
children-long v b n l = pairs-long (tally_loaded v) (seen_loaded v) (b.start + 4) (take n b.cells)
    ∙ length-take-le n b.cells l

pub children-push : (v : SeatView) (b : LinkedBlock) (n : ℕ) → n < length b.cells
    → children_loaded v b (n + 1) ≡ children_loaded v b n ++ child_of
    (tally_loaded v (child b n), seen_loaded v (child b n)) ∷ []
children-push v b n l =
    let long : length (take n b.cells) ≡ n = length-take-le n b.cells (omega arith) in
    ap (λ (cs : List ℕ). map child_of (pairs_of (tally_loaded v) (seen_loaded v) (b.start + 4) cs))
    (take_more b.cells n 0 l)
    ∙ pairs-push (tally_loaded v) (seen_loaded v) (b.start + 4) (get_or b.cells n 0)
    (take n b.cells)
    ∙ ap (λ (k : ℕ). children_loaded v b n ++ child_of (tally_loaded v (child b k), seen_loaded v (child b k)) ∷ []) long

pub children-all : (v : SeatView) (b : LinkedBlock)
    → children_loaded v b (length b.cells) ≡ map child_of
    (pairs_of (tally_loaded v) (seen_loaded v) (b.start + 4) b.cells)
children-all v b
    = ap (λ (cs : List ℕ). map child_of (pairs_of (tally_loaded v) (seen_loaded v) (b.start + 4) cs)) (take_all (length b.cells) b.cells (omega arith))

pub children-same : (v u : SeatView) (b : LinkedBlock) (n : ℕ) → n ≤ length b.cells
    → ((k : ℕ) → k < n → tally_loaded u (child b k) ≡ tally_loaded v (child b k))
    → ((k : ℕ) → k < n → seen_loaded u (child b k) ≡ seen_loaded v (child b k))
    → children_loaded u b n ≡ children_loaded v b n
children-same v u b n l hp hq =
    let long : length (take n b.cells) ≡ n = length-take-le n b.cells l in
    ap (map child_of)
    (pairs-same (tally_loaded u) (seen_loaded u) (tally_loaded v) (seen_loaded v) (b.start
    + 4) (take n b.cells) (λ k m. hp k (omega (arith, m, long))) (λ k m. hq k (omega (arith, m, long))))

-- the child of a place
pairs-at : (p q : ℕ → Count) (y : ℕ) (cs : List ℕ) (i : ℕ) → i < length cs
    → slice_get (map child_of (pairs_of p q y cs)) i ≡ Some
    (child_of (p (y + 4 * i), q (y + 4 * i)))
pairs-at p q y [] i l = absurd (omega arith)
pairs-at p q y (c ∷ cs) zero l = let e : y ≡ y + 4 * 0 = omega arith in
    λ i. Some (child_of (p (e i), q (e i)))
pairs-at p q y (c ∷ cs) (suc i) l = let e : y + 4 + 4 * i ≡ y + 4 * suc i = omega arith in
    pairs-at p q (y + 4) cs i (omega arith) ∙ (λ j. Some (child_of (p (e j), q (e j))))

pub children-at : (v : SeatView) (b : LinkedBlock) (n i : ℕ) → i < n → n ≤ length b.cells
    → slice_get (children_loaded v b n) i ≡ Some
    (child_of (tally_loaded v (child b i), seen_loaded v (child b i)))
children-at v b n i l m = pairs-at (tally_loaded v) (seen_loaded v) (b.start + 4) (take n b.cells) i
    (let long : length (take n b.cells) ≡ n = length-take-le n b.cells m in omega (arith, long, l))
