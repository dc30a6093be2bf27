-- The root's block of a closed tree.
use Rattle.std.proofs.Common.{◌≡◌, ℕ, zero, suc, ◌+◌, ◌*◌, ◌%◌, ◌<◌, ◌≤◌, Bool, true, false, cond}
use Rattle.std.proofs.Common.{List, [], ◌∷◌, length, get_or, refl, sym, ap, ◌∙◌, subst, ⊎_elim, inl}
use Rattle.std.proofs.Common.{inr, arith}
use Rattle.std.specs.Prelude.{◌==◌}
use Rattle.std.specs.List.{filter, range_with_len}
use Rattle.std.specs.List.Sorted.{IsStrictlyIncreasing}
use Rattle.std.proofs.lemmas.Bool.{eqb-true, eq-eqb, cases_Bool}
use Rattle.std.proofs.lemmas.List.Kept.{IsStrictlyIncreasing-filter}
use Rattle.std.proofs.lemmas.List.FromFn.{length-range_with_len, get_or-range_with_len}
use Rattle.std.proofs.lemmas.List.Sums.{length-filter, count_by-le-length}
use Rattle.std.proofs.Math.Nat.{mul-le-mul}
use Rattle.std.proofs.lemmas.Bool.Decides.{nat_tests}
use Rattle.hex_cells.specs.Sets.{has as has_cell}
use Rattle.hex_board.specs.Joined.{cells_of}
use Rattle.play_out.specs.Fills.{empties_of}
use Rattle.tree_words.specs.Paths.{node_board}
use Rattle.tree_words.specs.Settings.{Setting, IsSetting}
use Rattle.tree_words.specs.Words.{root_at, next_in, cell_in, move_word}
use Rattle.tree_words.specs.Blocks.{LinkedBlock, In, InOrder, is_node, link_of}
use Rattle.tree_words.specs.Complete.{IsComplete, AreComplete, allowed_cells}
use Rattle.tree_words.specs.Records.{leaf_of}
use Rattle.tree_words.specs.Closing.{IsClosed}
use Rattle.tree_words.specs.Roots.{root_link, root_count, row_at, HasRoot}
use Rattle.tree_words.proofs.Blocks.BlockLaws.{move-word, move-stays, clash, root_node}
use Rattle.hex_cells.proofs.Tables.{square_small}
use Rattle.hex_board.proofs.Placed.{empty_on}

-- the numbers of a filtered range
filter_step : (p : ℕ → Bool) (a n : ℕ) (rest : List ℕ)
    → ((i : ℕ) → i < length rest → (p (get_or rest i 0) ≡ true) × (get_or rest i 0 < a + 1 + n))
    → (t : Bool) → p a ≡ t → (i : ℕ) → i < length (cond t (a ∷ rest) rest)
    → (p (get_or (cond t (a ∷ rest) rest) i 0) ≡ true)
    × (get_or (cond t (a ∷ rest) rest) i 0 < a + suc n)
filter_step p a n rest h true e zero l = (e, omega arith)
filter_step p a n rest h true e (suc i) l = let r = h i (omega arith) in (r.0, omega (arith, r.1))
filter_step p a n rest h false e i l = let r = h i l in (r.0, omega (arith, r.1))

pub filter_at : (p : ℕ → Bool) (a n i : ℕ) → i < length (filter p (range_with_len a n))
    → (p (get_or (filter p (range_with_len a n)) i 0) ≡ true)
    × (get_or (filter p (range_with_len a n)) i 0 < a + n)
filter_at p a zero i l = absurd (omega arith)
filter_at p a (suc n) i l = filter_step p a n (filter p (range_with_len (a + 1) n))
    (λ j m. filter_at p (a + 1) n j m) (p a) refl i l

past : (a k : ℕ) → a ≤ k → (a == k) ≡ false → a + 1 ≤ k
past a k l q = grind (arith, nat_tests)

some_step : (p : ℕ → Bool) (a k : ℕ) (rest : List ℕ) → p k ≡ true → a ≤ k
    → (a + 1 ≤ k → 0 < length rest) → (u : Bool) → p a ≡ u → 0 < length (cond u (a ∷ rest) rest)
some_step p a k rest t l h true e = omega arith
some_step p a k rest t l h false e
    = ⊎_elim (λ (q : (a == k) ≡ true). absurd (clash (p a) (ap p (eqb-true a k q) ∙ t) e))
    (λ (q : (a == k) ≡ false). h (past a k l q)) (cases_Bool (a == k))

pub filter_some : (p : ℕ → Bool) (a n k : ℕ) → p k ≡ true → a ≤ k → k < a + n
    → 0 < length (filter p (range_with_len a n))
filter_some p a zero k t l m = absurd (omega arith)
filter_some p a (suc n) k t l m = some_step p a k (filter p (range_with_len (a + 1) n)) t l
    (λ q. filter_some p (a + 1) n k t q (omega arith)) (p a) refl

pub few_cells : (n : ℕ) (p : ℕ → Bool) → n ≤ 11 → length (filter p (cells_of n)) ≤ 121
few_cells n p h
    = omega (arith, length-filter p (cells_of n), count_by-le-length p (cells_of n), length-range_with_len 0 (n * n), square n h)
  where
    square : (m : ℕ) → m ≤ 11 → m * m ≤ 121
    square m l = mul-le-mul l l

pub rising_range : (p : ℕ → Bool) (n : ℕ) → IsStrictlyIncreasing (filter p (range_with_len 0 n))
rising_range p n = IsStrictlyIncreasing-filter p (range_with_len 0 n) up
  where
    up : (k : ℕ) → k + 1 < length (range_with_len 0 n)
        → get_or (range_with_len 0 n) k 0 < get_or (range_with_len 0 n) (k + 1) 0
    up k l = omega (
      arith,
      l,
      length-range_with_len 0 n,
      get_or-range_with_len 0 n k 0 (omega (arith, l, length-range_with_len 0 n)),
      get_or-range_with_len 0 n (k + 1) 0 (omega (arith, l, length-range_with_len 0 n)),
    )

-- the root's block, if any block is linked
pub find_root : (r : ℕ) (b : LinkedBlock) (bs : List LinkedBlock) → InOrder r (b ∷ bs)
    → (c : LinkedBlock) × In c (b ∷ bs) × (c.parent ≡ r) × (link_of (b ∷ bs) r ≡ c.start)
find_root r b [] g =
    let e : b.parent ≡ r = eqb-true b.parent r g.0.parent in
    (b, inl refl, e, ap (λ (t : Bool). cond t b.start 0) (eq-eqb b.parent r e))
find_root r b (c ∷ bs) g = ⊎_elim
    (λ (t : (b.parent == r) ≡ true). (b, inl refl, eqb-true b.parent r t, ap (λ (u : Bool). cond u b.start (link_of (c ∷ bs) r)) t))
    (λ (t : (b.parent == r) ≡ false).
    let h = find_root r c bs g.1 in
    (h.0, inr h.1, h.2, ap (λ (u : Bool). cond u b.start (link_of (c ∷ bs) r)) t ∙ h.3))
    (cases_Bool (b.parent == r))

pub root_of : (r : ℕ) (bs : List LinkedBlock) (x : ℕ) → InOrder r bs → is_node r bs x ≡ true
    → (x ≡ r → ⊥) → (c : LinkedBlock) × In c bs × (c.parent ≡ r) × (link_of bs r ≡ c.start)
root_of r [] x g n d = absurd (d (eqb-true x r n))
root_of r (b ∷ bs) x g n d = find_root r b bs g

pub complete_in : (s : Setting) (next : ℕ) (bs : List LinkedBlock) (b : LinkedBlock)
    → AreComplete s next bs → In b bs → (older : List LinkedBlock) × IsComplete s next older b
complete_in s next [] b c i = absurd i
complete_in s next (d ∷ bs) b c i = ⊎_elim
    (λ (e : b ≡ d). (bs, subst (λ (z : LinkedBlock). IsComplete s next bs z) (sym e) c.0))
    (λ (h : In b bs). complete_in s next bs b c.1 h) i

cell_of_move : (k c : ℕ) → c < 256 → (256 * k + c) % 256 ≡ c
cell_of_move k c l = omega arith

pub has_root : (s : Setting) (words : List ℕ) → IsSetting s → IsClosed s words → HasRoot s words
unfolding allowed_cells
has_root s words h c =
    let r : ℕ = root_at s in
    let n : ℕ = s.board.size * s.board.size in
    let first = c.recorded 0 (omega (arith, h.ranges.playouts.0)) in
    let f = root_of r c.blocks (leaf_of words 0) c.linked.order first.node first.below in
    let b : LinkedBlock = f.0 in
    let k = complete_in s (next_in words) c.blocks b c.linked.complete f.1 in
    let is_root : is_node r c.blocks r ≡ true = root_node r c.blocks in
    let link : root_link s words ≡ b.start = c.linked.shows.links r is_root ∙ f.3 in
    let cells : b.cells ≡ allowed_cells s = k.1.cells
    ∙ ap (λ (t : Bool). cond t (allowed_cells s) (empties_of (node_board s k.0 b.parent)))
    (eq-eqb b.parent r f.2) in
    let head = c.linked.shows.blocks b 3 f.1 (omega arith) refl in
    let count : root_count s words ≡ length b.cells
    = ap (λ (z : ℕ). get_or words (z + 3) 0) link ∙ head in
    let len : length b.cells ≡ length (allowed_cells s) = ap length cells in
    let many = h.any in
    let on = h.empty many.0 many.1 in
    let some : 0 < length (allowed_cells s) = filter_some (has_cell s.allowed) 0 n many.0 many.1
    (omega arith) (omega (arith, empty_on s.board many.0 on)) in
    let few : length (allowed_cells s) ≤ 121
    = few_cells s.board.size (has_cell s.allowed) h.position.most in
    let cell : (i : ℕ) → i < root_count s words
    → (row_at s words i).cell ≡ get_or (allowed_cells s) i 0
    = λ i l.
    let low = (filter_at (has_cell s.allowed) 0 n i (omega (arith, l, count, len))).1 in
    let sq = square_small s.board.size h.position.most in
    let at : root_link s words + 4 + 4 * i ≡ b.start + (4 + 4 * i) = omega (arith, link) in
    let m = c.linked.shows.blocks b (4 + 4 * i) f.1 (omega (arith, l, count)) (move-stays i)
    ∙ move-word b i in
    let m' : get_or words (root_link s words + 4 + 4 * i) 0 ≡ move_word i (get_or b.cells i 0)
    = ap (λ (z : ℕ). get_or words z 0) at ∙ m in
    ap cell_in m'
    ∙ (ap (λ (l : List ℕ). cell_in (move_word i (get_or l i 0))) cells ∙ cell_of_move i (get_or (allowed_cells s) i 0) (omega (arith, low, sq))) in
    record {
      within = omega (arith, link, count, k.1.inside.1, c.long);
      count = count ∙ len;
      some = omega (arith, some, count, len);
      few = omega (arith, few, count, len);
      cells = cell;
      on_board = λ i l. omega (arith, cell i l, (filter_at (has_cell s.allowed) 0 n i (omega (arith, l, count, len))).1);
      numbers = λ i l. omega (
        arith,
        cell i l,
        (filter_at (has_cell s.allowed) 0 n i (omega (arith, l, count, len))).1,
        square_small s.board.size h.position.most,
      );
      rise = rising_range (has_cell s.allowed) n;
    }
