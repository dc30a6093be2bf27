-- The search of one worker with an area that ends earlier, if `next` stays inside it: it goes the
-- same way.
use Rattle.std.proofs.Common.{◌≡◌, ℕ, zero, suc, ◌+◌, ◌<◌, ◌≤◌, Bool, true, false, cond, List}
use Rattle.std.proofs.Common.{length, refl, sym, ap, ◌∙◌, subst, ⊎_elim, arith}
use Rattle.std.specs.Prelude.{slice_index, min, nat_le, nat_lt, ◌&&◌}
use Rattle.std.proofs.lemmas.Bool.{le-leb, cases_lt}
use Rattle.play_out.specs.Fills.{empties_of}
use Rattle.play_out.specs.declared.playouts.Ending.{Ending}
use Rattle.tree_words.specs.Settings.{Setting}
use Rattle.tree_words.specs.Words.{Count, count_in, root_at, end_of, next_in, cell_in}
use Rattle.tree_words.specs.Blocks.{LinkedBlock}
use Rattle.tree_words.specs.Paths.{NodeState, root_state}
use Rattle.tree_words.specs.Complete.{allowed_cells}
use Rattle.tree_words.specs.Walks.{Tree, node, Children, done, more, Game, fresh, lit, plus, pairs}
use Rattle.tree_words.specs.Walks.{is_bare, node_cell, pass, leaf_state, leaf_row, add, add_row}
use Rattle.tree_words.specs.Walks.{expand, expand_row, walk, walks}
use Rattle.tree_words.specs.Sequence.{asks, gets_block, next_after, size_below, chosen_of}
use Rattle.tree_words.specs.Sequence.{outcome_of, search_game, first_tree, seq_of}
use Rattle.tree_words.specs.Trees.{IsTreeOf, oldest_first, tree_at}
use Rattle.tree_words.specs.Areas.{with_area, all_words, IsNarrower}
use Rattle.tree_words.proofs.Areas.CutAreas.{linked_to}
use Rattle.tree_words.proofs.Areas.FirstWords.{word_is}

-- two games that differ in which leaf gets a block, and in `next`
module _ {S O : Type 0} (g : Game S O) (w : ℕ → Count → S → Bool) (r : ℕ → Count → S → ℕ) where
  abbrev h : Game S O
  h = record g { wide = w; grown = r }

  -- the leaf is the same
  mutual
    leaf-same : (t : Tree) (s : S) → leaf_state g t s ≡ leaf_state h t s
    leaf-same (node c v e row) s = leaf-row-same v row (g.choose v (pairs row)) s

    leaf-row-same : (v : Count) (row : Children) (i : ℕ) (s : S)
        → leaf_row g v row i s ≡ leaf_row h v row i s
    leaf-row-same v done i s = refl
    leaf-row-same v (more t ts) zero s = leaf-same t (g.next s (node_cell t))
    leaf-row-same v (more t ts) (suc i) s = leaf-row-same v ts i s

  pass-same : (o : O) (s : S) (ts : Children) → pass g o s ts ≡ pass h o s ts
  pass-same o s done = refl
  pass-same o s (more t ts) = ap (more (lit (g.glimpse o s (node_cell t)) t)) (pass-same o s ts)

  -- and what the walk adds
  mutual
    add-same : (o : O) (t : Tree) (s : S) → add g o t s ≡ add h o t s
    add-same o (node c v e row) s
        = ap (node c (plus v (g.gain o s)) e) (add-row-same o row (g.choose v (pairs row)) s)

    add-row-same : (o : O) (row : Children) (i : ℕ) (s : S)
        → add_row g o row i s ≡ add_row h o row i s
    add-row-same o done i s = refl
    add-row-same o (more t ts) zero s
        = λ j. more (lit (g.glimpse o s (node_cell t)) (add-same o t (g.next s (node_cell t)) j))
        (pass-same o s ts j)
    add-row-same o (more t ts) (suc i) s = ap (more (lit (g.glimpse o s (node_cell t)) t))
        (add-row-same o ts i s)

  -- the block of a leaf, or the children of another node
  block-same : (n : ℕ) (v : Count) (row : Children) (i : ℕ) (s : S)
      → g.wide n (leaf_row g v row i s).0 (leaf_row g v row i s).1 ≡ w n (leaf_row g v row i s).0
      (leaf_row g v row i s).1
      → expand_row g n row i s ≡ expand_row h n row i s
      → cond (is_bare row) (cond (g.wide n v s) (fresh (g.cells s)) done)
      (expand_row g n row i s) ≡ cond (is_bare row) (cond (w n v s) (fresh (g.cells s)) done)
      (expand_row h n row i s)
  block-same n v done i s q e = ap (λ (b : Bool). cond b (fresh (g.cells s)) done) q
  block-same n v (more t ts) i s q e = e

  -- if the leaf gets a block in both or in none, it has grown the same
  mutual
    expand-same : (n : ℕ) (t : Tree) (s : S)
        → g.wide n (leaf_state g t s).0 (leaf_state g t s).1 ≡ w n (leaf_state g t s).0
        (leaf_state g t s).1 → expand g n t s ≡ expand h n t s
    expand-same n (node c v e row) s q =
        let i : ℕ = g.choose v (pairs row) in
        ap (node c v e) (block-same n v row i s q (expand-row-same n v row i s q))

    expand-row-same : (n : ℕ) (v : Count) (row : Children) (i : ℕ) (s : S)
        → g.wide n (leaf_row g v row i s).0 (leaf_row g v row i s).1 ≡ w n (leaf_row g v row i s).0
        (leaf_row g v row i s).1
        → expand_row g n row i s ≡ expand_row h n row i s
    expand-row-same n v done i s q = refl
    expand-row-same n v (more t ts) zero s q
        = ap (λ (u : Tree). more u ts) (expand-same n t (g.next s (node_cell t)) q)
    expand-row-same n v (more t ts) (suc i) s q = ap (more t) (expand-row-same n v ts i s q)

  -- and so has the whole walk
  walk-same : (s : S) (k : ℕ) (t : Tree × ℕ)
      → g.wide t.1 (leaf_state g t.0 s).0 (leaf_state g t.0 s).1 ≡ w t.1 (leaf_state g t.0 s).0
      (leaf_state g t.0 s).1
      → g.grown t.1 (leaf_state g t.0 s).0 (leaf_state g t.0 s).1 ≡ r t.1 (leaf_state g t.0 s).0
      (leaf_state g t.0 s).1
      → walk g s k t ≡ walk h s k t
  walk-same s k t q p =
      let first : Tree = expand g t.1 t.0 s in
      let tree : add g (g.play k (leaf_state g first s).1) first s ≡ add h
      (g.play k (leaf_state h (expand h t.1 t.0 s) s).1) (expand h t.1 t.0 s) s
      = add-same (g.play k (leaf_state g first s).1) first s
      ∙ ap (λ (z : Count × S). add h (g.play k z.1) first s) (leaf-same first s)
      ∙ ap (λ (x : Tree). add h (g.play k (leaf_state h x s).1) x s) (expand-same t.1 t.0 s q) in
      let next : g.grown t.1 (leaf_state g t.0 s).0 (leaf_state g t.0 s).1 ≡ r t.1
      (leaf_state h t.0 s).0 (leaf_state h t.0 s).1
      = p ∙ ap (λ (z : Count × S). r t.1 z.0 z.1) (leaf-same t.0 s) in
      λ i. (tree i, next i)

grows : (b : Bool) (n z e : ℕ) → cond b (n + z) n ≤ e → n ≤ e
grows true n z e l = omega (arith, l)
grows false n z e l = l

gets : (b : Bool) (n z e d : ℕ) → cond b (n + z) n ≤ e → e ≤ d
    → (b && nat_le (n + z) e) ≡ (b && nat_le (n + z) d)
gets true n z e d l m = le-leb (n + z) e l ∙ sym (le-leb (n + z) d (omega (arith, l, m)))
gets false n z e d l m = refl

-- a leaf asks, and gets its block, with both areas or with none, if `next` stays inside the first
module _ (s : Setting) (m : ℕ) (less : m ≤ s.knobs.words) where
  abbrev c : Setting
  c = with_area s m

  asks-same : (n : ℕ) (v : Count) (p : NodeState) → n ≤ end_of c → asks c n v p ≡ asks s n v p
  asks-same n v p l
      = ap (λ (b : Bool). nat_le s.knobs.expand v.visits && (nat_lt 0 (length (empties_of p.board)) && b)) (le-leb n (end_of c) l
      ∙ sym (le-leb n (end_of s) (omega (arith, l, less))))

  low : (n : ℕ) (v : Count) (p : NodeState) → next_after c n v p ≤ end_of c → n ≤ end_of c
  unfolding next_after
  low n v p l = grows (asks c n v p) n (size_below p) (end_of c) l

  wide-same : (n : ℕ) (v : Count) (p : NodeState) → next_after c n v p ≤ end_of c
      → gets_block c n v p ≡ gets_block s n v p
  unfolding gets_block next_after
  wide-same n v p l =
      gets (asks c n v p) n (size_below p) (end_of c) (end_of s) l (omega (arith, less))
      ∙ ap (λ (b : Bool). b && nat_le (n + size_below p) (end_of s))
      (asks-same n v p (grows (asks c n v p) n (size_below p) (end_of c) l))

  grown-same : (n : ℕ) (v : Count) (p : NodeState) → next_after c n v p ≤ end_of c
      → next_after c n v p ≡ next_after s n v p
  unfolding next_after
  grown-same n v p l = ap (λ (b : Bool). cond b (n + size_below p) n)
      (asks-same n v p (grows (asks c n v p) n (size_below p) (end_of c) l))

  abbrev mixed : Game NodeState Ending
  mixed = record (search_game c) { wide = gets_block s; grown = next_after s }

  mixed-is : mixed ≡ search_game s
  unfolding chosen_of outcome_of
  mixed-is = refl

  first-is : first_tree c ≡ first_tree s
  unfolding allowed_cells
  first-is = refl

  -- all walks so far
  walks-same : (k : ℕ) → (walks (search_game c) (root_state s) (first_tree s) k).1 ≤ end_of c
      → walks (search_game c) (root_state s) (first_tree s) k ≡ walks mixed (root_state s)
      (first_tree s) k
  walks-same zero l = refl
  walks-same (suc k) l =
      let t : Tree × ℕ = walks (search_game c) (root_state s) (first_tree s) k in
      let at : Count × NodeState = leaf_state (search_game c) t.0 (root_state s) in
      walk-same (search_game c) (gets_block s) (next_after s) (root_state s) k t
      (wide-same t.1 at.0 at.1 l) (grown-same t.1 at.0 at.1 l)
      ∙ ap (walk mixed (root_state s) k) (walks-same k (low t.1 at.0 at.1 l))

  pub sequence-same : (seq_of c).1 ≤ end_of c → seq_of c ≡ seq_of s
  sequence-same l =
      ap (λ (f : Tree × ℕ). walks (search_game c) (root_state s) f s.knobs.playouts) first-is
      ∙ walks-same s.knobs.playouts
      (subst (λ (f : Tree × ℕ). (walks (search_game c) (root_state s) f s.knobs.playouts).1 ≤ end_of c) first-is l)
      ∙ ap (λ (g : Game NodeState Ending). walks g (root_state s) (first_tree s) s.knobs.playouts) mixed-is

  -- if `next` has stayed inside, or the area is the whole one
  sequence-of : (n : ℕ) → min n (end_of s) ≤ end_of c → n ≡ (seq_of c).1 → seq_of c ≡ seq_of s
  sequence-of n l e = ⊎_elim
      (λ (h : end_of c < (seq_of c).1). let whole : m ≡ s.knobs.words = omega (arith, l, e, h, less) in ap (λ (k : ℕ). seq_of (with_area s k)) whole)
      (λ (h : (seq_of c).1 ≤ end_of c). sequence-same h)
      (cases_lt (end_of c) (seq_of c).1)

  -- what the first words show, all words do
  tree-same : (words : List ℕ) (t : Tree) → IsTreeOf c words t → IsTreeOf s (all_words s words) t
  tree-same words t k =
      let ahead : (i : ℕ) → slice_index words i ≡ slice_index (all_words s words) i
      = λ i. sym (word_is s words i) in
      let bs : List LinkedBlock = oldest_first k.blocks in
      let r : ℕ = root_at s in
      record {
        blocks = k.blocks;
        linked = linked_to s m s.knobs.words words (all_words s words) ahead
            (λ e l h. omega (arith, h, less)) k.blocks k.linked;
        is = (λ j. tree_at (λ x. count_in (sym (ahead (x + 2)) j)) (λ x. count_in (sym (ahead (x + 3)) j)) bs r (cell_in (sym (ahead r) j))
            (count_in (sym (ahead (r + 3)) j))) ∙ k.is;
      }

  tree-to : (words : List ℕ) → min (next_in words) (end_of s) ≤ end_of c
      → next_in words ≡ (seq_of c).1 → IsTreeOf c words (seq_of c).0
      → IsTreeOf s (all_words s words) (seq_of s).0
  tree-to words l e k
      = subst (IsTreeOf s (all_words s words))
      (ap (λ (t : Tree × ℕ). t.0) (sequence-of (next_in words) l e)) (tree-same words (seq_of c).0 k)

-- the tree of the search with an area that ends earlier is that of the whole
pub widened_tree : (s c : Setting) (words : List ℕ) → IsNarrower c s
    → min (next_in words) (end_of s) ≤ end_of c → next_in words ≡ (seq_of c).1
    → IsTreeOf c words (seq_of c).0 → IsTreeOf s (all_words s words) (seq_of s).0
widened_tree s c words n l e k =
    let m : ℕ = c.knobs.words in
    tree-to s m n.less words
    (subst (λ (d : Setting). min (next_in words) (end_of s) ≤ end_of d) n.area l)
    (subst (λ (d : Setting). next_in words ≡ (seq_of d).1) n.area e)
    (subst (λ (d : Setting). IsTreeOf d words (seq_of d).0) n.area k)
