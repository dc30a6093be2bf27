-- A new block, on the blocks and on the tree.
use Rattle.std.proofs.Common.{◌≡◌, ℕ, zero, suc, ◌+◌, ◌*◌, ◌<◌, Bool, true, false, cond, List, []}
use Rattle.std.proofs.Common.{◌∷◌, ◌++◌, length, get_or, refl, sym, ap, ◌∙◌, subst, ⊎_elim, arith}
use Rattle.std.specs.Prelude.{◌==◌}
use Rattle.tree_words.specs.Words.{Count}
use Rattle.tree_words.specs.Blocks.{LinkedBlock, child, has_node, cell_at}
use Rattle.tree_words.specs.Walks.{nothing, Tree, node, Children, done, more, Game, node_cell}
use Rattle.tree_words.specs.Walks.{pairs, is_bare, fresh, leaf_state, leaf_row, expand, expand_row}
use Rattle.tree_words.specs.Trees.{row_of, tree_leaf, tree_inner, tree_at}
use Rattle.tree_words.specs.Descents.{pick, leaf_inner, leaf_at, state_leaf, state_inner, state_at}
use Rattle.tree_words.specs.Descents.{top, Out, Sprouts}
use Rattle.std.proofs.lemmas.Bool.{eqb-true, eq-eqb, ne_eqb, cases_Bool}
use Rattle.tree_words.proofs.Walks.Down.{Fair, child-has, down-here, down-else, down-split, top-in}
use Rattle.tree_words.proofs.Walks.Down.{top-past, cell-tree, pairs-row, pick-in, row-same}
use Rattle.tree_words.proofs.Walks.Adds.{child-other}

module _ {S O : Type 0} (g : Game S O) where
  -- the child that the walk enters
  row-leaf : (v : Count) (s : S) (f : ℕ → ℕ → Tree) (a y : ℕ) (cs : List ℕ) (j : ℕ) → j < length cs
      → y ≡ a + 4 * j → ((y d : ℕ) → node_cell (f y d) ≡ d)
      → leaf_row g v (row_of f a cs) j s ≡ leaf_state g (f y (get_or cs j 0))
      (g.next s (get_or cs j 0))
  row-leaf v s f a y [] j l is cell = absurd (omega arith)
  row-leaf v s f a y (c ∷ cs) zero l is cell =
      let at : a ≡ y = omega arith in
      ap (λ (d : ℕ). leaf_state g (f a c) (g.next s d)) (cell a c)
      ∙ ap (λ (z : ℕ). leaf_state g (f z c) (g.next s c)) at
  row-leaf v s f a y (c ∷ cs) (suc j) l is cell
      = row-leaf v s f (a + 4) y cs j (omega arith) (omega arith) cell

  pub row-expand : (m : ℕ) (s : S) (f h : ℕ → ℕ → Tree) (a : ℕ) (cs : List ℕ) (j : ℕ)
      → ((k y : ℕ) → k < length cs → y ≡ a + 4 * k → (k ≡ j → ⊥) → h y (get_or cs k 0) ≡ f y (get_or cs k 0))
      → ((y : ℕ) → j < length cs → y ≡ a + 4 * j → h y (get_or cs j 0) ≡ expand g m (f y (get_or cs j 0)) (g.next s (get_or cs j 0)))
      → ((y d : ℕ) → node_cell (f y d) ≡ d) → row_of h a cs ≡ expand_row g m (row_of f a cs) j s
  row-expand m s f h a [] j e one cell = refl
  row-expand m s f h a (c ∷ cs) zero e one cell =
      let head : h a c ≡ expand g m (f a c) (g.next s (node_cell (f a c)))
      = one a (omega arith) (omega arith)
      ∙ sym (ap (λ (d : ℕ). expand g m (f a c) (g.next s d)) (cell a c)) in
      let tail : row_of h (a + 4) cs ≡ row_of f (a + 4) cs
      = row-same h f (a + 4) cs
      (λ k y l i. e (suc k) y (omega arith) (omega arith) (λ z. omega arith)) in
      λ i. more (head i) (tail i)
  row-expand m s f h a (c ∷ cs) (suc j) e one cell =
      let head : h a c ≡ f a c = e 0 a (omega arith) (omega arith) (λ z. omega arith) in
      let tail : row_of h (a + 4) cs ≡ expand_row g m (row_of f (a + 4) cs) j s
      = row-expand m s f h (a + 4) cs j
      (λ k y l i n. e (suc k) y (omega arith) (omega arith) (λ z. n (omega arith)))
      (λ y l i. one y (omega arith) (omega arith)) cell in
      λ i. more (head i) (tail i)

pub row-fresh : (p q : ℕ → Count) (a : ℕ) (cs : List ℕ)
    → ((k y : ℕ) → k < length cs → y ≡ a + 4 * k → (p y ≡ nothing) × (q y ≡ nothing))
    → row_of (λ y d. node d (p y) (q y) done) a cs ≡ fresh cs
row-fresh p q a [] z = refl
row-fresh p q a (c ∷ cs) z =
    let here : (p a ≡ nothing) × (q a ≡ nothing) = z 0 a (omega arith) (omega arith) in
    let tail : row_of (λ y d. node d (p y) (q y) done) (a + 4) cs ≡ fresh cs
    = row-fresh p q (a + 4) cs (λ k y l i. z (suc k) y (omega arith) (omega arith)) in
    λ i. more (node c (here.0 i) (here.1 i) done) (tail i)

pub bare-row : (f : ℕ → ℕ → Tree) (a : ℕ) (cs : List ℕ) → 0 < length cs
    → is_bare (row_of f a cs) ≡ false
bare-row f a [] l = absurd (omega arith)
bare-row f a (c ∷ cs) l = refl

-- a block put after the others changes only what its parent is under
pub snoc-same : (p q : ℕ → Count) (n : LinkedBlock) (bs : List LinkedBlock) (x c : ℕ) (e : Count)
    → Sprouts bs → Out bs x → (top bs n.parent ≡ x → ⊥)
    → tree_at p q (bs ++ n ∷ []) x c e ≡ tree_at p q bs x c e
snoc-same p q n [] x c e sp out h
    = ap (λ (f : ℕ → Count → Tree). f c e)
    (down-else (tree_leaf p) (tree_inner p q) n [] x (ne_eqb n.parent x h))
snoc-same p q n (b ∷ bs) x c e sp out h = ⊎_elim
    (λ (t : (b.parent == x) ≡ true).
    let par : b.parent ≡ x = eqb-true b.parent x t in
    let rows : row_of (λ y d. tree_at p q (bs ++ n ∷ []) y d (q y)) (b.start + 4) b.cells ≡ row_of
    (λ y d. tree_at p q bs y d (q y)) (b.start + 4) b.cells
    = row-same (λ y d. tree_at p q (bs ++ n ∷ []) y d (q y)) (λ y d. tree_at p q bs y d (q y))
    (b.start + 4) b.cells
    (λ k y l is. let hy : has_node b y ≡ true = ap (has_node b) is ∙ child-has b k l in
    snoc-same p q n bs y (get_or b.cells k 0) (q y) sp.1 (sp.0.apart y hy)
    (λ z. h (top-in b bs n.parent y z hy ∙ par))) in
    ap (λ (f : ℕ → Count → Tree). f c e)
    (down-here (tree_leaf p) (tree_inner p q) b (bs ++ n ∷ []) x t)
    ∙ ap (node c (p x) e) rows
    ∙ sym (ap (λ (f : ℕ → Count → Tree). f c e) (down-here (tree_leaf p) (tree_inner p q) b bs x t)))
    (λ (t : (b.parent == x) ≡ false).
    ap (λ (f : ℕ → Count → Tree). f c e)
    (down-else (tree_leaf p) (tree_inner p q) b (bs ++ n ∷ []) x t)
    ∙ snoc-same p q n bs x c e sp.1 out.1 (λ z. h (top-past b bs n.parent x z out.0))
    ∙ sym (ap (λ (f : ℕ → Count → Tree). f c e) (down-else (tree_leaf p) (tree_inner p q) b bs x t)))
    (cases_Bool (b.parent == x))

module _ {S O : Type 0} (g : Game S O) (fair : Fair g) (p q : ℕ → Count) where
  -- the leaf is under the node where the walk begins
  pub leaf-top : (bs : List LinkedBlock) (x : ℕ) → Sprouts bs → Out bs x
      → top bs (leaf_at g p q bs x) ≡ x
  leaf-top [] x sp out = refl
  leaf-top (b ∷ bs) x sp out
      = down-split (λ (y : ℕ). y) (leaf_inner g p q) (λ (y : ℕ). top (b ∷ bs) y ≡ x) b bs x
      (λ (t : (b.parent == x) ≡ true).
      let j : ℕ = pick g p q b x in
      let h : has_node b (child b j) ≡ true = child-has b j (pick-in g fair p q b x sp.0.some) in
      top-in b bs (leaf_at g p q bs (child b j)) (child b j)
      (leaf-top bs (child b j) sp.1 (sp.0.apart (child b j) h)) h ∙ eqb-true b.parent x t)
      (λ (t : (b.parent == x) ≡ false). top-past b bs (leaf_at g p q bs x) x (leaf-top bs x sp.1 out.1) out.0)

  -- the state at the leaf is that of the tree
  pub state-tree : (bs : List LinkedBlock) (x c : ℕ) (e : Count) (s : S) → Sprouts bs
      → state_at g p q bs x s ≡ leaf_state g (tree_at p q bs x c e) s
  state-tree [] x c e s sp = refl
  state-tree (b ∷ bs) x c e s sp = ⊎_elim
      (λ (t : (b.parent == x) ≡ true).
      let j : ℕ = pick g p q b x in
      let F : ℕ → ℕ → Tree = λ y d. tree_at p q bs y d (q y) in
      let row : leaf_row g (p x) (row_of F (b.start + 4) b.cells) j s ≡ leaf_state g
      (F (child b j) (cell_at b j)) (g.next s (cell_at b j))
      = row-leaf g (p x) s F (b.start + 4) (child b j) b.cells j
      (pick-in g fair p q b x sp.0.some) refl (λ y d. cell-tree p q bs y d (q y)) in
      let chose : j ≡ g.choose (p x) (pairs (row_of F (b.start + 4) b.cells))
      = ap (g.choose (p x)) (sym (pairs-row p q bs (b.start + 4) b.cells)) in
      ap (λ (f : S → Count × S). f s) (down-here (state_leaf g p q) (state_inner g p q) b bs x t)
      ∙ state-tree bs (child b j) (cell_at b j) (q (child b j)) (g.next s (cell_at b j)) sp.1
      ∙ sym row ∙ ap (λ (n : ℕ). leaf_row g (p x) (row_of F (b.start + 4) b.cells) n s) chose
      ∙ sym (ap (λ (f : ℕ → Count → Tree). leaf_state g (f c e) s) (down-here (tree_leaf p) (tree_inner p q) b bs x t)))
      (λ (t : (b.parent == x) ≡ false).
      ap (λ (f : S → Count × S). f s) (down-else (state_leaf g p q) (state_inner g p q) b bs x t)
      ∙ state-tree bs x c e s sp.1
      ∙ sym (ap (λ (f : ℕ → Count → Tree). leaf_state g (f c e) s) (down-else (tree_leaf p) (tree_inner p q) b bs x t)))
      (cases_Bool (b.parent == x))

  -- the block n, put below the leaf: the tree is expanded
  pub expand-tree : (m : ℕ) (n : LinkedBlock) (bs : List LinkedBlock) (x c : ℕ) (e : Count) (s : S)
      → Sprouts bs → Out bs x
      → n.parent ≡ leaf_at g p q bs x → n.cells ≡ g.cells (state_at g p q bs x s).1
      → g.wide m (state_at g p q bs x s).0 (state_at g p q bs x s).1 ≡ true
      → ((y : ℕ) → has_node n y ≡ true → (p y ≡ nothing) × (q y ≡ nothing))
      → tree_at p q (bs ++ n ∷ []) x c e ≡ expand g m (tree_at p q bs x c e) s
  expand-tree m n [] x c e s sp out at cells wide zeros =
      let rows : row_of (λ y d. node d (p y) (q y) done) (n.start + 4) n.cells ≡ fresh n.cells
      = row-fresh p q (n.start + 4) n.cells
      (λ k y l is. zeros y (ap (has_node n) is ∙ child-has n k l)) in
      ap (λ (f : ℕ → Count → Tree). f c e)
      (down-here (tree_leaf p) (tree_inner p q) n [] x (eq-eqb n.parent x at))
      ∙ ap (node c (p x) e) (rows ∙ ap fresh cells)
      ∙ sym (ap (λ (t : Bool). node c (p x) e (cond t (fresh (g.cells s)) done)) wide)
  expand-tree m n (b ∷ bs) x c e s sp out at cells wide zeros = ⊎_elim
      (λ (t : (b.parent == x) ≡ true).
      let par : b.parent ≡ x = eqb-true b.parent x t in
      let j : ℕ = pick g p q b x in
      let lj : j < length b.cells = pick-in g fair p q b x sp.0.some in
      let hj : has_node b (child b j) ≡ true = child-has b j lj in
      let s' : S = g.next s (cell_at b j) in
      let F : ℕ → ℕ → Tree = λ y d. tree_at p q bs y d (q y) in
      let H : ℕ → ℕ → Tree = λ y d. tree_at p q (bs ++ n ∷ []) y d (q y) in
      let lf : leaf_at g p q (b ∷ bs) x ≡ leaf_at g p q bs (child b j)
      = down-here (λ (y : ℕ). y) (leaf_inner g p q) b bs x t in
      let st : state_at g p q (b ∷ bs) x s ≡ state_at g p q bs (child b j) s'
      = ap (λ (f : S → Count × S). f s)
      (down-here (state_leaf g p q) (state_inner g p q) b bs x t) in
      let from : top bs n.parent ≡ child b j = ap (top bs) (at ∙ lf)
      ∙ leaf-top bs (child b j) sp.1 (sp.0.apart (child b j) hj) in
      let by : (k y : ℕ) → k < length b.cells → y ≡ b.start + 4 + 4 * k → (k ≡ j → ⊥)
      → H y (cell_at b k) ≡ F y (cell_at b k)
      = λ k y l is d. let h : has_node b y ≡ true = ap (has_node b) is ∙ child-has b k l in
      snoc-same p q n bs y (cell_at b k) (q y) sp.1 (sp.0.apart y h)
      (λ z. d (child-other b.start j k (sym is ∙ sym z ∙ from))) in
      let one : (y : ℕ) → j < length b.cells → y ≡ b.start + 4 + 4 * j
      → H y (cell_at b j) ≡ expand g m (F y (cell_at b j)) (g.next s (cell_at b j))
      = λ y l is. subst (λ (z : ℕ). H z (cell_at b j) ≡ expand g m (F z (cell_at b j)) s') (sym is)
      (expand-tree m n bs (child b j) (cell_at b j) (q (child b j)) s' sp.1 (sp.0.apart (child b j) hj) (at ∙ lf) (cells
      ∙ ap (λ (u : Count × S). g.cells u.1) st)
      (sym (ap (λ (u : Count × S). g.wide m u.0 u.1) st) ∙ wide) zeros) in
      let rows : row_of H (b.start + 4) b.cells ≡ expand_row g m
      (row_of F (b.start + 4) b.cells) j s
      = row-expand g m s F H (b.start + 4) b.cells j by one (λ y d. cell-tree p q bs y d (q y)) in
      let chose : j ≡ g.choose (p x) (pairs (row_of F (b.start + 4) b.cells))
      = ap (g.choose (p x)) (sym (pairs-row p q bs (b.start + 4) b.cells)) in
      let row : Children = row_of F (b.start + 4) b.cells in
      let rest : Children = expand_row g m row (g.choose (p x) (pairs row)) s in
      ap (λ (f : ℕ → Count → Tree). f c e)
      (down-here (tree_leaf p) (tree_inner p q) b (bs ++ n ∷ []) x t)
      ∙ ap (node c (p x) e) (rows ∙ ap (λ (u : ℕ). expand_row g m row u s) chose)
      ∙ sym (ap (λ (r : Bool). node c (p x) e (cond r (cond (g.wide m (p x) s) (fresh (g.cells s)) done) rest)) (bare-row F (b.start + 4) b.cells sp.0.some))
      ∙ sym (ap (λ (f : ℕ → Count → Tree). expand g m (f c e) s) (down-here (tree_leaf p) (tree_inner p q) b bs x t)))
      (λ (t : (b.parent == x) ≡ false).
      let lf : leaf_at g p q (b ∷ bs) x ≡ leaf_at g p q bs x
      = down-else (λ (y : ℕ). y) (leaf_inner g p q) b bs x t in
      let st : state_at g p q (b ∷ bs) x s ≡ state_at g p q bs x s
      = ap (λ (f : S → Count × S). f s)
      (down-else (state_leaf g p q) (state_inner g p q) b bs x t) in
      ap (λ (f : ℕ → Count → Tree). f c e)
      (down-else (tree_leaf p) (tree_inner p q) b (bs ++ n ∷ []) x t)
      ∙ expand-tree m n bs x c e s sp.1 out.1 (at ∙ lf)
      (cells ∙ ap (λ (u : Count × S). g.cells u.1) st)
      (sym (ap (λ (u : Count × S). g.wide m u.0 u.1) st) ∙ wide) zeros
      ∙ sym (ap (λ (f : ℕ → Count → Tree). expand g m (f c e) s) (down-else (tree_leaf p) (tree_inner p q) b bs x t)))
      (cases_Bool (b.parent == x))
