-- What is found from a node down.
use Rattle.std.proofs.Common.{◌≡◌, ℕ, zero, suc, ◌+◌, ◌-◌, ◌*◌, ◌%◌, ◌<◌, ◌≤◌, Bool, true, false}
use Rattle.std.proofs.Common.{cond, List, [], ◌∷◌, length, get_or, refl, sym, ap, ◌∙◌, ⊎_elim}
use Rattle.std.proofs.Common.{add-zero, arith}
use Rattle.std.specs.Prelude.{◌==◌, nat_lt, nat_le, ◌&&◌}
use Rattle.std.proofs.lemmas.Bool.Decides.{nat_tests}
use Rattle.tree_words.specs.Words.{Count}
use Rattle.tree_words.specs.Blocks.{LinkedBlock, child, has_node, place}
use Rattle.tree_words.specs.Walks.{nothing, plus, Tree, node, done, more, Game, node_cell}
use Rattle.tree_words.specs.Walks.{counts_of, lit, pairs, pass, add, add_row}
use Rattle.tree_words.specs.Trees.{down, row_of, tree_leaf, tree_inner, tree_at}
use Rattle.tree_words.specs.Descents.{pairs_of, pick, adds_leaf, adds_inner, adds, sees_leaf}
use Rattle.tree_words.specs.Descents.{sees_inner, sees, top, Out, Sprouts}
use Rattle.std.proofs.lemmas.Bool.{false_from_ne_true, eqb-true, ne_eqb, cases_Bool}
use Rattle.tree_words.proofs.Blocks.BlockLaws.{clash}

-- what a game keeps: the chosen child is one of the children, and `next` false_from_ne_true falls
pub record Fair {S O : Type 0} (g : Game S O) : Type 0 where
  pub chosen : (v : Count) (l : List (Count × Count)) → 0 < length l → g.choose v l < length l
  pub grows : (n : ℕ) (v : Count) (s : S) → n ≤ g.grown n v s

pub plus-nothing : (n : Count) → plus n nothing ≡ n
plus-nothing n = λ i. record { visits = add-zero n.visits i; wins = add-zero n.wins i }

-- where a node of the block is
pub child-has : (b : LinkedBlock) (k : ℕ) → k < length b.cells → has_node b (child b k) ≡ true
child-has b k l = all (b.start) k (length b.cells) l
  where
    all : (a k n : ℕ) → k < n
        → (nat_le (a + 4) (a + 4 + 4 * k) && (nat_lt (a + 4 + 4 * k) (a + (4 + 4 * n)) && ((a + 4 + 4 * k - a) % 4 == 0))) ≡ true
    all a k n l = let even : (a + 4 + 4 * k - a) % 4 ≡ 0 = omega arith in grind (arith, nat_tests)

module _ {A : Type 0} (leaf : ℕ → A) (inner : LinkedBlock → ℕ → (ℕ → A) → A) where
  pub down-here : (b : LinkedBlock) (bs : List LinkedBlock) (x : ℕ) → (b.parent == x) ≡ true
      → down leaf inner (b ∷ bs) x ≡ inner b x (down leaf inner bs)
  down-here b bs x e
      = ap (λ (t : Bool). cond t (inner b x (down leaf inner bs)) (down leaf inner bs x)) e

  pub down-else : (b : LinkedBlock) (bs : List LinkedBlock) (x : ℕ) → (b.parent == x) ≡ false
      → down leaf inner (b ∷ bs) x ≡ down leaf inner bs x
  down-else b bs x e
      = ap (λ (t : Bool). cond t (inner b x (down leaf inner bs)) (down leaf inner bs x)) e

  -- by whether the first block is the one below x
  pub down-split : (P : A → Type 0) (b : LinkedBlock) (bs : List LinkedBlock) (x : ℕ)
      → ((b.parent == x) ≡ true → P (inner b x (down leaf inner bs)))
      → ((b.parent == x) ≡ false → P (down leaf inner bs x)) → P (down leaf inner (b ∷ bs) x)
  down-split P b bs x here past = both (b.parent == x) here past
    where
      both : (t : Bool) → (t ≡ true → P (inner b x (down leaf inner bs)))
          → (t ≡ false → P (down leaf inner bs x))
          → P (cond t (inner b x (down leaf inner bs)) (down leaf inner bs x))
      both true here past = here refl
      both false here past = past refl

-- a node of none of the blocks comes from itself
pub top-out : (bs : List LinkedBlock) (x : ℕ) → Out bs x → top bs x ≡ x
top-out [] x h = refl
top-out (b ∷ bs) x h = let t : top bs x ≡ x = top-out bs x h.1 in
    ap (λ (y : ℕ). cond (has_node b y) b.parent y) t ∙ ap (λ (u : Bool). cond u b.parent x) h.0

-- what comes from a node of b comes from b's parent
pub top-in : (b : LinkedBlock) (bs : List LinkedBlock) (w y : ℕ) → top bs w ≡ y
    → has_node b y ≡ true → top (b ∷ bs) w ≡ b.parent
top-in b bs w y e h = ap (λ (z : ℕ). cond (has_node b z) b.parent z) e
    ∙ ap (λ (u : Bool). cond u b.parent y) h

pub top-past : (b : LinkedBlock) (bs : List LinkedBlock) (w y : ℕ) → top bs w ≡ y
    → has_node b y ≡ false → top (b ∷ bs) w ≡ y
top-past b bs w y e h = ap (λ (z : ℕ). cond (has_node b z) b.parent z) e
    ∙ ap (λ (u : Bool). cond u b.parent y) h

-- the root of the tree
pub cell-tree : (p q : ℕ → Count) (bs : List LinkedBlock) (x c : ℕ) (e : Count)
    → node_cell (tree_at p q bs x c e) ≡ c
cell-tree p q [] x c e = refl
cell-tree p q (b ∷ bs) x c e
    = down-split (tree_leaf p) (tree_inner p q)
    (λ (t : ℕ → Count → Tree). node_cell (t c e) ≡ c) b bs x (λ t. refl)
    (λ t. cell-tree p q bs x c e)

pub pair-tree : (p q : ℕ → Count) (bs : List LinkedBlock) (x c : ℕ) (e : Count)
    → counts_of (tree_at p q bs x c e) ≡ (p x, e)
pair-tree p q [] x c e = refl
pair-tree p q (b ∷ bs) x c e
    = down-split (tree_leaf p) (tree_inner p q)
    (λ (t : ℕ → Count → Tree). counts_of (t c e) ≡ (p x, e)) b bs x (λ t. refl)
    (λ t. pair-tree p q bs x c e)

pub lit-tree : (p q : ℕ → Count) (bs : List LinkedBlock) (x c : ℕ) (e n : Count)
    → lit n (tree_at p q bs x c e) ≡ tree_at p q bs x c (plus e n)
lit-tree p q [] x c e n = refl
lit-tree p q (b ∷ bs) x c e n
    = down-split (tree_leaf p) (tree_inner p q)
    (λ (t : ℕ → Count → Tree). lit n (t c e) ≡ t c (plus e n)) b bs x (λ t. refl)
    (λ t. lit-tree p q bs x c e n)

pub pairs-row : (p q : ℕ → Count) (bs : List LinkedBlock) (a : ℕ) (cs : List ℕ)
    → pairs (row_of (λ y d. tree_at p q bs y d (q y)) a cs) ≡ pairs_of p q a cs
pairs-row p q bs a [] = refl
pairs-row p q bs a (c ∷ cs) = λ i. pair-tree p q bs a c (q a) i ∷ pairs-row p q bs (a + 4) cs i

pub length-pairs : (p q : ℕ → Count) (a : ℕ) (cs : List ℕ) → length (pairs_of p q a cs) ≡ length cs
length-pairs p q a [] = refl
length-pairs p q a (c ∷ cs) = omega (arith, length-pairs p q (a + 4) cs)

-- rows, child by child
pub row-same : (f h : ℕ → ℕ → Tree) (a : ℕ) (cs : List ℕ)
    → ((k y : ℕ) → k < length cs → y ≡ a + 4 * k → f y (get_or cs k 0) ≡ h y (get_or cs k 0))
    → row_of f a cs ≡ row_of h a cs
row-same f h a [] e = refl
row-same f h a (c ∷ cs) e =
    let head : f a c ≡ h a c = e 0 a (omega arith) (omega arith) in
    let tail : row_of f (a + 4) cs ≡ row_of h (a + 4) cs
    = row-same f h (a + 4) cs (λ k y l i. e (suc k) y (omega arith) (omega arith)) in
    λ i. more (head i) (tail i)

module _ {S O : Type 0} (g : Game S O) (o : O) where
  row-pass : (s : S) (f h : ℕ → ℕ → Tree) (a : ℕ) (cs : List ℕ)
      → ((k y : ℕ) → k < length cs → y ≡ a + 4 * k → h y (get_or cs k 0) ≡ lit (g.glimpse o s (get_or cs k 0)) (f y (get_or cs k 0)))
      → ((y d : ℕ) → node_cell (f y d) ≡ d) → row_of h a cs ≡ pass g o s (row_of f a cs)
  row-pass s f h a [] e cell = refl
  row-pass s f h a (c ∷ cs) e cell =
      let head : h a c ≡ lit (g.glimpse o s (node_cell (f a c))) (f a c)
      = e 0 a (omega arith) (omega arith)
      ∙ sym (ap (λ (d : ℕ). lit (g.glimpse o s d) (f a c)) (cell a c)) in
      let tail : row_of h (a + 4) cs ≡ pass g o s (row_of f (a + 4) cs)
      = row-pass s f h (a + 4) cs (λ k y l i. e (suc k) y (omega arith) (omega arith)) cell in
      λ i. more (head i) (tail i)

  pub row-add : (s : S) (f h : ℕ → ℕ → Tree) (a : ℕ) (cs : List ℕ) (j : ℕ)
      → ((k y : ℕ) → k < length cs → y ≡ a + 4 * k → (k ≡ j → ⊥) → h y (get_or cs k 0) ≡ lit (g.glimpse o s (get_or cs k 0)) (f y (get_or cs k 0)))
      → ((y : ℕ) → j < length cs → y ≡ a + 4 * j → h y (get_or cs j 0)
      ≡ lit (g.glimpse o s (get_or cs j 0)) (add g o (f y (get_or cs j 0)) (g.next s (get_or cs j 0))))
      → ((y d : ℕ) → node_cell (f y d) ≡ d) → row_of h a cs ≡ add_row g o (row_of f a cs) j s
  row-add s f h a [] j e one cell = refl
  row-add s f h a (c ∷ cs) zero e one cell =
      let head : h a c ≡ lit (g.glimpse o s (node_cell (f a c)))
      (add g o (f a c) (g.next s (node_cell (f a c)))) = one a (omega arith) (omega arith)
      ∙ sym (ap (λ (d : ℕ). lit (g.glimpse o s d) (add g o (f a c) (g.next s d))) (cell a c)) in
      let tail : row_of h (a + 4) cs ≡ pass g o s (row_of f (a + 4) cs)
      = row-pass s f h (a + 4) cs
      (λ k y l i. e (suc k) y (omega arith) (omega arith) (λ z. omega arith)) cell in
      λ i. more (head i) (tail i)
  row-add s f h a (c ∷ cs) (suc j) e one cell =
      let head : h a c ≡ lit (g.glimpse o s (node_cell (f a c))) (f a c)
      = e 0 a (omega arith) (omega arith) (λ z. omega arith)
      ∙ sym (ap (λ (d : ℕ). lit (g.glimpse o s d) (f a c)) (cell a c)) in
      let tail : row_of h (a + 4) cs ≡ add_row g o (row_of f (a + 4) cs) j s
      = row-add s f h (a + 4) cs j
      (λ k y l i n. e (suc k) y (omega arith) (omega arith) (λ z. n (omega arith)))
      (λ y l i. one y (omega arith) (omega arith)) cell in
      λ i. more (head i) (tail i)

module _ {S O : Type 0} (g : Game S O) (fair : Fair g) (p q : ℕ → Count) where
  pub pick-in : (b : LinkedBlock) (x : ℕ) → 0 < length b.cells → pick g p q b x < length b.cells
  pick-in b x l =
      let len = length-pairs p q (b.start + 4) b.cells in
      let some : 0 < length (pairs_of p q (b.start + 4) b.cells) = omega (arith, len) in
      omega (arith, len, fair.chosen (p x) (pairs_of p q (b.start + 4) b.cells) some)

-- what is under a child of b is not what is under another one, and not the parent
pub under-not : (b : LinkedBlock) (bs : List LinkedBlock) (x y w : ℕ) → Out (b ∷ bs) x
    → has_node b y ≡ true → top bs w ≡ y → x ≡ w → ⊥
under-not b bs x y w out h t e =
    let at : x ≡ y = sym (top-out bs x out.1) ∙ ap (top bs) e ∙ t in
    clash (has_node b x) (ap (has_node b) at ∙ h) out.0

module _ {S O : Type 0} (g : Game S O) (fair : Fair g) (p q : ℕ → Count) (o : O) where
  pub adds-off : (bs : List LinkedBlock) (x w : ℕ) (s : S) → Sprouts bs → Out bs x
      → (top bs w ≡ x → ⊥) → adds g p q o bs x s w ≡ nothing
  adds-off [] x w s sp out n = ap (λ (t : Bool). cond t (g.gain o s) nothing)
      (ne_eqb x w (λ e. n (sym e)))
  adds-off (b ∷ bs) x w s sp out n = down-split (adds_leaf g p q o) (adds_inner g p q o)
      (λ (f : S → ℕ → Count). f s w ≡ nothing) b bs x
      (λ (t : (b.parent == x) ≡ true).
      let i = pick g p q b x in
      let l : i < length b.cells = pick-in g fair p q b x sp.0.some in
      let h : has_node b (child b i) ≡ true = child-has b i l in
      let rest : adds g p q o bs (child b i) (g.next s (get_or b.cells i 0)) w ≡ nothing
      = adds-off bs (child b i) w (g.next s (get_or b.cells i 0)) sp.1 (sp.0.apart (child b i) h)
      (λ e. n (top-in b bs w (child b i) e h ∙ eqb-true b.parent x t)) in
      let far : (x == w) ≡ false
      = ne_eqb x w (λ e. n (ap (top (b ∷ bs)) (sym e) ∙ top-out (b ∷ bs) x out)) in
      ap (λ (u : Bool). cond u (g.gain o s) (adds g p q o bs (child b i) (g.next s (get_or b.cells i 0)) w)) far ∙ rest)
      (λ (t : (b.parent == x) ≡ false). adds-off bs x w s sp.1 out.1 (λ e. n (top-past b bs w x e out.0)))

  pub sees-off : (bs : List LinkedBlock) (x w : ℕ) (s : S) → Sprouts bs → Out bs x
      → (top bs w ≡ x → ⊥) → sees g p q o bs x s w ≡ nothing
  sees-off [] x w s sp out n = refl
  sees-off (b ∷ bs) x w s sp out n = down-split (sees_leaf g p q o) (sees_inner g p q o)
      (λ (f : S → ℕ → Count). f s w ≡ nothing) b bs x
      (λ (t : (b.parent == x) ≡ true).
      let i = pick g p q b x in
      let l : i < length b.cells = pick-in g fair p q b x sp.0.some in
      let h : has_node b (child b i) ≡ true = child-has b i l in
      let rest : sees g p q o bs (child b i) (g.next s (get_or b.cells i 0)) w ≡ nothing
      = sees-off bs (child b i) w (g.next s (get_or b.cells i 0)) sp.1 (sp.0.apart (child b i) h)
      (λ e. n (top-in b bs w (child b i) e h ∙ eqb-true b.parent x t)) in
      let far : has_node b w ≡ false
      = false_from_ne_true (has_node b w)
      (λ (u : has_node b w ≡ true). n (top-in b bs w w (top-out bs w (sp.0.apart w u)) u ∙ eqb-true b.parent x t)) in
      ap (λ (u : Bool). cond u (g.glimpse o s (get_or b.cells (place b w) 0)) (sees g p q o bs (child b i) (g.next s (get_or b.cells i 0)) w)) far ∙ rest)
      (λ (t : (b.parent == x) ≡ false). sees-off bs x w s sp.1 out.1 (λ e. n (top-past b bs w x e out.0)))

-- if the counts below x are the same, so is the tree
pub same-under : (p q p' q' : ℕ → Count) (bs : List LinkedBlock) (x c : ℕ) (e : Count)
    → Sprouts bs → Out bs x
    → ((w : ℕ) → top bs w ≡ x → p' w ≡ p w) → ((w : ℕ) → top bs w ≡ x → (w ≡ x → ⊥) → q' w ≡ q w)
    → tree_at p' q' bs x c e ≡ tree_at p q bs x c e
same-under p q p' q' [] x c e sp out hp hq = ap (λ (v : Count). node c v e done) (hp x refl)
same-under p q p' q' (b ∷ bs) x c e sp out hp hq = ⊎_elim
    (λ (t : (b.parent == x) ≡ true).
    let par : b.parent ≡ x = eqb-true b.parent x t in
    let kid : (k y : ℕ) → k < length b.cells → y ≡ b.start + 4 + 4 * k
    → tree_at p' q' bs y (get_or b.cells k 0) (q' y) ≡ tree_at p q bs y
    (get_or b.cells k 0) (q y)
    = λ k y l is.
    let h : has_node b y ≡ true = ap (has_node b) is ∙ child-has b k l in
    let o : Out bs y = sp.0.apart y h in
    let mine : q' y ≡ q y = hq y (top-in b bs y y (top-out bs y o) h ∙ par)
    (λ z. clash (has_node b y) h (ap (has_node b) z ∙ out.0)) in
    same-under p q p' q' bs y (get_or b.cells k 0) (q' y) sp.1 o
    (λ w u. hp w (top-in b bs w y u h ∙ par))
    (λ w u n. hq w (top-in b bs w y u h ∙ par) (λ z. under-not b bs x y w out h u (sym z)))
    ∙ ap (λ (v : Count). tree_at p q bs y (get_or b.cells k 0) v) mine in
    let rows : row_of (λ y d. tree_at p' q' bs y d (q' y)) (b.start + 4) b.cells ≡ row_of
    (λ y d. tree_at p q bs y d (q y)) (b.start + 4) b.cells
    = row-same (λ y d. tree_at p' q' bs y d (q' y)) (λ y d. tree_at p q bs y d (q y))
    (b.start + 4) b.cells kid in
    let mid : node c (p' x) e
    (row_of (λ y d. tree_at p' q' bs y d (q' y)) (b.start + 4) b.cells) ≡ node c (p x) e
    (row_of (λ y d. tree_at p q bs y d (q y)) (b.start + 4) b.cells)
    = λ i. node c (hp x (top-out (b ∷ bs) x out) i) e (rows i) in
    ap (λ (f : ℕ → Count → Tree). f c e) (down-here (tree_leaf p') (tree_inner p' q') b bs x t)
    ∙ mid ∙ sym (ap (λ (f : ℕ → Count → Tree). f c e) (down-here (tree_leaf p) (tree_inner p q) b bs x t)))
    (λ (t : (b.parent == x) ≡ false).
    ap (λ (f : ℕ → Count → Tree). f c e) (down-else (tree_leaf p') (tree_inner p' q') b bs x t)
    ∙ same-under p q p' q' bs x c e sp.1 out.1 (λ w u. hp w (top-past b bs w x u out.0))
    (λ w u n. hq w (top-past b bs w x u out.0) n)
    ∙ sym (ap (λ (f : ℕ → Count → Tree). f c e) (down-else (tree_leaf p) (tree_inner p q) b bs x t)))
    (cases_Bool (b.parent == x))
