-- The adds of a walk, on the blocks and on the tree.
use Rattle.std.proofs.Common.{◌≡◌, ℕ, ◌+◌, ◌-◌, ◌*◌, ◌/◌, ◌<◌, Bool, true, false, cond, List, []}
use Rattle.std.proofs.Common.{◌∷◌, length, refl, sym, ap, ◌∙◌, subst, ⊎_elim, arith}
use Rattle.std.specs.Prelude.{◌==◌}
use Rattle.tree_words.specs.Words.{Count}
use Rattle.tree_words.specs.Blocks.{LinkedBlock, child, has_node, place, cell_at}
use Rattle.tree_words.specs.Walks.{nothing, plus, Tree, node, done, Game, lit, pairs, add, add_row}
use Rattle.tree_words.specs.Trees.{row_of, tree_leaf, tree_inner, tree_at}
use Rattle.tree_words.specs.Descents.{pick, adds_leaf, adds_inner, adds, sees_leaf, sees_inner}
use Rattle.tree_words.specs.Descents.{sees, top, Out, Sprouts}
use Rattle.std.proofs.lemmas.Bool.{eqb-true, eq-eqb, ne_eqb, cases_Bool, false_from_ne_true}
use Rattle.tree_words.proofs.Blocks.BlockLaws.{clash}
use Rattle.tree_words.proofs.Walks.Down.{Fair, plus-nothing, child-has, down-here, down-else}
use Rattle.tree_words.proofs.Walks.Down.{top-out, top-in, top-past, cell-tree, lit-tree, pairs-row}
use Rattle.tree_words.proofs.Walks.Down.{row-add, pick-in, under-not, adds-off, sees-off}
use Rattle.tree_words.proofs.Walks.Down.{same-under}

pub is_child : (a k : ℕ) → (a + 4 + 4 * k - a - 4) / 4 ≡ k
is_child a k = omega arith

pub child-other : (a j k : ℕ) → a + 4 + 4 * k ≡ a + 4 + 4 * j → k ≡ j
child-other a j k e = omega arith

pub off : (a n z : Count) → a ≡ plus n z → z ≡ nothing → a ≡ n
off a n z e h = e ∙ (ap (plus n) h ∙ plus-nothing n)

-- the tree with the counts after a walk's adds is the tree after the walk
module _ {S O : Type 0} (g : Game S O) (fair : Fair g) (o : O) (p q p' q' : ℕ → Count) where
  pub add-tree : (bs : List LinkedBlock) (x c : ℕ) (e : Count) (s : S) → Sprouts bs → Out bs x
      → ((w : ℕ) → top bs w ≡ x → p' w ≡ plus (p w) (adds g p q o bs x s w))
      → ((w : ℕ) → top bs w ≡ x → (w ≡ x → ⊥) → q' w ≡ plus (q w) (sees g p q o bs x s w))
      → tree_at p' q' bs x c e ≡ add g o (tree_at p q bs x c e) s
  add-tree [] x c e s sp out hp hq =
      let v : p' x ≡ plus (p x) (g.gain o s) = hp x refl
      ∙ ap (λ (t : Bool). plus (p x) (cond t (g.gain o s) nothing)) (eq-eqb x x refl) in
      ap (λ (n : Count). node c n e done) v
  add-tree (b ∷ bs) x c e s sp out hp hq = ⊎_elim
      (λ (t : (b.parent == x) ≡ true).
      let par : b.parent ≡ x = eqb-true b.parent x t in
      let j : ℕ = pick g p q b x in
      let lj : j < length b.cells = pick-in g fair p q b x sp.0.some in
      let hj : has_node b (child b j) ≡ true = child-has b j lj in
      let s' : S = g.next s (cell_at b j) in
      let F : ℕ → ℕ → Tree = λ y d. tree_at p q bs y d (q y) in
      let H : ℕ → ℕ → Tree = λ y d. tree_at p' q' bs y d (q' y) in
      -- the walk's adds, seen from the child
      let pw : (w : ℕ) → top (b ∷ bs) w ≡ x → (x ≡ w → ⊥)
      → p' w ≡ plus (p w) (adds g p q o bs (child b j) s' w)
      = λ w u n. hp w u
      ∙ ap (plus (p w))
      (ap (λ (f : S → ℕ → Count). f s w) (down-here (adds_leaf g p q o) (adds_inner g p q o) b bs x t)
      ∙ ap (λ (r : Bool). cond r (g.gain o s) (adds g p q o bs (child b j) s' w)) (ne_eqb x w n)) in
      let qw : (w : ℕ) → top (b ∷ bs) w ≡ x → (w ≡ x → ⊥) → has_node b w ≡ false
      → q' w ≡ plus (q w) (sees g p q o bs (child b j) s' w)
      = λ w u n h. hq w u n
      ∙ ap (plus (q w))
      (ap (λ (f : S → ℕ → Count). f s w) (down-here (sees_leaf g p q o) (sees_inner g p q o) b bs x t)
      ∙ ap (λ (r : Bool). cond r (g.glimpse o s (cell_at b (place b w))) (sees g p q o bs (child b j) s' w)) h) in
      let below : (y w : ℕ) → has_node b y ≡ true → top bs w ≡ y → (w ≡ y → ⊥)
      → has_node b w ≡ false
      = λ y w h u n. false_from_ne_true (has_node b w)
      (λ r. n (sym (top-out bs w (sp.0.apart w r)) ∙ u)) in
      -- the seen of each child
      let mine : (k y : ℕ) → k < length b.cells → y ≡ b.start + 4 + 4 * k
      → q' y ≡ plus (q y) (g.glimpse o s (cell_at b k))
      = λ k y l is.
      let h : has_node b y ≡ true = ap (has_node b) is ∙ child-has b k l in
      let at : place b y ≡ k = ap (place b) is ∙ is_child b.start k in
      hq y (top-in b bs y y (top-out bs y (sp.0.apart y h)) h ∙ par)
      (λ z. clash (has_node b y) h (ap (has_node b) z ∙ out.0))
      ∙ ap (plus (q y))
      (ap (λ (f : S → ℕ → Count). f s y) (down-here (sees_leaf g p q o) (sees_inner g p q o) b bs x t)
      ∙ ap (λ (r : Bool). cond r (g.glimpse o s (cell_at b (place b y))) (sees g p q o bs (child b j) s' y)) h
      ∙ ap (λ (z : ℕ). g.glimpse o s (cell_at b z)) at) in
      -- a child that the walk passes by
      let by : (k y : ℕ) → k < length b.cells → y ≡ b.start + 4 + 4 * k → (k ≡ j → ⊥)
      → H y (cell_at b k) ≡ lit (g.glimpse o s (cell_at b k)) (F y (cell_at b k))
      = λ k y l is n.
      let h : has_node b y ≡ true = ap (has_node b) is ∙ child-has b k l in
      let far : (w : ℕ) → top bs w ≡ y → top bs w ≡ child b j → ⊥
      = λ w u v. n (child-other b.start j k (sym is ∙ sym u ∙ v)) in
      same-under p q p' q' bs y (cell_at b k) (q' y) sp.1 (sp.0.apart y h)
      (λ w u. off (p' w) (p w) _ (pw w (top-in b bs w y u h ∙ par) (under-not b bs x y w out h u))
      (adds-off g fair p q o bs (child b j) w s' sp.1 (sp.0.apart (child b j) hj) (far w u)))
      (λ w u m. off (q' w) (q w) _ (qw w (top-in b bs w y u h ∙ par) (λ z. under-not b bs x y w out h u (sym z)) (below y w h u m))
      (sees-off g fair p q o bs (child b j) w s' sp.1 (sp.0.apart (child b j) hj) (far w u)))
      ∙ ap (tree_at p q bs y (cell_at b k)) (mine k y l is)
      ∙ sym (lit-tree p q bs y (cell_at b k) (q y) (g.glimpse o s (cell_at b k))) in
      -- the child that it enters
      let one : (y : ℕ) → j < length b.cells → y ≡ b.start + 4 + 4 * j
      → H y (cell_at b j) ≡ lit (g.glimpse o s (cell_at b j))
      (add g o (F y (cell_at b j)) (g.next s (cell_at b j)))
      = λ y l is. subst (λ (z : ℕ). H z (cell_at b j) ≡ lit (g.glimpse o s (cell_at b j)) (add g o (F z (cell_at b j)) s')) (sym is)
      (ap (tree_at p' q' bs (child b j) (cell_at b j)) (mine j (child b j) lj refl)
      ∙ sym (lit-tree p' q' bs (child b j) (cell_at b j) (q (child b j)) (g.glimpse o s (cell_at b j)))
      ∙ ap (lit (g.glimpse o s (cell_at b j)))
      (add-tree bs (child b j) (cell_at b j) (q (child b j)) s' sp.1 (sp.0.apart (child b j) hj)
      (λ w u. pw w (top-in b bs w (child b j) u hj ∙ par) (under-not b bs x (child b j) w out hj u))
      (λ w u m. qw w (top-in b bs w (child b j) u hj ∙ par) (λ z. under-not b bs x (child b j) w out hj u (sym z)) (below (child b j) w hj u m)))) in
      let rows : row_of H (b.start + 4) b.cells ≡ add_row g o (row_of F (b.start + 4) b.cells) j s
      = row-add g o s F H (b.start + 4) b.cells j by one (λ y d. cell-tree p q bs y d (q y)) in
      let chose : j ≡ g.choose (p x) (pairs (row_of F (b.start + 4) b.cells))
      = ap (g.choose (p x)) (sym (pairs-row p q bs (b.start + 4) b.cells)) in
      let tally : p' x ≡ plus (p x) (g.gain o s) = hp x (top-out (b ∷ bs) x out)
      ∙ ap (plus (p x))
      (ap (λ (f : S → ℕ → Count). f s x) (down-here (adds_leaf g p q o) (adds_inner g p q o) b bs x t)
      ∙ ap (λ (r : Bool). cond r (g.gain o s) (adds g p q o bs (child b j) s' x)) (eq-eqb x x refl)) in
      let all : node c (p' x) e (row_of H (b.start + 4) b.cells) ≡ node c
      (plus (p x) (g.gain o s)) e
      (add_row g o (row_of F (b.start + 4) b.cells) (g.choose (p x) (pairs (row_of F (b.start + 4) b.cells))) s)
      = λ i. node c (tally i) e
      ((rows ∙ ap (λ (n : ℕ). add_row g o (row_of F (b.start + 4) b.cells) n s) chose) i) in
      ap (λ (f : ℕ → Count → Tree). f c e) (down-here (tree_leaf p') (tree_inner p' q') b bs x t)
      ∙ all ∙ sym (ap (λ (f : ℕ → Count → Tree). add g o (f c e) s) (down-here (tree_leaf p) (tree_inner p q) b bs x t)))
      (λ (t : (b.parent == x) ≡ false).
      ap (λ (f : ℕ → Count → Tree). f c e) (down-else (tree_leaf p') (tree_inner p' q') b bs x t)
      ∙ add-tree bs x c e s sp.1 out.1
      (λ w u. hp w (top-past b bs w x u out.0) ∙ ap (λ (f : S → ℕ → Count). plus (p w) (f s w)) (down-else (adds_leaf g p q o) (adds_inner g p q o) b bs x t))
      (λ w u n. hq w (top-past b bs w x u out.0) n ∙ ap (λ (f : S → ℕ
      → Count). plus (q w) (f s w)) (down-else (sees_leaf g p q o) (sees_inner g p q o) b bs x t))
      ∙ sym (ap (λ (f : ℕ → Count → Tree). add g o (f c e) s) (down-else (tree_leaf p) (tree_inner p q) b bs x t)))
      (cases_Bool (b.parent == x))
