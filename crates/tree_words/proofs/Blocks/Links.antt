-- Going by links.
use Rattle.std.proofs.Common.{◌≡◌, ℕ, ◌<◌, true, false, cond, List, [], ◌∷◌, length, refl, sym, ap}
use Rattle.std.proofs.Common.{◌∙◌, subst, ⊎_elim}
use Rattle.std.specs.Prelude.{◌==◌}
use Rattle.tree_words.specs.Words.{Count}
use Rattle.tree_words.specs.Blocks.{LinkedBlock, child, has_node, place, cell_at}
use Rattle.tree_words.specs.Walks.{Game}
use Rattle.tree_words.specs.Trees.{down}
use Rattle.tree_words.specs.Descents.{pick, leaf_inner, leaf_at, state_leaf, state_inner, state_at}
use Rattle.tree_words.specs.Descents.{steps_inner, steps_at, adds_leaf, adds_inner, adds, sees_leaf}
use Rattle.tree_words.specs.Descents.{sees_inner, sees, Out, Rooted, Names, Bare}
use Rattle.std.proofs.lemmas.Bool.{eq-eqb, ne_eqb}
use Rattle.tree_words.proofs.Blocks.BlockLaws.{clash}
use Rattle.tree_words.proofs.Walks.Down.{Fair, child-has, pick-in, down-here, down-else}

-- b is one of the blocks
names-out : (bs : List LinkedBlock) (x y : ℕ) (b : LinkedBlock) → Names bs x b → Out bs y
    → has_node b y ≡ false
names-out [] x y b n out = absurd n
names-out (c ∷ bs) x y b n out
    = ⊎_elim (λ (e : (c ≡ b) × (b.parent ≡ x)). sym (ap (λ (d : LinkedBlock). has_node d y) e.0)
    ∙ out.0) (λ (e : ((c.parent == x) ≡ false) × Names bs x b). names-out bs x y b e.1 out.1) n

module _ {A : Type 0} (leaf : ℕ → A) (inner : LinkedBlock → ℕ → (ℕ → A) → A) where
  -- what is found from x goes by its block, with all blocks again: this is what a loop that follows
  -- links computes
  pub down-link : (bs : List LinkedBlock) (x : ℕ) (b : LinkedBlock) → Rooted bs → Names bs x b
      → ((f h : ℕ → A) → ((y : ℕ) → has_node b y ≡ true → f y ≡ h y) → inner b x f ≡ inner b x h)
      → down leaf inner bs x ≡ inner b x (down leaf inner bs)
  down-link [] x b r n local = absurd n
  down-link (c ∷ bs) x b r n local = ⊎_elim
      (λ (e : (c ≡ b) × (b.parent ≡ x)).
      let at : c.parent ≡ x = ap (λ (d : LinkedBlock). d.parent) e.0 ∙ e.1 in
      down-here leaf inner c bs x (eq-eqb c.parent x at)
      ∙ ap (λ (d : LinkedBlock). inner d x (down leaf inner bs)) e.0
      ∙ local (down leaf inner bs) (down leaf inner (c ∷ bs))
      (λ y h. sym (down-else leaf inner c bs y (ne_eqb c.parent y (λ z. clash (has_node b y) h (ap (λ (d : LinkedBlock). has_node d y) (sym e.0)
      ∙ ap (has_node c) (sym z) ∙ r.0))))))
      (λ (e : ((c.parent == x) ≡ false) × Names bs x b).
      down-else leaf inner c bs x e.0 ∙ down-link bs x b r.2 e.1 local
      ∙ local (down leaf inner bs) (down leaf inner (c ∷ bs))
      (λ y h. sym (down-else leaf inner c bs y (ne_eqb c.parent y (λ z. clash (has_node b y) h (names-out bs x y b e.1 (subst (Out bs) z r.1)))))))
      n

-- no block is below x: what is found is the leaf's
module _ {A : Type 0} (leaf : ℕ → A) (inner : LinkedBlock → ℕ → (ℕ → A) → A) where
  pub down-bare : (bs : List LinkedBlock) (x : ℕ) → Bare bs x → down leaf inner bs x ≡ leaf x
  down-bare [] x b = refl
  down-bare (c ∷ bs) x b = down-else leaf inner c bs x b.0 ∙ down-bare bs x b.1

module _ {S O : Type 0} (g : Game S O) (fair : Fair g) (p q : ℕ → Count) where
  -- going by links: the leaf, its state and the steps go on by the block that the link names
  pub leaf-link : (bs : List LinkedBlock) (x : ℕ) (b : LinkedBlock) → Rooted bs → Names bs x b
      → 0 < length b.cells → leaf_at g p q bs x ≡ leaf_at g p q bs (child b (pick g p q b x))
  leaf-link bs x b r n l = down-link (λ (y : ℕ). y) (leaf_inner g p q) bs x b r n
      (λ f h e. e (child b (pick g p q b x)) (child-has b (pick g p q b x) (pick-in g fair p q b x l)))

  pub steps-link : (bs : List LinkedBlock) (x : ℕ) (b : LinkedBlock) → Rooted bs → Names bs x b
      → 0 < length b.cells → steps_at g p q bs x ≡ child b (pick g p q b x) ∷ steps_at g p q bs
      (child b (pick g p q b x))
  steps-link bs x b r n l = down-link (λ (y : ℕ). []) (steps_inner g p q) bs x b r n
      (λ f h e. ap (λ (z : List ℕ). child b (pick g p q b x) ∷ z) (e (child b (pick g p q b x)) (child-has b (pick g p q b x) (pick-in g fair p q b x l))))

  pub state-link : (bs : List LinkedBlock) (x : ℕ) (b : LinkedBlock) (s : S) → Rooted bs
      → Names bs x b → 0 < length b.cells
      → state_at g p q bs x s ≡ state_at g p q bs (child b (pick g p q b x))
      (g.next s (cell_at b (pick g p q b x)))
  state-link bs x b s r n l
      = ap (λ (f : S → Count × S). f s) (down-link (state_leaf g p q) (state_inner g p q) bs x b r n
      (λ f h e. ap (λ (z : S → Count × S). λ (u : S). z (g.next u (cell_at b (pick g p q b x))))
      (e (child b (pick g p q b x)) (child-has b (pick g p q b x) (pick-in g fair p q b x l)))))

  pub adds-link : (o : O) (bs : List LinkedBlock) (x : ℕ) (b : LinkedBlock) (s : S) (w : ℕ)
      → Rooted bs → Names bs x b → 0 < length b.cells
      → adds g p q o bs x s w ≡ cond (x == w) (g.gain o s)
      (adds g p q o bs (child b (pick g p q b x)) (g.next s (cell_at b (pick g p q b x))) w)
  adds-link o bs x b s w r n l
      = ap (λ (f : S → ℕ → Count). f s w)
      (down-link (adds_leaf g p q o) (adds_inner g p q o) bs x b r n
      (λ f h e. ap (λ (z : S → ℕ → Count). λ (u : S) (v : ℕ). cond (x == v) (g.gain o u) (z (g.next u (cell_at b (pick g p q b x))) v))
      (e (child b (pick g p q b x)) (child-has b (pick g p q b x) (pick-in g fair p q b x l)))))

  pub sees-link : (o : O) (bs : List LinkedBlock) (x : ℕ) (b : LinkedBlock) (s : S) (w : ℕ)
      → Rooted bs → Names bs x b → 0 < length b.cells
      → sees g p q o bs x s w ≡ cond (has_node b w) (g.glimpse o s (cell_at b (place b w)))
      (sees g p q o bs (child b (pick g p q b x)) (g.next s (cell_at b (pick g p q b x))) w)
  sees-link o bs x b s w r n l
      = ap (λ (f : S → ℕ → Count). f s w)
      (down-link (sees_leaf g p q o) (sees_inner g p q o) bs x b r n
      (λ f h e. ap (λ (z : S → ℕ → Count). λ (u : S) (v : ℕ). cond (has_node b v) (g.glimpse o u (cell_at b (place b v)))
      (z (g.next u (cell_at b (pick g p q b x))) v)) (e (child b (pick g p q b x)) (child-has b (pick g p q b x) (pick-in g fair p q b x l)))))
