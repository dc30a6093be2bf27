-- What a walk adds at a node, told by the path of its leaf.
use Rattle.std.proofs.Common.{◌≡◌, ℕ, Bool, true, false, cond, List, [], ◌∷◌, refl, sym, ap, ◌∙◌}
use Rattle.std.proofs.Common.{subst, ⊎_elim}
use Rattle.std.specs.Prelude.{◌==◌}
use Rattle.tree_words.specs.Words.{Count}
use Rattle.tree_words.specs.Blocks.{LinkedBlock, child, has_node, place, cell_at, In}
use Rattle.tree_words.specs.Walks.{nothing, Game}
use Rattle.tree_words.specs.Descents.{pick, leaf_inner, leaf_at, adds_leaf, adds_inner, adds}
use Rattle.tree_words.specs.Descents.{sees_leaf, sees_inner, sees, Out, Sprouts}
use Rattle.std.proofs.lemmas.Bool.{eqb-true, ne_eqb, cases_Bool, or_left, or_from}
use Rattle.tree_words.proofs.Blocks.BlockLaws.{clash}
use Rattle.tree_words.proofs.Walks.Down.{Fair, down-here, down-else, down-split}
use Rattle.tree_words.proofs.Walks.Climbs.{over, climb, over-in, over-past, climb-out, meets}
use Rattle.tree_words.proofs.Walks.Climbs.{or_false, in-out, child-in, meets-on, meets-none}
use Rattle.tree_words.proofs.Walks.Climbs.{state_step, step-child}

module _ {S O : Type 0} (g : Game S O) (fair : Fair g) (p q : ℕ → Count) (o : O) where
  -- each node of the path gains, and no other
  pub adds-up : (os : List LinkedBlock) (root : ℕ → S) (on : ℕ → Bool) (x w : ℕ) (s : S)
      → Sprouts os → Out os x → root x ≡ s → on x ≡ (x == w)
      → adds g p q o os x s w ≡ cond (climb (meets (λ (z : ℕ). z == w)) on os (leaf_at g p q os x))
      (g.gain o (climb (state_step g) root os w)) nothing
  adds-up [] root on x w s sp out e a = ⊎_elim
      (λ (t : (x == w) ≡ true).
      let at : g.gain o s ≡ g.gain o (root w) = ap (g.gain o) (sym e ∙ ap root (eqb-true x w t)) in
      ap (λ (u : Bool). cond u (g.gain o s) nothing) t ∙ at
      ∙ sym (ap (λ (u : Bool). cond u (g.gain o (root w)) nothing) (a ∙ t)))
      (λ (t : (x == w) ≡ false).
      ap (λ (u : Bool). cond u (g.gain o s) nothing) t
      ∙ sym (ap (λ (u : Bool). cond u (g.gain o (root w)) nothing) (a ∙ t)))
      (cases_Bool (x == w))
  adds-up (b ∷ os) root on x w s sp out e a = ⊎_elim
      (λ (t : (b.parent == x) ≡ true).
      let test : ℕ → Bool = λ z. z == w in
      let j : ℕ = pick g p q b x in
      let y : ℕ = child b j in
      let h : has_node b y ≡ true = child-in g fair p q b x sp.0.some in
      let s' : S = g.next s (cell_at b j) in
      let F : ℕ → Bool = climb (meets test) (over (meets test) on b) os in
      let R : S = climb (state_step g) root (b ∷ os) w in
      let lf : leaf_at g p q (b ∷ os) x ≡ leaf_at g p q os y
      = down-here (λ (y : ℕ). y) (leaf_inner g p q) b os x t in
      ap (λ (f : S → ℕ → Count). f s w)
      (down-here (adds_leaf g p q o) (adds_inner g p q o) b os x t)
      ∙ ⊎_elim
      (λ (u : (x == w) ≡ true).
      let met : F (leaf_at g p q (b ∷ os) x) ≡ true
      = meets-on g fair p q test (b ∷ os) on x sp out (a ∙ u) in
      let at : g.gain o s ≡ g.gain o R
      = ap (g.gain o)
      (sym e ∙ sym (climb-out (state_step g) root (b ∷ os) x out) ∙ ap (climb (state_step g) root (b ∷ os)) (eqb-true x w u)) in
      ap (λ (v : Bool). cond v (g.gain o s) (adds g p q o os y s' w)) u ∙ at
      ∙ sym (ap (λ (v : Bool). cond v (g.gain o R) nothing) met))
      (λ (u : (x == w) ≡ false).
      ap (λ (v : Bool). cond v (g.gain o s) (adds g p q o os y s' w)) u
      ∙ adds-up os (over (state_step g) root b) (over (meets test) on b) y w s' sp.1
      (sp.0.apart y h)
      (over-in (state_step g) root b x y h (eqb-true b.parent x t) ∙ step-child g b j (root x) ∙ ap (λ (z : S). g.next z (cell_at b j)) e)
      (over-in (meets test) on b x y h (eqb-true b.parent x t) ∙ or_false (y == w) (on x) (a ∙ u))
      ∙ ap (λ (z : ℕ). cond (F z) (g.gain o R) nothing) (sym lf))
      (cases_Bool (x == w)))
      (λ (t : (b.parent == x) ≡ false).
      let test : ℕ → Bool = λ z. z == w in
      let F : ℕ → Bool = climb (meets test) (over (meets test) on b) os in
      let R : S = climb (state_step g) root (b ∷ os) w in
      let lf : leaf_at g p q (b ∷ os) x ≡ leaf_at g p q os x
      = down-else (λ (y : ℕ). y) (leaf_inner g p q) b os x t in
      ap (λ (f : S → ℕ → Count). f s w)
      (down-else (adds_leaf g p q o) (adds_inner g p q o) b os x t)
      ∙ adds-up os (over (state_step g) root b) (over (meets test) on b) x w s sp.1 out.1
      (over-past (state_step g) root b x out.0 ∙ e) (over-past (meets test) on b x out.0 ∙ a)
      ∙ ap (λ (z : ℕ). cond (F z) (g.gain o R) nothing) (sym lf))
      (cases_Bool (b.parent == x))

  -- nothing is seen at what is no node of the blocks
  pub sees-out : (os : List LinkedBlock) (x w : ℕ) (s : S) → Out os w
      → sees g p q o os x s w ≡ nothing
  sees-out [] x w s out = refl
  sees-out (b ∷ os) x w s out = down-split (sees_leaf g p q o) (sees_inner g p q o)
      (λ (f : S → ℕ → Count). f s w ≡ nothing) b os x
      (λ (t : (b.parent == x) ≡ true).
      let y : ℕ = child b (pick g p q b x) in
      let s' : S = g.next s (cell_at b (pick g p q b x)) in
      ap (λ (u : Bool). cond u (g.glimpse o s (cell_at b (place b w))) (sees g p q o os y s' w)) out.0 ∙ sees-out os y w s' out.1)
      (λ (t : (b.parent == x) ≡ false). sees-out os x w s out.1)

-- which of the blocks has the node
own : (b c : LinkedBlock) (os : List LinkedBlock) (w : ℕ) → Sprouts (c ∷ os) → In b (c ∷ os)
    → has_node b w ≡ true → has_node c w ≡ true → b ≡ c
own b c os w sp i h k
    = ⊎_elim (λ (e : b ≡ c). e)
    (λ (j : In b os). absurd (clash (has_node b w) h (in-out os b w j (sp.0.apart w k)))) i

older : (b c : LinkedBlock) (os : List LinkedBlock) (w : ℕ) → In b (c ∷ os) → has_node b w ≡ true
    → has_node c w ≡ false → In b os
older b c os w i h k
    = ⊎_elim (λ (e : b ≡ c). absurd (clash (has_node b w) h (ap (λ (d : LinkedBlock). has_node d w) e ∙ k))) (λ (j : In b os). j) i

module _ {S O : Type 0} (g : Game S O) (fair : Fair g) (p q : ℕ → Count) (o : O) where
  -- each node of a block that the path enters is seen or not, and no other
  pub sees-up : (os : List LinkedBlock) (root : ℕ → S) (on : ℕ → Bool) (x w : ℕ) (s : S)
      (c : LinkedBlock) → Sprouts os → Out os x → root x ≡ s → on x ≡ false → In c os
      → has_node c w ≡ true
      → sees g p q o os x s w ≡ cond (climb (meets (has_node c)) on os (leaf_at g p q os x))
      (g.glimpse o (climb (state_step g) root os c.parent) (cell_at c (place c w))) nothing
  sees-up [] root on x w s c sp out e a i h = absurd i
  sees-up (b ∷ os) root on x w s c sp out e a i h =
      let step : LinkedBlock → ℕ → S → S = state_step g in
      let F : ℕ → Bool = climb (meets (has_node c)) (over (meets (has_node c)) on b) os in
      let G : S → Count = λ z. g.glimpse o z (cell_at c (place c w)) in
      let R : S = climb step root (b ∷ os) c.parent in
      ⊎_elim
      (λ (t : (b.parent == x) ≡ true).
      let j : ℕ = pick g p q b x in
      let y : ℕ = child b j in
      let hy : has_node b y ≡ true = child-in g fair p q b x sp.0.some in
      let s' : S = g.next s (cell_at b j) in
      let lf : leaf_at g p q (b ∷ os) x ≡ leaf_at g p q os y
      = down-here (λ (y : ℕ). y) (leaf_inner g p q) b os x t in
      ap (λ (f : S → ℕ → Count). f s w)
      (down-here (sees_leaf g p q o) (sees_inner g p q o) b os x t)
      ∙ ⊎_elim
      (λ (u : has_node b w ≡ true).
      let is : c ≡ b = own c b os w sp i h u in
      let cy : has_node c y ≡ true = ap (λ (d : LinkedBlock). has_node d y) is ∙ hy in
      let met : F (leaf_at g p q (b ∷ os) x) ≡ true
      = ap F lf ∙ meets-on g fair p q (has_node c) os (over (meets (has_node c)) on b) y sp.1
      (sp.0.apart y hy)
      (over-in (meets (has_node c)) on b x y hy (eqb-true b.parent x t) ∙ or_left (has_node c y) (on x) cy) in
      let at : s ≡ R = sym e ∙ sym (climb-out step root (b ∷ os) x out)
      ∙ ap (climb step root (b ∷ os))
      (sym (eqb-true b.parent x t) ∙ ap (λ (d : LinkedBlock). d.parent) (sym is)) in
      ap (λ (v : Bool). cond v (g.glimpse o s (cell_at b (place b w))) (sees g p q o os y s' w)) u
      ∙ ap (λ (d : LinkedBlock). g.glimpse o s (cell_at d (place d w))) (sym is)
      ∙ ap G at ∙ sym (ap (λ (v : Bool). cond v (G R) nothing) met))
      (λ (u : has_node b w ≡ false).
      let j' : In c os = older c b os w i h u in
      ap (λ (v : Bool). cond v (g.glimpse o s (cell_at b (place b w))) (sees g p q o os y s' w)) u
      ∙ sees-up os (over step root b) (over (meets (has_node c)) on b) y w s' c sp.1
      (sp.0.apart y hy)
      (over-in step root b x y hy (eqb-true b.parent x t) ∙ step-child g b j (root x) ∙ ap (λ (z : S). g.next z (cell_at b j)) e)
      (over-in (meets (has_node c)) on b x y hy (eqb-true b.parent x t) ∙ or_from (has_node c y) (on x) (in-out os c y j' (sp.0.apart y hy)) a) j' h
      ∙ ap (λ (z : ℕ). cond (F z) (G R) nothing) (sym lf))
      (cases_Bool (has_node b w)))
      (λ (t : (b.parent == x) ≡ false).
      let lf : leaf_at g p q (b ∷ os) x ≡ leaf_at g p q os x
      = down-else (λ (y : ℕ). y) (leaf_inner g p q) b os x t in
      ap (λ (f : S → ℕ → Count). f s w)
      (down-else (sees_leaf g p q o) (sees_inner g p q o) b os x t)
      ∙ ⊎_elim
      (λ (u : has_node b w ≡ true).
      let is : c ≡ b = own c b os w sp i h u in
      let unmet : F (leaf_at g p q (b ∷ os) x) ≡ false
      = ap F lf ∙ meets-none g fair p q (has_node c) os
      (over (meets (has_node c)) on b) x sp.1 out.1
      (λ z v. sp.0.apart z (ap (λ (d : LinkedBlock). has_node d z) (sym is) ∙ v))
      (over-past (meets (has_node c)) on b x out.0 ∙ a) in
      sees-out g fair p q o os x w s (sp.0.apart w u)
      ∙ sym (ap (λ (v : Bool). cond v (G R) nothing) unmet))
      (λ (u : has_node b w ≡ false).
      let j' : In c os = older c b os w i h u in
      sees-up os (over step root b) (over (meets (has_node c)) on b) x w s c sp.1 out.1
      (over-past step root b x out.0 ∙ e) (over-past (meets (has_node c)) on b x out.0 ∙ a) j' h
      ∙ ap (λ (z : ℕ). cond (F z) (G R) nothing) (sym lf))
      (cases_Bool (has_node b w)))
      (cases_Bool (b.parent == x))

module _ {S O : Type 0} (g : Game S O) (fair : Fair g) (p q : ℕ → Count) where
  -- a node of the path below x is the child that is chosen in its block
  pub on-picked : (os : List LinkedBlock) (on : ℕ → Bool) (x w : ℕ) (c : LinkedBlock) → Sprouts os
      → Out os x → on x ≡ false → In c os → has_node c w ≡ true
      → climb (meets (λ (z : ℕ). z == w)) on os (leaf_at g p q os x) ≡ true
      → w ≡ child c (pick g p q c c.parent)
  on-picked [] on x w c sp out a i h met = absurd i
  on-picked (b ∷ os) on x w c sp out a i h met =
      let test : ℕ → Bool = λ z. z == w in
      let F : ℕ → Bool = climb (meets test) (over (meets test) on b) os in
      ⊎_elim
      (λ (t : (b.parent == x) ≡ true).
      let y : ℕ = child b (pick g p q b x) in
      let hy : has_node b y ≡ true = child-in g fair p q b x sp.0.some in
      let lf : leaf_at g p q (b ∷ os) x ≡ leaf_at g p q os y
      = down-here (λ (y : ℕ). y) (leaf_inner g p q) b os x t in
      let met' : F (leaf_at g p q os y) ≡ true = ap F (sym lf) ∙ met in
      ⊎_elim
      (λ (u : has_node b w ≡ true).
      let is : c ≡ b = own c b os w sp i h u in
      ⊎_elim
      (λ (v : (y == w) ≡ true). sym (eqb-true y w v) ∙ ap (λ (z : ℕ). child b (pick g p q b z)) (sym (eqb-true b.parent x t))
      ∙ ap (λ (d : LinkedBlock). child d (pick g p q d d.parent)) (sym is))
      (λ (v : (y == w) ≡ false).
      let unmet : F (leaf_at g p q os y) ≡ false
      = meets-none g fair p q test os (over (meets test) on b) y sp.1 (sp.0.apart y hy)
      (λ z k. subst (Out os) (sym (eqb-true z w k)) (sp.0.apart w u))
      (over-in (meets test) on b x y hy (eqb-true b.parent x t) ∙ or_from (y == w) (on x) v a) in
      absurd (clash (F (leaf_at g p q os y)) met' unmet))
      (cases_Bool (y == w)))
      (λ (u : has_node b w ≡ false).
      let away : (y == w) ≡ false
      = ne_eqb y w (λ z. clash (has_node b y) hy (ap (has_node b) z ∙ u)) in
      on-picked os (over (meets test) on b) y w c sp.1 (sp.0.apart y hy)
      (over-in (meets test) on b x y hy (eqb-true b.parent x t) ∙ or_from (y == w) (on x) away a)
      (older c b os w i h u) h met')
      (cases_Bool (has_node b w)))
      (λ (t : (b.parent == x) ≡ false).
      let lf : leaf_at g p q (b ∷ os) x ≡ leaf_at g p q os x
      = down-else (λ (y : ℕ). y) (leaf_inner g p q) b os x t in
      let met' : F (leaf_at g p q os x) ≡ true = ap F (sym lf) ∙ met in
      ⊎_elim
      (λ (u : has_node b w ≡ true).
      let unmet : F (leaf_at g p q os x) ≡ false
      = meets-none g fair p q test os (over (meets test) on b) x sp.1 out.1
      (λ z k. subst (Out os) (sym (eqb-true z w k)) (sp.0.apart w u))
      (over-past (meets test) on b x out.0 ∙ a) in
      absurd (clash (F (leaf_at g p q os x)) met' unmet))
      (λ (u : has_node b w ≡ false). on-picked os (over (meets test) on b) x w c sp.1 out.1 (over-past (meets test) on b x out.0
      ∙ a) (older c b os w i h u) h met')
      (cases_Bool (has_node b w)))
      (cases_Bool (b.parent == x))
