-- From the leaf up is from the root down.
use Rattle.std.proofs.Common.{◌≡◌, ℕ, ◌<◌, Bool, true, false, cond, List, [], ◌∷◌, ◌++◌, length}
use Rattle.std.proofs.Common.{refl, sym, ap, ◌∙◌, ⊎_elim}
use Rattle.std.specs.Prelude.{◌==◌, ◌||◌, if◌then◌else◌}
use Rattle.std.specs.List.{list_any}
use Rattle.tree_words.specs.Words.{Count}
use Rattle.tree_words.specs.Blocks.{LinkedBlock, child, has_node, place, cell_at, up, In}
use Rattle.tree_words.specs.Walks.{Game}
use Rattle.tree_words.specs.Trees.{oldest_first}
use Rattle.tree_words.specs.Descents.{pick, leaf_inner, leaf_at, state_leaf, state_inner, state_at}
use Rattle.tree_words.specs.Descents.{Out, Sprouts}
use Rattle.tree_words.proofs.Blocks.BlockLaws.{clash}
use Rattle.tree_words.proofs.Walks.Down.{Fair, child-has, down-here, down-else, down-split, pick-in}
use Rattle.tree_words.proofs.Walks.Adds.{is_child}
use Rattle.std.proofs.lemmas.Bool.{or_right, or_from, eqb-true, cases_Bool}

-- What is gathered from x up, the blocks oldest first: the oldest block goes into the root's part,
-- which is a function of the node.
module _ {A : Type 0} (step : LinkedBlock → ℕ → A → A) where
  abbrev pub over : (ℕ → A) → LinkedBlock → ℕ → A
  over root b z = if has_node b z then step b z (root b.parent) else root z

  abbrev pub climb : (ℕ → A) → List LinkedBlock → ℕ → A
  climb root [] x = root x
  climb root (b ∷ os) x = climb (over root b) os x

  climb-snoc : (root : ℕ → A) (os : List LinkedBlock) (b : LinkedBlock) (x : ℕ)
      → climb root (os ++ b ∷ []) x ≡ over (climb root os) b x
  climb-snoc root [] b x = refl
  climb-snoc root (c ∷ os) b x = climb-snoc (over root c) os b x

  pub up-climb : (root : A) (bs : List LinkedBlock) (x : ℕ)
      → up root step bs x ≡ climb (λ z. root) (oldest_first bs) x
  up-climb root [] x = refl
  up-climb root (b ∷ bs) x
      = (λ i. cond (has_node b x) (step b x (up-climb root bs b.parent i)) (up-climb root bs x i))
      ∙ sym (climb-snoc (λ z. root) (oldest_first bs) b x)

  -- the oldest block goes into the root's part
  pub over-in : (root : ℕ → A) (b : LinkedBlock) (x y : ℕ) → has_node b y ≡ true → b.parent ≡ x
      → over root b y ≡ step b y (root x)
  over-in root b x y h e = ap (λ (t : Bool). cond t (step b y (root b.parent)) (root y)) h
      ∙ ap (λ (z : ℕ). step b y (root z)) e

  pub over-past : (root : ℕ → A) (b : LinkedBlock) (y : ℕ) → has_node b y ≡ false
      → over root b y ≡ root y
  over-past root b y h = ap (λ (t : Bool). cond t (step b y (root b.parent)) (root y)) h

  pub climb-out : (root : ℕ → A) (os : List LinkedBlock) (x : ℕ) → Out os x
      → climb root os x ≡ root x
  climb-out root [] x out = refl
  climb-out root (b ∷ os) x out = climb-out (over root b) os x out.1 ∙ over-past root b x out.0

-- whether a node that passes the test is met on the way up
abbrev pub meets : (ℕ → Bool) → LinkedBlock → ℕ → Bool → Bool
meets test b y rest = test y || rest

pub or_false : (a b : Bool) → b ≡ false → (a || b) ≡ a
or_false true b e = refl
or_false false b e = e

pub path-meets : (test : ℕ → Bool) (r : ℕ) (bs : List LinkedBlock) (y : ℕ)
    → list_any test (up (r ∷ []) (λ b z rest. z ∷ rest) bs y) ≡ up (test r || false)
    (meets test) bs y
path-meets test r [] y = refl
path-meets test r (b ∷ bs) y = by (has_node b y) (path-meets test r bs b.parent)
    (path-meets test r bs y)
  where
    by : (t : Bool) → list_any test (up (r ∷ []) (λ b z rest. z ∷ rest) bs b.parent) ≡ up
        (test r || false) (meets test) bs b.parent
        → list_any test (up (r ∷ []) (λ b z rest. z ∷ rest) bs y) ≡ up (test r || false)
        (meets test) bs y
        → list_any test
        (cond t (y ∷ up (r ∷ []) (λ b z rest. z ∷ rest) bs b.parent) (up (r ∷ []) (λ b z rest. z ∷ rest) bs y))
        ≡ cond t (test y || up (test r || false) (meets test) bs b.parent) (up (test r || false) (meets test) bs y)
    by true e f = ap (λ (u : Bool). test y || u) e
    by false e f = f

-- b is none of these blocks if x is its node and none of theirs
pub in-out : (os : List LinkedBlock) (b : LinkedBlock) (x : ℕ) → In b os → Out os x
    → has_node b x ≡ false
in-out [] b x i out = absurd i
in-out (c ∷ os) b x i out = ⊎_elim (λ (e : b ≡ c). ap (λ (d : LinkedBlock). has_node d x) e ∙ out.0)
    (λ (j : In b os). in-out os b x j out.1) i

-- what a child stands for, by its parent
abbrev pub state_step : {S O : Type 0} → Game S O → LinkedBlock → ℕ → S → S
state_step g b y above = g.next above (cell_at b (place b y))

pub step-child : {S O : Type 0} (g : Game S O) (b : LinkedBlock) (j : ℕ) (a : S)
    → state_step g b (child b j) a ≡ g.next a (cell_at b j)
step-child g b j a = ap (λ (k : ℕ). g.next a (cell_at b k)) (is_child b.start j)

module _ {S O : Type 0} (g : Game S O) (fair : Fair g) (p q : ℕ → Count) where
  pub child-in : (b : LinkedBlock) (x : ℕ) → 0 < length b.cells
      → has_node b (child b (pick g p q b x)) ≡ true
  child-in b x l = child-has b (pick g p q b x) (pick-in g fair p q b x l)

  -- what is met above x is met above the leaf
  pub meets-on : (test : ℕ → Bool) (os : List LinkedBlock) (on : ℕ → Bool) (x : ℕ) → Sprouts os
      → Out os x → on x ≡ true
      → climb (meets test) on os (leaf_at g p q os x) ≡ true
  meets-on test [] on x sp out e = e
  meets-on test (b ∷ os) on x sp out e
      = down-split (λ (y : ℕ). y) (leaf_inner g p q)
      (λ (y : ℕ). climb (meets test) (over (meets test) on b) os y ≡ true) b os x
      (λ (t : (b.parent == x) ≡ true).
      let y : ℕ = child b (pick g p q b x) in
      let h : has_node b y ≡ true = child-in b x sp.0.some in
      meets-on test os (over (meets test) on b) y sp.1 (sp.0.apart y h)
      (over-in (meets test) on b x y h (eqb-true b.parent x t) ∙ or_right (test y) (on x) e))
      (λ (t : (b.parent == x) ≡ false). meets-on test os (over (meets test) on b) x sp.1 out.1 (over-past (meets test) on b x out.0 ∙ e))

  -- nothing is met if no node of the blocks passes the test
  pub meets-none : (test : ℕ → Bool) (os : List LinkedBlock) (on : ℕ → Bool) (x : ℕ) → Sprouts os
      → Out os x → ((y : ℕ) → test y ≡ true → Out os y) → on x ≡ false
      → climb (meets test) on os (leaf_at g p q os x) ≡ false
  meets-none test [] on x sp out no-one e = e
  meets-none test (b ∷ os) on x sp out no-one e
      = down-split (λ (y : ℕ). y) (leaf_inner g p q)
      (λ (y : ℕ). climb (meets test) (over (meets test) on b) os y ≡ false) b os x
      (λ (t : (b.parent == x) ≡ true).
      let y : ℕ = child b (pick g p q b x) in
      let h : has_node b y ≡ true = child-in b x sp.0.some in
      let n : test y ≡ false
      = ⊎_elim (λ (u : test y ≡ true). absurd (clash (has_node b y) h (no-one y u).0))
      (λ (u : test y ≡ false). u) (cases_Bool (test y)) in
      meets-none test os (over (meets test) on b) y sp.1 (sp.0.apart y h) (λ z u. (no-one z u).1)
      (over-in (meets test) on b x y h (eqb-true b.parent x t) ∙ or_from (test y) (on x) n e))
      (λ (t : (b.parent == x) ≡ false). meets-none test os (over (meets test) on b) x sp.1 out.1 (λ z u. (no-one z u).1) (over-past (meets test) on b x out.0
      ∙ e))

  -- the state at the leaf is what is gathered up
  pub state-up : (os : List LinkedBlock) (root : ℕ → S) (x : ℕ) (s : S) → Sprouts os → Out os x
      → root x ≡ s
      → climb (state_step g) root os (leaf_at g p q os x) ≡ (state_at g p q os x s).1
  state-up [] root x s sp out e = e
  state-up (b ∷ os) root x s sp out e = ⊎_elim
      (λ (t : (b.parent == x) ≡ true).
      let j : ℕ = pick g p q b x in
      let y : ℕ = child b j in
      let h : has_node b y ≡ true = child-in b x sp.0.some in
      ap (climb (state_step g) (over (state_step g) root b) os)
      (down-here (λ (y : ℕ). y) (leaf_inner g p q) b os x t)
      ∙ state-up os (over (state_step g) root b) y (g.next s (cell_at b j)) sp.1 (sp.0.apart y h)
      (over-in (state_step g) root b x y h (eqb-true b.parent x t) ∙ step-child g b j (root x) ∙ ap (λ (a : S). g.next a (cell_at b j)) e)
      ∙ sym (ap (λ (f : S → Count × S). (f s).1) (down-here (state_leaf g p q) (state_inner g p q) b os x t)))
      (λ (t : (b.parent == x) ≡ false).
      ap (climb (state_step g) (over (state_step g) root b) os)
      (down-else (λ (y : ℕ). y) (leaf_inner g p q) b os x t)
      ∙ state-up os (over (state_step g) root b) x s sp.1 out.1
      (over-past (state_step g) root b x out.0 ∙ e)
      ∙ sym (ap (λ (f : S → Count × S). (f s).1) (down-else (state_leaf g p q) (state_inner g p q) b os x t)))
      (cases_Bool (b.parent == x))
