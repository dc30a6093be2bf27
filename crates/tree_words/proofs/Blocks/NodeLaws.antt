-- The words of nodes, and the leaf of a walk.
use Rattle.std.proofs.Common.{◌≡◌, ◌⊎◌, ℕ, ◌+◌, ◌*◌, ◌%◌, ◌<◌, ◌≤◌, Bool, true, false, cond, List}
use Rattle.std.proofs.Common.{[], ◌∷◌, ◌++◌, refl, sym, ap, ◌∙◌, subst, ⊎_elim, inl, inr, arith}
use Rattle.std.specs.Prelude.{◌==◌, ◌||◌, nat_lt}
use Rattle.std.proofs.lemmas.Bool.Decides.{nat_tests}
use Rattle.tree_words.specs.Settings.{Setting}
use Rattle.tree_words.specs.Words.{Count, root_at, area_at, end_of}
use Rattle.tree_words.specs.Blocks.{LinkedBlock, one_if, size, covers, child, has_node, is_node}
use Rattle.tree_words.specs.Blocks.{link_of, is_header_or_move, cover, InOrder, In}
use Rattle.tree_words.specs.Walks.{Game}
use Rattle.tree_words.specs.Trees.{oldest_first}
use Rattle.tree_words.specs.Complete.{AreComplete}
use Rattle.tree_words.specs.Descents.{pick, leaf_inner, leaf_at, top, Out, Sprouts, EndsBy, Rooted}
use Rattle.tree_words.specs.Descents.{Bare, Inside}
use Rattle.std.proofs.lemmas.Bool.{eqb-true, ne_eqb, cases_Bool, or_cases, false_from_ne_true}
use Rattle.tree_words.proofs.Blocks.BlockLaws.{covers_of, covers_if, has-at, has-covers, cover-cons}
use Rattle.tree_words.proofs.Blocks.BlockLaws.{node-apart, clash}
use Rattle.tree_words.proofs.Walks.Down.{Fair, child-has, pick-in, down-here, down-else, top-out}
use Rattle.tree_words.proofs.Walks.Down.{top-past}
use Rattle.tree_words.proofs.Walks.Expands.{leaf-top}
use Rattle.tree_words.proofs.Walks.WalkLaws.{ends-snoc}

-- two nodes that share a word are one
pub nodes-apart : (r : ℕ) (bs : List LinkedBlock) (x y i j : ℕ) → InOrder r bs
    → is_node r bs x ≡ true → is_node r bs y ≡ true → i < 4 → j < 4 → x + i ≡ y + j → x ≡ y
nodes-apart r [] x y i j g n m li lj e = eqb-true x r n ∙ sym (eqb-true y r m)
nodes-apart r (b ∷ bs) x y i j g n m li lj e = ⊎_elim
    (λ (h : has_node b x ≡ true). ⊎_elim
    (λ (u : has_node b y ≡ true). let p = has-at b x h in let q = has-at b y u in omega (arith, p.2, q.2, e))
    (λ (u : is_node r bs y ≡ true). absurd (clash (covers (x + i) b) (has-covers b x i h li) (ap (λ (z : ℕ). covers z b) e ∙ node-apart r b bs y j g.0 u lj)))
    (or_cases (has_node b y) (is_node r bs y) m))
    (λ (h : is_node r bs x ≡ true). ⊎_elim
    (λ (u : has_node b y ≡ true). absurd (clash (covers (y + j) b) (has-covers b y j u lj) (ap (λ (z : ℕ). covers z b) (sym e)
    ∙ node-apart r b bs x i g.0 h li)))
    (λ (u : is_node r bs y ≡ true). nodes-apart r bs x y i j g.1 h u li lj e)
    (or_cases (has_node b y) (is_node r bs y) m))
    (or_cases (has_node b x) (is_node r bs x) n)

not-stays : (i k j : ℕ) → 1 ≤ j → j < 4 → i ≡ 4 + 4 * k + j → is_header_or_move i ≡ true → ⊥
not-stays i k j l m e t = let far : i % 4 ≡ j = omega arith in let low : 4 ≤ i = omega arith in
    clash (nat_lt i 4 || (i % 4 == 0)) t (off i (i % 4) low (omega (arith, far)))
  where
    off : (i r : ℕ) → 4 ≤ i → 1 ≤ r → (nat_lt i 4 || (r == 0)) ≡ false
    off i r l m = grind (arith, nat_tests)

pub stays-not : (k j : ℕ) → 1 ≤ j → j < 4 → is_header_or_move (4 + 4 * k + j) ≡ false
stays-not k j l m = false_from_ne_true (is_header_or_move (4 + 4 * k + j))
    (λ t. not-stays (4 + 4 * k + j) k j l m refl t)

pub in-cover : (bs : List LinkedBlock) (c : LinkedBlock) (i : ℕ) → In c bs → covers i c ≡ true
    → 0 < cover i bs
in-cover [] c i n h = absurd n
in-cover (b ∷ bs) c i n h = ⊎_elim
    (λ (e : c ≡ b). omega (arith, cover-cons i b bs, ap one_if (ap (covers i) (sym e) ∙ h)))
    (λ (m : In c bs). omega (arith, cover-cons i b bs, in-cover bs c i m h)) n

-- two blocks with a word in common are one
pub covers-one : (r : ℕ) (bs : List LinkedBlock) (b c : LinkedBlock) (i : ℕ) → InOrder r bs
    → In b bs → In c bs → covers i b ≡ true → covers i c ≡ true → b ≡ c
covers-one r [] b c i g m n h k = absurd m
covers-one r (d ∷ bs) b c i g m n h k = ⊎_elim
    (λ (e : b ≡ d). ⊎_elim
    (λ (f : c ≡ d). e ∙ sym f)
    (λ (f : In c bs). let z = g.0.clear i (ap (covers i) (sym e) ∙ h) in absurd (omega (arith, z, in-cover bs c i f k)))
    n)
    (λ (e : In b bs). ⊎_elim
    (λ (f : c ≡ d). let z = g.0.clear i (ap (covers i) (sym f) ∙ k) in absurd (omega (arith, z, in-cover bs b i e h)))
    (λ (f : In c bs). covers-one r bs b c i g.1 e f h k)
    n)
    m

-- a header word or a move word is no link, tally or seen word of a node
pub stays-clear : (r : ℕ) (bs : List LinkedBlock) (c : LinkedBlock) (i x j : ℕ) → InOrder r bs
    → In c bs → i < size c → is_header_or_move i ≡ true → is_node r bs x ≡ true → 1 ≤ j → j < 4
    → c.start + i ≡ x + j → ⊥
stays-clear r [] c i x j g n li st m l1 l4 e = n
stays-clear r (b ∷ bs) c i x j g n li st m l1 l4 e = ⊎_elim
    (λ (q : c ≡ b). ⊎_elim
    (λ (h : has_node b x ≡ true). let p = has-at b x h in let s : c.start
    ≡ b.start = ap (λ (d : LinkedBlock). d.start) q in not-stays i p.0 j l1 l4 (omega (arith, p.2, e, s)) st)
    (λ (h : is_node r bs x ≡ true). clash (covers (x + j) b) (sym (ap (λ (z : ℕ). covers z b) e) ∙ ap (covers (c.start + i)) (sym q)
    ∙ covers_if (c.start + i) c (omega arith) (omega (arith, li))) (node-apart r b bs x j g.0 h l4))
    (or_cases (has_node b x) (is_node r bs x) m))
    (λ (q : In c bs). ⊎_elim
    (λ (h : has_node b x ≡ true). let z : cover (x + j) bs ≡ 0 = g.0.clear (x + j) (has-covers b x j h l4) in
    let u : 0 < cover (x + j) bs
    = in-cover bs c (x + j) q
    (ap (λ (z : ℕ). covers z c) (sym e) ∙ covers_if (c.start + i) c (omega arith) (omega (arith, li))) in omega arith)
    (λ (h : is_node r bs x ≡ true). stays-clear r bs c i x j g.1 q li st h l1 l4 e)
    (or_cases (has_node b x) (is_node r bs x) m)) n

-- where a node lies
pub node-lies : (s : Setting) (next : ℕ) (bs : List LinkedBlock) (x : ℕ) → AreComplete s next bs
    → is_node (root_at s) bs x ≡ true
    → (x ≡ root_at s) ⊎ ((area_at s ≤ x) × (x + 4 ≤ next) × (x + 4 ≤ end_of s))
node-lies s next [] x c n = inl (eqb-true x (root_at s) n)
node-lies s next (b ∷ bs) x c n = ⊎_elim
    (λ (h : has_node b x ≡ true). let p = has-at b x h in inr (
      omega (arith, p.2, c.0.inside.0),
      omega (arith, p.1, p.2, c.0.claimed),
      omega (arith, p.1, p.2, c.0.inside.1),
    ))
    (λ (h : is_node (root_at s) bs x ≡ true). node-lies s next bs x c.1 h)
    (or_cases (has_node b x) (is_node (root_at s) bs x) n)

-- what is no node has no block
pub link-none : (r : ℕ) (bs : List LinkedBlock) (x : ℕ) → InOrder r bs → is_node r bs x ≡ false
    → link_of bs x ≡ 0
link-none r [] x g n = refl
link-none r (b ∷ bs) x g n = ⊎_elim
    (λ (t : (b.parent == x) ≡ true). absurd (clash (is_node r bs x) (ap (is_node r bs) (sym (eqb-true b.parent x t))
    ∙ g.0.parent) (later (has_node b x) (is_node r bs x) n)))
    (λ (t : (b.parent == x) ≡ false). ap (λ (u : Bool). cond u b.start (link_of bs x)) t ∙ link-none r bs x g.1 (later (has_node b x) (is_node r bs x) n))
    (cases_Bool (b.parent == x))
  where
    later : (a b : Bool) → (a || b) ≡ false → b ≡ false
    later true b e = absurd (clash true refl e)
    later false b e = e

-- what lies past the blocks is in none
pub cover-none : (s : Setting) (next : ℕ) (bs : List LinkedBlock) (i : ℕ) → AreComplete s next bs
    → next ≤ i → cover i bs ≡ 0
cover-none s next [] i c l = refl
cover-none s next (b ∷ bs) i c l
    = omega (
      arith,
      cover-cons i b bs,
      cover-none s next bs i c.1 l,
      ap one_if (false_from_ne_true (covers i b) (λ t. let u = covers_of i b t in omega (arith, u.1, c.0.claimed))),
    )

pub complete-more : (s : Setting) (m n : ℕ) (bs : List LinkedBlock) → m ≤ n → AreComplete s m bs
    → AreComplete s n bs
complete-more s m n [] l c = tt
complete-more s m n (b ∷ bs) l c
    = (record { claimed = omega (arith, c.0.claimed); inside = c.0.inside; empties = c.0.empties; cells = c.0.cells }, complete-more s m n bs l c.1)

pub ends-turned : (s : Setting) (next : ℕ) (bs : List LinkedBlock) → AreComplete s next bs
    → EndsBy next (oldest_first bs)
ends-turned s next [] c = tt
ends-turned s next (b ∷ bs) c
    = ends-snoc next b (oldest_first bs) (ends-turned s next bs c.1) c.0.claimed

-- what comes from itself or is a node
top-inside : (os : List LinkedBlock) (w : ℕ) → (top os w ≡ w) ⊎ Inside os w
top-inside [] w = inl refl
top-inside (b ∷ os) w = ⊎_elim
    (λ (e : top os w ≡ w). ⊎_elim (λ (h : has_node b w ≡ true). inr (inl h)) (λ (h : has_node b w
    ≡ false). inl (top-past b os w w e h)) (cases_Bool (has_node b w)))
    (λ (i : Inside os w). inr (inr i)) (top-inside os w)

pub under-root : (os : List LinkedBlock) (r w : ℕ) → top os w ≡ r → (w ≡ r) ⊎ Inside os w
under-root os r w e = ⊎_elim (λ (q : top os w ≡ w). inl (sym q ∙ e)) (λ (i : Inside os w). inr i)
    (top-inside os w)

module _ {S O : Type 0} (g : Game S O) (fair : Fair g) (p q : ℕ → Count) where
  -- the leaf of a walk has no block
  leaf-bare : (os : List LinkedBlock) (x : ℕ) → Sprouts os → Rooted os → Out os x
      → Bare os (leaf_at g p q os x)
  leaf-bare [] x sp ro out = tt
  leaf-bare (b ∷ os) x sp ro out = ⊎_elim
      (λ (t : (b.parent == x) ≡ true).
      let y : ℕ = child b (pick g p q b x) in
      let h : has_node b y ≡ true
      = child-has b (pick g p q b x) (pick-in g fair p q b x sp.0.some) in
      let lf : ℕ = leaf_at g p q os y in
      let o : Out os y = sp.0.apart y h in
      subst (Bare (b ∷ os)) (sym (down-here (λ (z : ℕ). z) (leaf_inner g p q) b os x t)) (
        ne_eqb b.parent lf (λ e. clash (has_node b b.parent) (ap (has_node b) (sym (top-out os b.parent ro.1) ∙ ap (top os) e
            ∙ leaf-top g fair p q os y sp.1 o) ∙ h) ro.0),
        leaf-bare os y sp.1 ro.2 o,
      ))
      (λ (t : (b.parent == x) ≡ false).
      let lf : ℕ = leaf_at g p q os x in
      subst (Bare (b ∷ os)) (sym (down-else (λ (z : ℕ). z) (leaf_inner g p q) b os x t)) (
        ne_eqb b.parent lf (λ e. clash (b.parent == x) (is b.parent x (sym (top-out os b.parent ro.1) ∙ ap (top os) e
            ∙ leaf-top g fair p q os x sp.1 out.1)) t),
        leaf-bare os x sp.1 ro.2 out.1,
      ))
      (cases_Bool (b.parent == x))
    where
      is : (a b : ℕ) → a ≡ b → (a == b) ≡ true
      is a b e = grind (arith, nat_tests)

bare-snoc : (n : LinkedBlock) (os : List LinkedBlock) (x : ℕ) → Bare (os ++ n ∷ []) x
    → Bare os x × ((n.parent == x) ≡ false)
bare-snoc n [] x b = (tt, b.0)
bare-snoc n (c ∷ os) x b = let u = bare-snoc n os x b.1 in ((b.0, u.0), u.1)

bare-link : (bs : List LinkedBlock) (x : ℕ) → Bare (oldest_first bs) x → link_of bs x ≡ 0
bare-link [] x b = refl
bare-link (c ∷ bs) x b = let u = bare-snoc c (oldest_first bs) x b in
    ap (λ (t : Bool). cond t c.start (link_of bs x)) u.1 ∙ bare-link bs x u.0

-- no block is linked below the leaf
pub leaf-vacant : {S O : Type 0} (g : Game S O) (fair : Fair g) (p q : ℕ → Count)
    (bs : List LinkedBlock) (r : ℕ) → Sprouts (oldest_first bs) → Rooted (oldest_first bs)
    → Out (oldest_first bs) r → link_of bs (leaf_at g p q (oldest_first bs) r) ≡ 0
leaf-vacant g fair p q bs r sp ro out = bare-link bs (leaf_at g p q (oldest_first bs) r)
    (leaf-bare g fair p q (oldest_first bs) r sp ro out)
