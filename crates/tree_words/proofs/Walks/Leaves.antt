-- The leaf of a walk on the linked blocks of a setting.
use Rattle.std.proofs.Common.{◌≡◌, ◌≢◌, ◌⊎◌, ℕ, zero, suc, ◌+◌, ◌*◌, ◌<◌, Bool, true, false, cond}
use Rattle.std.proofs.Common.{List, [], ◌∷◌, ◌++◌, length, map, refl, sym, ap, ◌∙◌, subst, ⊎_elim}
use Rattle.std.proofs.Common.{inl, inr, arith}
use Rattle.std.specs.Prelude.{◌==◌, ◌||◌, not}
use Rattle.std.specs.List.{list_any, position_or_len}
use Rattle.uct_table.specs.Choice.{Child, is_unvisited, score_in, first_of_largest, choice_of}
use Rattle.tree_words.specs.Settings.{Setting}
use Rattle.tree_words.specs.Words.{Count, root_at}
use Rattle.tree_words.specs.Blocks.{LinkedBlock, child, has_node, place, cell_at, is_node, link_of}
use Rattle.tree_words.specs.Blocks.{In, InOrder}
use Rattle.tree_words.specs.Paths.{NodeState, root_state, is_on, enters, node_state}
use Rattle.tree_words.specs.Walks.{nothing, Game}
use Rattle.play_out.specs.declared.playouts.Ending.{Ending}
use Rattle.tree_words.specs.Sequence.{gain_of, glimpse_of, child_of, chosen_of, search_game}
use Rattle.tree_words.specs.Trees.{oldest_first}
use Rattle.tree_words.specs.Complete.{HaveNodes}
use Rattle.tree_words.specs.Descents.{pairs_of, pick, leaf_inner, leaf_at, state_at, adds, sees}
use Rattle.tree_words.specs.Descents.{top, Out, Sprouts, Names, Inside}
use Rattle.std.proofs.lemmas.Bool.{eqb-true, eq-eqb, ne_eqb, cases_Bool, or_cases, or_from}
use Rattle.std.proofs.lemmas.Bool.{or_right}
use Rattle.tree_words.proofs.Blocks.BlockLaws.{clash}
use Rattle.tree_words.proofs.Walks.Down.{Fair, child-has, pick-in, down-here, down-else, down-split}
use Rattle.tree_words.proofs.Walks.WalkLaws.{out-snoc, no-has}
use Rattle.tree_words.proofs.Blocks.Orders.{inside-node, sprouts-turned, link-names}
use Rattle.tree_words.proofs.Blocks.GameLaws.{fair_game}
use Rattle.tree_words.proofs.Walks.Climbs.{climb, up-climb, meets, path-meets, or_false, in-out}
use Rattle.tree_words.proofs.Walks.Climbs.{state_step, state-up}
use Rattle.tree_words.proofs.Walks.Bridges.{adds-up, sees-up, on-picked}

-- what is needed of the linked blocks
pub record Whole (r : ℕ) (bs : List LinkedBlock) : Type 0 where
  pub order : InOrder r bs
  pub filled : HaveNodes bs

in-snoc : (n : LinkedBlock) (os : List LinkedBlock) (b : LinkedBlock) → In b os
    → In b (os ++ n ∷ [])
in-snoc n [] b i = absurd i
in-snoc n (c ∷ os) b i = ⊎_elim (λ (e : b ≡ c). inl e) (λ (j : In b os). inr (in-snoc n os b j)) i

in-last : (n : LinkedBlock) (os : List LinkedBlock) (b : LinkedBlock) → b ≡ n → In b (os ++ n ∷ [])
in-last n [] b e = inl e
in-last n (c ∷ os) b e = inr (in-last n os b e)

pub in-turned : (bs : List LinkedBlock) (b : LinkedBlock) → In b bs → In b (oldest_first bs)
in-turned [] b i = absurd i
in-turned (c ∷ bs) b i = ⊎_elim (λ (e : b ≡ c). in-last c (oldest_first bs) b e)
    (λ (j : In b bs). in-snoc c (oldest_first bs) b (in-turned bs b j)) i

-- the root is no node of the blocks
pub root-out : (r : ℕ) (bs : List LinkedBlock) → InOrder r bs → Out (oldest_first bs) r
root-out r [] g = tt
root-out r (b ∷ bs) g = let low = g.0.root in out-snoc b (oldest_first bs) r (root-out r bs g.1)
    (no-has b r (omega arith))

pub sprouts-of : (r : ℕ) (bs : List LinkedBlock) → Whole r bs → Sprouts (oldest_first bs)
sprouts-of r bs w = sprouts-turned r bs w.order w.filled

top-snoc : (n : LinkedBlock) (os : List LinkedBlock) (w : ℕ)
    → top (os ++ n ∷ []) w ≡ top os (cond (has_node n w) n.parent w)
top-snoc n [] w = refl
top-snoc n (c ∷ os) w = ap (λ (y : ℕ). cond (has_node c y) c.parent y) (top-snoc n os w)

-- each node comes from the root
pub node-top : (r : ℕ) (bs : List LinkedBlock) (w : ℕ) → InOrder r bs → is_node r bs w ≡ true
    → top (oldest_first bs) w ≡ r
node-top r [] w g n = eqb-true w r n
node-top r (b ∷ bs) w g n = top-snoc b (oldest_first bs) w ∙ ⊎_elim
    (λ (h : has_node b w ≡ true). ap (λ (t : Bool). top (oldest_first bs) (cond t b.parent w)) h ∙ node-top r bs b.parent g.1 g.0.parent)
    (λ (h : has_node b w ≡ false). ap (λ (t : Bool). top (oldest_first bs) (cond t b.parent w)) h
    ∙ node-top r bs w g.1 (⊎_elim (λ (u : has_node b w ≡ true). absurd (clash (has_node b w) u h)) (λ (u : is_node r bs w
    ≡ true). u) (or_cases (has_node b w) (is_node r bs w) n)))
    (cases_Bool (has_node b w))

inside-out : (os : List LinkedBlock) (x : ℕ) → Inside os x → Out os x → ⊥
inside-out [] x i out = i
inside-out (b ∷ os) x i out = ⊎_elim (λ (h : has_node b x ≡ true). clash (has_node b x) h out.0)
    (λ (j : Inside os x). inside-out os x j out.1) i

module _ {S O : Type 0} (g : Game S O) (fair : Fair g) (p q : ℕ → Count) where
  -- the walk stays or ends in the blocks
  leaf-stays : (os : List LinkedBlock) (x : ℕ) → Sprouts os
      → (leaf_at g p q os x ≡ x) ⊎ Inside os (leaf_at g p q os x)
  leaf-stays [] x sp = inl refl
  leaf-stays (b ∷ os) x sp
      = down-split (λ (y : ℕ). y) (leaf_inner g p q) (λ (y : ℕ). (y ≡ x) ⊎ Inside (b ∷ os) y) b os x
      (λ (t : (b.parent == x) ≡ true).
      let y : ℕ = child b (pick g p q b x) in
      let h : has_node b y ≡ true
      = child-has b (pick g p q b x) (pick-in g fair p q b x sp.0.some) in
      ⊎_elim (λ (e : leaf_at g p q os y ≡ y). inr (inl (ap (has_node b) e ∙ h)))
      (λ (i : Inside os (leaf_at g p q os y)). inr (inr i)) (leaf-stays os y sp.1))
      (λ (t : (b.parent == x) ≡ false). ⊎_elim (λ (e : leaf_at g p q os x
      ≡ x). inl e) (λ (i : Inside os (leaf_at g p q os x)). inr (inr i)) (leaf-stays os x sp.1))

  -- and leaves a node that has a block
  leaf-inside : (os : List LinkedBlock) (x : ℕ) (c : LinkedBlock) → Sprouts os → Names os x c
      → Inside os (leaf_at g p q os x)
  leaf-inside [] x c sp n = absurd n
  leaf-inside (b ∷ os) x c sp n = ⊎_elim
      (λ (e : (b ≡ c) × (c.parent ≡ x)).
      let t : (b.parent == x) ≡ true
      = eq-eqb b.parent x (ap (λ (d : LinkedBlock). d.parent) e.0 ∙ e.1) in
      let y : ℕ = child b (pick g p q b x) in
      let h : has_node b y ≡ true
      = child-has b (pick g p q b x) (pick-in g fair p q b x sp.0.some) in
      subst (Inside (b ∷ os)) (sym (down-here (λ (y : ℕ). y) (leaf_inner g p q) b os x t))
      (⊎_elim (λ (e : leaf_at g p q os y ≡ y). inl (ap (has_node b) e ∙ h)) (λ (i : Inside os (leaf_at g p q os y)). inr i) (leaf-stays os y sp.1)))
      (λ (e : ((b.parent == x) ≡ false) × Names os x c). subst (Inside (b
      ∷ os)) (sym (down-else (λ (y : ℕ). y) (leaf_inner g p q) b os x e.0)) (inr (leaf-inside os x c sp.1 e.1)))
      n

  -- the leaf is a node of a block, if the root has one
  pub leaf-node : (r : ℕ) (bs : List LinkedBlock) → Whole r bs → 0 < link_of bs r
      → (is_node r bs (leaf_at g p q (oldest_first bs) r) ≡ true)
      × (leaf_at g p q (oldest_first bs) r ≢ r)
  leaf-node r bs w l =
      let os : List LinkedBlock = oldest_first bs in
      let n = link-names r bs r w.order l in
      let i : Inside os (leaf_at g p q os r) = leaf-inside os r n.0 (sprouts-of r bs w) n.1 in
      (inside-node r bs (leaf_at g p q os r) i, λ e. inside-out os r (subst (Inside os) e i) (root-out r bs w.order))

module _ (s : Setting) (p q : ℕ → Count) (bs : List LinkedBlock) (w : Whole (root_at s) bs) where
  -- the state at the leaf is its board and the player to move there
  pub leaf-spot : node_state s bs
      (leaf_at (search_game s) p q (oldest_first bs) (root_at s)) ≡ (state_at (search_game s) p q (oldest_first bs) (root_at s) (root_state s)).1
  leaf-spot =
      let r : ℕ = root_at s in
      let os : List LinkedBlock = oldest_first bs in
      let g : Game NodeState Ending = search_game s in
      up-climb (state_step g) (root_state s) bs (leaf_at g p q os r)
      ∙ state-up g (fair_game s) p q os (λ (z : ℕ). root_state s) r (root_state s)
      (sprouts-of r bs w) (root-out r bs w.order) refl

  pub adds-at : (o : Ending) (x : ℕ) → adds (search_game s) p q o (oldest_first bs) (root_at s)
      (root_state s) x
      ≡ cond (is_on s bs x (leaf_at (search_game s) p q (oldest_first bs) (root_at s)))
      (gain_of o (node_state s bs x)) nothing
  adds-at o x =
      let r : ℕ = root_at s in
      let os : List LinkedBlock = oldest_first bs in
      let g : Game NodeState Ending = search_game s in
      let test : ℕ → Bool = λ z. z == x in
      let on : ℕ → Bool = λ z. test r || false in
      let lf : ℕ = leaf_at g p q os r in
      let met : is_on s bs x lf ≡ climb (meets test) on os lf = path-meets test r bs lf
      ∙ up-climb (meets test) (test r || false) bs lf in
      adds-up g (fair_game s) p q o os (λ (z : ℕ). root_state s) on r x (root_state s)
      (sprouts-of r bs w) (root-out r bs w.order) refl (or_false (r == x) false refl)
      ∙ (λ i. cond (sym met i) (gain_of o (sym (up-climb (state_step g) (root_state s) bs x) i)) nothing)

  pub sees-at : (o : Ending) (b : LinkedBlock) (x : ℕ) → In b bs → has_node b x ≡ true
      → sees (search_game s) p q o (oldest_first bs) (root_at s) (root_state s) x
      ≡ cond (enters s bs b (leaf_at (search_game s) p q (oldest_first bs) (root_at s)))
      (glimpse_of o (node_state s bs b.parent) (cell_at b (place b x))) nothing
  sees-at o b x i h =
      let r : ℕ = root_at s in
      let os : List LinkedBlock = oldest_first bs in
      let g : Game NodeState Ending = search_game s in
      let out : Out os r = root-out r bs w.order in
      let j : In b os = in-turned bs b i in
      let on : ℕ → Bool = λ z. has_node b r || false in
      let lf : ℕ = leaf_at g p q os r in
      let met : enters s bs b lf ≡ climb (meets (has_node b)) on os lf
      = path-meets (has_node b) r bs lf
      ∙ up-climb (meets (has_node b)) (has_node b r || false) bs lf in
      sees-up g (fair_game s) p q o os (λ (z : ℕ). root_state s) on r x (root_state s) b
      (sprouts-of r bs w) out refl (or_from (has_node b r) false (in-out os b r j out) refl) j h
      ∙ (λ i. cond (sym met i) (glimpse_of o (sym (up-climb (state_step g) (root_state s) bs b.parent) i) (cell_at b (place b x))) nothing)

  -- a node of a block on the leaf's path is the chosen one
  pub picked-at : (b : LinkedBlock) (x : ℕ) → In b bs → has_node b x ≡ true
      → is_on s bs x (leaf_at (search_game s) p q (oldest_first bs) (root_at s)) ≡ true
      → x ≡ child b (pick (search_game s) p q b b.parent)
  picked-at b x i h e =
      let r : ℕ = root_at s in
      let os : List LinkedBlock = oldest_first bs in
      let g : Game NodeState Ending = search_game s in
      let out : Out os r = root-out r bs w.order in
      let j : In b os = in-turned bs b i in
      let test : ℕ → Bool = λ z. z == x in
      let on : ℕ → Bool = λ z. test r || false in
      let lf : ℕ = leaf_at g p q os r in
      let met : is_on s bs x lf ≡ climb (meets test) on os lf = path-meets test r bs lf
      ∙ up-climb (meets test) (test r || false) bs lf in
      let away : (r == x) ≡ false
      = ne_eqb r x
      (λ z. clash (has_node b x) h (ap (has_node b) (sym z) ∙ in-out os b r j out)) in
      on-picked g (fair_game s) p q os on r x b (sprouts-of r bs w) out
      (or_from (r == x) false away refl) j h (sym met ∙ e)

-- a child without visits is chosen, if there is one
any-unvisited : (p q : ℕ → Count) (a y k : ℕ) (cs : List ℕ) → k < length cs → y ≡ a + 4 * k
    → (p y).visits ≡ 0 → list_any is_unvisited (map child_of (pairs_of p q a cs)) ≡ true
any-unvisited p q a y k [] l e z = absurd (omega arith)
any-unvisited p q a y zero (c ∷ cs) l e z = let at : y ≡ a = omega arith in
    ap (λ (n : ℕ). (n == 0) || list_any is_unvisited (map child_of (pairs_of p q (a + 4) cs)))
    (ap (λ (x : ℕ). (p x).visits) (sym at) ∙ z)
any-unvisited p q a y (suc k) (c ∷ cs) l e z =
    let rest = any-unvisited p q (a + 4) y k cs (omega arith) (omega arith) z in
    or_right ((p a).visits == 0) (list_any is_unvisited (map child_of (pairs_of p q (a + 4) cs))) rest

first-unvisited : (p q : ℕ → Count) (a : ℕ) (cs : List ℕ)
    → list_any is_unvisited (map child_of (pairs_of p q a cs)) ≡ true
    → (p (a + 4 * position_or_len is_unvisited (map child_of (pairs_of p q a cs)))).visits ≡ 0
first-unvisited p q a [] e = absurd (cc)
first-unvisited p q a (c ∷ cs) e = ⊎_elim
    (λ (t : ((p a).visits == 0) ≡ true).
    let at : a + 4 * cond (not ((p a).visits == 0))
    (1 + position_or_len is_unvisited (map child_of (pairs_of p q (a + 4) cs))) 0 ≡ a
    = ap (λ (u : Bool). a + 4 * cond (not u) (1 + position_or_len is_unvisited (map child_of (pairs_of p q (a + 4) cs))) 0) t ∙ omega arith in
    ap (λ (x : ℕ). (p x).visits) at ∙ eqb-true (p a).visits 0 t)
    (λ (t : ((p a).visits == 0) ≡ false).
    let k : ℕ = position_or_len is_unvisited (map child_of (pairs_of p q (a + 4) cs)) in
    let at : a + 4 * cond (not ((p a).visits == 0)) (1 + k) 0 ≡ a + 4 + 4 * k
    = ap (λ (u : Bool). a + 4 * cond (not u) (1 + k) 0) t ∙ omega arith in
    let rest : list_any is_unvisited (map child_of (pairs_of p q (a + 4) cs)) ≡ true
    = sym (ap (λ (u : Bool). u || list_any is_unvisited (map child_of (pairs_of p q (a + 4) cs))) t) ∙ e in
    ap (λ (x : ℕ). (p x).visits) at ∙ first-unvisited p q (a + 4) cs rest)
    (cases_Bool ((p a).visits == 0))

pub picks-unvisited : (s : Setting) (p q : ℕ → Count) (b : LinkedBlock) (x k : ℕ)
    → k < length b.cells → (p (child b k)).visits ≡ 0
    → (p (child b (pick (search_game s) p q b x))).visits ≡ 0
unfolding chosen_of choice_of
picks-unvisited s p q b x k l z =
    let xs : List Child = map child_of (pairs_of p q (b.start + 4) b.cells) in
    let some : list_any is_unvisited xs ≡ true
    = any-unvisited p q (b.start + 4) (child b k) k b.cells l refl z in
    let j : pick (search_game s) p q b x ≡ position_or_len is_unvisited xs
    = ap (λ (t : Bool). cond t (position_or_len is_unvisited xs) (first_of_largest (map (score_in (p x).visits s.knobs.weight) xs))) some in
    ap (λ (i : ℕ). (p (child b i)).visits) j ∙ first-unvisited p q (b.start + 4) b.cells some
