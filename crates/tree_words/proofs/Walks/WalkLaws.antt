-- One walk on the blocks is one walk on the tree.
use Rattle.std.proofs.Common.{◌≡◌, ℕ, ◌+◌, ◌*◌, ◌≤◌, ◌<◌, Bool, true, false, cond, List, [], ◌∷◌}
use Rattle.std.proofs.Common.{◌++◌, length, refl, sym, ap, ◌∙◌, subst, ⊎_elim, arith}
use Rattle.std.specs.Prelude.{◌==◌, nat_lt, nat_le, ◌&&◌}
use Rattle.std.proofs.lemmas.Bool.Decides.{nat_tests}
use Rattle.tree_words.specs.Words.{Count}
use Rattle.tree_words.specs.Blocks.{LinkedBlock, child, has_node, size, cell_at}
use Rattle.tree_words.specs.Walks.{nothing, Tree, node, Children, done, Game, pairs, fresh}
use Rattle.tree_words.specs.Walks.{leaf_state, add, expand, expand_row, walk}
use Rattle.tree_words.specs.Trees.{row_of, tree_leaf, tree_inner, tree_at}
use Rattle.tree_words.specs.Descents.{Config, tree_in, walk_end, NewBlock, Widened, Added, EndsBy}
use Rattle.tree_words.specs.Descents.{Fine, pick, state_leaf, state_inner, state_at, Out, Sprouts}
use Rattle.std.proofs.lemmas.Bool.{and_parts, cases_Bool, false_from_ne_true}
use Rattle.tree_words.proofs.Walks.Down.{Fair, down-here, down-else, cell-tree, pairs-row}
use Rattle.tree_words.proofs.Walks.Down.{same-under}
use Rattle.tree_words.proofs.Walks.Adds.{add-tree}
use Rattle.tree_words.proofs.Walks.Expands.{row-expand, bare-row, state-tree, expand-tree}

pub has-below : (b : LinkedBlock) (x : ℕ) → has_node b x ≡ true
    → (b.start + 4 ≤ x) × (x < b.start + (4 + 4 * length b.cells))
has-below b x h = both (b.start + 4) x (b.start + size b) _ h
  where
    both : (a x n : ℕ) (t : Bool) → (nat_le a x && (nat_lt x n && t)) ≡ true → (a ≤ x) × (x < n)
    both a x n t e = let u = and_parts (nat_le a x) (nat_lt x n && t) e in
        let v = and_parts (nat_lt x n) t u.1 in
        let l : nat_le a x ≡ true = u.0 in let m : nat_lt x n ≡ true = v.0 in
        (grind (arith, nat_tests), grind (arith, nat_tests))

pub no-has : (b : LinkedBlock) (x : ℕ) → x < b.start + 4 → has_node b x ≡ false
no-has b x l = false_from_ne_true (has_node b x) (λ h. let u = has-below b x h in omega arith)

pub out-snoc : (n : LinkedBlock) (bs : List LinkedBlock) (x : ℕ) → Out bs x → has_node n x ≡ false
    → Out (bs ++ n ∷ []) x
out-snoc n [] x out h = (h, tt)
out-snoc n (b ∷ bs) x out h = (out.0, out-snoc n bs x out.1 h)

pub ends-more : (m n : ℕ) (bs : List LinkedBlock) → m ≤ n → EndsBy m bs → EndsBy n bs
ends-more m n [] l e = tt
ends-more m n (b ∷ bs) l e = (omega (arith, e.0), ends-more m n bs l e.1)

pub ends-snoc : (m : ℕ) (n : LinkedBlock) (bs : List LinkedBlock) → EndsBy m bs
    → n.start + (4 + 4 * length n.cells) ≤ m → EndsBy m (bs ++ n ∷ [])
ends-snoc m n [] e l = (l, tt)
ends-snoc m n (b ∷ bs) e l = (e.0, ends-snoc m n bs e.1 l)

pub sprouts-snoc : (n : LinkedBlock) (bs : List LinkedBlock) → Sprouts bs → EndsBy n.start bs
    → 0 < length n.cells → Sprouts (bs ++ n ∷ [])
sprouts-snoc n [] sp e l = (record { apart = λ x h. tt; some = l }, tt)
sprouts-snoc n (b ∷ bs) sp e l = (
  record { apart = λ x h. out-snoc n bs x (sp.0.apart x h) (no-has n x (let u = has-below b x h in omega (arith, e.0, u.1))); some = sp.0.some },
  sprouts-snoc n bs sp.1 e.1 l,
)

module _ {S O : Type 0} (g : Game S O) (fair : Fair g) (p q : ℕ → Count) where
  -- if the leaf is not wide, the tree stays
  pub stay-tree : (m : ℕ) (bs : List LinkedBlock) (x c : ℕ) (e : Count) (s : S) → Sprouts bs
      → g.wide m (state_at g p q bs x s).0 (state_at g p q bs x s).1 ≡ false
      → tree_at p q bs x c e ≡ expand g m (tree_at p q bs x c e) s
  stay-tree m [] x c e s sp wide
      = sym (ap (λ (t : Bool). node c (p x) e (cond t (fresh (g.cells s)) done)) wide)
  stay-tree m (b ∷ bs) x c e s sp wide = ⊎_elim
      (λ (t : (b.parent == x) ≡ true).
      let j : ℕ = pick g p q b x in
      let s' : S = g.next s (cell_at b j) in
      let F : ℕ → ℕ → Tree = λ y d. tree_at p q bs y d (q y) in
      let st : state_at g p q (b ∷ bs) x s ≡ state_at g p q bs (child b j) s'
      = ap (λ (f : S → Count × S). f s)
      (down-here (state_leaf g p q) (state_inner g p q) b bs x t) in
      let one : (y : ℕ) → j < length b.cells → y ≡ b.start + 4 + 4 * j
      → F y (cell_at b j) ≡ expand g m (F y (cell_at b j)) s'
      = λ y l is. subst (λ (z : ℕ). F z (cell_at b j) ≡ expand g m (F z (cell_at b j)) s') (sym is)
      (stay-tree m bs (child b j) (cell_at b j) (q (child b j)) s' sp.1 (sym (ap (λ (u : Count × S). g.wide m u.0 u.1) st) ∙ wide)) in
      let row : Children = row_of F (b.start + 4) b.cells in
      let rows : row ≡ expand_row g m row j s
      = row-expand g m s F F (b.start + 4) b.cells j (λ k y l is d. refl) one
      (λ y d. cell-tree p q bs y d (q y)) in
      let chose : j ≡ g.choose (p x) (pairs row)
      = ap (g.choose (p x)) (sym (pairs-row p q bs (b.start + 4) b.cells)) in
      let rest : Children = expand_row g m row (g.choose (p x) (pairs row)) s in
      ap (λ (f : ℕ → Count → Tree). f c e) (down-here (tree_leaf p) (tree_inner p q) b bs x t)
      ∙ ap (node c (p x) e) (rows ∙ ap (λ (u : ℕ). expand_row g m row u s) chose)
      ∙ sym (ap (λ (r : Bool). node c (p x) e (cond r (cond (g.wide m (p x) s) (fresh (g.cells s)) done) rest)) (bare-row F (b.start + 4) b.cells sp.0.some))
      ∙ sym (ap (λ (f : ℕ → Count → Tree). expand g m (f c e) s) (down-here (tree_leaf p) (tree_inner p q) b bs x t)))
      (λ (t : (b.parent == x) ≡ false).
      let st : state_at g p q (b ∷ bs) x s ≡ state_at g p q bs x s
      = ap (λ (f : S → Count × S). f s)
      (down-else (state_leaf g p q) (state_inner g p q) b bs x t) in
      ap (λ (f : ℕ → Count → Tree). f c e) (down-else (tree_leaf p) (tree_inner p q) b bs x t)
      ∙ stay-tree m bs x c e s sp.1 (sym (ap (λ (u : Count × S). g.wide m u.0 u.1) st) ∙ wide)
      ∙ sym (ap (λ (f : ℕ → Count → Tree). expand g m (f c e) s) (down-else (tree_leaf p) (tree_inner p q) b bs x t)))
      (cases_Bool (b.parent == x))

module _ {S O : Type 0} (g : Game S O) (fair : Fair g) (s : S) (r : ℕ) where
  pub next-grows : (c d : Config) → Widened g s r c d → c.next ≤ d.next
  next-grows c d w
      = subst (λ (z : ℕ). c.next ≤ z) (sym w.next)
      (fair.grows c.next (walk_end g s r c).0 (walk_end g s r c).1)

  -- what is fine stays fine if the leaf gets its block
  pub fine-widened : (c d : Config) → Fine r c → Widened g s r c d → Fine r d
  fine-widened c d f w =
      let grow : c.next ≤ d.next = next-grows c d w in
      ⊎_elim
      (λ (e : (n : LinkedBlock) × NewBlock g s r c d n).
      let n : LinkedBlock = e.0 in let b : NewBlock g s r c d n = e.1 in
      let start : EndsBy n.start c.blocks
      = subst (λ (z : ℕ). EndsBy z c.blocks) (sym b.start) f.ends_by in
      let done' : Fine r d = record {
        sprouts = subst Sprouts (sym b.blocks) (sprouts-snoc n c.blocks f.sprouts start b.some);
        root = subst (λ (l : List LinkedBlock). Out l r) (sym b.blocks)
            (out-snoc n c.blocks r f.root (no-has n r (omega (arith, f.low, b.start))));
        ends_by = subst (EndsBy d.next) (sym b.blocks)
            (ends-snoc d.next n c.blocks (ends-more c.next d.next c.blocks grow f.ends_by) b.room);
        low = omega (arith, f.low, grow);
      } in done')
      (λ (e : (g.wide c.next (walk_end g s r c).0 (walk_end g s r c).1 ≡ false) × (d.blocks ≡ c.blocks)).
      let done' : Fine r d = record {
        sprouts = subst Sprouts (sym e.1) f.sprouts;
        root = subst (λ (l : List LinkedBlock). Out l r) (sym e.1) f.root;
        ends_by = subst (EndsBy d.next) (sym e.1) (ends-more c.next d.next c.blocks grow f.ends_by);
        low = omega (arith, f.low, grow);
      } in done')
      w.block

  -- and its tree is expanded
  pub widened-tree : (c d : Config) → Fine r c → Widened g s r c d
      → tree_in r d ≡ expand g c.next (tree_in r c) s
  widened-tree c d f w =
      let u : Fine r d = fine-widened c d f w in
      same-under c.tally c.seen d.tally d.seen d.blocks r 0 nothing u.sprouts u.root w.tally w.seen
      ∙ ⊎_elim
      (λ (e : (n : LinkedBlock) × NewBlock g s r c d n).
      let n : LinkedBlock = e.0 in let b : NewBlock g s r c d n = e.1 in
      ap (λ (l : List LinkedBlock). tree_at c.tally c.seen l r 0 nothing) b.blocks
      ∙ expand-tree g fair c.tally c.seen c.next n c.blocks r 0 nothing s f.sprouts f.root b.parent b.cells b.wide b.blank)
      (λ (e : (g.wide c.next (walk_end g s r c).0 (walk_end g s r c).1 ≡ false) × (d.blocks ≡ c.blocks)).
      ap (λ (l : List LinkedBlock). tree_at c.tally c.seen l r 0 nothing) e.1
      ∙ stay-tree g fair c.tally c.seen c.next c.blocks r 0 nothing s f.sprouts e.0)
      w.block

  pub fine-added : (o : O) (c d : Config) → Fine r c → Added g s r o c d → Fine r d
  fine-added o c d f w = record {
    sprouts = subst Sprouts (sym w.blocks) f.sprouts;
    root = subst (λ (l : List LinkedBlock). Out l r) (sym w.blocks) f.root;
    ends_by = subst (λ (l : List LinkedBlock). EndsBy d.next l) (sym w.blocks)
        (subst (λ (z : ℕ). EndsBy z c.blocks) (sym w.next) f.ends_by);
    low = omega (arith, f.low, w.next);
  }

  -- if a walk adds, its tree has the adds
  pub added-tree : (o : O) (c d : Config) → Fine r c → Added g s r o c d
      → tree_in r d ≡ add g o (tree_in r c) s
  added-tree o c d f w =
      ap (λ (l : List LinkedBlock). tree_at d.tally d.seen l r 0 nothing) w.blocks
      ∙ add-tree g fair o c.tally c.seen d.tally d.seen c.blocks r 0 nothing s f.sprouts f.root w.tally w.seen

  -- one walk on the blocks, from c by m to d, is one walk on the tree
  pub walk-tree : (k : ℕ) (o : O) (c m d : Config) → Fine r c → Widened g s r c m
      → Added g s r o m d → o ≡ g.play k (walk_end g s r m).1
      → (tree_in r d, d.next) ≡ walk g s k (tree_in r c, c.next)
  walk-tree k o c m d f w a is =
      let u : Fine r m = fine-widened c m f w in
      let U : Tree = tree_in r m in
      let played : o ≡ g.play k (leaf_state g U s).1 = is
      ∙ ap (λ (z : Count × S). g.play k z.1)
      (state-tree g fair m.tally m.seen m.blocks r 0 nothing s u.sprouts) in
      let adds : Tree → Tree = λ v. add g (g.play k (leaf_state g v s).1) v s in
      let tree : tree_in r d ≡ adds (expand g c.next (tree_in r c) s)
      = added-tree o m d u a ∙ ap (λ (z : O). add g z U s) played
      ∙ ap adds (widened-tree c m f w) in
      let next : d.next ≡ g.grown c.next (leaf_state g (tree_in r c) s).0
      (leaf_state g (tree_in r c) s).1
      = a.next ∙ w.next ∙ ap (λ (z : Count × S). g.grown c.next z.0 z.1)
      (state-tree g fair c.tally c.seen c.blocks r 0 nothing s f.sprouts) in
      λ i. (tree i, next i)
