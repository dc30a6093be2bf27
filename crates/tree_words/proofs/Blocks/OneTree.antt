-- The words show one tree: what two lists of blocks that they link have in common.
use Rattle.std.proofs.Common.{◌≡◌, ℕ, zero, suc, ◌+◌, ◌<◌, ◌≤◌, Bool, true, false, cond, List, []}
use Rattle.std.proofs.Common.{◌∷◌, get_or, refl, sym, ap, ◌∙◌, subst, ⊎_elim, inl, inr, arith}
use Rattle.std.specs.Prelude.{◌==◌, slice_index}
use Rattle.std.proofs.lemmas.Bool.{cases_eq, eq-eqb, ne_eqb}
use Rattle.tree_words.specs.Settings.{Setting}
use Rattle.tree_words.specs.Words.{Count, root_at, area_at, end_of, next_in, link_in, cell_in}
use Rattle.tree_words.specs.Words.{tally_in, seen_in}
use Rattle.tree_words.specs.Blocks.{LinkedBlock, has_node, In, InOrder, is_node, link_of}
use Rattle.tree_words.specs.Complete.{AreComplete, Linked}
use Rattle.tree_words.specs.Walks.{Tree, node, Children}
use Rattle.tree_words.specs.Trees.{oldest_first, down, row_of, tree_leaf, tree_inner, tree_at}
use Rattle.tree_words.specs.Trees.{tree_of}
use Rattle.tree_words.specs.Descents.{Names}
use Rattle.tree_words.specs.Told.{told_block, Knows, AreAmong}
use Rattle.tree_words.proofs.Walks.Down.{child-has, row-same}
use Rattle.tree_words.proofs.Blocks.BlockLaws.{root_node}
use Rattle.tree_words.proofs.Blocks.GameLaws.{IsWhole, in-node, in-parent, whole-in}
use Rattle.tree_words.proofs.Blocks.Links.{down-link, down-bare}
use Rattle.tree_words.proofs.Blocks.Members.{in-turned, names-in}
use Rattle.tree_words.proofs.Blocks.NodeLaws.{node-lies}
use Rattle.tree_words.proofs.Blocks.Orders.{rooted-turned, link-bare, link-names}
use Rattle.tree_words.proofs.Blocks.Within.{within-node, whole-told, told-real}

in-above : (r : ℕ) (bs : List LinkedBlock) (b : LinkedBlock) → InOrder r bs → In b bs
    → b.parent < b.start
in-above r [] b g i = absurd i
in-above r (c ∷ bs) b g i = ⊎_elim
    (λ (e : b ≡ c). subst (λ (d : LinkedBlock). d.parent < d.start) (sym e) g.0.above)
    (λ (j : In b bs). in-above r bs b g.1 j) i

-- the link of a block's parent names the block
link-in : (r : ℕ) (bs : List LinkedBlock) (b : LinkedBlock) → InOrder r bs → In b bs
    → link_of bs b.parent ≡ b.start
link-in r [] b g i = absurd i
link-in r (c ∷ bs) b g i = ⊎_elim
    (λ (e : b ≡ c).
    ap (λ (u : Bool). cond u c.start (link_of bs b.parent))
    (eq-eqb c.parent b.parent (ap (λ (d : LinkedBlock). d.parent) (sym e)))
    ∙ ap (λ (d : LinkedBlock). d.start) (sym e))
    (λ (j : In b bs).
    let h : link_of bs b.parent ≡ b.start = link-in r bs b g.1 j in
    let low = in-above r bs b g.1 j in
    let other : (c.parent == b.parent) ≡ false
    = ne_eqb c.parent b.parent
    (λ z. let none : link_of bs b.parent ≡ 0 = ap (link_of bs) (sym z) ∙ g.0.vacant in omega (arith, h, none, low)) in
    ap (λ (u : Bool). cond u c.start (link_of bs b.parent)) other ∙ h)
    i

-- blocks in order, each named by its parent's link, are known if the words link some blocks
among : (s : Setting) (words : List ℕ) (next : ℕ) (bs cs : List LinkedBlock) → s.board.size ≤ 11
    → InOrder (root_at s) bs → AreComplete s next bs → Linked s words cs
    → ((b : LinkedBlock) → In b bs → link_in words b.parent ≡ b.start) → Knows (root_at s) cs bs
among s words next [] cs small g c lk links = tt
among s words next (b ∷ bs) cs small g c lk links =
    let rest : Knows (root_at s) cs bs
    = among s words next bs cs small g.1 c.1 lk (λ d i. links d (inr i)) in
    let above = g.0.above in
    let whole : IsWhole s next bs b
    = record { claimed = c.0.claimed; inside = c.0.inside; empties = c.0.empties; cells = c.0.cells; above = above } in
    let is : b ≡ told_block s bs b.parent b.start = whole-told s bs bs b next small whole refl in
    let t : In (told_block s bs b.parent b.start) cs
    = told-real s words cs bs b.parent b.start lk rest g.0.parent small (links b (inl refl))
    (omega arith) in
    (subst (λ (d : LinkedBlock). In d cs) (sym is) t, g.0.parent, rest)

pub knows-in : (r : ℕ) (cs ks : List LinkedBlock) (b : LinkedBlock) → Knows r cs ks
    → In b ks → In b cs
knows-in r cs [] b k i = absurd i
knows-in r cs (d ∷ ks) b k i
    = ⊎_elim (λ (e : b ≡ d). subst (λ (z : LinkedBlock). In z cs) (sym e) k.0)
    (λ (j : In b ks). knows-in r cs ks b k.2 j) i

pub one-knows : (s : Setting) (words : List ℕ) (bs cs : List LinkedBlock) → s.board.size ≤ 11
    → Linked s words bs → Linked s words cs → Knows (root_at s) cs bs
one-knows s words bs cs small h k =
    let r : ℕ = root_at s in
    among s words (next_in words) bs cs small h.order h.complete k
    (λ b i. h.shows.links b.parent (in-parent r bs b h.order i) ∙ link-in r bs b h.order i)

-- each block of one is in the other
pub one-blocks : (s : Setting) (words : List ℕ) (bs cs : List LinkedBlock) → s.board.size ≤ 11
    → Linked s words bs → Linked s words cs → AreAmong bs cs
one-blocks s words bs cs small h k b i
    = knows-in (root_at s) cs bs b (one-knows s words bs cs small h k) i

-- what is below x goes by the block that has it as its parent
pub tree-link : (p q : ℕ → Count) (r : ℕ) (bs : List LinkedBlock) (x : ℕ) (b : LinkedBlock)
    → InOrder r bs → Names (oldest_first bs) x b
    → down (tree_leaf p) (tree_inner p q) (oldest_first bs) x ≡ tree_inner p q b x
    (down (tree_leaf p) (tree_inner p q) (oldest_first bs))
tree-link p q r bs x b g n = down-link (tree_leaf p) (tree_inner p q) (oldest_first bs) x b
    (rooted-turned r bs g) n
    (λ f h e. ap (λ (z : Children). λ (c : ℕ) (v : Count). node c (p x) v z)
    (row-same (λ y d. f y d (q y)) (λ y d. h y d (q y)) (b.start + 4) b.cells
    (λ k y l is. ap (λ (t : ℕ → Count → Tree). t (get_or b.cells k 0) (q y)) (e y (ap (has_node b) is ∙ child-has b k l)))))

module _ (s : Setting) (words : List ℕ) (bs cs : List LinkedBlock) (small : s.board.size ≤ 11)
    (h : Linked s words bs) (k : Linked s words cs) (p q : ℕ → Count) where
  -- a block of one that has a parent, told by the other
  same-block : (b : LinkedBlock) (x : ℕ) → In b cs → b.parent ≡ x → b.start ≡ link_in words x
      → b ≡ told_block s cs x (link_in words x)
  same-block b x i e f =
      whole-told s cs cs b (next_in words) small
      (whole-in s (next_in words) cs b k.order k.complete i) refl
      ∙ (λ j. told_block s cs (e j) (f j))

  one-below : (n x c : ℕ) (v : Count) → end_of s ≤ x + n → is_node (root_at s) bs x ≡ true
      → tree_at p q (oldest_first bs) x c v ≡ tree_at p q (oldest_first cs) x c v
  one-below zero x c v l m = ⊎_elim (λ (e : x ≡ root_at s). absurd (omega (arith, e, l)))
      (λ (t : (area_at s ≤ x) × (x + 4 ≤ next_in words) × (x + 4 ≤ end_of s)). absurd (omega (arith, t.2, l))) (node-lies s (next_in words) bs x h.complete m)
  one-below (suc n) x c v l m =
      let r : ℕ = root_at s in
      let m' : is_node r cs x ≡ true
      = within-node r cs bs x (one-knows s words bs cs small h k) m in
      let link : link_in words x ≡ link_of bs x = h.shows.links x m in
      let link' : link_in words x ≡ link_of cs x = k.shows.links x m' in
      ⊎_elim
      (λ (e : link_in words x ≡ 0).
      let bare = down-bare (tree_leaf p) (tree_inner p q) (oldest_first bs) x
      (link-bare r bs x h.order (sym link ∙ e)) in
      let bare' = down-bare (tree_leaf p) (tree_inner p q) (oldest_first cs) x
      (link-bare r cs x k.order (sym link' ∙ e)) in
      ap (λ (f : ℕ → Count → Tree). f c v) (bare ∙ sym bare'))
      (λ (e : link_in words x ≡ 0 → ⊥).
      let t = link-names r bs x h.order (omega (arith, link, e)) in
      let t' = link-names r cs x k.order (omega (arith, link', e)) in
      let b : LinkedBlock = t.0 in
      let at = names-in (oldest_first bs) x b t.1 in
      let at' = names-in (oldest_first cs) x t'.0 t'.1 in
      let inside : In b bs = in-turned b bs at.0 in
      let is : t'.0 ≡ b
      = same-block t'.0 x (in-turned t'.0 cs at'.0) at'.1 (t'.2 ∙ sym link')
      ∙ sym (same-block b x (one-blocks s words bs cs small h k b inside) at.1 (t.2 ∙ sym link)) in
      let names' : Names (oldest_first cs) x b = subst (Names (oldest_first cs) x) is t'.1 in
      let above = in-above r bs b h.order inside in
      let rows : row_of (λ y d. tree_at p q (oldest_first bs) y d (q y))
      (b.start + 4) b.cells ≡ row_of (λ y d. tree_at p q (oldest_first cs) y d (q y))
      (b.start + 4) b.cells
      = row-same (λ y d. tree_at p q (oldest_first bs) y d (q y))
      (λ y d. tree_at p q (oldest_first cs) y d (q y)) (b.start + 4) b.cells
      (λ i y li iy. one-below n y (get_or b.cells i 0) (q y) (omega (arith, l, iy, above, at.1)) (in-node r bs b y inside (ap (has_node b) iy
      ∙ child-has b i li))) in
      ap (λ (f : ℕ → Count → Tree). f c v) (tree-link p q r bs x b h.order t.1)
      ∙ ap (node c (p x) v) rows
      ∙ sym (ap (λ (f : ℕ → Count → Tree). f c v) (tree-link p q r cs x b k.order names')))
      (cases_eq (link_in words x) 0)

-- the words show one tree
pub one-tree : (s : Setting) (words : List ℕ) (bs cs : List LinkedBlock) → s.board.size ≤ 11
    → Linked s words bs → Linked s words cs → tree_of s bs words ≡ tree_of s cs words
one-tree s words bs cs small h k =
    let r : ℕ = root_at s in
    one-below s words bs cs small h k (tally_in words) (seen_in words) (end_of s) r
    (cell_in (slice_index words r)) (seen_in words r) (omega arith) (root_node r bs)
