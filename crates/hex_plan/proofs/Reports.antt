-- The root's rows in a closed tree's words are those of its tree.
use Rattle.std.proofs.Common.{◌≡◌, ℕ, suc, ◌+◌, ◌*◌, ◌<◌, Bool, true, cond, List, [], ◌∷◌, length}
use Rattle.std.proofs.Common.{get_or, map, refl, sym, ap, ◌∙◌, arith}
use Rattle.std.specs.Prelude.{◌==◌}
use Rattle.std.specs.List.{range_with_len}
use Rattle.tree_words.specs.Settings.{Setting, IsSetting}
use Rattle.tree_words.specs.Words.{Count, root_at, next_in, tally_in, seen_in}
use Rattle.tree_words.specs.Blocks.{LinkedBlock, InOrder, link_of}
use Rattle.tree_words.specs.Complete.{allowed_cells}
use Rattle.tree_words.specs.Closing.{IsClosed}
use Rattle.tree_words.specs.Records.{leaf_of}
use Rattle.tree_words.specs.Walks.{Tree}
use Rattle.tree_words.specs.Trees.{IsTreeOf, oldest_first, row_of, tree_leaf, tree_inner, tree_at}
use Rattle.tree_words.specs.Descents.{Names}
use Rattle.tree_words.specs.declared.roots.Row.{Row}
use Rattle.tree_words.specs.Roots.{HasRoot, root_link, root_count, row_at, rows_of}
use Rattle.std.proofs.lemmas.Bool.{eq-eqb}
use Rattle.tree_words.proofs.Walks.Down.{down-split}
use Rattle.tree_words.proofs.Blocks.BlockLaws.{root_node}
use Rattle.tree_words.proofs.Blocks.Orders.{link-names}
use Rattle.tree_words.proofs.Boards.RootLaws.{has_root, root_of, complete_in}
use Rattle.hex_plan.specs.Reports.{row_in, rows_on, rows_in}
use Rattle.tree_words.proofs.Blocks.Members.{names-in, in-turned}
use Rattle.tree_words.proofs.Blocks.OneTree.{tree-link}

-- a row of a cell and the counts of a node
row : ℕ → Count → Row
row c v = record { cell = c; visits = v.visits; wins = v.wins }

-- the rows of the nodes of a block whose first node begins at a
rows_at : (ℕ → Count) → ℕ → List ℕ → List Row
rows_at p a [] = []
rows_at p a (c ∷ cs) = row c (p a) ∷ rows_at p (a + 4) cs

row-tree : (p q : ℕ → Count) (bs : List LinkedBlock) (x c : ℕ) (e : Count)
    → row_in (tree_at p q bs x c e) ≡ row c (p x)
unfolding row
row-tree p q [] x c e = refl
row-tree p q (b ∷ bs) x c e
    = down-split (tree_leaf p) (tree_inner p q)
    (λ (t : ℕ → Count → Tree). row_in (t c e) ≡ row c (p x)) b bs x (λ t. refl)
    (λ t. row-tree p q bs x c e)

rows-row : (p q : ℕ → Count) (bs : List LinkedBlock) (a : ℕ) (cs : List ℕ)
    → rows_on (row_of (λ y d. tree_at p q bs y d (q y)) a cs) ≡ rows_at p a cs
unfolding rows_at
rows-row p q bs a [] = refl
rows-row p q bs a (c ∷ cs) = λ i. row-tree p q bs a c (q a) i ∷ rows-row p q bs (a + 4) cs i

rows-down : (p q : ℕ → Count) (r : ℕ) (bs : List LinkedBlock) (b : LinkedBlock) (c : ℕ) (e : Count)
    → InOrder r bs → Names (oldest_first bs) r b
    → rows_in (tree_at p q (oldest_first bs) r c e) ≡ rows_at p (b.start + 4) b.cells
rows-down p q r bs b c e g n = ap (λ (t : ℕ → Count → Tree). rows_in (t c e))
    (tree-link p q r bs r b g n) ∙ rows-row p q (oldest_first bs) (b.start + 4) b.cells

-- rows by their places
rows-map : (p : ℕ → Count) (g : ℕ → Row) (a k : ℕ) (cs : List ℕ)
    → ((i j x : ℕ) → i < length cs → j ≡ k + i → x ≡ a + 4 * i → g j ≡ row (get_or cs i 0) (p x))
    → map g (range_with_len k (length cs)) ≡ rows_at p a cs
unfolding rows_at
rows-map p g a k [] h = refl
rows-map p g a k (c ∷ cs) h =
    let head : g k ≡ row c (p a) = h 0 k a (omega arith) (omega arith) (omega arith) in
    let tail : map g (range_with_len (k + 1) (length cs)) ≡ rows_at p (a + 4) cs
    = rows-map p g (a + 4) (k + 1) cs
    (λ i j x l e f. h (suc i) j x (omega arith) (omega arith) (omega arith)) in
    λ i. head i ∷ tail i

chosen : (t : Bool) (xs ys : List ℕ) → t ≡ true → cond t xs ys ≡ xs
chosen t xs ys e = ap (λ (u : Bool). cond u xs ys) e

-- some block is below the root
linked-root : (s : Setting) (words : List ℕ) → IsSetting s → IsClosed s words
    → 0 < root_link s words
linked-root s words h c =
    let r : ℕ = root_at s in
    let first = c.recorded 0 (omega (arith, h.ranges.playouts.0)) in
    let f = root_of r c.blocks (leaf_of words 0) c.linked.order first.node first.below in
    let k = complete_in s (next_in words) c.blocks f.0 c.linked.complete f.1 in
    let link : root_link s words ≡ f.0.start
    = c.linked.shows.links r (root_node r c.blocks) ∙ f.3 in
    omega (arith, link, k.1.inside.0)

row-is : (s : Setting) (words : List ℕ) (i c x : ℕ) → (row_at s words i).cell ≡ c
    → root_link s words + 4 + 4 * i ≡ x → row_at s words i ≡ row c (tally_in words x)
unfolding row
row-is s words i c x e f
    = λ j. record { cell = e j; visits = (tally_in words (f j)).visits; wins = (tally_in words (f j)).wins }

pub rows_of_tree : (s : Setting) (words : List ℕ) (t : Tree) → IsSetting s → IsClosed s words
    → IsTreeOf s words t → rows_of s words ≡ rows_in t
rows_of_tree s words t h c tree =
    let r : ℕ = root_at s in
    let bs : List LinkedBlock = tree.blocks in
    let link : root_link s words ≡ link_of bs r = tree.linked.shows.links r (root_node r bs) in
    let n = link-names r bs r tree.linked.order (omega (arith, link, linked-root s words h c)) in
    let b : LinkedBlock = n.0 in
    let at = names-in (oldest_first bs) r b n.1 in
    let k = complete_in s (next_in words) bs b tree.linked.complete (in-turned b bs at.0) in
    let cells : b.cells ≡ allowed_cells s = k.1.cells
    ∙ chosen (b.parent == r) _ _ (eq-eqb b.parent r at.1) in
    let root : HasRoot s words = has_root s words h c in
    let count : root_count s words ≡ length b.cells = root.count ∙ sym (ap length cells) in
    let each : (i j x : ℕ) → i < length b.cells → j ≡ 0 + i → x ≡ b.start + 4 + 4 * i
    → row_at s words j ≡ row (get_or b.cells i 0) (tally_in words x)
    = λ i j x l e f.
    let m : j ≡ i = omega arith in
    row-is s words j (get_or b.cells i 0) x
    (ap (λ k. (row_at s words k).cell) m ∙ root.cells i (omega (arith, l, count)) ∙ sym (ap (λ (l : List ℕ). get_or l i 0) cells))
    (omega (arith, link, n.2, m, f)) in
    ap (λ m. map (row_at s words) (range_with_len 0 m)) count
    ∙ rows-map (tally_in words) (row_at s words) (b.start + 4) 0 b.cells each
    ∙ sym (rows-down (tally_in words) (seen_in words) r bs b _ _ tree.linked.order n.1)
    ∙ ap rows_in tree.is
