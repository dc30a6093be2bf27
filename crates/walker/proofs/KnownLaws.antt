-- What stands in order among known blocks.
use Rattle.std.proofs.Common.{◌≡◌, ◌≢◌, ℕ, ◌+◌, ◌<◌, ◌≤◌, Bool, true, false, cond, List, [], ◌∷◌}
use Rattle.std.proofs.Common.{refl, sym, ap, ◌∙◌, subst, arith, ⊎_elim, inl, inr}
use Rattle.std.specs.Prelude.{◌==◌}
use Rattle.std.proofs.lemmas.Bool.{or_cases, eqb-true}
use Rattle.play_out.specs.Fills.{empties_of}
use Rattle.tree_words.specs.Settings.{Setting}
use Rattle.tree_words.specs.Words.{root_at, area_at, end_of}
use Rattle.tree_words.specs.Blocks.{LinkedBlock, In, InOrder, Follows, has_node, is_node, link_of}
use Rattle.tree_words.specs.Blocks.{size}
use Rattle.tree_words.specs.Paths.{NodeState}
use Rattle.tree_words.specs.Complete.{allowed_cells, cells_below}
use Rattle.tree_words.proofs.Blocks.BlockLaws.{covers_of, has-covers, has-at}
use Rattle.tree_words.proofs.Blocks.GameLaws.{in-parent, spot-same}
use Rattle.arena_rule.specs.Views.{SeatView}
use Rattle.arena_rule.specs.IsView.{AreTold, IsJoined, IsView}

-- the known blocks of one worker's view stand in order
pub one-order : (v : SeatView) → IsView v → v.width ≡ 1 → InOrder (root_at v.shape) v.known
one-order v iv one = ⊎_elim (λ (j : IsJoined v). absurd (let m = j.more in omega (arith, m, one)))
    (λ (o : InOrder (root_at v.shape) v.known). o) iv.order

-- a known block lies behind its parent and behind the root, and inside the area
pub record LiesIn (s : Setting) (c : LinkedBlock) : Type 0 where
  pub above : c.parent < c.start
  pub root : root_at s + 4 ≤ c.start
  pub inside : (area_at s ≤ c.start) × (c.start + size c ≤ end_of s)

pub known-lies : (s : Setting) (bs : List LinkedBlock) (c : LinkedBlock) → InOrder (root_at s) bs
    → AreTold s bs → In c bs → LiesIn s c
known-lies s [] c o t i = absurd i
known-lies s (b ∷ bs) c o t i = ⊎_elim
    (λ (e : c ≡ b). subst (LiesIn s) (sym e) (record { above = o.0.above; root = o.0.root; inside = t.0.inside }))
    (λ (j : In c bs). known-lies s bs c o.1 t.1 j) i

-- a node lies inside the words
pub node-inside : (s : Setting) (bs : List LinkedBlock) (x : ℕ) → AreTold s bs
    → is_node (root_at s) bs x ≡ true → x + 4 ≤ end_of s
node-inside s [] x t n = let e = eqb-true x (root_at s) n in omega (arith, e)
node-inside s (b ∷ bs) x t n = ⊎_elim
    (λ (h : has_node b x ≡ true). let q = covers_of (x + 3) b (has-covers b x 3 h (omega arith)) in let m = t.0.inside.1 in omega (arith, q.1, m))
    (λ (h : is_node (root_at s) bs x ≡ true). node-inside s bs x t.1 h)
    (or_cases (has_node b x) (is_node (root_at s) bs x) n)

-- a block's node is behind its first word, and is not the root
pub node-behind : (c : LinkedBlock) (x : ℕ) → has_node c x ≡ true → c.start + 4 ≤ x
node-behind c x h = let q = has-at c x h in omega (arith, q.2)

pub node-not-root : (s : Setting) (bs : List LinkedBlock) (c : LinkedBlock) (x : ℕ)
    → InOrder (root_at s) bs → AreTold s bs → In c bs → has_node c x ≡ true → x ≢ root_at s
node-not-root s bs c x o t i h e = let q = node-behind c x h in let l = known-lies s bs c o t i in
    omega (arith, q, l.root, e)

-- the cells of a known block are those below its parent
below-same : (s : Setting) (b : LinkedBlock) (bs : List LinkedBlock) (x : ℕ)
    → Follows (root_at s) b bs → is_node (root_at s) bs x ≡ true
    → cells_below s bs x ≡ cells_below s (b ∷ bs) x
below-same s b bs x f n
    = ap (λ (p : NodeState). cond (x == root_at s) (allowed_cells s) (empties_of p.board))
    (sym (spot-same s b bs x f n))

pub known-cells : (s : Setting) (bs : List LinkedBlock) (c : LinkedBlock) → InOrder (root_at s) bs
    → AreTold s bs → In c bs → c.cells ≡ cells_below s bs c.parent
known-cells s [] c o t i = absurd i
known-cells s (b ∷ bs) c o t i = ⊎_elim
    (λ (e : c ≡ b). subst (λ (d : LinkedBlock). d.cells ≡ cells_below s (b ∷ bs) d.parent) (sym e)
    (ap (λ (d : LinkedBlock). d.cells) t.0.told ∙ below-same s b bs b.parent o.0 t.0.parent))
    (λ (j : In c bs). known-cells s bs c o.1 t.1 j ∙ below-same s b bs c.parent o.0 (in-parent (root_at s) bs c o.1 j)) i

-- a link that is not 0 names a known block
link-here : (b : LinkedBlock) (bs : List LinkedBlock) (x : ℕ)
    → (0 < link_of bs x → (c : LinkedBlock) × In c bs × (c.parent ≡ x) × (c.start ≡ link_of bs x))
    → (t : Bool) → (b.parent == x) ≡ t → 0 < cond t b.start (link_of bs x)
    → (c : LinkedBlock) × In c (b ∷ bs) × (c.parent ≡ x) × (c.start ≡ cond t b.start (link_of bs x))
link-here b bs x rest true e l = (b, inl refl, eqb-true b.parent x e, refl)
link-here b bs x rest false e l = let q = rest l in (q.0, inr q.1, q.2, q.3)

pub link-block : (bs : List LinkedBlock) (x : ℕ) → 0 < link_of bs x → (c : LinkedBlock) × In c bs
    × (c.parent ≡ x) × (c.start ≡ link_of bs x)
link-block [] x l = absurd (omega arith)
link-block (b ∷ bs) x l = link-here b bs x (link-block bs x) (b.parent == x) refl l
