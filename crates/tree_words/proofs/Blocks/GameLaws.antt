-- The search of Hex, and what is gathered from a node up.
use Rattle.std.proofs.Common.{◌≡◌, ℕ, ◌+◌, ◌<◌, ◌≤◌, Bool, true, false, cond, List, [], ◌∷◌, length}
use Rattle.std.proofs.Common.{map, sym, ap, ◌∙◌, subst, ⊎_elim, arith}
use Rattle.std.specs.Prelude.{◌==◌}
use Rattle.std.proofs.lemmas.List.{length-map}
use Rattle.uct_table.specs.Choice.{Child, choice_of}
use Rattle.uct_table.proofs.ChoiceLaws.{choice_of-lt}
use Rattle.tree_words.specs.Settings.{Setting}
use Rattle.tree_words.specs.Words.{Count, root_at, area_at, end_of}
use Rattle.tree_words.specs.Blocks.{LinkedBlock, size, has_node, place, cell_at, up, is_node, In}
use Rattle.tree_words.specs.Blocks.{Follows, InOrder}
use Rattle.tree_words.specs.Paths.{NodeState, root_state, state_after, node_state, node_board}
use Rattle.tree_words.specs.Complete.{HasEmpties, AreComplete, cells_below, allowed_cells}
use Rattle.play_out.specs.Fills.{empties_of}
use Rattle.tree_words.specs.Sequence.{child_of, chosen_of, asks, next_after, size_below}
use Rattle.tree_words.specs.Sequence.{search_game}
use Rattle.tree_words.proofs.Blocks.BlockLaws.{apart, up_same}
use Rattle.tree_words.proofs.Walks.Down.{Fair}
use Rattle.std.proofs.lemmas.Bool.{or_left, or_right}

choice_below : (p c : ℕ) (xs : List Child) → 0 < length xs → choice_of p c xs < length xs
choice_below p c [] l = absurd (omega arith)
choice_below p c (x ∷ xs) l = choice_of-lt p c x xs

chosen_below : (s : Setting) (v : Count) (l : List (Count × Count)) → 0 < length l
    → chosen_of s v l < length l
unfolding chosen_of
chosen_below s v l h =
    let len : length (map child_of l) ≡ length l = length-map l child_of in
    omega (arith, len, choice_below v.visits s.knobs.weight (map child_of l) (omega (arith, len, h)))

grows_by : (t : Bool) (n m : ℕ) → n ≤ cond t (n + m) n
grows_by true n m = omega arith
grows_by false n m = omega arith

next_grows : (s : Setting) (n : ℕ) (v : Count) (p : NodeState) → n ≤ next_after s n v p
unfolding next_after
next_grows s n v p = grows_by (asks s n v p) n (size_below p)

pub fair_game : (s : Setting) → Fair (search_game s)
fair_game s = record { chosen = chosen_below s; grows = next_grows s }

-- a block's nodes are nodes of the tree, and so is its parent
pub in-node : (r : ℕ) (bs : List LinkedBlock) (b : LinkedBlock) (x : ℕ) → In b bs
    → has_node b x ≡ true → is_node r bs x ≡ true
in-node r [] b x i h = absurd i
in-node r (c ∷ bs) b x i h = ⊎_elim
    (λ (e : b ≡ c). or_left (has_node c x) (is_node r bs x) (ap (λ (d : LinkedBlock). has_node d x) (sym e) ∙ h))
    (λ (j : In b bs). or_right (has_node c x) (is_node r bs x) (in-node r bs b x j h)) i

pub in-parent : (r : ℕ) (bs : List LinkedBlock) (b : LinkedBlock) → InOrder r bs → In b bs
    → is_node r bs b.parent ≡ true
in-parent r [] b g i = absurd i
in-parent r (c ∷ bs) b g i = ⊎_elim
    (λ (e : b ≡ c). or_right (has_node c b.parent) (is_node r bs b.parent) (ap (λ (d : LinkedBlock). is_node r bs d.parent) e ∙ g.0.parent))
    (λ (j : In b bs). or_right (has_node c b.parent) (is_node r bs b.parent) (in-parent r bs b g.1 j)) i

module _ {A : Type 0} (root : A) (step : LinkedBlock → ℕ → A → A) where
  -- what is gathered at a node comes from its block's parent
  pub up-in : (r : ℕ) (bs : List LinkedBlock) (b : LinkedBlock) (x : ℕ) → InOrder r bs → In b bs
      → has_node b x ≡ true → up root step bs x ≡ step b x (up root step bs b.parent)
  up-in r [] b x g i h = absurd i
  up-in r (c ∷ bs) b x g i h = ⊎_elim
      (λ (e : b ≡ c).
      let hc : has_node c x ≡ true = ap (λ (d : LinkedBlock). has_node d x) (sym e) ∙ h in
      let out : has_node c c.parent ≡ false = apart r c bs c.parent g.0 g.0.parent in
      ap (λ (t : Bool). cond t (step c x (up root step bs c.parent)) (up root step bs x)) hc
      ∙ (ap (step c x) (sym (up_same root step c bs c.parent out))
      ∙ ap (λ (d : LinkedBlock). step d x (up root step (c ∷ bs) d.parent)) (sym e)))
      (λ (j : In b bs).
      up_same root step c bs x (apart r c bs x g.0 (in-node r bs b x j h))
      ∙ (up-in r bs b x g.1 j h
      ∙ ap (step b x)
      (sym (up_same root step c bs b.parent (apart r c bs b.parent g.0 (in-parent r bs b g.1 j))))))
      i

-- a newer block changes no spot of an older node
pub spot-same : (s : Setting) (c : LinkedBlock) (bs : List LinkedBlock) (x : ℕ)
    → Follows (root_at s) c bs → is_node (root_at s) bs x ≡ true
    → node_state s (c ∷ bs) x ≡ node_state s bs x
spot-same s c bs x f n
    = up_same (root_state s) (λ b y above. state_after above (cell_at b (place b y))) c bs x
    (apart (root_at s) c bs x f n)

-- a linked block, told by all blocks
pub record IsWhole (s : Setting) (next : ℕ) (bs : List LinkedBlock) (b : LinkedBlock) : Type 0 where
  pub claimed : b.start + size b ≤ next
  pub inside : (area_at s ≤ b.start) × (b.start + size b ≤ end_of s)
  pub empties : HasEmpties b.empties (node_board s bs b.parent)
  pub cells : b.cells ≡ cells_below s bs b.parent
  pub above : b.parent < b.start

pub whole-in : (s : Setting) (next : ℕ) (bs : List LinkedBlock) (b : LinkedBlock)
    → InOrder (root_at s) bs → AreComplete s next bs → In b bs → IsWhole s next bs b
whole-in s next [] b g c i = absurd i
whole-in s next (d ∷ bs) b g c i =
    let r : ℕ = root_at s in
    ⊎_elim
    (λ (e : b ≡ d).
    let same : node_state s bs d.parent ≡ node_state s (d ∷ bs) d.parent
    = sym (spot-same s d bs d.parent g.0 g.0.parent) in
    let w : IsWhole s next (d ∷ bs) d = record {
      claimed = c.0.claimed;
      inside = c.0.inside;
      empties = subst (λ (p : NodeState). HasEmpties d.empties p.board) same c.0.empties;
      cells = c.0.cells ∙ below s bs (d ∷ bs) d.parent same;
      above = g.0.above;
    } in
    subst (IsWhole s next (d ∷ bs)) (sym e) w)
    (λ (j : In b bs).
    let w = whole-in s next bs b g.1 c.1 j in
    let same : node_state s bs b.parent ≡ node_state s (d ∷ bs) b.parent
    = sym (spot-same s d bs b.parent g.0 (in-parent r bs b g.1 j)) in
    let w' : IsWhole s next (d ∷ bs) b = record {
      claimed = w.claimed;
      inside = w.inside;
      empties = subst (λ (p : NodeState). HasEmpties b.empties p.board) same w.empties;
      cells = w.cells ∙ below s bs (d ∷ bs) b.parent same;
      above = w.above;
    } in w')
    i
  where
    below : (s : Setting) (bs cs : List LinkedBlock) (x : ℕ) → node_state s bs x ≡ node_state s cs x
        → cells_below s bs x ≡ cells_below s cs x
    below s bs cs x e
        = ap (λ (p : NodeState). cond (x == root_at s) (allowed_cells s) (empties_of p.board)) e
