-- What is gathered over the known blocks is what is gathered over all, and the told block is the
-- linked one.
use Rattle.std.proofs.Common.{◌≡◌, ℕ, ◌<◌, ◌≤◌, Bool, true, false, cond, List, [], ◌∷◌, ◌++◌, refl}
use Rattle.std.proofs.Common.{sym, ap, ◌∙◌, subst, ⊎_elim, inl, inr, arith}
use Rattle.std.specs.Prelude.{◌==◌}
use Rattle.hex_cells.proofs.Bits.{same_set}
use Rattle.hex_board.specs.Positions.{Position}
use Rattle.play_out.specs.Fills.{empties_of}
use Rattle.tree_words.specs.Settings.{Setting}
use Rattle.tree_words.specs.Words.{root_at, next_in, link_in}
use Rattle.tree_words.specs.Blocks.{LinkedBlock, has_node, up, In, InOrder, is_node, link_of, place}
use Rattle.tree_words.specs.Blocks.{cell_at}
use Rattle.tree_words.specs.Paths.{NodeState, root_state, state_after, node_state, node_board}
use Rattle.tree_words.specs.Complete.{Linked, cells_below, allowed_cells, set_of}
use Rattle.tree_words.specs.Told.{told_block, Knows}
use Rattle.std.proofs.lemmas.Bool.{eqb-true, cases_Bool, or_cases, or_left, or_right}
use Rattle.tree_words.proofs.Blocks.BlockLaws.{clash, root_node}
use Rattle.tree_words.proofs.Blocks.GameLaws.{IsWhole, in-node, up-in, whole-in}
use Rattle.tree_words.proofs.Boards.EmptyLaws.{up-root}
use Rattle.tree_words.proofs.Walks.Asking.{spot-size}
use Rattle.tree_words.proofs.Boards.SetNumbers.{set_empties}

module _ {A : Type 0} (root : A) (step : LinkedBlock → ℕ → A → A) where
  -- what is gathered over the known blocks is what is gathered over all
  pub within-up : (r : ℕ) (bs ks : List LinkedBlock) (x : ℕ) → InOrder r bs → Knows r bs ks
      → is_node r ks x ≡ true → up root step ks x ≡ up root step bs x
  within-up r bs [] x g k n = sym (ap (up root step bs) (eqb-true x r n) ∙ up-root root step r bs g)
  within-up r bs (c ∷ ks) x g k n = ⊎_elim
      (λ (h : has_node c x ≡ true).
      ap (λ (t : Bool). cond t (step c x (up root step ks c.parent)) (up root step ks x)) h
      ∙ ap (step c x) (within-up r bs ks c.parent g k.2 k.1)
      ∙ sym (up-in root step r bs c x g k.0 h))
      (λ (h : has_node c x ≡ false).
      ap (λ (t : Bool). cond t (step c x (up root step ks c.parent)) (up root step ks x)) h
      ∙ within-up r bs ks x g k.2
      (⊎_elim (λ (u : has_node c x ≡ true). absurd (clash (has_node c x) u h)) (λ (u : is_node r ks x
      ≡ true). u) (or_cases (has_node c x) (is_node r ks x) n)))
      (cases_Bool (has_node c x))

-- the board of a known node, and the player to move there
pub within-state : (s : Setting) (bs ks : List LinkedBlock) (x : ℕ) → InOrder (root_at s) bs
    → Knows (root_at s) bs ks → is_node (root_at s) ks x ≡ true
    → node_state s ks x ≡ node_state s bs x
within-state s bs ks x g k n
    = within-up (root_state s) (λ b y above. state_after above (cell_at b (place b y)))
    (root_at s) bs ks x g k n

-- a known node is a node
pub within-node : (r : ℕ) (bs ks : List LinkedBlock) (x : ℕ) → Knows r bs ks → is_node r ks x ≡ true
    → is_node r bs x ≡ true
within-node r bs [] x k n = subst (λ (y : ℕ). is_node r bs y ≡ true) (sym (eqb-true x r n))
    (root_node r bs)
within-node r bs (c ∷ ks) x k n = ⊎_elim
    (λ (h : has_node c x ≡ true). in-node r bs c x k.0 h)
    (λ (h : is_node r ks x ≡ true). within-node r bs ks x k.2 h)
    (or_cases (has_node c x) (is_node r ks x) n)

-- more blocks are linked
pub knows-more : (r : ℕ) (b : LinkedBlock) (bs ks : List LinkedBlock) → Knows r bs ks
    → Knows r (b ∷ bs) ks
knows-more r b bs [] k = tt
knows-more r b bs (c ∷ ks) k = (inr k.0, k.1, knows-more r b bs ks k.2)

pub node-first : (r : ℕ) (ks ls : List LinkedBlock) (x : ℕ) → is_node r ks x ≡ true
    → is_node r (ks ++ ls) x ≡ true
node-first r [] ls x n = subst (λ (y : ℕ). is_node r ls y ≡ true) (sym (eqb-true x r n))
    (root_node r ls)
node-first r (k ∷ ks) ls x n = ⊎_elim
    (λ (h : has_node k x ≡ true). or_left (has_node k x) (is_node r (ks ++ ls) x) h)
    (λ (h : is_node r ks x ≡ true). or_right (has_node k x) (is_node r (ks ++ ls) x) (node-first r ks ls x h))
    (or_cases (has_node k x) (is_node r ks x) n)

-- what two know, together
pub knows-both : (r : ℕ) (bs ks ls : List LinkedBlock) → Knows r bs ks → Knows r bs ls
    → Knows r bs (ks ++ ls)
knows-both r bs [] ls k l = l
knows-both r bs (c ∷ ks) ls k l
    = (k.0, node-first r ks ls c.parent k.1, knows-both r bs ks ls k.2 l)

-- the block that a link names
link-block : (bs : List LinkedBlock) (x b : ℕ) → link_of bs x ≡ b → 0 < b
    → (c : LinkedBlock) × In c bs × (c.parent ≡ x) × (c.start ≡ b)
link-block [] x b e l = absurd (omega arith)
link-block (d ∷ bs) x b e l = ⊎_elim
    (λ (t : (d.parent == x) ≡ true). (d, inl refl, eqb-true d.parent x t, sym (ap (λ (u : Bool). cond u d.start (link_of bs x)) t) ∙ e))
    (λ (t : (d.parent == x) ≡ false). let q = link-block bs x b (sym (ap (λ (u : Bool). cond u d.start (link_of bs x)) t) ∙ e) l in (q.0, inr q.1, q.2, q.3))
    (cases_Bool (d.parent == x))

-- a complete block is the one that its first word and its parent's board tell
pub whole-told : (s : Setting) (bs ks : List LinkedBlock) (c : LinkedBlock) (next : ℕ)
    → s.board.size ≤ 11 → IsWhole s next bs c → node_state s ks c.parent ≡ node_state s bs c.parent
    → c ≡ told_block s ks c.parent c.start
whole-told s bs ks c next small w same =
    let board : node_board s ks c.parent ≡ node_board s bs c.parent
    = ap (λ (p : NodeState). p.board) same in
    let few : (node_board s bs c.parent).size ≤ 11
    = omega (arith, small, spot-size s bs c.parent) in
    let cells : c.cells ≡ cells_below s ks c.parent = w.cells
    ∙ sym (λ i. cond (c.parent == root_at s) (allowed_cells s) (empties_of (board i))) in
    let all : c.empties ≡ set_of (empties_of (node_board s bs c.parent))
    = same_set c.empties (set_of (empties_of (node_board s bs c.parent)))
    (λ k. w.empties.items k ∙ sym (set_empties (node_board s bs c.parent) k)) in
    let empties : c.empties ≡ set_of (empties_of (node_board s ks c.parent)) = all
    ∙ sym (ap (λ (p : Position). set_of (empties_of p)) board) in
    λ i. record { start = c.start; parent = c.parent; empties = empties i; cells = cells i }

-- a link that is not 0 names the block that is told
pub told-real : (s : Setting) (words : List ℕ) (bs ks : List LinkedBlock) (x b : ℕ)
    → Linked s words bs → Knows (root_at s) bs ks → is_node (root_at s) ks x ≡ true
    → s.board.size ≤ 11 → link_in words x ≡ b → 0 < b → In (told_block s ks x b) bs
told-real s words bs ks x b lk kn n small e l =
    let m : is_node (root_at s) bs x ≡ true = within-node (root_at s) bs ks x kn n in
    let q = link-block bs x b (sym (lk.shows.links x m) ∙ e) l in
    let c : LinkedBlock = q.0 in
    let same : node_state s ks c.parent ≡ node_state s bs c.parent
    = ap (node_state s ks) q.2 ∙ within-state s bs ks x lk.order kn n
    ∙ sym (ap (node_state s bs) q.2) in
    let is : c ≡ told_block s ks c.parent c.start
    = whole-told s bs ks c (next_in words) small
    (whole-in s (next_in words) bs c lk.order lk.complete q.1) same in
    let at : told_block s ks c.parent c.start ≡ told_block s ks x b
    = λ i. told_block s ks (q.2 i) (q.3 i) in
    subst (λ (d : LinkedBlock). In d bs) (is ∙ at) q.1
