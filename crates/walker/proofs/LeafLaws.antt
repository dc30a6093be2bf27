-- A walk that stands at its leaf may begin its adds.
use Rattle.std.proofs.Common.{◌≡◌, ◌≢◌, ◌⊎◌, ℕ, ◌<◌, Bool, true, false, cond, List, [], ◌∷◌, Option}
use Rattle.std.proofs.Common.{None, refl, sym, ap, ◌∙◌, subst, ⊎_elim}
use Rattle.std.specs.Prelude.{◌==◌, ◌||◌}
use Rattle.std.specs.List.{list_any}
use Rattle.std.proofs.lemmas.Bool.{or_cases, eqb-true, eq-eqb, ne_eqb}
use Rattle.play_out.specs.Fills.{empties_of}
use Rattle.play_out.specs.declared.playouts.Ending.{Ending}
use Rattle.tree_words.specs.Settings.{Setting}
use Rattle.tree_words.specs.Words.{root_at}
use Rattle.tree_words.specs.Blocks.{LinkedBlock, In, InOrder, has_node}
use Rattle.tree_words.specs.Paths.{NodeState, path_of, is_on, node_state, node_board}
use Rattle.tree_words.specs.Complete.{set_of, allowed_cells, cells_below}
use Rattle.tree_words.specs.Writing.{listed}
use Rattle.tree_words.specs.Sequence.{outcome_of}
use Rattle.tree_words.proofs.Blocks.GameLaws.{up-in}
use Rattle.tree_words.proofs.Boards.EmptyLaws.{up-root, empties-listed}
use Rattle.tree_words.proofs.Boards.SetNumbers.{set_empties}
use Rattle.tree_words.proofs.NewBlocks.Openings.{allowed-listed}
use Rattle.tree_words.proofs.Walks.Asking.{spot-size}
use Rattle.tree_words.proofs.Walks.Countings.{has-one}
use Rattle.arena_rule.specs.Views.{SeatView, Flight}
use Rattle.arena_rule.specs.Adds.{adds_up, walk_adds}
use Rattle.arena_rule.specs.Lookups.{empties_at, tally_loaded}
use Rattle.arena_rule.specs.Fits.{IsChosen, MayBegin}
use Rattle.arena_rule.specs.IsView.{AreTold, IsView}
use Rattle.walker.specs.declared.ways.Level.{Level}
use Rattle.walker.specs.declared.machine.Walker.{Walker}
use Rattle.walker.specs.Machine.{state_in, set_below, cells_in, at_leaf}
use Rattle.walker.specs.Belongs.{Belongs, OnWay, Down, Leaves, AtTally, IsBare}
use Rattle.walker.proofs.KnownLaws.{node-not-root}

-- each node of a way's path was chosen
module _ (v : SeatView) (g : InOrder (root_at v.shape) v.known) (t : AreTold v.shape v.known)
    (c : LinkedBlock) (y : ℕ) (i : In c v.known) (h : has_node c y ≡ true) where
  path-in : (b : LinkedBlock) (x : ℕ) → In b v.known → has_node b x ≡ true
      → path_of v.shape v.known x ≡ x ∷ path_of v.shape v.known b.parent
  path-in b x j k = up-in (root_at v.shape ∷ []) (λ d z rest. z ∷ rest)
      (root_at v.shape) v.known b x g j k

  path-root : path_of v.shape v.known (root_at v.shape) ≡ root_at v.shape ∷ []
  path-root = up-root (root_at v.shape ∷ []) (λ d z rest. z ∷ rest) (root_at v.shape) v.known g

  pub way-chosen : (way : List Level) (x : ℕ) → OnWay v way x → is_on v.shape v.known y x ≡ true
      → IsChosen v c y
  way-chosen [] x e on =
      let path : path_of v.shape v.known x ≡ root_at v.shape ∷ [] = ap (path_of v.shape v.known) e
      ∙ path-root in
      let here : (root_at v.shape == y || false) ≡ true
      = sym (ap (list_any (λ z. z == y)) path) ∙ on in
      absurd (node-not-root v.shape v.known c y g t i h (sym (eqb-true (root_at v.shape) y (first (root_at v.shape == y) here))))
    where
      first : (b : Bool) → (b || false) ≡ true → b ≡ true
      first true e = refl
      first false e = e
  way-chosen (l ∷ way) x e on =
      let b : LinkedBlock = e.0.block in
      let path : path_of v.shape v.known x ≡ x ∷ path_of v.shape v.known b.parent
      = path-in b x e.0.known e.0.node in
      let here : (x == y || is_on v.shape v.known y b.parent) ≡ true
      = sym (ap (list_any (λ z. z == y)) path) ∙ on in
      ⊎_elim
      (λ (q : (x == y) ≡ true).
      let is : x ≡ y = eqb-true x y q in
      let one : b ≡ c = has-one (root_at v.shape) v.known b c y g e.0.known i
      (ap (has_node b) (sym is) ∙ e.0.node) h in
      subst (λ (d : LinkedBlock). IsChosen v d y) one (subst (IsChosen v b) is e.0.chosen))
      (λ (q : is_on v.shape v.known y b.parent ≡ true). way-chosen way l.parent e.1 (ap (is_on v.shape v.known y) (sym e.0.parent) ∙ q))
      (or_cases (x == y) (is_on v.shape v.known y b.parent) here)

module _ (w : Walker) (v : SeatView) (shape : v.shape ≡ w.shape)
    (g : InOrder (root_at v.shape) v.known) (t : AreTold v.shape v.known) where
  -- the board has the setting's size
  pub size-is : Down w v → w.board.size ≡ w.shape.board.size
  size-is d = ap (λ (p : NodeState). p.board.size) d.is ∙ spot-size v.shape v.known w.node
      ∙ ap (λ (s : Setting). s.board.size) shape

  -- the cells of the block below the node
  pub cells-is : Down w v → cells_in w ≡ cells_below v.shape v.known w.node
  cells-is d = by w.way d.on_way
    where
      by : (way : List Level) → OnWay v way w.node
          → listed w.shape.board.size
          (set_below way w.shape w.board) ≡ cells_below v.shape v.known w.node
      by [] e =
          allowed-listed v.shape w.shape.board.size w.shape.allowed
          (ap (λ (s : Setting). s.board.size) (sym shape))
          (ap (λ (s : Setting). s.allowed) (sym shape))
          ∙ sym (ap (λ (q : Bool). cond q (allowed_cells v.shape) (empties_of (node_board v.shape v.known w.node))) (eq-eqb w.node (root_at v.shape) e))
      by (l ∷ way) e =
          ap (λ (n : ℕ). listed n (set_of (empties_of w.board))) (sym (size-is d))
          ∙ empties-listed (set_of (empties_of w.board)) w.board (set_empties w.board)
          ∙ ap (λ (p : NodeState). empties_of p.board) d.is
          ∙ sym (ap (λ (q : Bool). cond q (allowed_cells v.shape) (empties_of (node_board v.shape v.known w.node)))
          (ne_eqb w.node (root_at v.shape) (node-not-root v.shape v.known e.0.block w.node g t e.0.known e.0.node)))

  -- the adds of the walk are those from its leaf up
  adds-are : outcome_of w.shape w.number (state_in w) ≡ outcome_of v.shape w.number
      (node_state v.shape v.known w.node)
      → (adds_up v.shape (outcome_of w.shape w.number (state_in w)) v.known w.node).adds ≡ walk_adds v.shape v.known w.number w.node
  unfolding walk_adds
  adds-are e = ap (λ (o : Ending). (adds_up v.shape o v.known w.node).adds) e

  -- the node is the leaf
  pub leaf-stands : Down w v → v.held ≡ None → w.node ≢ root_at v.shape → IsBare v w.node
      → (((tally_loaded v w.node).visits < v.shape.knobs.expand) ⊎ ((empties_at v w.node ≡ 0) ⊎ (v.full ≡ true))) → AtTally (at_leaf w) v
  unfolding at_leaf
  leaf-stands d held ne bare ends =
      let ending : outcome_of w.shape w.number (state_in w) ≡ outcome_of v.shape w.number
      (node_state v.shape v.known w.node)
      = λ i. outcome_of (sym shape i) w.number (d.is i) in
      let may : MayBegin v w.node = record {
        known = d.known;
        below = ne;
        chosen = λ c y i h on. way-chosen v g t c y i h w.way w.node d.on_way on;
        ends = ends;
      } in
      let left : (adds_up v.shape (outcome_of w.shape w.number (state_in w)) v.known w.node).adds
      ≡ walk_adds v.shape v.known w.number w.node = adds-are ending in
      record {
        climbs = record {
          up = record { hand = record { ended = d.ended; ticket = d.ticket }; held = held; leaf = d.known; ending = ending };
          player = ap (λ (p : NodeState). p.player) d.is;
          way = d.on_way;
        };
        at = refl;
        left = subst (λ (o : Option Flight). Leaves (at_leaf w) v o (adds_up v.shape (outcome_of w.shape w.number (state_in w)) v.known w.node).adds)
            (sym d.adds) (may, refl, left, bare);
      }

-- and the view belongs to the walker there
pub leaf-belongs : (w : Walker) (v : SeatView) → v.shape ≡ w.shape → IsView v → v.width ≡ 1
    → v.full ≡ w.full → AtTally (at_leaf w) v → Belongs (at_leaf w) v
unfolding at_leaf
leaf-belongs w v s iv one f t = record { shape = s; view = iv; width = one; full = f; stands = t }
