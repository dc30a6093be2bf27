-- The way of a walk down to its leaf.
use Rattle.std.proofs.Common.{◌≡◌, ◌≢◌, ℕ, zero, suc, ◌+◌, ◌*◌, ◌≤◌, ◌<◌, Bool, true, false, List}
use Rattle.std.proofs.Common.{[], ◌∷◌, ◌++◌, length, take, set, length-set, get_or, slice_index}
use Rattle.std.proofs.Common.{refl, sym, ap, ◌∙◌, subst, ⊎_elim, append-nil, arith}
use Rattle.std.specs.Prelude.{◌==◌}
use Rattle.std.proofs.lemmas.Bool.Decides.{nat_tests}
use Rattle.std.proofs.lemmas.List.{take_more_set, append_assoc}
use Rattle.hex_cells.specs.Colours.{other_of}
use Rattle.hex_cells.specs.declared.colours.Colour.{Colour}
use Rattle.hex_board.specs.Positions.{Position, is_empty_at, placed}
use Rattle.uct_table.specs.Choice.{choice_of}
use Rattle.tree_words.specs.Settings.{Setting, IsSetting}
use Rattle.tree_words.specs.Words.{Count, root_at, link_in, cell_in, tally_in, seen_in}
use Rattle.tree_words.specs.Blocks.{LinkedBlock, one_if, block_size, child, has_node, place}
use Rattle.tree_words.specs.Blocks.{cell_at, is_node}
use Rattle.tree_words.specs.Paths.{NodeState, root_state, state_after, node_state, node_board}
use Rattle.tree_words.specs.Complete.{cells_below}
use Rattle.tree_words.specs.Counts.{count_below}
use Rattle.tree_words.specs.Trees.{oldest_first}
use Rattle.tree_words.specs.Sequence.{chosen_of, search_game, children_in}
use Rattle.tree_words.specs.Descents.{pick, leaf_inner, state_leaf, state_inner, steps_inner, Bare}
use Rattle.tree_words.proofs.Walks.Tallies.{count-most}
use Rattle.tree_words.proofs.Walks.Adds.{is_child}
use Rattle.std.proofs.lemmas.Bool.{eqb-true, cases_Bool, false_from_ne_true}
use Rattle.tree_words.proofs.Blocks.BlockLaws.{clash, root_node}
use Rattle.tree_words.proofs.Walks.Down.{child-has, pick-in}
use Rattle.tree_words.proofs.Blocks.GameLaws.{up-in, in-node, fair_game}
use Rattle.tree_words.proofs.Blocks.Links.{down-bare, leaf-link, state-link, steps-link}
use Rattle.tree_words.proofs.Blocks.Orders.{rooted-turned, link-bare}
use Rattle.tree_words.specs.Walks.{AtMost}
use Rattle.seq_search.specs.Steps.{Holds}
use Rattle.uct_table.specs.declared.scoring.TheConstants.{MOST_COUNT}
use Rattle.seq_search.specs.Choosing.{CanBeScored}
use Rattle.seq_search.specs.declared.descending.Descent.{Descent}
use Rattle.seq_search.specs.Descending.{spot_in, nodes_down, left_on, HasRoom, leaf_below}
use Rattle.seq_search.specs.Descending.{state_below, steps_below, Underway, Descended}
use Rattle.seq_search.proofs.LinkLaws.{IsBelow, below, node-fits, child-move, child-counts}
use Rattle.hex_cells.proofs.Tables.{square_small}
use Rattle.hex_board.proofs.Placed.{empty_on, placed_empty, placed_size}
use Rattle.tree_words.proofs.Boards.EmptyLaws.{below-empty, cell-of-move, up-root}
use Rattle.tree_words.proofs.Walks.ChildLaws.{pairs-children}

-- how a call of the way down is told that the words are those of a search
abbrev pub Searched : Setting → List ℕ → Type 0
Searched s words = (bs : List LinkedBlock) × (k : ℕ) × (k ≤ s.knobs.playouts) × Holds s bs words k

-- the walk stands on its way, whatever the blocks are called
abbrev pub OnWay : Setting → List ℕ → Descent → Type 0
OnWay s words d = (bs : List LinkedBlock) (k : ℕ) → k ≤ s.knobs.playouts → Holds s bs words k
    → Underway s bs words d

pub way-fits : (s : Setting) (words : List ℕ) (d : Descent) → Searched s words → OnWay s words d
    → d.node + 4 ≤ length words
way-fits s words d q w = node-fits s q.0 words q.1 q.3 d.node (w q.0 q.1 q.2 q.3).node

module _ (s : Setting) (bs : List LinkedBlock) (words : List ℕ) (k : ℕ) (few : k ≤ MOST_COUNT)
    (h : Holds s bs words k) (x block : ℕ) (n : is_node (root_at s) bs x ≡ true)
    (at : block ≡ link_in words x) (some : block ≢ 0) where
  link-some : link_in words x ≢ 0
  link-some e = some (at ∙ e)

  pub block-below : (b : LinkedBlock) × IsBelow s bs words x b
  block-below = below s bs words k h x n link-some

  pub block-start : block ≡ block-below.0.start
  block-start = at ∙ sym block-below.1.start

  pub block-count : slice_index words (block + 3) ≡ length block-below.0.cells
  block-count = ap (λ (z : ℕ). slice_index words (z + 3)) block-start ∙ block-below.1.count

  pub block-fits : block + block_size (slice_index words (block + 3)) ≤ length words
  block-fits = omega (arith, block-start, block-count, block-below.1.fits)

  pub block-scored : CanBeScored words (block + 4) (slice_index words (block + 3))
  block-scored i l =
      let b : LinkedBlock = block-below.0 in
      let li : i < length b.cells = omega (arith, l, block-count) in
      let same : child b i ≡ block + 4 + 4 * i = ap (λ (z : ℕ). z + 4 + 4 * i) (sym block-start) in
      let c = subst (λ (z : ℕ). AtMost k (tally_in words z) × AtMost k (seen_in words z)) same
      (child-counts s bs words k h b i block-below.1.inside li) in
      ((omega (arith, few, c.0.0), omega (arith, few, c.0.1)), (omega (arith, few, c.1.0), omega (arith, few, c.1.1)))

  pub parent-scored : (tally_in words x).visits ≤ MOST_COUNT
  parent-scored = let c = h.counts x n in omega (arith, few, c.0.0)

  -- the place that is chosen
  module _ (visits weight chosen : ℕ) (own : visits ≡ (tally_in words x).visits)
      (same : weight ≡ s.knobs.weight)
      (is : chosen ≡ choice_of visits weight (children_in words (block + 4) (slice_index words (block + 3)))) where
    pub chosen-pick : chosen ≡ pick (search_game s) (tally_in words) (seen_in words) block-below.0 x
    unfolding chosen_of
    chosen-pick =
        let b : LinkedBlock = block-below.0 in
        is ∙ (λ i. choice_of (own i) (same i) (children_in words (block-start i + 4) (block-count i)))
        ∙ sym (ap (choice_of (tally_in words x).visits s.knobs.weight) (pairs-children words (b.start + 4) b.cells))

    pub chosen-in : chosen < length block-below.0.cells
    chosen-in = let b : LinkedBlock = block-below.0 in
        omega (arith, chosen-pick, pick-in (search_game s) (fair_game s) (tally_in words) (seen_in words) b x block-below.1.some)

    pub chosen-at : block + 4 + 4 * chosen ≡ child block-below.0 chosen
    chosen-at = ap (λ (z : ℕ). z + 4 + 4 * chosen) block-start

    pub chosen-fits : block + 4 + 4 * chosen + 4 ≤ length words
    chosen-fits = omega (arith, block-fits, block-count, chosen-in)

    pub chosen-after : x < block
    chosen-after = omega (arith, block-below.1.whole.above, block-below.1.parent, block-start)

    pub chosen-empty : IsSetting s
        → is_empty_at (node_board s bs x) (cell_at block-below.0 chosen) ≡ true
    chosen-empty z =
        let b : LinkedBlock = block-below.0 in
        let cells = block-below.1.whole.cells in
        let l : chosen < length (cells_below s bs b.parent)
        = subst (λ (c : List ℕ). chosen < length c) cells chosen-in in
        (λ i. is_empty_at (node_board s bs (sym block-below.1.parent i)) (get_or (cells i) chosen 0)) ∙ below-empty s bs b.parent chosen z h.linked.order l

-- a stone less to place
fewer-le : (n : ℕ) (f g : ℕ → Bool) → ((k : ℕ) → g k ≡ true → f k ≡ true)
    → count_below n g ≤ count_below n f
fewer-le zero f g h = omega arith
fewer-le (suc n) f g h = let r = fewer-le n f g h in one (f n) (g n) (h n) r
  where
    one : {a b : ℕ} (t u : Bool) → (u ≡ true → t ≡ true) → b ≤ a → b + one_if u ≤ a + one_if t
    one true true h l = omega (arith, l)
    one true false h l = omega (arith, l)
    one false true h l = absurd (clash false (h refl) refl)
    one false false h l = omega (arith, l)

fewer : (n c : ℕ) (f g : ℕ → Bool) → ((k : ℕ) → g k ≡ true → (f k ≡ true) × (k ≢ c)) → f c ≡ true
    → c < n → count_below n g < count_below n f
fewer zero c f g h e l = absurd (omega arith)
fewer (suc n) c f g h e l = ⊎_elim
    (λ (t : (n == c) ≡ true).
    let at : n ≡ c = eqb-true n c t in
    let off : g n ≡ false = false_from_ne_true (g n) (λ u. (h n u).1 at) in
    let on : f n ≡ true = ap f at ∙ e in
    let r = fewer-le n f g (λ k u. (h k u).0) in
    omega (arith, r, ap one_if off, ap one_if on))
    (λ (t : (n == c) ≡ false).
    let r = fewer n c f g h e (past n c t l) in
    step (f n) (g n) (λ u. (h n u).0) r)
    (cases_Bool (n == c))
  where
    past : (n c : ℕ) → (n == c) ≡ false → c < suc n → c < n
    past n c t l = grind (arith, nat_tests)

    step : {a b : ℕ} (t u : Bool) → (u ≡ true → t ≡ true) → b < a → b + one_if u < a + one_if t
    step true true h l = omega (arith, l)
    step true false h l = omega (arith, l)
    step false true h l = absurd (clash false (h refl) refl)
    step false false h l = omega (arith, l)

pub most-left : (p : Position) → left_on p ≤ 121
unfolding left_on
most-left p = count-most 121 (is_empty_at p)

fewer-left : (p : Position) (player : Colour) (c : ℕ) → is_empty_at p c ≡ true → c < 121
    → left_on (placed p player c) < left_on p
unfolding left_on
fewer-left p player c e l = fewer 121 c (is_empty_at p) (is_empty_at (placed p player c))
    (λ k u. placed_empty p player c k u) e l

-- a walk that can take a step has room for it
pub step-count : (d : Descent) (cell : ℕ) → is_empty_at d.board cell ≡ true → HasRoom d
    → d.count < 121
step-count d cell e r =
    let o = empty_on d.board cell e in
    let m = square_small d.board.size r.size in
    let f = fewer-left d.board d.player cell e (omega arith) in
    omega (arith, f, r.cells)

-- a step of the walk
module _ (d e : Descent) (cell kid : ℕ) (board : e.board ≡ placed d.board d.player cell)
    (player : e.player ≡ other_of d.player) (node : e.node ≡ kid)
    (steps : e.steps ≡ set d.steps d.count kid) (count : e.count ≡ d.count + 1)
    (empty : is_empty_at d.board cell ≡ true) where
  step-cell : d.board.size ≤ 11 → cell < 121
  step-cell l = let o = empty_on d.board cell empty in
      let m = square_small d.board.size l in omega arith

  pub step-room : HasRoom d → HasRoom e
  step-room r =
      let f = fewer-left d.board d.player cell empty (step-cell r.size) in
      let same : left_on e.board ≡ left_on (placed d.board d.player cell) = ap left_on board in
      record {
        size = subst (λ (n : ℕ). n ≤ 11)
            (sym (ap (λ (p : Position). p.size) board ∙ placed_size d.board d.player cell)) r.size;
        cells = omega (arith, f, r.cells, count, same);
        long = ap length steps ∙ length-set d.steps d.count kid ∙ r.long;
      }

  step-steps : HasRoom d → nodes_down e ≡ nodes_down d ++ kid ∷ []
  step-steps r = (λ i. take (count i) (steps i))
      ∙ take_more_set d.steps d.count kid (omega (arith, r.long, step-count d cell empty r))

  step-spot : spot_in e ≡ state_after (spot_in d) cell
  step-spot i = record { board = board i; player = player i }

  pub step-way : (s : Setting) (bs : List LinkedBlock) (words : List ℕ) (k : ℕ) → Holds s bs words k
      → (b : LinkedBlock) → IsBelow s bs words d.node b → (j : ℕ)
      → j ≡ pick (search_game s) (tally_in words) (seen_in words) b d.node → j < length b.cells
      → kid ≡ child b j → cell ≡ cell_at b j
      → HasRoom d → Underway s bs words d → Underway s bs words e
  step-way s bs words k h b w j is l at mine r u =
      let g = search_game s in let fair = fair_game s in let p = tally_in words in
      let q = seen_in words in let os = oldest_first bs in
      let rooted = rooted-turned (root_at s) bs h.linked.order in
      let i : ℕ = pick g p q b d.node in
      let here : e.node ≡ child b i = node ∙ at ∙ ap (child b) is in
      let inside : has_node b e.node ≡ true = ap (has_node b) (node ∙ at) ∙ child-has b j l in
      let cell-is : cell ≡ cell_at b i = mine ∙ ap (cell_at b) is in
      let spot : spot_in e ≡ state_after (spot_in d) (cell_at b i) = step-spot
      ∙ ap (state_after (spot_in d)) cell-is in
      let up : node_state s bs e.node ≡ state_after (node_state s bs b.parent)
      (cell_at b (place b e.node))
      = up-in (root_state s) (λ c y above. state_after above (cell_at c (place c y)))
      (root_at s) bs b e.node h.linked.order w.inside inside in
      let at-place : place b e.node ≡ i = ap (place b) here ∙ is_child b.start i in
      record {
        node = in-node (root_at s) bs b e.node w.inside inside;
        spot = spot ∙ (λ t. state_after (u.spot t) (cell_at b i))
            ∙ sym (up ∙ (λ t. state_after (node_state s bs (w.parent t)) (cell_at b (at-place t))));
        leaf = u.leaf ∙ leaf-link g fair p q os d.node b rooted w.names w.some
            ∙ ap (leaf_below s bs words) (sym here);
        state = u.state ∙ state-link g fair p q os d.node b (spot_in d) rooted w.names w.some
            ∙ sym (λ t. state_below s bs words (here t) (spot t));
        steps = u.steps
            ∙ ap (λ (l : List ℕ). nodes_down d ++ l)
            (steps-link g fair p q os d.node b rooted w.names w.some ∙ sym (λ t. here t ∷ steps_below s bs words (here t)))
            ∙ sym (append_assoc (nodes_down d) (e.node ∷ []) (steps_below s bs words e.node))
            ∙ ap (λ (l : List ℕ). l ++ steps_below s bs words e.node)
            (sym (step-steps r ∙ ap (λ (x : ℕ). nodes_down d ++ x ∷ []) (sym node)));
      }

-- where the walk begins
pub begin-way : (s : Setting) (d : Descent) → d.board ≡ s.board → d.player ≡ s.player
    → d.node ≡ root_at s → d.count ≡ 0
    → (bs : List LinkedBlock) (words : List ℕ) (k : ℕ) → Holds s bs words k → Underway s bs words d
begin-way s d board player node count bs words k h =
    let spot : spot_in d ≡ root_state s = λ i. record { board = board i; player = player i } in
    record {
      node = ap (is_node (root_at s) bs) node ∙ root_node (root_at s) bs;
      spot = spot ∙ sym (ap (node_state s bs) node ∙ up-root (root_state s) (λ c y above. state_after above (cell_at c (place c y))) (root_at s) bs
          h.linked.order);
      leaf = ap (leaf_below s bs words) (sym node);
      state = sym (λ i. state_below s bs words (node i) (spot i));
      steps = sym (λ i. take (count i) d.steps ++ steps_below s bs words (node i));
    }

-- where it ends
pub end-way : (s : Setting) (bs : List LinkedBlock) (words : List ℕ) (d : Descent) (k : ℕ)
    → Holds s bs words k → HasRoom d → Underway s bs words d → link_in words d.node ≡ 0
    → Descended s bs words d
end-way s bs words d k h r u e =
    let g = search_game s in let p = tally_in words in let q = seen_in words in
    let os = oldest_first bs in
    let bare : Bare os d.node = link-bare (root_at s) bs d.node h.linked.order
    (sym (h.linked.shows.links d.node u.node) ∙ e) in
    record {
      node = u.node;
      spot = u.spot;
      leaf = u.leaf ∙ down-bare (λ (y : ℕ). y) (leaf_inner g p q) os d.node bare;
      state = u.state ∙ ap (λ (f : NodeState → Count × NodeState). f (spot_in d))
          (down-bare (state_leaf g p q) (state_inner g p q) os d.node bare);
      steps = u.steps
          ∙ ap (λ (l : List ℕ). nodes_down d ++ l)
          (down-bare (λ (y : ℕ). []) (steps_inner g p q) os d.node bare) ∙ append-nil (nodes_down d);
      bare = e;
      few = omega (arith, r.cells);
      long = r.long;
    }

-- what a turn of the way down may read
pub few-words : (s : Setting) (words : List ℕ) → IsSetting s → Searched s words
    → length words ≤ 17777222
few-words s words z q = omega (arith, q.3.long, z.ranges.playouts.1, z.ranges.words.1)

few-counts : (s : Setting) (k : ℕ) → IsSetting s → k ≤ s.knobs.playouts → k ≤ MOST_COUNT
few-counts s k z l = omega (arith, l, z.ranges.playouts.1)

-- the block of the node can be chosen from
pub record MayChoose (s : Setting) (words : List ℕ) (d : Descent) (block : ℕ) : Type 0 where
  pub within : block + block_size (slice_index words (block + 3)) ≤ length words
  pub parent : (tally_in words d.node).visits ≤ MOST_COUNT
  pub counts : CanBeScored words (block + 4) (slice_index words (block + 3))

pub may-choose : (s : Setting) (words : List ℕ) (d : Descent) (block : ℕ) → IsSetting s
    → Searched s words → OnWay s words d → block ≡ link_in words d.node → block ≢ 0
    → MayChoose s words d block
may-choose s words d block z q w at some =
    let n = (w q.0 q.1 q.2 q.3).node in
    let few = few-counts s q.1 z q.2 in
    record {
      within = block-fits s q.0 words q.1 few q.3 d.node block n at some;
      parent = parent-scored s q.0 words q.1 few q.3 d.node block n at some;
      counts = block-scored s q.0 words q.1 few q.3 d.node block n at some;
    }

-- the child may be gone to
pub record MayGo (words : List ℕ) (d : Descent) (kid : ℕ) : Type 0 where
  pub fits : kid + 4 ≤ length words
  pub empty : is_empty_at d.board (cell_in (slice_index words kid)) ≡ true
  pub after : d.node < kid

module _ (s : Setting) (words : List ℕ) (d : Descent) (block visits weight chosen : ℕ)
    (z : IsSetting s) (at : block ≡ link_in words d.node) (some : block ≢ 0)
    (own : visits ≡ (tally_in words d.node).visits) (same : weight ≡ s.knobs.weight)
    (is : chosen ≡ choice_of visits weight (children_in words (block + 4) (slice_index words (block + 3)))) where
  -- the cell that the move word of the chosen child has
  chosen-cell : (bs : List LinkedBlock) (k : ℕ) → k ≤ s.knobs.playouts → (h : Holds s bs words k)
      → d.board.size ≤ 11 → (u : Underway s bs words d)
      → (b : LinkedBlock) × (w : IsBelow s bs words d.node b)
      × (chosen ≡ pick (search_game s) (tally_in words) (seen_in words) b d.node)
      × (chosen < length b.cells) × (block + 4 + 4 * chosen ≡ child b chosen)
      × (cell_in (slice_index words (block + 4 + 4 * chosen)) ≡ cell_at b chosen)
      × (is_empty_at d.board (cell_at b chosen) ≡ true)
  chosen-cell bs k l h small u =
      let few = few-counts s k z l in
      let t = block-below s bs words k few h d.node block u.node at some in
      let b : LinkedBlock = t.0 in
      let pick-is = chosen-pick s bs words k few h d.node block u.node at some visits weight chosen own same is in
      let within = chosen-in s bs words k few h d.node block u.node at some visits weight chosen own same is in
      let kid-at = chosen-at s bs words k few h d.node block u.node at some visits weight chosen own same is in
      let empty : is_empty_at d.board (cell_at b chosen) ≡ true
      = ap (λ (p : NodeState). is_empty_at p.board (cell_at b chosen)) u.spot
      ∙ chosen-empty s bs words k few h d.node block u.node at some visits weight chosen own same is z in
      let on = empty_on d.board (cell_at b chosen) empty in
      let low = square_small d.board.size small in
      let move : cell_in (slice_index words (block + 4 + 4 * chosen)) ≡ cell_at b chosen
      = ap (λ (y : ℕ). cell_in (slice_index words y)) kid-at
      ∙ ap cell_in (child-move s bs words k h b chosen t.1.inside within)
      ∙ cell-of-move chosen (cell_at b chosen) (omega (arith, on, low)) in
      (b, t.1, pick-is, within, kid-at, move, empty)

  pub may-go : Searched s words → OnWay s words d → d.board.size ≤ 11
      → MayGo words d (block + 4 + 4 * chosen)
  may-go q w small =
      let u = w q.0 q.1 q.2 q.3 in
      let few = few-counts s q.1 z q.2 in
      let t = chosen-cell q.0 q.1 q.2 q.3 small u in
      record {
        fits = chosen-fits s q.0 words q.1 few q.3 d.node block u.node at some visits weight chosen own same is;
        empty = ap (is_empty_at d.board) t.5 ∙ t.6;
        after = let a = chosen-after s q.0 words q.1 few q.3 d.node block u.node at some visits weight chosen own same is in omega (arith, a);
      }

  pub gone-way : (e : Descent)
      → e.board ≡ placed d.board d.player (cell_in (slice_index words (block + 4 + 4 * chosen)))
      → e.player ≡ other_of d.player → e.node ≡ block + 4 + 4 * chosen
      → e.steps ≡ set d.steps d.count (block + 4 + 4 * chosen) → e.count ≡ d.count + 1 → HasRoom d
      → OnWay s words d → OnWay s words e
  gone-way e board player node steps count r w bs k l h =
      let u = w bs k l h in
      let t = chosen-cell bs k l h r.size u in
      step-way d e (cell_in (slice_index words (block + 4 + 4 * chosen)))
      (block + 4 + 4 * chosen) board player node steps count (ap (is_empty_at d.board) t.5 ∙ t.6)
      s bs words k h t.0 t.1 chosen t.2 t.3 t.4 t.5 r u
