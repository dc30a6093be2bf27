-- What the adds of a walk add to the tallies and to the seen words of the nodes.
use Rattle.std.proofs.Common.{◌≡◌, ◌≢◌, ℕ, ◌+◌, ◌*◌, ◌<◌, Bool, true, false, cond, List, [], ◌∷◌}
use Rattle.std.proofs.Common.{length, refl, sym, ap, ◌∙◌, subst, ⊎_elim, arith}
use Rattle.std.specs.Prelude.{◌==◌, ◌||◌, ◌&&◌}
use Rattle.std.specs.List.{list_any}
use Rattle.hex_cells.specs.Sets.{has as has_cell}
use Rattle.hex_cells.specs.declared.colours.Colour.{Colour}
use Rattle.hex_board.specs.Positions.{stones_of}
use Rattle.hex_board.specs.Wins.{is_same}
use Rattle.tree_words.specs.Settings.{Setting}
use Rattle.tree_words.specs.Words.{root_at}
use Rattle.tree_words.specs.Blocks.{LinkedBlock, one_if, has_node, place, cell_at, covers, cover}
use Rattle.tree_words.specs.Blocks.{is_node, In, InOrder, Follows}
use Rattle.tree_words.specs.Paths.{NodeState, root_state, state_after, mover_at, node_state}
use Rattle.tree_words.specs.Paths.{mover_of, path_of, is_on, enters}
use Rattle.play_out.specs.declared.playouts.Ending.{Ending}
use Rattle.tree_words.specs.Sequence.{outcome_of, amount_of}
use Rattle.tree_words.specs.declared.layout.TheConstants.{TALLY_WORD, SEEN_WORD}
use Rattle.tree_words.proofs.Blocks.BlockLaws.{apart, has-at, has-covers, covers_of, covers_if}
use Rattle.tree_words.proofs.Blocks.BlockLaws.{cover-cons, node-apart, up_same, clash}
use Rattle.tree_words.proofs.Blocks.GameLaws.{spot-same, in-node}
use Rattle.tree_words.proofs.Walks.Adds.{is_child}
use Rattle.tree_words.proofs.Walks.Tallies.{path-clear}
use Rattle.arena_rule.specs.Adds.{CountAdd, Gathered, seen_adds, root_adds, node_adds, adds_up}
use Rattle.arena_rule.specs.Adds.{walk_adds, amount_at}
use Rattle.arena_rule.specs.Lookups.{adds_in}
use Rattle.arena_rule.proofs.Amounts.{amount-append, amount-parts, wins_added, wins-less, one-add}
use Rattle.arena_rule.proofs.Amounts.{miss, hit, seen-none, seen-hit}
use Rattle.std.proofs.lemmas.Bool.{eqb-true, eq-eqb, cases_Bool, or_cases, false_from_ne_true}
use Rattle.std.proofs.lemmas.Bool.{or_left}
use Rattle.tree_words.proofs.Walks.Climbs.{or_false}
use Rattle.tree_words.proofs.Walks.Countings.{cond-and}
use Rattle.hex_cells.proofs.ColourLaws.{other_back}

-- the seen words of a block lie in it
seen-covers : (b : LinkedBlock) (j : ℕ) → j < length b.cells
    → covers (b.start + 4 + 4 * j + SEEN_WORD) b ≡ true
seen-covers b j l = covers_if (b.start + 4 + 4 * j + SEEN_WORD) b (omega arith) (omega (arith, l))

module _ (s : Setting) (o : Ending) where
  -- the state that is gathered with the adds is the node's
  pub adds-state : (bs : List LinkedBlock) (y : ℕ)
      → (adds_up s o bs y).state ≡ node_state s bs y
  adds-state [] y = refl
  adds-state (b ∷ bs) y = by (has_node b y) (adds-state bs b.parent) (adds-state bs y)
    where
      by : (t : Bool) → (adds_up s o bs b.parent).state ≡ node_state s bs b.parent
          → (adds_up s o bs y).state ≡ node_state s bs y
          → (cond t (node_adds o b y (adds_up s o bs b.parent)) (adds_up s o bs y)).state ≡ cond t
          (state_after (node_state s bs b.parent) (cell_at b (place b y))) (node_state s bs y)
      by true e f = ap (λ (p : NodeState). state_after p (cell_at b (place b y))) e
      by false e f = f

  -- the adds of a block on the way: of a node's tally and of its block's seen words
  abbrev block_adds : LinkedBlock → ℕ → NodeState → List CountAdd
  block_adds b y p = record { word = y + TALLY_WORD; won = is_same o.winner p.player } ∷ seen_adds
      (stones_of o.full p.player) (is_same o.winner p.player) (b.start + 4) b.cells

  up-here : (w : ℕ) (b : LinkedBlock) (bs : List LinkedBlock) (y : ℕ) → has_node b y ≡ true
      → amount_at w (adds_up s o (b ∷ bs) y).adds ≡ amount_at w
      (block_adds b y (node_state s bs b.parent)) + amount_at w (adds_up s o bs b.parent).adds
  up-here w b bs y h =
      let a : Gathered = adds_up s o bs b.parent in
      ap (λ (t : Bool). amount_at w (cond t (node_adds o b y a) (adds_up s o bs y)).adds) h
      ∙ amount-append w (block_adds b y a.state) a.adds
      ∙ ap (λ (p : NodeState). amount_at w (block_adds b y p) + amount_at w a.adds)
      (adds-state bs b.parent)

  up-else : (w : ℕ) (b : LinkedBlock) (bs : List LinkedBlock) (y : ℕ) → has_node b y ≡ false
      → amount_at w (adds_up s o (b ∷ bs) y).adds ≡ amount_at w (adds_up s o bs y).adds
  up-else w b bs y h
      = ap (λ (t : Bool). amount_at w (cond t (node_adds o b y (adds_up s o bs b.parent)) (adds_up s o bs y)).adds) h

  -- a word outside the block gets nothing of it
  block-out : (w : ℕ) (b : LinkedBlock) (y : ℕ) (p : NodeState) → has_node b y ≡ true
      → covers w b ≡ false → amount_at w (block_adds b y p) ≡ 0
  block-out w b y p h out =
      omega (
        arith,
        miss (y + TALLY_WORD) w (is_same o.winner p.player)
            (λ e. clash (covers w b) (ap (λ (i : ℕ). covers i b) (sym e) ∙ has-covers b y 2 h (omega arith)) out),
        seen-none w (stones_of o.full p.player) (is_same o.winner p.player) (b.start + 4) b.cells
            (λ j l e. clash (covers w b) (ap (λ (i : ℕ). covers i b) (sym e) ∙ seen-covers b j l) out),
      )

  -- a word of no block that is not the root's tally gets nothing
  adds-none : (w : ℕ) (bs : List LinkedBlock) (y : ℕ) → w ≢ root_at s + TALLY_WORD → cover w bs ≡ 0
      → amount_at w (adds_up s o bs y).adds ≡ 0
  adds-none w [] y ne z
      = omega (arith, miss (root_at s + TALLY_WORD) w (is_same o.winner (mover_at (root_state s))) (λ e. ne (sym e)))
  adds-none w (b ∷ bs) y ne z =
      let out : covers w b ≡ false
      = false_from_ne_true (covers w b) (λ t. omega (arith, z, cover-cons w b bs, ap one_if t)) in
      let rest : cover w bs ≡ 0 = omega (arith, z, cover-cons w b bs) in
      ⊎_elim
      (λ (h : has_node b y ≡ true). up-here w b bs y h ∙ omega (arith, block-out w b y (node_state s bs b.parent) h out, adds-none w bs b.parent ne rest))
      (λ (h : has_node b y ≡ false). up-else w b bs y h ∙ adds-none w bs y ne rest)
      (cases_Bool (has_node b y))

-- a path on the way up
any-here : (s : Setting) (test : ℕ → Bool) (b : LinkedBlock) (bs : List LinkedBlock) (y : ℕ)
    → has_node b y ≡ true
    → list_any test (path_of s (b ∷ bs) y) ≡ (test y || list_any test (path_of s bs b.parent))
any-here s test b bs y h
    = ap (λ (t : Bool). list_any test (cond t (y ∷ path_of s bs b.parent) (path_of s bs y))) h

any-else : (s : Setting) (test : ℕ → Bool) (b : LinkedBlock) (bs : List LinkedBlock) (y : ℕ)
    → has_node b y ≡ false
    → list_any test (path_of s (b ∷ bs) y) ≡ list_any test (path_of s bs y)
any-else s test b bs y h
    = ap (λ (t : Bool). list_any test (cond t (y ∷ path_of s bs b.parent) (path_of s bs y))) h

-- a node of a new block is on no older path
on-none : (s : Setting) (b : LinkedBlock) (bs : List LinkedBlock) (x y : ℕ)
    → Follows (root_at s) b bs → has_node b x ≡ true → is_on s bs x y ≡ false
on-none s b bs x y f h = path-clear s (λ (z : ℕ). z == x) bs y
    (λ z n. false_from_ne_true (z == x) (λ e. clash (has_node b x) h (ap (has_node b) (sym (eqb-true z x e)) ∙ apart (root_at s) b bs z f n)))

-- the words of a new block get nothing from older adds
new-none : (s : Setting) (o : Ending) (b : LinkedBlock) (bs : List LinkedBlock) (x i y : ℕ)
    → Follows (root_at s) b bs → has_node b x ≡ true → i < 4
    → amount_at (x + i) (adds_up s o bs y).adds ≡ 0
new-none s o b bs x i y f h l = adds-none s o (x + i) bs y
    (λ e. let q = has-at b x h in let low = f.root in omega (arith, e, q.2, low))
    (f.clear (x + i) (has-covers b x i h l))

-- the mover of a new node
mover-new : (s : Setting) (b : LinkedBlock) (bs : List LinkedBlock) (x : ℕ) → has_node b x ≡ true
    → (node_state s bs b.parent).player ≡ mover_of s (b ∷ bs) x
mover-new s b bs x h
    = sym (ap (λ (t : Bool). mover_at (cond t (state_after (node_state s bs b.parent) (cell_at b (place b x))) (node_state s bs x))) h
    ∙ other_back (node_state s bs b.parent).player)

module _ (s : Setting) (o : Ending) (x : ℕ) where
  -- the tally of a node on the path gets one visit, and one win if its mover won; no other tally
  -- of a node gets anything
  pub tally-up : (bs : List LinkedBlock) (y : ℕ) → InOrder (root_at s) bs
      → is_node (root_at s) bs x ≡ true
      → amount_at (x + TALLY_WORD) (adds_up s o bs y).adds ≡ cond (is_on s bs x y)
      (amount_of (is_same o.winner (mover_of s bs x))) 0
  tally-up [] y g n =
      let e : x ≡ root_at s = eqb-true x (root_at s) n in
      let won : Bool = is_same o.winner (mover_at (root_state s)) in
      omega (
        arith,
        hit (root_at s + TALLY_WORD) (x + TALLY_WORD) won (omega (arith, e)),
        ap (λ (t : Bool). cond t (amount_of won) 0)
            (or_left (root_at s == x) false (eq-eqb (root_at s) x (sym e))),
      )
  tally-up (b ∷ bs) y g n = ⊎_elim
      (λ (hx : has_node b x ≡ true). ⊎_elim
      (λ (hy : has_node b y ≡ true).
      let p : NodeState = node_state s bs b.parent in
      let won : Bool = is_same o.winner p.player in
      let seen = seen-none (x + TALLY_WORD) (stones_of o.full p.player) won (b.start + 4) b.cells
      (λ j l e. let q = has-at b x hx in omega (arith, q.2, e)) in
      up-here s o (x + TALLY_WORD) b bs y hy
      ∙ omega (arith, seen, new-none s o b bs x 2 b.parent g.0 hx (omega arith), tally (y == x) won refl)
      ∙ ap (λ (t : Bool). cond t (amount_of won) 0)
      (sym (any-here s (λ (z : ℕ). z == x) b bs y hy ∙ or_false (y == x) (is_on s bs x b.parent) (on-none s b bs x b.parent g.0 hx)))
      ∙ ap (λ (c : Colour). cond (is_on s (b ∷ bs) x y) (amount_of (is_same o.winner c)) 0)
      (mover-new s b bs x hx))
      (λ (hy : has_node b y ≡ false).
      up-else s o (x + TALLY_WORD) b bs y hy ∙ new-none s o b bs x 2 y g.0 hx (omega arith)
      ∙ ap (λ (t : Bool). cond t (amount_of (is_same o.winner (mover_of s (b ∷ bs) x))) 0)
      (sym (any-else s (λ (z : ℕ). z == x) b bs y hy ∙ on-none s b bs x y g.0 hx)))
      (cases_Bool (has_node b y)))
      (λ (nx : is_node (root_at s) bs x ≡ true).
      let hx : has_node b x ≡ false = apart (root_at s) b bs x g.0 nx in
      let mover : mover_of s bs x ≡ mover_of s (b ∷ bs) x
      = sym (ap mover_at (spot-same s b bs x g.0 nx)) in
      ⊎_elim
      (λ (hy : has_node b y ≡ true).
      let off : (y == x) ≡ false
      = false_from_ne_true (y == x)
      (λ t. clash (has_node b x) (ap (has_node b) (sym (eqb-true y x t)) ∙ hy) hx) in
      up-here s o (x + TALLY_WORD) b bs y hy
      ∙ omega (arith, block-out s o (x + TALLY_WORD) b y (node_state s bs b.parent) hy (node-apart (root_at s) b bs x 2 g.0 nx (omega arith)))
      ∙ tally-up bs b.parent g.1 nx
      ∙ (λ i. cond (is_on s bs x b.parent) (amount_of (is_same o.winner (mover i))) 0)
      ∙ ap (λ (t : Bool). cond t (amount_of (is_same o.winner (mover_of s (b ∷ bs) x))) 0)
      (sym (any-here s (λ (z : ℕ). z == x) b bs y hy ∙ ap (λ (t : Bool). t || is_on s bs x b.parent) off)))
      (λ (hy : has_node b y ≡ false).
      up-else s o (x + TALLY_WORD) b bs y hy ∙ tally-up bs y g.1 nx
      ∙ (λ i. cond (is_on s bs x y) (amount_of (is_same o.winner (mover i))) 0)
      ∙ ap (λ (t : Bool). cond t (amount_of (is_same o.winner (mover_of s (b ∷ bs) x))) 0)
      (sym (any-else s (λ (z : ℕ). z == x) b bs y hy)))
      (cases_Bool (has_node b y)))
      (or_cases (has_node b x) (is_node (root_at s) bs x) n)
    where
      tally : (t : Bool) (won : Bool) → (y == x) ≡ t
          → cond (y + TALLY_WORD == x + TALLY_WORD) (amount_of won) 0 ≡ cond t (amount_of won) 0
      tally true won e
          = hit (y + TALLY_WORD) (x + TALLY_WORD) won (let q = eqb-true y x e in omega (arith, q))
      tally false won e
          = miss (y + TALLY_WORD) (x + TALLY_WORD) won
          (λ q. clash (y == x) (eq-eqb y x (omega (arith, q))) e)

-- the seen word of a node whose block is met on the path gets one seen visit if the cell holds a
-- stone of its mover, and one seen win if that mover won; no other seen word gets anything
module _ (s : Setting) (o : Ending) (c : LinkedBlock) (x : ℕ) (hc : has_node c x ≡ true) where
  abbrev seen : List LinkedBlock → ℕ
  seen bs = cond (has_cell (stones_of o.full (mover_of s bs x)) (cell_at c (place c x)))
      (amount_of (is_same o.winner (mover_of s bs x))) 0

  -- at the block itself
  seen-here : (bs : List LinkedBlock) (y : ℕ) → Follows (root_at s) c bs
      → amount_at (x + SEEN_WORD) (adds_up s o (c ∷ bs) y).adds ≡ cond (enters s (c ∷ bs) c y)
      (seen (c ∷ bs)) 0
  seen-here bs y f = ⊎_elim
      (λ (hy : has_node c y ≡ true).
      let p : NodeState = node_state s bs c.parent in
      let won : Bool = is_same o.winner p.player in
      let at = has-at c x hc in
      let is : x + SEEN_WORD ≡ c.start + 4 + 4 * at.0 + SEEN_WORD = omega (arith, at.2) in
      let k : at.0 ≡ place c x
      = sym (ap (λ (z : ℕ). place c z) (omega (arith, at.2)) ∙ is_child c.start at.0) in
      up-here s o (x + SEEN_WORD) c bs y hy
      ∙ omega (
        arith,
        miss (y + TALLY_WORD) (x + SEEN_WORD) won (λ e. let q = has-at c y hy in omega (arith, q.2, at.2, e)),
        new-none s o c bs x 3 c.parent f hc (omega arith),
      )
      ∙ ap (λ (w : ℕ). amount_at w (seen_adds (stones_of o.full p.player) won (c.start + 4) c.cells)) is
      ∙ seen-hit (stones_of o.full p.player) won (c.start + 4) at.0 c.cells at.1
      ∙ ap (λ (j : ℕ). cond (has_cell (stones_of o.full p.player) (cell_at c j)) (amount_of won) 0) k
      ∙ ap (λ (m : Colour). cond (has_cell (stones_of o.full m) (cell_at c (place c x))) (amount_of (is_same o.winner m)) 0) (mover-new s c bs x hc)
      ∙ ap (λ (t : Bool). cond t (seen (c ∷ bs)) 0)
      (sym (any-here s (has_node c) c bs y hy ∙ or_left (has_node c y) (list_any (has_node c) (path_of s bs c.parent)) hy)))
      (λ (hy : has_node c y ≡ false).
      up-else s o (x + SEEN_WORD) c bs y hy ∙ new-none s o c bs x 3 y f hc (omega arith)
      ∙ ap (λ (t : Bool). cond t (seen (c ∷ bs)) 0)
      (sym (any-else s (has_node c) c bs y hy ∙ path-clear s (has_node c) bs y (λ z u. apart (root_at s) c bs z f u))))
      (cases_Bool (has_node c y))

  pub seen-up : (bs : List LinkedBlock) (y : ℕ) → InOrder (root_at s) bs → In c bs
      → amount_at (x + SEEN_WORD) (adds_up s o bs y).adds ≡ cond (enters s bs c y) (seen bs) 0
  seen-up [] y g i = absurd i
  seen-up (b ∷ bs) y g i = ⊎_elim
      (λ (e : c ≡ b).
      subst (λ (d : LinkedBlock). amount_at (x + SEEN_WORD) (adds_up s o (d ∷ bs) y).adds ≡ cond (enters s (d ∷ bs) c y) (seen (d ∷ bs)) 0) e
      (seen-here bs y (subst (λ (d : LinkedBlock). Follows (root_at s) d bs) (sym e) g.0)))
      (λ (j : In c bs).
      let nx : is_node (root_at s) bs x ≡ true = in-node (root_at s) bs c x j hc in
      let same : seen bs ≡ seen (b ∷ bs)
      = sym (ap (λ (p : NodeState). cond (has_cell (stones_of o.full (mover_at p)) (cell_at c (place c x))) (amount_of (is_same o.winner (mover_at p))) 0)
      (spot-same s b bs x g.0 nx)) in
      ⊎_elim
      (λ (hy : has_node b y ≡ true).
      let off : has_node c y ≡ false
      = false_from_ne_true (has_node c y)
      (λ t. clash (has_node b y) hy (apart (root_at s) b bs y g.0 (in-node (root_at s) bs c y j t))) in
      up-here s o (x + SEEN_WORD) b bs y hy
      ∙ omega (arith, block-out s o (x + SEEN_WORD) b y (node_state s bs b.parent) hy (node-apart (root_at s) b bs x 3 g.0 nx (omega arith)))
      ∙ seen-up bs b.parent g.1 j
      ∙ (λ i. cond (enters s bs c b.parent) (same i) 0)
      ∙ ap (λ (t : Bool). cond t (seen (b ∷ bs)) 0)
      (sym (any-here s (has_node c) b bs y hy ∙ ap (λ (t : Bool). t || enters s bs c b.parent) off)))
      (λ (hy : has_node b y ≡ false).
      up-else s o (x + SEEN_WORD) b bs y hy ∙ seen-up bs y g.1 j
      ∙ (λ i. cond (enters s bs c y) (same i) 0)
      ∙ ap (λ (t : Bool). cond t (seen (b ∷ bs)) 0) (sym (any-else s (has_node c) b bs y hy)))
      (cases_Bool (has_node b y)))
      i

-- what the walk of playout k to a leaf adds to the tally of a node, and to the seen word of a node
-- of the block c
module _ (s : Setting) (bs : List LinkedBlock) (order : InOrder (root_at s) bs) (k leaf : ℕ) where
  pub tally-amount : (x : ℕ) → is_node (root_at s) bs x ≡ true
      → amount_at (x + TALLY_WORD) (walk_adds s bs k leaf) ≡ cond (is_on s bs x leaf)
      (amount_of (is_same (outcome_of s k (node_state s bs leaf)).winner (mover_of s bs x))) 0
  unfolding walk_adds
  tally-amount x n = tally-up s (outcome_of s k (node_state s bs leaf)) x bs leaf order n

  pub seen-amount : (c : LinkedBlock) (x : ℕ) → In c bs → has_node c x ≡ true
      → amount_at (x + SEEN_WORD) (walk_adds s bs k leaf)
      ≡ cond (enters s bs c leaf)
      (cond (has_cell (stones_of (outcome_of s k (node_state s bs leaf)).full (mover_of s bs x)) (cell_at c (place c x)))
      (amount_of (is_same (outcome_of s k (node_state s bs leaf)).winner (mover_of s bs x))) 0)
      0
  unfolding walk_adds
  seen-amount c x i h = seen-up s (outcome_of s k (node_state s bs leaf)) c x h bs leaf order i

  -- the words of a node of a new block get nothing, and the adds stay
  pub amount-new : (b : LinkedBlock) (x i : ℕ) → Follows (root_at s) b bs → has_node b x ≡ true
      → i < 4 → amount_at (x + i) (walk_adds s bs k leaf) ≡ 0
  unfolding walk_adds
  amount-new b x i f h l = new-none s (outcome_of s k (node_state s bs leaf)) b bs x i leaf f h l

  pub adds-linked : (b : LinkedBlock) → Follows (root_at s) b bs
      → is_node (root_at s) bs leaf ≡ true → walk_adds s (b ∷ bs) k leaf ≡ walk_adds s bs k leaf
  unfolding walk_adds
  adds-linked b f n =
      let o : NodeState → Ending = outcome_of s k in
      ap (λ (p : NodeState). (adds_up s (o p) (b ∷ bs) leaf).adds) (spot-same s b bs leaf f n)
      ∙ ap (λ (a : Gathered). a.adds)
      (up_same (root_adds s (o (node_state s bs leaf))) (node_adds (o (node_state s bs leaf))) b bs leaf (apart (root_at s) b bs leaf f n))

  -- at most one add of a walk counts in a word of a node: in the tally if the node is on the path
  pub tally-adds : (x : ℕ) → is_node (root_at s) bs x ≡ true
      → adds_in (x + TALLY_WORD) (walk_adds s bs k leaf) ≡ cond (is_on s bs x leaf) 1 0
  tally-adds x n =
      let w : ℕ = x + TALLY_WORD in
      let adds : List CountAdd = walk_adds s bs k leaf in
      one-add (is_on s bs x leaf)
      (is_same (outcome_of s k (node_state s bs leaf)).winner (mover_of s bs x)) (adds_in w adds)
      (wins_added w adds)
      (sym (tally-amount x n) ∙ amount-parts w adds) (wins-less w adds)

  pub seen-adds : (c : LinkedBlock) (x : ℕ) → In c bs → has_node c x ≡ true
      → adds_in (x + SEEN_WORD) (walk_adds s bs k leaf)
      ≡ cond (enters s bs c leaf && has_cell (stones_of (outcome_of s k (node_state s bs leaf)).full (mover_of s bs x)) (cell_at c (place c x))) 1 0
  seen-adds c x i h =
      let w : ℕ = x + SEEN_WORD in
      let adds : List CountAdd = walk_adds s bs k leaf in
      let o : Ending = outcome_of s k (node_state s bs leaf) in
      let stone : Bool = has_cell (stones_of o.full (mover_of s bs x)) (cell_at c (place c x)) in
      let won : Bool = is_same o.winner (mover_of s bs x) in
      one-add (enters s bs c leaf && stone) won (adds_in w adds) (wins_added w adds)
      (cond-and (enters s bs c leaf) stone (amount_of won) ∙ sym (seen-amount c x i h) ∙ amount-parts w adds) (wins-less w adds)

  -- no add counts in the root's seen word
  pub adds-root : adds_in (root_at s + SEEN_WORD) (walk_adds s bs k leaf) ≡ 0
  unfolding walk_adds
  adds-root =
      let o : Ending = outcome_of s k (node_state s bs leaf) in
      let w : ℕ = root_at s + SEEN_WORD in
      omega (arith, amount-parts w (adds_up s o bs leaf).adds, adds-none s o w bs leaf (λ e. omega (arith, e)) (root-clear bs order))
    where
      root-clear : (cs : List LinkedBlock) → InOrder (root_at s) cs
          → cover (root_at s + SEEN_WORD) cs ≡ 0
      root-clear [] g = refl
      root-clear (c ∷ cs) g =
          let out : covers (root_at s + SEEN_WORD) c ≡ false
          = false_from_ne_true (covers (root_at s + SEEN_WORD) c)
          (λ t. let l = covers_of (root_at s + SEEN_WORD) c t in let low = g.0.root in omega (arith, l.0, low)) in
          omega (arith, cover-cons (root_at s + SEEN_WORD) c cs, ap one_if out, root-clear cs g.1)
