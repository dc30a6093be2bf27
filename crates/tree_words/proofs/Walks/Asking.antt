-- When a leaf asks for a block.
use Rattle.std.proofs.Common.{◌≡◌, ℕ, ◌+◌, ◌*◌, ◌<◌, ◌≤◌, Bool, true, false, cond, List, [], ◌∷◌}
use Rattle.std.proofs.Common.{◌++◌, length, refl, sym, ap, ◌∙◌, ⊎_elim, arith}
use Rattle.std.specs.Prelude.{◌==◌, ◌&&◌, nat_le, nat_lt}
use Rattle.std.proofs.lemmas.Bool.Decides.{nat_tests}
use Rattle.hex_board.specs.Positions.{Position, is_empty_at}
use Rattle.play_out.specs.Fills.{empties_of}
use Rattle.tree_words.specs.Settings.{Setting}
use Rattle.tree_words.specs.Words.{Count, end_of}
use Rattle.tree_words.specs.Blocks.{LinkedBlock, child, has_node, place, cell_at}
use Rattle.tree_words.specs.Paths.{NodeState, root_state, state_after, node_state}
use Rattle.tree_words.specs.declared.layout.TheConstants.{MOST_BLOCK_WORDS}
use Rattle.tree_words.specs.Walks.{nothing, Game, leaf_state}
use Rattle.play_out.specs.declared.playouts.Ending.{Ending}
use Rattle.tree_words.specs.Sequence.{size_below, asks, gets_block, next_after, search_game}
use Rattle.tree_words.specs.Descents.{Config, walk_end, NewBlock, Widened, pick, leaf_inner}
use Rattle.tree_words.specs.Descents.{leaf_at, state_leaf, state_inner, state_at, top, Out, Sprouts}
use Rattle.std.proofs.lemmas.Bool.{and_parts, leb-true, le-leb, lt-leb, eq-eqb, cases_Bool}
use Rattle.tree_words.proofs.Boards.RootLaws.{filter_some, few_cells}
use Rattle.tree_words.proofs.Walks.Down.{Fair, child-has, pick-in, down-here, down-else, same-under}
use Rattle.tree_words.proofs.Walks.Expands.{state-tree}
use Rattle.tree_words.proofs.Blocks.GameLaws.{fair_game}
use Rattle.hex_board.proofs.Placed.{empty_on, placed_size}

-- a board with an empty cell has one in its list
pub some-empty : (p : Position) (c : ℕ) → is_empty_at p c ≡ true → 0 < length (empties_of p)
unfolding empties_of
some-empty p c e = filter_some (is_empty_at p) 0 (p.size * p.size) c e (omega arith)
    (omega (arith, empty_on p c e))

-- no block is larger than the largest
pub size-most : (p : NodeState) → p.board.size ≤ 11 → size_below p ≤ MOST_BLOCK_WORDS
unfolding empties_of
size-most p l = omega (arith, few_cells p.board.size (is_empty_at p.board) l)

-- all boards of a tree have one size
pub spot-size : (s : Setting) (bs : List LinkedBlock) (x : ℕ)
    → (node_state s bs x).board.size ≡ s.board.size
spot-size s [] x = refl
spot-size s (b ∷ bs) x =
    let A : NodeState = node_state s bs b.parent in
    ⊎_elim
    (λ (h : has_node b x ≡ true). ap (λ (t : Bool). (cond t (state_after A (cell_at b (place b x))) (node_state s bs x)).board.size) h
    ∙ placed_size A.board A.player (cell_at b (place b x)) ∙ spot-size s bs b.parent)
    (λ (h : has_node b x ≡ false). ap (λ (t : Bool). (cond t (state_after A (cell_at b (place b x))) (node_state s bs x)).board.size) h ∙ spot-size s bs x)
    (cases_Bool (has_node b x))

pub asks-then : (s : Setting) (next : ℕ) (v : Count) (p : NodeState) → asks s next v p ≡ true
    → (s.knobs.expand ≤ v.visits) × (next ≤ end_of s)
asks-then s next v p e =
    let t = and_parts (nat_le s.knobs.expand v.visits)
    (nat_lt 0 (length (empties_of p.board)) && nat_le next (end_of s)) e in
    (leb-true _ _ t.0, leb-true _ _ (and_parts (nat_lt 0 (length (empties_of p.board))) (nat_le next (end_of s)) t.1).1)

-- if it asks for none though it could have one, it has too few visits
pub asks-not : (s : Setting) (next : ℕ) (v : Count) (p : NodeState) → asks s next v p ≡ false
    → 0 < length (empties_of p.board) → next ≤ end_of s → v.visits < s.knobs.expand
asks-not s next v p e l m = few s.knobs.expand v.visits (length (empties_of p.board)) next
    (end_of s) e l m
  where
    few : (a b c d n : ℕ) → (nat_le a b && (nat_lt 0 c && nat_le d n)) ≡ false → 0 < c
        → d ≤ n → b < a
    few a b c d n e l m = grind (arith, nat_tests)

-- a leaf without visits asks for none
pub unvisited-asks : (s : Setting) (next : ℕ) (v : Count) (p : NodeState) → 0 < s.knobs.expand
    → v.visits ≡ 0 → asks s next v p ≡ false
unvisited-asks s next v p l e
    = none s.knobs.expand v.visits
    (nat_lt 0 (length (empties_of p.board)) && nat_le next (end_of s)) l e
  where
    none : (a b : ℕ) (t : Bool) → 0 < a → b ≡ 0 → (nat_le a b && t) ≡ false
    none a b t l e = grind (arith, nat_tests)

-- and past the area's end no leaf does
pub past-asks : (s : Setting) (next : ℕ) (v : Count) (p : NodeState) → end_of s < next
    → asks s next v p ≡ false
past-asks s next v p l
    = none (nat_le s.knobs.expand v.visits) (nat_lt 0 (length (empties_of p.board))) next
    (end_of s) l
  where
    none : (t u : Bool) (a b : ℕ) → b < a → (t && (u && nat_le a b)) ≡ false
    none t u a b l = grind (arith, nat_tests)

-- a leaf that asks gets its block if that fits, one that asks in vain gets none, and one that does
-- not ask gets none
pub gets-made : (s : Setting) (next : ℕ) (v : Count) (p : NodeState) → asks s next v p ≡ true
    → next + size_below p ≤ end_of s → gets_block s next v p ≡ true
unfolding gets_block
gets-made s next v p a l = ap (λ (t : Bool). t && nat_le (next + size_below p) (end_of s)) a
    ∙ le-leb (next + size_below p) (end_of s) l

pub gets-past : (s : Setting) (next : ℕ) (v : Count) (p : NodeState) → asks s next v p ≡ true
    → end_of s < next + size_below p → gets_block s next v p ≡ false
unfolding gets_block
gets-past s next v p a l = ap (λ (t : Bool). t && nat_le (next + size_below p) (end_of s)) a
    ∙ lt-leb (next + size_below p) (end_of s) l

pub gets-none : (s : Setting) (next : ℕ) (v : Count) (p : NodeState) → asks s next v p ≡ false
    → gets_block s next v p ≡ false
unfolding gets_block
gets-none s next v p a = ap (λ (t : Bool). t && nat_le (next + size_below p) (end_of s)) a

-- `next` after a leaf that gets its block, one that asks in vain, one that asks, and one that does
-- not ask
pub next-gets : (s : Setting) (next : ℕ) (v : Count) (p : NodeState) → gets_block s next v p ≡ true
    → (next ≤ end_of s) × (next_after s next v p ≡ next + size_below p)
unfolding gets_block next_after
next-gets s next v p e =
    let t = and_parts (asks s next v p) (nat_le (next + size_below p) (end_of s)) e in
    ((asks-then s next v p t.0).1, ap (λ (u : Bool). cond u (next + size_below p) next) t.0)

pub next-vain : (s : Setting) (next : ℕ) (v : Count) (p : NodeState) → gets_block s next v p ≡ false
    → asks s next v p ≡ true
    → (next ≤ end_of s) × (next_after s next v p ≡ next + size_below p)
    × (end_of s < next + size_below p)
unfolding gets_block next_after
next-vain s next v p e a
    = ((asks-then s next v p a).1, ap (λ (u : Bool). cond u (next + size_below p) next) a, past (asks s next v p) (next + size_below p) (end_of s) a e)
  where
    past : (t : Bool) (a b : ℕ) → t ≡ true → (t && nat_le a b) ≡ false → b < a
    past t a b h e = grind (arith, nat_tests)

pub next-asked : (s : Setting) (next : ℕ) (v : Count) (p : NodeState) → asks s next v p ≡ true
    → next_after s next v p ≡ next + size_below p
unfolding next_after
next-asked s next v p a = ap (λ (u : Bool). cond u (next + size_below p) next) a

pub next-stays : (s : Setting) (next : ℕ) (v : Count) (p : NodeState) → asks s next v p ≡ false
    → next_after s next v p ≡ next
unfolding next_after
next-stays s next v p a = ap (λ (u : Bool). cond u (next + size_below p) next) a

module _ {S O : Type 0} (g : Game S O) (fair : Fair g) (p q : ℕ → Count) where
  -- the counts at the leaf
  pub state-count : (os : List LinkedBlock) (x : ℕ) (s : S)
      → (state_at g p q os x s).0 ≡ p (leaf_at g p q os x)
  state-count [] x s = refl
  state-count (b ∷ os) x s = ⊎_elim
      (λ (t : (b.parent == x) ≡ true).
      let j : ℕ = pick g p q b x in
      ap (λ (f : S → Count × S). (f s).0)
      (down-here (state_leaf g p q) (state_inner g p q) b os x t)
      ∙ state-count os (child b j) (g.next s (cell_at b j))
      ∙ sym (ap p (down-here (λ (y : ℕ). y) (leaf_inner g p q) b os x t)))
      (λ (t : (b.parent == x) ≡ false).
      ap (λ (f : S → Count × S). (f s).0)
      (down-else (state_leaf g p q) (state_inner g p q) b os x t)
      ∙ state-count os x s ∙ sym (ap p (down-else (λ (y : ℕ). y) (leaf_inner g p q) b os x t)))
      (cases_Bool (b.parent == x))

  -- with a new block below the leaf, the walk ends at one of its nodes
  pub leaf-snoc : (n : LinkedBlock) (os : List LinkedBlock) (x : ℕ) → n.parent ≡ leaf_at g p q os x
      → leaf_at g p q (os ++ n ∷ []) x ≡ child n (pick g p q n n.parent)
  leaf-snoc n [] x e = down-here (λ (y : ℕ). y) (leaf_inner g p q) n [] x (eq-eqb n.parent x e)
      ∙ ap (λ (z : ℕ). child n (pick g p q n z)) (sym e)
  leaf-snoc n (b ∷ os) x e = ⊎_elim
      (λ (t : (b.parent == x) ≡ true). down-here (λ (y : ℕ). y) (leaf_inner g p q) b (os ++ n ∷ []) x t
      ∙ leaf-snoc n os (child b (pick g p q b x))
      (e ∙ down-here (λ (y : ℕ). y) (leaf_inner g p q) b os x t))
      (λ (t : (b.parent == x) ≡ false). down-else (λ (y : ℕ). y) (leaf_inner g p q) b (os ++ n ∷ []) x t
      ∙ leaf-snoc n os x (e ∙ down-else (λ (y : ℕ). y) (leaf_inner g p q) b os x t))
      (cases_Bool (b.parent == x))

  -- the walk reads nothing but the counts under its node
  pub state-same : (p' q' : ℕ → Count) (os : List LinkedBlock) (x : ℕ) (s : S)
      → Sprouts os → Out os x
      → ((w : ℕ) → top os w ≡ x → p' w ≡ p w) → ((w : ℕ) → top os w ≡ x → (w ≡ x → ⊥) → q' w ≡ q w)
      → state_at g p' q' os x s ≡ state_at g p q os x s
  state-same p' q' os x s sp out hp hq =
      state-tree g fair p' q' os x 0 nothing s sp
      ∙ ap (λ t. leaf_state g t s) (same-under p q p' q' os x 0 nothing sp out hp hq)
      ∙ sym (state-tree g fair p q os x 0 nothing s sp)

-- After a leaf has got its block, or has asked in vain, the leaf of the walk asks for none.
pub widened-asks : (s : Setting) (r : ℕ) (c d : Config) → 0 < s.knobs.expand → Sprouts d.blocks
    → Out d.blocks r → Widened (search_game s) (root_state s) r c d
    → asks s d.next (walk_end (search_game s) (root_state s) r d).0
    (walk_end (search_game s) (root_state s) r d).1 ≡ false
widened-asks s r c d l sp out w =
    let g : Game NodeState Ending = search_game s in
    let u : NodeState = root_state s in
    let v : Count = (walk_end g u r c).0 in
    let p : NodeState = (walk_end g u r c).1 in
    let same : state_at g d.tally d.seen d.blocks r u ≡ state_at g c.tally c.seen d.blocks r u
    = state-same g
    (fair_game s) c.tally c.seen d.tally d.seen d.blocks r u sp out w.tally w.seen in
    ⊎_elim
    (λ (e : (n : LinkedBlock) × NewBlock g u r c d n).
    let n : LinkedBlock = e.0 in
    let b : NewBlock g u r c d n = e.1 in
    let j : ℕ = pick g c.tally c.seen n n.parent in
    let h : has_node n (child n j) ≡ true
    = child-has n j (pick-in g (fair_game s) c.tally c.seen n n.parent b.some) in
    let at : leaf_at g c.tally c.seen d.blocks r ≡ child n j
    = ap (λ (l : List LinkedBlock). leaf_at g c.tally c.seen l r) b.blocks
    ∙ leaf-snoc g (fair_game s) c.tally c.seen n c.blocks r b.parent in
    let none : (walk_end g u r d).0.visits ≡ 0
    = ap (λ (z : Count × NodeState). z.0.visits) same
    ∙ ap (λ (z : Count). z.visits)
    (state-count g (fair_game s) c.tally c.seen d.blocks r u ∙ ap c.tally at ∙ (b.blank (child n j) h).0) in
    unvisited-asks s d.next (walk_end g u r d).0 (walk_end g u r d).1 l none)
    (λ (e : (gets_block s c.next v p ≡ false) × (d.blocks ≡ c.blocks)).
    let as_before : walk_end g u r d ≡ walk_end g u r c = same
    ∙ ap (λ (l : List LinkedBlock). state_at g c.tally c.seen l r u) e.1 in
    ⊎_elim
    (λ (a : asks s c.next v p ≡ true).
    let t = next-vain s c.next v p e.0 a in
    past-asks s d.next (walk_end g u r d).0 (walk_end g u r d).1 (omega (arith, w.next, t.1, t.2)))
    (λ (a : asks s c.next v p ≡ false).
    let stay : d.next ≡ c.next = w.next ∙ next-stays s c.next v p a in
    (λ i. asks s (stay i) (as_before i).0 (as_before i).1) ∙ a)
    (cases_Bool (asks s c.next v p)))
    w.block
