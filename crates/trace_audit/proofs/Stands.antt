-- Where playouts stand while sums are handed up.
use Rattle.std.proofs.Common.{◌≡◌, ℕ, ◌+◌, ◌<◌, ◌≤◌, Bool, true, false, cond, List, [], ◌∷◌, refl}
use Rattle.std.proofs.Common.{sym, ap, ◌∙◌, subst, ⊎_elim, inl, inr, arith}
use Rattle.std.specs.Prelude.{◌||◌, nat_le}
use Rattle.std.specs.List.{list_any}
use Rattle.std.proofs.Math.Bool.{or-false}
use Rattle.std.proofs.lemmas.Bool.{cases_eq, cases_lt, eqb-true, false_from_ne_true, le-leb}
use Rattle.std.proofs.lemmas.Bool.{le-ltb, lt-leb, lt-ltb, or_cases}
use Rattle.hex_cells.specs.Sets.{has as has_cell}
use Rattle.hex_cells.specs.declared.colours.Colour.{Colour}
use Rattle.hex_board.specs.Positions.{stones_of}
use Rattle.hex_board.proofs.Placed.{placed_keeps}
use Rattle.tree_words.specs.Settings.{Setting}
use Rattle.tree_words.specs.Words.{root_at}
use Rattle.tree_words.specs.Blocks.{LinkedBlock, In, InOrder, has_node, is_node, place, cell_at}
use Rattle.tree_words.specs.Paths.{NodeState, root_state, state_after, node_state, node_board}
use Rattle.tree_words.specs.Paths.{path_of}
use Rattle.tree_words.proofs.Blocks.BlockLaws.{covers_if, has-at}
use Rattle.tree_words.proofs.Blocks.GameLaws.{in-parent, up-in}
use Rattle.tree_words.proofs.Blocks.Members.{node-in}
use Rattle.tree_words.proofs.Boards.EmptyLaws.{up-root}
use Rattle.tree_words.proofs.Walks.Countings.{has-one}
use Rattle.trace_audit.specs.Sums.{stand, level}
use Rattle.trace_audit.proofs.Downward.{parent_low}
use Rattle.tree_words.proofs.Blocks.NodeLaws.{covers-one}

-- what holds of the root, and of the nodes of a block if it holds of its parent, holds of each node
pub from_root : (r : ℕ) (bs : List LinkedBlock) (P : ℕ → Type 0) → InOrder r bs → P r
    → ((b : LinkedBlock) (y : ℕ) → In b bs → has_node b y ≡ true → P b.parent → P y) → (y : ℕ)
    → is_node r bs y ≡ true → P y
from_root r [] P g root step y n = subst P (sym (eqb-true y r n)) root
from_root r (c ∷ cs) P g root step y n =
    let older : (z : ℕ) → is_node r cs z ≡ true → P z
    = from_root r cs P g.1 root (λ b z i. step b z (inr i)) in
    ⊎_elim
    (λ (h : has_node c y ≡ true). step c y (inl refl) h (older c.parent g.0.parent))
    (λ (h : is_node r cs y ≡ true). older y h)
    (or_cases (has_node c y) (is_node r cs y) n)

module _ (s : Setting) (bs : List LinkedBlock) (g : InOrder (root_at s) bs) where
  abbrev r : ℕ
  r = root_at s

  abbrev step : ℕ → LinkedBlock → ℕ → ℕ → ℕ
  step e b y above = cond (nat_le e b.start) above y

  -- blocks that begin at one word are one
  pub one_start : (b d : LinkedBlock) → In b bs → In d bs → b.start ≡ d.start → b ≡ d
  one_start b d i j e
      = covers-one r bs b d b.start g i j (covers_if b.start b (omega arith) (omega arith))
      (covers_if b.start d (omega (arith, e)) (omega (arith, e)))

  pub stand_root : (e : ℕ) → stand s bs e r ≡ r
  stand_root e = up-root r (step e) r bs g

  -- in a block that has handed up its sums it stands above
  pub stand_up : (e : ℕ) (b : LinkedBlock) (y : ℕ) → In b bs → has_node b y ≡ true → e ≤ b.start
      → stand s bs e y ≡ stand s bs e b.parent
  stand_up e b y i n l = up-in r (step e) r bs b y g i n
      ∙ ap (λ (t : Bool). cond t (stand s bs e b.parent) y) (le-leb e b.start l)

  -- and in another one it stands where it is
  pub stand_here : (e : ℕ) (b : LinkedBlock) (y : ℕ) → In b bs → has_node b y ≡ true → b.start < e
      → stand s bs e y ≡ y
  stand_here e b y i n l = up-in r (step e) r bs b y g i n
      ∙ ap (λ (t : Bool). cond t (stand s bs e b.parent) y) (lt-leb e b.start l)

  pub stand_low : (e y : ℕ) → is_node r bs y ≡ true → y < e → stand s bs e y ≡ y
  stand_low e y n l = ⊎_elim
      (λ (q : y ≡ r). ap (stand s bs e) q ∙ stand_root e ∙ sym q)
      (λ (q : (b : LinkedBlock) × In b bs × (has_node b y ≡ true)). let at = has-at q.0 y q.2 in stand_here e q.0 y q.1 q.2 (omega (arith, at.2, l)))
      (node-in r bs y n)

  not_root : (b : LinkedBlock) → In b bs → has_node b r ≡ false
  not_root b i
      = false_from_ne_true (has_node b r)
      (λ q. let f = has-at b r q in let low = parent_low r bs b g i in omega (arith, f.2, low.1))

  -- a block more has handed up its sums
  pub stand_next : (d : LinkedBlock) → In d bs → (y : ℕ) → is_node r bs y ≡ true
      → stand s bs d.start y ≡ cond (has_node d (stand s bs (d.start + 1) y)) d.parent
      (stand s bs (d.start + 1) y)
  stand_next d i
      = from_root r bs
      (λ y. stand s bs d.start y ≡ cond (has_node d (stand s bs (d.start + 1) y)) d.parent (stand s bs (d.start + 1) y)) g root next
    where
      stays : (y z : ℕ) → z ≡ y → has_node d y ≡ false → y ≡ cond (has_node d z) d.parent z
      stays y z e f
          = sym (ap (λ (x : ℕ). cond (has_node d x) d.parent x) e ∙ ap (λ (t : Bool). cond t d.parent y) f)

      root : stand s bs d.start r ≡ cond (has_node d (stand s bs (d.start + 1) r)) d.parent
          (stand s bs (d.start + 1) r)
      root = stand_root d.start ∙ stays r (stand s bs (d.start + 1) r) (stand_root (d.start + 1))
          (not_root d i)

      next : (b : LinkedBlock) (y : ℕ) → In b bs → has_node b y ≡ true
          → stand s bs d.start b.parent ≡ cond (has_node d (stand s bs (d.start + 1) b.parent)) d.parent (stand s bs (d.start + 1) b.parent)
          → stand s bs d.start y ≡ cond (has_node d (stand s bs (d.start + 1) y)) d.parent
          (stand s bs (d.start + 1) y)
      next b y j n h = ⊎_elim
          (λ (l : b.start < d.start + 1). ⊎_elim
          (λ (e : b.start ≡ d.start).
          let here : stand s bs (d.start + 1) y ≡ y = stand_here (d.start + 1) b y j n l in
          let own : has_node d y ≡ true
          = ap (λ (c : LinkedBlock). has_node c y) (sym (one_start b d j i e)) ∙ n in
          let low = parent_low r bs d g i in
          stand_up d.start b y j n (omega (arith, e))
          ∙ ap (λ (c : LinkedBlock). stand s bs d.start c.parent) (one_start b d j i e)
          ∙ stand_low d.start d.parent (in-parent r bs d g i) low.0
          ∙ sym (ap (λ (x : ℕ). cond (has_node d x) d.parent x) here ∙ ap (λ (t : Bool). cond t d.parent y) own))
          (λ (e : b.start ≡ d.start → ⊥).
          stand_here d.start b y j n (omega (arith, l, e))
          ∙ stays y (stand s bs (d.start + 1) y) (stand_here (d.start + 1) b y j n l)
          (false_from_ne_true (has_node d y) (λ q. e (ap (λ (c : LinkedBlock). c.start) (has-one r bs b d y g j i n q)))))
          (cases_eq b.start d.start))
          (λ (l : d.start + 1 ≤ b.start).
          stand_up d.start b y j n (omega (arith, l)) ∙ h
          ∙ sym (ap (λ (x : ℕ). cond (has_node d x) d.parent x) (stand_up (d.start + 1) b y j n (omega (arith, l)))))
          (cases_lt b.start (d.start + 1))

  -- where no block begins nothing is handed up
  pub stand_past : (e : ℕ) → ((b : LinkedBlock) → In b bs → b.start ≡ e → ⊥) → (y : ℕ)
      → is_node r bs y ≡ true → stand s bs e y ≡ stand s bs (e + 1) y
  stand_past e none = from_root r bs (λ y. stand s bs e y ≡ stand s bs (e + 1) y) g
      (stand_root e ∙ sym (stand_root (e + 1)))
      (λ b y j n h. ⊎_elim
      (λ (l : b.start < e). stand_here e b y j n l ∙ sym (stand_here (e + 1) b y j n (omega (arith, l))))
      (λ (l : e ≤ b.start).
      let d = none b j in
      stand_up e b y j n (omega (arith, l)) ∙ h
      ∙ sym (stand_up (e + 1) b y j n (omega (arith, l, d))))
      (cases_lt b.start e))

  -- if all blocks have handed up their sums to those in which a node passes the test, and none of
  -- these to others, the test tells whether a node of the path passes it
  pub stand_tells : (e : ℕ) (test : ℕ → Bool)
      → ((b : LinkedBlock) (y : ℕ) → In b bs → has_node b y ≡ true → e ≤ b.start → test y ≡ false)
      → ((b : LinkedBlock) → In b bs → b.start < e → list_any test (path_of s bs b.parent) ≡ false)
      → (y : ℕ) → is_node r bs y ≡ true → test (stand s bs e y) ≡ list_any test (path_of s bs y)
  stand_tells e test above below
      = from_root r bs (λ y. test (stand s bs e y) ≡ list_any test (path_of s bs y)) g
      (ap test (stand_root e) ∙ sym (or-false (test r)) ∙ sym (ap (list_any test) (up-root (r ∷ []) (λ b y rest. y ∷ rest) r bs g)))
      (λ b y j n h.
      let path : path_of s bs y ≡ y ∷ path_of s bs b.parent
      = up-in (r ∷ []) (λ c z rest. z ∷ rest) r bs b y g j n in
      ⊎_elim
      (λ (l : b.start < e). ap test (stand_here e b y j n l) ∙ sym (ap (list_any test) path ∙ ap (λ (t : Bool). test y || t) (below b j l)
      ∙ or-false (test y)))
      (λ (l : e ≤ b.start). ap test (stand_up e b y j n (omega (arith, l))) ∙ h
      ∙ sym (ap (list_any test) path ∙ ap (λ (t : Bool). t || list_any test (path_of s bs b.parent)) (above b y j n (omega (arith, l)))))
      (cases_lt b.start e))

  -- the stones of the node where a playout stands lie on its leaf's board
  pub stand_keeps : (e : ℕ) (owner : Colour) (c : ℕ) (y : ℕ) → is_node r bs y ≡ true
      → has_cell (stones_of (node_board s bs (stand s bs e y)) owner) c ≡ true
      → has_cell (stones_of (node_board s bs y) owner) c ≡ true
  stand_keeps e owner c
      = from_root r bs
      (λ y. has_cell (stones_of (node_board s bs (stand s bs e y)) owner) c ≡ true → has_cell (stones_of (node_board s bs y) owner) c ≡ true) g
      (λ h. ap (λ (x : ℕ). has_cell (stones_of (node_board s bs x) owner) c) (sym (stand_root e)) ∙ h)
      (λ b y j n q h. ⊎_elim
      (λ (l : b.start < e). ap (λ (x : ℕ). has_cell (stones_of (node_board s bs x) owner) c) (sym (stand_here e b y j n l)) ∙ h)
      (λ (l : e ≤ b.start).
      let state : node_state s bs y ≡ state_after (node_state s bs b.parent) (cell_at b (place b y))
      = up-in (root_state s)
      (λ d z above. state_after above (cell_at d (place d z))) r bs b y g j n in
      let old = q (ap (λ (x : ℕ). has_cell (stones_of (node_board s bs x) owner) c) (sym (stand_up e b y j n (omega (arith, l)))) ∙ h) in
      ap (λ (p : NodeState). has_cell (stones_of p.board owner) c) state
      ∙ placed_keeps (node_board s bs b.parent) (node_state s bs b.parent).player
      (cell_at b (place b y)) owner c old)
      (cases_lt b.start e))

  -- the level of a block
  pub level_low : (e b : ℕ) → b < e → level e b ≡ e
  level_low e b l = ap (λ (t : Bool). cond t e (b + 1)) (lt-ltb b e l)

  pub level_high : (e b : ℕ) → e ≤ b → level e b ≡ b + 1
  level_high e b l = ap (λ (t : Bool). cond t e (b + 1)) (le-ltb b e l)
