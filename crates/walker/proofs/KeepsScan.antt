-- The looks at a child keep Belongs.
use Rattle.std.proofs.Common.{◌≡◌, ◌≢◌, ℕ, ◌+◌, ◌*◌, ◌<◌, ◌≤◌, true, List, [], ◌∷◌}
use Rattle.std.proofs.Common.{length, map, refl, sym, ap, ◌∙◌, subst, arith}
use Rattle.std.proofs.Math.Nat.{mul-le-mul}
use Rattle.hex_cells.specs.Sets.{members}
use Rattle.hex_cells.specs.declared.colours.Colour.{Colour}
use Rattle.hex_cells.proofs.Bits.{same_out}
use Rattle.hex_cells.proofs.Counts.{members_less}
use Rattle.hex_board.specs.Positions.{Position, is_empty_at, placed}
use Rattle.hex_board.proofs.Placed.{placed_size, placed_empty, placed_leaves, empty_on}
use Rattle.uct_table.specs.Choice.{Child, choice_of, kept_of}
use Rattle.uct_table.proofs.Keeping.{kept_of_is}
use Rattle.play_out.specs.Fills.{empties_of}
use Rattle.tree_words.specs.Settings.{Setting}
use Rattle.tree_words.specs.Words.{root_at}
use Rattle.tree_words.specs.Blocks.{LinkedBlock, In, InOrder, child, has_node}
use Rattle.tree_words.specs.Complete.{set_of}
use Rattle.tree_words.specs.Sequence.{search_game, child_of, chosen_of}
use Rattle.tree_words.specs.Descents.{pairs_of, pick}
use Rattle.tree_words.specs.declared.steps.Op.TheVariants.{Look}
use Rattle.tree_words.proofs.Blocks.BlockLaws.{move-stays}
use Rattle.tree_words.proofs.Blocks.NodeLaws.{nodes-apart, stays-clear}
use Rattle.tree_words.proofs.Blocks.GameLaws.{in-node, in-parent}
use Rattle.tree_words.proofs.Boards.EmptyLaws.{count_empties}
use Rattle.tree_words.proofs.Boards.SetNumbers.{set_empties}
use Rattle.tree_words.proofs.Walks.Countings.{has-one}
use Rattle.arena_rule.specs.Views.{SeatView}
use Rattle.arena_rule.specs.Lookups.{is_known, tally_loaded, seen_loaded}
use Rattle.arena_rule.specs.Afters.{after, looked, with_word}
use Rattle.arena_rule.specs.IsView.{IsView}
use Rattle.walker.specs.declared.scans.Phase.{Phase}
use Rattle.walker.specs.declared.machine.Walker.{Walker}
use Rattle.walker.specs.Scans.{ScanData}
use Rattle.walker.specs.Machine.{state_in}
use Rattle.walker.specs.Belongs.{Belongs, Down, IsBelow, IsScan, InChild, HasKept, KeepsBest}
use Rattle.walker.specs.Belongs.{children_loaded, AtChild}
use Rattle.walker.proofs.KnownLaws.{one-order, LiesIn, known-lies}
use Rattle.walker.proofs.Going.{Goes, Untouched, look-goes, down-goes, loaded-goes, tally-goes}
use Rattle.walker.proofs.Going.{seen-goes}
use Rattle.walker.proofs.ChildLaws.{children-all, children-same}
use Rattle.tree_words.proofs.Walks.Down.{child-has}

-- a stone takes one of the empty cells
pub fewer-empties : (p : Position) (player : Colour) (c : ℕ) → p.size ≤ 11 → is_empty_at p c ≡ true
    → length (empties_of (placed p player c)) < length (empties_of p)
fewer-empties p player c small e =
    let q : Position = placed p player c in
    let most : p.size * p.size ≤ 11 * 11 = mul-le-mul small small in
    let on : c < p.size * p.size = empty_on p c e in
    let size : q.size ≡ p.size = placed_size p player c in
    let less : members (set_of (empties_of q)) 121 < members (set_of (empties_of p)) 121
    = members_less (set_of (empties_of q)) (set_of (empties_of p)) c 121
    (λ k t. set_empties p k ∙ (placed_empty p player c k (sym (set_empties q k) ∙ t)).0)
    (set_empties p c ∙ e)
    (set_empties q c ∙ (placed_leaves p player c c ∙ same_out (is_empty_at p c) c)) (omega arith) in
    omega (
      arith,
      less,
      count_empties (set_of (empties_of q)) q (omega (arith, size, small)) (set_empties q),
      count_empties (set_of (empties_of p)) p small (set_empties p),
    )

-- what a scan keeps does not hang on where it looks
pub keeps-look : (d : ScanData) (xs : List Child) (at t : ℕ) (p : Phase) → KeepsBest d xs
    → KeepsBest (record d { at = at; phase = p; tally = t }) xs
keeps-look d [] at t p h = h
keeps-look d (x ∷ xs) at t p h
    = record { place = h.place; child = h.child; is = h.is; visits = h.visits; fresh = h.fresh; score = h.score; goes = h.goes }

pub keeps-has : (d : ScanData) (xs : List Child) → 0 < length xs → KeepsBest d xs → HasKept d xs
keeps-has d [] l h = absurd (omega arith)
keeps-has d (x ∷ xs) l h = h

-- the pick of the children that were looked at
pub pick-is : (s : Setting) (v : SeatView) (c : LinkedBlock) (p n : ℕ)
    → (tally_loaded v c.parent).visits ≡ p → s.knobs.weight ≡ n
    → pick (search_game s) (tally_loaded v) (seen_loaded v) c c.parent ≡ kept_of p n
    (children_loaded v c (length c.cells))
unfolding chosen_of
pick-is s v c p n e f =
    (λ i. choice_of (e i) (f i) (map child_of (pairs_of (tally_loaded v) (seen_loaded v) (c.start + 4) c.cells)))
    ∙ sym (kept_of_is p n (map child_of (pairs_of (tally_loaded v) (seen_loaded v) (c.start + 4) c.cells)))
    ∙ ap (kept_of p n) (sym (children-all v c))

module _ (w : Walker) (v : SeatView) (b : Belongs w v) (x : ℕ) (a : AtChild w v) where
  pub order : InOrder (root_at v.shape) v.known
  order = one-order v b.view b.width

  pub lies : (d : LinkedBlock) → In d v.known → LiesIn v.shape d
  lies d i = known-lies v.shape v.known d order b.view.known i

  pub above : (d : LinkedBlock) → In d v.known → d.parent < d.start
  above d i = (lies d i).above

  pub here : w.scan.place < length a.block.cells
  here = omega (arith, a.scan.place, a.scan.count)

  pub kid : (i : ℕ) → i < length a.block.cells → is_known v (child a.block i) ≡ true
  kid i l = in-node (root_at v.shape) v.known a.block (child a.block i) a.below.known
      (child-has a.block i l)

  -- a look at a count of the child in hand
  module _ (j : ℕ) (low : 2 ≤ j) (high : j < 4)
      (at : w.scan.at ≡ child a.block w.scan.place + j) where
    other-node : (y k : ℕ) → is_known v y ≡ true → k < 4 → w.scan.at ≡ y + k
        → child a.block w.scan.place ≡ y
    other-node y k n l e
        = nodes-apart (root_at v.shape) v.known (child a.block w.scan.place) y j k order
        (kid w.scan.place here) n high l (sym at ∙ e)

    behind : w.node < child a.block w.scan.place
    behind = let q = above a.block a.below.known in omega (arith, q, a.below.parent)

    pub not-node : w.scan.at ≢ w.node + 2
    not-node e = let q = other-node w.node 2 a.down.known (omega arith) e in
        omega (arith, q, behind)

    not-child : (d : LinkedBlock) (i : In d v.known) (m : d.start < w.node) (k n : ℕ)
        → k < length d.cells → n < 4 → w.scan.at ≢ child d k + n
    not-child d i m k n l h e =
        let node : is_known v (child d k) ≡ true = in-node (root_at v.shape) v.known d (child d k) i
        (child-has d k l) in
        let q = other-node (child d k) n node h e in
        let one : a.block ≡ d
        = has-one (root_at v.shape) v.known a.block d (child d k) order a.below.known i
        (subst (λ (y : ℕ). has_node a.block y ≡ true) q (child-has a.block w.scan.place here))
        (child-has d k l) in
        let up = above a.block a.below.known in
        let s : a.block.start ≡ d.start = ap (λ (z : LinkedBlock). z.start) one in
        omega (arith, up, a.below.parent, m, s)

    pub untouched : (d : LinkedBlock) → In d v.known → d.start < w.node → Untouched d w.scan.at
    untouched d i m = record {
      parent = λ e.
          let q = other-node d.parent 2 (in-parent (root_at v.shape) v.known d order i)
          (omega arith) e in
          let up = above d i in omega (arith, q, up, m, behind);
      tally = λ k l. not-child d i m k 2 l (omega arith);
      seen = λ k l. not-child d i m k 3 l (omega arith);
    }

    pub count-down : IsView (after v (Look w.scan.at) x) → Down w (after v (Look w.scan.at) x)
    unfolding with_word looked
    count-down iu = down-goes v (after v (Look w.scan.at) x) w.scan.at
        (look-goes v w.scan.at x b.width iu) w.number w.node w.visits
        (state_in w) w.way a.down not-node untouched above refl refl refl

    pub count-else : (i k : ℕ) → i < w.scan.place → 2 ≤ k → k < 4 → w.scan.at ≢ child a.block i + k
    count-else i k l m n e = omega (arith, at, e, l, low, high)

  -- a look at the move of the child in hand
  pub move-clear : w.scan.at ≡ child a.block w.scan.place → (y j : ℕ) → is_known v y ≡ true → 2 ≤ j
      → j < 4 → w.scan.at ≢ y + j
  move-clear at y j n l m e
      = stays-clear (root_at v.shape) v.known a.block (4 + 4 * w.scan.place) y j order a.below.known
      (let h = here in omega (arith, h)) (move-stays w.scan.place) n (omega arith) m
      (omega (arith, at, e))

  module _ (iu : IsView (after v (Look w.scan.at) x)) where
    pub goes : Goes v (after v (Look w.scan.at) x) w.scan.at
    goes = look-goes v w.scan.at x b.width iu

    pub below-after : (scan : ScanData)
        → IsBelow (record w { scan = scan }) (after v (Look w.scan.at) x) a.block
    below-after scan
        = record { known = goes.known a.block a.below.known; start = a.below.start; parent = a.below.parent; cells = a.below.cells }

    -- the scan goes on in its child
    pub in-its-child : (at t : ℕ) (p : Phase)
        → ((i k : ℕ) → i < w.scan.place → 2 ≤ k → k < 4 → w.scan.at ≢ child a.block i + k)
        → InChild p (after v (Look w.scan.at) x) (record w.scan { at = at; phase = p; tally = t })
        (child a.block w.scan.place)
        → IsScan (record w { scan = record w.scan { at = at; phase = p; tally = t } })
        (after v (Look w.scan.at) x) a.block
    unfolding with_word looked
    in-its-child at t p ne stands =
        let u : SeatView = after v (Look w.scan.at) x in
        let same : children_loaded u a.block w.scan.place ≡ children_loaded v a.block w.scan.place
        = children-same v u a.block w.scan.place (let h = here in omega (arith, h))
        (λ k l. tally-goes v u w.scan.at goes (child a.block k) (ne k 2 l (omega arith) (omega arith)))
        (λ k l. seen-goes v u w.scan.at goes (child a.block k) (ne k 3 l (omega arith) (omega arith))) in
        record {
          parent = a.scan.parent;
          weight = a.scan.weight;
          count = a.scan.count;
          place = a.scan.place;
          stands = stands;
          tallies = λ i l. loaded-goes v u w.scan.at goes (child a.block i + 2)
              (ne i 2 l (omega arith) (omega arith)) (a.scan.tallies i l);
          seen = λ i l. loaded-goes v u w.scan.at goes (child a.block i + 3)
              (ne i 3 l (omega arith) (omega arith)) (a.scan.seen i l);
          few = a.scan.few;
          keeps = subst (KeepsBest (record w.scan { at = at; phase = p; tally = t })) (sym same)
              (keeps-look w.scan (children_loaded v a.block w.scan.place) at t p a.scan.keeps);
        }
