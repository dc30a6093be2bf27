-- The sums of a block handed up to its parent's.
use Rattle.std.proofs.Common.{◌≡◌, ℕ, ◌+◌, ◌-◌, ◌*◌, ◌<◌, ◌≤◌, ◌^◌, Bool, true, false, cond}
use Rattle.std.proofs.Common.{List, [], ◌∷◌, length, length-set, set, get_or-set_same}
use Rattle.std.proofs.Common.{get_or-set_other, slice_index, refl, sym, ap, ◌∙◌, subst, ⊎_elim}
use Rattle.std.proofs.Common.{arith}
use Rattle.std.specs.Prelude.{◌==◌, ◌&&◌, not}
use Rattle.std.proofs.Math.Bool.{and-true}
use Rattle.std.proofs.lemmas.Bool.{cases_Bool, cases_eq, cases_lt, eq-eqb, ne_eqb}
use Rattle.std.proofs.lemmas.Bool.{false_from_ne_true}
use Rattle.hex_cells.specs.Colours.{other_of}
use Rattle.hex_cells.specs.Sets.{has as has_cell}
use Rattle.hex_cells.specs.declared.colours.Colour.{Colour}
use Rattle.hex_cells.specs.declared.colours.Colour.TheVariants.{Black, White}
use Rattle.hex_board.specs.Positions.{Position, is_empty_at, placed, stones_of}
use Rattle.hex_board.proofs.Placed.{empty_on, placed_keeps, placed_leaves, placed_own}
use Rattle.hex_cells.proofs.WithCell.{with_cell-here}
use Rattle.play_out.specs.Fills.{empties_of, filled, filled_by, order_of}
use Rattle.tree_words.specs.Settings.{Setting, IsSetting}
use Rattle.tree_words.specs.Words.{Count, cell_in, count_in, root_at, next_in, node_at, nodes_in}
use Rattle.tree_words.specs.Blocks.{LinkedBlock, In, cell_at, has_node, is_node, one_if, place}
use Rattle.tree_words.specs.Complete.{Linked, allowed_cells}
use Rattle.tree_words.specs.Paths.{NodeState, mover_of, node_board, node_state, root_state}
use Rattle.tree_words.specs.Paths.{state_after}
use Rattle.tree_words.specs.Records.{leaf_of, outcome_in}
use Rattle.tree_words.specs.Sequence.{outcome_of}
use Rattle.tree_words.specs.Walks.{plus}
use Rattle.tree_words.proofs.Blocks.BlockLaws.{has-at, root_node}
use Rattle.tree_words.proofs.Blocks.GameLaws.{in-parent, up-in, whole-in}
use Rattle.tree_words.proofs.Blocks.Members.{node-in}
use Rattle.tree_words.proofs.Walks.Adds.{is_child}
use Rattle.tree_words.proofs.Walks.Asking.{spot-size}
use Rattle.tree_words.proofs.Walks.Countings.{has-one}
use Rattle.hex_cells.proofs.ColourLaws.{other_back}
use Rattle.trace_audit.specs.Gains.{AreUnseen, GainsBlock, HasGiftRoom, cell_of_node, rest_gift}
use Rattle.trace_audit.specs.Gains.{turned_word}
use Rattle.trace_audit.specs.Sums.{AreHanded, chooser, has_stone, level, stand, standing, tally_of}
use Rattle.trace_audit.proofs.Downward.{parent_low}
use Rattle.trace_audit.proofs.Gained.{counts_gained, gained_move, node_inside, own_node}
use Rattle.trace_audit.proofs.Placed.{count_is, move_of}
use Rattle.trace_audit.proofs.Stands.{level_high, level_low, stand_keeps, stand_next}
use Rattle.trace_audit.proofs.Sums.{and_sum, count_plus, tally_same, tally_small, tally_sum}
use Rattle.trace_audit.proofs.Sums.{tally_turned, word_fits, word_of}
use Rattle.trace_audit.proofs.Unseen.{empty_stands}

-- on a filled board a cell has a stone of one player just if it has none of the other
pub other_stone : (full : Position) (p : Colour) (c : ℕ)
    → has_cell full.white c ≡ not (has_cell full.black c)
    → has_cell (stones_of full (other_of p)) c ≡ not (has_cell (stones_of full p) c)
other_stone full Black c e = e
other_stone full White c e = turned (has_cell full.black c) ∙ ap not (sym e)
  where
    turned : (t : Bool) → t ≡ not (not t)
    turned true = refl
    turned false = refl

either : (d t u : Bool) → u ≡ not t → one_if d ≡ one_if (d && t) + one_if (d && u)
either true true u e = ap (λ (v : Bool). 1 + one_if v) (sym e)
either true false u e = ap (λ (v : Bool). 0 + one_if v) (sym e)
either false t u e = refl

-- the stones of a board stay when it is filled
kept_by : (q : Position) (player : Colour) (cells : List ℕ) (owner : Colour) (c : ℕ)
    → has_cell (stones_of q owner) c ≡ true
    → has_cell (stones_of (filled_by q player cells) owner) c ≡ true
unfolding filled_by
kept_by q player [] owner c e = e
kept_by q player (z ∷ cells) owner c e = kept_by (placed q player z) (other_of player) cells owner c
    (placed_keeps q player z owner c e)

outcome_keeps : (s : Setting) (k : ℕ) (q : NodeState) (owner : Colour) (c : ℕ)
    → has_cell (stones_of q.board owner) c ≡ true
    → has_cell (stones_of (outcome_of s k q).full owner) c ≡ true
unfolding outcome_of filled
outcome_keeps s k q owner c e = kept_by q.board q.player (order_of q.board s.knobs.seed k) owner c e

module _ (s : Setting) (words : List ℕ) (bs : List LinkedBlock) (h : IsSetting s)
    (lk : Linked s words bs) (sums : List ℕ) (d : LinkedBlock) (i : In d bs)
    (a : AreHanded s bs words sums (d.start + 1)) where
  abbrev r : ℕ
  r = root_at s

  abbrev n : ℕ
  n = s.knobs.playouts

  abbrev x : ℕ
  x = d.parent

  abbrev before : ℕ → ℕ → ℕ
  before b = stand s bs (level (d.start + 1) b)

  abbrev after : ℕ → ℕ → ℕ
  after b = stand s bs (level d.start b)

  -- where playout k stands, and whether that is in the block
  abbrev at : ℕ → ℕ
  at k = stand s bs (d.start + 1) (leaf_of words k)

  abbrev below : ℕ → Bool
  below k = has_node d (at k)

  few : n < 2 ^ 31
  few = let ranges = h.ranges in omega (arith, ranges.playouts)

  low : (x < d.start) × (r + 4 ≤ d.start)
  low = parent_low r bs d lk.order i

  parent_node : is_node r bs x ≡ true
  parent_node = in-parent r bs d lk.order i

  -- the other player's count of the block
  abbrev amount : Colour → Count
  amount p = tally_of s bs words n below p

  level_own : level (d.start + 1) d.start ≡ d.start + 1
  level_own = level_low s bs lk.order (d.start + 1) d.start (omega arith)

  pub amount_is : (p : Colour) → p ≡ other_of (chooser s bs d)
      → turned_word (slice_index sums d.start) ≡ word_of (amount p)
  amount_is p e = tally_turned s bs words n (slice_index sums d.start) below (chooser s bs d) p e
      (a.counts.total d i ∙ ap (λ (l : ℕ). tally_of s bs words n (λ k. has_node d (stand s bs l (leaf_of words k))) (chooser s bs d)) level_own)

  -- where it stands next
  moves : (k : ℕ) → k < n → stand s bs d.start (leaf_of words k) ≡ cond (below k) x (at k)
  moves k l = stand_next s bs lk.order d i (leaf_of words k) (a.nodes k l)

  -- a test that no node of the block passes
  more : (test : ℕ → Bool) → ((z : ℕ) → has_node d z ≡ true → test z ≡ false) → test x ≡ true
      → (k : ℕ) → k < n → one_if (test (stand s bs d.start (leaf_of words k))) ≡ one_if
      (test (at k)) + one_if (below k)
  more test out top k l = ap (λ (z : ℕ). one_if (test z)) (moves k l) ∙ ⊎_elim
      (λ (t : below k ≡ true). ap (λ (u : Bool). one_if (test (cond u x (at k)))) t ∙ ap one_if top ∙ sym (λ j. one_if (out (at k) t j) + one_if (t j)))
      (λ (t : below k ≡ false). ap (λ (u : Bool). one_if (test (cond u x (at k)))) t ∙ plain (one_if (test (at k))) (below k) t)
      (cases_Bool (below k))
    where
      plain : (m : ℕ) (t : Bool) → t ≡ false → m ≡ m + one_if t
      plain m t e = omega (arith, ap one_if e)

  same : (test : ℕ → Bool) → ((z : ℕ) → has_node d z ≡ true → test z ≡ false) → test x ≡ false
      → (k : ℕ) → k < n → test (stand s bs d.start (leaf_of words k)) ≡ test (at k)
  same test out top k l = ap test (moves k l) ∙ ⊎_elim
      (λ (t : below k ≡ true). ap (λ (u : Bool). test (cond u x (at k))) t ∙ top ∙ sym (out (at k) t))
      (λ (t : below k ≡ false). ap (λ (u : Bool). test (cond u x (at k))) t)
      (cases_Bool (below k))

  -- the levels of a block before and after
  level_same : (b : ℕ) → d.start ≤ b → level d.start b ≡ level (d.start + 1) b
  level_same b l = level_high s bs lk.order d.start b l ∙ ⊎_elim
      (λ (e : b ≡ d.start). ap (λ (q : ℕ). q + 1) e ∙ sym (level_low s bs lk.order (d.start + 1) b (omega (arith, e))))
      (λ (e : b ≡ d.start → ⊥). sym (level_high s bs lk.order (d.start + 1) b (omega (arith, e, l))))
      (cases_eq b d.start)

  level_before : (b : ℕ) → b < d.start → level (d.start + 1) b ≡ d.start + 1
  level_before b l = level_low s bs lk.order (d.start + 1) b (omega (arith, l))

  level_after : (b : ℕ) → b < d.start → level d.start b ≡ d.start
  level_after b l = level_low s bs lk.order d.start b l

  -- a count over where playouts stand, told by a block's first word, stays
  stays : (b : ℕ) (test : ℕ → ℕ → Bool) (p : Colour)
      → (b < d.start → (k : ℕ) → (z : ℕ) → has_node d z ≡ true → test z k ≡ false)
      → (b < d.start → (k : ℕ) → test x k ≡ false)
      → tally_of s bs words n (λ k. test (after b (leaf_of words k)) k) p ≡ tally_of s bs words n
      (λ k. test (before b (leaf_of words k)) k) p
  stays b test p out top = ⊎_elim
      (λ (l : b < d.start). tally_same s bs words n _ _ p p
      (λ k m. ap (λ (e : ℕ). test (stand s bs e (leaf_of words k)) k) (level_after b l) ∙ same (λ z. test z k) (out l k) (top l k) k m
      ∙ ap (λ (e : ℕ). test (stand s bs e (leaf_of words k)) k) (sym (level_before b l))) refl)
      (λ (l : d.start ≤ b). tally_same s bs words n _ _ p p
      (λ k m. ap (λ (e : ℕ). test (stand s bs e (leaf_of words k)) k) (level_same b (omega (arith, l)))) refl)
      (cases_lt b d.start)

  -- and grows by the block's
  grows : (b : ℕ) (test : ℕ → ℕ → Bool) (p : Colour) (w : ℕ → Bool) → b < d.start
      → ((z : ℕ) → has_node d z ≡ true → test z 0 ≡ false) → test x 0 ≡ true
      → tally_of s bs words n (λ k. test (after b (leaf_of words k)) 0 && w k) p
      ≡ plus (tally_of s bs words n (λ k. test (before b (leaf_of words k)) 0 && w k) p)
      (tally_of s bs words n (λ k. below k && w k) p)
  grows b test p w l out top
      = tally_sum s bs words n (λ k. test (before b (leaf_of words k)) 0 && w k) (λ k. below k && w k)
      (λ k. test (after b (leaf_of words k)) 0 && w k) p
      (λ k m. and_sum (test (after b (leaf_of words k)) 0) (test (before b (leaf_of words k)) 0) (below k) (w k)
      (ap (λ (e : ℕ). one_if (test (stand s bs e (leaf_of words k)) 0)) (level_after b l) ∙ more (λ z. test z 0) out top k m
      ∙ ap (λ (e : ℕ). one_if (test (stand s bs e (leaf_of words k)) 0) + one_if (below k))
      (sym (level_before b l))))

  alone : (f : ℕ → Bool) (p : Colour)
      → tally_of s bs words n (λ k. f k && true) p ≡ tally_of s bs words n f p
  alone f p = tally_same s bs words n (λ k. f k && true) f p p (λ k l. and-true (f k)) refl

  grows-all : (b : ℕ) (test : ℕ → ℕ → Bool) (p : Colour) → b < d.start
      → ((z : ℕ) → has_node d z ≡ true → test z 0 ≡ false) → test x 0 ≡ true
      → tally_of s bs words n (λ k. test (after b (leaf_of words k)) 0) p ≡ plus
      (tally_of s bs words n (λ k. test (before b (leaf_of words k)) 0) p) (amount p)
  grows-all b test p l out top = sym (alone _ p) ∙ grows b test p (λ k. true) l out top
      ∙ (λ j. plus (alone (λ k. test (before b (leaf_of words k)) 0) p j) (alone below p j))

  -- no node of another block is in this one
  outside : (b : LinkedBlock) → In b bs → (b.start ≡ d.start → ⊥) → (z : ℕ) → has_node d z ≡ true
      → has_node b z ≡ false
  outside b j e z m
      = false_from_ne_true (has_node b z)
      (λ q. e (ap (λ (c : LinkedBlock). c.start) (has-one r bs b d z lk.order j i q m)))

  apart : (b : LinkedBlock) (y : ℕ) → In b bs → has_node b y ≡ true → (b.start ≡ d.start → ⊥)
      → (z : ℕ) → has_node d z ≡ true → (z == y) ≡ false
  apart b y j m e z q
      = ne_eqb z y
      (λ f. e (ap (λ (c : LinkedBlock). c.start) (has-one r bs b d z lk.order j i (ap (has_node b) f ∙ m) q)))

  root_out : (z : ℕ) → has_node d z ≡ true → (z == r) ≡ false
  root_out z q = let at = has-at d z q in ne_eqb z r (λ f. omega (arith, f, low.1, at.2))

  no_parent : (b : LinkedBlock) → (d.start ≤ b.start) → has_node b x ≡ false
  no_parent b l
      = false_from_ne_true (has_node b x)
      (λ q. let at = has-at b x q in omega (arith, at.2, l, low.0))

  -- the counts of a block that has not the parent
  total_stays : (b : LinkedBlock) → In b bs → has_node b x ≡ false
      → (standing s bs words after n).total b ≡ (standing s bs words before n).total b
  total_stays b j f = stays b.start (λ z k. has_node b z) (chooser s bs b)
      (λ l k. outside b j (λ e. omega (arith, e, l))) (λ l k. f)

  tally_stays : (b : LinkedBlock) (y : ℕ) → In b bs → has_node b y ≡ true → (y ≡ x → ⊥)
      → (standing s bs words after n).tally b y ≡ (standing s bs words before n).tally b y
  tally_stays b y j m e = stays b.start (λ z k. z == y) (chooser s bs b)
      (λ l k. apart b y j m (λ q. omega (arith, q, l))) (λ l k. ne_eqb x y (λ q. e (sym q)))

  seen_stays : (b : LinkedBlock) (y : ℕ) → In b bs → has_node b x ≡ false
      → (standing s bs words after n).seen b y ≡ (standing s bs words before n).seen b y
  seen_stays b y j f = stays b.start (λ z k. has_node b z && has_stone s bs words b y k)
      (chooser s bs b)
      (λ l k z q. ap (λ (t : Bool). t && has_stone s bs words b y k) (outside b j (λ e. omega (arith, e, l)) z q))
      (λ l k. ap (λ (t : Bool). t && has_stone s bs words b y k) f)

  -- if the parent is the root
  module _ (top : x ≡ r) where
    root_mover : mover_of s bs r ≡ other_of (chooser s bs d)
    root_mover = ap (λ (z : ℕ). other_of (node_state s bs z).player) (sym top)

    root_grows : (standing s bs words after n).root ≡ plus (standing s bs words before n).root
        (amount (mover_of s bs r))
    root_grows = grows-all r (λ z k. z == r) (mover_of s bs r) (omega (arith, low.1)) root_out
        (eq-eqb x r top)

    root_amount : turned_word (slice_index sums d.start) ≡ word_of (amount (mover_of s bs r))
    root_amount = amount_is (mover_of s bs r) root_mover

    pub root_room : slice_index sums (r + 2) + turned_word (slice_index sums d.start) < 2 ^ 63
    root_room = let w = word_fits (slice_index sums (r + 2)) _
        (amount (mover_of s bs r)) _ a.counts.root root_grows (tally_small s bs words n _ _ few) in
        omega (arith, w, root_amount)

    pub root_handed : AreHanded s bs words
        (set sums (r + 2) (slice_index sums (r + 2) + turned_word (slice_index sums d.start))) d.start
    root_handed =
        let v : ℕ = slice_index sums (r + 2) + turned_word (slice_index sums d.start) in
        let c = a.counts in
        let inside : r + 2 < length sums = let l = node_inside s words bs h lk r 2 (root_node r bs)
        (omega arith) in omega (arith, l, c.long) in
        let no : (b : LinkedBlock) → In b bs → has_node b x ≡ false = λ b j. ap (has_node b) top
        ∙ false_from_ne_true (has_node b r)
        (λ q. let f = has-at b r q in let l = parent_low r bs b lk.order j in omega (arith, f.2, l.1)) in
        let not-root : (b : LinkedBlock) (z : ℕ) → In b bs → has_node b z ≡ true → r + 4 ≤ z
        = λ b z j m. let f = has-at b z m in let l = parent_low r bs b lk.order j in
        omega (arith, f.2, l.1) in
        record {
          counts = record {
            long = length-set sums (r + 2) v ∙ c.long;
            root = ap count_in
                (get_or-set_same sums (r + 2) v 0 inside ∙ ap (λ (m : ℕ). slice_index sums (r + 2) + m) root_amount)
                ∙ count_plus (slice_index sums (r + 2)) _
                (amount (mover_of s bs r)) _ c.root root_grows
                (tally_small s bs words n _ _ few);
            total = λ b j. ap count_in
                (get_or-set_other sums (r + 2) b.start v 0
                (λ e. let l = parent_low r bs b lk.order j in omega (arith, e, l.1))) ∙ c.total b j ∙ sym (total_stays b j (no b j));
            tally = λ b z j m. ap count_in
                (get_or-set_other sums (r + 2) (z + 2) v 0 (λ e. let l = not-root b z j m in omega (arith, e, l))) ∙ c.tally b z j m
                ∙ sym (tally_stays b z j m (λ e. let l = not-root b z j m in omega (arith, e, top, l)));
            seen = λ b y j m. ap count_in
                (get_or-set_other sums (r + 2) (y + 3) v 0 (λ e. let l = not-root b y j m in omega (arith, e, l)))
                ∙ c.seen b y j m ∙ sym (seen_stays b y j (no b j));
          };
          leaves = λ z m. get_or-set_other sums (r + 2) z v 0 (λ e. ⊎_elim
              (λ (q : z ≡ r). omega (arith, q, e))
              (λ (q : (b : LinkedBlock) × In b bs × (has_node b z ≡ true)). let l = not-root q.0 z q.1 q.2 in omega (arith, e, l))
              (node-in r bs z m)) ∙ a.leaves z m;
          nodes = a.nodes;
          filled = a.filled;
        }

  -- if it is a node of the block b
  module _ (b : LinkedBlock) (j : In b bs) (m : has_node b x ≡ true) where
    under : b.start < d.start
    under = let at = has-at b x m in omega (arith, at.2, low.0)

    abbrev p : Colour
    p = chooser s bs b

    state : node_state s bs x ≡ state_after (node_state s bs b.parent) (cell_at b (place b x))
    state = up-in (root_state s)
        (λ c z above. state_after above (cell_at c (place c z))) r bs b x lk.order j m

    player_is : chooser s bs d ≡ other_of p
    player_is = ap (λ (q : NodeState). q.player) state

    player : p ≡ other_of (chooser s bs d)
    player = sym (other_back p) ∙ ap other_of (sym player_is)

    pub block_amount : turned_word (slice_index sums d.start) ≡ word_of (amount p)
    block_amount = amount_is p player

    total_grows : (standing s bs words after n).total b ≡ plus
        ((standing s bs words before n).total b) (amount p)
    total_grows = grows-all b.start (λ z k. has_node b z) p under
        (outside b j (λ e. omega (arith, e, under))) m

    tally_grows : (standing s bs words after n).tally b x ≡ plus
        ((standing s bs words before n).tally b x) (amount p)
    tally_grows = grows-all b.start (λ z k. z == x) p under
        (apart b x j m (λ e. omega (arith, e, under))) (eq-eqb x x refl)

    -- what the block b sees of the playouts below it
    abbrev gift : ℕ → Count
    gift y = tally_of s bs words n (λ k. below k && has_stone s bs words b y k) p

    seen_grows : (y : ℕ)
        → (standing s bs words after n).seen b y ≡ plus
        ((standing s bs words before n).seen b y) (gift y)
    seen_grows y = grows b.start (λ z k. has_node b z) p (has_stone s bs words b y) under
        (outside b j (λ e. omega (arith, e, under))) m

    pub total_room : slice_index sums b.start + turned_word (slice_index sums d.start) < 2 ^ 63
    total_room = let w = word_fits (slice_index sums b.start) _ (amount p) _
        (a.counts.total b j) total_grows (tally_small s bs words n _ _ few) in
        omega (arith, w, block_amount)

    pub tally_room : slice_index sums (x + 2) + turned_word (slice_index sums d.start) < 2 ^ 63
    tally_room = let w = word_fits (slice_index sums (x + 2)) _ (amount p) _
        (a.counts.tally b x j m) tally_grows (tally_small s bs words n _ _ few) in
        omega (arith, w, block_amount)

    -- the cell of a node, by its place
    cell_is : (e : LinkedBlock) (k : ℕ) → In e bs → k < nodes_in words e.start
        → cell_of_node words e.start k ≡ cell_at e (place e (node_at e.start k))
    cell_is e k q l =
        let mv = move_of s words bs h lk e (node_at e.start k) q
        (own_node s words bs h lk e k q l) in
        let number : mv.0 ≡ place e (node_at e.start k) = let f = mv.2 in omega (arith, f) in
        ap (λ (z : ℕ). cell_in (slice_index words z)) mv.2 ∙ mv.3.cell ∙ ap (cell_at e) number

    -- the stone of the parent lies on each board filled below it
    stone_stays : (k : ℕ) → k < n → below k ≡ true → has_stone s bs words b x k ≡ true
    stone_stays k l t =
        let c : ℕ = cell_at b (place b x) in
        let spot : node_state s bs (at k) ≡ state_after (node_state s bs x)
        (cell_at d (place d (at k)))
        = up-in (root_state s) (λ e z above. state_after above (cell_at e (place e z))) r bs d
        (at k) lk.order i t in
        let own : has_cell (stones_of (node_board s bs x) p) c ≡ true
        = ap (λ (q : NodeState). has_cell (stones_of q.board p) c) state
        ∙ ap (λ (q : ℕ). has_cell q c) (placed_own (node_board s bs b.parent) p c)
        ∙ with_cell-here (stones_of (node_board s bs b.parent) p) c in
        let there : has_cell (stones_of (node_board s bs (at k)) p) c ≡ true
        = ap (λ (q : NodeState). has_cell (stones_of q.board p) c) spot
        ∙ placed_keeps (node_board s bs x) (chooser s bs d)
        (cell_at d (place d (at k))) p c own in
        outcome_keeps s k (node_state s bs (leaf_of words k)) p c
        (stand_keeps s bs lk.order (d.start + 1) p c (leaf_of words k) (a.nodes k l) there)

    module _ (unseen : List ℕ)
        (u : AreUnseen words sums d.start (nodes_in words d.start) unseen) where
      abbrev all : ℕ
      all = turned_word (slice_index sums d.start)

      -- what is unseen at a cell of the block below
      seen_below : (y k : ℕ) → has_node b y ≡ true → k < nodes_in words d.start
          → cell_of_node words d.start k ≡ cell_at b (place b y)
          → cell_at b (place b y) < s.board.size * s.board.size
          → (v : ℕ) → v ≡ turned_word (slice_index sums (node_at d.start k + 3))
          → (v ≤ all) × (all - v ≡ word_of (gift y))
      seen_below y k q l e on v is =
          let z : ℕ = node_at d.start k in
          let node : has_node d z ≡ true = own_node s words bs h lk d k i l in
          let cell : cell_at d (place d z) ≡ cell_at b (place b y) = sym (cell_is d k i l) ∙ e in
          let rest : Count = tally_of s bs words n (λ k. below k && has_stone s bs words d z k) p in
          let word : v ≡ word_of rest = is ∙ tally_turned s bs words n (slice_index sums (z + 3))
          (λ k. below k && has_stone s bs words d z k) (chooser s bs d) p player
          (a.counts.seen d z i node ∙ ap (λ (l : ℕ). tally_of s bs words n
          (λ k. has_node d (stand s bs l (leaf_of words k)) && has_stone s bs words d z k) (chooser s bs d)) level_own) in
          let split : amount p ≡ plus (gift y) rest
          = tally_sum s bs words n (λ k. below k && has_stone s bs words b y k)
          (λ k. below k && has_stone s bs words d z k) below p
          (λ k m. either (below k) (has_stone s bs words b y k) (has_stone s bs words d z k)
          ((λ f. has_cell (stones_of (outcome_in s bs words k).full (player_is f)) (cell f)) ∙ other_stone
          (outcome_in s bs words k).full p (cell_at b (place b y)) (a.filled k m (cell_at b (place b y)) on))) in
          let visits : (amount p).visits ≡ (gift y).visits + rest.visits
          = ap (λ (w : Count). w.visits) split in
          let wins : (amount p).wins ≡ (gift y).wins + rest.wins
          = ap (λ (w : Count). w.wins) split in
          let whole = block_amount in
          (omega (arith, word, whole, visits, wins), omega (arith, word, whole, visits, wins))

      -- if no node below has the cell it is that of the parent
      is_parents : (y : ℕ) → has_node b y ≡ true
          → ((k : ℕ) → k < nodes_in words d.start → cell_of_node words d.start k ≡ cell_at b (place b y) → ⊥) → cell_at b (place b y) ≡ cell_at b (place b x)
      is_parents y q none =
          let c : ℕ = cell_at b (place b y) in
          let mv = move_of s words bs h lk b y j q in
          let number : place b y ≡ mv.0 = let f = mv.2 in omega (arith, f) in
          let empty : is_empty_at (node_board s bs b.parent) c ≡ true
          = ap (λ (z : ℕ). is_empty_at (node_board s bs b.parent) (cell_at b z)) number
          ∙ mv.3.empty in
          ⊎_elim
          (λ (e : c ≡ cell_at b (place b x)). e)
          (λ (e : c ≡ cell_at b (place b x) → ⊥).
          let left : is_empty_at (node_board s bs x) c ≡ true
          = ap (λ (t : NodeState). is_empty_at t.board c) state
          ∙ placed_leaves (node_board s bs b.parent) p (cell_at b (place b x)) c
          ∙ (λ f. empty f && not (ne_eqb c (cell_at b (place b x)) e f)) in
          let w = whole-in s (next_in words) bs d lk.order lk.complete i in
          let inner : (x == r) ≡ false
          = ne_eqb x r
          (λ f. let at = has-at b x m in let l = parent_low r bs b lk.order j in omega (arith, f, at.2, l.1)) in
          let cells : d.cells ≡ empties_of (node_board s bs x) = w.cells
          ∙ ap (λ (t : Bool). cond t (allowed_cells s) (empties_of (node_board s bs x))) inner in
          let f = empty_stands (node_board s bs x) c left in
          let long : length d.cells ≡ length (empties_of (node_board s bs x)) = ap length cells in
          let few : f.0 < nodes_in words d.start
          = omega (arith, f.1, long, count_is s words bs h lk d i) in
          let spot : place d (node_at d.start f.0) ≡ f.0 = is_child d.start f.0 in
          absurd (none f.0 few (cell_is d f.0 i few ∙ ap (cell_at d) spot ∙ ap (λ (t : List ℕ). slice_index t f.0) cells ∙ f.2)))
          (cases_eq c (cell_at b (place b x)))

      pub gift_is : (y : ℕ) → has_node b y ≡ true
          → (slice_index unseen (cell_at b (place b y)) ≤ all)
          × (rest_gift all unseen (cell_at b (place b y)) ≡ word_of (gift y))
      gift_is y q =
          let c : ℕ = cell_at b (place b y) in
          let mv = move_of s words bs h lk b y j q in
          let number : place b y ≡ mv.0 = let f = mv.2 in omega (arith, f) in
          let empty : is_empty_at (node_board s bs b.parent) c ≡ true
          = ap (λ (z : ℕ). is_empty_at (node_board s bs b.parent) (cell_at b z)) number
          ∙ mv.3.empty in
          let on : c < s.board.size * s.board.size
          = subst (λ (z : ℕ). c < z * z) (spot-size s bs b.parent)
          (empty_on (node_board s bs b.parent) c empty) in
          let small : c < 121 = omega (arith, ap (cell_at b) number, mv.3.small) in
          ⊎_elim
          (λ (f : (k : ℕ) × (k < nodes_in words d.start) × (cell_of_node words d.start k ≡ c)
          × (slice_index unseen c ≡ turned_word (slice_index sums (node_at d.start k + 3)))). seen_below y f.0 q f.1 f.2 on (slice_index unseen c) f.3)
          (λ (f : ((k : ℕ) → k < nodes_in words d.start → cell_of_node words d.start k ≡ c → ⊥) × (slice_index unseen c ≡ 0)).
          let cell : c ≡ cell_at b (place b x) = is_parents y q f.0 in
          let always : gift y ≡ amount p
          = tally_same s bs words n (λ k. below k && has_stone s bs words b y k) below p p
          (λ k l. yes (below k) (has_stone s bs words b y k) (λ t. ap (has_cell (stones_of (outcome_in s bs words k).full p)) cell
          ∙ stone_stays k l t)) refl in
          let visits : (gift y).visits ≡ (amount p).visits = ap (λ (w : Count). w.visits) always in
          let wins : (gift y).wins ≡ (amount p).wins = ap (λ (w : Count). w.wins) always in
          let whole = block_amount in
          (omega (arith, f.1), omega (arith, f.1, whole, visits, wins)))
          (u c small)
        where
          yes : (t v : Bool) → (t ≡ true → v ≡ true) → (t && v) ≡ t
          yes true v e = e refl
          yes false v e = refl

      -- it fits
      pub gift_room : HasGiftRoom words sums b.start all unseen
      gift_room k l =
          let y : ℕ = node_at b.start k in
          let node : has_node b y ≡ true = own_node s words bs h lk b k j l in
          let g = gift_is y node in
          let cell = ap (slice_index unseen) (cell_is b k j l) in
          let w = word_fits (slice_index sums (y + 3)) _ (gift y) _ (a.counts.seen b y j node)
          (seen_grows y) (tally_small s bs words n _ _ few) in
          (omega (arith, cell, g.0), omega (arith, cell, g.1, w))

      -- the sums with the block handed up
      pub block_handed : (later : List ℕ)
          → GainsBlock words b.start x all (rest_gift all unseen) sums later
          → AreHanded s bs words later d.start
      block_handed later g =
          let other : (e : LinkedBlock) → In e bs → (e.start ≡ b.start → ⊥) → has_node e x ≡ false
          = λ e q f. false_from_ne_true (has_node e x)
          (λ t. f (ap (λ (c : LinkedBlock). c.start) (has-one r bs e b x lk.order q j t m))) in
          record {
            counts = counts_gained s words bs h lk b j x m sums later all (rest_gift all unseen) g
                (standing s bs words before n) (standing s bs words after n)
                (amount p) gift block_amount
                (λ y q. (gift_is y q).1) total_grows tally_grows (λ y q. seen_grows y)
                (tally_small s bs words n _ _ few, tally_small s bs words n _ _ few, λ y. tally_small s bs words n _ _ few)
                (stays r (λ z k. z == r) (mover_of s bs r) (λ l k. root_out)
                (λ l k. ne_eqb x r (λ f. let at = has-at b x m in let l = parent_low r bs b lk.order j in omega (arith, f, at.2, l.1))))
                (λ e q f. total_stays e q (other e q f))
                (λ e z q t f. tally_stays e z q t f)
                (λ e y q t f. seen_stays e y q (other e q f))
                a.counts;
            leaves = λ z q. gained_move s words bs h lk b j x m sums later all
                (rest_gift all unseen) g z q ∙ a.leaves z q;
            nodes = a.nodes;
            filled = a.filled;
          }
