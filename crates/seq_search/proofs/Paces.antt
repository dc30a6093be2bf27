-- One pace of the adds: the counts of a node, and the seen words of the block below it.
use Rattle.std.proofs.Common.{◌≡◌, ◌≢◌, ℕ, ◌+◌, ◌*◌, ◌≤◌, ◌<◌, ◌^◌, Bool, true, false, cond, List}
use Rattle.std.proofs.Common.{[], ◌∷◌, length, drop, set as set_at, length-set, get_or}
use Rattle.std.proofs.Common.{get_or-set_same, get_or-set_other, slice_index, refl, sym, ap, ◌∙◌}
use Rattle.std.proofs.Common.{subst, ⊎_elim, arith}
use Rattle.std.specs.Prelude.{◌==◌}
use Rattle.std.proofs.lemmas.List.{drop_more, get_or-take, length-take-le}
use Rattle.std.proofs.Math.Seq.{drop-length}
use Rattle.hex_cells.specs.Sets.{has as has_cell}
use Rattle.hex_cells.specs.Colours.{other_of, is_same}
use Rattle.hex_cells.specs.declared.colours.Colour.{Colour}
use Rattle.hex_board.specs.Positions.{stones_of}
use Rattle.tree_words.specs.Settings.{Setting, IsSetting}
use Rattle.tree_words.specs.Words.{Count, root_at, count_in, wins_in, link_in, tally_in, seen_in}
use Rattle.tree_words.specs.Words.{cell_in, move_word, node_at}
use Rattle.tree_words.specs.Blocks.{LinkedBlock, block_size, child, has_node, place, cell_at}
use Rattle.tree_words.specs.Blocks.{is_node, In, InOrder}
use Rattle.tree_words.specs.Paths.{NodeState, root_state, state_after, mover_at, node_state}
use Rattle.tree_words.specs.Paths.{node_board}
use Rattle.tree_words.specs.Complete.{cells_below}
use Rattle.tree_words.specs.Walks.{nothing, plus, AtMost}
use Rattle.tree_words.specs.Trees.{oldest_first}
use Rattle.play_out.specs.declared.playouts.Ending.{Ending}
use Rattle.tree_words.specs.Sequence.{one, gain_of, glimpse_of, search_game, amount_of}
use Rattle.tree_words.specs.Descents.{pick, adds_leaf, adds_inner, adds, sees_leaf, sees_inner}
use Rattle.tree_words.specs.Descents.{sees, steps_inner, Bare}
use Rattle.std.proofs.lemmas.Bool.{eqb-true, eq-eqb, cases_Bool, false_from_ne_true}
use Rattle.tree_words.proofs.Blocks.BlockLaws.{has-at, clash, root_node}
use Rattle.tree_words.proofs.Walks.Down.{plus-nothing, child-has, pick-in}
use Rattle.tree_words.proofs.Blocks.GameLaws.{fair_game}
use Rattle.tree_words.proofs.Blocks.Links.{down-bare, adds-link, sees-link, steps-link}
use Rattle.tree_words.proofs.Blocks.Orders.{rooted-turned, link-bare}
use Rattle.seq_search.specs.Steps.{Holds}
use Rattle.seq_search.specs.declared.descending.Descent.{Descent}
use Rattle.seq_search.specs.Descending.{nodes_down, steps_below, Descended}
use Rattle.seq_search.specs.Adding.{Sighted, Counted, HasWalked}
use Rattle.tree_words.proofs.Blocks.NodeLaws.{nodes-apart, stays-clear}
use Rattle.tree_words.proofs.Blocks.Members.{in-turned}
use Rattle.seq_search.proofs.LinkLaws.{IsBelow, below, node-fits, child-node, child-move}
use Rattle.seq_search.proofs.LinkLaws.{child-spot}
use Rattle.hex_cells.proofs.Tables.{square_small}
use Rattle.hex_board.proofs.Placed.{empty_on}
use Rattle.tree_words.proofs.Boards.EmptyLaws.{up-root, cell-of-move, below-empty}
use Rattle.tree_words.proofs.Walks.Adds.{is_child}
use Rattle.seq_search.proofs.Additions.{Adding}
use Rattle.tree_words.proofs.Walks.Countings.{count-more, adds-one, sees-one, above-turned}
use Rattle.tree_words.proofs.Walks.Countings.{adds-before, sees-before, has-one}
use Rattle.tree_words.proofs.Walks.Asking.{spot-size}

-- word i is neither a tally nor a seen word of a node
abbrev pub NoCount : ℕ → List LinkedBlock → ℕ → Type 0
NoCount r bs i = (w : ℕ) → is_node r bs w ≡ true → (i ≢ w + 2) × (i ≢ w + 3)

pub link-no-count : (r : ℕ) (bs : List LinkedBlock) (x : ℕ) → InOrder r bs → is_node r bs x ≡ true
    → NoCount r bs (x + 1)
link-no-count r bs x g n w m = (
  (λ e. let q = nodes-apart r bs x w 1 2 g n m (omega arith) (omega arith) e in omega arith),
  (λ e. let q = nodes-apart r bs x w 1 3 g n m (omega arith) (omega arith) e in omega arith),
)

pub move-no-count : (r : ℕ) (bs : List LinkedBlock) (x : ℕ) → InOrder r bs → is_node r bs x ≡ true
    → NoCount r bs x
move-no-count r bs x g n w m = (
  (λ e. let q = nodes-apart r bs x w 0 2 g n m (omega arith) (omega arith) (omega (arith, e)) in omega arith),
  (λ e. let q = nodes-apart r bs x w 0 3 g n m (omega arith) (omega arith) (omega (arith, e)) in omega arith),
)

pub head-no-count : (r : ℕ) (bs : List LinkedBlock) (b : LinkedBlock) → InOrder r bs → In b bs
    → NoCount r bs (b.start + 3)
head-no-count r bs b g i w m = (
  stays-clear r bs b 3 w 2 g i (omega arith) refl m (omega arith) (omega arith),
  stays-clear r bs b 3 w 3 g i (omega arith) refl m (omega arith) (omega arith),
)

-- a count that is one of a sum is at most the sum
part-most : (k : ℕ) (a b c d : Count) → plus a b ≡ plus c d → AtMost k c → AtMost 1 d
    → AtMost (k + 1) a
part-most k a b c d e hc hd =
    let v = ap (λ (n : Count). n.visits) e in
    let w = ap (λ (n : Count). n.wins) e in
    (omega (arith, v, hc.0, hd.0), omega (arith, w, hc.1, hd.1))

-- there is room for one more in a word with few counts
pub word-room : (k n : ℕ) (t : Bool) → k ≤ 1000001 → AtMost k (count_in n)
    → n + amount_of t < 2 ^ 64
word-room k n true l a = let v = a.0 in omega (arith, v, l)
word-room k n false l a = let v = a.0 in omega (arith, v, l)

-- a seen word with one more, or with none
word-glimpse : (n : ℕ) (t u : Bool) → wins_in n + 1 < 2 ^ 32
    → count_in (n + cond t (amount_of u) 0) ≡ plus (count_in n) (cond t (one u) nothing)
word-glimpse n true u l = count-more n u l
word-glimpse n false u l = ap count_in (let z : n + 0 ≡ n = omega arith in z)
    ∙ sym (plus-nothing (count_in n))

glimpse-is : (o : Ending) (p : NodeState) (who : Colour) (c : ℕ) → who ≡ p.player
    → cond (has_cell (stones_of o.full who) c)
    (one (is_same o.winner who)) nothing ≡ glimpse_of o p c
unfolding glimpse_of
glimpse-is o p who c e
    = ap (λ (z : Colour). cond (has_cell (stones_of o.full z) c) (one (is_same o.winner z)) nothing) e

-- what is added here and what is still to come make up the whole
join : (t : Bool) (n g z : Count) → (t ≡ true → z ≡ nothing)
    → plus (cond t (plus n g) n) z ≡ plus n (cond t g z)
join true n g z e = ap (plus (plus n g)) (e refl) ∙ plus-nothing (plus n g)
join false n g z e = refl

no-cons : (b : ℕ) (l : List ℕ) → b ∷ l ≡ [] → ⊥
no-cons b l e = let z = ap length e in omega (arith, z)

head-of : (a b : ℕ) (l m : List ℕ) → a ∷ l ≡ b ∷ m → a ≡ b
head-of a b l m e = ap (λ (z : List ℕ). get_or z 0 0) e

tail-of : (a b : ℕ) (l m : List ℕ) → a ∷ l ≡ b ∷ m → l ≡ m
tail-of a b l m e = ap (λ (z : List ℕ). drop 1 z) e

module _ (s : Setting) (bs : List LinkedBlock) (o : Ending) (before : List ℕ) (k : ℕ)
    (h : Holds s bs before k) (few : k ≤ 1000000) where
  -- the leaf has no steps
  pub steps-none : (x : ℕ) → is_node (root_at s) bs x ≡ true → link_in before x ≡ 0
      → steps_below s bs before x ≡ []
  steps-none x n e =
      let bare : Bare (oldest_first bs) x
      = link-bare (root_at s) bs x h.linked.order (sym (h.linked.shows.links x n) ∙ e) in
      down-bare (λ (y : ℕ). []) (steps_inner (search_game s) (tally_in before) (seen_in before))
      (oldest_first bs) x bare

  module _ (now : List ℕ) (x : ℕ) (who : Colour) (left : List ℕ)
      (a : Adding s bs o before now x who left) where
    pub tally-most : (w : ℕ) → is_node (root_at s) bs w ≡ true → AtMost (k + 1) (tally_in now w)
    tally-most w n = part-most k (tally_in now w) _ (tally_in before w) _ (a.tally w n)
        (h.counts w n).0
        (adds-one s (tally_in before) (seen_in before) o (oldest_first bs) (root_at s) (root_state s) w)

    pub seen-most : (w : ℕ) → is_node (root_at s) bs w ≡ true → AtMost (k + 1) (seen_in now w)
    seen-most w n = part-most k (seen_in now w) _ (seen_in before w) _ (a.seen w n) (h.counts w n).1
        (sees-one s (tally_in before) (seen_in before) o (oldest_first bs) (root_at s) (root_state s) w)

    pub node-room : x + 4 ≤ length now
    node-room = let f = node-fits s bs before k h x a.node in omega (arith, f, a.long)

    pub tally-room : (t : Bool) → slice_index now (x + 2) + amount_of t < 2 ^ 64
    tally-room t = word-room (k + 1) (slice_index now (x + 2)) t (omega (arith, few))
        (tally-most x a.node)

    -- the words after the node's gain
    module _ (gained : List ℕ)
        (is : gained ≡ set_at now (x + 2) (slice_index now (x + 2) + amount_of (is_same o.winner (other_of who)))) where
      gained-long : length gained ≡ length before
      gained-long = ap length is ∙ length-set now (x + 2) _ ∙ a.long

      gained-other : (i : ℕ) → i ≢ x + 2 → slice_index gained i ≡ slice_index now i
      gained-other i n = ap (λ (l : List ℕ). slice_index l i) is
          ∙ get_or-set_other now (x + 2) i _ 0 n

      pub gained-kept : (i : ℕ) → NoCount (root_at s) bs i
          → slice_index gained i ≡ slice_index before i
      gained-kept i c = gained-other i (c x a.node).0 ∙ a.others i c

      gained-seen : (w : ℕ) → is_node (root_at s) bs w ≡ true → seen_in gained w ≡ seen_in now w
      gained-seen w n
          = ap count_in
          (gained-other (w + 3) (λ e. let q = nodes-apart (root_at s) bs w x 3 2 h.linked.order n a.node (omega arith) (omega arith) e in omega arith))

      gained-tally : (w : ℕ) → is_node (root_at s) bs w ≡ true
          → tally_in gained w ≡ cond (x == w) (plus (tally_in now w) (gain_of o (node_state s bs x)))
          (tally_in now w)
      unfolding gain_of
      gained-tally w n = ⊎_elim
          (λ (t : (x == w) ≡ true).
          let at : x ≡ w = eqb-true x w t in
          let t' : Bool = is_same o.winner (other_of who) in
          let most = tally-most x a.node in
          let word : slice_index gained (x + 2) ≡ slice_index now (x + 2) + amount_of t'
          = ap (λ (l : List ℕ). slice_index l (x + 2)) is
          ∙ get_or-set_same now (x + 2) _ 0 (omega (arith, node-room)) in
          let mine : tally_in gained x ≡ plus (tally_in now x)
          (one (is_same o.winner (mover_at (node_state s bs x))))
          = ap count_in word
          ∙ count-more (slice_index now (x + 2)) t' (let v = most.1 in omega (arith, v, few))
          ∙ ap (λ (c : Colour). plus (tally_in now x) (one (is_same o.winner (other_of c)))) a.player in
          subst (λ (z : ℕ). tally_in gained z ≡ plus (tally_in now z) (one (is_same o.winner (mover_at (node_state s bs x))))) at mine
          ∙ sym (ap (λ (u : Bool). cond u (plus (tally_in now w) (one (is_same o.winner (mover_at (node_state s bs x))))) (tally_in now w)) t))
          (λ (t : (x == w) ≡ false).
          ap count_in (gained-other (w + 2) (λ e. clash (x == w) (eq-eqb x w (omega (arith, e))) t))
          ∙ sym (ap (λ (u : Bool). cond u (plus (tally_in now w) (one (is_same o.winner (mover_at (node_state s bs x))))) (tally_in now w)) t))
          (cases_Bool (x == w))

      -- the block below the node, by the words after the gain
      module _ (b : LinkedBlock) (w : IsBelow s bs before x b) where
        pub block-at : slice_index gained (x + 1) ≡ b.start
        block-at = gained-kept (x + 1) (link-no-count (root_at s) bs x h.linked.order a.node)
            ∙ sym w.start

        pub block-length : slice_index gained (b.start + 3) ≡ length b.cells
        block-length
            = gained-kept (b.start + 3)
            (head-no-count (root_at s) bs b h.linked.order w.inside) ∙ w.count

        pub kid-node : (j : ℕ) → j < length b.cells → is_node (root_at s) bs (child b j) ≡ true
        kid-node j l = child-node s bs before k h b j w.inside l

        pub kid-move : (j : ℕ) → j < length b.cells
            → slice_index gained (child b j) ≡ move_word j (cell_at b j)
        kid-move j l
            = gained-kept (child b j)
            (move-no-count (root_at s) bs (child b j) h.linked.order (kid-node j l))
            ∙ child-move s bs before k h b j w.inside l

        pub kid-room : (j : ℕ) → j < length b.cells → (t : Bool)
            → slice_index gained (child b j + 3) + amount_of t < 2 ^ 64
        kid-room j l t = word-room (k + 1) (slice_index gained (child b j + 3)) t
            (omega (arith, few))
            (subst (AtMost (k + 1)) (sym (gained-seen (child b j) (kid-node j l))) (seen-most (child b j) (kid-node j l)))

        -- the words after the block's nodes were seen
        module _ (after : List ℕ)
            (lit : Sighted b.start (length b.cells) (stones_of o.full who) (amount_of (is_same o.winner who)) gained after) (cells : (j : ℕ)
            → j < length b.cells → cell_at b j < 256) where
          after-tally : (v : ℕ) → is_node (root_at s) bs v ≡ true
              → tally_in after v ≡ tally_in gained v
          after-tally v n
              = ap count_in
              (lit.others (v + 2) (λ j l e. let q = nodes-apart (root_at s) bs v (child b j) 2 3 h.linked.order n (kid-node j l) (omega arith) (omega arith) e
              in omega arith))

          after-past : (v : ℕ) → is_node (root_at s) bs v ≡ true → has_node b v ≡ false
              → seen_in after v ≡ seen_in gained v
          after-past v n f
              = ap count_in
              (lit.others (v + 3) (λ j l e. let at : v ≡ child b j = omega (arith, e) in clash (has_node b v) (ap (has_node b) at ∙ child-has b j l) f))

          after-kid : (j : ℕ) → j < length b.cells
              → seen_in after (child b j) ≡ plus (seen_in gained (child b j))
              (glimpse_of o (node_state s bs x) (cell_at b j))
          after-kid j l =
              let cell : cell_in (slice_index gained (child b j)) ≡ cell_at b j
              = ap cell_in (kid-move j l) ∙ cell-of-move j (cell_at b j) (cells j l) in
              let most : AtMost (k + 1) (seen_in gained (child b j))
              = subst (AtMost (k + 1)) (sym (gained-seen (child b j) (kid-node j l)))
              (seen-most (child b j) (kid-node j l)) in
              ap count_in (lit.seen j l ∙ ap (λ (z : ℕ). slice_index gained (child b j + 3)
              + cond (has_cell (stones_of o.full who) z) (amount_of (is_same o.winner who)) 0) cell)
              ∙ word-glimpse (slice_index gained (child b j + 3))
              (has_cell (stones_of o.full who) (cell_at b j)) (is_same o.winner who)
              (let v = most.1 in omega (arith, v, few))
              ∙ ap (plus (seen_in gained (child b j)))
              (glimpse-is o (node_state s bs x) who (cell_at b j) a.player)

          after-seen : (v : ℕ) → is_node (root_at s) bs v ≡ true
              → seen_in after v ≡ cond (has_node b v)
              (plus (seen_in now v) (glimpse_of o (node_state s bs x) (cell_at b (place b v))))
              (seen_in now v)
          after-seen v n = ⊎_elim
              (λ (t : has_node b v ≡ true).
              let p = has-at b v t in
              let j : ℕ = p.0 in
              let at : v ≡ child b j = omega (arith, p.2) in
              let kid : seen_in after (child b j) ≡ plus (seen_in now (child b j))
              (glimpse_of o (node_state s bs x) (cell_at b (place b (child b j))))
              = after-kid j p.1
              ∙ (λ i. plus (gained-seen (child b j) (kid-node j p.1) i) (glimpse_of o (node_state s bs x) (cell_at b (sym (is_child b.start j) i)))) in
              subst (λ (z : ℕ). seen_in after z ≡ plus (seen_in now z) (glimpse_of o (node_state s bs x) (cell_at b (place b z)))) (sym at) kid
              ∙ sym (ap (λ (u : Bool). cond u (plus (seen_in now v) (glimpse_of o (node_state s bs x) (cell_at b (place b v)))) (seen_in now v)) t))
              (λ (t : has_node b v ≡ false).
              after-past v n t ∙ gained-seen v n
              ∙ sym (ap (λ (u : Bool). cond u (plus (seen_in now v) (glimpse_of o (node_state s bs x) (cell_at b (place b v)))) (seen_in now v)) t))
              (cases_Bool (has_node b v))

          after-kept : (i : ℕ) → NoCount (root_at s) bs i
              → slice_index after i ≡ slice_index before i
          after-kept i c = lit.others i (λ j l e. (c (child b j) (kid-node j l)).1 e)
              ∙ gained-kept i c

          -- the adds have come to the child
          pub paced : (y : ℕ) (rest : List ℕ) → left ≡ y ∷ rest
              → Adding s bs o before after y (other_of who) rest
          paced y rest cons =
              let g = search_game s in let fair = fair_game s in let p = tally_in before in
              let q = seen_in before in let os = oldest_first bs in
              let rooted = rooted-turned (root_at s) bs h.linked.order in
              let above = above-turned (root_at s) bs h.linked.order in
              let i : ℕ = pick g p q b x in
              let li : i < length b.cells = pick-in g fair p q b x w.some in
              let steps : y ∷ rest ≡ child b i ∷ steps_below s bs before (child b i) = sym cons
              ∙ a.rest ∙ steps-link g fair p q os x b rooted w.names w.some in
              let at : y ≡ child b i = head-of y (child b i) rest _ steps in
              let spot : node_state s bs y ≡ state_after (node_state s bs x) (cell_at b i)
              = ap (node_state s bs) at ∙ child-spot s bs before k h b i w.inside li
              ∙ ap (λ (z : ℕ). state_after (node_state s bs z) (cell_at b i)) w.parent in
              let behind : x < child b i = let u = w.whole.above in omega (arith, u, w.parent) in
              record {
                long = lit.long ∙ gained-long;
                node = ap (is_node (root_at s) bs) at ∙ kid-node i li;
                player = ap other_of a.player ∙ ap (λ (z : NodeState). z.player) (sym spot);
                tally = λ v n.
                    let later : Count
                    = adds g p q o os (child b i)
                    (state_after (node_state s bs x) (cell_at b i)) v in
                    let mine : tally_in after v ≡ cond (x == v)
                    (plus (tally_in now v) (gain_of o (node_state s bs x))) (tally_in now v)
                    = after-tally v n ∙ gained-tally v n in
                    (λ e. plus (mine e) (adds g p q o os (at e) (spot e) v))
                    ∙ join (x == v) (tally_in now v) (gain_of o (node_state s bs x)) later
                    (λ t. adds-before s p q o os (child b i) (state_after (node_state s bs x) (cell_at b i)) v above (let e = eqb-true x v t in omega (
                      arith,
                      behind,
                      e,
                    )))
                    ∙ ap (plus (tally_in now v))
                    (sym (adds-link g fair p q o os x b (node_state s bs x) v rooted w.names w.some))
                    ∙ a.tally v n;
                seen = λ v n.
                    let later : Count
                    = sees g p q o os (child b i)
                    (state_after (node_state s bs x) (cell_at b i)) v in
                    (λ e. plus (after-seen v n e) (sees g p q o os (at e) (spot e) v))
                    ∙ join (has_node b v) (seen_in now v)
                    (glimpse_of o (node_state s bs x) (cell_at b (place b v))) later
                    (λ t. sees-before s p q o os (child b i) (state_after (node_state s bs x) (cell_at b i)) v above
                    (λ c m l. false_from_ne_true (has_node c v)
                    (λ u. let e = has-one (root_at s) bs b c v h.linked.order w.inside (in-turned c bs m) t u in let f : b.parent
                    ≡ c.parent = ap (λ (d : LinkedBlock). d.parent) e in omega (arith, f, l, behind, w.parent))))
                    ∙ ap (plus (seen_in now v))
                    (sym (sees-link g fair p q o os x b (node_state s bs x) v rooted w.names w.some))
                    ∙ a.seen v n;
                others = after-kept;
                rest = tail-of y (child b i) rest _ steps ∙ ap (steps_below s bs before) (sym at);
              }

      -- the adds have come to the leaf
      pub ended : left ≡ [] → Counted s bs o before gained
      ended none =
          let g = search_game s in let fair = fair_game s in let p = tally_in before in
          let q = seen_in before in let os = oldest_first bs in
          let bare : Bare os x
          = link-bare (root_at s) bs x h.linked.order
          (sym (h.linked.shows.links x a.node) ∙ link-none none) in
          record {
            long = gained-long;
            tally = λ v n.
                gained-tally v n ∙ last (x == v) (tally_in now v) (gain_of o (node_state s bs x))
                ∙ ap (plus (tally_in now v))
                (sym (ap (λ (f : NodeState → ℕ → Count). f (node_state s bs x) v) (down-bare (adds_leaf g p q o) (adds_inner g p q o) os x bare)))
                ∙ a.tally v n;
            seen = λ v n.
                gained-seen v n ∙ sym (plus-nothing (seen_in now v))
                ∙ ap (plus (seen_in now v))
                (sym (ap (λ (f : NodeState → ℕ → Count). f (node_state s bs x) v) (down-bare (sees_leaf g p q o) (sees_inner g p q o) os x bare)))
                ∙ a.seen v n;
            others = gained-kept;
          }
        where
          last : (t : Bool) (n g : Count) → cond t (plus n g) n ≡ plus n (cond t g nothing)
          last true n g = refl
          last false n g = sym (plus-nothing n)

          link-none : left ≡ [] → link_in before x ≡ 0
          link-none e = ⊎_elim (λ (t : (link_in before x == 0) ≡ true). eqb-true (link_in before x) 0 t)
              (λ (t : (link_in before x == 0) ≡ false).
              let m = below s bs before k h x a.node
              (λ z. clash (link_in before x == 0) (eq-eqb (link_in before x) 0 z) t) in
              absurd (no-cons _ _ (sym (steps-link (search_game s) (fair_game s) (tally_in before) (seen_in before) (oldest_first bs) x m.0
              (rooted-turned (root_at s) bs h.linked.order) m.1.names m.1.some) ∙ sym a.rest ∙ e)))
              (cases_Bool (link_in before x == 0))

    -- if a step is left, the node has a block
    pub link-some : (y : ℕ) (rest : List ℕ) → left ≡ y ∷ rest → link_in before x ≢ 0
    link-some y rest cons e = no-cons y rest (sym cons ∙ a.rest ∙ steps-none x a.node e)

-- the cells of a block lie on the board
pub kid-cell : (s : Setting) (bs : List LinkedBlock) (words : List ℕ) (k : ℕ) → IsSetting s
    → Holds s bs words k → (x : ℕ) (b : LinkedBlock) → IsBelow s bs words x b → (j : ℕ)
    → j < length b.cells
    → cell_at b j < s.board.size * s.board.size
kid-cell s bs words k z h x b w j l =
    let e = below-empty s bs b.parent j z h.linked.order
    (subst (λ (c : List ℕ). j < length c) w.whole.cells l) in
    let o = empty_on (node_board s bs b.parent) _ e in
    let cell : cell_at b j ≡ get_or (cells_below s bs b.parent) j 0
    = ap (λ (c : List ℕ). get_or c j 0) w.whole.cells in
    subst (λ (n : ℕ). cell_at b j < n * n) (spot-size s bs b.parent) (omega (arith, o, cell))

pub kid-small : (s : Setting) → IsSetting s → (c : ℕ) → c < s.board.size * s.board.size → c < 256
kid-small s z c l = let f = square_small s.board.size z.position.most in omega (arith, f, l)

-- how far the adds are
abbrev pub Adds : Setting → List ℕ → Descent → Ending → List ℕ → ℕ → Colour → List ℕ → Type 0
Adds s before d o now x who left = (bs : List LinkedBlock) (k : ℕ) → k < s.knobs.playouts
    → Holds s bs before k → Descended s bs before d → Adding s bs o before now x who left

few-walks : (s : Setting) (k : ℕ) → IsSetting s → k < s.knobs.playouts → k ≤ 1000000
few-walks s k z l = omega (arith, l, z.ranges.playouts.1)

steps-long : (d : Descent) → d.count ≤ 121 → length d.steps ≡ 121 → length (nodes_down d) ≡ d.count
steps-long d l e = length-take-le d.count d.steps (omega (arith, l, e))

-- what `see` asks
pub record MaySee (size amount : ℕ) (words : List ℕ) (block : ℕ) : Type 0 where
  pub within : block + block_size (slice_index words (block + 3)) ≤ length words
  pub cells : (j : ℕ) → j < slice_index words (block + 3)
      → cell_in (slice_index words (node_at block j)) < size * size
  pub small : (j : ℕ) → j < slice_index words (block + 3)
      → slice_index words (node_at block j + 3) + amount < 2 ^ 64

-- where the adds begin
pub adds-begin : (s : Setting) (before : List ℕ) (d : Descent) (o : Ending) (x : ℕ) (who : Colour)
    → x ≡ root_at s → who ≡ s.player → Adds s before d o before x who (drop 0 (nodes_down d))
adds-begin s before d o x who at same bs k l h e =
    let g = search_game s in let p = tally_in before in let q = seen_in before in
    let os = oldest_first bs in
    let spot : node_state s bs x ≡ root_state s = ap (node_state s bs) at
    ∙ up-root (root_state s) (λ c y above. state_after above (cell_at c (place c y)))
    (root_at s) bs h.linked.order in
    record {
      long = refl;
      node = ap (is_node (root_at s) bs) at ∙ root_node (root_at s) bs;
      player = same ∙ ap (λ (u : NodeState). u.player) (sym spot);
      tally = λ w n i. plus (tally_in before w) (adds g p q o os (at i) (spot i) w);
      seen = λ w n i. plus (seen_in before w) (sees g p q o os (at i) (spot i) w);
      others = λ i c. refl;
      rest = sym e.steps ∙ ap (steps_below s bs before) (sym at);
    }

module _ (s : Setting) (before : List ℕ) (d : Descent) (o : Ending) (now : List ℕ) (x : ℕ)
    (who : Colour) (left : List ℕ) (z : IsSetting s) (a : Adds s before d o now x who left) where
  -- the node's tally can be gained
  pub pace-fits : HasWalked s before d → x + 4 ≤ length now
  pace-fits v = node-room s v.0 o before v.1 v.3 (few-walks s v.1 z v.2) now x who left
      (a v.0 v.1 v.2 v.3 v.4)

  pub pace-room : HasWalked s before d → (n : ℕ) (t : Bool) → n ≡ amount_of t
      → slice_index now (x + 2) + n < 2 ^ 64
  pace-room v n t e
      = let r = tally-room s v.0 o before v.1 v.3 (few-walks s v.1 z v.2) now x who left
      (a v.0 v.1 v.2 v.3 v.4) t in omega (arith, r, e)

  module _ (y : ℕ) (rest : List ℕ) (cons : left ≡ y ∷ rest) (gained : List ℕ)
      (is : gained ≡ set_at now (x + 2) (slice_index now (x + 2) + amount_of (is_same o.winner (other_of who)))) where
    -- the block below the node may be seen
    pub may-see : HasWalked s before d → (m : ℕ) (t : Bool) → m ≡ amount_of t
        → MaySee s.board.size m gained (slice_index gained (x + 1))
    may-see v m t e =
        let few = few-walks s v.1 z v.2 in
        let n = a v.0 v.1 v.2 v.3 v.4 in
        let bl = below s v.0 before v.1 v.3 x n.node
        (link-some s v.0 o before v.1 v.3 few now x who left n y rest cons) in
        let b : LinkedBlock = bl.0 in
        let at : slice_index gained (x + 1) ≡ b.start
        = block-at s v.0 o before v.1 v.3 few now x who left n gained is b bl.1 in
        let count : slice_index gained (b.start + 3) ≡ length b.cells
        = block-length s v.0 o before v.1 v.3 few now x who left n gained is b bl.1 in
        let long : length gained ≡ length before
        = gained-long s v.0 o before v.1 v.3 few now x who left n gained is in
        subst (MaySee s.board.size m gained) (sym at) (record {
          within = omega (arith, count, long, bl.1.fits);
          cells = λ j l.
              let lj : j < length b.cells = omega (arith, l, count) in
              let cell = kid-cell s v.0 before v.1 z v.3 x b bl.1 j lj in
              let move : cell_in (slice_index gained (child b j)) ≡ cell_at b j
              = ap cell_in
              (kid-move s v.0 o before v.1 v.3 few now x who left n gained is b bl.1 j lj)
              ∙ cell-of-move j (cell_at b j) (kid-small s z (cell_at b j) cell) in
              omega (arith, move, cell);
          small = λ j l. let r = kid-room s v.0 o before v.1 v.3 few now x who left n gained is b bl.1 j (omega (arith, l, count)) t in omega (arith, r, e);
        })

    -- the pace, whatever the blocks are called
    pub pace : (after : List ℕ) (block n set m : ℕ) → block ≡ slice_index gained (x + 1)
        → n ≡ slice_index gained (block + 3) → set ≡ stones_of o.full who
        → m ≡ amount_of (is_same o.winner who)
        → Sighted block n set m gained after → (y' : ℕ) (who' : Colour) → y' ≡ y
        → who' ≡ other_of who → Adds s before d o after y' who' rest
    pace after block n set m hb hn hs hm lit y' who' hy hw bs k l h e =
        let few = few-walks s k z l in
        let ad = a bs k l h e in
        let bl = below s bs before k h x ad.node
        (link-some s bs o before k h few now x who left ad y rest cons) in
        let b : LinkedBlock = bl.0 in
        let at : block ≡ b.start = hb
        ∙ block-at s bs o before k h few now x who left ad gained is b bl.1 in
        let count : n ≡ length b.cells = hn ∙ ap (λ (i : ℕ). slice_index gained (i + 3)) at
        ∙ block-length s bs o before k h few now x who left ad gained is b bl.1 in
        let lit' : Sighted b.start (length b.cells) (stones_of o.full who)
        (amount_of (is_same o.winner who)) gained after
        = subst (λ (i : ℕ). Sighted i (length b.cells) (stones_of o.full who) (amount_of (is_same o.winner who)) gained after) at
        (subst (λ (i : ℕ). Sighted block i (stones_of o.full who) (amount_of (is_same o.winner who)) gained after) count
        (subst (λ (i : ℕ). Sighted block n i (amount_of (is_same o.winner who)) gained after) hs
        (subst (λ (i : ℕ). Sighted block n set i gained after) hm lit))) in
        subst (λ (i : ℕ). Adding s bs o before after i who' rest) (sym hy)
        (subst (λ (i : Colour). Adding s bs o before after y i rest) (sym hw)
        (paced s bs o before k h few now x who left ad gained is b bl.1 after lit'
        (λ j lj. kid-small s z (cell_at b j) (kid-cell s bs before k z h x b bl.1 j lj)) y rest cons))

  -- the last gain
  pub pace-last : left ≡ [] → (gained : List ℕ)
      → gained ≡ set_at now (x + 2)
      (slice_index now (x + 2) + amount_of (is_same o.winner (other_of who)))
      → (bs : List LinkedBlock) (k : ℕ) → k < s.knobs.playouts → Holds s bs before k
      → Descended s bs before d → Counted s bs o before gained
  pace-last none gained is bs k l h e = ended s bs o before k h (few-walks s k z l) now x who left
      (a bs k l h e) gained is none

-- the steps that are left
pub step-left : (s : Setting) (before : List ℕ) (d : Descent) → HasWalked s before d → (i : ℕ)
    → i < d.count → drop i (nodes_down d) ≡ get_or d.steps i 0 ∷ drop (i + 1) (nodes_down d)
step-left s before d v i l =
    let long : length (nodes_down d) ≡ d.count = steps-long d v.4.few v.4.long in
    drop_more (nodes_down d) i 0 (omega (arith, l, long))
    ∙ ap (λ (y : ℕ). y ∷ drop (i + 1) (nodes_down d)) (get_or-take d.count d.steps i 0 l)

pub none-left : (s : Setting) (before : List ℕ) (d : Descent) → HasWalked s before d → (i : ℕ)
    → i ≡ d.count → drop i (nodes_down d) ≡ []
none-left s before d v i e =
    let long : length (nodes_down d) ≡ d.count = steps-long d v.4.few v.4.long in
    ap (λ (n : ℕ). drop n (nodes_down d)) (e ∙ sym long) ∙ drop-length (nodes_down d)

pub gained-is : (now gained : List ℕ) (x m : ℕ) (winner who other : Colour)
    → gained ≡ set_at now (x + 2) (slice_index now (x + 2) + m)
    → m ≡ amount_of (is_same winner other) → other ≡ other_of who
    → gained ≡ set_at now (x + 2)
    (slice_index now (x + 2) + amount_of (is_same winner (other_of who)))
gained-is now gained x m winner who other e a b =
    e ∙ ap (λ (n : ℕ). set_at now (x + 2) (slice_index now (x + 2) + n))
    (a ∙ ap (λ (p : Colour). amount_of (is_same winner p)) b)

-- the words fit
pub pace-short : (s : Setting) (before : List ℕ) (d : Descent) → IsSetting s → HasWalked s before d
    → length before ≤ 17777222
pace-short s before d z v = omega (arith, v.3.long, z.ranges.playouts.1, z.ranges.words.1)
