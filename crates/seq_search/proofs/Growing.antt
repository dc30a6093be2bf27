-- What stands after the leaf has got its block, or none.
use Rattle.std.proofs.Common.{◌≡◌, ◌≢◌, ℕ, ◌+◌, ◌-◌, ◌*◌, ◌<◌, ◌≤◌, nat_lt, nat_le, Bool, true}
use Rattle.std.proofs.Common.{false, cond, List, [], ◌∷◌, length, set, get_or, get_or-set_same}
use Rattle.std.proofs.Common.{get_or-set_other, refl, sym, ap, ◌∙◌, subst, ⊎_elim, inl, inr, arith}
use Rattle.std.specs.Prelude.{◌==◌, ◌&&◌}
use Rattle.std.proofs.Math.ListN.{length-set}
use Rattle.std.proofs.lemmas.Bool.{cases_eq, or_right, eq-eqb, ne_eqb, cases_Bool, or_cases}
use Rattle.std.proofs.lemmas.Bool.{and_parts, leb-true, ltb-true, false_from_ne_true}
use Rattle.tree_words.specs.Settings.{Setting, IsSetting}
use Rattle.tree_words.specs.Words.{Count, count_in, root_at, area_at, end_of, next_in, tally_in}
use Rattle.tree_words.specs.Words.{seen_in}
use Rattle.tree_words.specs.Blocks.{LinkedBlock, size, covers, has_node, is_node, link_of}
use Rattle.tree_words.specs.Blocks.{header_or_move, is_header_or_move, Follows, In, HaveBlocks}
use Rattle.tree_words.specs.Paths.{NodeState, root_state, node_state, node_board}
use Rattle.tree_words.specs.Complete.{HasEmpties, IsComplete, AreComplete, allowed_cells}
use Rattle.tree_words.specs.declared.layout.TheConstants.{MOST_BLOCK_WORDS}
use Rattle.tree_words.specs.Walks.{nothing, Game, AtMost}
use Rattle.play_out.specs.declared.playouts.Ending.{Ending}
use Rattle.tree_words.specs.Sequence.{asks, gets_block, next_after, size_below, search_game}
use Rattle.tree_words.specs.Trees.{oldest_first}
use Rattle.tree_words.specs.Descents.{NewBlock, Widened, Fine, leaf_at, state_at, top, Inside}
use Rattle.tree_words.specs.Descents.{config_of}
use Rattle.tree_words.proofs.Blocks.BlockLaws.{covers_of, covers_if, has-at, apart, root_node}
use Rattle.tree_words.proofs.Blocks.GameLaws.{fair_game}
use Rattle.tree_words.proofs.Blocks.Orders.{inside-node, rooted-turned}
use Rattle.play_out.specs.Fills.{empties_of}
use Rattle.seq_search.specs.Steps.{Holds, KeepsRecords}
use Rattle.seq_search.specs.Writing.{block_below, LinksBlock, Grows}
use Rattle.tree_words.proofs.Walks.Leaves.{Whole, root-out, sprouts-of, leaf-node, leaf-spot}
use Rattle.tree_words.proofs.Walks.Asking.{size-most, spot-size, next-gets, next-vain, next-stays}
use Rattle.tree_words.proofs.Walks.Asking.{state-count}
use Rattle.tree_words.proofs.Blocks.NodeLaws.{nodes-apart, stays-not, stays-clear, node-lies}
use Rattle.tree_words.proofs.Blocks.NodeLaws.{link-none, cover-none, complete-more, ends-turned}
use Rattle.tree_words.proofs.Blocks.NodeLaws.{under-root, leaf-vacant}

-- the blocks of the words are fine
pub fine-of : (s : Setting) (bs : List LinkedBlock) (words : List ℕ) (k : ℕ) → Holds s bs words k
    → Fine (root_at s) (config_of bs words)
fine-of s bs words k h =
    let w : Whole (root_at s) bs = record { order = h.linked.order; filled = h.filled } in
    record {
      sprouts = sprouts-of (root_at s) bs w;
      root = root-out (root_at s) bs h.linked.order;
      ends_by = ends-turned s (next_in words) bs h.linked.complete;
      low = omega (arith, h.next.0);
    }

-- if a leaf gets its block, it has an empty cell and the block fits
gets-facts : (s : Setting) (n : ℕ) (v : Count) (p : NodeState) → gets_block s n v p ≡ true
    → (0 < length (empties_of p.board)) × (n + size_below p ≤ end_of s)
unfolding gets_block
gets-facts s n v p e =
    let t = and_parts (asks s n v p) (nat_le (n + size_below p) (end_of s)) e in
    let u = and_parts (nat_le s.knobs.expand v.visits)
    (nat_lt 0 (length (empties_of p.board)) && nat_le n (end_of s)) t.0 in
    (ltb-true _ _ (and_parts (nat_lt 0 (length (empties_of p.board))) (nat_le n (end_of s)) u.1).0, leb-true _ _ t.1)

pub at-most-none : (k : ℕ) (c : Count) → c ≡ nothing → AtMost k c
at-most-none k c e
    = (omega (arith, ap (λ (c : Count). c.visits) e), omega (arith, ap (λ (c : Count). c.wins) e))

-- what is got of the leaf and its words, if the leaf of the walk gets the new block
module _ (s : Setting) (bs : List LinkedBlock) (before after : List ℕ) (k : ℕ) (set_ : IsSetting s)
    (h : Holds s bs before k) (rooted : 0 < link_of bs (root_at s))
    (leaf e next : ℕ) (p : NodeState)
    (is_leaf : leaf ≡ leaf_at (search_game s) (tally_in before) (seen_in before) (oldest_first bs) (root_at s))
    (is_spot : p ≡ (state_at (search_game s) (tally_in before) (seen_in before) (oldest_first bs) (root_at s) (root_state s)).1)
    (some : 0 < length (empties_of p.board)) (room : next_in before + size_below p ≤ end_of s)
    (grown : next ≡ next_in before + size_below p)
    (empties : HasEmpties e p.board)
    (l : LinksBlock (block_below (next_in before) leaf e p) (set before 0 next) after) where
  r : ℕ
  r = root_at s

  n : LinkedBlock
  n = block_below (next_in before) leaf e p

  whole : Whole r bs
  unfolding r
  whole = record { order = h.linked.order; filled = h.filled }

  leaf_is_node : (is_node (root_at s) bs leaf ≡ true) × (leaf ≢ root_at s)
  unfolding r whole
  leaf_is_node = subst (λ (z : ℕ). (is_node (root_at s) bs z ≡ true) × (z ≢ root_at s))
      (sym is_leaf)
      (leaf-node (search_game s) (fair_game s) (tally_in before) (seen_in before) (root_at s) bs whole rooted)

  leaf_lies : (area_at s ≤ leaf) × (leaf + 4 ≤ next_in before) × (leaf + 4 ≤ end_of s)
  leaf_lies = ⊎_elim (λ (q : leaf ≡ root_at s). absurd (leaf_is_node.1 q))
      (λ (q : (area_at s ≤ leaf) × (leaf + 4 ≤ next_in before) × (leaf + 4 ≤ end_of s)). q)
      (node-lies s (next_in before) bs leaf h.linked.complete leaf_is_node.0)

  -- no word before the new block changes but the leaf's link and NEXT
  off : (i : ℕ) → 1 ≤ i → i < next_in before → (i ≡ leaf + 1 → ⊥)
      → get_or after i 0 ≡ get_or before i 0
  unfolding n
  off i m low d =
      l.each i d ∙ ap (λ (t : Bool). cond (t && is_header_or_move (i - n.start)) (header_or_move n (i - n.start)) (get_or (set before 0 next) i 0))
      (false_from_ne_true (covers i n) (λ t. let u = covers_of i n t in omega arith))
      ∙ get_or-set_other before 0 i next 0 (λ z. omega arith)

  off-past : (i : ℕ) → next ≤ i → get_or after i 0 ≡ 0
  unfolding n
  off-past i m =
      let low = leaf_lies in
      l.each i (λ z. omega arith)
      ∙ ap (λ (t : Bool). cond (t && is_header_or_move (i - n.start)) (header_or_move n (i - n.start)) (get_or (set before 0 next) i 0))
      (false_from_ne_true (covers i n) (λ t. let u = covers_of i n t in omega (arith, u.1)))
      ∙ get_or-set_other before 0 i next 0 (λ z. omega arith) ∙ h.fresh i (omega arith)

  -- the new block's words
  new-stays : (i : ℕ) → i < size n → is_header_or_move i ≡ true
      → get_or after (n.start + i) 0 ≡ header_or_move n i
  unfolding n
  new-stays i m t =
      let low = leaf_lies in
      let at : n.start + i - n.start ≡ i = omega arith in
      l.each (n.start + i) (λ z. omega arith)
      ∙ ap (λ (u : Bool). cond (u && is_header_or_move (n.start + i - n.start)) (header_or_move n (n.start
      + i - n.start)) (get_or (set before 0 next) (n.start + i) 0)) (covers_if (n.start + i) n (omega arith) (omega (arith, m)))
      ∙ ap (λ (j : ℕ). cond (is_header_or_move j) (header_or_move n j) (get_or (set before 0 next) (n.start + i) 0)) at
      ∙ ap (λ (u : Bool). cond u (header_or_move n i) (get_or (set before 0 next) (n.start + i) 0)) t

  new-blank : (i : ℕ) → i < size n → is_header_or_move i ≡ false → get_or after (n.start + i) 0 ≡ 0
  unfolding n
  new-blank i m t =
      let low = leaf_lies in
      let at : n.start + i - n.start ≡ i = omega arith in
      l.each (n.start + i) (λ z. omega arith)
      ∙ ap (λ (u : Bool). cond (u && is_header_or_move (n.start + i - n.start)) (header_or_move n (n.start
      + i - n.start)) (get_or (set before 0 next) (n.start + i) 0)) (covers_if (n.start + i) n (omega arith) (omega (arith, m)))
      ∙ ap (λ (j : ℕ). cond (is_header_or_move j) (header_or_move n j) (get_or (set before 0 next) (n.start + i) 0)) at
      ∙ ap (λ (u : Bool). cond u (header_or_move n i) (get_or (set before 0 next) (n.start + i) 0)) t
      ∙ get_or-set_other before 0 (n.start + i) next 0 (λ z. omega arith)
      ∙ h.fresh (n.start + i) (omega arith)

  new-word : (x j : ℕ) → has_node n x ≡ true → 1 ≤ j → j < 4 → get_or after (x + j) 0 ≡ 0
  unfolding n
  new-word x j t lj mj =
      let q = has-at n x t in
      let at : x + j ≡ n.start + (4 + 4 * q.0 + j) = omega (arith, q.2) in
      ap (λ (z : ℕ). get_or after z 0) at ∙ new-blank (4 + 4 * q.0 + j) (omega (arith, q.1))
      (stays-not q.0 j lj mj)

  old-word : (x j : ℕ) → is_node (root_at s) bs x ≡ true → 1 ≤ j → j < 4 → (x ≡ leaf → j ≡ 1 → ⊥)
      → get_or after (x + j) 0 ≡ get_or before (x + j) 0
  old-word x j t lj mj d =
      let low = node-lies s (next_in before) bs x h.linked.complete t in
      let below : x + j < next_in before = ⊎_elim (λ (q : x ≡ root_at s). omega (arith, h.next.0))
      (λ (q : (area_at s ≤ x) × (x + 4 ≤ next_in before) × (x + 4 ≤ end_of s)). omega (arith, q.1)) low in
      off (x + j) (omega arith) below (λ z.
      let one : x ≡ leaf = nodes-apart (root_at s) bs x leaf j 1 h.linked.order t leaf_is_node.0 mj
      (omega arith) z in
      d one (omega arith))

  counts-old : (x : ℕ) → is_node (root_at s) bs x ≡ true → (tally_in after x ≡ tally_in before x)
      × (seen_in after x ≡ seen_in before x)
  counts-old x t
      = (
        ap count_in (old-word x 2 t (omega arith) (omega arith) (λ a b. omega arith)),
        ap count_in (old-word x 3 t (omega arith) (omega arith) (λ a b. omega arith)),
      )

  counts-new : (x : ℕ) → has_node n x ≡ true → (tally_in after x ≡ nothing)
      × (seen_in after x ≡ nothing)
  counts-new x t
      = (ap count_in (new-word x 2 t (omega arith) (omega arith)), ap count_in (new-word x 3 t (omega arith) (omega arith)))

  counts-fresh : (x : ℕ) → has_node n x ≡ true → (tally_in before x ≡ nothing)
      × (seen_in before x ≡ nothing)
  unfolding n
  counts-fresh x t = let q = has-at n x t in
      (ap count_in (h.fresh (x + 2) (omega (arith, q.2))), ap count_in (h.fresh (x + 3) (omega (arith, q.2))))

  spot-is : node_state s bs leaf ≡ p
  unfolding r whole
  spot-is = ap (node_state s bs) is_leaf ∙ leaf-spot s (tally_in before) (seen_in before) bs whole
      ∙ sym is_spot

  new-follows : Follows (root_at s) n bs
  unfolding n r whole
  new-follows =
      let low = leaf_lies in
      record {
        parent = leaf_is_node.0;
        vacant = ap (link_of bs) is_leaf
            ∙ leaf-vacant (search_game s) (fair_game s) (tally_in before) (seen_in before) bs
            (root_at s) (sprouts-of (root_at s) bs whole)
            (rooted-turned (root_at s) bs h.linked.order) (root-out (root_at s) bs h.linked.order);
        above = omega (arith, low.1);
        clear = λ i t. cover-none s (next_in before) bs i h.linked.complete
            (let u = covers_of i n t in omega (arith, u.0));
        root = omega (arith, h.next.0);
      }

  next-is : next_in after ≡ next
  unfolding n
  next-is =
      let low = leaf_lies in
      l.each 0 (λ z. omega arith)
      ∙ ap (λ (t : Bool). cond (t && is_header_or_move (0 - n.start)) (header_or_move n (0 - n.start)) (get_or (set before 0 next) 0 0))
      (false_from_ne_true (covers 0 n) (λ t. let u = covers_of 0 n t in omega (arith, u.0, h.next.0)))
      ∙ zero-set before next (omega (arith, h.long))
    where
      zero-set : (ws : List ℕ) (m : ℕ) → 0 < length ws → get_or (set ws 0 m) 0 0 ≡ m
      zero-set ws m lw = get_or-set_same ws 0 m 0 lw

  new-holds : Holds s (n ∷ bs) after k
  unfolding n
  new-holds =
      let low = leaf_lies in
      let f = new-follows in
      let notroot : (leaf == root_at s) ≡ false = ne_eqb leaf (root_at s) leaf_is_node.1 in
      let complete : IsComplete s next bs n = record {
        claimed = omega (arith, grown);
        inside = (omega (arith, h.next.0), omega (arith, room));
        empties = subst (λ (z : NodeState). HasEmpties e z.board) (sym spot-is) empties;
        cells = ap (λ (z : NodeState). empties_of z.board) (sym spot-is)
            ∙ sym (ap (λ (t : Bool). cond t (allowed_cells s) (empties_of (node_board s bs leaf))) notroot);
      } in
      let shows : HaveBlocks (root_at s) (n ∷ bs) after = record {
        blocks = λ c i m li t. ⊎_elim
            (λ (q : c ≡ n).
            subst (λ (d : LinkedBlock). get_or after (d.start + i) 0 ≡ header_or_move d i) (sym q)
            (new-stays i (subst (λ (d : LinkedBlock). i < size d) q li) t))
            (λ (q : In c bs).
            let w = whole-lies s (next_in before) bs c h.linked.complete q in
            off (c.start + i) (omega (arith, w.0)) (omega (arith, w.1, li))
            (λ z. stays-clear (root_at s) bs c i leaf 1 h.linked.order q li t leaf_is_node.0 (omega arith) (omega arith) z)
            ∙ h.linked.shows.blocks c i q li t) m;
        links = λ x m. ⊎_elim
            (λ (t : has_node n x ≡ true).
            let q = has-at n x t in
            let far : (leaf == x) ≡ false = ne_eqb leaf x (λ z. omega (arith, z, q.2, low.1)) in
            let none : is_node (root_at s) bs x ≡ false
            = false_from_ne_true (is_node (root_at s) bs x)
            (λ u. clash (has_node n x) t (apart (root_at s) n bs x f u)) in
            new-word x 1 t (omega arith) (omega arith)
            ∙ sym (ap (λ (u : Bool). cond u n.start (link_of bs x)) far ∙ link-none (root_at s) bs x h.linked.order none))
            (λ (t : is_node (root_at s) bs x ≡ true). ⊎_elim
            (λ (q : x ≡ leaf). ap (λ (z : ℕ). get_or after (z + 1) 0) q ∙ l.link
            ∙ sym (ap (λ (u : Bool). cond u n.start (link_of bs x)) (eq-eqb leaf x (sym q))))
            (λ (q : x ≡ leaf → ⊥). old-word x 1 t (omega arith) (omega arith) (λ a b. q a) ∙ h.linked.shows.links x t
            ∙ sym (ap (λ (u : Bool). cond u n.start (link_of bs x)) (ne_eqb leaf x (λ z. q (sym z)))))
            (cases_eq x leaf))
            (or_cases (has_node n x) (is_node (root_at s) bs x) m);
      } in
      let grew : next_in before ≤ next = omega (arith, grown) in
      record {
        long = l.long ∙ length-set before 0 next ∙ h.long;
        linked = record {
          order = (f, h.linked.order);
          shows = shows;
          complete = subst (λ (z : ℕ). AreComplete s z (n ∷ bs)) (sym next-is)
              (complete, complete-more s (next_in before) next bs grew h.linked.complete);
        };
        filled = (some, h.filled);
        root = (
          off (root_at s) (omega arith) (omega (arith, h.next.0)) (λ z. omega (arith, low.0)) ∙ h.root.0,
          off (root_at s + 3) (omega arith) (omega (arith, h.next.0)) (λ z. omega (arith, low.0)) ∙ h.root.1,
        );
        next = (omega (arith, next-is, grew, h.next.0), omega (arith, next-is, grown, room));
        fresh = λ i m. off-past i (omega (arith, next-is, m));
        counts = λ x m. ⊎_elim
            (λ (t : has_node n x ≡ true). let c = counts-new x t in (at-most-none k (tally_in after x) c.0, at-most-none k (seen_in after x) c.1))
            (λ (t : is_node (root_at s) bs x ≡ true). let c = counts-old x t in let u = h.counts x t in (
              subst (AtMost k) (sym c.0) u.0,
              subst (AtMost k) (sym c.1) u.1,
            ))
            (or_cases (has_node n x) (is_node (root_at s) bs x) m);
      }
    where
      clash : (t : Bool) → t ≡ true → t ≡ false → ⊥
      clash t a b = cc

      whole-lies : (s : Setting) (next : ℕ) (bs : List LinkedBlock) (c : LinkedBlock)
          → AreComplete s next bs → In c bs → (area_at s ≤ c.start) × (c.start + size c ≤ next)
      whole-lies s next [] c a i = absurd i
      whole-lies s next (b ∷ bs) c a i = ⊎_elim
          (λ (q : c ≡ b). subst (λ (d : LinkedBlock). (area_at s ≤ d.start) × (d.start + size d ≤ next)) (sym q) (a.0.inside.0, a.0.claimed))
          (λ (q : In c bs). whole-lies s next bs c a.1 q) i

  new-widened : gets_block s (next_in before) (tally_in before leaf) p ≡ true
      → next ≡ next_after s (next_in before) (tally_in before leaf) p
      → Widened (search_game s) (root_state s) (root_at s) (config_of bs before)
      (config_of (n ∷ bs) after)
  unfolding n
  new-widened wide rule =
      let g : Game NodeState Ending = search_game s in
      let st : Count × NodeState = state_at g (tally_in before) (seen_in before) (oldest_first bs)
      (root_at s) (root_state s) in
      let count : tally_in before leaf ≡ st.0 = ap (tally_in before) is_leaf
      ∙ sym (state-count g (fair_game s) (tally_in before) (seen_in before) (oldest_first bs) (root_at s) (root_state s)) in
      let new : NewBlock g (root_state s) (root_at s) (config_of bs before)
      (config_of (n ∷ bs) after) n = record {
        wide = sym (λ i. gets_block s (next_in before) (count i) (is_spot i)) ∙ wide;
        blocks = refl;
        parent = is_leaf;
        cells = ap (λ (z : NodeState). empties_of z.board) is_spot;
        start = refl;
        room = omega (arith, next-is, grown);
        some = some;
        blank = counts-fresh;
      } in
      let node : (w : ℕ) → top (oldest_first (n ∷ bs)) w ≡ root_at s
      → is_node (root_at s) (n ∷ bs) w ≡ true
      = λ w e. ⊎_elim (λ (q : w ≡ root_at s). or_right (has_node n w) (is_node (root_at s) bs w) (ap (is_node (root_at s) bs) q ∙ root_node (root_at s) bs))
      (λ (i : Inside (oldest_first (n ∷ bs)) w). inside-node (root_at s) (n ∷ bs) w i)
      (under-root (oldest_first (n ∷ bs)) (root_at s) w e) in
      record {
        next = next-is ∙ rule ∙ (λ i. next_after s (next_in before) (count i) (is_spot i));
        block = inl (n, new);
        tally = λ w e. ⊎_elim (λ (t : has_node n w ≡ true). (counts-new w t).0
            ∙ sym (counts-fresh w t).0) (λ (t : is_node (root_at s) bs w
            ≡ true). (counts-old w t).0) (or_cases (has_node n w) (is_node (root_at s) bs w) (node w e));
        seen = λ w e d. ⊎_elim (λ (t : has_node n w ≡ true). (counts-new w t).1
            ∙ sym (counts-fresh w t).1) (λ (t : is_node (root_at s) bs w
            ≡ true). (counts-old w t).1) (or_cases (has_node n w) (is_node (root_at s) bs w) (node w e));
      }

  new-keeps : KeepsRecords s before after
  new-keeps i m t = let low = leaf_lies in
      off i m (omega (arith, h.next.0)) (λ z. omega (arith, low.0))

  new-all : gets_block s (next_in before) (tally_in before leaf) p ≡ true
      → next ≡ next_after s (next_in before) (tally_in before leaf) p
      → (cs : List LinkedBlock) × Holds s cs after k × Widened (search_game s) (root_state s)
      (root_at s) (config_of bs before) (config_of cs after) × KeepsRecords s before after
  unfolding n
  new-all wide rule
      = (block_below (next_in before) leaf e p ∷ bs, new-holds, new-widened wide rule, new-keeps)

-- if no block is made
none-all : (s : Setting) (bs : List LinkedBlock) (before after : List ℕ) (k leaf : ℕ)
    (p : NodeState) → Holds s bs before k
    → leaf ≡ leaf_at (search_game s) (tally_in before) (seen_in before)
    (oldest_first bs) (root_at s)
    → p ≡ (state_at (search_game s) (tally_in before) (seen_in before) (oldest_first bs) (root_at s) (root_state s)).1
    → gets_block s (next_in before) (tally_in before leaf) p ≡ false
    → next_in after ≡ next_after s (next_in before) (tally_in before leaf) p
    → next_in before ≤ next_in after → next_in after ≤ end_of s + MOST_BLOCK_WORDS
    → length after ≡ length before → ((i : ℕ) → 1 ≤ i → get_or after i 0 ≡ get_or before i 0)
    → Holds s bs after k × Widened (search_game s) (root_state s) (root_at s) (config_of bs before)
    (config_of bs after) × KeepsRecords s before after
none-all s bs before after k leaf p h is_leaf is_spot narrow rule grew most long same =
    let g : Game NodeState Ending = search_game s in
    let st : Count × NodeState = state_at g (tally_in before) (seen_in before) (oldest_first bs)
    (root_at s) (root_state s) in
    let count : tally_in before leaf ≡ st.0 = ap (tally_in before) is_leaf
    ∙ sym (state-count g (fair_game s) (tally_in before) (seen_in before) (oldest_first bs) (root_at s) (root_state s)) in
    let tally : (w : ℕ) → tally_in after w ≡ tally_in before w
    = λ w. ap count_in (same (w + 2) (omega arith)) in
    let seen : (w : ℕ) → seen_in after w ≡ seen_in before w
    = λ w. ap count_in (same (w + 3) (omega arith)) in
    let holds : Holds s bs after k = record {
      long = long ∙ h.long;
      linked = record {
        order = h.linked.order;
        shows = record {
          blocks = λ c i m l t. same (c.start + i)
              (let z = block-lies s (next_in before) bs c h.linked.complete m in omega (arith, z))
              ∙ h.linked.shows.blocks c i m l t;
          links = λ x m. same (x + 1) (omega arith) ∙ h.linked.shows.links x m;
        };
        complete = complete-more s (next_in before) (next_in after) bs grew h.linked.complete;
      };
      filled = h.filled;
      root = (same (root_at s) (omega arith) ∙ h.root.0, same (root_at s + 3) (omega arith) ∙ h.root.1);
      next = (omega (arith, grew, h.next.0), most);
      fresh = λ i m. same i (omega (arith, m, grew, h.next.0)) ∙ h.fresh i (omega (arith, m, grew));
      counts = λ x m. let u = h.counts x m in
          (subst (AtMost k) (sym (tally x)) u.0, subst (AtMost k) (sym (seen x)) u.1);
    } in
    let widened : Widened g (root_state s) (root_at s) (config_of bs before)
    (config_of bs after) = record {
      next = rule ∙ (λ i. next_after s (next_in before) (count i) (is_spot i));
      block = inr (sym (λ i. gets_block s (next_in before) (count i) (is_spot i)) ∙ narrow, refl);
      tally = λ w e. tally w;
      seen = λ w e d. seen w;
    } in
    (holds, widened, λ i m t. same i m)
  where
    block-lies : (s : Setting) (next : ℕ) (bs : List LinkedBlock) (c : LinkedBlock)
        → AreComplete s next bs → In c bs → area_at s ≤ c.start
    block-lies s next [] c a i = absurd i
    block-lies s next (b ∷ bs) c a i = ⊎_elim
        (λ (q : c ≡ b). subst (λ (d : LinkedBlock). area_at s ≤ d.start) (sym q) a.0.inside.0)
        (λ (q : In c bs). block-lies s next bs c a.1 q) i

-- The words hold the tree after the leaf has got its block, with the same records.
pub made-block : (s : Setting) (bs : List LinkedBlock) (before after : List ℕ) (k leaf : ℕ)
    (p : NodeState) → IsSetting s → Holds s bs before k → 0 < link_of bs (root_at s)
    → leaf ≡ leaf_at (search_game s) (tally_in before) (seen_in before)
    (oldest_first bs) (root_at s)
    → p ≡ (state_at (search_game s) (tally_in before) (seen_in before) (oldest_first bs) (root_at s) (root_state s)).1
    → Grows s leaf p before after → gets_block s (next_in before) (tally_in before leaf) p ≡ true
    → (cs : List LinkedBlock) × Holds s cs after k × Widened (search_game s) (root_state s)
    (root_at s) (config_of bs before) (config_of cs after) × KeepsRecords s before after
made-block s bs before after k leaf p set h rooted is_leaf is_spot w t =
    let n : ℕ = next_in before in
    let v : Count = tally_in before leaf in
    let f = gets-facts s n v p t in
    let grown = next-gets s n v p t in
    let m = w.made t in
    new-all s bs before after k set h rooted leaf m.0
    (next_after s n v p) p is_leaf is_spot f.0 f.1 grown.1 m.1 m.2 t refl

-- They hold the same tree if it has got none; NEXT may have grown.
pub no-block : (s : Setting) (bs : List LinkedBlock) (before after : List ℕ) (k leaf : ℕ)
    (p : NodeState) → IsSetting s → Holds s bs before k
    → leaf ≡ leaf_at (search_game s) (tally_in before) (seen_in before)
    (oldest_first bs) (root_at s)
    → p ≡ (state_at (search_game s) (tally_in before) (seen_in before) (oldest_first bs) (root_at s) (root_state s)).1
    → Grows s leaf p before after → gets_block s (next_in before) (tally_in before leaf) p ≡ false
    → Holds s bs after k × Widened (search_game s) (root_state s) (root_at s) (config_of bs before)
    (config_of bs after) × KeepsRecords s before after
no-block s bs before after k leaf p set h is_leaf is_spot w t =
    let n : ℕ = next_in before in
    let v : Count = tally_in before leaf in
    let whole : Whole (root_at s) bs = record { order = h.linked.order; filled = h.filled } in
    let small : size_below p ≤ MOST_BLOCK_WORDS = size-most p (subst (λ (z : ℕ). z ≤ 11)
    (sym (ap (λ (z : NodeState). z.board.size) (is_spot ∙ sym (leaf-spot s (tally_in before) (seen_in before) bs whole))
    ∙ spot-size s bs (leaf_at (search_game s) (tally_in before) (seen_in before) (oldest_first bs) (root_at s)))) set.position.most) in
    let none = w.none t in
    let range : (n ≤ next_in after) × (next_in after ≤ end_of s + MOST_BLOCK_WORDS) = ⊎_elim
    (λ (a : asks s n v p ≡ true). let u = next-vain s n v p t a in (omega (arith, w.next, u.1), omega (arith, w.next, u.0, u.1, small)))
    (λ (a : asks s n v p ≡ false). let u = next-stays s n v p a in (omega (arith, w.next, u), omega (arith, w.next, u, h.next.1)))
    (cases_Bool (asks s n v p)) in
    none-all s bs before after k leaf p h is_leaf is_spot t w.next range.0 range.1 none.0 none.1
