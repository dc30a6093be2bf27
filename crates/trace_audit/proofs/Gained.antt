-- What a block's sums have after a gain.
use Rattle.std.proofs.Common.{◌≡◌, ℕ, ◌+◌, ◌*◌, ◌<◌, ◌≤◌, true, List, length, length-set, set}
use Rattle.std.proofs.Common.{get_or-set_same, get_or-set_other, slice_index, sym, ap, ◌∙◌, ⊎_elim}
use Rattle.std.proofs.Common.{arith}
use Rattle.std.proofs.lemmas.Bool.{cases_eq}
use Rattle.tree_words.specs.Settings.{Setting, IsSetting}
use Rattle.tree_words.specs.Words.{Count, cell_in, count_in, root_at, end_of, node_at, nodes_in}
use Rattle.tree_words.specs.Words.{tally_in}
use Rattle.tree_words.specs.Blocks.{LinkedBlock, In, block_size, cell_at, has_node, is_node, place}
use Rattle.tree_words.specs.Complete.{Linked}
use Rattle.tree_words.specs.Walks.{plus}
use Rattle.tree_words.proofs.Blocks.BlockLaws.{covers_if, has-at, has-covers, has-here, root_node}
use Rattle.tree_words.proofs.Blocks.GameLaws.{in-node}
use Rattle.tree_words.proofs.Blocks.Members.{node-in}
use Rattle.tree_words.proofs.Blocks.NodeLaws.{nodes-apart}
use Rattle.trace_audit.specs.Gains.{AreCells, GainsBlock, IsNodeOf, Sees, cell_of_node}
use Rattle.trace_audit.specs.Sums.{Counts, HaveCounts}
use Rattle.trace_audit.proofs.Downward.{parent_low}
use Rattle.tree_words.proofs.Blocks.NodeLaws.{covers-one}
use Rattle.trace_audit.proofs.Placed.{count_is, lies, most_of, move_of}
use Rattle.trace_audit.proofs.Stands.{one_start}
use Rattle.trace_audit.proofs.Sums.{IsSmall, count_plus, word_of}

-- two words set, and then the seen words
pub gains_block : (words : List ℕ) (b x amount : ℕ) (gift : ℕ → ℕ) (before one two after : List ℕ)
    → IsNodeOf words b x → b < length before → x + 2 < length before
    → one ≡ set before b (slice_index before b + amount)
    → two ≡ set one (x + 2) (slice_index one (x + 2) + amount)
    → Sees words b (nodes_in words b) gift two after → GainsBlock words b x amount gift before after
gains_block words b x amount gift before one two after node low high first second s =
    let k : ℕ = node.0 in
    let at : x ≡ b + 4 + 4 * k = node.2 in
    let long : length one ≡ length before = ap length first ∙ length-set before b _ in
    let keeps : (i : ℕ) → (i ≡ b → ⊥) → slice_index one i ≡ slice_index before i
    = λ i d. ap (λ (l : List ℕ). slice_index l i) first ∙ get_or-set_other before b i _ 0 d in
    let keeps-two : (i : ℕ) → (i ≡ x + 2 → ⊥) → slice_index two i ≡ slice_index one i
    = λ i d. ap (λ (l : List ℕ). slice_index l i) second
    ∙ get_or-set_other one (x + 2) i _ 0 d in
    record {
      long = s.long ∙ ap length second ∙ length-set one (x + 2) _ ∙ long;
      total = s.others b (λ j l e. omega (arith, e)) ∙ keeps-two b (λ e. omega (arith, e, at))
          ∙ ap (λ (l : List ℕ). slice_index l b) first ∙ get_or-set_same before b _ 0 low;
      tally = s.others (x + 2) (λ j l e. omega (arith, e, at))
          ∙ ap (λ (l : List ℕ). slice_index l (x + 2)) second
          ∙ get_or-set_same one (x + 2) _ 0 (omega (arith, long, high))
          ∙ ap (λ (n : ℕ). n + amount) (keeps (x + 2) (λ e. omega (arith, e, at)));
      seen = λ j l. s.seen j l ∙ ap (λ (n : ℕ). n + gift (cell_of_node words b j))
          (keeps-two (node_at b j + 3) (λ e. omega (arith, e, at)) ∙ keeps (node_at b j + 3) (λ e. omega (arith, e)));
      others = λ i d e f. s.others i f ∙ keeps-two i e ∙ keeps i d;
    }

module _ (s : Setting) (words : List ℕ) (bs : List LinkedBlock) (h : IsSetting s)
    (lk : Linked s words bs) where
  abbrev r : ℕ
  r = root_at s

  -- the first word of a block is no node's
  pub head_apart : (d : LinkedBlock) (z j : ℕ) → In d bs → is_node r bs z ≡ true → j < 4
      → d.start ≡ z + j → ⊥
  head_apart d z j i n l e = ⊎_elim
      (λ (q : z ≡ r). let low = parent_low r bs d lk.order i in omega (arith, q, low.1, e, l))
      (λ (q : (b : LinkedBlock) × In b bs × (has_node b z ≡ true)).
      let at = has-at q.0 z q.2 in
      let same : q.0 ≡ d = covers-one r bs q.0 d (z + j) lk.order q.1 i (has-covers q.0 z j q.2 l)
      (covers_if (z + j) d (omega (arith, e)) (omega (arith, e))) in
      let starts : q.0.start ≡ d.start = ap (λ (c : LinkedBlock). c.start) same in
      omega (arith, at.2, starts, e, l))
      (node-in r bs z n)

  pub node_inside : (z j : ℕ) → is_node r bs z ≡ true → j < 4 → z + j < end_of s
  node_inside z j n l = ⊎_elim
      (λ (q : z ≡ r). let ranges = h.ranges in omega (arith, q, l, ranges.words))
      (λ (q : (b : LinkedBlock) × In b bs × (has_node b z ≡ true)). let m = most_of s words bs h lk q.0 z q.1 q.2 in omega (arith, m.1, l))
      (node-in r bs z n)

  -- the words of a node as the code tells them
  pub node_of : (b : LinkedBlock) (x : ℕ) → In b bs → has_node b x ≡ true → IsNodeOf words b.start x
  node_of b x i n = let m = move_of s words bs h lk b x i n in
      (m.0, omega (arith, m.1, count_is s words bs h lk b i), m.2)

  pub own_node : (b : LinkedBlock) (k : ℕ) → In b bs → k < nodes_in words b.start
      → has_node b (node_at b.start k) ≡ true
  own_node b k i l = let count = count_is s words bs h lk b i in
      let at : node_at b.start k ≡ b.start + (4 + 4 * k) = omega arith in
      ap (has_node b) at ∙ has-here b k (omega (arith, l, count))

  pub block_within : (b : LinkedBlock) → In b bs → length words ≡ end_of s
      → b.start + block_size (nodes_in words b.start) ≤ length words
  block_within b i long
      = omega (arith, lies s words bs h lk b i, count_is s words bs h lk b i, long)

  pub block_cells : (b : LinkedBlock) → In b bs → AreCells words b.start
  block_cells b i j l =
      let m = move_of s words bs h lk b (node_at b.start j) i (own_node b j i l) in
      omega (arith, ap (λ (z : ℕ). cell_in (slice_index words z)) m.2, m.3.cell, m.3.small)

  module _ (b : LinkedBlock) (i : In b bs) (x : ℕ) (n : has_node b x ≡ true) (before after : List ℕ)
      (amount : ℕ) (gift : ℕ → ℕ) (g : GainsBlock words b.start x amount gift before after) where
    node_x : is_node r bs x ≡ true
    node_x = in-node r bs b x i n

    not_seen : (z j : ℕ) → is_node r bs z ≡ true → j < 3 → (k : ℕ) → k < nodes_in words b.start
        → z + j ≡ node_at b.start k + 3 → ⊥
    not_seen z j m l k q e = let same = nodes-apart r bs z (node_at b.start k) j 3 lk.order m
        (in-node r bs b (node_at b.start k) i (own_node b k i q)) (omega (arith, l))
        (omega arith) e in omega (arith, same, e, l)

    pub gained_total : (d : LinkedBlock) → In d bs → (d.start ≡ b.start → ⊥)
        → slice_index after d.start ≡ slice_index before d.start
    gained_total d j e = g.others d.start e (head_apart d x 2 j node_x (omega arith))
        (λ k q. head_apart d (node_at b.start k) 3 j (in-node r bs b (node_at b.start k) i (own_node b k i q)) (omega arith))

    pub gained_tally : (z : ℕ) → is_node r bs z ≡ true → (z ≡ x → ⊥)
        → slice_index after (z + 2) ≡ slice_index before (z + 2)
    gained_tally z m d = g.others (z + 2) (λ e. head_apart b z 2 i m (omega arith) (sym e))
        (λ e. d (omega (arith, e))) (not_seen z 2 m (omega arith))

    pub gained_move : (z : ℕ) → is_node r bs z ≡ true → slice_index after z ≡ slice_index before z
    gained_move z m =
        let none : z ≡ z + 0 = omega arith in
        g.others z (λ e. head_apart b z 0 i m (omega arith) (sym e ∙ none))
        (λ e. let same = nodes-apart r bs z x 0 2 lk.order m node_x (omega arith) (omega arith) (sym none ∙ e) in omega (arith, same, e))
        (λ k q e. not_seen z 0 m (omega arith) k q (sym none ∙ e))

    pub gained_seen : (y : ℕ) → has_node b y ≡ true → slice_index after (y + 3) ≡ slice_index before
        (y + 3) + gift (cell_at b (place b y))
    gained_seen y m =
        let mv = move_of s words bs h lk b y i m in
        let number : place b y ≡ mv.0 = let at = mv.2 in omega (arith, at) in
        ap (λ (z : ℕ). slice_index after (z + 3)) mv.2
        ∙ g.seen mv.0 (omega (arith, mv.1, count_is s words bs h lk b i))
        ∙ (λ j. slice_index before (sym mv.2 j + 3) + gift (mv.3.cell j))
        ∙ ap (λ (k : ℕ). slice_index before (y + 3) + gift (cell_at b k)) (sym number)

    pub gained_unseen : (d : LinkedBlock) (y : ℕ) → In d bs → has_node d y ≡ true
        → (d.start ≡ b.start → ⊥) → slice_index after (y + 3) ≡ slice_index before (y + 3)
    gained_unseen d y j m e =
        let node : is_node r bs y ≡ true = in-node r bs d y j m in
        g.others (y + 3) (λ q. head_apart b y 3 i node (omega arith) (sym q))
        (λ q. let same = nodes-apart r bs y x 3 2 lk.order node node_x (omega arith) (omega arith) q in omega (arith, same, q))
        (λ k l q.
        let same : y ≡ node_at b.start k = nodes-apart r bs y (node_at b.start k) 3 3 lk.order node
        (in-node r bs b (node_at b.start k) i (own_node b k i l)) (omega arith)
        (omega arith) q in
        e (ap (λ (c : LinkedBlock). c.start) (covers-one r bs d b (y + 0) lk.order j i
        (has-covers d y 0 m (omega arith)) (has-covers b y 0 (ap (has_node b) same ∙ own_node b k i l) (omega arith)))))

    -- the counts of the sums, if the amount is a count's word and so is each gift
    module _ (c d : Counts) (a : Count) (gifts : ℕ → Count) (is : amount ≡ word_of a)
        (gives : (y : ℕ) → has_node b y ≡ true → gift (cell_at b (place b y)) ≡ word_of (gifts y))
        (total : d.total b ≡ plus (c.total b) a) (tally : d.tally b x ≡ plus (c.tally b x) a)
        (seen : (y : ℕ) → has_node b y ≡ true → d.seen b y ≡ plus (c.seen b y) (gifts y))
        (small : IsSmall (d.total b) × IsSmall (d.tally b x) × ((y : ℕ) → IsSmall (d.seen b y)))
        (root_same : d.root ≡ c.root)
        (totals : (e : LinkedBlock) → In e bs → (e.start ≡ b.start → ⊥) → d.total e ≡ c.total e)
        (tallies : (e : LinkedBlock) (z : ℕ) → In e bs → has_node e z ≡ true → (z ≡ x → ⊥) → d.tally e z ≡ c.tally e z)
        (seens : (e : LinkedBlock) (y : ℕ) → In e bs → has_node e y ≡ true → (e.start ≡ b.start → ⊥) → d.seen e y ≡ c.seen e y) where
      pub counts_gained : HaveCounts s bs before c → HaveCounts s bs after d
      counts_gained v = record {
        long = g.long ∙ v.long;
        root = ap count_in
            (gained_tally r (root_node r bs) (λ e. let low = parent_low r bs b lk.order i in let at = has-at b x n
            in omega (arith, e, low.1, at.2))) ∙ v.root ∙ sym root_same;
        total = λ e j. ⊎_elim
            (λ (q : e.start ≡ b.start).
            let one : e ≡ b = one_start s bs lk.order e b j i q in
            ap (λ (f : LinkedBlock). count_in (slice_index after f.start)) one
            ∙ ap count_in (g.total ∙ ap (λ (m : ℕ). slice_index before b.start + m) is)
            ∙ count_plus (slice_index before b.start) (c.total b) a (d.total b)
            (v.total b i) total small.0 ∙ ap d.total (sym one))
            (λ (q : e.start ≡ b.start → ⊥). ap count_in (gained_total e j q) ∙ v.total e j ∙ sym (totals e j q))
            (cases_eq e.start b.start);
        tally = λ e z j m. ⊎_elim
            (λ (q : z ≡ x).
            let one : e ≡ b
            = covers-one r bs e b (z + 0) lk.order j i (has-covers e z 0 m (omega arith))
            (has-covers b z 0 (ap (has_node b) q ∙ n) (omega arith)) in
            ap (tally_in after) q
            ∙ ap count_in (g.tally ∙ ap (λ (m : ℕ). slice_index before (x + 2) + m) is)
            ∙ count_plus (slice_index before (x + 2)) (c.tally b x) a (d.tally b x)
            (v.tally b x i n) tally small.1 ∙ (λ k. d.tally (sym one k) (sym q k)))
            (λ (q : z ≡ x → ⊥). ap count_in (gained_tally z (in-node r bs e z j m) q) ∙ v.tally e z j m ∙ sym (tallies e z j m q))
            (cases_eq z x);
        seen = λ e y j m. ⊎_elim
            (λ (q : e.start ≡ b.start).
            let one : e ≡ b = one_start s bs lk.order e b j i q in
            let own : has_node b y ≡ true = ap (λ (f : LinkedBlock). has_node f y) (sym one) ∙ m in
            ap count_in (gained_seen y own ∙ ap (λ (m : ℕ). slice_index before (y + 3) + m) (gives y own))
            ∙ count_plus (slice_index before (y + 3)) (c.seen b y) (gifts y) (d.seen b y)
            (v.seen b y i own) (seen y own) (small.2 y)
            ∙ ap (λ (f : LinkedBlock). d.seen f y) (sym one))
            (λ (q : e.start ≡ b.start → ⊥). ap count_in (gained_unseen e y j m q) ∙ v.seen e y j m ∙ sym (seens e y j m q))
            (cases_eq e.start b.start);
      }
