-- One playout more in the sums, at its leaf.
use Rattle.std.proofs.Common.{◌≡◌, ℕ, suc, ◌+◌, ◌<◌, ◌^◌, Bool, true, false, cond, List, length}
use Rattle.std.proofs.Common.{length-set, replicate, set, get_or-set_same, get_or-set_other}
use Rattle.std.proofs.Common.{slice_index, refl, sym, ap, ◌∙◌, subst, ⊎_elim, arith}
use Rattle.std.specs.Prelude.{◌==◌, ◌&&◌}
use Rattle.std.proofs.lemmas.Bool.{and_left, cases_eq, eq-eqb, ne_eqb, false_from_ne_true}
use Rattle.std.proofs.lemmas.List.{length-replicate}
use Rattle.hex_cells.specs.Colours.{is_same}
use Rattle.hex_cells.specs.declared.colours.Colour.{Colour}
use Rattle.hex_board.specs.Positions.{stones_of}
use Rattle.play_out.specs.declared.playouts.Ending.{Ending}
use Rattle.tree_words.specs.Settings.{Setting, IsSetting}
use Rattle.tree_words.specs.Words.{count_in, root_at, end_of, node_at}
use Rattle.tree_words.specs.Blocks.{LinkedBlock, In, has_node, is_node, one_if}
use Rattle.tree_words.specs.Complete.{Linked}
use Rattle.tree_words.specs.Growth.{ends_at}
use Rattle.tree_words.specs.Records.{leaf_of, outcome_in}
use Rattle.tree_words.specs.Sequence.{amount_of, one}
use Rattle.tree_words.specs.Walks.{nothing, plus}
use Rattle.tree_words.proofs.Blocks.BlockLaws.{has-at, root_node}
use Rattle.tree_words.proofs.Blocks.GameLaws.{in-node}
use Rattle.tree_words.proofs.Blocks.NodeLaws.{nodes-apart}
use Rattle.tree_words.proofs.Walks.Countings.{has-one}
use Rattle.tree_words.proofs.Walks.Down.{plus-nothing}
use Rattle.tree_words.proofs.Walks.Tallies.{count-most}
use Rattle.trace_audit.specs.Gains.{GainsLeaf, CanGain}
use Rattle.trace_audit.specs.Sums.{AreOwn, Counts, HaveCounts, IsFullBoard, chooser, has_stone}
use Rattle.trace_audit.specs.Sums.{standing, tally_of}
use Rattle.trace_audit.proofs.Downward.{parent_low}
use Rattle.trace_audit.proofs.Gained.{counts_gained, gained_move, head_apart, node_inside, own_node}
use Rattle.trace_audit.proofs.Sums.{IsSmall, one_word, tally_next, tally_small, word_of, word_small}
use Rattle.tree_words.proofs.Areas.CutAreas.{none_left}

-- no playout
pub own_none : (s : Setting) (bs : List LinkedBlock) (words sums : List ℕ) (n : ℕ) → n ≡ end_of s
    → sums ≡ replicate n 0 → AreOwn s bs words sums 0
own_none s bs words sums n e is =
    let none : (i : ℕ) → slice_index sums i ≡ 0 = λ i. ap (λ (l : List ℕ). slice_index l i) is
    ∙ none_left n i in
    record {
      counts = record {
        long = ap length is ∙ length-replicate {A = ℕ} n 0 ∙ e;
        root = ap count_in (none (root_at s + 2));
        total = λ b i. ap count_in (none b.start);
        tally = λ b x i m. ap count_in (none (x + 2));
        seen = λ b y i m. ap count_in (none (y + 3));
      };
      leaves = λ x m. none x;
      nodes = λ k l. absurd (omega (arith, l));
      filled = λ k l. absurd (omega (arith, l));
    }

gift_word : (t u : Bool) → cond u (amount_of t) 0 ≡ word_of (cond u (one t) nothing)
gift_word true true = refl
gift_word true false = refl
gift_word false true = refl
gift_word false false = refl

module _ (s : Setting) (words : List ℕ) (bs : List LinkedBlock) (h : IsSetting s)
    (lk : Linked s words bs) where
  abbrev r : ℕ
  r = root_at s

  abbrev own : ℕ → ℕ → ℕ
  own b x = x

  -- with one leaf's count changed the other words stay
  pub leaf_set : (sums : List ℕ) (leaf v : ℕ) (c : Counts) → is_node r bs leaf ≡ true
      → HaveCounts s bs sums c → HaveCounts s bs (set sums leaf v) c
  leaf_set sums leaf v c n a =
      let other : (z j : ℕ) → is_node r bs z ≡ true → j < 4 → 0 < j
      → slice_index (set sums leaf v) (z + j) ≡ slice_index sums (z + j)
      = λ z j m l p. get_or-set_other sums leaf (z + j) v 0
      (λ e. let none : leaf ≡ leaf + 0 = omega arith in let q = nodes-apart r bs z leaf j 0 lk.order m n l (omega arith)
      (e ∙ none) in omega (arith, q, e, p)) in
      record {
        long = length-set sums leaf v ∙ a.long;
        root = ap count_in (other r 2 (root_node r bs) (omega arith) (omega arith)) ∙ a.root;
        total = λ b i. ap count_in
            (get_or-set_other sums leaf b.start v 0
            (λ e. let none : leaf ≡ leaf + 0 = omega arith in head_apart s words bs h lk b leaf 0 i n (omega arith) (e ∙ none))) ∙ a.total b i;
        tally = λ b x i m. ap count_in
            (other x 2 (in-node r bs b x i m) (omega arith) (omega arith)) ∙ a.tally b x i m;
        seen = λ b y i m. ap count_in (other y 3 (in-node r bs b y i m) (omega arith) (omega arith))
            ∙ a.seen b y i m;
      }

  few : (k : ℕ) → k < s.knobs.playouts → k + 1 < 2 ^ 31
  few k l = let ranges = h.ranges in omega (arith, l, ranges.playouts)

  module _ (sums : List ℕ) (k : ℕ) (a : AreOwn s bs words sums k) (number : k < s.knobs.playouts)
      (b : LinkedBlock) (i : In b bs) (leaf : ℕ) (n : has_node b leaf ≡ true) where
    node : is_node r bs leaf ≡ true
    node = in-node r bs b leaf i n

    small : (f : ℕ → Bool) (c : Colour) → IsSmall (tally_of s bs words k f c)
    small f c = let l = few k number in tally_small s bs words k f c (omega (arith, l))

    -- what is added fits
    pub total_room : slice_index sums b.start < 2 ^ 63
    total_room = word_small (slice_index sums b.start) _ (a.counts.total b i) (small _ _)

    pub tally_room : slice_index sums (leaf + 2) < 2 ^ 63
    tally_room = word_small (slice_index sums (leaf + 2)) _ (a.counts.tally b leaf i n) (small _ _)

    pub leaf_room : slice_index sums leaf + 1 < 2 ^ 64
    leaf_room = let l = few k number in
        omega (arith, a.leaves leaf node, count-most k (λ q. leaf_of words q == leaf), l)

    pub seen_room : CanGain words sums b.start (2 ^ 32 + 1)
    seen_room j l =
        let y : ℕ = node_at b.start j in
        let w : slice_index sums (y + 3) < 2 ^ 63
        = word_small (slice_index sums (y + 3)) _
        (a.counts.seen b y i (own_node s words bs h lk b j i l)) (small _ _) in
        omega (arith, w)

    module _ (is_leaf : leaf_of words k ≡ leaf) where
      abbrev o : Ending
      o = outcome_in s bs words k

      abbrev p : Colour
      p = chooser s bs b

      -- what the playout adds to a count
      some : (f : ℕ → Bool) (c : Colour) → f k ≡ true
          → tally_of s bs words (suc k) f c ≡ plus (tally_of s bs words k f c)
          (one (is_same o.winner c))
      some f c t = tally_next s bs words k f c
          ∙ ap (λ (u : Bool). plus (tally_of s bs words k f c) (cond u (one (is_same o.winner c)) nothing)) t

      none : (f : ℕ → Bool) (c : Colour) → f k ≡ false
          → tally_of s bs words (suc k) f c ≡ tally_of s bs words k f c
      none f c t = tally_next s bs words k f c
          ∙ ap (λ (u : Bool). plus (tally_of s bs words k f c) (cond u (one (is_same o.winner c)) nothing)) t ∙ plus-nothing (tally_of s bs words k f c)

      here : has_node b (leaf_of words k) ≡ true
      here = ap (has_node b) is_leaf ∙ n

      not-here : (e : LinkedBlock) → In e bs → (e.start ≡ b.start → ⊥)
          → has_node e (leaf_of words k) ≡ false
      not-here e j d = false_from_ne_true (has_node e (leaf_of words k))
          (λ q. d (ap (λ (c : LinkedBlock). c.start) (has-one r bs e b leaf lk.order j i (ap (has_node e) (sym is_leaf) ∙ q) n)))

      and_true : (t u : Bool) → t ≡ true → (t && u) ≡ u
      and_true t u e = ap (λ (v : Bool). v && u) e

      below : leaf ≡ r → ⊥
      below e = let low = parent_low r bs b lk.order i in let at = has-at b leaf n in
          omega (arith, e, low.1, at.2)

      -- all sums are those of one playout more
      pub own_added : (after : List ℕ)
          → GainsLeaf words b.start leaf (amount_of (is_same o.winner p))
          (stones_of o.full p) sums after → IsFullBoard s.board.size o.full
          → AreOwn s bs words after (k + 1)
      own_added after g full =
          let middle : List ℕ = set sums leaf (slice_index sums leaf + 1) in
          let next : suc k ≡ k + 1 = omega arith in
          let inside : leaf < length sums = let l = node_inside s words bs h lk leaf 0 node
          (omega arith) in omega (arith, l, a.counts.long) in
          let many : suc k < 2 ^ 31 = let l = few k number in omega (arith, l) in
          let t : Bool = is_same o.winner p in
          let moves : (z : ℕ) → is_node r bs z ≡ true → slice_index after z ≡ slice_index middle z
          = gained_move s words bs h lk b i leaf n middle after _ _ g in
          subst (AreOwn s bs words after) next (record {
            counts = counts_gained s words bs h lk b i leaf n middle after _ _ g
                (standing s bs words own k) (standing s bs words own (suc k)) (one t)
                (λ y. cond (has_stone s bs words b y k) (one t) nothing) (one_word t)
                (λ y m. gift_word t (has_stone s bs words b y k))
                (some (λ j. has_node b (leaf_of words j)) p here)
                (some (λ j. leaf_of words j == leaf) p (eq-eqb (leaf_of words k) leaf is_leaf))
                (λ y m. tally_next s bs words k (λ j. has_node b (leaf_of words j) && has_stone s bs words b y j) p
                ∙ ap (λ (u : Bool). plus (tally_of s bs words k
                (λ j. has_node b (leaf_of words j) && has_stone s bs words b y j) p) (cond u (one t) nothing))
                (and_true (has_node b (leaf_of words k)) (has_stone s bs words b y k) here))
                (tally_small s bs words (suc k) _ p many, tally_small s bs words (suc k) _ p many, λ y. tally_small s bs words (suc k) _ p many)
                (none (λ j. leaf_of words j == r) _ (ne_eqb (leaf_of words k) r (λ e. below (sym is_leaf ∙ e))))
                (λ e j d. none (λ q. has_node e (leaf_of words q)) _ (not-here e j d))
                (λ e z j m d. none (λ q. leaf_of words q == z) _ (ne_eqb (leaf_of words k) z (λ q. d (sym q ∙ is_leaf))))
                (λ e y j m d. none (λ q. has_node e (leaf_of words q) && has_stone s bs words e y q) _
                (and_left (has_node e (leaf_of words k)) (has_stone s bs words e y k) (not-here e j d)))
                (leaf_set sums leaf (slice_index sums leaf + 1) (standing s bs words own k) node a.counts);
            leaves = λ x m. ⊎_elim
                (λ (e : x ≡ leaf).
                let at : (leaf_of words k == x) ≡ true
                = eq-eqb (leaf_of words k) x (is_leaf ∙ sym e) in
                moves x m ∙ ap (slice_index middle) e
                ∙ get_or-set_same sums leaf (slice_index sums leaf + 1) 0 inside
                ∙ ap (λ (q : ℕ). q + 1) (a.leaves leaf node)
                ∙ (λ j. ends_at words k (sym e j) + one_if (sym at j)))
                (λ (e : x ≡ leaf → ⊥).
                let off : (leaf_of words k == x) ≡ false
                = ne_eqb (leaf_of words k) x (λ q. e (sym q ∙ is_leaf)) in
                let zero_more : ends_at words k x ≡ ends_at words k x + 0 = omega arith in
                moves x m ∙ get_or-set_other sums leaf x (slice_index sums leaf + 1) 0 e
                ∙ a.leaves x m ∙ zero_more ∙ (λ j. ends_at words k x + one_if (sym off j)))
                (cases_eq x leaf);
            nodes = λ j l. ⊎_elim
                (λ (e : j ≡ k). ap (λ (q : ℕ). is_node r bs (leaf_of words q)) e ∙ ap (is_node r bs) is_leaf ∙ node)
                (λ (e : j ≡ k → ⊥). a.nodes j (omega (arith, l, e)))
                (cases_eq j k);
            filled = λ j l. ⊎_elim
                (λ (e : j ≡ k). subst (λ (q : ℕ). IsFullBoard s.board.size (outcome_in s bs words q).full) (sym e) full)
                (λ (e : j ≡ k → ⊥). a.filled j (omega (arith, l, e)))
                (cases_eq j k);
          })
