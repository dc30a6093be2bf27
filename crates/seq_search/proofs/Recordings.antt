-- What stands after the adds and the record.
use Rattle.std.proofs.Common.{◌≡◌, ◌≢◌, ℕ, ◌+◌, ◌<◌, ◌≤◌, Bool, true, cond, List, [], ◌∷◌, set}
use Rattle.std.proofs.Common.{get_or, get_or-set_same, get_or-set_other, refl, sym, ap, ◌∙◌, subst}
use Rattle.std.proofs.Common.{⊎_elim, arith}
use Rattle.std.proofs.Math.ListN.{length-set}
use Rattle.tree_words.specs.Settings.{Setting}
use Rattle.tree_words.specs.Words.{Count, count_in, root_at, area_at, end_of, next_in, tally_in}
use Rattle.tree_words.specs.Words.{seen_in}
use Rattle.tree_words.specs.Blocks.{LinkedBlock, child, place, cell_at, is_node, In}
use Rattle.tree_words.specs.Paths.{NodeState, root_state}
use Rattle.tree_words.specs.Complete.{AreComplete}
use Rattle.tree_words.specs.Walks.{nothing, plus, Game, AtMost}
use Rattle.play_out.specs.declared.playouts.Ending.{Ending}
use Rattle.tree_words.specs.Sequence.{search_game}
use Rattle.tree_words.specs.Trees.{oldest_first}
use Rattle.tree_words.specs.Descents.{Added, pick, adds, sees_leaf, sees_inner, sees, top, Out}
use Rattle.tree_words.specs.Descents.{Inside, config_of}
use Rattle.tree_words.proofs.Walks.Down.{down-split}
use Rattle.tree_words.proofs.Blocks.BlockLaws.{root_node}
use Rattle.tree_words.proofs.Blocks.Orders.{inside-node}
use Rattle.seq_search.specs.Steps.{Holds, Records}
use Rattle.seq_search.specs.Adding.{Counted}
use Rattle.tree_words.proofs.Walks.Leaves.{root-out}
use Rattle.tree_words.proofs.Blocks.NodeLaws.{nodes-apart, stays-clear, node-lies, under-root}
use Rattle.tree_words.proofs.Walks.Countings.{adds-one, sees-one}

module _ {S O : Type 0} (g : Game S O) (p q : ℕ → Count) (o : O) where
  -- what is a node of no block is not seen
  sees-out : (os : List LinkedBlock) (x w : ℕ) (s : S) → Out os w → sees g p q o os x s w ≡ nothing
  sees-out [] x w s out = refl
  sees-out (b ∷ os) x w s out = down-split (sees_leaf g p q o) (sees_inner g p q o)
      (λ (f : S → ℕ → Count). f s w ≡ nothing) b os x
      (λ t. ap (λ (u : Bool). cond u (g.glimpse o s (cell_at b (place b w)))
      (sees g p q o os (child b (pick g p q b x)) (g.next s (cell_at b (pick g p q b x))) w)) out.0
      ∙ sees-out os (child b (pick g p q b x)) w (g.next s (cell_at b (pick g p q b x))) out.1)
      (λ t. sees-out os x w s out.1)

plus-most : (k : ℕ) (a b c : Count) → c ≡ plus a b → AtMost k a → AtMost 1 b → AtMost (k + 1) c
plus-most k a b c e ha hb
    = (omega (arith, ap (λ (n : Count). n.visits) e, ha.0, hb.0), omega (arith, ap (λ (n : Count). n.wins) e, ha.1, hb.1))

no-word : (n : ℕ) → count_in n ≡ nothing → n ≡ 0
no-word n e = let v = ap (λ (c : Count). c.visits) e in let w = ap (λ (c : Count). c.wins) e in
    omega (arith, v, w)

-- the adds, and then the record of playout k
module _ (s : Setting) (bs : List LinkedBlock) (before middle : List ℕ) (k n : ℕ) (o : Ending)
    (l : k < s.knobs.playouts) (h : Holds s bs before k) (c : Counted s bs o before middle) where
  lies : (x : ℕ) → is_node (root_at s) bs x ≡ true → (root_at s ≤ x) × (x + 4 ≤ next_in before)
  lies x m = ⊎_elim (λ (q : x ≡ root_at s). (omega (arith, q), omega (arith, q, h.next.0)))
      (λ (q : (area_at s ≤ x) × (x + 4 ≤ next_in before) × (x + 4 ≤ end_of s)). (omega (arith, q.0), q.1))
      (node-lies s (next_in before) bs x h.linked.complete m)

  -- words that the adds and the record leave
  low : (i : ℕ) → i < root_at s → (i ≡ 2 + k → ⊥)
      → get_or (set middle (2 + k) n) i 0 ≡ get_or before i 0
  low i m d = get_or-set_other middle (2 + k) i n 0 d
      ∙ c.others i
      (λ w t. let q = lies w t in ((λ z. omega (arith, q.0, z)), (λ z. omega (arith, q.0, z))))

  high : (i : ℕ) → root_at s ≤ i
      → ((w : ℕ) → is_node (root_at s) bs w ≡ true → (i ≢ w + 2) × (i ≢ w + 3))
      → get_or (set middle (2 + k) n) i 0 ≡ get_or before i 0
  high i m d = get_or-set_other middle (2 + k) i n 0 (λ z. omega arith) ∙ c.others i d

  tally-is : (w : ℕ) → is_node (root_at s) bs w ≡ true
      → tally_in (set middle (2 + k) n) w ≡ plus (tally_in before w)
      (adds (search_game s) (tally_in before) (seen_in before) o (oldest_first bs) (root_at s) (root_state s) w)
  tally-is w t = let q = lies w t in
      ap count_in (get_or-set_other middle (2 + k) (w + 2) n 0 (λ z. omega (arith, q.0)))
      ∙ c.tally w t

  seen-is : (w : ℕ) → is_node (root_at s) bs w ≡ true
      → seen_in (set middle (2 + k) n) w ≡ plus (seen_in before w)
      (sees (search_game s) (tally_in before) (seen_in before) o (oldest_first bs) (root_at s) (root_state s) w)
  seen-is w t = let q = lies w t in
      ap count_in (get_or-set_other middle (2 + k) (w + 3) n 0 (λ z. omega (arith, q.0))) ∙ c.seen w t

  next-same : next_in (set middle (2 + k) n) ≡ next_in before
  next-same = low 0 (omega arith) (λ z. omega arith)

  pub recorded-holds : Holds s bs (set middle (2 + k) n) (k + 1)
  recorded-holds =
      let after : List ℕ = set middle (2 + k) n in
      let g : Game NodeState Ending = search_game s in
      let r : ℕ = root_at s in
      let clear : (x : ℕ) (i : ℕ) → is_node r bs x ≡ true → i < 2 → (w : ℕ) → is_node r bs w ≡ true
      → (x + i ≢ w + 2) × (x + i ≢ w + 3)
      = λ x i m li w t. (
        (λ z. let q : x ≡ w = nodes-apart r bs x w i 2 h.linked.order m t (omega arith) (omega arith) z in omega arith),
        (λ z. let q : x ≡ w = nodes-apart r bs x w i 3 h.linked.order m t (omega arith) (omega arith) z in omega arith),
      ) in
      let unseen : seen_in after r ≡ nothing
      = seen-is r (root_node r bs)
      ∙ (λ i. plus (count_in (h.root.1 i)) (sees-out g (tally_in before) (seen_in before) o (oldest_first bs) r r (root_state s)
      (root-out r bs h.linked.order) i)) in
      record {
        long = length-set middle (2 + k) n ∙ c.long ∙ h.long;
        linked = record {
          order = h.linked.order;
          shows = record {
            blocks = λ b i m li t.
                let start = block-starts s (next_in before) bs b h.linked.complete m in
                high (b.start + i) (omega (arith, start))
                (λ w u. (
                  stays-clear r bs b i w 2 h.linked.order m li t u (omega arith) (omega arith),
                  stays-clear r bs b i w 3 h.linked.order m li t u (omega arith) (omega arith),
                ))
                ∙ h.linked.shows.blocks b i m li t;
            links = λ x m. let q = lies x m in
                high (x + 1) (omega (arith, q.0)) (clear x 1 m (omega arith))
                ∙ h.linked.shows.links x m;
          };
          complete = subst (λ (z : ℕ). AreComplete s z bs) (sym next-same) h.linked.complete;
        };
        filled = h.filled;
        root = (
          high r (omega arith) (λ w t. (
            (λ z. (clear r 0 (root_node r bs) (omega arith) w t).0 (omega (arith, z))),
            (λ z. (clear r 0 (root_node r bs) (omega arith) w t).1 (omega (arith, z))),
          )) ∙ h.root.0,
          no-word (get_or after (r + 3) 0) unseen,
        );
        next = (omega (arith, next-same, h.next.0), omega (arith, next-same, h.next.1));
        fresh = λ i m. high i (omega (arith, m, next-same, h.next.0))
            (λ w t. let q = lies w t in ((λ z. omega (arith, z, q.1, m, next-same)), (λ z. omega (arith, z, q.1, m, next-same))))
            ∙ h.fresh i (omega (arith, m, next-same));
        counts = λ x m. (
          plus-most k (tally_in before x) _ (tally_in after x) (tally-is x m) (h.counts x m).0
              (adds-one s (tally_in before) (seen_in before) o (oldest_first bs) r (root_state s) x),
          plus-most k (seen_in before x) _ (seen_in after x) (seen-is x m) (h.counts x m).1
              (sees-one s (tally_in before) (seen_in before) o (oldest_first bs) r (root_state s) x),
        );
      }
    where
      block-starts : (s : Setting) (next : ℕ) (bs : List LinkedBlock) (c : LinkedBlock)
          → AreComplete s next bs → In c bs → area_at s ≤ c.start
      block-starts s next [] c a i = absurd i
      block-starts s next (b ∷ bs) c a i = ⊎_elim
          (λ (q : c ≡ b). subst (λ (d : LinkedBlock). area_at s ≤ d.start) (sym q) a.0.inside.0)
          (λ (q : In c bs). block-starts s next bs c a.1 q) i

  pub recorded-added : Added (search_game s) (root_state s) (root_at s) o (config_of bs before)
      (config_of bs (set middle (2 + k) n))
  recorded-added =
      let node : (w : ℕ) → top (oldest_first bs) w ≡ root_at s → is_node (root_at s) bs w ≡ true
      = λ w e. ⊎_elim (λ (q : w ≡ root_at s). ap (is_node (root_at s) bs) q ∙ root_node (root_at s) bs)
      (λ (i : Inside (oldest_first bs) w). inside-node (root_at s) bs w i)
      (under-root (oldest_first bs) (root_at s) w e) in
      record {
        next = next-same;
        blocks = refl;
        tally = λ w e. tally-is w (node w e);
        seen = λ w e d. seen-is w (node w e);
      }

  pub recorded-records : Records s k n before (set middle (2 + k) n)
  recorded-records = record {
    is = get_or-set_same middle (2 + k) n 0 (omega (arith, c.long, h.long));
    others = λ i m t d. low i t d;
  }
