-- Words that are the same below NEXT: if one list is closed, the other is.
use Rattle.std.proofs.Common.{◌≡◌, ℕ, ◌+◌, ◌*◌, ◌<◌, ◌≤◌, true, List, [], ◌∷◌, length, sym}
use Rattle.std.proofs.Common.{ap, ◌∙◌, subst, ⊎_elim, arith}
use Rattle.std.specs.Prelude.{slice_index, ◌≢◌}
use Rattle.std.proofs.lemmas.Bool.{eqb-true, or_cases}
use Rattle.tree_words.specs.Settings.{Setting, IsSetting}
use Rattle.tree_words.specs.Words.{Count, count_in, root_at, area_at, next_in, nodes_in, record_in}
use Rattle.tree_words.specs.Words.{leaf_in, winner_in, tally_in, seen_in, ticket_in}
use Rattle.tree_words.specs.Blocks.{LinkedBlock, block_size, size, has_node, is_node}
use Rattle.tree_words.specs.Complete.{AreComplete}
use Rattle.tree_words.specs.Roots.{root_link, root_count}
use Rattle.tree_words.specs.Records.{leaf_of}
use Rattle.tree_words.specs.Paths.{node_state}
use Rattle.tree_words.specs.Sequence.{outcome_of}
use Rattle.tree_words.specs.Growth.{root_end}
use Rattle.tree_words.specs.Closing.{IsClosed}
use Rattle.tree_words.proofs.Boards.RootLaws.{root_of, complete_in}
use Rattle.tree_words.proofs.Walks.Tallies.{ends-words, sights-words, visits-words}
use Rattle.tree_words.proofs.Blocks.BlockLaws.{has-at, root_node}
use Rattle.tree_words.proofs.Blocks.GameLaws.{in-node}

-- a node lies below NEXT
node_below : (s : Setting) (next : ℕ) (bs : List LinkedBlock) (x : ℕ) → area_at s ≤ next
    → AreComplete s next bs → is_node (root_at s) bs x ≡ true → x + 3 < next
node_below s next [] x l c n = let at : x ≡ root_at s = eqb-true x (root_at s) n in
    omega (arith, at, l)
node_below s next (b ∷ bs) x l c n = ⊎_elim
    (λ (h : has_node b x ≡ true). in_block b x next h c.0.claimed)
    (λ (h : is_node (root_at s) bs x ≡ true). node_below s next bs x l c.1 h)
    (or_cases (has_node b x) (is_node (root_at s) bs x) n)
  where
    in_block : (b : LinkedBlock) (x next : ℕ) → has_node b x ≡ true → b.start + size b ≤ next
        → x + 3 < next
    in_block b x next h l = let k = has-at b x h in omega (arith, k.1, k.2, l)

-- the words before the area lie below NEXT
pub front_below : (s : Setting) (words : List ℕ) → IsSetting s → IsClosed s words
    → area_at s ≤ next_in words
front_below s words h c =
    let first = c.recorded 0 (omega (arith, h.ranges.playouts.0)) in
    let f = root_of (root_at s) c.blocks (leaf_of words 0) c.linked.order first.node first.below in
    let k = complete_in s (next_in words) c.blocks f.0 c.linked.complete f.1 in
    omega (arith, k.1.inside.0, k.1.claimed)

-- the root's block ends where it did
roots_same : (s : Setting) (a b : List ℕ) → IsSetting s → IsClosed s a
    → ((i : ℕ) → i < next_in a → slice_index b i ≡ slice_index a i) → root_end s b ≡ root_end s a
roots_same s a b h c same =
    let front : area_at s ≤ next_in a = front_below s a h c in
    let first = c.recorded 0 (omega (arith, h.ranges.playouts.0)) in
    let f = root_of (root_at s) c.blocks (leaf_of a 0) c.linked.order first.node first.below in
    let k = complete_in s (next_in a) c.blocks f.0 c.linked.complete f.1 in
    let old : root_link s a ≡ f.0.start
    = c.linked.shows.links (root_at s) (root_node (root_at s) c.blocks) ∙ f.3 in
    let link : root_link s b ≡ root_link s a = same (root_at s + 1) (omega (arith, front)) in
    let count : root_count s b ≡ root_count s a = ap (nodes_in b) link
    ∙ same (root_link s a + 3) (omega (arith, old, k.1.claimed)) in
    λ i. link i + block_size (count i)

-- words that are the same below NEXT are closed if the others are
pub closed_same : (s : Setting) (a b : List ℕ) → IsSetting s → IsClosed s a → length b ≡ length a
    → ((i : ℕ) → i < next_in a → slice_index b i ≡ slice_index a i) → IsClosed s b
closed_same s a b h c long same =
    let front : area_at s ≤ next_in a = front_below s a h c in
    let next : next_in b ≡ next_in a = same 0 (omega (arith, front)) in
    let ticket : ticket_in b ≡ ticket_in a = same 1 (omega (arith, front)) in
    let bs : List LinkedBlock = c.blocks in
    let root_same : root_end s b ≡ root_end s a = roots_same s a b h c same in
    let rec : (k : ℕ) → k < s.knobs.playouts → record_in b k ≡ record_in a k
    = λ k l. same (2 + k) (omega (arith, front, l)) in
    let below : (x : ℕ) → is_node (root_at s) bs x ≡ true → x + 3 < next_in a
    = λ x n. node_below s (next_in a) bs x front c.linked.complete n in
    let complete : AreComplete s (next_in b) bs
    = subst (λ (m : ℕ). AreComplete s m bs) (sym next) c.linked.complete in
    let tally : (x : ℕ) → x + 3 < next_in a → tally_in b x ≡ tally_in a x
    = λ x l. ap count_in (same (x + 2) (omega (arith, l))) in
    let seen : (x : ℕ) → x + 3 < next_in a → seen_in b x ≡ seen_in a x
    = λ x l. ap count_in (same (x + 3) l) in
    record {
      long = long ∙ c.long;
      blocks = bs;
      linked = record {
        order = c.linked.order;
        shows = record {
          blocks = λ d i m l e. same (d.start + i)
              (let k = complete_in s (next_in a) bs d c.linked.complete m in omega (arith, k.1.claimed, l)) ∙ c.linked.shows.blocks d i m l e;
          links = λ x n. same (x + 1) (let l = below x n in omega (arith, l))
              ∙ c.linked.shows.links x n;
        };
        complete = complete;
      };
      recorded = λ k l. record {
        node = subst (λ (m : ℕ). is_node (root_at s) bs (leaf_in m) ≡ true) (sym (rec k l))
            (c.recorded k l).node;
        below = subst (λ (m : ℕ). leaf_in m ≢ root_at s) (sym (rec k l)) (c.recorded k l).below;
        result = subst (λ (m : ℕ). winner_in m ≡ (outcome_of s k (node_state s bs (leaf_in m))).winner) (sym (rec k l)) (c.recorded k l).result;
      };
      exact = record {
        tallies = λ x n. tally x (below x n) ∙ c.exact.tallies x n
            ∙ sym (visits-words s bs a b s.knobs.playouts rec x);
        seen = λ d y i h. seen y (below y (in-node (root_at s) bs d y i h)) ∙ c.exact.seen d y i h
            ∙ sym (sights-words s bs a b s.knobs.playouts rec d y);
      };
      ends = record {
        next = omega (arith, next, c.ends.next);
        ticket = (omega (arith, ticket, c.ends.ticket.0), omega (arith, ticket, c.ends.ticket.1));
      };
      grown = record {
        first = λ d x y i hx hy z. subst (λ (t : Count). t.visits ≤ s.knobs.workers)
            (sym (tally x (below x (in-node (root_at s) bs d x i hx))))
            (c.grown.first d x y i hx hy (ap (λ (t : Count). t.visits) (sym (tally y (below y (in-node (root_at s) bs d y i hy)))) ∙ z));
        leaves = λ l x k n e. subst (λ (m : ℕ). m ≤ s.knobs.workers * s.knobs.expand)
            (sym (ends-words s bs a b s.knobs.playouts rec x))
            (c.grown.leaves (omega (arith, next, l)) x k n e);
        room = omega (arith, next, root_same, c.grown.room);
      };
    }
