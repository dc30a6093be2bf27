-- The points of a closed tree look at the area's end only if NEXT lies behind it: what holds of a
-- tree whose area ends behind the written words holds of the whole tree, and the other way round.
use Rattle.std.proofs.Common.{◌≡◌, ◌≢◌, ℕ, zero, suc, ◌+◌, ◌-◌, ◌*◌, ◌≤◌, true, cond, List, [], ◌∷◌}
use Rattle.std.proofs.Common.{◌++◌, length, replicate, refl, sym, ap, ◌∙◌, subst, arith}
use Rattle.std.proofs.Common.{length-append}
use Rattle.std.specs.Prelude.{slice_index, min, ◌&&◌, ◌==◌}
use Rattle.std.proofs.lemmas.List.{length-replicate}
use Rattle.hex_board.specs.Positions.{stones_of}
use Rattle.hex_cells.specs.Colours.{is_same}
use Rattle.hex_cells.specs.Sets.{has as has_cell}
use Rattle.play_out.specs.Fills.{empties_of}
use Rattle.play_out.specs.declared.playouts.Ending.{Ending}
use Rattle.tree_words.specs.Settings.{Setting}
use Rattle.tree_words.specs.Words.{Count, count_in, root_at, end_of, next_in, nodes_in, ticket_in}
use Rattle.tree_words.specs.Words.{record_in, leaf_in, winner_in}
use Rattle.tree_words.specs.Blocks.{LinkedBlock, block_size, size, is_node, cell_at, place}
use Rattle.tree_words.specs.Paths.{NodeState, node_state, node_board, is_on, enters, mover_of}
use Rattle.tree_words.specs.Complete.{Linked, AreComplete, IsComplete, allowed_cells}
use Rattle.tree_words.specs.Records.{Recorded, IsRecord, leaf_of}
use Rattle.tree_words.specs.Roots.{root_link, root_count}
use Rattle.tree_words.specs.Sequence.{outcome_of}
use Rattle.tree_words.specs.Counts.{Exact, visits_at, sights_at}
use Rattle.tree_words.specs.Growth.{Grown, ends_at, root_end, other_words}
use Rattle.tree_words.specs.Closing.{IsClosed, KeepsEnds}
use Rattle.tree_words.specs.Areas.{with_area, all_words, IsCut}
use Rattle.tree_words.proofs.Walks.Tallies.{count-same}

pub none_left : (n i : ℕ) → slice_index (replicate n 0) i ≡ 0
none_left zero i = refl
none_left (suc n) zero = refl
none_left (suc n) (suc i) = none_left n i

-- the words behind the first ones are 0, as a list without them answers
pub zeros_behind : (ws : List ℕ) (n i : ℕ) → slice_index (ws ++ replicate n 0) i ≡ slice_index ws i
zeros_behind [] n i = none_left n i
zeros_behind (w ∷ ws) n zero = refl
zeros_behind (w ∷ ws) n (suc i) = zeros_behind ws n i

pub all_long : (s : Setting) (words : List ℕ) → length words ≤ end_of s
    → length (all_words s words) ≡ end_of s
all_long s words l
    = omega (arith, length-append words (replicate (end_of s - length words) 0), length-replicate {A = ℕ} (end_of s - length words) 0, l)

outcome_is : (s : Setting) (m n k : ℕ) (p : NodeState)
    → outcome_of (with_area s m) k p ≡ outcome_of (with_area s n) k p
unfolding outcome_of
outcome_is s m n k p = refl

allowed_is : (s : Setting) (m n : ℕ) → allowed_cells (with_area s m) ≡ allowed_cells (with_area s n)
unfolding allowed_cells
allowed_is s m n = refl

-- from words b and an area of m words to words a, which answer the same, and an area of n words
module _ (s : Setting) (m n : ℕ) (b a : List ℕ)
    (same : (i : ℕ) → slice_index b i ≡ slice_index a i) where
  abbrev s1 : Setting
  s1 = with_area s m

  abbrev s2 : Setting
  s2 = with_area s n

  complete_to : ((e : ℕ) → e ≤ next_in b → e ≤ end_of s1 → e ≤ end_of s2) → (bs : List LinkedBlock)
      → AreComplete s1 (next_in b) bs → AreComplete s2 (next_in a) bs
  complete_to fit [] k = tt
  complete_to fit (d ∷ bs) k =
      let c : IsComplete s1 (next_in b) bs d = k.0 in
      let next : next_in b ≡ next_in a = same 0 in
      let claimed : d.start + size d ≤ next_in b = c.claimed in (
        record {
          claimed = omega (arith, next, claimed);
          inside = (c.inside.0, fit (d.start + size d) claimed c.inside.1);
          empties = c.empties;
          cells = c.cells
              ∙ ap (λ (cells : List ℕ). cond (d.parent == root_at s) cells (empties_of (node_board s bs d.parent))) (allowed_is s m n);
        },
        complete_to fit bs k.1,
      )

  pub linked_to : ((e : ℕ) → e ≤ next_in b → e ≤ end_of s1 → e ≤ end_of s2)
      → (bs : List LinkedBlock) → Linked s1 b bs → Linked s2 a bs
  linked_to fit bs k = record {
    order = k.order;
    shows = record {
      blocks = λ d i j l e. sym (same (d.start + i)) ∙ k.shows.blocks d i j l e;
      links = λ x e. sym (same (x + 1)) ∙ k.shows.links x e;
    };
    complete = complete_to fit bs k.complete;
  }

  module _ (bs : List LinkedBlock) where
    pub recorded_to : Recorded s1 bs b → Recorded s2 bs a
    recorded_to k j l =
        let r : IsRecord s1 bs b j = k j l in
        let rec : record_in b j ≡ record_in a j = same (2 + j) in
        record {
          node = subst (λ (z : ℕ). is_node (root_at s) bs (leaf_in z) ≡ true) rec r.node;
          below = subst (λ (z : ℕ). leaf_in z ≢ root_at s) rec r.below;
          result = subst (λ (z : ℕ). winner_in z ≡ (outcome_of s1 j (node_state s bs (leaf_in z))).winner) rec r.result
              ∙ ap (λ (o : Ending). o.winner) (outcome_is s m n j (node_state s bs (leaf_of a j)));
        }

    visits_to : (q x : ℕ) → visits_at s1 bs b q x ≡ visits_at s2 bs a q x
    visits_to q x =
        let visits : (visits_at s1 bs b q x).visits ≡ (visits_at s2 bs a q x).visits
        = count-same q _ _ (λ k l. ap (λ (z : ℕ). is_on s bs x (leaf_in z)) (same (2 + k))) in
        let wins : (visits_at s1 bs b q x).wins ≡ (visits_at s2 bs a q x).wins
        = count-same q _ _
        (λ k l. ap (λ (z : ℕ). is_on s bs x (leaf_in z) && is_same (outcome_of s1 k (node_state s bs (leaf_in z))).winner (mover_of s bs x)) (same (2 + k))
        ∙ ap (λ (o : Ending). is_on s bs x (leaf_of a k) && is_same o.winner (mover_of s bs x))
        (outcome_is s m n k (node_state s bs (leaf_of a k)))) in
        λ i. record { visits = visits i; wins = wins i }

    sights_to : (q : ℕ) (c : LinkedBlock) (y : ℕ)
        → sights_at s1 bs b q c y ≡ sights_at s2 bs a q c y
    sights_to q c y =
        let visits : (sights_at s1 bs b q c y).visits ≡ (sights_at s2 bs a q c y).visits
        = count-same q _ _
        (λ k l. ap (λ (z : ℕ). enters s bs c (leaf_in z) && has_cell (stones_of (outcome_of s1 k (node_state s bs (leaf_in z))).full (mover_of s bs y))
        (cell_at c (place c y))) (same (2 + k))
        ∙ ap (λ (o : Ending). enters s bs c (leaf_of a k) && has_cell (stones_of o.full (mover_of s bs y)) (cell_at c (place c y)))
        (outcome_is s m n k (node_state s bs (leaf_of a k)))) in
        let wins : (sights_at s1 bs b q c y).wins ≡ (sights_at s2 bs a q c y).wins
        = count-same q _ _
        (λ k l. ap (λ (z : ℕ). (enters s bs c (leaf_in z) && has_cell (stones_of (outcome_of s1 k (node_state s bs (leaf_in z))).full (mover_of s bs y))
        (cell_at c (place c y))) && is_same (outcome_of s1 k (node_state s bs (leaf_in z))).winner (mover_of s bs y)) (same (2 + k))
        ∙ ap (λ (o : Ending). (enters s bs c (leaf_of a k) && has_cell (stones_of o.full (mover_of s bs y)) (cell_at c (place c y)))
        && is_same o.winner (mover_of s bs y)) (outcome_is s m n k (node_state s bs (leaf_of a k)))) in
        λ i. record { visits = visits i; wins = wins i }

    ends_at_to : (q x : ℕ) → ends_at b q x ≡ ends_at a q x
    ends_at_to q x = count-same q _ _ (λ k l. ap (λ (z : ℕ). leaf_in z == x) (same (2 + k)))

    pub exact_to : Exact s1 bs b → Exact s2 bs a
    exact_to k = record {
      tallies = λ x e. ap count_in (sym (same (x + 2))) ∙ k.tallies x e
          ∙ visits_to s.knobs.playouts x;
      seen = λ c y i e. ap count_in (sym (same (y + 3))) ∙ k.seen c y i e
          ∙ sights_to s.knobs.playouts c y;
    }

    grown_to : (next_in a ≤ end_of s2 → next_in b ≤ end_of s1) → Grown s1 bs b → Grown s2 bs a
    grown_to back k =
        let next : next_in b ≡ next_in a = same 0 in
        let link : root_link s b ≡ root_link s a = same (root_at s + 1) in
        let count : root_count s b ≡ root_count s a = ap (nodes_in b) link
        ∙ same (root_link s a + 3) in
        let root : root_end s b ≡ root_end s a = λ i. link i + block_size (count i) in
        let room : next_in b ≤ root_end s b + s.knobs.workers * other_words s bs + 488 * s.knobs.workers = k.room in
        let moved : next_in a ≤ root_end s a + s.knobs.workers * other_words s bs + 488 * s.knobs.workers = omega (arith, next, root, room) in
        record {
          first = λ c x y i hx hy z. subst (λ (t : Count). t.visits ≤ s.knobs.workers)
              (ap count_in (same (x + 2)))
              (k.first c x y i hx hy (ap (λ (u : ℕ). (count_in u).visits) (same (y + 2)) ∙ z));
          leaves = λ l x c e o. subst (λ (z : ℕ). z ≤ s.knobs.workers * s.knobs.expand)
              (ends_at_to s.knobs.playouts x) (k.leaves (back l) x c e o);
          room = moved;
        }

  keeps_to : (next_in b ≤ end_of s1 + 64 * 488 → next_in b ≤ end_of s2 + 64 * 488) → KeepsEnds s1 b
      → KeepsEnds s2 a
  keeps_to more k =
      let next : next_in b ≡ next_in a = same 0 in
      let ticket : ticket_in b ≡ ticket_in a = same 1 in
      let least : s.knobs.playouts ≤ ticket_in b = k.ticket.0 in
      let most : ticket_in b ≤ s.knobs.playouts + 64 = k.ticket.1 in
      let from : s.knobs.playouts ≤ ticket_in a = omega (arith, ticket, least) in
      let to : ticket_in a ≤ s.knobs.playouts + 64 = omega (arith, ticket, most) in
      let within : next_in b ≤ end_of s2 + 64 * 488 = more k.next in
      record { next = subst (λ (z : ℕ). z ≤ end_of s2 + 64 * 488) next within; ticket = (from, to) }

-- the first point that fails of a cut tree is the first that fails of the tree that was told
module _ (s : Setting) (m : ℕ) (words : List ℕ) (long : length words ≡ end_of (with_area s m))
    (less : end_of (with_area s m) ≤ end_of s)
    (enough : min (next_in words) (end_of s) ≤ end_of (with_area s m)) where
  abbrev cut : Setting
  cut = with_area s m

  abbrev whole : List ℕ
  whole = all_words s words

  pub ahead : (i : ℕ) → slice_index words i ≡ slice_index whole i
  ahead i = sym (zeros_behind words (end_of s - length words) i)

  pub behind : (i : ℕ) → slice_index whole i ≡ slice_index words i
  behind i = zeros_behind words (end_of s - length words) i

  -- what lies below NEXT and inside the area lies inside the cut one
  inside : (e : ℕ) → e ≤ next_in whole → e ≤ end_of s → e ≤ end_of cut
  inside e l h = let next : next_in whole ≡ next_in words = behind 0 in
      omega (arith, l, h, next, enough)

  pub linked_ahead : (bs : List LinkedBlock) → Linked cut words bs → Linked s whole bs
  linked_ahead bs k
      = linked_to s m s.knobs.words words whole ahead (λ e l h. omega (arith, h, less)) bs k

  pub linked_behind : (bs : List LinkedBlock) → Linked s whole bs → Linked cut words bs
  linked_behind bs k = linked_to s s.knobs.words m whole words behind inside bs k

  pub recorded_ahead : (bs : List LinkedBlock) → Recorded cut bs words → Recorded s bs whole
  recorded_ahead bs k = recorded_to s m s.knobs.words words whole ahead bs k

  pub exact_ahead : (bs : List LinkedBlock) → Exact cut bs words → Exact s bs whole
  exact_ahead bs k = exact_to s m s.knobs.words words whole ahead bs k

  pub keeps_ahead : KeepsEnds cut words → KeepsEnds s whole
  keeps_ahead k = keeps_to s m s.knobs.words words whole ahead (λ l. omega (arith, l, less)) k

  pub keeps_behind : KeepsEnds s whole → KeepsEnds cut words
  keeps_behind k
      = keeps_to s s.knobs.words m whole words behind
      (λ l. let next : next_in whole ≡ next_in words = behind 0 in omega (arith, l, next, enough)) k

  pub grown_ahead : (bs : List LinkedBlock) → Grown cut bs words → Grown s bs whole
  grown_ahead bs k = grown_to s m s.knobs.words words whole ahead bs
      (λ l. let next : next_in whole ≡ next_in words = behind 0 in omega (arith, l, next, enough)) k

  pub grown_behind : (bs : List LinkedBlock) → Grown s bs whole → Grown cut bs words
  grown_behind bs k = grown_to s s.knobs.words m whole words behind bs
      (λ l. let next : next_in words ≡ next_in whole = ahead 0 in omega (arith, l, next, less)) k

  closed_ahead : IsClosed cut words → IsClosed s whole
  closed_ahead c = record {
    long = all_long s words (omega (arith, long, less));
    blocks = c.blocks;
    linked = linked_ahead c.blocks c.linked;
    recorded = recorded_ahead c.blocks c.recorded;
    exact = exact_ahead c.blocks c.exact;
    ends = keeps_ahead c.ends;
    grown = grown_ahead c.blocks c.grown;
  }

module _ (s c : Setting) (words : List ℕ) (k : IsCut s words c) where
  end : end_of c ≡ end_of (with_area s c.knobs.words)
  end = ap end_of k.area

  long : length words ≡ end_of (with_area s c.knobs.words)
  long = k.long ∙ end

  less : end_of (with_area s c.knobs.words) ≤ end_of s
  less = subst (λ (e : ℕ). e ≤ end_of s) end k.less

  enough : min (next_in words) (end_of s) ≤ end_of (with_area s c.knobs.words)
  enough = subst (λ (e : ℕ). min (next_in words) (end_of s) ≤ e) end k.enough

  pub cut_closed : IsClosed c words → IsClosed s (all_words s words)
  cut_closed f = closed_ahead s c.knobs.words words long less enough
      (subst (λ (t : Setting). IsClosed t words) k.area f)
