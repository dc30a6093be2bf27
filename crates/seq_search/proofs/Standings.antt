-- What is reached after so many walks, from the opening to the closed tree.
use Rattle.std.proofs.Common.{◌≡◌, ℕ, suc, ◌+◌, ◌*◌, ◌<◌, ◌≤◌, Bool, true, false, cond, List, []}
use Rattle.std.proofs.Common.{◌∷◌, length, refl, sym, ap, ◌∙◌, subst, ⊎_elim, arith}
use Rattle.std.specs.Prelude.{◌==◌}
use Rattle.std.proofs.lemmas.Bool.{cases_lt, eqb-true, eq-eqb, ne_eqb, cases_Bool, or_cases}
use Rattle.std.proofs.lemmas.Bool.{or_right, or_left}
use Rattle.std.proofs.Math.Nat.{mul-le-mul}
use Rattle.hex_board.specs.Positions.{is_empty_at}
use Rattle.play_out.specs.Fills.{empties_of}
use Rattle.tree_words.specs.Settings.{Setting, IsSetting}
use Rattle.tree_words.specs.Words.{Count, root_at, area_at, end_of, next_in, ticket_in, leaf_in}
use Rattle.tree_words.specs.Words.{winner_in, tally_in, seen_in}
use Rattle.tree_words.specs.Blocks.{LinkedBlock, child, has_node, place, cell_at, size, block_size}
use Rattle.tree_words.specs.Blocks.{is_node, link_of, one_if, In, InOrder, Follows}
use Rattle.tree_words.specs.Paths.{NodeState, root_state, is_on, enters, node_state, node_board}
use Rattle.tree_words.specs.Records.{leaf_of, outcome_in, IsRecord}
use Rattle.tree_words.specs.Counts.{sights_at, ExactTo}
use Rattle.tree_words.specs.declared.layout.TheConstants.{MOST_BLOCK_WORDS}
use Rattle.tree_words.specs.Growth.{other_words, ends_at, Grown}
use Rattle.tree_words.specs.Opening.{opening_next}
use Rattle.tree_words.specs.declared.settings.TheConstants.{MOST_WORKERS}
use Rattle.tree_words.specs.Closing.{KeepsEnds, IsClosed}
use Rattle.tree_words.specs.Walks.{nothing, plus, Game, AtMost}
use Rattle.play_out.specs.declared.playouts.Ending.{Ending}
use Rattle.tree_words.specs.Sequence.{outcome_of, gain_of, glimpse_of, size_below, asks, gets_block}
use Rattle.tree_words.specs.Sequence.{search_game}
use Rattle.tree_words.specs.Trees.{oldest_first}
use Rattle.tree_words.specs.Descents.{walk_end, NewBlock, Widened, Added, pick, leaf_at, config_of}
use Rattle.tree_words.proofs.Blocks.BlockLaws.{has-at, clash, root_node}
use Rattle.tree_words.proofs.Blocks.RootEnds.{root-end-first}
use Rattle.tree_words.proofs.Blocks.GameLaws.{fair_game, in-node, spot-same}
use Rattle.seq_search.specs.Steps.{Holds, KeepsRecords, Records}
use Rattle.seq_search.specs.IsSearched.{IsSearched}
use Rattle.tree_words.proofs.Walks.Climbs.{in-out}
use Rattle.tree_words.proofs.Walks.Leaves.{Whole, in-turned, root-out, node-top, leaf-node}
use Rattle.tree_words.proofs.Walks.Leaves.{leaf-spot, adds-at, sees-at, picked-at, picks-unvisited}
use Rattle.tree_words.proofs.Walks.Tallies.{SameRecords, visits-words, sights-words, ends-words}
use Rattle.tree_words.proofs.Walks.Tallies.{record-words, visits-block, sights-block, visits-new}
use Rattle.tree_words.proofs.Walks.Tallies.{sights-new, ends-new, record-block, visits-more}
use Rattle.tree_words.proofs.Walks.Tallies.{sights-more, ends-visits}
use Rattle.tree_words.proofs.Walks.Asking.{some-empty, size-most, spot-size, asks-not, next-gets}
use Rattle.tree_words.proofs.Walks.Asking.{next-vain, next-stays, state-count}
use Rattle.tree_words.proofs.Blocks.Turned.{other-root, other-more, turned-same}

no_count : (c : Count) → AtMost 0 c → c ≡ nothing
no_count c h = let v : c.visits ≡ 0 = omega (arith, h.0) in
    let w : c.wins ≡ 0 = omega (arith, h.1) in λ i. record { visits = v i; wins = w i }

-- after the opening
pub standing-opening : (s : Setting) (b : LinkedBlock) (words : List ℕ) → b.parent ≡ root_at s
    → b.start ≡ area_at s → next_in words ≡ opening_next s → Holds s (b ∷ []) words 0
    → IsSearched s (b ∷ []) words 0
standing-opening s b words e begins n h =
    let r : ℕ = root_at s in
    let bs : List LinkedBlock = b ∷ [] in
    let none : (x : ℕ) → is_node r bs x ≡ true → tally_in words x ≡ nothing
    = λ x m. no_count (tally_in words x) (h.counts x m).0 in
    let other : other_words s bs ≡ 0 = other-root s b [] e in
    let link : link_of bs r ≡ b.start = ap (λ (t : Bool). cond t b.start 0) (eq-eqb b.parent r e) in
    let exact : ExactTo s bs words 0 = record {
      tallies = none;
      seen = λ c y i k. no_count (seen_in words y) (h.counts y (in-node r bs c y i k)).1;
    } in
    record {
      exact = exact;
      recorded = λ j l. absurd (omega arith);
      rooted = link ∙ begins;
      first = λ c x y i hx hy z. omega (arith, ap (λ (v : Count). v.visits) (none x (in-node r bs c x i hx)));
      leaves = λ l x c m k. omega arith;
      within = λ l. omega (arith, n, other);
      room = omega (arith, n, other);
    }

-- if no block is new, and NEXT may have grown
module _ (s : Setting) (bs : List LinkedBlock) (words after : List ℕ) (k : ℕ)
    (st : IsSearched s bs words k) (same : SameRecords k words after) where
  standing-kept : ((x : ℕ) → is_node (root_at s) bs x ≡ true → tally_in after x ≡ tally_in words x)
      → ((b : LinkedBlock) (y : ℕ) → In b bs → has_node b y ≡ true → seen_in after y ≡ seen_in words y)
      → next_in words ≤ next_in after
      → (next_in after ≤ end_of s → next_in after ≡ opening_next s + other_words s bs)
      → next_in after ≤ opening_next s + other_words s bs + MOST_BLOCK_WORDS
      → IsSearched s bs after k
  standing-kept tally seen grows within room =
      let r : ℕ = root_at s in
      let exact : ExactTo s bs after k = record {
        tallies = λ x m. tally x m
            ∙ (st.exact.tallies x m ∙ sym (visits-words s bs words after k same x));
        seen = λ b y i h. seen b y i h
            ∙ (st.exact.seen b y i h ∙ sym (sights-words s bs words after k same b y));
      } in
      record {
        exact = exact;
        recorded = λ j l. record-words s bs words after k same j l (st.recorded j l);
        rooted = st.rooted;
        first = λ b x y i hx hy z.
            let ny : is_node r bs y ≡ true = in-node r bs b y i hy in
            let nx : is_node r bs x ≡ true = in-node r bs b x i hx in
            omega (arith, st.first b x y i hx hy (sym (ap (λ (c : Count). c.visits) (tally y ny)) ∙ z), ap (λ (c : Count). c.visits) (tally x nx));
        leaves = λ l x c m e. omega (arith, st.leaves (omega (arith, l, grows)) x c m e, ends-words s bs words after k same x);
        within = within;
        room = room;
      }

  -- if a block is new
  standing-grown : (n : LinkedBlock) → Follows (root_at s) n bs
      → ((x : ℕ) → is_node (root_at s) (n ∷ bs) x ≡ true → tally_in after x ≡ tally_in words x)
      → ((b : LinkedBlock) (y : ℕ) → In b (n ∷ bs) → has_node b y ≡ true → seen_in after y ≡ seen_in words y)
      → ((y : ℕ) → has_node n y ≡ true → (tally_in words y ≡ nothing) × (seen_in words y ≡ nothing))
      → next_in words ≤ end_of s → next_in after ≡ next_in words + size n
      → IsSearched s (n ∷ bs) after k
  standing-grown n f tally seen blank low next =
      let r : ℕ = root_at s in
      let nodes : (j : ℕ) → j < k → is_node r bs (leaf_of words j) ≡ true
      = λ j l. (st.recorded j l).node in
      let old : (x : ℕ) → is_node r bs x ≡ true → is_node r (n ∷ bs) x ≡ true
      = λ x m. or_right (has_node n x) (is_node r bs x) m in
      let new : (x : ℕ) → has_node n x ≡ true → is_node r (n ∷ bs) x ≡ true
      = λ x h. or_left (has_node n x) (is_node r bs x) h in
      let away : n.parent ≡ r → ⊥ = λ e. let z : link_of bs r ≡ 0 = ap (link_of bs) (sym e)
      ∙ f.vacant in let l = st.rooted in omega arith in
      let words_more : other_words s (n ∷ bs) ≡ size n + other_words s bs
      = other-more s n bs away in
      let old_words = st.within low in
      let exact : ExactTo s (n ∷ bs) after k = record {
        tallies = λ x m. tally x m ∙ (⊎_elim
            (λ (h : has_node n x ≡ true). (blank x h).0 ∙ sym (visits-new s n bs f words k nodes x h))
            (λ (h : is_node r bs x ≡ true). st.exact.tallies x h ∙ sym (visits-block s n bs f words k nodes x h))
            (or_cases (has_node n x) (is_node r bs x) m)
            ∙ sym (visits-words s (n ∷ bs) words after k same x));
        seen = λ b y i h. seen b y i h ∙ (⊎_elim
            (λ (e : b ≡ n). (blank y (ap (λ (d : LinkedBlock). has_node d y) (sym e) ∙ h)).1
            ∙ sym (ap (λ (d : LinkedBlock). sights_at s (n ∷ bs) words k d y) e ∙ sights-new s n bs f words k nodes y))
            (λ (j : In b bs). st.exact.seen b y j h ∙ sym (sights-block s n bs f words k nodes b y (in-node r bs b y j h)))
            i
            ∙ sym (sights-words s (n ∷ bs) words after k same b y));
      } in
      record {
        exact = exact;
        recorded = λ j l. record-words s (n ∷ bs) words after k same j l
            (record-block s n bs f words j (st.recorded j l));
        rooted = ap (λ (t : Bool). cond t n.start (link_of bs r)) (ne_eqb n.parent r away)
            ∙ st.rooted;
        first = λ b x y i hx hy z. ⊎_elim
            (λ (e : b ≡ n).
            let h : has_node n x ≡ true = ap (λ (d : LinkedBlock). has_node d x) (sym e) ∙ hx in
            omega (arith, ap (λ (c : Count). c.visits) (tally x (new x h) ∙ (blank x h).0)))
            (λ (j : In b bs).
            let nx : is_node r bs x ≡ true = in-node r bs b x j hx in
            let ny : is_node r bs y ≡ true = in-node r bs b y j hy in
            omega (
              arith,
              st.first b x y j hx hy (sym (ap (λ (c : Count). c.visits) (tally y (old y ny))) ∙ z),
              ap (λ (c : Count). c.visits) (tally x (old x nx)),
            ))
            i;
        leaves = λ l x c m e. ⊎_elim
            (λ (h : has_node n x ≡ true). omega (arith, ends-words s bs words after k same x, ends-new s n bs f words k nodes x h))
            (λ (h : is_node r bs x ≡ true).
            let empty : is_empty_at (node_board s bs x) c ≡ true
            = sym (ap (λ (p : NodeState). is_empty_at p.board c) (spot-same s n bs x f h)) ∙ e in
            omega (arith, st.leaves low x c h empty, ends-words s bs words after k same x))
            (or_cases (has_node n x) (is_node r bs x) m);
        within = λ l. omega (arith, next, old_words, words_more);
        room = omega (arith, next, old_words, words_more);
      }

whole : (s : Setting) (bs : List LinkedBlock) (words : List ℕ) (k : ℕ) → Holds s bs words k
    → Whole (root_at s) bs
whole s bs words k h = record { order = h.linked.order; filled = h.filled }

-- a block's node is not the root
not_root : (r : ℕ) (bs : List LinkedBlock) (b : LinkedBlock) (y : ℕ) → InOrder r bs → In b bs
    → has_node b y ≡ true → y ≡ r → ⊥
not_root r bs b y g i h e
    = clash (has_node b y) h
    (ap (has_node b) e ∙ in-out (oldest_first bs) b r (in-turned bs b i) (root-out r bs g))

-- after the leaf has got its block, or none
pub standing-widened : (s : Setting) (bs after_bs : List LinkedBlock) (words after : List ℕ) (k : ℕ)
    → IsSetting s → k ≤ s.knobs.playouts
    → Holds s bs words k → IsSearched s bs words k → Holds s after_bs after k
    → Widened (search_game s) (root_state s) (root_at s) (config_of bs words)
    (config_of after_bs after) → KeepsRecords s words after
    → IsSearched s after_bs after k
standing-widened s bs cs words after k set few h st h' w keeps =
    let r : ℕ = root_at s in
    let g : Game NodeState Ending = search_game s in
    let u : NodeState = root_state s in
    let v : Count = (walk_end g u r (config_of bs words)).0 in
    let p : NodeState = (walk_end g u r (config_of bs words)).1 in
    let same : SameRecords k words after
    = λ j l. keeps (2 + j) (omega arith) (omega (arith, l, few)) in
    let tally : (x : ℕ) → is_node r cs x ≡ true → tally_in after x ≡ tally_in words x
    = λ x m. w.tally x (node-top r cs x h'.linked.order m) in
    let seen : (b : LinkedBlock) (y : ℕ) → In b cs → has_node b y ≡ true
    → seen_in after y ≡ seen_in words y
    = λ b y i k. w.seen y (node-top r cs y h'.linked.order (in-node r cs b y i k))
    (not_root r cs b y h'.linked.order i k) in
    let spot : node_state s bs (leaf_at g (tally_in words) (seen_in words) (oldest_first bs) r) ≡ p
    = leaf-spot s (tally_in words) (seen_in words) bs (whole s bs words k h) in
    let small : p.board.size ≤ 11
    = omega (
      arith,
      ap (λ (z : NodeState). z.board.size) spot,
      spot-size s bs (leaf_at g (tally_in words) (seen_in words) (oldest_first bs) r),
      set.position.most,
    ) in
    ⊎_elim
    (λ (e : (n : LinkedBlock) × NewBlock g u r (config_of bs words) (config_of cs after) n).
    let n : LinkedBlock = e.0 in
    let b : NewBlock g u r (config_of bs words) (config_of cs after) n = e.1 in
    let is : cs ≡ n ∷ bs = turned-same cs (n ∷ bs) b.blocks in
    let t = next-gets s (next_in words) v p b.wide in
    let long : size n ≡ size_below p = ap (λ (l : List ℕ). block_size (length l)) b.cells in
    let next : next_in after ≡ next_in words + size n = omega (arith, w.next, t.1, long) in
    let order : InOrder r (n ∷ bs) = subst (InOrder r) is h'.linked.order in
    subst (λ (l : List LinkedBlock). IsSearched s l after k) (sym is)
    (standing-grown s bs words after k st same n order.0
    (λ x m. tally x (ap (λ (l : List LinkedBlock). is_node r l x) is ∙ m))
    (λ c y i k. seen c y (subst (In c) (sym is) i) k)
    b.blank t.0 next))
    (λ (e : (gets_block s (next_in words) v p ≡ false) × (oldest_first cs ≡ oldest_first bs)).
    let is : cs ≡ bs = turned-same cs bs e.1 in
    let tally' : (x : ℕ) → is_node r bs x ≡ true → tally_in after x ≡ tally_in words x
    = λ x m. tally x (ap (λ (l : List LinkedBlock). is_node r l x) is ∙ m) in
    let seen' : (b : LinkedBlock) (y : ℕ) → In b bs → has_node b y ≡ true
    → seen_in after y ≡ seen_in words y = λ c y i k. seen c y (subst (In c) (sym is) i) k in
    subst (λ (l : List LinkedBlock). IsSearched s l after k) (sym is)
    (⊎_elim
    (λ (a : asks s (next_in words) v p ≡ true).
    let t = next-vain s (next_in words) v p e.0 a in
    let next : next_in after ≡ next_in words + size_below p = w.next ∙ t.1 in
    let past : end_of s < next_in after = omega (arith, next, t.2) in
    standing-kept s bs words after k st same tally' seen' (omega (arith, next))
    (λ l. absurd (omega (arith, l, past)))
    (omega (arith, next, st.within t.0, size-most p small)))
    (λ (a : asks s (next_in words) v p ≡ false).
    let next : next_in after ≡ next_in words = w.next ∙ next-stays s (next_in words) v p a in
    standing-kept s bs words after k st same tally' seen' (omega (arith, next))
    (λ l. next ∙ st.within (omega (arith, l, next))) (omega (arith, next, st.room)))
    (cases_Bool (asks s (next_in words) v p))))
    w.block

one_gain : (o : Ending) (p : NodeState) → (gain_of o p).visits ≡ 1
unfolding gain_of
one_gain o p = refl

sum_zero : (a b c : Count) → a ≡ plus b c → a.visits ≡ 0 → b.visits ≡ 0
sum_zero a b c e z = omega (arith, ap (λ (v : Count). v.visits) e, z)

-- after the walk has added
pub standing-added : (s : Setting) (bs : List LinkedBlock) (words after : List ℕ) (k n : ℕ)
    (o : Ending) → k < s.knobs.playouts
    → Holds s bs words k → IsSearched s bs words k
    → o ≡ outcome_of s k
    (walk_end (search_game s) (root_state s) (root_at s) (config_of bs words)).1
    → asks s (next_in words)
    (walk_end (search_game s) (root_state s) (root_at s) (config_of bs words)).0
    (walk_end (search_game s) (root_state s) (root_at s) (config_of bs words)).1 ≡ false
    → Added (search_game s) (root_state s) (root_at s) o (config_of bs words) (config_of bs after)
    → Records s k n words after → leaf_in n ≡ leaf_at (search_game s) (tally_in words)
    (seen_in words) (oldest_first bs) (root_at s) → winner_in n ≡ o.winner
    → IsSearched s bs after (k + 1)
standing-added s bs words after k n o low h st played sated a rec at won =
    let r : ℕ = root_at s in
    let g : Game NodeState Ending = search_game s in
    let p : ℕ → Count = tally_in words in
    let q : ℕ → Count = seen_in words in
    let v : Count = (walk_end g (root_state s) r (config_of bs words)).0 in
    let spot : NodeState = (walk_end g (root_state s) r (config_of bs words)).1 in
    let lf : ℕ = leaf_at g p q (oldest_first bs) r in
    let w : Whole r bs = whole s bs words k h in
    let here = leaf-node g (fair_game s) p q r bs w (omega (arith, st.rooted)) in
    let leaf : leaf_of after k ≡ lf = ap leaf_in rec.is ∙ at in
    let at_leaf : node_state s bs lf ≡ spot = leaf-spot s p q bs w in
    let outcome : outcome_in s bs after k ≡ o
    = ap (λ (x : ℕ). outcome_of s k (node_state s bs x)) leaf
    ∙ (ap (outcome_of s k) at_leaf ∙ sym played) in
    let same : SameRecords k words after
    = λ j l. rec.others (2 + j) (omega arith) (omega (arith, l, low))
    (λ e. omega (arith, e, l)) in
    let tally : (x : ℕ) → is_node r bs x ≡ true
    → tally_in after x ≡ plus (p x)
    (cond (is_on s bs x lf) (gain_of o (node_state s bs x)) nothing)
    = λ x m. a.tally x (node-top r bs x w.order m) ∙ ap (plus (p x)) (adds-at s p q bs w o x) in
    let exact : ExactTo s bs after (suc k) = record {
      tallies = λ x m. tally x m ∙ sym (visits-more s bs after k x
          ∙ (λ i. plus ((visits-words s bs words after k same x ∙ sym (st.exact.tallies x m)) i)
          (cond (is_on s bs x (leaf i)) (gain_of (outcome i) (node_state s bs x)) nothing)));
      seen = λ b y i hy. a.seen y (node-top r bs y w.order (in-node r bs b y i hy))
          (not_root r bs b y w.order i hy)
          ∙ (ap (plus (q y)) (sees-at s p q bs w o b y i hy)
          ∙ sym (sights-more s bs after k b y w.order i hy
          ∙ (λ t. plus ((sights-words s bs words after k same b y
          ∙ sym (st.exact.seen b y i hy)) t) (cond (enters s bs b (leaf t)) (glimpse_of (outcome t) (node_state s bs b.parent) (cell_at b (place b y)))
          nothing))));
    } in
    let now : IsRecord s bs after k = record {
      node = ap (is_node r bs) leaf ∙ here.0;
      below = λ z. here.1 (sym leaf ∙ z);
      result = ap winner_in rec.is ∙ (won ∙ sym (ap (λ (z : Ending). z.winner) outcome));
    } in
    let stands : IsSearched s bs after (suc k) = record {
      exact = exact;
      recorded = λ j l. ⊎_elim
          (λ (m : j < k). record-words s bs words after k same j m (st.recorded j m))
          (λ (m : k ≤ j). let e : k ≡ j = omega arith in subst (IsRecord s bs after) e now)
          (cases_lt j k);
      rooted = st.rooted;
      first = λ b x y i hx hy z.
          let nx : is_node r bs x ≡ true = in-node r bs b x i hx in
          let ny : is_node r bs y ≡ true = in-node r bs b y i hy in
          let none : (p y).visits ≡ 0 = sum_zero (tally_in after y) (p y) _ (tally y ny) z in
          ⊎_elim
          (λ (t : is_on s bs x lf ≡ true).
          let picked : x ≡ child b (pick g p q b b.parent) = picked-at s p q bs w b x i hx t in
          let f = has-at b y hy in
          let yk : y ≡ child b f.0 = omega (arith, f.2) in
          let zero_x : (p x).visits ≡ 0 = ap (λ (c : ℕ). (p c).visits) picked
          ∙ picks-unvisited s p q b b.parent f.0 f.1
          (ap (λ (c : ℕ). (p c).visits) (sym yk) ∙ none) in
          let gains : tally_in after x ≡ plus (p x) (gain_of o (node_state s bs x)) = tally x nx
          ∙ ap (λ (u : Bool). plus (p x) (cond u (gain_of o (node_state s bs x)) nothing)) t in
          omega (arith, ap (λ (c : Count). c.visits) gains, one_gain o (node_state s bs x), zero_x))
          (λ (t : is_on s bs x lf ≡ false).
          let stays : tally_in after x ≡ plus (p x) nothing = tally x nx
          ∙ ap (λ (u : Bool). plus (p x) (cond u (gain_of o (node_state s bs x)) nothing)) t in
          omega (arith, ap (λ (c : Count). c.visits) stays, st.first b x y i hx hy none))
          (cases_Bool (is_on s bs x lf));
      leaves = λ l x c m e.
          let low_next : next_in words ≤ end_of s = omega (arith, l, a.next) in
          let before : ends_at after k x ≡ ends_at words k x
          = ends-words s bs words after k same x in
          ⊎_elim
          (λ (t : (leaf_of after k == x) ≡ true).
          let is : lf ≡ x = sym leaf ∙ eqb-true (leaf_of after k) x t in
          let board : node_state s bs x ≡ spot = ap (node_state s bs) (sym is) ∙ at_leaf in
          let some : 0 < length (empties_of spot.board)
          = some-empty spot.board c
          (sym (ap (λ (z : NodeState). is_empty_at z.board c) board) ∙ e) in
          let fewer : v.visits < s.knobs.expand
          = asks-not s (next_in words) v spot sated some low_next in
          let count : v ≡ p x = state-count g (fair_game s) p q (oldest_first bs) r (root_state s)
          ∙ ap p is in
          omega (
            arith,
            before,
            ap one_if t,
            ends-visits s bs words k x m,
            ap (λ (z : Count). z.visits) (st.exact.tallies x m),
            ap (λ (z : Count). z.visits) count,
            fewer,
          ))
          (λ (t : (leaf_of after k == x) ≡ false). omega (arith, before, ap one_if t, st.leaves low_next x c m e))
          (cases_Bool (leaf_of after k == x));
      within = λ l. a.next ∙ st.within (omega (arith, l, a.next));
      room = omega (arith, a.next, st.room);
    } in
    let next : suc k ≡ k + 1 = omega arith in
    subst (IsSearched s bs after) next stands

times : (k n : ℕ) → 1 ≤ k → n ≤ k * n
times k n l = let le : n ≤ n = omega arith in omega (arith, mul-le-mul l le)

-- after all walks the words are a closed tree
pub closed-of : (s : Setting) (bs : List LinkedBlock) (words : List ℕ) → IsSetting s
    → Holds s bs words s.knobs.playouts → IsSearched s bs words s.knobs.playouts
    → s.knobs.playouts ≤ ticket_in words → ticket_in words ≤ s.knobs.playouts + MOST_WORKERS
    → IsClosed s words
closed-of s bs words set h st from to =
    let K : ℕ = s.knobs.workers in
    let some : 1 ≤ K = set.ranges.workers.0 in
    let root = h.linked.shows.links (root_at s) (root_node (root_at s) bs) ∙ st.rooted in
    let done' : KeepsEnds s words
    = record { next = omega (arith, h.next.1); ticket = (from, to) } in
    let grown : Grown s bs words = record {
      first = λ b x y i hx hy z. omega (arith, st.first b x y i hx hy z, some);
      leaves = λ l x c m e. omega (arith, st.leaves l x c m e, times K s.knobs.expand some);
      room = omega (arith, st.room, root-end-first s words bs set h.linked root, times K (other_words s bs) some, some);
    } in
    record {
      long = h.long;
      blocks = bs;
      linked = h.linked;
      recorded = st.recorded;
      exact = st.exact;
      ends = done';
      grown = grown;
    }
