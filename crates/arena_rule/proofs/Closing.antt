-- The closed tree: what holds of a state with one seat left, whose workers have all ended.
use Rattle.std.proofs.Common.{◌≡◌, ◌≢◌, ℕ, ◌+◌, ◌*◌, ◌≤◌, Bool, true, false, cond, List, [], ◌∷◌}
use Rattle.std.proofs.Common.{Option, refl, sym, ap, ◌∙◌, subst, arith}
use Rattle.std.specs.Prelude.{◌==◌, ◌&&◌, not, slice_index, sum_by}
use Rattle.std.specs.List.{filter}
use Rattle.std.proofs.Math.Nat.{mul-le-mul_left}
use Rattle.std.proofs.lemmas.List.Sums.{sum_by-cons}
use Rattle.hex_cells.specs.Sets.{has as has_cell}
use Rattle.hex_board.specs.Positions.{stones_of}
use Rattle.hex_board.specs.Wins.{is_same}
use Rattle.tree_words.specs.Words.{Count, root_at, record_in, leaf_in, winner_in, count_in}
use Rattle.tree_words.specs.Blocks.{LinkedBlock, one_if, place, cell_at, is_node, link_of, size}
use Rattle.tree_words.specs.Paths.{node_state, mover_of, is_on, enters}
use Rattle.tree_words.specs.Sequence.{outcome_of, amount_of}
use Rattle.tree_words.specs.Records.{leaf_of, outcome_in, Recorded}
use Rattle.tree_words.specs.Counts.{count_below, is_seen, Exact}
use Rattle.tree_words.specs.Growth.{other_words, Grown}
use Rattle.tree_words.specs.Closing.{KeepsEnds, IsClosed}
use Rattle.tree_words.specs.declared.layout.TheConstants.{TALLY_WORD, SEEN_WORD}
use Rattle.tree_words.proofs.Blocks.GameLaws.{in-node}
use Rattle.tree_words.proofs.Blocks.RootEnds.{root-end-first}
use Rattle.tree_words.proofs.Walks.Countings.{cond-and, cond-most}
use Rattle.arena_rule.specs.Views.{SeatView, HasEnded}
use Rattle.arena_rule.specs.Adds.{walk_adds, amount_at, tally_amount}
use Rattle.arena_rule.specs.Lookups.{adds_made}
use Rattle.arena_rule.specs.Parts.{ended_of, full_width, amount_counted, IsRight}
use Rattle.arena_rule.specs.Bounds.{words_held, claimed_of}
use Rattle.arena_rule.proofs.Before.{Before}
use Rattle.arena_rule.proofs.Below.{sum_below, below_same, below_ones}
use Rattle.arena_rule.proofs.ByNumber.{FoundWalk, find-walk}
use Rattle.arena_rule.proofs.AddLaws.{tally-amount, seen-amount}
use Rattle.arena_rule.proofs.SumsLinked.{walks-same}
use Rattle.arena_rule.proofs.Loaded.{on-linked}
use Rattle.arena_rule.proofs.CountSums.{sum-counts, count-sum, one-most, count-is}
use Rattle.arena_rule.proofs.LastSeat.{only, idle, drawn, all-walks, value, by-record, count-record}
use Rattle.arena_rule.proofs.Recorded.{not-root}

-- the blocks that a view knows are some of the blocks
known-less : (r : ℕ) (ks bs : List LinkedBlock)
    → sum_by (λ b. cond (not (b.parent == r) && not (link_of ks b.parent == 0)) (size b) 0) bs ≤ sum_by size (filter (λ b. not (b.parent == r)) bs)
known-less r ks [] = omega arith
known-less r ks (b ∷ bs) =
    omega (
      arith,
      sum_by-cons (λ c. cond (not (c.parent == r) && not (link_of ks c.parent == 0)) (size c) 0) b bs,
      by (not (b.parent == r)) (not (link_of ks b.parent == 0))
          (sum_by (λ c. cond (not (c.parent == r) && not (link_of ks c.parent == 0)) (size c) 0) bs)
          (filter (λ c. not (c.parent == r)) bs) (known-less r ks bs),
    )
  where
    by : (t u : Bool) (m : ℕ) (rest : List LinkedBlock) → m ≤ sum_by size rest
        → cond (t && u) (size b) 0 + m ≤ sum_by size (cond t (b ∷ rest) rest)
    by true true m rest l = omega (arith, sum_by-cons size b rest)
    by true false m rest l = omega (arith, sum_by-cons size b rest)
    by false u m rest l = omega (arith, l)

module _ (bs : List LinkedBlock) (words : List ℕ) (views : List SeatView) (id : ℕ) (v : SeatView)
    (b : Before bs words views id v) (all : v.width ≡ v.shape.knobs.workers)
    (ended : HasEnded v) where
  abbrev n : ℕ
  n = v.shape.knobs.playouts

  recorded : Recorded v.shape bs words
  recorded k l =
      let f : FoundWalk k v.walks
      = find-walk k v.walks (all-walks bs words views id v b all ended k l) in
      let r : IsRight v.shape bs f.walk = b.state.tickets.right id v b.at f.walk f.found in
      let e : f.walk.value ≡ record_in words k = f.value
      ∙ sym (value bs words views id v b all ended k l) in
      record {
        node = subst (λ (m : ℕ). is_node (root_at v.shape) bs (leaf_in m) ≡ true) e r.node;
        below = subst (λ (m : ℕ). leaf_in m ≢ root_at v.shape) e r.below;
        result = subst (λ (m : ℕ). winner_in m ≡ (outcome_of v.shape k (node_state v.shape bs (leaf_in m))).winner) e
            (subst (λ (j : ℕ). winner_in f.walk.value ≡ (outcome_of v.shape j (node_state v.shape bs (leaf_in f.walk.value))).winner) f.number r.result);
      }

  counted : (w : ℕ) → sum_by (amount_counted v.shape bs w) views ≡ sum_below n
      (λ k. amount_at w (walk_adds v.shape bs k (leaf_of words k)))
  counted w =
      only bs words views id v b all ended (amount_counted v.shape bs w) refl
      ∙ omega (
        arith,
        ap (λ (o : Option ℕ). amount_at w (adds_made v.shape bs o v.adds)) (idle bs words views id v b all ended),
        by-record bs words views id v b all ended (λ k m. amount_at w (walk_adds v.shape bs k (leaf_in m))),
      )

  -- a word of amounts has their counts
  counts : (m : ℕ) (t u : ℕ → Bool) → m ≡ sum_below n (λ k. cond (t k) (amount_of (u k)) 0)
      → count_in m ≡ record { visits = count_below n t; wins = count_below n (λ k. t k && u k) }
  counts m t u e =
      let few = b.state.setting.ranges.playouts.1 in
      let most = below_ones n (λ k. one_if (t k && u k)) (λ k. one-most (t k && u k)) in
      count-is m (count_below n t) (count_below n (λ k. t k && u k)) (e ∙ sum-counts n t u)
      (omega (arith, few, most, count-sum n (λ k. t k && u k)))

  exact : Exact v.shape bs words
  exact = record {
    tallies = λ x m. counts (slice_index words (x + TALLY_WORD))
        (λ k. is_on v.shape bs x (leaf_of words k))
        (λ k. is_same (outcome_in v.shape bs words k).winner (mover_of v.shape bs x))
        (b.state.sums.tallies x m ∙ counted (x + TALLY_WORD)
        ∙ below_same n (λ k. amount_at (x + TALLY_WORD) (walk_adds v.shape bs k (leaf_of words k)))
        (λ k. tally_amount v.shape bs k (leaf_of words k) x)
        (λ k l. tally-amount v.shape bs b.state.linked.blocks.order k (leaf_of words k) x m));
    seen = λ c y i h. counts (slice_index words (y + SEEN_WORD))
        (λ k. is_seen v.shape bs words c y k)
        (λ k. is_same (outcome_in v.shape bs words k).winner (mover_of v.shape bs y))
        (b.state.sums.seen y (in-node (root_at v.shape) bs c y i h) (not-root v.shape words bs b.state.linked.blocks c y i h) ∙ counted (y + SEEN_WORD)
        ∙ below_same n (λ k. amount_at (y + SEEN_WORD) (walk_adds v.shape bs k (leaf_of words k)))
        (λ k. cond (is_seen v.shape bs words c y k) (amount_of (is_same (outcome_in v.shape bs words k).winner (mover_of v.shape bs y))) 0)
        (λ k l. seen-amount v.shape bs b.state.linked.blocks.order k (leaf_of words k) c y i h
        ∙ sym (cond-and (enters v.shape bs c (leaf_of words k))
        (has_cell (stones_of (outcome_in v.shape bs words k).full (mover_of v.shape bs y)) (cell_at c (place c y)))
        (amount_of (is_same (outcome_in v.shape bs words k).winner (mover_of v.shape bs y))))));
  }

  full-less : full_width v ≤ v.width
  full-less = cond-most v.full v.width

  ends : KeepsEnds v.shape words
  ends =
      let few = b.state.setting.ranges.workers.1 in
      record {
        next = omega (arith, b.state.widths.next, only bs words views id v b all ended full_width refl, full-less, all, few);
        ticket = (
          drawn bs words views id v b all ended,
          omega (
            arith,
            b.state.widths.ticket,
            only bs words views id v b all ended ended_of refl,
            ended,
            all,
            few,
          ),
        );
      }

  grown : Grown v.shape bs words
  grown = record {
    first = λ c x y i hx hy z.
        let through = b.state.first_visits c x y i hx hy z id v b.at in
        let mine = count-record bs words views id v b all ended
        (λ m. is_on v.shape bs x (leaf_in m)) in
        let known = walks-same (λ w. cond (is_on v.shape v.known x (leaf_in w.value)) 1 0)
        (λ w. cond (is_on v.shape bs x (leaf_in w.value)) 1 0) v.walks
        (λ w d. ap one_if (on-linked v.shape bs v.known x (leaf_in w.value) b.state.linked.blocks.order (b.state.known id v b.at)
        ((b.state.in_hand id v b.at).leaves w d))) in
        omega (arith, ap (λ (t : Count). t.visits) (exact.tallies x (in-node (root_at v.shape) bs c x i hx)), mine, known, through, all);
    leaves = λ l x c m e.
        let mine = count-record bs words views id v b all ended (λ k. leaf_in k == x) in
        omega (arith, b.state.leaf_bound l x c m e id v b.at, mine, ap (λ (k : ℕ). k * v.shape.knobs.expand) all);
    room =
        let known = mul-le-mul_left v.width (known-less (root_at v.shape) v.known bs) in
        let ends = root-end-first v.shape words bs b.state.setting b.state.linked.blocks b.state.linked.link in
        let held : words_held v.held ≡ 0
        = ap words_held
        ((b.state.in_hand id v b.at).idle (idle bs words views id v b all ended)).1 in
        omega (
          arith,
          b.state.room.next,
          ends,
          only bs words views id v b all ended claimed_of refl,
          only bs words views id v b all ended full_width refl,
          full-less,
          b.state.room.claimed id v b.at,
          held,
          known,
          all,
          ap (λ (k : ℕ). k * other_words v.shape bs) all,
        );
  }

  -- the tree is closed
  pub closed : IsClosed v.shape words
  closed = record {
    long = b.state.long;
    blocks = bs;
    linked = b.state.linked.blocks;
    recorded = recorded;
    exact = exact;
    ends = ends;
    grown = grown;
  }
