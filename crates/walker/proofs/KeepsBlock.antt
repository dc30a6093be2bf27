-- The claim and the writes of a new block keep Belongs.
use Rattle.std.proofs.Common.{◌≡◌, ◌≢◌, ℕ, ◌+◌, ◌-◌, ◌<◌, ◌≤◌, true, cond, List, [], ◌∷◌, ◌++◌}
use Rattle.std.proofs.Common.{length, take, get_or, Some, refl, sym, ap, ◌∙◌, subst, arith, ⊎_elim}
use Rattle.std.proofs.Common.{inr, inl}
use Rattle.std.specs.Prelude.{option_map}
use Rattle.std.proofs.lemmas.Bool.{cases_lt}
use Rattle.std.proofs.lemmas.List.{take_more}
use Rattle.std.proofs.lemmas.List.FromFn.{get_or-map-range_with_len}
use Rattle.tree_words.specs.Settings.{Setting}
use Rattle.tree_words.specs.Words.{root_at, end_of}
use Rattle.tree_words.specs.Blocks.{LinkedBlock, In, size, has_node, is_node, link_of}
use Rattle.tree_words.specs.Blocks.{is_header_or_move, header_or_move}
use Rattle.tree_words.specs.Paths.{NodeState, node_state}
use Rattle.tree_words.specs.Sequence.{size_below}
use Rattle.tree_words.specs.declared.steps.Op.TheVariants.{Claim, Write}
use Rattle.tree_words.proofs.Blocks.BlockLaws.{has-at}
use Rattle.tree_words.proofs.Blocks.Members.{node-in}
use Rattle.arena_rule.specs.Views.{SeatView, WordLoad}
use Rattle.arena_rule.specs.Lookups.{is_known, load_of}
use Rattle.arena_rule.specs.Fits.{block_words}
use Rattle.arena_rule.specs.Answers.{MayAnswer}
use Rattle.arena_rule.specs.Afters.{after, claimed_at, wrote, with_word, written_more}
use Rattle.arena_rule.specs.IsView.{IsView}
use Rattle.arena_rule.proofs.Changes.{claimed_cases}
use Rattle.walker.specs.declared.ways.Level.{Level}
use Rattle.walker.specs.declared.stages.Stage.{Stage}
use Rattle.walker.specs.declared.stages.Stage.TheVariants.{Writing}
use Rattle.walker.specs.declared.machine.Walker.{Walker}
use Rattle.walker.specs.Machine.{state_in, own_block, word_of_block, at_leaf, claimed, written}
use Rattle.walker.specs.Belongs.{Belongs, Stands, Down, IsDown, MayClaim, HoldsBlock, AtClaim}
use Rattle.walker.specs.Belongs.{AtWrite}
use Rattle.walker.proofs.KnownLaws.{one-order, known-lies}
use Rattle.walker.proofs.Going.{Goes, Untouched, down-goes}
use Rattle.walker.proofs.LeafLaws.{leaf-stands, leaf-belongs}
use Rattle.walker.proofs.Fitting.{block_words-long}
use Rattle.walker.proofs.Cases.{claimed-inside, claimed-past, written-next, written-last}

-- a step that changes neither the known blocks nor the loads
pub steps-go : (v u : SeatView) → u.shape ≡ v.shape → u.known ≡ v.known → u.loads ≡ v.loads
    → Goes v u 0
steps-go v u s k l = record {
  shape = s;
  known = λ c i. subst (In c) (sym k) i;
  node = λ x n. (λ i. is_node (root_at (s i)) (k i) x) ∙ n;
  state = λ x n. (λ i. node_state (s i) (k i) x);
  loads = λ i ne. ap (λ (ls : List WordLoad). load_of ls i) l;
}

pub no-touch : (c : LinkedBlock) → Untouched c 0
no-touch c = record { parent = λ e. omega arith; tally = λ k l e. omega arith; seen = λ k l e. omega arith }

-- a walk that goes down stays if loads stay
pub still-down : (v u : SeatView) (number node visits : ℕ) (state : NodeState) (way : List Level)
    → IsView v → v.width ≡ 1 → Goes v u 0 → IsDown number node visits state way v
    → u.ended ≡ v.ended → u.ticket ≡ v.ticket → u.adds ≡ v.adds
    → IsDown number node visits state way u
still-down v u number node visits state way iv one g d e t a =
    down-goes v u 0 g number node visits state way d (λ z. omega arith) (λ c i l. no-touch c)
    (λ c i. (known-lies v.shape v.known c (one-order v iv one) iv.known i).above) e t a

-- a known node but the root lies before each word behind all known blocks
node-before : (v : SeatView) (y x : ℕ) → is_known v y ≡ true → y ≢ root_at v.shape
    → ((c : LinkedBlock) → In c v.known → c.start + size c ≤ x) → y < x
node-before v y x n ne h = ⊎_elim
    (λ (e : y ≡ root_at v.shape). absurd (ne e))
    (λ (q : (c : LinkedBlock) × In c v.known × (has_node c y ≡ true)). let p = has-at q.0 y q.2 in let l = h q.0 q.1 in omega (arith, p.1, p.2, l))
    (node-in (root_at v.shape) v.known y n)

block-word : (b : LinkedBlock) (i : ℕ) → i < size b → get_or (block_words b) i 0 ≡ word_of_block b i
unfolding block_words
block-word b i l
    = get_or-map-range_with_len (λ j. cond (is_header_or_move j) (header_or_move b j) 0) 0
    (size b) i i 0 l (zero-plus i)
  where
    zero-plus : (i : ℕ) → 0 + i ≡ i
    zero-plus i = omega arith

module _ (w : Walker) (v : SeatView) (b : Belongs w v) (x : ℕ) where
  -- the node may get a block as before
  still-claim : (u : SeatView) → Goes v u 0 → u.known ≡ v.known → u.full ≡ v.full
      → u.ended ≡ v.ended → u.ticket ≡ v.ticket → u.adds ≡ v.adds → MayClaim w v → MayClaim w u
  still-claim u g k f e t a m = record {
    down = still-down v u w.number w.node w.visits (state_in w) w.way b.view b.width g m.down e t a;
    below = λ z. m.below (z ∙ ap root_at g.shape);
    vacant = ap (λ (ks : List LinkedBlock). link_of ks w.node) k ∙ m.vacant;
    visits = subst (λ (s : Setting). s.knobs.expand ≤ w.visits) (sym g.shape) m.visits;
    some = m.some;
    room = f ∙ m.room;
  }

  module _ (a : AtClaim w v) (may : MayAnswer v (Claim (size_below (state_in w))) x)
      (iu : IsView (after v (Claim (size_below (state_in w))) x)) where
    claim-inside : x + size_below (state_in w) ≤ end_of v.shape
        → claimed_at v
        (size_below (state_in w)) x ≡ record v {
          held = Some (record { start = x; size = size_below (state_in w); written = [] });
          claimed = v.claimed
              + size_below (state_in w);
        }
        → Belongs (record w { stage = Writing; start = x; at = x })
        (after v (Claim (size_below (state_in w))) x)
    unfolding with_word
    claim-inside l e =
        let u : SeatView = after v (Claim (size_below (state_in w))) x in
        let shape : u.shape ≡ v.shape = ap (λ (z : SeatView). z.shape) e in
        let known : u.known ≡ v.known = ap (λ (z : SeatView). z.known) e in
        let full : u.full ≡ v.full = ap (λ (z : SeatView). z.full) e in
        let m : MayClaim w u
        = still-claim u (steps-go v u shape known (ap (λ (z : SeatView). z.loads) e)) known full
        (ap (λ (z : SeatView). z.ended) e) (ap (λ (z : SeatView). z.ticket) e)
        (ap (λ (z : SeatView). z.adds) e) a.may in
        let none : x - x ≡ 0 = omega arith in
        record {
          shape = shape ∙ b.shape;
          view = iu;
          width = ap (λ (z : SeatView). z.width) e ∙ b.width;
          full = full ∙ b.full;
          stands = record {
            may = record { down = m.down; below = m.below; vacant = m.vacant; visits = m.visits; some = m.some; room = m.room };
            above = node-before v w.node x a.may.down.known a.may.below may.step.behind;
            at = (omega arith, omega arith);
            held = ap (λ (z : SeatView). z.held) e
                ∙ sym (ap (λ (n : ℕ). Some (record {
                  start = x;
                  size = size_below (state_in w);
                  written = take n (block_words (own_block (record w { start = x })));
                })) none);
          };
        }

    claim-past : claimed_at v (size_below (state_in w)) x ≡ record v { full = true }
        → Belongs (at_leaf (record w { full = true })) (after v (Claim (size_below (state_in w))) x)
    unfolding with_word
    claim-past e =
        let u : SeatView = after v (Claim (size_below (state_in w))) x in
        let shape : u.shape ≡ v.shape = ap (λ (z : SeatView). z.shape) e in
        let one : u.width ≡ 1 = ap (λ (z : SeatView). z.width) e ∙ b.width in
        let g : Goes v u 0 = steps-go v u shape (ap (λ (z : SeatView). z.known) e)
        (ap (λ (z : SeatView). z.loads) e) in
        let full : u.full ≡ true = ap (λ (z : SeatView). z.full) e in
        let down : Down w u
        = still-down v u w.number w.node w.visits (state_in w) w.way b.view b.width g a.may.down
        (ap (λ (z : SeatView). z.ended) e) (ap (λ (z : SeatView). z.ticket) e)
        (ap (λ (z : SeatView). z.adds) e) in
        leaf-belongs (record w { full = true }) u (shape ∙ b.shape) iu one full
        (leaf-stands (record w { full = true }) u (shape ∙ b.shape) (one-order u iu one) iu.known down
        (ap (λ (z : SeatView). z.held) e ∙ a.held) (λ z. a.may.below (z ∙ ap root_at shape))
        (inl (ap (λ (z : SeatView). link_of z.known w.node) e ∙ a.may.vacant)) (inr (inr full)))

    pub keeps-claim : Belongs (claimed w x) (after v (Claim (size_below (state_in w))) x)
    keeps-claim =
        let u : SeatView = after v (Claim (size_below (state_in w))) x in
        let n : ℕ = size_below (state_in w) in
        let end : end_of v.shape ≡ end_of w.shape = ap end_of b.shape in
        ⊎_elim
        (λ (q : (x + n ≤ end_of v.shape) × (claimed_at v n x ≡ record v {
          held = Some (record { start = x; size = n; written = [] });
          claimed = v.claimed
              + n;
        })).
        let l = q.0 in
        subst (λ (z : Walker). Belongs z u) (sym (claimed-inside w x (omega (arith, l, end))))
        (claim-inside q.0 q.1))
        (λ (q : (end_of v.shape < x + n) × (claimed_at v n x ≡ record v { full = true })).
        let l = q.0 in
        subst (λ (z : Walker). Belongs z u) (sym (claimed-past w x (omega (arith, l, end))))
        (claim-past q.1))
        (claimed_cases v n x)

  module _ (stage : w.stage ≡ Writing) (a : AtWrite w v)
      (iu : IsView (after v (Write w.at (word_of_block (own_block w) (w.at - w.start))) x)) where
    -- one word more is written
    more-held : (after v (Write w.at (word_of_block (own_block w) (w.at - w.start))) x).held
        ≡ Some (record { start = w.start; size = size_below (state_in w); written = take (w.at - w.start + 1) (block_words (own_block w)) })
    unfolding with_word wrote
    more-held =
        let n : ℕ = w.at - w.start in
        let value : ℕ = word_of_block (own_block w) n in
        let few : n < size (own_block w) = omega (arith, a.at) in
        let long : n < length (block_words (own_block w))
        = omega (arith, block_words-long (own_block w), few) in
        let words : take n (block_words (own_block w)) ++ value ∷ [] ≡ take (n + 1)
        (block_words (own_block w))
        = ap (λ (z : ℕ). take n (block_words (own_block w)) ++ z ∷ [])
        (sym (block-word (own_block w) n few))
        ∙ sym (take_more (block_words (own_block w)) n 0 long) in
        ap (option_map (written_more value)) a.held
        ∙ ap (λ (ws : List ℕ). Some (record { start = w.start; size = size_below (state_in w); written = ws })) words

    write-may : MayClaim w (after v (Write w.at (word_of_block (own_block w) (w.at - w.start))) x)
    unfolding with_word wrote
    write-may = still-claim (after v (Write w.at (word_of_block (own_block w) (w.at - w.start))) x)
        (steps-go v (after v (Write w.at (word_of_block (own_block w) (w.at - w.start))) x) refl refl refl) refl refl refl refl refl a.may

    pub keeps-write : Belongs (written w)
        (after v (Write w.at (word_of_block (own_block w) (w.at - w.start))) x)
    unfolding with_word wrote
    keeps-write =
        let u : SeatView = after v (Write w.at (word_of_block (own_block w) (w.at - w.start))) x in
        let m : MayClaim w u = write-may in
        let goal : Walker → Type 0 = λ z. Belongs z u in
        let held : (n : ℕ) → n ≡ w.at - w.start + 1 → HoldsBlock w u n = λ n e. more-held
        ∙ ap (λ (k : ℕ). Some (record { start = w.start; size = size_below (state_in w); written = take k (block_words (own_block w)) })) (sym e) in
        ⊎_elim
        (λ (l : w.at + 1 < w.start + size_below (state_in w)). subst goal (sym (written-next w l)) (record {
          shape = b.shape;
          view = iu;
          width = b.width;
          full = b.full;
          stands = subst (λ (t : Stage). Stands t (record w { at = w.at + 1 }) u)
              (sym stage) (record {
                may = record { down = m.down; below = m.below; vacant = m.vacant; visits = m.visits; some = m.some; room = m.room };
                above = a.above;
                at = (omega (arith, a.at), l);
                held = held (w.at + 1 - w.start) (omega (arith, a.at));
              });
        }))
        (λ (l : w.start + size_below (state_in w) ≤ w.at + 1). subst goal (sym (written-last w l)) (record {
          shape = b.shape;
          view = iu;
          width = b.width;
          full = b.full;
          stands = record {
            may = record { down = m.down; below = m.below; vacant = m.vacant; visits = m.visits; some = m.some; room = m.room };
            above = a.above;
            at = refl;
            held = held (size_below (state_in w)) (omega (arith, a.at, l));
          };
        }))
        (cases_lt (w.at + 1) (w.start + size_below (state_in w)))
