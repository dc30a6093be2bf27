-- Each step keeps Tickets.
use Rattle.std.proofs.Common.{◌≡◌, ◌≢◌, ◌⊎◌, ℕ, ◌+◌, ◌<◌, ◌≤◌, Bool, true, false, cond, List, ◌∷◌}
use Rattle.std.proofs.Common.{length, set, Some, None, refl, sym, ap, ◌∙◌, subst, ⊎_elim, inl, inr}
use Rattle.std.proofs.Common.{arith, get_or-set_same, get_or-set_other}
use Rattle.std.specs.Prelude.{◌==◌, slice_index, sum_by, Contains}
use Rattle.std.proofs.lemmas.Bool.Decides.{nat_tests}
use mathlib.Core.Option.{some, some-injective}
use mathlib.Core.Logic.{dite}
use native.Mathlib.Decide.{ℕ_discrete}
use lib.ListN.{get_elem?}
use Rattle.tree_words.specs.Settings.{Setting}
use Rattle.tree_words.specs.Words.{root_at, ticket_in, record_in, leaf_in, winner_in}
use Rattle.tree_words.specs.Blocks.{LinkedBlock, one_if, has_node, is_node, InOrder, Follows}
use Rattle.tree_words.specs.Paths.{NodeState, node_state}
use Rattle.tree_words.specs.Sequence.{outcome_of}
use Rattle.tree_words.specs.declared.steps.Op.{Op}
use Rattle.tree_words.specs.declared.steps.Op.TheVariants.{Draw, Look, Claim, Write, Publish, Add}
use Rattle.tree_words.specs.declared.steps.Op.TheVariants.{Note, Done}
use Rattle.tree_words.proofs.Blocks.GameLaws.{spot-same}
use Rattle.tree_words.proofs.Blocks.Within.{within-node, within-state}
use Rattle.arena_rule.specs.Views.{SeatView, Walked}
use Rattle.arena_rule.specs.Fits.{FitsStep, FitsDraw, FitsNote}
use Rattle.arena_rule.specs.Lookups.{told_below}
use Rattle.arena_rule.specs.Afters.{word_of, answer_of, after, drew, with_word, looked, wrote}
use Rattle.arena_rule.specs.Afters.{published, added_at, noted, node_of_link}
use Rattle.arena_rule.specs.Parts.{IsRight, Tickets, in_hand, times_drawn, value_noted}
use Rattle.arena_rule.specs.Rule.{words_after, views_after}
use Rattle.arena_rule.proofs.Before.{Before, blocks_after}
use Rattle.arena_rule.proofs.Totals.{total_set, total_at, total_two, total_none, each-set}
use Rattle.arena_rule.proofs.Changes.{drew_cases, drew_same, claimed_same}
use Rattle.arena_rule.proofs.Numbers.{times_walked, value_walked, walked-cons, value-cons}
use Rattle.arena_rule.proofs.Numbers.{value-none, contains-cons, leaf-recorded, winner-recorded}
use Rattle.arena_rule.proofs.Numbers.{due, due_one}
use Rattle.arena_rule.proofs.Reach.{IsHigh, low-same}
use Rattle.std.proofs.lemmas.Bool.{eq-eqb, ne_eqb, or_right}

-- a record stays right if a block is linked
pub right-more : (s : Setting) (c : LinkedBlock) (bs : List LinkedBlock) (w : Walked)
    → Follows (root_at s) c bs → IsRight s bs w → IsRight s (c ∷ bs) w
right-more s c bs w f r = record {
  node = or_right (has_node c (leaf_in w.value)) (is_node (root_at s) bs (leaf_in w.value)) r.node;
  below = r.below;
  result = r.result
      ∙ sym (ap (λ (p : NodeState). (outcome_of s w.number p).winner) (spot-same s c bs (leaf_in w.value) f r.node));
}

next-due : (k x n : ℕ) → x < n → due k (x + 1) n ≡ due k x n + one_if (x == k)
next-due k x n l = grind (arith, nat_tests)

past-due : (k x n : ℕ) → n ≤ x → due k (x + 1) n ≡ due k x n
past-due k x n l = grind (arith, nat_tests)

module _ (bs : List LinkedBlock) (words : List ℕ) (views : List SeatView) (id : ℕ) (v : SeatView)
    (b : Before bs words views id v) where
  -- if the view has the same numbers, and the words below the root stay
  pub tickets-frame : (u : SeatView) (words' : List ℕ) → u.ticket ≡ v.ticket → u.walks ≡ v.walks
      → ticket_in words' ≡ ticket_in words
      → ((k : ℕ) → k < v.shape.knobs.playouts → record_in words' k ≡ record_in words k)
      → Tickets v.shape bs words' (set views id u)
  tickets-frame u words' t w n r =
      let old : Tickets v.shape bs words views = b.state.tickets in
      record {
        once = λ k.
            omega (
              arith,
              total_set (times_drawn k) views id v u b.at,
              ap (in_hand k) t,
              ap (times_walked k) w,
              old.once k,
              ap (λ (z : ℕ). due k z v.shape.knobs.playouts) n,
            );
        records = λ k l. r k l
            ∙ omega (arith, old.records k l, total_set (value_noted k) views id v u b.at, ap (value_walked k) w);
        right = each-set (λ x. (q : Walked) → Contains x.walks q → IsRight v.shape bs q) views id u
            (λ j x _ e. old.right j x e)
            (λ q c. old.right id v b.at q (subst (λ (ws : List Walked). Contains ws q) w c));
      }

  high : (op : Op) → IsHigh op → FitsStep v op
      → (after v op (answer_of op (slice_index words (word_of op)))).ticket ≡ v.ticket
      → (after v op (answer_of op (slice_index words (word_of op)))).walks ≡ v.walks
      → Tickets v.shape bs (words_after words op) (views_after words views id v op)
  high op h fits t w = tickets-frame (after v op (answer_of op (slice_index words (word_of op))))
      (words_after words op) t w
      (low-same bs words views id v b op h fits 1 (omega arith))
      (λ k l. low-same bs words views id v b op h fits (2 + k) (omega arith))

  -- a number is drawn
  drawn : (u : SeatView) (words' : List ℕ) → FitsDraw v → u.walks ≡ v.walks
      → ticket_in words' ≡ ticket_in words + 1
      → ((k : ℕ) → k < v.shape.knobs.playouts → record_in words' k ≡ record_in words k)
      → ((ticket_in words < v.shape.knobs.playouts) × (u.ticket ≡ Some (ticket_in words))) ⊎ ((v.shape.knobs.playouts ≤ ticket_in words) × (u.ticket ≡ None))
      → Tickets v.shape bs words' (set views id u)
  drawn u words' fits w n r cases =
      let old : Tickets v.shape bs words views = b.state.tickets in
      let x : ℕ = ticket_in words in
      record {
        once = λ k. ⊎_elim
            (λ (c : (x < v.shape.knobs.playouts) × (u.ticket ≡ Some x)).
            omega (
              arith,
              total_set (times_drawn k) views id v u b.at,
              ap (in_hand k) c.1,
              ap (in_hand k) fits.ticket,
              ap (times_walked k) w,
              old.once k,
              ap (λ (z : ℕ). due k z v.shape.knobs.playouts) n,
              next-due k x v.shape.knobs.playouts c.0,
            ))
            (λ (c : (v.shape.knobs.playouts ≤ x) × (u.ticket ≡ None)).
            omega (
              arith,
              total_set (times_drawn k) views id v u b.at,
              ap (in_hand k) c.1,
              ap (in_hand k) fits.ticket,
              ap (times_walked k) w,
              old.once k,
              ap (λ (z : ℕ). due k z v.shape.knobs.playouts) n,
              past-due k x v.shape.knobs.playouts c.0,
            ))
            cases;
        records = λ k l. r k l
            ∙ omega (arith, old.records k l, total_set (value_noted k) views id v u b.at, ap (value_walked k) w);
        right = each-set (λ y. (q : Walked) → Contains y.walks q → IsRight v.shape bs q) views id u
            (λ j y _ e. old.right j y e)
            (λ q c. old.right id v b.at q (subst (λ (ws : List Walked). Contains ws q) w c));
      }

  tickets-draw : FitsDraw v
      → Tickets v.shape bs (words_after words Draw) (views_after words views id v Draw)
  unfolding with_word
  tickets-draw fits =
      let x : ℕ = ticket_in words in
      let u : SeatView = after v Draw x in
      let L : Type 0 = (x < v.shape.knobs.playouts) × (u.ticket ≡ Some x) in
      let R : Type 0 = (v.shape.knobs.playouts ≤ x) × (u.ticket ≡ None) in
      let cases : L ⊎ R = ⊎_elim
      (λ (c : (x < v.shape.knobs.playouts) × (drew v x ≡ record v { ticket = Some x })). inl (c.0, ap (λ (z : SeatView). z.ticket) c.1))
      (λ (c : (v.shape.knobs.playouts ≤ x) × (drew v x ≡ record v { ended = 1 })). inr (c.0, ap (λ (z : SeatView). z.ticket) c.1 ∙ fits.ticket))
      (drew_cases v x) in
      drawn u (words_after words Draw) fits (drew_same (λ z. z.walks) v x refl refl)
      (get_or-set_same words 1 (x + 1) 0 (omega (arith, b.state.long)))
      (λ k l. get_or-set_other words 1 (2 + k) (x + 1) 0 (λ e. omega (arith, e)))
      cases

  -- the number in hand is in no walk
  pub hand-alone : (k : ℕ) → v.ticket ≡ Some k → (j : ℕ) (u : SeatView) → get_elem? views j ≡ some u
      → times_walked k u.walks ≡ 0
  hand-alone k t j u e =
      let mine : in_hand k v.ticket ≡ 1 = ap (in_hand k) t ∙ ap one_if (eq-eqb k k refl) in
      let once = b.state.tickets.once k in
      let one = due_one k (ticket_in words) v.shape.knobs.playouts in
      dite (ℕ_discrete j id)
      (λ (q : j ≡ id).
      let same : v ≡ u = some_eq v u (sym b.at ∙ (ap (get_elem? views) (sym q) ∙ e)) in
      let at = total_at (times_drawn k) views id v b.at in
      omega (arith, at, mine, once, one, ap (λ (z : SeatView). times_walked k z.walks) same))
      (λ (q : j ≢ id). omega (arith, total_two (times_drawn k) views j id u v q e b.at, mine, once, one))
    where
      some_eq : (x y : SeatView) → some x ≡ some y → x ≡ y
      some_eq x y e = some-injective x y e

  -- a walk is recorded
  tickets-note : (k value : ℕ) → FitsNote v k value
      → Tickets v.shape bs (words_after words (Note k value))
      (views_after words views id v (Note k value))
  unfolding with_word noted
  tickets-note k value fits =
      let old : Tickets v.shape bs words views = b.state.tickets in
      let w : Walked = record { number = k; value = value } in
      let u : SeatView = after v (Note k value) 0 in
      let ws : List ℕ = words_after words (Note k value) in
      let low = (b.state.in_hand id v b.at).ticket k fits.ticket in
      let long : 2 + k < length words = omega (arith, b.state.long, low.1) in
      let n : ticket_in ws ≡ ticket_in words
      = get_or-set_other words (2 + k) 1 value 0 (λ e. omega (arith, e)) in
      let none : sum_by (value_noted k) views ≡ 0
      = total_none (value_noted k) views
      (λ j x e. value-none k x.walks (hand-alone k fits.ticket j x e)) in
      record {
        once = λ j.
            omega (
              arith,
              total_set (times_drawn j) views id v u b.at,
              ap (in_hand j) fits.ticket,
              walked-cons j w v.walks,
              old.once j,
              ap (λ (z : ℕ). due j z v.shape.knobs.playouts) n,
            );
        records = λ j l. dite (ℕ_discrete j k)
            (λ (e : j ≡ k).
            ap (record_in ws) e ∙ get_or-set_same words (2 + k) value 0 long
            ∙ omega (arith, total_set (value_noted k) views id v u b.at, none, value-cons k w v.walks, ap (λ (t : Bool). cond t value 0) (eq-eqb k k refl))
            ∙ ap (λ (z : ℕ). sum_by (value_noted z) (set views id u)) (sym e))
            (λ (e : j ≢ k).
            get_or-set_other words (2 + k) (2 + j) value 0 (λ q. e (omega (arith, q)))
            ∙ omega (
              arith,
              old.records j l,
              total_set (value_noted j) views id v u b.at,
              value-cons j w v.walks,
              ap (λ (t : Bool). cond t value 0) (ne_eqb k j (λ q. e (sym q))),
            ));
        right = each-set (λ y. (q : Walked) → Contains y.walks q → IsRight v.shape bs q) views id u
            (λ j y _ e. old.right j y e)
            (λ q c. ⊎_elim (λ (e : w ≡ q). subst (IsRight v.shape bs) e (new fits)) (λ (d : Contains v.walks q). old.right id v b.at q d)
            (contains-cons w q v.walks c));
      }
    where
      new : FitsNote v k value → IsRight v.shape bs (record { number = k; value = value })
      new fits =
          let s : Setting = v.shape in
          let leaf : ℕ = fits.flight.leaf in
          let fly = (b.state.in_hand id v b.at).flight k fits.flight fits.ticket fits.adds in
          let order = b.state.linked.blocks.order in
          let known = b.state.known id v b.at in
          let is : leaf_in value ≡ leaf = ap leaf_in fits.value
          ∙ leaf-recorded leaf (outcome_of s k (node_state s v.known leaf)).winner in
          let same : node_state s v.known leaf ≡ node_state s bs leaf
          = within-state s bs v.known leaf order known fly.known in
          record {
            node = subst (λ (x : ℕ). is_node (root_at s) bs x ≡ true) (sym is)
                (within-node (root_at s) bs v.known leaf known fly.known);
            below = λ e. fly.below (sym is ∙ e);
            result = ap winner_in fits.value
                ∙ winner-recorded leaf (outcome_of s k (node_state s v.known leaf)).winner
                ∙ ap (λ (p : NodeState). (outcome_of s k p).winner)
                (same ∙ ap (node_state s bs) (sym is));
          }

  -- a block may be linked
  linked-more : (test : Bool) (c : LinkedBlock) (words' : List ℕ) (views' : List SeatView)
      → InOrder (root_at v.shape) (cond test (c ∷ bs) bs)
      → Tickets v.shape bs words' views' → Tickets v.shape (cond test (c ∷ bs) bs) words' views'
  linked-more true c words' views' o t
      = record { once = t.once; records = t.records; right = λ j u e q d. right-more v.shape c bs q o.0 (t.right j u e q d) }
  linked-more false c words' views' o t = t

  pub tickets-step : (op : Op) → FitsStep v op
      → InOrder (root_at v.shape) (blocks_after bs words v op)
      → Tickets v.shape (blocks_after bs words v op) (words_after words op)
      (views_after words views id v op)
  unfolding with_word looked wrote published added_at
  tickets-step Draw fits o = tickets-draw fits
  tickets-step (Look i) fits o = high (Look i) tt fits refl refl
  tickets-step (Claim size) fits o =
      let x : ℕ = slice_index words 0 in
      tickets-frame (after v (Claim size) x) (words_after words (Claim size))
      (claimed_same (λ z. z.ticket) v size x refl refl)
      (claimed_same (λ z. z.walks) v size x refl refl)
      (get_or-set_other words 0 1 (x + size) 0 (λ e. omega (arith, e)))
      (λ k l. get_or-set_other words 0 (2 + k) (x + size) 0 (λ e. omega (arith, e)))
  tickets-step (Write i value) fits o = high (Write i value) tt fits refl refl
  tickets-step (Publish l c) fits o =
      linked-more (slice_index words l == 0) (told_below v (node_of_link l) c)
      (words_after words (Publish l c)) (views_after words views id v (Publish l c)) o
      (high (Publish l c) tt fits refl refl)
  tickets-step (Add i won) fits o = high (Add i won) tt fits refl refl
  tickets-step (Note k value) fits o = tickets-note k value fits
  tickets-step Done fits o = high Done tt fits refl refl
