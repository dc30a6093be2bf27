-- Each step keeps InHand.
use Rattle.std.proofs.Common.{◌≡◌, ◌≢◌, ℕ, zero, suc, ◌+◌, ◌<◌, ◌≤◌, Bool, true, cond, List, []}
use Rattle.std.proofs.Common.{◌∷◌, length, set, Option, Some, None, refl, sym, ap, ◌∙◌, subst}
use Rattle.std.proofs.Common.{⊎_elim, arith, get_or-set_same, get_or-set_other}
use Rattle.std.specs.Prelude.{slice_index, slice_get, Contains, ◌-◌, ◌==◌}
use Rattle.tree_words.specs.Settings.{Setting}
use Rattle.tree_words.specs.Words.{root_at, ticket_in, leaf_in}
use Rattle.tree_words.specs.Blocks.{LinkedBlock, is_node}
use Rattle.tree_words.specs.Paths.{node_state}
use Rattle.tree_words.specs.Sequence.{outcome_of}
use Rattle.tree_words.specs.Told.{Knows}
use Rattle.tree_words.specs.declared.steps.Op.{Op}
use Rattle.tree_words.specs.declared.steps.Op.TheVariants.{Draw, Look, Claim, Write, Publish, Add}
use Rattle.tree_words.specs.declared.steps.Op.TheVariants.{Note, Done}
use Rattle.arena_rule.specs.Views.{SeatView, HeldBlock, Flight, Walked}
use Rattle.arena_rule.specs.Adds.{walk_adds}
use Rattle.arena_rule.specs.Lookups.{is_known}
use Rattle.arena_rule.specs.Fits.{FitsStep, FitsDraw, FitsClaim, FitsWrite, FitsPublish, FitsAdd}
use Rattle.arena_rule.specs.Fits.{FitsNote, IsNext}
use Rattle.arena_rule.specs.Afters.{word_of, answer_of, after, drew, with_word, looked, wrote}
use Rattle.arena_rule.specs.Afters.{published, added_at, noted, flight_after, node_of_link}
use Rattle.arena_rule.specs.Parts.{IsFlying, HasInHand, InHand}
use Rattle.arena_rule.specs.Rule.{words_after, views_after}
use Rattle.arena_rule.proofs.Options.{none-some, some-eq}
use Rattle.arena_rule.proofs.Before.{Before, blocks_after}
use Rattle.arena_rule.proofs.Totals.{each-set}
use Rattle.arena_rule.proofs.Changes.{drew_cases, drew_same, claimed_same}
use Rattle.arena_rule.proofs.Numbers.{contains-cons, leaf-recorded}
use Rattle.arena_rule.proofs.Reach.{IsHigh, low-same}
use Rattle.arena_rule.proofs.Within.{within-adds}
use Rattle.arena_rule.proofs.KnownMore.{known-more}

get-length : {A : Type 0} (l : List A) (i : ℕ) (a : A) → slice_get l i ≡ Some a → i < length l
get-length [] i a e = absurd (none-some e)
get-length (x ∷ xs) zero a e = omega arith
get-length (x ∷ xs) (suc i) a e = omega (arith, get-length xs i a e)

-- more numbers are drawn
ticket-more : (s : Setting) (words words' : List ℕ) (u : SeatView)
    → ticket_in words ≤ ticket_in words' → HasInHand s words u → HasInHand s words' u
ticket-more s words words' u l h = record {
  ticket = λ k e. ((let q = h.ticket k e in omega (arith, q.0)), (h.ticket k e).1);
  walks = λ w c. ((let q = h.walks w c in omega (arith, q.0)), (h.walks w c).1);
  one = h.one;
  idle = h.idle;
  either = h.either;
  flight = h.flight;
  leaves = h.leaves;
}

module _ (bs : List LinkedBlock) (words : List ℕ) (views : List SeatView) (id : ℕ) (v : SeatView)
    (b : Before bs words views id v) where
  old : HasInHand v.shape words v
  old = b.state.in_hand id v b.at

  make : (u : SeatView) (words' : List ℕ) → ticket_in words ≤ ticket_in words'
      → HasInHand v.shape words' u → InHand v.shape words' (set views id u)
  make u words' l h = each-set (HasInHand v.shape words') views id u
      (λ j x _ e. ticket-more v.shape words words' x l (b.state.in_hand j x e)) h

  high-ticket : (op : Op) → IsHigh op → FitsStep v op
      → ticket_in words ≤ ticket_in (words_after words op)
  high-ticket op h fits = omega (arith, low-same bs words views id v b op h fits 1 (omega arith))

  -- a view of which neither the number in hand, nor the walks, nor a walk in flight has changed,
  -- and that knows no less
  same : (u : SeatView) → u.shape ≡ v.shape → u.ticket ≡ v.ticket → u.walks ≡ v.walks
      → u.width ≡ v.width → u.ended ≡ v.ended
      → (u.ticket ≡ None → (u.adds ≡ None) × (u.held ≡ None))
      → ((f : Flight) → u.adds ≡ Some f → u.held ≡ None)
      → ((k : ℕ) (f : Flight) → u.ticket ≡ Some k → u.adds ≡ Some f → IsFlying u k f)
      → ((x : ℕ) → is_known v x ≡ true → is_known u x ≡ true) → HasInHand v.shape words u
  same u s t w wd en idle either flight more = record {
    ticket = λ k e. old.ticket k (sym t ∙ e);
    walks = λ q c. old.walks q (subst (λ (ws : List Walked). Contains ws q) w c);
    one = λ k e. let o = old.one k (sym t ∙ e) in (wd ∙ o.0, en ∙ o.1);
    idle = idle;
    either = either;
    flight = flight;
    leaves = λ q c. more (leaf_in q.value)
        (old.leaves q (subst (λ (ws : List Walked). Contains ws q) w c));
  }

  -- a view that holds a block has a number in hand and no walk in flight
  holds-none : (h : HeldBlock) → v.held ≡ Some h → v.adds ≡ None
  holds-none h e = by v.adds refl
    where
      by : (o : Option Flight) → v.adds ≡ o → o ≡ None
      by None q = refl
      by (Some f) q = absurd (none-some (sym (old.either f q) ∙ e))

  in_hand-draw : FitsDraw v
      → InHand v.shape (words_after words Draw) (views_after words views id v Draw)
  unfolding with_word
  in_hand-draw fits =
      let x : ℕ = ticket_in words in
      let u : SeatView = after v Draw x in
      let t : ticket_in (words_after words Draw) ≡ x + 1
      = get_or-set_same words 1 (x + 1) 0 (omega (arith, b.state.long)) in
      let a : u.adds ≡ v.adds = drew_same (λ z. z.adds) v x refl refl in
      let h : u.held ≡ v.held = drew_same (λ z. z.held) v x refl refl in
      let w : u.walks ≡ v.walks = drew_same (λ z. z.walks) v x refl refl in
      let kn : u.known ≡ v.known = drew_same (λ z. z.known) v x refl refl in
      let sh : u.shape ≡ v.shape = drew_same (λ z. z.shape) v x refl refl in
      let wd : u.width ≡ v.width = drew_same (λ z. z.width) v x refl refl in
      let idle = old.idle fits.ticket in
      let hand : (k : ℕ) → u.ticket ≡ Some k → (k ≡ x) × (x < v.shape.knobs.playouts)
      × (u.ended ≡ 0) = λ k e. ⊎_elim
      (λ (c : (x < v.shape.knobs.playouts) × (drew v x ≡ record v { ticket = Some x })).
      (some-eq (sym e ∙ ap (λ (z : SeatView). z.ticket) c.1), c.0, ap (λ (z : SeatView). z.ended) c.1 ∙ fits.ended))
      (λ (c : (v.shape.knobs.playouts ≤ x) × (drew v x ≡ record v { ended = 1 })). absurd (none-some (sym (ap (λ (z : SeatView). z.ticket) c.1 ∙ fits.ticket)
      ∙ e)))
      (drew_cases v x) in
      make u (words_after words Draw) (omega (arith, t)) record {
        ticket = λ k e. let q = hand k e in (omega (arith, t, q.0), omega (arith, q.0, q.1));
        walks = λ q c. let l = old.walks q (subst (λ (ws : List Walked). Contains ws q) w c) in
            (omega (arith, t, l.0), l.1);
        one = λ k e. (wd ∙ fits.width, (hand k e).2);
        idle = λ e. (a ∙ idle.0, h ∙ idle.1);
        either = λ f e. h ∙ idle.1;
        flight = λ k f e q. absurd (none-some (sym (a ∙ idle.0) ∙ q));
        leaves = λ q c. (λ i. is_node (root_at (sh i)) (kn i) (leaf_in q.value))
            ∙ old.leaves q (subst (λ (ws : List Walked). Contains ws q) w c);
      }

  in_hand-look : (i : ℕ) → FitsStep v (Look i)
      → Knows (root_at v.shape) bs (looked v i (slice_index words i)).known
      → InHand v.shape (words_after words (Look i)) (views_after words views id v (Look i))
  unfolding with_word looked
  in_hand-look i fits kn =
      let x : ℕ = slice_index words i in
      let u : SeatView = after v (Look i) x in
      let order = b.state.linked.blocks.order in
      make u (words_after words (Look i)) (high-ticket (Look i) tt fits)
      (ticket-more v.shape words (words_after words (Look i)) u (high-ticket (Look i) tt fits)
      (same u refl refl refl refl refl old.idle old.either
      (λ k f t a. let fly = old.flight k f t a in
      let known : is_known u f.leaf ≡ true = known-more v (node_of_link i) x f.leaf fly.known in
      let adds : walk_adds v.shape u.known k f.leaf ≡ walk_adds v.shape v.known k f.leaf
      = within-adds v.shape bs u.known k f.leaf order kn known
      ∙ sym (within-adds v.shape bs v.known k f.leaf order (b.state.known id v b.at) fly.known) in
      record { known = known; below = fly.below; made = (fly.made.0, omega (arith, fly.made.1, ap length adds)) })
      (λ y n. known-more v (node_of_link i) x y n)))

  in_hand-claim : (size : ℕ) → FitsClaim v size → InHand v.shape (words_after words (Claim size))
      (views_after words views id v (Claim size))
  unfolding with_word
  in_hand-claim size fits =
      let x : ℕ = slice_index words 0 in
      let u : SeatView = after v (Claim size) x in
      let ws : List ℕ = words_after words (Claim size) in
      let l : ticket_in words ≤ ticket_in ws
      = omega (arith, get_or-set_other words 0 1 (x + size) 0 (λ e. omega (arith, e))) in
      let t : u.ticket ≡ v.ticket = claimed_same (λ z. z.ticket) v size x refl refl in
      let a : u.adds ≡ v.adds = claimed_same (λ z. z.adds) v size x refl refl in
      let sh : u.shape ≡ v.shape = claimed_same (λ z. z.shape) v size x refl refl in
      let kn : u.known ≡ v.known = claimed_same (λ z. z.known) v size x refl refl in
      make u ws l (ticket-more v.shape words ws u l (same u sh t
      (claimed_same (λ z. z.walks) v size x refl refl)
      (claimed_same (λ z. z.width) v size x refl refl)
      (claimed_same (λ z. z.ended) v size x refl refl)
      (λ e. absurd (none-some (sym e ∙ (t ∙ fits.ticket))))
      (λ f e. absurd (none-some (sym (a ∙ fits.adds) ∙ e)))
      (λ k f q e. absurd (none-some (sym (a ∙ fits.adds) ∙ e)))
      (λ y n. (λ i. is_node (root_at (sh i)) (kn i) y) ∙ n)))

  in_hand-write : (i value : ℕ) → FitsWrite v i → InHand v.shape (words_after words (Write i value))
      (views_after words views id v (Write i value))
  unfolding with_word wrote
  in_hand-write i value fits =
      let u : SeatView = after v (Write i value) 0 in
      let ws : List ℕ = words_after words (Write i value) in
      let l : ticket_in words ≤ ticket_in ws = high-ticket (Write i value) tt fits in
      let none : v.adds ≡ None = holds-none fits.block fits.held in
      make u ws l (ticket-more v.shape words ws u l (same u refl refl refl refl refl
      (λ e. absurd (none-some (sym (old.idle e).1 ∙ fits.held)))
      (λ f e. absurd (none-some (sym none ∙ e)))
      (λ k f q e. absurd (none-some (sym none ∙ e)))
      (λ y n. n)))

  in_hand-publish : (l c : ℕ) → FitsPublish v l c → InHand v.shape (words_after words (Publish l c))
      (views_after words views id v (Publish l c))
  unfolding with_word published
  in_hand-publish p c fits =
      let x : ℕ = slice_index words p in
      let u : SeatView = after v (Publish p c) x in
      let ws : List ℕ = words_after words (Publish p c) in
      let l : ticket_in words ≤ ticket_in ws = high-ticket (Publish p c) tt fits in
      let none : v.adds ≡ None = holds-none fits.block fits.held in
      make u ws l (ticket-more v.shape words ws u l (same u refl refl refl refl refl
      (λ e. (none, refl))
      (λ f e. refl)
      (λ k f q e. absurd (none-some (sym none ∙ e)))
      (λ y n. known-more v (node_of_link p) (cond (x == 0) c x) y n)))

  -- the walk in flight after an add
  flies : (i : ℕ) (won : Bool) (k : ℕ) (o : Option Flight) → v.ticket ≡ Some k → v.adds ≡ o
      → IsNext v k o (record { word = i; won = won })
      → (is_known v (flight_after i o).leaf ≡ true) × ((flight_after i o).leaf ≢ root_at v.shape)
      × (1 ≤ (flight_after i o).made)
      × ((flight_after i o).made ≤ length (walk_adds v.shape v.known k (flight_after i o).leaf))
  flies i won k None t a next =
      let at : i - 2 ≡ next.0 = omega (arith, next.1) in (
        ap (is_known v) at ∙ next.2.known,
        λ q. next.2.below (sym at ∙ q),
        omega arith,
        omega (
          arith,
          get-length (walk_adds v.shape v.known k next.0) 0 (record { word = i; won = won }) next.3,
          ap (λ (z : ℕ). length (walk_adds v.shape v.known k z)) at,
        ),
      )
  flies i won k (Some f) t a next =
      let fly = old.flight k f t a in
      (fly.known, fly.below, omega arith, omega (arith, get-length (walk_adds v.shape v.known k f.leaf) f.made (record { word = i; won = won }) next))

  in_hand-add : (i : ℕ) (won : Bool) → FitsAdd v (record { word = i; won = won })
      → InHand v.shape (words_after words (Add i won)) (views_after words views id v (Add i won))
  unfolding with_word added_at
  in_hand-add i won fits =
      let u : SeatView = after v (Add i won) 0 in
      let ws : List ℕ = words_after words (Add i won) in
      let l : ticket_in words ≤ ticket_in ws = high-ticket (Add i won) tt fits in
      make (after v (Add i won) (slice_index words i)) ws l
      (ticket-more v.shape words ws (after v (Add i won) (slice_index words i)) l (same (after v (Add i won) (slice_index words i)) refl refl refl refl refl
      (λ e. absurd (none-some (sym e ∙ fits.ticket)))
      (λ f e. fits.held)
      (λ k f q e.
      let g : Flight = flight_after i v.adds in
      let is : g ≡ f = some-eq e in
      let fly = flies i won k v.adds q refl
      (subst (λ (n : ℕ). IsNext v n v.adds (record { word = i; won = won })) (some-eq (sym fits.ticket ∙ q)) fits.next) in
      record {
        known = ap (λ (z : Flight). is_known v z.leaf) (sym is) ∙ fly.0;
        below = λ z. fly.1 (ap (λ (y : Flight). y.leaf) is ∙ z);
        made = (
          omega (arith, fly.2, ap (λ (y : Flight). y.made) is),
          omega (arith, fly.3, ap (λ (y : Flight). y.made) is, ap (λ (y : Flight). length (walk_adds v.shape v.known k y.leaf)) is),
        );
      })
      (λ y n. n)))

  in_hand-note : (k value : ℕ) → FitsNote v k value
      → InHand v.shape (words_after words (Note k value))
      (views_after words views id v (Note k value))
  unfolding with_word noted
  in_hand-note k value fits =
      let u : SeatView = after v (Note k value) 0 in
      let w : Walked = record { number = k; value = value } in
      let ws : List ℕ = words_after words (Note k value) in
      let l : ticket_in words ≤ ticket_in ws
      = omega (arith, get_or-set_other words (2 + k) 1 value 0 (λ e. omega (arith, e))) in
      let leaf : ℕ = fits.flight.leaf in
      let fly = old.flight k fits.flight fits.ticket fits.adds in
      let is : leaf_in value ≡ leaf = ap leaf_in fits.value
      ∙ leaf-recorded leaf (outcome_of v.shape k (node_state v.shape v.known leaf)).winner in
      make u ws l (ticket-more v.shape words ws u l record {
        ticket = λ j e. absurd (none-some e);
        walks = λ q c. ⊎_elim (λ (e : w ≡ q). subst (λ (z : Walked). (z.number < ticket_in words)
            × (z.number < v.shape.knobs.playouts)) e (old.ticket k fits.ticket)) (λ (d : Contains v.walks q). old.walks q d) (contains-cons w q v.walks c);
        one = λ j e. absurd (none-some e);
        idle = λ e. (refl, old.either fits.flight fits.adds);
        either = λ f e. absurd (none-some e);
        flight = λ j f e q. absurd (none-some e);
        leaves = λ q c. ⊎_elim (λ (e : w ≡ q). subst (λ (z : Walked). is_known v (leaf_in z.value) ≡ true) e (ap (is_known v) is
            ∙ fly.known)) (λ (d : Contains v.walks q). old.leaves q d) (contains-cons w q v.walks c);
      })

  in_hand-done : FitsStep v Done
      → InHand v.shape (words_after words Done) (views_after words views id v Done)
  unfolding with_word
  in_hand-done fits =
      let u : SeatView = after v Done (slice_index words 0) in
      let ws : List ℕ = words_after words Done in
      let l : ticket_in words ≤ ticket_in ws = high-ticket Done tt fits in
      make u ws l (ticket-more v.shape words ws u l (same u refl refl refl refl refl old.idle old.either
      (λ k f q e. let fly = old.flight k f q e in record { known = fly.known; below = fly.below; made = fly.made })
      (λ y n. n)))

  pub in_hand-step : (op : Op) → FitsStep v op
      → Knows (root_at v.shape) (blocks_after bs words v op)
      (after v op (answer_of op (slice_index words (word_of op)))).known
      → InHand v.shape (words_after words op) (views_after words views id v op)
  unfolding with_word
  in_hand-step Draw fits kn = in_hand-draw fits
  in_hand-step (Look i) fits kn = in_hand-look i fits kn
  in_hand-step (Claim size) fits kn = in_hand-claim size fits
  in_hand-step (Write i value) fits kn = in_hand-write i value fits
  in_hand-step (Publish l c) fits kn = in_hand-publish l c fits
  in_hand-step (Add i won) fits kn = in_hand-add i won fits
  in_hand-step (Note k value) fits kn = in_hand-note k value fits
  in_hand-step Done fits kn = in_hand-done fits
