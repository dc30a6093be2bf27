-- A view may have loaded any value at a seen word: of the loads the rule reads the tallies alone.
use Rattle.std.proofs.Common.{◌≡◌, ◌≢◌, ◌⊎◌, ℕ, ◌+◌, ◌-◌, ◌*◌, ◌≤◌, Bool, true, false, cond}
use Rattle.std.proofs.Common.{List, ◌∷◌, set, Some, refl, sym, ap, ◌∙◌, ⊎_elim, inl}
use Rattle.std.proofs.Common.{inr, arith}
use Rattle.std.specs.Prelude.{◌==◌, sum_by, Contains}
use Rattle.std.proofs.lemmas.Bool.{or_cases, eqb-true}
use mathlib.Core.Option.{some}
use lib.ListN.{get_elem?}
use Rattle.atomic_table.proofs.Lists.{at_set}
use Rattle.tree_words.specs.Words.{root_at}
use Rattle.tree_words.specs.Blocks.{LinkedBlock, is_node}
use Rattle.tree_words.specs.Told.{Knows}
use Rattle.tree_words.specs.declared.layout.TheConstants.{TALLY_WORD, SEEN_WORD}
use Rattle.tree_words.proofs.Blocks.NodeLaws.{nodes-apart}
use Rattle.arena_rule.specs.Views.{SeatView, HeldBlock, Walked, WordLoad}
use Rattle.arena_rule.specs.Lookups.{is_known, load_of, walks_through, walks_at}
use Rattle.arena_rule.specs.Afters.{is_count, loads_after}
use Rattle.arena_rule.specs.Parts.{HasWidth, Widths, HasWritten}
use Rattle.arena_rule.specs.Parts.{amount_counted, times_drawn, value_noted, IsRight}
use Rattle.arena_rule.specs.Parts.{HasInHand, Sole, width_of, ended_of, full_width, held_at}
use Rattle.arena_rule.specs.Bounds.{HasLoaded, words_known, words_held}
use Rattle.arena_rule.specs.Bounds.{claimed_of}
use Rattle.arena_rule.specs.Rule.{IsState}
use Rattle.arena_rule.proofs.Before.{Before}
use Rattle.arena_rule.proofs.Totals.{total_set, each-set}
use Rattle.arena_rule.proofs.Within.{known-node}

module _ (bs : List LinkedBlock) (words : List ℕ) (views : List SeatView) (id : ℕ) (v : SeatView)
    (b : Before bs words views id v) where
  -- the seat's view with these loads
  module _ (ls : List WordLoad) (h : HasLoaded words (record v { loads = ls })) where
    abbrev u : SeatView
    u = record v { loads = ls }

    kept : (f : SeatView → ℕ) → f u ≡ f v → sum_by f (set views id u) ≡ sum_by f views
    kept f e = omega (arith, total_set f views id v u b.at, e)

    widths : Widths v.shape words (set views id u)
    widths =
        let old : Widths v.shape words views = b.state.widths in
        let mine = old.each id v b.at in
        let ended = kept ended_of refl in
        let full = kept full_width refl in
        record {
          each = each-set (HasWidth v.shape) views id u (λ j w _ e. old.each j w e)
              record { shape = mine.shape; ended = mine.ended; spent = λ z. absurd (omega (arith, z, b.live)) };
          sum = omega (arith, kept width_of refl, old.sum);
          ticket = omega (arith, ended, old.ticket);
          ended = λ l. old.ended (omega (arith, l, ended));
          next = omega (arith, full, old.next);
          full = λ l. old.full (omega (arith, l, full));
        }

    in_hand : HasInHand v.shape words u
    in_hand =
        let old : HasInHand v.shape words v = b.state.in_hand id v b.at in
        record {
          ticket = old.ticket;
          walks = old.walks;
          one = old.one;
          idle = old.idle;
          either = old.either;
          flight = λ k f t a. let fly = old.flight k f t a in
              record { known = fly.known; below = fly.below; made = fly.made };
          leaves = old.leaves;
        }

    sole : Sole words (set views id u)
    sole i w copy e q = ⊎_elim
        (λ (t : (i ≡ id) × (u ≡ w)).
        let was = b.state.sole id v copy b.at (ap (λ (z : SeatView). z.whole) t.1 ∙ q) in (
          was.0,
          λ j other f ne. ⊎_elim
              (λ (s : (j ≡ id) × (u ≡ other)). absurd (ne (s.0 ∙ sym t.0)))
              (λ (s : (j ≢ id) × (get_elem? views j ≡ some other)). was.1 j other s.1 s.0)
              (at_set views id j u other f),
        ))
        (λ (t : (i ≢ id) × (get_elem? views i ≡ some w)).
        let zero : v.width ≡ 0 = (b.state.sole i w copy t.1 q).1 id v b.at (λ z. t.0 (sym z)) in
        absurd (omega (arith, zero, b.live)))
        (at_set views id i u w e)

    pub state-loads : IsState v.shape bs words (set views id u)
    state-loads =
        let st = b.state in
        record {
          setting = st.setting;
          long = st.long;
          widths = widths;
          fresh = st.fresh;
          apart = λ i. omega (arith, kept (held_at i) refl, st.apart i);
          linked = st.linked;
          held = each-set (λ (w : SeatView). (g : HeldBlock) → w.held ≡ Some g → HasWritten words g) views id u
              (λ j w _ e. st.held j w e) (st.held id v b.at);
          known = each-set (λ (w : SeatView). Knows (root_at v.shape) bs w.known) views id u
              (λ j w _ e. st.known j w e) (st.known id v b.at);
          sums = record {
            tallies = λ x n. st.sums.tallies x n
                ∙ sym (kept (amount_counted v.shape bs (x + TALLY_WORD)) refl);
            seen = λ x n ne. st.sums.seen x n ne
                ∙ sym (kept (amount_counted v.shape bs (x + SEEN_WORD)) refl);
            root = st.sums.root;
          };
          tickets = record {
            once = λ k. kept (times_drawn k) refl ∙ st.tickets.once k;
            records = λ k l. st.tickets.records k l ∙ sym (kept (value_noted k) refl);
            right = each-set (λ x. (q : Walked) → Contains x.walks q → IsRight v.shape bs q) views id u
                (λ j x _ e. st.tickets.right j x e) (st.tickets.right id v b.at);
          };
          in_hand = each-set (HasInHand v.shape words) views id u (λ j w _ e. st.in_hand j w e) in_hand;
          sole = sole;
          loaded = each-set (HasLoaded words) views id u (λ j w _ e. st.loaded j w e) h;
          first_visits = λ d x y i hx hy z.
              each-set (λ w. walks_through w x ≤ w.width) views id u
              (λ j w _ e. st.first_visits d x y i hx hy z j w e)
              (st.first_visits d x y i hx hy z id v b.at);
          leaf_bound = λ room x c n empty.
              each-set (λ w. walks_at w x ≤ w.width * v.shape.knobs.expand) views id u
              (λ j w _ e. st.leaf_bound room x c n empty j w e)
              (st.leaf_bound room x c n empty id v b.at);
          room = record {
            next = omega (arith, st.room.next, kept claimed_of refl, kept full_width refl);
            claimed = each-set
                (λ w. w.claimed ≤ w.width * words_known v.shape bs w + words_held w.held) views id u
                (λ j w _ e. st.room.claimed j w e) (st.room.claimed id v b.at);
          };
        }

  -- a load of any value at a seen word of a node
  seen-loaded : (i x node : ℕ) → is_node (root_at v.shape) bs node ≡ true → i ≡ node + SEEN_WORD
      → HasLoaded words (record v { loads = loads_after v i x })
  unfolding loads_after
  seen-loaded i x node n at = by (is_count v i) refl
    where
      old : HasLoaded words v
      old = b.state.loaded id v b.at

      load : WordLoad
      load = record { word = i; value = x }

      -- the new load is found at its own word alone
      found : (t : Bool) (w m : ℕ) → (i == w) ≡ t
          → cond t (Some x) (load_of v.loads w) ≡ Some m
          → (i ≡ w) ⊎ (load_of v.loads w ≡ Some m)
      found true w m t e = inl (eqb-true i w t)
      found false w m t e = inr e

      -- which is no tally of a known node
      no-tally : (y : ℕ) → is_known v y ≡ true → i ≡ y + TALLY_WORD → ⊥
      no-tally y k e =
          let q : node ≡ y = nodes-apart (root_at v.shape) bs node y 3 2
          b.state.linked.blocks.order n (known-node bs words views id v b id v y b.at k)
          (omega arith) (omega arith) (sym at ∙ e) in
          omega (arith, q, at, e)

      by : (t : Bool) → is_count v i ≡ t
          → HasLoaded words (record v { loads = cond t (load ∷ v.loads) v.loads })
      by true t = record {
        counts = λ w m e. ⊎_elim
            (λ (q : i ≡ w). ⊎_elim
            (λ (k : is_known v (i - TALLY_WORD) ≡ true). (i - TALLY_WORD, k, inl (omega (arith, q, at))))
            (λ (k : is_known v (i - SEEN_WORD) ≡ true). (i - SEEN_WORD, k, inr (omega (arith, q, at))))
            (or_cases (is_known v (i - TALLY_WORD)) (is_known v (i - SEEN_WORD)) t))
            (λ (q : load_of v.loads w ≡ Some m). old.counts w m q)
            (found (i == w) w m refl e);
        less = λ y m k e. ⊎_elim
            (λ (q : i ≡ y + TALLY_WORD). absurd (no-tally y k q))
            (λ (q : load_of v.loads (y + TALLY_WORD) ≡ Some m). old.less y m k q)
            (found (i == y + TALLY_WORD) (y + TALLY_WORD) m refl e);
        own = λ y m k e. ⊎_elim
            (λ (q : i ≡ y + TALLY_WORD). absurd (no-tally y k q))
            (λ (q : load_of v.loads (y + TALLY_WORD) ≡ Some m). old.own y m k q)
            (found (i == y + TALLY_WORD) (y + TALLY_WORD) m refl e);
      }
      by false t = record { counts = old.counts; less = old.less; own = old.own }

  pub state-reloaded : (i x node : ℕ) → is_node (root_at v.shape) bs node ≡ true
      → i ≡ node + SEEN_WORD
      → IsState v.shape bs words (set views id (record v { loads = loads_after v i x }))
  state-reloaded i x node n at = state-loads (loads_after v i x) (seen-loaded i x node n at)
