-- A split and a join keep Widths, Tickets and InHand, and the opening words have them.
use Rattle.std.proofs.Common.{◌≡◌, ℕ, ◌+◌, ◌-◌, ◌<◌, ◌≤◌, Bool, true, false, cond, List, [], ◌∷◌}
use Rattle.std.proofs.Common.{◌++◌, length, Option, Some, None, refl, sym, ap, ◌∙◌, subst, ⊎_elim}
use Rattle.std.proofs.Common.{arith}
use Rattle.std.specs.Prelude.{◌==◌, ◌&&◌, ◌||◌, slice_index, sum_by, Contains}
use mathlib.Core.Option.{some}
use lib.ListN.{get_elem?}
use Rattle.std.proofs.lemmas.Bool.{or_right, false_from_ne_true, ne_eqb}
use Rattle.std.proofs.lemmas.Bool.Decides.{nat_tests}
use Rattle.tree_words.specs.Settings.{Setting, IsSetting}
use Rattle.tree_words.specs.Words.{root_at, area_at, ticket_in, next_in, leaf_in}
use Rattle.tree_words.specs.Blocks.{LinkedBlock, has_node, is_node, is_header_or_move}
use Rattle.tree_words.specs.Blocks.{header_or_move, block_size, covers}
use Rattle.tree_words.specs.Complete.{allowed_cells}
use Rattle.tree_words.specs.Opening.{opening_words, root_block}
use Rattle.tree_words.proofs.Blocks.BlockLaws.{covers_of}
use Rattle.tree_words.proofs.NewBlocks.Openings.{root-fits}
use Rattle.tree_words.proofs.NewBlocks.OpeningTold.{opening-are}
use Rattle.arena_rule.specs.Views.{SeatView, Walked, HasDrawnNothing, spent_view}
use Rattle.arena_rule.specs.Fits.{CanSplit}
use Rattle.arena_rule.specs.Afters.{kept_part, given_part, joined}
use Rattle.arena_rule.specs.Parts.{HasWidth, Widths, width_of, ended_of, full_width, Tickets}
use Rattle.arena_rule.specs.Parts.{IsRight, times_drawn, value_noted, in_hand, HasInHand, InHand}
use Rattle.arena_rule.specs.Rule.{views_split, views_joined}
use Rattle.arena_rule.proofs.Options.{none-some}
use Rattle.arena_rule.proofs.Before.{Before, Other, AreFirst, opening_blocks}
use Rattle.arena_rule.proofs.Totals.{total_two, total_none, total_split, total_join, each-split}
use Rattle.arena_rule.proofs.Totals.{each-join}
use Rattle.arena_rule.proofs.Numbers.{times_walked, value_walked, walked-append, value-append}
use Rattle.arena_rule.proofs.Numbers.{contains-append, due}
use Rattle.arena_rule.proofs.Within.{shape-of-each}
use Rattle.tree_words.proofs.Blocks.Within.{node-first}

no-walk : (w : Walked) → Contains [] w → ⊥
no-walk w c = let l = c.1 in omega (arith, l)

-- two widths, each counted if its test passes, are at most both, counted if one of the tests passes
pub fulls : (s t : Bool) (a c : ℕ) → cond s a 0 + cond t c 0 ≤ cond (s || t) (a + c) 0
fulls true true a c = omega arith
fulls true false a c = omega arith
fulls false true a c = omega arith
fulls false false a c = omega arith

-- a node of the second of two lists of blocks
pub node-second : (r : ℕ) (ks ls : List LinkedBlock) (x : ℕ) → is_node r ls x ≡ true
    → is_node r (ks ++ ls) x ≡ true
node-second r [] ls x n = n
node-second r (k ∷ ks) ls x n = or_right (has_node k x) (is_node r (ks ++ ls) x)
    (node-second r ks ls x n)

module _ (bs : List LinkedBlock) (words : List ℕ) (views : List SeatView) (id : ℕ) (v : SeatView)
    (b : Before bs words views id v) where
  pub widths-split : (part : ℕ) → CanSplit v part
      → Widths v.shape words (views_split views id v part)
  unfolding kept_part
  widths-split part can =
      let old : Widths v.shape words views = b.state.widths in
      let l : SeatView = kept_part v part in
      let r : SeatView = given_part v part in
      let ended : sum_by ended_of (views_split views id v part) ≡ sum_by ended_of views
      = omega (arith, total_split ended_of views id v l r b.at) in
      let full : sum_by full_width (views_split views id v part) ≡ sum_by full_width views
      = omega (
        arith,
        total_split full_width views id v l r b.at,
        ap (λ (t : Bool). cond t v.width 0) can.nothing.full,
        ap (λ (t : Bool). cond t (v.width - part) 0) can.nothing.full,
      ) in
      record {
        each = each-split (HasWidth v.shape) views id l r (λ j x _ e. old.each j x e)
            record { shape = refl; ended = omega (arith, can.nothing.ended); spent = λ z. absurd (omega (arith, can.kept, z)) }
            record { shape = refl; ended = omega arith; spent = λ z. absurd (omega (arith, can.given, z)) };
        sum = omega (arith, total_split width_of views id v l r b.at, old.sum, can.kept);
        ticket = omega (arith, ended, old.ticket);
        ended = λ h. old.ended (omega (arith, h, ended));
        next = omega (arith, full, old.next);
        full = λ h. old.full (omega (arith, h, full));
      }

  pub tickets-split : (part : ℕ) → CanSplit v part
      → Tickets v.shape bs words (views_split views id v part)
  unfolding kept_part
  tickets-split part can =
      let old : Tickets v.shape bs words views = b.state.tickets in
      let l : SeatView = kept_part v part in
      let r : SeatView = given_part v part in
      record {
        once = λ k. omega (arith, total_split (times_drawn k) views id v l r b.at, old.once k);
        records = λ k h. old.records k h
            ∙ omega (arith, total_split (value_noted k) views id v l r b.at);
        right = each-split
            (λ y. (q : Walked) → Contains y.walks q → IsRight v.shape bs q) views id l r
            (λ j y _ e. old.right j y e)
            (λ q c. old.right id v b.at q c) (λ q c. absurd (no-walk q c));
      }

  pub in_hand-split : (part : ℕ) → CanSplit v part
      → InHand v.shape words (views_split views id v part)
  unfolding kept_part
  in_hand-split part can =
      let old : HasInHand v.shape words v = b.state.in_hand id v b.at in
      let n : HasDrawnNothing v = can.nothing in
      each-split (HasInHand v.shape words) views id (kept_part v part) (given_part v part)
      (λ j x _ e. b.state.in_hand j x e)
      record {
        ticket = old.ticket;
        walks = old.walks;
        one = λ k e. absurd (none-some (sym n.ticket ∙ e));
        idle = old.idle;
        either = old.either;
        flight = λ k f e q. absurd (none-some (sym n.ticket ∙ e));
        leaves = old.leaves;
      }
      record {
        ticket = λ k e. absurd (none-some e);
        walks = λ w c. absurd (no-walk w c);
        one = λ k e. absurd (none-some e);
        idle = λ e. (refl, refl);
        either = λ f e. refl;
        flight = λ k f e q. absurd (none-some e);
        leaves = λ w c. absurd (no-walk w c);
      }

  -- a view all of whose workers have ended has no number in hand
  pub ended-idle : (j : ℕ) (u : SeatView) → get_elem? views j ≡ some u → 0 < u.width
      → u.ended ≡ u.width → u.ticket ≡ None
  ended-idle j u e live end = by u.ticket refl
    where
      by : (o : Option ℕ) → u.ticket ≡ o → o ≡ None
      by None q = refl
      by (Some k) q
          = absurd (let one = (b.state.in_hand j u e).one k q in omega (arith, one.0, one.1, end))

  -- a sum over the views if a view is joined with another
  joined-sum : (f : SeatView → ℕ) (other : ℕ) (w : SeatView) → Other views id v other w
      → f (joined v w) ≡ f v + f w → f (spent_view v.shape) ≡ 0
      → sum_by f (views_joined views id v other w) ≡ sum_by f views
  joined-sum f other w o e z
      = omega (arith, total_join f views id other v w (joined v w) (spent_view v.shape) o.differ b.at o.at, e, z)

  pub widths-join : (other : ℕ) (w : SeatView) → Other views id v other w
      → Widths v.shape words (views_joined views id v other w)
  unfolding joined
  widths-join other w o =
      let old : Widths v.shape words views = b.state.widths in
      let ended : sum_by ended_of (views_joined views id v other w) ≡ sum_by ended_of views
      = joined-sum ended_of other w o refl refl in
      let total = total_join full_width views id other v w (joined v w)
      (spent_view v.shape) o.differ b.at o.at in
      let two = total_two full_width views id other v w (λ q. o.differ (sym q)) b.at o.at in
      let wide = fulls v.full w.full v.width w.width in
      record {
        each = each-join (HasWidth v.shape) views id other (joined v w) (spent_view v.shape)
            (λ j x e. old.each j x e)
            record {
              shape = refl;
              ended = omega (arith, (old.each id v b.at).ended, (old.each other w o.at).ended);
              spent =
                  λ z. absurd (omega (arith, z, b.live));
            }
            record { shape = refl; ended = omega arith; spent = λ z. refl };
        sum = joined-sum width_of other w o refl refl ∙ old.sum;
        ticket = omega (arith, ended, old.ticket);
        ended = λ h. old.ended (omega (arith, h, ended));
        next = omega (arith, total, wide, old.next);
        full = λ h. old.full
            (some-full v.full w.full v.width w.width (sum_by full_width views) (sum_by full_width (views_joined views id v other w)) b.live o.live total two
            h);
      }
    where
      some-full : (s t : Bool) (a c n m : ℕ) → 0 < a → 0 < c
          → m + cond s a 0 + cond t c 0 ≡ n + cond (s || t) (a + c) 0 + 0
          → cond s a 0 + cond t c 0 ≤ n → 0 < m → 0 < n
      some-full true t a c n m p q e l h = omega arith
      some-full false true a c n m p q e l h = omega arith
      some-full false false a c n m p q e l h = omega arith

  pub tickets-join : (other : ℕ) (w : SeatView) → Other views id v other w
      → Tickets v.shape bs words (views_joined views id v other w)
  unfolding joined
  tickets-join other w o =
      let old : Tickets v.shape bs words views = b.state.tickets in
      let mine : v.ticket ≡ None = ended-idle id v b.at b.live o.can.left in
      let theirs : w.ticket ≡ None = ended-idle other w o.at o.live o.can.right in
      record {
        once = λ k. joined-sum (times_drawn k) other w o
            (omega (arith, walked-append k v.walks w.walks, ap (in_hand k) mine, ap (in_hand k) theirs)) refl ∙ old.once k;
        records = λ k h. old.records k h
            ∙ sym (joined-sum (value_noted k) other w o (value-append k v.walks w.walks) refl);
        right = each-join
            (λ y. (q : Walked) → Contains y.walks q → IsRight v.shape bs q) views id other
            (joined v w) (spent_view v.shape) (λ j y e. old.right j y e)
            (λ q c. ⊎_elim (λ (h : Contains v.walks q). old.right id v b.at q h) (λ (h : Contains w.walks q). old.right other w o.at q h)
            (contains-append q v.walks w.walks c))
            (λ q c. absurd (no-walk q c));
      }

  pub in_hand-join : (other : ℕ) (w : SeatView) → Other views id v other w
      → InHand v.shape words (views_joined views id v other w)
  unfolding joined
  in_hand-join other w o =
      let mine : HasInHand v.shape words v = b.state.in_hand id v b.at in
      let theirs : HasInHand v.shape words w = b.state.in_hand other w o.at in
      each-join (HasInHand v.shape words) views id other (joined v w) (spent_view v.shape)
      (λ j x e. b.state.in_hand j x e)
      record {
        ticket = λ k e. absurd (none-some e);
        walks = λ q c. ⊎_elim (λ (h : Contains v.walks q). mine.walks q h)
            (λ (h : Contains w.walks q). theirs.walks q h) (contains-append q v.walks w.walks c);
        one = λ k e. absurd (none-some e);
        idle = λ e. (refl, refl);
        either = λ f e. refl;
        flight = λ k f e q. absurd (none-some e);
        leaves = λ q c. ⊎_elim
            (λ (h : Contains v.walks q). node-first (root_at v.shape) v.known w.known (leaf_in q.value) (mine.leaves q h))
            (λ (h : Contains w.walks q). node-second (root_at v.shape) v.known w.known (leaf_in q.value)
            (subst (λ (s : Setting). is_node (root_at s) w.known (leaf_in q.value)
            ≡ true) (shape-of-each bs words views id v b other w o.at) (theirs.leaves q h)))
            (contains-append q v.walks w.walks c);
      }
      record {
        ticket = λ k e. absurd (none-some e);
        walks = λ q c. absurd (no-walk q c);
        one = λ k e. absurd (none-some e);
        idle = λ e. (refl, refl);
        either = λ f e. refl;
        flight = λ k f e q. absurd (none-some e);
        leaves = λ q c. absurd (no-walk q c);
      }

-- a word between NEXT and the root is 0 at the opening
opening-low : (s : Setting) (i : ℕ) → IsSetting s → 0 < i → i < root_at s
    → slice_index (opening_words s) i ≡ 0
opening-low s i h p l =
    let a = opening-are s h in
    a.each i (omega arith) ∙ by (i == 0) (i == root_at s + 1) (covers i (root_block s a.empties))
    (ne_eqb i 0 (λ e. omega (arith, e))) (ne_eqb i (root_at s + 1) (λ e. omega (arith, e)))
    (false_from_ne_true (covers i (root_block s a.empties)) (λ t. out t))
    (is_header_or_move (i - area_at s)) (area_at s + block_size (length (allowed_cells s)))
    (header_or_move (root_block s a.empties) (i - area_at s))
  where
    out : covers i (root_block s (opening-are s h).empties) ≡ true → ⊥
    out t = let c = covers_of i (root_block s (opening-are s h).empties) t in omega (arith, c.0)

    by : (p q r : Bool) → p ≡ false → q ≡ false → r ≡ false → (t : Bool) (x y : ℕ)
        → cond p x (cond q (area_at s) (cond (r && t) y 0)) ≡ 0
    by p q r e f g t x y = (λ i. cond (e i) x (cond (f i) (area_at s) (cond (g i && t) y 0)))

opening-next : (s : Setting) → IsSetting s → next_in (opening_words s) ≡ area_at s + block_size
    (length (allowed_cells s))
opening-next s h = (opening-are s h).each 0 (omega arith)

module _ (s : Setting) (views : List SeatView) (setting : IsSetting s)
    (first : AreFirst s views) where
  ticket : ticket_in (opening_words s) ≡ 0
  ticket = opening-low s 1 setting (omega arith) (omega (arith, setting.ranges.playouts.0))

  ended : sum_by ended_of views ≡ 0
  ended = total_none ended_of views (λ j v e. (first.each j v e).1.ended)

  full : sum_by full_width views ≡ 0
  full = total_none full_width views
      (λ j v e. ap (λ (t : Bool). cond t v.width 0) (first.each j v e).1.full)

  pub widths-first : Widths s (opening_words s) views
  widths-first = record {
    each = λ j v e. let f = first.each j v e in
        record { shape = f.0; ended = omega (arith, f.1.ended); spent = λ z. absurd (omega (arith, z, f.4)) };
    sum = first.sum;
    ticket = omega (arith, ticket);
    ended = λ h. absurd (omega (arith, h, ended));
    next = omega (arith, opening-next s setting, root-fits s setting);
    full = λ h. absurd (omega (arith, h, full));
  }

  pub tickets-first : Tickets s (opening_blocks s) (opening_words s) views
  tickets-first = record {
    once = λ k. total_none (times_drawn k) views
        (λ j v e. let f = first.each j v e in omega (arith, ap (in_hand k) f.1.ticket, ap (times_walked k) f.1.walks))
        ∙ sym (ap (λ (z : ℕ). due k z s.knobs.playouts) ticket ∙ nothing k s.knobs.playouts);
    records = λ k l. opening-low s (2 + k) setting (omega arith) (omega (arith, l))
        ∙ sym (total_none (value_noted k) views (λ j v e. ap (value_walked k) (first.each j v e).1.walks));
    right = λ j v e q c. absurd
        (no-walk q (subst (λ (ws : List Walked). Contains ws q) (first.each j v e).1.walks c));
  }
    where
      nothing : (k n : ℕ) → due k 0 n ≡ 0
      nothing k n = grind (arith, nat_tests)

  pub in_hand-first : InHand s (opening_words s) views
  in_hand-first j v e =
      let f = first.each j v e in
      record {
        ticket = λ k t. absurd (none-some (sym f.1.ticket ∙ t));
        walks = λ q c. absurd (no-walk q (subst (λ (ws : List Walked). Contains ws q) f.1.walks c));
        one = λ k t. absurd (none-some (sym f.1.ticket ∙ t));
        idle = λ t. (f.1.adds, f.1.held);
        either = λ g t. f.1.held;
        flight = λ k g t q. absurd (none-some (sym f.1.ticket ∙ t));
        leaves = λ q c. absurd
            (no-walk q (subst (λ (ws : List Walked). Contains ws q) f.1.walks c));
      }
