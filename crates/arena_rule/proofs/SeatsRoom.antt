-- A split and a join keep Room, and the first views have it.
use Rattle.std.proofs.Common.{◌≡◌, ℕ, ◌+◌, ◌-◌, ◌*◌, ◌<◌, ◌≤◌, Bool, true, false, cond, List, []}
use Rattle.std.proofs.Common.{◌∷◌, ◌++◌, refl, ap, arith}
use Rattle.std.specs.Prelude.{◌==◌}
use Rattle.std.proofs.Math.Nat.{add-mul, mul-le-mul_left}
use Rattle.tree_words.specs.Settings.{Setting, IsSetting}
use Rattle.tree_words.specs.Words.{root_at, next_in}
use Rattle.tree_words.specs.Blocks.{LinkedBlock, In, link_of}
use Rattle.tree_words.specs.Opening.{opening_words, AreOpening}
use Rattle.tree_words.specs.Told.{Knows}
use Rattle.tree_words.proofs.Blocks.GameLaws.{whole-in}
use Rattle.tree_words.proofs.NewBlocks.OpeningLaws.{next-is}
use Rattle.tree_words.proofs.NewBlocks.OpeningTold.{opening-are}
use Rattle.arena_rule.specs.Views.{SeatView, spent_view}
use Rattle.arena_rule.specs.Fits.{CanSplit}
use Rattle.arena_rule.specs.Afters.{kept_part, given_part, joined}
use Rattle.arena_rule.specs.Parts.{full_width}
use Rattle.arena_rule.specs.Bounds.{Room, words_known, words_held, claimed_of}
use Rattle.arena_rule.specs.Rule.{views_split, views_joined}
use Rattle.arena_rule.proofs.Before.{Before, Other, AreFirst, opening_blocks}
use Rattle.arena_rule.proofs.Totals.{total_none, total_split, total_join, each-split, each-join}
use Rattle.arena_rule.proofs.Room.{KnowMore, known-le}
use Rattle.arena_rule.proofs.SeatsNumbers.{ended-idle, fulls}

-- a link that is known over the first of two lists of blocks, or over the second, is known over
-- both
link-first : (ks ls : List LinkedBlock) → KnowMore ks (ks ++ ls)
link-first [] ls x e = refl
link-first (k ∷ ks) ls x e = by (k.parent == x) e (link-first ks ls x)
  where
    by : (t : Bool) → cond t k.start (link_of (ks ++ ls) x) ≡ 0
        → (link_of (ks ++ ls) x ≡ 0 → link_of ks x ≡ 0) → cond t k.start (link_of ks x) ≡ 0
    by true e h = e
    by false e h = h e

link-second : (r : ℕ) (bs ks ls : List LinkedBlock) → Knows r bs ks
    → ((b : LinkedBlock) → In b bs → 0 < b.start) → KnowMore ls (ks ++ ls)
link-second r bs [] ls k low x e = e
link-second r bs (b ∷ ks) ls k low x e = by (b.parent == x) e (link-second r bs ks ls k.2 low x)
  where
    by : (t : Bool) → cond t b.start (link_of (ks ++ ls) x) ≡ 0
        → (link_of (ks ++ ls) x ≡ 0 → link_of ls x ≡ 0) → link_of ls x ≡ 0
    by true q h = absurd (omega (arith, q, low b k.0))
    by false q h = h q

module _ (bs : List LinkedBlock) (words : List ℕ) (views : List SeatView) (id : ℕ) (v : SeatView)
    (b : Before bs words views id v) where
  room : Room v.shape bs words views
  room = b.state.room

  pub room-split : (part : ℕ) → CanSplit v part
      → Room v.shape bs words (views_split views id v part)
  unfolding kept_part
  room-split part can =
      let l : SeatView = kept_part v part in
      let r : SeatView = given_part v part in
      record {
        next = omega (
          arith,
          room.next,
          total_split claimed_of views id v l r b.at,
          total_split full_width views id v l r b.at,
          ap (λ (t : Bool). cond t v.width 0) can.nothing.full,
          ap (λ (t : Bool). cond t (v.width - part) 0) can.nothing.full,
        );
        claimed = each-split
            (λ y. y.claimed ≤ y.width * words_known v.shape bs y + words_held y.held) views id l r
            (λ j y _ e. room.claimed j y e)
            (omega (arith, can.nothing.claimed)) (omega arith);
      }

  pub room-join : (other : ℕ) (w : SeatView) → Other views id v other w
      → Room v.shape bs words (views_joined views id v other w)
  unfolding joined
  room-join other w o =
      let r : ℕ = root_at v.shape in
      let both : SeatView = joined v w in
      let mine : words_held v.held ≡ 0
      = ap words_held
      ((b.state.in_hand id v b.at).idle (ended-idle bs words views id v b id v b.at b.live o.can.left)).1 in
      let theirs : words_held w.held ≡ 0
      = ap words_held
      ((b.state.in_hand other w o.at).idle (ended-idle bs words views id v b other w o.at o.live o.can.right)).1 in
      let left = mul-le-mul_left v.width
      (known-le r v.known (v.known ++ w.known) bs (link-first v.known w.known)) in
      let right = mul-le-mul_left w.width
      (known-le r w.known (v.known ++ w.known) bs (link-second r bs v.known w.known (b.state.known id v b.at) low)) in
      record {
        next = omega (
          arith,
          room.next,
          total_join claimed_of views id other v w both (spent_view v.shape) o.differ b.at o.at,
          total_join full_width views id other v w both (spent_view v.shape) o.differ b.at o.at,
          fulls v.full w.full v.width w.width,
        );
        claimed = each-join
            (λ y. y.claimed ≤ y.width * words_known v.shape bs y + words_held y.held) views id other both (spent_view v.shape) room.claimed
            (omega (
              arith,
              room.claimed id v b.at,
              room.claimed other w o.at,
              mine,
              theirs,
              left,
              right,
              add-mul v.width w.width (words_known v.shape bs both),
            ))
            (omega arith);
      }
    where
      low : (c : LinkedBlock) → In c bs → 0 < c.start
      low c i = let l = (whole-in v.shape (next_in words) bs c b.state.linked.blocks.order b.state.linked.blocks.complete i).inside.0 in omega arith

module _ (s : Setting) (views : List SeatView) (setting : IsSetting s)
    (first : AreFirst s views) where
  pub room-first : Room s (opening_blocks s) (opening_words s) views
  room-first =
      let opening : AreOpening s (opening_words s) = opening-are s setting in
      record {
        next = omega (
          arith,
          next-is s (opening_words s) opening.empties setting opening.set opening.long
              (λ i l d. opening.each i l),
          total_none claimed_of views (λ j v e. (first.each j v e).1.claimed),
          total_none full_width views
              (λ j v e. ap (λ (t : Bool). cond t v.width 0) (first.each j v e).1.full),
        );
        claimed = λ j v e. omega (arith, (first.each j v e).1.claimed);
      }
