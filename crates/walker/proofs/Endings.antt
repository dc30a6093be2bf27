-- Done comes exactly after a Draw that gave at least N.
use Rattle.std.proofs.Common.{◌≡◌, ◌≢◌, ◌⊎◌, ℕ, ◌≤◌, ◌<◌, List, [], ◌∷◌, refl, sym, ap, ◌∙◌, subst}
use Rattle.std.proofs.Common.{arith, ⊎_elim, inl, inr}
use Rattle.std.proofs.lemmas.Bool.{cases_lt}
use Rattle.tree_words.specs.Sequence.{size_below}
use Rattle.tree_words.specs.declared.steps.Op.TheVariants.{Draw, Look, Done}
use Rattle.arena_rule.specs.Views.{SeatView}
use Rattle.arena_rule.specs.Adds.{CountAdd}
use Rattle.arena_rule.specs.Answers.{MayAnswer}
use Rattle.arena_rule.specs.Afters.{after, looked, wrote, published, added_at, noted, with_word}
use Rattle.arena_rule.proofs.Changes.{claimed_same}
use Rattle.walker.specs.declared.stages.Stage.{Stage}
use Rattle.walker.specs.declared.stages.Stage.TheVariants.{Drawing, Rooting, Linking, Heading}
use Rattle.walker.specs.declared.stages.Stage.TheVariants.{Scanning, Claiming, Writing, Publishing}
use Rattle.walker.specs.declared.stages.Stage.TheVariants.{Tallying, Seeing, Noting, Ended}
use Rattle.walker.specs.declared.machine.Walker.{Walker}
use Rattle.walker.specs.Climbs.{add_op}
use Rattle.walker.specs.Machine.{state_in, op_at, op_of, next_at, next, drawn}
use Rattle.walker.specs.Belongs.{Belongs, Stands, AtEnd}
use Rattle.walker.proofs.Cases.{drawn-begins, drawn-ends}
use Rattle.walker.proofs.Keeps.{keeps}

done-add : (climb : List CountAdd) → climb ≢ [] → add_op climb ≡ Done → ⊥
done-add [] ne e = ne refl
done-add (a ∷ climb) ne e = cc

draw-add : (climb : List CountAdd) → add_op climb ≡ Draw → ⊥
draw-add [] e = cc
draw-add (a ∷ climb) e = cc

-- only if a walker has ended its next step is Done
done-at : (w : Walker) (v : SeatView) (t : Stage) → Stands t w v → op_at t w ≡ Done → t ≡ Ended
done-at w v Drawing a e = absurd (cc)
done-at w v Rooting a e = absurd (cc)
done-at w v Linking a e = absurd (cc)
done-at w v Heading a e = absurd (cc)
done-at w v Scanning a e = absurd (cc)
done-at w v Claiming a e = absurd (cc)
done-at w v Writing a e = absurd (cc)
done-at w v Publishing a e = absurd (cc)
done-at w v Tallying a e = absurd (cc)
done-at w v Seeing a e = absurd (done-add w.climb a.some e)
done-at w v Noting a e = absurd (cc)
done-at w v Ended a e = refl

-- only at a draw it is Draw
pub draw-at : (w : Walker) (t : Stage) → op_at t w ≡ Draw → t ≡ Drawing
draw-at w Drawing e = refl
draw-at w Rooting e = absurd (cc)
draw-at w Linking e = absurd (cc)
draw-at w Heading e = absurd (cc)
draw-at w Scanning e = absurd (cc)
draw-at w Claiming e = absurd (cc)
draw-at w Writing e = absurd (cc)
draw-at w Publishing e = absurd (cc)
draw-at w Tallying e = absurd (cc)
draw-at w Seeing e = absurd (draw-add w.climb e)
draw-at w Noting e = absurd (cc)
draw-at w Ended e = absurd (cc)

-- an add changes nothing of that
add-ended : (climb : List CountAdd) (v : SeatView) (x : ℕ)
    → (after v (add_op climb) x).ended ≡ v.ended
unfolding with_word added_at
add-ended [] v x = refl
add-ended (a ∷ climb) v x = refl

module _ (w : Walker) (v : SeatView) (b : Belongs w v) (x : ℕ) (may : MayAnswer v (op_of w) x) where
  -- a worker that has not ended ends by a draw alone
  no-end : (t : Stage) → op_of (next w x) ≡ Done → w.stage ≡ t → v.ended ≡ 0
      → (after v (op_at t w) x).ended ≡ v.ended → ⊥
  no-end t e s z same =
      let b2 = keeps w v b x may in
      let stage : (next w x).stage ≡ Ended
      = done-at (next w x) (after v (op_of w) x) (next w x).stage b2.stands e in
      let end : AtEnd (next w x) (after v (op_of w) x)
      = subst (λ (q : Stage). Stands q (next w x) (after v (op_of w) x)) stage b2.stands in
      let one : (after v (op_at t w) x).ended ≡ 1
      = ap (λ (q : Stage). (after v (op_at q w) x).ended) (sym s) ∙ end.ended in
      omega (arith, one, same, z)

  abbrev Ends : Type 0
  Ends = (op_of w ≡ Done) ⊎ ((op_of w ≡ Draw) × (w.shape.knobs.playouts ≤ x))

  drawn-less : x < w.shape.knobs.playouts → op_of (drawn w x) ≡ Done → ⊥
  drawn-less l e = no-look (sym (ap op_of (drawn-begins w x l)) ∙ e)
    where
      no-look : {n : ℕ} → Look n ≡ Done → ⊥
      no-look e = cc

  ends-at : (t : Stage) → w.stage ≡ t → Stands t w v → op_of (next w x) ≡ Done → Ends
  unfolding with_word looked wrote published added_at noted
  ends-at Drawing s a e = ⊎_elim
      (λ (l : x < w.shape.knobs.playouts). absurd (drawn-less l (ap op_of (sym (ap (λ (t : Stage). next_at t w x) s)) ∙ e)))
      (λ (l : w.shape.knobs.playouts ≤ x). inr (ap (λ (t : Stage). op_at t w) s, l))
      (cases_lt x w.shape.knobs.playouts)
  ends-at Rooting s a e = absurd (no-end Rooting e s a.hand.ended refl)
  ends-at Linking s a e = absurd (no-end Linking e s a.down.ended refl)
  ends-at Heading s a e = absurd (no-end Heading e s a.down.ended refl)
  ends-at Scanning s a e = absurd (no-end Scanning e s a.down.ended refl)
  ends-at Claiming s a e
      = absurd (no-end Claiming e s a.may.down.ended (claimed_same (λ z. z.ended) v (size_below (state_in w)) x refl refl))
  ends-at Writing s a e = absurd (no-end Writing e s a.may.down.ended refl)
  ends-at Publishing s a e = absurd (no-end Publishing e s a.may.down.ended refl)
  ends-at Tallying s a e = absurd (no-end Tallying e s a.climbs.up.hand.ended refl)
  ends-at Seeing s a e = absurd (no-end Seeing e s a.climbs.up.hand.ended (add-ended w.climb v x))
  ends-at Noting s a e = absurd (no-end Noting e s a.up.hand.ended refl)
  ends-at Ended s a e = inl (ap (λ (t : Stage). op_at t w) s)

  pub ends : op_of (next w x) ≡ Done → Ends
  ends e = ends-at w.stage refl b.stands e

  pub ended : Ends → op_of (next w x) ≡ Done
  ended h = ⊎_elim
      (λ (e : op_of w ≡ Done). ap op_of (ap (λ (t : Stage). next_at t w x) (done-at w v w.stage b.stands e)) ∙ e)
      (λ (q : (op_of w ≡ Draw) × (w.shape.knobs.playouts ≤ x)).
      ap op_of (ap (λ (t : Stage). next_at t w x) (draw-at w w.stage q.0) ∙ drawn-ends w x q.1))
      h
