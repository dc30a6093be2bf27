-- After each answer that may be given Belongs holds again.
use Rattle.std.proofs.Common.{◌≡◌, ℕ, refl, sym, subst}
use Rattle.tree_words.specs.declared.steps.Op.TheVariants.{Done}
use Rattle.arena_rule.specs.Views.{SeatView}
use Rattle.arena_rule.specs.Answers.{MayAnswer}
use Rattle.arena_rule.specs.Afters.{after, with_word}
use Rattle.arena_rule.specs.IsView.{IsView}
use Rattle.arena_rule.proofs.ViewStays.{view-stays}
use Rattle.walker.specs.declared.stages.Stage.{Stage}
use Rattle.walker.specs.declared.stages.Stage.TheVariants.{Drawing, Rooting, Linking, Heading}
use Rattle.walker.specs.declared.stages.Stage.TheVariants.{Scanning, Claiming, Writing, Publishing}
use Rattle.walker.specs.declared.stages.Stage.TheVariants.{Tallying, Seeing, Noting, Ended}
use Rattle.walker.specs.declared.machine.Walker.{Walker}
use Rattle.walker.specs.Machine.{op_at, op_of, next_at, next}
use Rattle.walker.specs.Belongs.{Belongs, Stands, AtEnd}
use Rattle.walker.proofs.Fitting.{fits-at}
use Rattle.walker.proofs.KeepsDown.{keeps-link}
use Rattle.walker.proofs.KeepsHeader.{keeps-header}
use Rattle.walker.proofs.KeepsChild.{keeps-child}
use Rattle.walker.proofs.KeepsBlock.{keeps-claim, keeps-write}
use Rattle.walker.proofs.KeepsPublish.{keeps-publish}
use Rattle.walker.proofs.KeepsUp.{keeps-draw, keeps-root}
use Rattle.walker.proofs.KeepsAdds.{keeps-tally, keeps-seen, keeps-note}

module _ (w : Walker) (v : SeatView) (b : Belongs w v) (x : ℕ) where
  -- the view afterwards is in order
  pub view-after : (t : Stage) → Stands t w v → MayAnswer v (op_at t w) x
      → IsView (after v (op_at t w) x)
  view-after t st may = view-stays v b.view (op_at t w) x (fits-at w v b t st) may

  keeps-end : w.stage ≡ Ended → AtEnd w v → IsView (after v Done x) → Belongs w (after v Done x)
  unfolding with_word
  keeps-end e a iu = record {
    shape = b.shape;
    view = iu;
    width = b.width;
    full = b.full;
    stands = subst (λ (t : Stage). Stands t w (after v Done x)) (sym e)
        (record { ended = a.ended });
  }

  keeps-at : (t : Stage) → w.stage ≡ t → Stands t w v → MayAnswer v (op_at t w) x
      → Belongs (next_at t w x) (after v (op_at t w) x)
  keeps-at Drawing e a may = keeps-draw w v b x a (view-after Drawing a may)
  keeps-at Rooting e a may = keeps-root w v b x a may (view-after Rooting a may)
  keeps-at Linking e a may = keeps-link w v b x a may (view-after Linking a may)
  keeps-at Heading e a may = keeps-header w v b x a may (view-after Heading a may) e
  keeps-at Scanning e a may = keeps-child w v b x e a may (view-after Scanning a may)
  keeps-at Claiming e a may = keeps-claim w v b x a may (view-after Claiming a may)
  keeps-at Writing e a may = keeps-write w v b x e a (view-after Writing a may)
  keeps-at Publishing e a may = keeps-publish w v b x a may (view-after Publishing a may)
  keeps-at Tallying e a may = keeps-tally w v b x a (view-after Tallying a may)
  keeps-at Seeing e a may = keeps-seen w v b x a (view-after Seeing a may)
  keeps-at Noting e a may = keeps-note w v b x a (view-after Noting a may)
  keeps-at Ended e a may = keeps-end e a (view-after Ended a may)

  pub keeps : MayAnswer v (op_of w) x → Belongs (next w x) (after v (op_of w) x)
  keeps may = keeps-at w.stage refl b.stands may
