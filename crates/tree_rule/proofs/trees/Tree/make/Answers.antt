-- The opening words with the opening view are a state of the arena rule.
use Rattle.std.proofs.Common.{ℕ, List, [], ◌∷◌, length, refl, ap, sym, ◌∙◌, subst}
use Rattle.atomic_table.specs.Table.{Me}
use Rattle.tree_words.specs.Settings.{IsSetting}
use Rattle.tree_words.specs.Words.{end_of}
use Rattle.tree_words.specs.Opening.{opening_words}
use Rattle.tree_words.proofs.NewBlocks.OpeningTold.{opening-are}
use Rattle.arena_rule.specs.Views.{SeatView, opening_view}
use Rattle.arena_rule.specs.Owing.{Debtor, debtless, OwingRule, OwesRightly}
use Rattle.arena_rule.proofs.OwingSeats.{owing-begins, owes-none}
use Rattle.arena_rule.specs.IsView.{IsView}
use Rattle.arena_rule.proofs.Law.{begins}
use Rattle.tree_rule.proofs.Moves.{opening-order}
use Rattle.tree_rule.proofs.trees.Tree.make.Goals as goal

pub of_words-requires : goal.of_words-requires
of_words-requires c =
    let s = c.args.shape.now in
    subst (λ (words : List ℕ). OwingRule s words (debtless (opening_view s) ∷ []))
    (sym (c.as_slice.ensures.value ∙ c.in_ok-room.ensures))
    (owing-begins s (opening_words s) (opening_view s) (begins s c.keeps.ensures.setting))

pub invariant_of-tree : goal.invariant_of-tree
invariant_of-tree c =
    let set = c.keeps.ensures.setting in (
      c.in-Ok.ensures.5,
      record {
        setting = subst IsSetting (sym c.in-Ok.ensures.5) set;
        words = c.in-Ok.ensures.0 ∙ ap length (c.as_slice.ensures.value ∙ c.in_ok-room.ensures)
            ∙ (opening-are c.args.shape.now set).long ∙ ap end_of (sym c.in-Ok.ensures.5);
        slots = c.in-Ok.ensures.1;
        room_is = c.in_ok-room.ensures ∙ ap opening_words (sym c.in-Ok.ensures.5);
      },
    )

pub invariant_of-result : goal.invariant_of-result
invariant_of-result c =
    let set = c.keeps.ensures.setting in
    let me = c.in-Ok.ensures.4 in
    record {
      table = refl;
      slots = ap (λ (m : Me ℕ Debtor). m.1) me;
      words = ap (λ t. t.words) c.in-Ok.ensures.2 ∙ c.in-Ok.ensures.0
          ∙ ap length (c.as_slice.ensures.value ∙ c.in_ok-room.ensures)
          ∙ (opening-are c.args.shape.now set).long
          ∙ sym (ap (λ (m : Me ℕ Debtor). end_of m.0.view.shape) me);
      view = subst IsView (sym (ap (λ (m : Me ℕ Debtor). m.0.view) me))
          (opening-order c.args.shape.now set);
      owed = subst OwesRightly (sym (ap (λ (m : Me ℕ Debtor). m.0) me)) (owes-none (opening_view c.args.shape.now));
    }

pub returns-clause-rule : goal.returns-clause-rule
returns-clause-rule c =
    let s = c.args.shape.now in
    let me = c.in-Ok.ensures.4 in
    subst (λ (v : SeatView). OwingRule s (opening_words s) (debtless v ∷ []))
    (sym (ap (λ (m : Me ℕ Debtor). m.0.view) me))
    (owing-begins s (opening_words s) (opening_view s) (begins s c.keeps.ensures.setting))
