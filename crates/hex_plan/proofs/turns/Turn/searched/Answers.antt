-- The tree decides the turn, and the turn follows its plan.
use Rattle.std.proofs.Common.{◌≡◌, true, refl, sym, ◌∙◌, ap, subst}
use Rattle.hex_board.specs.Positions.{is_empty_at}
use Rattle.tree_words.specs.Settings.{IsSetting, Setting}
use Rattle.hex_plan.proofs.PlanLaws.{decided_by_search, good_search, search_written}
use Rattle.hex_plan.proofs.turns.Turn.searched.Goals as goal

pub invariant_of-result : goal.invariant_of-result
invariant_of-result c =
    let shape = c.shape-shape.ensures.value in
    let board = c.board-board.ensures.value ∙ ap (λ (s : Setting). s.board) shape in
    let colour = c.colour-colour.ensures ∙ ap (λ (s : Setting). s.player) shape in
    record {
      empty = subst (λ b. is_empty_at b c.decided-cell.result ≡ true) (sym board)
          c.decided-cell.ensures.empty;
      decided = decided_by_search _ c.args.planned.plan c.args.closed refl (sym board) (sym colour)
          c.decided-cell.ensures.best c.requires.searched;
      written = search_written c.args.planned.plan c.args.planned.loss _ _ c.requires.searched
          c.requires.written;
    }

pub returns-clause-good : goal.returns-clause-good
returns-clause-good c = λ knobs means n h looked looks turn sequential.
    let shape = c.shape-shape.ensures.value in
    let board = c.board-board.ensures.value ∙ ap (λ (s : Setting). s.board) shape in
    let colour = c.colour-colour.ensures ∙ ap (λ (s : Setting). s.player) shape in
    good_search knobs means _ c.args.closed refl board colour
    (subst IsSetting shape c.shape-shape.ensures.setting) c.decided-cell.ensures.closed
    c.decided-cell.ensures.best c.decided-cell.ensures.empty n h c.requires.searched looked looks turn
    sequential
