use Rattle.std.proofs.Common.{ap, ◌∙◌, refl, not}
use Rattle.hex_board.specs.Positions.{is_empty_at}
use Rattle.cert_check.proofs.BadStones.{bad_stone_is, inside_of, small_set}
use Rattle.cert_check.proofs.ReasonLaws.{put_reasons, told_first, told_next}
use Rattle.cert_check.proofs.checkers.Checker.put.Goals as goal

pub returns-then-inside : goal.returns-then-inside
returns-then-inside c =
    let now = c.args.self.now in
    let h = inside_of now.base.board c.args.cells c.empties.result c.inside.result
    (λ k. c.empties.ensures k ∙ ap (λ n. is_empty_at n.base.board k) c.self.view_is) c.inside.ensures in
    put_reasons now c.args.cells
    ∙ told_next _ _ _ _
    (bad_stone_is now.base.board c.args.cells c.inside.result (small_set c.args.cells c.keeps.ensures.range) h ∙ ap not c.if-inside.true) refl

pub returns-else-inside : goal.returns-else-inside
returns-else-inside c =
    let now = c.args.self.now in
    let h = inside_of now.base.board c.args.cells c.empties.result c.inside.result
    (λ k. c.empties.ensures k ∙ ap (λ n. is_empty_at n.base.board k) c.self.view_is) c.inside.ensures in
    put_reasons now c.args.cells
    ∙ told_first _ _ _
    (bad_stone_is now.base.board c.args.cells c.inside.result (small_set c.args.cells c.keeps.ensures.range) h ∙ ap not c.if-inside.false)
