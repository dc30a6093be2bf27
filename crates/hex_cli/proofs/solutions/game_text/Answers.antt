-- The text for a game.
use Rattle.std.proofs.Common.{sym, ap, subst, ◌∙◌, inl, inr, ℕ}
use Rattle.std.proofs.lemmas.Result.{IfOk-weaker}
use Rattle.hex_board.specs.Joined.{winner_of}
use Rattle.hex_board.specs.Positions.{Position}
use Rattle.hex_cli.specs.SolveTexts.{IsWritableAnswer, next_mover, solved_text}
use Rattle.hex_cli.proofs.SolvedTexts.{can_be_written, solved_by, solved_of_game}
use Rattle.hex_cli.proofs.solutions.game_text.Goals as goal

pub returns-in-Some : goal.returns-in-Some
returns-in-Some c =
    IfOk-weaker c.over_text.result _ _
    (λ text e. inl (
      c.in-Some.winner,
      sym (ap winner_of c.board-board.ensures)
          ∙ sym c.in-Some.ensures.value,
      e,
    )) c.over_text.ensures

pub text_of-requires : goal.text_of-requires
text_of-requires c =
    subst (λ (n : ℕ). IsWritableAnswer n c.in-Ok.solved) (sym c.size.ensures.value)
    (can_be_written c.board-board.result.now c.next_to_place-mover.result c.in-Ok.solved
    c.in-Ok.ensures.won c.in-Ok.ensures.best)

pub returns : goal.returns
returns c =
    IfOk-weaker c.text_of.result _ _ (λ text e. inr (
      c.in-Ok.solved,
      sym (ap winner_of c.board-board.ensures) ∙ sym c.in_default.ensures.value,
      solved_of_game c.args.options.now.budget c.args.game.now c.board-board.result.now
          c.next_to_place-mover.result c.in-Ok.solved
          c.board-board.ensures (c.next_to_place-mover.ensures ∙ ap next_mover c.steps.ensures)
          (solved_by c.args.options.now.hsearch c.args.options.now.budget c.board-board.result.now
          c.next_to_place-mover.result c.in-Ok.solved
          c.in-Ok.ensures.wins c.in-Ok.ensures.won c.in-Ok.ensures.unknown
          c.in-Ok.ensures.best c.in-Ok.ensures.too_long c.in-Ok.ensures.open),
      e ∙ ap (λ (n : ℕ). solved_text c.args.options.now.best n c.in-Ok.solved)
          (c.size.ensures.value ∙ ap (λ (p : Position). p.size) c.board-board.ensures),
    )) c.text_of.ensures
