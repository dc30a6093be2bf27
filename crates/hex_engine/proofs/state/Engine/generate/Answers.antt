use Rattle.std.proofs.Common.{◌≡◌, [], ◌∷◌, true, false, sym, ap, ◌∙◌}
use Rattle.hex_game.specs.Games.{board_of}
use Rattle.hex_plan.specs.Openings.{may_move}
use Rattle.hex_engine.specs.EngineState.{EngineState}
use Rattle.hex_engine.specs.MoveReplies.{moving_by}
use Rattle.hex_engine.proofs.UsedUp.{nothing_moved, over_reply, moved_reply, reacts_reply, if_ok}
use Rattle.hex_engine.proofs.state.Engine.generate.Goals as goal

pub returns-in_default-clause-reply : goal.returns-in_default-clause-reply
returns-in_default-clause-reply g c
    = ([], nothing_moved _ _, λ later. ap (moving_by c.args.self.now later) (sym c.lone_colour.ensures ∙ c.in_default.is))

pub returns-then-not-may_move-clause-reply : goal.returns-then-not-may_move-clause-reply
returns-then-not-may_move-clause-reply g c =
    let over : may_move (board_of c.args.self.now.game) ≡ false =
    sym (c.may_move.ensures.value ∙ ap may_move (c.board.ensures ∙ ap (λ (s : EngineState). board_of s.game) c.self.view_is)) ∙ c.if-not-may_move.true in
    ([], nothing_moved _ _, λ later. over_reply c.args.self.now c.in-Some.colour c.args.args.now (sym c.lone_colour.ensures ∙ c.in-Some.is) over later)

pub returns-clause-reply : goal.returns-clause-reply
returns-clause-reply g c =
    let open_game : may_move (board_of c.args.self.now.game) ≡ true =
    sym (c.may_move.ensures.value ∙ ap may_move (c.board.ensures ∙ ap (λ (s : EngineState). board_of s.game) c.self.view_is)) ∙ c.if-not-may_move.false in
    if_ok c.take_turn.result _ _
    (λ answer h. (
      h.0 ∷ [],
      record { took = h.3; good = (h.1, tt) },
      λ later. moved_reply c.args.self.now c.in-Some.colour h.0 c.args.args.now
          (sym c.lone_colour.ensures ∙ c.in-Some.is) open_game h.2 later
          ∙ reacts_reply _ answer _ later h.4,
    ))
    c.take_turn.ensures.reply
