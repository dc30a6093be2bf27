use Rattle.std.proofs.Common.{◌∙◌, arith}
use Rattle.hex_io.proofs.ResultLaws.{on_err}
use Rattle.trace_audit.proofs.Pieces.{piece_all, piece_proper}
use Rattle.trace_audit.proofs.texts.give_words.Goals as goal

pub returns-in_err-give-clause-proper : goal.returns-in_err-give-clause-proper
returns-in_err-give-clause-proper g c
    = on_err _ _
    (piece_proper _ _ _ c.args.words.now _ c.pieces.at _ c.pieces.invariant.gave (c.deref.ensures.value ∙ c.fill.ensures.items) c.in_err-give.ensures.proper)

pub pieces-preserved : goal.pieces-preserved
pieces-preserved g c = record {
  room = omega (arith, c.fill.ensures.room, c.pieces.invariant.room);
  in_words = omega (arith, c.min-end.ensures);
  gave = piece_all _ _ _ c.args.words.now _ c.pieces.at _
      (omega (arith, c.min-end.ensures, c.pieces-test.true)) c.pieces.invariant.gave
      (c.deref.ensures.value ∙ c.fill.ensures.items) c.in_ok-give.ensures.all;
  kept = omega (arith, c.in_ok-give.ensures.cause.kept, c.pieces.invariant.kept);
  reads = grind arith;
}
