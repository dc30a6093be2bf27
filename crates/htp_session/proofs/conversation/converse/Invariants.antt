use Rattle.std.proofs.Common.{◌≤◌, ◌-◌}
use Rattle.htp_session.proofs.ReadPieces.{IsBetweenLinesAt}
use Rattle.htp_session.proofs.conversation.converse.Given as goal

-- what was taken so far was answered, and the answers given
abbrev pub invariant-pieces : goal.invariant-pieces
invariant-pieces g l = record {
  in_limit : l.total ≤ l.limit;
  between_lines : IsBetweenLinesAt
      (record { options = l.fn.options; size = l.fn.size; limit = l.limit; began = l.fn.devices })
      l.devices l.session l.total;
}

abbrev pub decreases-pieces : goal.decreases-pieces
decreases-pieces g l = l.limit - l.total
