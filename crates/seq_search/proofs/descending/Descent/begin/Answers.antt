use Rattle.std.proofs.Common.{◌≤◌, subst, sym, arith}
use Rattle.hex_board.specs.Positions.{Position}
use Rattle.seq_search.proofs.Ways.{most-left}
use Rattle.seq_search.proofs.descending.Descent.begin.Goals as goal

pub returns-clause-room : goal.returns-clause-room
returns-clause-room c = record {
  size = subst (λ (p : Position). p.size ≤ 11)
      (sym c.board.ensures.value) c.board.ensures.setting.position.most;
  cells = let m = most-left c.board.result.now in omega (arith, m);
  long = omega arith;
}
