use Rattle.std.proofs.Common.{sym, ◌∙◌}
use Rattle.win_cert.proofs.CellLists.{apart_of, cells_within, none_within}
use Rattle.win_cert.proofs.heads.stones_of.Goals as goal

pub returns-then-bits-eq0-clause-on_board : goal.returns-then-bits-eq0-clause-on_board
returns-then-bits-eq0-clause-on_board c
    = cells_within c.args.size 0 0 c.word.new.self c.in_ok-stones.stones
    (sym c.in_ok-stones.ensures) (none_within c.args.size)

pub returns-then-bits-eq0-clause-apart : goal.returns-then-bits-eq0-clause-apart
returns-then-bits-eq0-clause-apart c = apart_of c.in_ok-stones.stones c.args.taken
    (sym c.meet.ensures.value ∙ sym c.bits.ensures.value ∙ c.if-bits-eq0.true)
