use Rattle.std.proofs.Common.{arith}
use Rattle.hex_cells.proofs.Digits.{no_length, no_first, no_second, some_one, some_two}
use Rattle.hex_cells.proofs.vertices.number_of.Goals as goal

pub returns-then-digits-eq0 : goal.returns-then-digits-eq0
returns-then-digits-eq0 c = λ m. no_length c.args.digits.now m c.then-digits-eq0.either

pub returns-in_err-first : goal.returns-in_err-first
returns-in_err-first c
    = rw c.from_residual.ensures (λ m. no_first c.args.digits.now m c.in_err-first.ensures)

pub returns-then-digits-eq1 : goal.returns-then-digits-eq1
returns-then-digits-eq1 c
    = some_one c.args.digits.now c.in_ok-first.first c.if-digits-eq1.true c.in_ok-first.ensures.0 c.in_ok-first.ensures.1 c.in_ok-first.ensures.2

pub returns-in_err-second : goal.returns-in_err-second
returns-in_err-second c
    = rw c.from_residual-in_err-second.ensures
    (λ m. no_second c.args.digits.now m c.if-digits-eq1.false c.in_err-second.ensures)

pub returns : goal.returns
returns c = some_two c.args.digits.now c.in_ok-first.first c.in_ok-second.second (omega arith) c.in_ok-first.ensures.0 c.in_ok-first.ensures.1
    c.in_ok-second.ensures.1
    c.in_ok-first.ensures.2 c.in_ok-second.ensures.2
