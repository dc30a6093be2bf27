use Rattle.hex_solve.proofs.LedgersTell.{long_told, won_told}
use Rattle.hex_solve.proofs.plain_answer.told.Goals as goal

pub returns-in-Ok : goal.returns-in-Ok
returns-in-Ok c
    = λ own budget. won_told c.args.board.now c.args.mover c.args.claim c.args.line c.args.ledger c.in-Ok.cert c.player-winner.result c.requires
    c.in-Ok.ensures c.player-winner.ensures.value

pub returns-in-Err : goal.returns-in-Err
returns-in-Err c
    = λ own budget. long_told c.args.board.now c.args.mover c.args.claim c.args.line c.args.ledger c.player-winner.result c.in-Err.lines c.requires
    c.player-winner.ensures.value c.in-Err.ensures
