use Rattle.hex_solve.proofs.plain_answer.search_plainly.Goals as goal

pub returns-then-found : goal.returns-then-found
returns-then-found c = c.told.ensures c.args.own c.args.budget

pub returns-in-Ok : goal.returns-in-Ok
returns-in-Ok c = c.told-else-found.ensures c.args.own c.args.budget
