use Rattle.std.proofs.Common.{refl}
use Rattle.hex_plan.proofs.planning.win_plan.Goals as goal

pub returns-clause-connected : goal.returns-clause-connected
returns-clause-connected c = (
  c.args.own,
  record {
    report = record { elements = refl; report = c.keeps.ensures.report };
    entry = c.requires.entry.0;
    edges = (c.args.number, c.requires.entry.1);
    cut = c.in_ok-cert.ensures.certifies c.requires.entry.0 c.requires.entry.1;
    lines = c.in_ok-cert.ensures.lines;
    winning = c.winning_cell-cell.ensures c.requires.entry.0 c.requires.entry.1;
  },
)
