use Rattle.hex_cells.proofs.Counts.{members_few}
use Rattle.hex_cells.proofs.Ranks.{ranked}
use Rattle.hex_cells.proofs.sets.CellSet.below.Goals as goal

pub returns : goal.returns
returns c =
    let e = ranked c.self.inside.bits c.args.end c.requires in
    record { value = cc e; range = rw e (members_few c.self.inside.bits c.args.end) }
