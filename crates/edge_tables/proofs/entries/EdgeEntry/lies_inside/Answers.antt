use Rattle.edge_tables.proofs.Insides.{inside_test}
use Rattle.edge_tables.proofs.entries.EdgeEntry.lies_inside.Goals as goal

pub returns : goal.returns
returns c = inside_test _ _ _ c.inside.ensures
