use Rattle.hex_cells.proofs.Naming.{read_back}
use Rattle.hex_cells.proofs.vertices.vertex_is_read_back.Goals as goal

pub returns : goal.returns
returns c = read_back
