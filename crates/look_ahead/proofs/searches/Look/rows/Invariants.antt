use Rattle.std.proofs.Common.{◌≡◌, All}
use Rattle.look_ahead.specs.Looked.{IsLinedRow, IsTrueRow, cells_of_rows, set_cells_below}
use Rattle.look_ahead.proofs.searches.Look.rows.Given as goal

abbrev pub invariant-cells : goal.invariant-cells
invariant-cells l = record {
  cells : cells_of_rows l.rows.items ≡ set_cells_below l.must l.number;
  known : All (IsTrueRow l.board l.colour) l.rows.items;
  lines : All (IsLinedRow l.board) l.rows.items;
}
