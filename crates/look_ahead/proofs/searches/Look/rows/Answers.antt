use Rattle.std.proofs.Common.{◌≡◌, [], ◌∷◌, ◌++◌, ◌∙◌, ap, arith}
use Rattle.std.specs.List.{filter}
use Rattle.hex_cells.specs.Sets.{has}
use Rattle.std.proofs.lemmas.List.Elements.{All-nil, All-same}
use Rattle.look_ahead.specs.Looked.{IsLinedRow, IsTrueRow, cells_of_rows, set_cells_below}
use Rattle.look_ahead.proofs.Ranks.{cells_more, none_below}
use Rattle.look_ahead.proofs.searches.Look.rows.Goals as goal

pub cells-init : goal.cells-init
cells-init c =
    let none = c.in_ok-rows.ensures.items in
    let true_row = IsTrueRow c.args.board.now c.args.colour in
    let lined_row = IsLinedRow c.args.board.now in
    record {
      cells = none_below c.args.must c.in_ok-rows.rows.items none;
      known = All-same true_row c.in_ok-rows.rows.items [] none (All-nil true_row);
      lines = All-same lined_row c.in_ok-rows.rows.items [] none (All-nil lined_row);
    }

pub cells-preserved : goal.cells-preserved
cells-preserved c = record {
  cells = cells_more c.args.must c.cells.number (cells_of_rows c.cells.rows.items)
      (cells_of_rows c.add_row.new.rows.items) c.cells.invariant.cells
      (c.in_ok-add_row.ensures.cells ∙ ap (λ k. cells_of_rows c.cells.rows.items
      ++ filter (has c.args.must) (k ∷ [])) c.numbered-cell.ensures);
  known = c.in_ok-add_row.ensures.known c.cells.invariant.known;
  lines = c.in_ok-add_row.ensures.lines c.cells.invariant.lines;
}

pub returns-clause-cells : goal.returns-clause-cells
returns-clause-cells c =
    let all : c.cells.number ≡ 121 = omega (arith, c.cells-test.false, c.cells.auto.number-end) in
    c.cells.invariant.cells ∙ ap (set_cells_below c.args.must) all
