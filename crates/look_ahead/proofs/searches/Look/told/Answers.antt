use Rattle.std.proofs.Common.{◌<◌, List, length, sym, subst, arith}
use Rattle.look_ahead.specs.Looked.{IsBestCell, IsLookOf, LookedData}
use Rattle.look_ahead.specs.declared.rows.LookRow.{LookRow}
use Rattle.look_ahead.proofs.Ranks.{best_among, rows_there}
use Rattle.look_ahead.proofs.searches.Look.told.Goals as goal

pub best_of-cell-requires : goal.best_of-cell-requires
best_of-cell-requires c =
    subst (λ (rows : List LookRow). 0 < length rows) (sym c.deref.ensures.value)
    (rows_there c.args.must c.requires.some.0 c.in_ok-rows.rows.items c.keeps.ensures.range c.requires.some.1
    c.in_ok-rows.ensures.cells)

pub returns : goal.returns
returns c =
    let rows = c.in_ok-rows.rows.items in
    let cell = c.best_of-cell.result in
    let best : IsBestCell rows cell = subst (λ (v : List LookRow). IsBestCell v cell)
    c.deref.ensures.value c.best_of-cell.ensures in
    subst (λ (v : LookedData). IsLookOf c.args.root.now.board.now c.args.root.now.colour
    c.args.must c.args.nodes v) (sym c.of.ensures) (record {
      cells = c.in_ok-rows.ensures.cells;
      root = c.requires.root;
      few = omega arith;
      among = best_among c.args.must cell rows c.in_ok-rows.ensures.cells best;
      best = best;
      known = c.in_ok-rows.ensures.known;
      lines = c.in_ok-rows.ensures.lines;
    })
