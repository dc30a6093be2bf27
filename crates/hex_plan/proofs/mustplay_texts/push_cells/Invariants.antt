use Rattle.std.proofs.Common.{◌≡◌, ◌++◌}
use Rattle.std.specs.List.{filter, flat_map, range_with_len}
use Rattle.hex_cells.specs.Sets.{has}
use Rattle.hex_plan.specs.TurnTexts.{spaced_vertex}
use Rattle.hex_plan.proofs.mustplay_texts.push_cells.Given as goal

abbrev pub invariant-cells : goal.invariant-cells
invariant-cells l = record {
  text : l.text.items ≡ l.fn.text.items ++ flat_map (spaced_vertex l.size)
      (filter (has l.set) (range_with_len 0 l.k));
}
