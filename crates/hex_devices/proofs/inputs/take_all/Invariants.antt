use Rattle.std.proofs.Common.{◌≡◌, ◌≤◌, ◌-◌, length}
use Rattle.hex_io.specs.Told.{Both}
use Rattle.hex_devices.specs.Inputs.{TookBytes}
use Rattle.hex_devices.proofs.inputs.take_all.Given as goal

-- what was taken so far is kept, and no fault was counted
abbrev pub invariant-pieces : goal.invariant-pieces
invariant-pieces g l = record {
  in_limit : length l.input.items ≤ l.limit;
  took : Both (g.L.Link.told l.fn.link) (g.L.Link.told l.link) (TookBytes l.input.items);
  reads : g.L.Link.read_faults l.link ≡ g.L.Link.read_faults l.fn.link;
  writes : g.L.Link.write_faults l.link ≡ g.L.Link.write_faults l.fn.link;
}

abbrev pub decreases-pieces : goal.decreases-pieces
decreases-pieces g l = l.limit - length l.input.items
