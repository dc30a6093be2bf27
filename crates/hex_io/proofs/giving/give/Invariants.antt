use Rattle.std.proofs.Common.{◌≡◌, ◌≤◌, ◌-◌, length, take}
use Rattle.hex_io.specs.Grew.{Gave}
use Rattle.hex_io.proofs.giving.give.Given as goal

-- what was given so far, and that no fault was counted
abbrev pub invariant-loop-at : goal.invariant-loop-at
invariant-loop-at g l = record {
  in_bytes : l.at ≤ length l.bytes;
  gave : Gave (g.L.Link.told l.fn.link) (g.L.Link.told l.link) (take l.at l.bytes);
  kept : g.L.Link.write_faults l.link ≡ g.L.Link.write_faults l.fn.link;
  reads : g.L.Link.read_faults l.link ≡ g.L.Link.read_faults l.fn.link;
}

abbrev pub decreases-loop-at : goal.decreases-loop-at
decreases-loop-at g l = length l.bytes - l.at
