use Rattle.std.proofs.Common.{◌≡◌, length}
use Rattle.hsearch.specs.Taken.{IsGrown}
use Rattle.hsearch.proofs.reports.grow.Given as goal

abbrev pub invariant-marks : goal.invariant-marks
invariant-marks l = record {
  count : length l.marks.items ≡ l._place;
  same : IsGrown l.fn.marks.items l.marks.items;
}
