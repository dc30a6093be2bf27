-- The lines of the marked ones of the entries before `number` stand there.
use Rattle.std.proofs.Common.{◌-◌, ◌≤◌, length}
use Rattle.win_cert.specs.Cutting.{AreLinesFor}
use Rattle.win_cert.proofs.cutting.lines_for.Given as goal

abbrev pub invariant-entries : goal.invariant-entries
invariant-entries l = record {
  within : l.number ≤ length l.store.entries;
  lines : AreLinesFor l.store l.marks l.number l.lines.items l.renamed.items;
}

abbrev pub decreases-entries : goal.decreases-entries
decreases-entries l = length l.store.entries - l.number
