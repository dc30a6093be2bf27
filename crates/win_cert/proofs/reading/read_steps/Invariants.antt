use Rattle.std.proofs.Common.{◌≡◌, ◌+◌, ◌-◌, ◌≤◌, length}
use Rattle.win_cert.specs.Lines.{lines_of, steps_in, with_lines}
use Rattle.win_cert.specs.Writable.{most_lines}
use Rattle.win_cert.proofs.reading.read_steps.Given as goal

-- the lines so far come before the steps that are left
abbrev pub invariant-lines : goal.invariant-lines
invariant-lines l = record {
  steps : steps_in l.head.version l.head.board.size 0 (lines_of l.fn.reader.rest.now)
      ≡ with_lines l.lines.items
      (steps_in l.head.version l.head.board.size (length l.lines.items) (lines_of l.reader.rest.now));
  count : l.reader.line ≡ length l.lines.items + 5;
  few : length l.lines.items ≤ most_lines l.head.version;
}

abbrev pub decreases-lines : goal.decreases-lines
decreases-lines l = most_lines l.head.version + 1 - length l.lines.items
