use Rattle.std.proofs.Common.{◌≡◌, take}
use Rattle.win_cert.proofs.raising.copies.Given as goal

abbrev pub invariant-loop-line : goal.invariant-loop-line
invariant-loop-line l = record {
  copies : l.copies.items ≡ take l.line-index l.lines;
}
