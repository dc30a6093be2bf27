use Rattle.std.proofs.Common.{◌≡◌, ◌++◌, map, take}
use Rattle.std.specs.List.{flat_map}
use Rattle.win_cert.specs.Texts.{ended, line_words}
use Rattle.win_cert.proofs.writing.push_lines.Given as goal

abbrev pub invariant-loop-line : goal.invariant-loop-line
invariant-loop-line l = record {
  text : l.text.items ≡ l.fn.text.items ++ flat_map ended
      (map (line_words l.size) (take l.line-index l.lines));
}
