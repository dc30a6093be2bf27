use Rattle.std.proofs.Common.{◌≡◌, ◌-◌}
use Rattle.std.specs.List.{find, range_with_len}
use Rattle.sgf_game.specs.Setup.{is_size, size_named}
use Rattle.sgf_game.proofs.sizes.size_named.Given as goal

abbrev pub invariant-loop-n : goal.invariant-loop-n
invariant-loop-n l = find (is_size l.text) (range_with_len l.n (12 - l.n)) ≡ size_named l.text
