-- The wins in the games so far; there are at most as many as games.
use Rattle.std.proofs.Common.{◌≡◌, ◌≤◌, take}
use Rattle.match_ref.specs.MatchTexts.{wins_of}
use Rattle.match_ref.proofs.texts.wins_of.Given as goal

abbrev pub invariant-loop-number : goal.invariant-loop-number
invariant-loop-number l = record {
  wins : l.wins ≡ wins_of l.is_a 0 (take l.number l.games);
  few : l.wins ≤ l.number;
}
