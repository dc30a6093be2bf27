-- The game of the steps so far.
use Rattle.std.proofs.Common.{◌≡◌, take}
use Rattle.match_ref.specs.Matches.{game_with}
use Rattle.match_ref.proofs.records.game_again.Given as goal

abbrev pub invariant-loop-step : goal.invariant-loop-step
invariant-loop-step l = l.game ≡ game_with l.setup (take l.step-index l.played.steps)
