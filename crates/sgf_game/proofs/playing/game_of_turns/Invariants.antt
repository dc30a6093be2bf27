use Rattle.std.proofs.Common.{◌≡◌, ℕ, ◌<◌, false, take}
use Rattle.sgf_game.specs.Turns.{game_after, is_refused}
use Rattle.sgf_game.proofs.playing.game_of_turns.Given as goal

abbrev pub invariant-loop-index : goal.invariant-loop-index
invariant-loop-index l = record {
  game : l.game ≡ game_after l.start (take l.index l.turns);
  legal : (j : ℕ) → j < l.index → is_refused l.start l.turns j ≡ false;
}
