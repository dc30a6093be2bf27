-- The texts of the games so far.
use Rattle.std.proofs.Common.{◌≡◌, ◌++◌, take}
use Rattle.match_ref.specs.MatchTexts.{games_text}
use Rattle.match_ref.proofs.texts.push_games.Given as goal

abbrev pub invariant-loop-number : goal.invariant-loop-number
invariant-loop-number l = l.text.items ≡ l.initial.text.items ++ games_text l.asked 0
    (take l.number l.games)
