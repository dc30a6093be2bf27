-- Games that are dealt out in halves.
use Rattle.std.specs.Prelude.{◌≡◌, ℕ, ◌+◌, ◌<◌, ◌≤◌, List, [], ◌∷◌, ◌++◌}
use Rattle.match_ref.specs.declared.settings.Match.{Match}
use Rattle.match_ref.specs.declared.played.Played.{Played}
use Rattle.match_ref.specs.Matches.{IsMatchGame}

-- the match's games from number i on, each `step` above the one before, in order
abbrev pub AreGamesBy : Match → ℕ → ℕ → List Played → Type 0
AreGamesBy m i step [] = m.games ≤ i
AreGamesBy m i step (p ∷ ps) =
    (i < m.games) × IsMatchGame m i p × AreGamesBy m (i + step) step ps

-- one of the first list, then one of the second, and so on, as far as the first goes
abbrev pub dealt_in_turn : List Played → List Played → List Played
dealt_in_turn [] ys = []
dealt_in_turn (x ∷ xs) [] = x ∷ dealt_in_turn xs []
dealt_in_turn (x ∷ xs) (y ∷ ys) = x ∷ y ∷ dealt_in_turn xs ys

-- if some are left, the next of them was moved to the end of the list
abbrev pub DealsNext : List Played → List Played → List Played → List Played → Type 0
DealsNext all [] all_now rest_now = (all_now ≡ all) × (rest_now ≡ [])
DealsNext all (y ∷ ys) all_now rest_now = (all_now ≡ all ++ y ∷ []) × (rest_now ≡ ys)

-- all games of the match, in order
abbrev pub AreGamesOf : Match → List Played → Type 0
AreGamesOf m = AreGamesBy m 0 1
