-- What an archive tells of itself, and how it changes as it takes a turn.
use Rattle.std.specs.Prelude.{◌≡◌, ℕ, List, [], ◌∷◌, ◌++◌, MatchResult, Result}
use Rattle.std.specs.declared.option.Option.{Option}
use Rattle.hex_io.specs.Told.{Both, Same}
use Rattle.hex_plan.specs.Turns.{TurnData}

-- if the archive tells, the turn stands at the end of its turns now; or at a fault nothing
-- changed
abbrev pub Archives : {X E : Type 0} → Option (List TurnData) → Option (List TurnData) → Result X E
    → TurnData → Type 0
Archives old new result turn = MatchResult result
    (λ _. Both old new (λ before now. now ≡ before ++ turn ∷ [])) (λ _. Same old new)

-- what is known of an archive in memory: its turns, the most that it holds, and how many it refused
pub record ArchiveState : Type 0 where
  pub turns : List TurnData
  pub room : ℕ
  pub faults : ℕ
