-- What a conversation uses up: what comes of the files that it asks for, and the turns that its
-- moves are searched in.
use Rattle.std.specs.Prelude.{ℕ, List, [], ◌++◌}
use Rattle.hex_plan.specs.Turns.{TurnData}
use Rattle.hex_engine.specs.declared.loadsgf.Loaded.{Loaded}

-- the name that was asked for, and what came of it
pub record Load : Type 0 where
  pub name : List ℕ
  pub what : Loaded

-- what is left to be used up, each in turn
pub record Supply : Type 0 where
  pub loads : List Load
  pub turns : List TurnData

-- nothing is left to be used up
abbrev pub nothing_left : Supply
nothing_left = record { loads = []; turns = [] }

-- this, and then that
abbrev pub and_then : Supply → Supply → Supply
and_then a b = record { loads = a.loads ++ b.loads; turns = a.turns ++ b.turns }

-- files alone, and turns alone
abbrev pub loads_only : List Load → Supply
loads_only loads = record { loads = loads; turns = [] }

-- turns alone
abbrev pub turns_only : List TurnData → Supply
turns_only turns = record { loads = []; turns = turns }
