-- What playing the turns of a line needs of them, for private clauses.
use Rattle.std.specs.Prelude.{◌≡◌, ℕ, ◌*◌, ◌<◌, List, [], ◌∷◌, Option, Some, None}
use Rattle.hex_game.specs.declared.moves.Move.{Move}
use Rattle.hex_game.specs.declared.moves.Move.TheVariants.{Stone, Swap}
use Rattle.sgf_game.specs.declared.turns.MoveMeaning.{MoveMeaning}
use Rattle.sgf_game.specs.declared.turns.MoveMeaning.TheVariants.{Plays, Ends}
use Rattle.sgf_game.specs.declared.turns.Turn.{Turn}

-- a stone's cell lies on the board of size n
abbrev pub IsMoveOn : ℕ → Move → Type 0
IsMoveOn n Swap = Unit {0}
IsMoveOn n (Stone cell) = cell < n * n

abbrev pub IsSaidOn : ℕ → Option MoveMeaning → Type 0
IsSaidOn n None = Unit {0}
IsSaidOn n (Some Ends) = Unit {0}
IsSaidOn n (Some (Plays what)) = IsMoveOn n what

abbrev pub AreSaidOn : ℕ → List Turn → Type 0
AreSaidOn n [] = Unit {0}
AreSaidOn n (turn ∷ turns) = IsSaidOn n turn.said × AreSaidOn n turns

-- no turn follows one that ends the line
abbrev pub EndsLast : List Turn → Type 0
EndsLast [] = Unit {0}
EndsLast (turn ∷ turns) = (turn.said ≡ Some Ends → turns ≡ []) × EndsLast turns
