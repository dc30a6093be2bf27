-- On which boards a turn may be made.
use Rattle.std.specs.Prelude.{◌&&◌, not, Bool, is_some}
use Rattle.std.specs.List.{list_any}
use Rattle.hex_board.specs.Joined.{cells_of, winner_of}
use Rattle.hex_board.specs.Positions.{Position, is_empty_at}

-- a cell of the board is empty
abbrev pub has_room : Position → Bool
has_room p = list_any (is_empty_at p) (cells_of p.size)

-- no player is joined, and a cell is empty
abbrev pub may_move : Position → Bool
may_move p = not (is_some (winner_of p)) && has_room p
