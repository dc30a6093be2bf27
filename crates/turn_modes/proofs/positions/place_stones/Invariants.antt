use Rattle.std.proofs.Common.{◌≡◌, ℕ, ◌+◌, ◌-◌, ◌<◌, ◌≤◌, true, None}
use Rattle.hex_board.specs.Joined.{winner_of}
use Rattle.turn_modes.specs.Positions.{board_on, mover_after, is_open}
use Rattle.turn_modes.proofs.positions.place_stones.Given as goal

abbrev pub invariant-stones : goal.invariant-stones
invariant-stones l = record {
  within : l.stones ≤ l.most;
  size : l.board.size ≡ l.fn.size;
  board : l.board ≡ board_on l.fn.size l.cells l.stones;
  colour : l.colour ≡ mover_after l.stones;
  nobody : winner_of l.board ≡ None;
  open_before : (m : ℕ) → m < l.stones → is_open (board_on l.fn.size l.cells (m + 1)) ≡ true;
}

abbrev pub decreases-stones : goal.decreases-stones
decreases-stones l = l.most - l.stones
