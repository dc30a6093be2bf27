-- The cells from place i on are given away.
use Rattle.hex_board.specs.Positions.{stones_of}
use Rattle.play_out.proofs.Shuffles.{Shuffling}
use Rattle.play_out.proofs.Gifts.{Dealt}
use Rattle.play_out.proofs.dealing.deal.Given as goal

abbrev pub invariant-pairs : goal.invariant-pairs
invariant-pairs l = record {
  shuffling : Shuffling l.fn.cells l.fn.generator l.cells l.generator l.i;
  dealt : Dealt (stones_of l.board l.fn.to_move) l.cells l.i l.stones;
}

abbrev pub decreases-pairs : goal.decreases-pairs
decreases-pairs l = l.i
