-- The part that a split picks.
use Rattle.tree_rule.proofs.seats.TreeSeat.split.Given as goal

abbrev pub ghosts-cut : goal.ghosts-cut
ghosts-cut a = record { part = a.part }
