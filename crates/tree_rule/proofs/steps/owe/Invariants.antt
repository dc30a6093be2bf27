-- The add that a call picks.
use Rattle.tree_rule.proofs.steps.owe.Given as goal

abbrev pub ghosts-load_owing : goal.ghosts-load_owing
ghosts-load_owing a = record { add = record { word = a.word; won = a.won } }
