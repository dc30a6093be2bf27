use Rattle.board_tests.proofs.of_hsearch.+wins.Given as goal

abbrev pub decreases-wins : goal.decreases-wins
decreases-wins l = l.fuel
