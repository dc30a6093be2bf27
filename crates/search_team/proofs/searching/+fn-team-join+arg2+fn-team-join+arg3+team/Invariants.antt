-- The number of workers falls.
use Rattle.search_team.proofs.searching.+fn-team-join+arg2+fn-team-join+arg3+team.Given as goal

abbrev pub decreases-join+arg2 : goal.decreases-join+arg2
decreases-join+arg2 g l = l.rest

abbrev pub decreases-join+arg3 : goal.decreases-join+arg3
decreases-join+arg3 g l = l.part

abbrev pub decreases-team : goal.decreases-team
decreases-team g l = l.workers
