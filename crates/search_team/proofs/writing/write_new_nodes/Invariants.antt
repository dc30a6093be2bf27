-- The walker has run to where the new nodes stand.
use Rattle.std.proofs.Common.{◌≡◌, ◌<◌, []}
use Rattle.walker.specs.NewNodes.{AreNodesOf, with_nodes}
use Rattle.walker.specs.declared.TheConstants.{PAST_WORDS}
use Rattle.walker.specs.declared.stages.Stage.TheVariants.{Writing}
use Rattle.tree_rule.specs.Seats.{IsOf}
use Rattle.search_team.specs.WorkLeft.{work_left}
use Rattle.search_team.specs.Runs.{HasRun}
use Rattle.search_team.proofs.writing.write_new_nodes.Given as goal

abbrev pub invariant-nodes : goal.invariant-nodes
invariant-nodes l = record {
  own : IsOf l.tree l.seat;
  owed : l.seat.owed ≡ l.fn.seat.owed;
  stage : l.walker.stage ≡ Writing;
  nodes : AreNodesOf l.walker l.nodes;
  run : HasRun l.fn.walker l.fn.seat.view (with_nodes l.walker l.nodes) l.seat.view;
  node : l.nodes.cells ≡ [] → l.walker.node < PAST_WORDS;
}

abbrev pub decreases-nodes : goal.decreases-nodes
decreases-nodes l = work_left (with_nodes l.walker l.nodes) l.seat.view
