-- The writes fit, and are four steps of the walker.
use Rattle.std.proofs.Common.{refl, sym, ap, ◌∙◌, subst, arith}
use Rattle.walker.specs.NewNodes.{AreNodesOf, with_nodes}
use Rattle.search_team.proofs.Going.{run-begins, fits-next, goes}
use Rattle.search_team.proofs.NodeWrites.{at-start, next-move, next-none, nodes-next, ends}
use Rattle.search_team.proofs.writing.write_node.Goals as goal

pub node_ops-write_move-requires-clause-at : goal.node_ops-write_move-requires-clause-at
node_ops-write_move-requires-clause-at c =
    (at-start c.args.walker.now c.args.nodes.now c.requires.stage c.requires.nodes c.requires.more c.args.seat.now.view c.requires.belongs).0

pub act-moved-requires-clause-fits : goal.act-moved-requires-clause-fits
act-moved-requires-clause-fits c =
    fits-next (run-begins refl c.requires.belongs)
    (next-move c.args.walker.now c.args.nodes.now c.requires.stage c.requires.nodes c.requires.more c.node_ops-write_move.ensures.first)

pub act-linked-requires-clause-fits : goal.act-linked-requires-clause-fits
act-linked-requires-clause-fits c =
    let next = next-none c.args.walker.now c.args.nodes.now c.requires.stage c.requires.nodes c.requires.more in
    let one = goes (run-begins refl c.requires.belongs)
    (next-move c.args.walker.now c.args.nodes.now c.requires.stage c.requires.nodes c.requires.more c.node_ops-write_move.ensures.first)
    c.act-moved.ensures.answer refl c.act-moved.ensures.view in
    fits-next one.run (next 0 (omega arith) _ c.node_ops-write_move.ensures.second)

pub act-tally-requires-clause-fits : goal.act-tally-requires-clause-fits
act-tally-requires-clause-fits c =
    let next = next-none c.args.walker.now c.args.nodes.now c.requires.stage c.requires.nodes c.requires.more in
    let one = goes (run-begins refl c.requires.belongs)
    (next-move c.args.walker.now c.args.nodes.now c.requires.stage c.requires.nodes c.requires.more c.node_ops-write_move.ensures.first)
    c.act-moved.ensures.answer refl c.act-moved.ensures.view in
    let two = goes one.run (next 0 (omega arith) _ c.node_ops-write_move.ensures.second) c.act-linked.ensures.answer refl c.act-linked.ensures.view in
    fits-next two.run (next 1 (omega arith) _ c.node_ops-write_move.ensures.third)

pub act-seen-requires-clause-fits : goal.act-seen-requires-clause-fits
act-seen-requires-clause-fits c =
    let next = next-none c.args.walker.now c.args.nodes.now c.requires.stage c.requires.nodes c.requires.more in
    let one = goes (run-begins refl c.requires.belongs)
    (next-move c.args.walker.now c.args.nodes.now c.requires.stage c.requires.nodes c.requires.more c.node_ops-write_move.ensures.first)
    c.act-moved.ensures.answer refl c.act-moved.ensures.view in
    let two = goes one.run (next 0 (omega arith) _ c.node_ops-write_move.ensures.second) c.act-linked.ensures.answer refl c.act-linked.ensures.view in
    let three = goes two.run (next 1 (omega arith) _ c.node_ops-write_move.ensures.third) c.act-tally.ensures.answer refl c.act-tally.ensures.view in
    fits-next three.run (next 2 (omega arith) _ c.node_ops-write_move.ensures.fourth)

pub got_node-requires : goal.got_node-requires
got_node-requires c =
    let small = at-start c.args.walker.now c.args.nodes.now c.requires.stage c.requires.nodes c.requires.more c.args.seat.now.view c.requires.belongs in
    record { more = c.requires.more; at = small.0; place = small.2 }

pub returns : goal.returns
returns c =
    let w = c.args.walker.now in
    let next = next-none w c.args.nodes.now c.requires.stage c.requires.nodes c.requires.more in
    let one = goes (run-begins refl c.requires.belongs)
    (next-move w c.args.nodes.now c.requires.stage c.requires.nodes c.requires.more c.node_ops-write_move.ensures.first)
    c.act-moved.ensures.answer refl c.act-moved.ensures.view in
    let two = goes one.run (next 0 (omega arith) _ c.node_ops-write_move.ensures.second) c.act-linked.ensures.answer refl c.act-linked.ensures.view in
    let three = goes two.run (next 1 (omega arith) _ c.node_ops-write_move.ensures.third) c.act-tally.ensures.answer refl c.act-tally.ensures.view in
    record {
      own = c.act-seen.ensures.own;
      owed = c.act-seen.ensures.owed ∙ c.act-tally.ensures.owed ∙ c.act-linked.ensures.owed ∙ c.act-moved.ensures.owed;
      nodes = subst (AreNodesOf w) (sym c.got_node.ensures)
          (nodes-next w c.args.nodes.now c.requires.stage c.requires.nodes c.requires.more);
      gone = goes three.run (next 2 (omega arith) _ c.node_ops-write_move.ensures.fourth) c.act-seen.ensures.answer
          (ap (with_nodes w) c.got_node.ensures ∙ ends w c.args.nodes.now c.requires.stage c.requires.nodes c.requires.more) c.act-seen.ensures.view;
      node = (at-start w c.args.nodes.now c.requires.stage c.requires.nodes c.requires.more c.args.seat.now.view c.requires.belongs).1;
    }
