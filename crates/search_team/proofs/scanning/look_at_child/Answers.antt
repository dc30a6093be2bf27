-- The looks fit, and are three steps of the walker.
use Rattle.std.proofs.Common.{refl, ◌∙◌}
use Rattle.search_team.proofs.Going.{run-begins, fits-next, goes}
use Rattle.search_team.proofs.ChildLooks.{small, next-look, next-tally, next-seen, child-looked}
use Rattle.search_team.proofs.scanning.look_at_child.Goals as goal

pub child_ops-look_at_move-requires-clause-at : goal.child_ops-look_at_move-requires-clause-at
child_ops-look_at_move-requires-clause-at c
    = small c.args.walker.now c.requires.stage c.args.scan.now c.requires.phase c.requires.more c.args.seat.now.view c.requires.belongs

pub act-moved-requires-clause-fits : goal.act-moved-requires-clause-fits
act-moved-requires-clause-fits c =
    let first = next-look c.args.walker.now c.requires.stage c.args.scan.now c.requires.more c.child_ops-look_at_move.ensures.first in
    fits-next (run-begins refl c.requires.belongs) first

pub act-tally-requires-clause-fits : goal.act-tally-requires-clause-fits
act-tally-requires-clause-fits c =
    let first = next-look c.args.walker.now c.requires.stage c.args.scan.now c.requires.more c.child_ops-look_at_move.ensures.first in
    let one = goes (run-begins refl c.requires.belongs) first c.act-moved.ensures.answer refl c.act-moved.ensures.view in
    fits-next one.run (next-tally c.args.walker.now c.requires.stage c.args.scan.now c.requires.phase c.requires.more c.act-moved.result
    (c.child_ops-look_at_move.ensures.second c.act-moved.result))

pub act-tally-requires-clause-step : goal.act-tally-requires-clause-step
act-tally-requires-clause-step c e = let look = c.child_ops-look_at_move.ensures.second 0 in absurd (cc look)

pub act-seen-requires-clause-fits : goal.act-seen-requires-clause-fits
act-seen-requires-clause-fits c =
    let first = next-look c.args.walker.now c.requires.stage c.args.scan.now c.requires.more c.child_ops-look_at_move.ensures.first in
    let one = goes (run-begins refl c.requires.belongs) first c.act-moved.ensures.answer refl c.act-moved.ensures.view in
    let second = next-tally c.args.walker.now c.requires.stage c.args.scan.now c.requires.phase c.requires.more c.act-moved.result
    (c.child_ops-look_at_move.ensures.second c.act-moved.result) in
    let two = goes one.run second c.act-tally.ensures.answer refl c.act-tally.ensures.view in
    fits-next two.run (next-seen c.args.walker.now c.requires.stage c.args.scan.now c.requires.phase c.requires.more c.act-moved.result c.act-tally.result
    (c.child_ops-look_at_move.ensures.third c.act-moved.result c.act-tally.result))

pub act-seen-requires-clause-step : goal.act-seen-requires-clause-step
act-seen-requires-clause-step c e = let look = c.child_ops-look_at_move.ensures.third 0 0 in absurd (cc look)

pub got_child-requires-clause-can : goal.got_child-requires-clause-can
got_child-requires-clause-can c =
    (child-looked c.args.walker.now c.requires.stage c.args.scan.now c.requires.phase c.requires.more c.requires.belongs
    c.child_ops-look_at_move.ensures.first c.act-moved.ensures.answer c.act-moved.ensures.view
    (c.child_ops-look_at_move.ensures.second c.act-moved.result) c.act-tally.ensures.answer c.act-tally.ensures.view
    (c.child_ops-look_at_move.ensures.third c.act-moved.result c.act-tally.result) c.act-seen.ensures.answer c.act-seen.ensures.view refl).can

pub returns : goal.returns
returns c =
    let looked = child-looked c.args.walker.now c.requires.stage c.args.scan.now c.requires.phase c.requires.more c.requires.belongs
    c.child_ops-look_at_move.ensures.first c.act-moved.ensures.answer c.act-moved.ensures.view
    (c.child_ops-look_at_move.ensures.second c.act-moved.result) c.act-tally.ensures.answer c.act-tally.ensures.view
    (c.child_ops-look_at_move.ensures.third c.act-moved.result c.act-tally.result) c.act-seen.ensures.answer c.act-seen.ensures.view
    c.got_child.ensures in
    record {
      own = c.act-seen.ensures.own;
      owed = c.act-seen.ensures.owed ∙ c.act-tally.ensures.owed ∙ c.act-moved.ensures.owed;
      phase = looked.phase;
      gone = looked.gone;
      last = looked.last;
    }
