use Rattle.std.proofs.Common.{◌+◌, drop, ap, refl, arith}
use Rattle.seq_search.specs.Descending.{nodes_down}
use Rattle.seq_search.proofs.Paces.{gained-is, pace-short, adds-begin, pace-fits, pace-room}
use Rattle.seq_search.proofs.Paces.{may-see, pace, pace-last, step-left, none-left}
use Rattle.hex_cells.proofs.Tables.{square_small}
use Rattle.seq_search.proofs.adding.count.Goals as goal

pub down-init : goal.down-init
down-init c = adds-begin c.args.shape.now c.args.words.now c.args.walk.now c.args.ending.now _ c.colour-player.result c.root-node.ensures
    c.colour-player.ensures

pub gain-requires-clause-within : goal.gain-requires-clause-within
gain-requires-clause-within c =
    pace-fits c.args.shape.now c.args.words.now c.args.walk.now c.args.ending.now c.down.words c.down.node c.down.player
    (drop c.down.i (nodes_down c.args.walk.now)) c.keeps.ensures.setting c.down.invariant c.requires.walked

pub gain-requires-clause-small : goal.gain-requires-clause-small
gain-requires-clause-small c =
    pace-room c.args.shape.now c.args.words.now c.args.walk.now c.args.ending.now c.down.words c.down.node c.down.player
    (drop c.down.i (nodes_down c.args.walk.now)) c.keeps.ensures.setting c.down.invariant c.requires.walked
    c.amount.result _ c.amount.ensures

pub overflow_add-block : goal.overflow_add-block
overflow_add-block c =
    let fits = pace-fits c.args.shape.now c.args.words.now c.args.walk.now c.args.ending.now c.down.words c.down.node c.down.player
    (drop c.down.i (nodes_down c.args.walk.now)) c.keeps.ensures.setting c.down.invariant c.requires.walked in
    let short = pace-short c.args.shape.now c.args.words.now c.args.walk.now c.keeps.ensures.setting c.requires.walked in
    let long = (c.down.invariant c.requires.walked.0 c.requires.walked.1 c.requires.walked.2 c.requires.walked.3 c.requires.walked.4).long in
    omega (arith, fits, short, long)

pub offset_bounds-words-node : goal.offset_bounds-words-node
offset_bounds-words-node c =
    let fits = pace-fits c.args.shape.now c.args.words.now c.args.walk.now c.args.ending.now c.down.words c.down.node c.down.player
    (drop c.down.i (nodes_down c.args.walk.now)) c.keeps.ensures.setting c.down.invariant c.requires.walked in
    let short = pace-short c.args.shape.now c.args.words.now c.args.walk.now c.keeps.ensures.setting c.requires.walked in
    let long = (c.down.invariant c.requires.walked.0 c.requires.walked.1 c.requires.walked.2 c.requires.walked.3 c.requires.walked.4).long in
    omega (arith, fits, short, long)

pub bounds-words-node : goal.bounds-words-node
bounds-words-node c =
    let fits = pace-fits c.args.shape.now c.args.words.now c.args.walk.now c.args.ending.now c.down.words c.down.node c.down.player
    (drop c.down.i (nodes_down c.args.walk.now)) c.keeps.ensures.setting c.down.invariant c.requires.walked in
    omega (arith, fits, c.gain.auto.words)

pub see-requires-clause-within : goal.see-requires-clause-within
see-requires-clause-within c =
    let cons = step-left c.args.shape.now c.args.words.now c.args.walk.now c.requires.walked c.down.i c.down-test.true in
    let may = may-see c.args.shape.now c.args.words.now c.args.walk.now c.args.ending.now c.down.words c.down.node c.down.player
    (drop c.down.i (nodes_down c.args.walk.now)) c.keeps.ensures.setting c.down.invariant
    _ _ cons c.gain.new.words
    (gained-is c.down.words c.gain.new.words c.down.node c.amount.result c.args.ending.now.winner c.down.player c.other.result c.gain.ensures
    c.amount.ensures c.other.ensures) c.requires.walked c.amount-in-down.result _ c.amount-in-down.ensures in
    may.within

pub see-requires-clause-cells : goal.see-requires-clause-cells
see-requires-clause-cells c =
    let cons = step-left c.args.shape.now c.args.words.now c.args.walk.now c.requires.walked c.down.i c.down-test.true in
    let may = may-see c.args.shape.now c.args.words.now c.args.walk.now c.args.ending.now c.down.words c.down.node c.down.player
    (drop c.down.i (nodes_down c.args.walk.now)) c.keeps.ensures.setting c.down.invariant
    _ _ cons c.gain.new.words
    (gained-is c.down.words c.gain.new.words c.down.node c.amount.result c.args.ending.now.winner c.down.player c.other.result c.gain.ensures
    c.amount.ensures c.other.ensures) c.requires.walked c.amount-in-down.result _ c.amount-in-down.ensures in
    let most = square_small c.args.shape.now.board.size c.keeps.ensures.setting.position.most in
    λ j l. omega (arith, may.cells j l, most)

pub see-requires-clause-small : goal.see-requires-clause-small
see-requires-clause-small c =
    let cons = step-left c.args.shape.now c.args.words.now c.args.walk.now c.requires.walked c.down.i c.down-test.true in
    let may = may-see c.args.shape.now c.args.words.now c.args.walk.now c.args.ending.now c.down.words c.down.node c.down.player
    (drop c.down.i (nodes_down c.args.walk.now)) c.keeps.ensures.setting c.down.invariant
    _ _ cons c.gain.new.words
    (gained-is c.down.words c.gain.new.words c.down.node c.amount.result c.args.ending.now.winner c.down.player c.other.result c.gain.ensures
    c.amount.ensures c.other.ensures) c.requires.walked c.amount-in-down.result _ c.amount-in-down.ensures in
    may.small

pub down-preserved : goal.down-preserved
down-preserved c =
    let cons = step-left c.args.shape.now c.args.words.now c.args.walk.now c.requires.walked c.down.i c.down-test.true in
    pace c.args.shape.now c.args.words.now c.args.walk.now c.args.ending.now c.down.words c.down.node c.down.player
    (drop c.down.i (nodes_down c.args.walk.now)) c.keeps.ensures.setting c.down.invariant
    _ _ cons c.gain.new.words
    (gained-is c.down.words c.gain.new.words c.down.node c.amount.result c.args.ending.now.winner c.down.player c.other.result c.gain.ensures
    c.amount.ensures c.other.ensures)
    c.see.new.words _ _ c.stones-stones.result c.amount-in-down.result refl refl c.stones-stones.ensures.value c.amount-in-down.ensures c.see.ensures _
    c.other-player.result refl c.other-player.ensures

pub gain-requires-2-clause-within : goal.gain-requires-2-clause-within
gain-requires-2-clause-within c =
    pace-fits c.args.shape.now c.args.words.now c.args.walk.now c.args.ending.now c.down.words c.down.node c.down.player
    (drop c.down.i (nodes_down c.args.walk.now)) c.keeps.ensures.setting c.down.invariant c.requires.walked

pub gain-requires-2-clause-small : goal.gain-requires-2-clause-small
gain-requires-2-clause-small c =
    pace-room c.args.shape.now c.args.words.now c.args.walk.now c.args.ending.now c.down.words c.down.node c.down.player
    (drop c.down.i (nodes_down c.args.walk.now)) c.keeps.ensures.setting c.down.invariant c.requires.walked
    c.amount-2.result _ c.amount-2.ensures

pub returns : goal.returns
returns c =
    let none = none-left c.args.shape.now c.args.words.now c.args.walk.now c.requires.walked c.down.i (omega (arith, c.down-test.false, c.down.auto.i-end)) in
    pace-last c.args.shape.now c.args.words.now c.args.walk.now c.args.ending.now c.down.words c.down.node c.down.player
    (drop c.down.i (nodes_down c.args.walk.now)) c.keeps.ensures.setting c.down.invariant
    none c.gain-2.new.words
    (gained-is c.down.words c.gain-2.new.words c.down.node c.amount-2.result c.args.ending.now.winner c.down.player c.other-2.result c.gain-2.ensures
    c.amount-2.ensures c.other-2.ensures)
