use Rattle.look_ahead.proofs.Sure.{report_sure, stones_within}
use Rattle.look_ahead.proofs.showing.is_sure.Goals as goal

pub returns-then-is_across : goal.returns-then-is_across
returns-then-is_across c shows =
    let s = c.store-store.result.now in
    report_sure c.args.report.now s c.entries-entry-items.result.now c.entries.entry-index
    c.entry-item.result c.args.kind c.store-store.ensures.value c.entries-entry-items.ensures.value
    c.entries-entry-items.ensures.sound c.entries-entry-items.ensures.true_entries
    (stones_within s.elements c.board.result.now c.colour.result c.stones-stones.result
    c.board.ensures c.colour.ensures c.stones-stones.ensures.value c.stones-stones.ensures.on_board)
    c.requires c.entries-test.true c.entry-item.is (c.is_across.ensures c.if-is_across.true)
