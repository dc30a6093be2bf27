-- The middle of a semi entry, and the least cell of the carrier of a full one.
use Rattle.hex_plan.proofs.WinningCells.{full_some, least_wins, middle_wins, semi_there}
use Rattle.win_cert.proofs.CutEnds.{stones_within}
use Rattle.hex_plan.proofs.winning.winning_cell.Goals as goal

pub unwrap-requires : goal.unwrap-requires
unwrap-requires c =
    full_some c.args.report.now c.store-store.result.now c.entries.result.now c.args.number c.requires.entry.0 c.index-entries-number.result c.least.result
    c.store-store.ensures.value c.entries.ensures.value c.entries.ensures.true_entries c.requires.entry.1 c.index-entries-number.is c.in-Full.is
    (stones_within c.board.result.now c.store-store.result.now.elements c.colour.result c.stones-stones.result
    c.board.ensures c.colour.ensures c.stones-stones.ensures.value c.stones-stones.ensures.on_board)
    c.requires.apart c.least.ensures

pub middle_of-requires : goal.middle_of-requires
middle_of-requires c =
    semi_there c.args.report.now c.store-store.result.now c.entries.result.now c.args.number c.requires.entry.0
    c.index-entries-number.result c.store-store.ensures.value c.entries.ensures.value
    c.requires.entry.1 c.index-entries-number.is c.in-Semi.is

pub returns-in-Full : goal.returns-in-Full
returns-in-Full c = λ a at.
    least_wins c.args.report.now c.store-store.result.now c.entries.result.now c.args.number a
    c.index-entries-number.result c.unwrap.result c.least.result c.store-store.ensures.value c.entries.ensures.value
    at c.index-entries-number.is c.in-Full.is c.unwrap.ensures c.least.ensures

pub returns-in-Semi : goal.returns-in-Semi
returns-in-Semi c = λ a at.
    middle_wins c.args.report.now c.store-store.result.now c.entries.result.now c.args.number a
    c.index-entries-number.result c.middle_of.result c.store-store.ensures.value c.entries.ensures.value
    at c.index-entries-number.is c.in-Semi.is c.middle_of.ensures
