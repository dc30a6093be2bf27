-- A semi entry follows over an empty cell, which is the element that its two parts share.
use Rattle.hex_plan.proofs.MiddleOf.{is_read, read_middle, read_some, read_within}
use Rattle.hex_plan.proofs.Middles.{never_else}
use Rattle.hex_plan.proofs.winning.middle_of.Goals as goal

pub cell-requires : goal.cell-requires
cell-requires c =
    read_within c.args.store.now c.elements.result.now c.requires.0 c.in-AndEmpty.i c.in-AndEmpty.j
    c.shared-middle.result c.entries-entries.ensures.sound c.elements.ensures
    (is_read c.args.store.now c.entries-entries.result.now c.args.number c.requires.0 _ c.index-entries-i.result
    c.index-entries-j.result c.in-AndEmpty.i c.in-AndEmpty.j c.shared-middle.result
    c.entries-entries.ensures.sound c.entries-entries.ensures.value c.requires.1 c.in-AndEmpty.is c.index-entries-i.is
    c.index-entries-j.is c.shared-middle.ensures)

pub unwrap-requires : goal.unwrap-requires
unwrap-requires c =
    read_some c.args.store.now c.elements.result.now c.requires.0 c.in-AndEmpty.i c.in-AndEmpty.j c.shared-middle.result c.cell.result c.elements.ensures
    (is_read c.args.store.now c.entries-entries.result.now c.args.number c.requires.0 _ c.index-entries-i.result
    c.index-entries-j.result c.in-AndEmpty.i c.in-AndEmpty.j c.shared-middle.result
    c.entries-entries.ensures.sound c.entries-entries.ensures.value c.requires.1 c.in-AndEmpty.is c.index-entries-i.is
    c.index-entries-j.is c.shared-middle.ensures)
    c.cell.ensures.group

pub unreachable-requires : goal.unreachable-requires
unreachable-requires c =
    never_else c.args.store.now c.entries-entries.result.now c.args.number c.requires.0 _
    c.entries-entries.ensures.sound c.entries-entries.ensures.value c.requires.1 c.requires.2
    c.in_default.not-AndEmpty

pub returns : goal.returns
returns c = λ a at.
    read_middle c.args.store.now c.elements.result.now a c.in-AndEmpty.i c.in-AndEmpty.j c.shared-middle.result c.unwrap.result c.cell.result
    c.elements.ensures
    (is_read c.args.store.now c.entries-entries.result.now c.args.number a _ c.index-entries-i.result
    c.index-entries-j.result c.in-AndEmpty.i c.in-AndEmpty.j c.shared-middle.result
    c.entries-entries.ensures.sound c.entries-entries.ensures.value at c.in-AndEmpty.is c.index-entries-i.is c.index-entries-j.is c.shared-middle.ensures)
    c.unwrap.ensures c.cell.ensures.empty
