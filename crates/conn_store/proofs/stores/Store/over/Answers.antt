use Rattle.std.proofs.Common.{◌<◌, ◌≡◌, MatchOption, ap, refl, subst, sym}
use Rattle.hex_board.specs.Elements.{PlayerBoard, element_count}
use Rattle.conn_store.specs.Over.{IsOneCell}
use Rattle.conn_store.specs.Rules.{IsGroup}
use Rattle.conn_store.specs.Stores.{StoreData}
use Rattle.conn_store.proofs.Chains.{ends_below}
use Rattle.conn_store.proofs.Overs.{AreCellsOf, middle_read}
use Rattle.conn_store.proofs.RuleEntries.{stands}
use Rattle.conn_store.proofs.stores.Store.over.Goals as goal

pub cells-requires : goal.cells-requires
cells-requires c =
    let e : c.self.inside.elements ≡ c.args.self.now.elements
    = ap (λ (d : StoreData). d.elements) c.self.view_is in
    let a = stands c.args.self.now _ _ _ c.entries.ensures.value c.requires.number c.index-entries-number.is in
    subst (λ (v : PlayerBoard). c.args.end < element_count v) (sym e)
    (ends_below c.args.self.now.elements c.index-entries-number.result c.args.end c.args.middle (c.entries.ensures.sound.valid _ _ a)
    (c.requires.entry _ a).pair).0

pub cell-requires : goal.cell-requires
cell-requires c =
    let e : c.self.inside.elements ≡ c.args.self.now.elements
    = ap (λ (d : StoreData). d.elements) c.self.view_is in
    let a = stands c.args.self.now _ _ _ c.entries.ensures.value c.requires.number c.index-entries-number.is in
    subst (λ (v : PlayerBoard). c.args.middle < element_count v) (sym e)
    (ends_below c.args.self.now.elements c.index-entries-number.result c.args.end c.args.middle (c.entries.ensures.sound.valid _ _ a)
    (c.requires.entry _ a).pair).1

pub returns-clause-over : goal.returns-clause-over
returns-clause-over c =
    let e : c.self.inside.elements ≡ c.args.self.now.elements
    = ap (λ (d : StoreData). d.elements) c.self.view_is in
    let a = stands c.args.self.now _ _ _ c.entries.ensures.value c.requires.number c.index-entries-number.is in
    record {
      entry = (c.index-entries-number.result, a, c.requires.entry _ a, refl);
      cells = subst (λ (v : PlayerBoard). AreCellsOf v c.args.end c.cells.result) e c.cells.ensures;
      middle = subst (λ (v : PlayerBoard). MatchOption c.cell.result (IsGroup v c.args.middle) (IsOneCell v c.args.middle)) e
          (middle_read c.self.inside.elements c.args.middle c.cell.result c.self.invariant.small.stones c.cell.ensures.empty c.cell.ensures.group);
    }
