use Rattle.std.proofs.Common.{◌≡◌, ap, rules, subst}
use Rattle.std.proofs.lemmas.Bool.{both_ways}
use Rattle.hex_board.specs.Elements.{PlayerBoard}
use Rattle.conn_store.specs.Stores.{StoreData}
use Rattle.conn_store.specs.declared.entries.Kind.TheVariants.{Full}
use Rattle.conn_store.proofs.Overs.{AreCellsOf, apart_told}
use Rattle.conn_store.proofs.stores.Store.is_apart.Goals as goal

pub returns : goal.returns
returns c =
    let e : c.self.inside.elements ≡ c.args.self.now.elements
    = ap (λ (d : StoreData). d.elements) c.self.view_is in
    let k : c.args.second.now.kind ≡ Full = search rules in
    apart_told c.args.self.now.elements c.args.first.now c.args.second.now c.args.y c.cells.result c.meets-2.result k c.if-y-first.false
    (λ m. both_ways c.meets.result c.if-meets.false (c.meets.ensures.1 m))
    (λ m. both_ways c.meets-else-meets.result c.if-meets-2.false (c.meets-else-meets.ensures.1 m))
    c.requires.first.cells
    (subst (λ (v : PlayerBoard). AreCellsOf v c.args.y c.cells.result) e c.cells.ensures) c.meets-2.ensures
