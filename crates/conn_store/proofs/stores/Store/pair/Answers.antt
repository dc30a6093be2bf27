use Rattle.conn_store.proofs.Tables.{few_here, held_here, place_here}
use Rattle.conn_store.proofs.stores.Store.pair.Goals as goal
use Rattle.std.proofs.Common.{◌<◌, length, arith}

pub index-requires : goal.index-requires
index-requires c =
    let l : c.pair_number-pair.result < length c.self.inside.full.items =
    place_here _ _ _ _ _ _ _ c.self.invariant.full_table c.self.view_is c.pair_number-pair.ensures c.requires.order c.requires.elements in
    omega arith

pub index-requires-in-Semi : goal.index-requires-in-Semi
index-requires-in-Semi c =
    let l : c.pair_number-pair.result < length c.self.inside.semi.items =
    place_here _ _ _ _ _ _ _ c.self.invariant.semi_table c.self.view_is c.pair_number-pair.ensures c.requires.order c.requires.elements in
    omega arith

pub returns-in-Full-clause-numbers : goal.returns-in-Full-clause-numbers
returns-in-Full-clause-numbers c =
    held_here _ _ _ _ _ _ _ _ _ c.self.invariant.full_table c.self.view_is c.in-Full.is c.pair_number-pair.ensures c.requires.order c.requires.elements
    c.index.ensures

pub returns-in-Semi-clause-numbers : goal.returns-in-Semi-clause-numbers
returns-in-Semi-clause-numbers c =
    held_here _ _ _ _ _ _ _ _ _ c.self.invariant.semi_table c.self.view_is c.in-Semi.is c.pair_number-pair.ensures c.requires.order c.requires.elements
    c.index-in-Semi.ensures

pub returns-in-Full-clause-few : goal.returns-in-Full-clause-few
returns-in-Full-clause-few c =
    few_here _ _ _ _ _ _ c.self.invariant.few c.self.view_is
    (held_here _ _ _ _ _ _ _ _ _ c.self.invariant.full_table c.self.view_is c.in-Full.is c.pair_number-pair.ensures c.requires.order c.requires.elements
    c.index.ensures)

pub returns-in-Semi-clause-few : goal.returns-in-Semi-clause-few
returns-in-Semi-clause-few c =
    few_here _ _ _ _ _ _ c.self.invariant.few c.self.view_is
    (held_here _ _ _ _ _ _ _ _ _ c.self.invariant.semi_table c.self.view_is c.in-Semi.is c.pair_number-pair.ensures c.requires.order c.requires.elements
    c.index-in-Semi.ensures)
