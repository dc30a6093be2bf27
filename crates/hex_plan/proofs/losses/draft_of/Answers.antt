-- The numbers are those of entries between the edges.
use Rattle.std.proofs.Common.{subst, arith}
use Rattle.conn_store.specs.Stores.{StoreData}
use Rattle.conn_store.specs.declared.entries.Kind.TheVariants.{Full, Semi}
use Rattle.win_cert.specs.Cuts.{AreEdgeNumbers}
use Rattle.hex_plan.proofs.EdgeNumbers.{each_within, first_there}
use Rattle.hex_plan.proofs.losses.draft_of.Goals as goal

pub cut-requires : goal.cut-requires
cut-requires c = first_there c.args.report.now Full c.edge_numbers-full.result
    (subst (λ (d : StoreData). AreEdgeNumbers d Full c.edge_numbers-full.result)
    c.store-store.ensures.value c.edge_numbers-full.ensures.numbers)
    (omega (arith, c.if-full-gt0.true))

pub needed_of-requires-clause-within : goal.needed_of-requires-clause-within
needed_of-requires-clause-within c = each_within c.store-store.result.now Semi
    c.edge_numbers-semi.result c.edge_numbers-semi.ensures.numbers
