use Rattle.std.proofs.Common.{subst, arith}
use Rattle.conn_store.specs.Stores.{StoreData}
use Rattle.conn_store.specs.declared.entries.Kind.TheVariants.{Full, Semi}
use Rattle.win_cert.specs.Cuts.{AreEdgeNumbers}
use Rattle.hex_plan.proofs.EdgeNumbers.{first_there, no_edge_entry}
use Rattle.hex_plan.proofs.edges.edge_entry.Goals as goal

pub returns-clause-none : goal.returns-clause-none
returns-clause-none c =
    no_edge_entry c.args.report.now c.edge_numbers-semi.result c.edge_numbers-full.result
    (subst (λ (d : StoreData). AreEdgeNumbers d Semi c.edge_numbers-semi.result) c.store-store.ensures.value c.edge_numbers-semi.ensures.numbers)
    (subst (λ (d : StoreData). AreEdgeNumbers d Full c.edge_numbers-full.result) c.store-store.ensures.value c.edge_numbers-full.ensures.numbers)
    (omega (arith, c.if-semi-gt0.false)) (omega (arith, c.if-full-gt0.false))

pub returns-then-semi-gt0-clause-some : goal.returns-then-semi-gt0-clause-some
returns-then-semi-gt0-clause-some c = first_there c.args.report.now Semi c.edge_numbers-semi.result
    (subst (λ (d : StoreData). AreEdgeNumbers d Semi c.edge_numbers-semi.result) c.store-store.ensures.value
    c.edge_numbers-semi.ensures.numbers) (omega (arith, c.if-semi-gt0.true))

pub returns-then-full-gt0-clause-some : goal.returns-then-full-gt0-clause-some
returns-then-full-gt0-clause-some c = first_there c.args.report.now Full c.edge_numbers-full.result
    (subst (λ (d : StoreData). AreEdgeNumbers d Full c.edge_numbers-full.result) c.store-store.ensures.value
    c.edge_numbers-full.ensures.numbers) (omega (arith, c.if-full-gt0.true))
