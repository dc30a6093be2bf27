use Rattle.std.proofs.Common.{◌<◌, subst, arith}
use Rattle.conn_store.specs.Stores.{StoreData}
use Rattle.conn_store.specs.declared.entries.Kind.TheVariants.{Semi}
use Rattle.win_cert.specs.Cuts.{AreEdgeNumbers}
use Rattle.hex_solve.proofs.RootEntries.{certified_win, no_semi}
use Rattle.hex_solve.proofs.solver.by_connections.Goals as goal

pub returns-then-semi-eq0-clause-none : goal.returns-then-semi-eq0-clause-none
returns-then-semi-eq0-clause-none c = no_semi c.args.own.now c.edge_numbers-semi.result
    (subst (λ (d : StoreData). AreEdgeNumbers d Semi c.edge_numbers-semi.result) c.store.ensures.value c.edge_numbers-semi.ensures.numbers) (omega (
      arith,
      c.if-semi-eq0.true,
    ))

pub raise-requires : goal.raise-requires
raise-requires c =
    let numbers : AreEdgeNumbers c.args.own.now Semi c.edge_numbers-semi.result
    = subst (λ (d : StoreData). AreEdgeNumbers d Semi c.edge_numbers-semi.result) c.store.ensures.value c.edge_numbers-semi.ensures.numbers in
    let some : 0 < c.edge_numbers-semi.result.count = omega (arith, c.if-semi-eq0.false) in
    let w = numbers.each 0 some in
    (c.in_ok-cert.ensures.certifies w.0 w.1).writable

pub returns-clause-won : goal.returns-clause-won
returns-clause-won c =
    let numbers : AreEdgeNumbers c.args.own.now Semi c.edge_numbers-semi.result
    = subst (λ (d : StoreData). AreEdgeNumbers d Semi c.edge_numbers-semi.result) c.store.ensures.value c.edge_numbers-semi.ensures.numbers in
    let some : 0 < c.edge_numbers-semi.result.count = omega (arith, c.if-semi-eq0.false) in
    let w = numbers.each 0 some in
    certified_win _ c.args.own.now w.0 c.in_ok-cert.cert c.in_ok-raise.field-0 c.requires.own.elements w.2 (c.in_ok-cert.ensures.certifies w.0 w.1)
    c.in_ok-raise.ensures.raised c.in_ok-raise.ensures.writable c.in_ok-raise.ensures.verdict
    c.boards_are_positions.ensures c.accepted_certificates_win.ensures.wins

pub cut-requires : goal.cut-requires
cut-requires c =
    let numbers : AreEdgeNumbers c.args.own.now Semi c.edge_numbers-semi.result
    = subst (λ (d : StoreData). AreEdgeNumbers d Semi c.edge_numbers-semi.result) c.store.ensures.value c.edge_numbers-semi.ensures.numbers in
    let some : 0 < c.edge_numbers-semi.result.count = omega (arith, c.if-semi-eq0.false) in
    let w = numbers.each 0 some in
    (w.0, w.1)
