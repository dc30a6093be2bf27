-- The store knows the numbers of each pair.
use Rattle.win_cert.proofs.EdgeNumbers.{numbers_are}
use Rattle.win_cert.proofs.edges.edge_numbers.Goals as goal

pub returns-clause-numbers : goal.returns-clause-numbers
returns-clause-numbers c
    = numbers_are c.args.store.now c.elements-elements.result.now c.args.kind c.edge.result c.edge-2.result c.held.result c.requires
    c.elements-elements.ensures
    c.edge.ensures.value c.edge-2.ensures.value c.held.ensures.numbers
