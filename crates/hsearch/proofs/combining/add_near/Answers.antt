use Rattle.std.proofs.Common.{◌≡◌, ap, sym, ◌∙◌, arith}
use Rattle.hex_board.specs.Elements.{element_count}
use Rattle.hsearch.proofs.combining.add_near.Goals as goal

pub returns-clause-near : goal.returns-clause-near
returns-clause-near c =
    let e : element_count c.seconds.store.elements ≡ c.count-count.result =
    ap element_count (c.seconds.invariant.elements ∙ sym c.elements.ensures)
    ∙ sym c.count-count.ensures.value in
    λ x y l m r. c.seconds.invariant.near x y l (omega arith) r
