use Rattle.std.proofs.Common.{◌≡◌, ap, ◌∙◌, subst, arith}
use Rattle.std.proofs.Common.{◌≤◌}
use Rattle.hex_board.specs.Elements.{element_count}
use Rattle.hex_board.specs.Positions.{Within, stones_of}
use Rattle.conn_store.specs.Index.{pairs_among}
use Rattle.conn_store.proofs.Tables.{new_stored}
use Rattle.conn_store.proofs.stores.Store.within.Goals as goal

pub invariant_of-result : goal.invariant_of-result
invariant_of-result c =
    let here : Within c.args.board.now.size (stones_of c.args.board.now c.args.colour)
    = subst (λ v. Within c.args.board.now.size v) c.stones-stones.ensures.value c.stones-stones.ensures.on_board in
    let few : element_count c.elements-elements.result ≤ 123
    = subst (λ n. n ≤ 123) c.count.ensures.value c.count.ensures.range.1 in
    let pairs : c.pair_count-pairs.result ≡ pairs_among (element_count c.elements-elements.result)
    = c.pair_count-pairs.ensures.value ∙ ap pairs_among c.count.ensures.value in
    new_stored _ _ _ _ _ _ _ c.pair_count-pairs.result c.elements-elements.ensures
    (omega arith) here few pairs (c.reserve.ensures.items ∙ c.clear.ensures.items)
    c.in_ok-clear_table.ensures c.in_ok-clear_table-2.ensures
    (omega (arith, c.in_ok-reserve.ensures.ok, c.clear.ensures.len))
