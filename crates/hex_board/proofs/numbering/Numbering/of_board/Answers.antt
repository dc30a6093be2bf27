use Rattle.std.proofs.Common.{◌≡◌, ℕ, ◌&&◌, not, true, false, ap, ◌∙◌, arith}
use Rattle.hex_cells.specs.Sets.{has}
use Rattle.hex_cells.specs.Edges.{on_edge}
use Rattle.hex_board.specs.Elements.{PlayerBoard, is_tied}
use Rattle.hex_board.specs.Positions.{Within}
use Rattle.hex_board.proofs.Parts.{flood_test, root_test, head_test}
use Rattle.hex_board.proofs.Reach.{meets_joined}
use Rattle.hex_board.proofs.Search.{same_joined}
use Rattle.hex_board.proofs.numbering.Numbering.of_board.Goals as goal

pub invariant_of-result : goal.invariant_of-result
invariant_of-result c =
    let e : PlayerBoard = record { board = c.args.board.now; player = c.args.colour } in
    let on : Within c.size-size.result c.stones-stones.result
    = rw c.size-size.ensures.value c.stones-stones.ensures.on_board in
    let first : (k : ℕ) → has c.flood-first.result k ≡ is_tied e false k
    = λ k. rw (← c.size-size.ensures.value, ← c.stones-stones.ensures.value)
    (flood_test c.size-size.result c.stones-stones.result c.edge-first_edge.result (on_edge c.args.colour false c.size-size.result) c.flood-first.result k on
    c.edge-first_edge.ensures (c.flood-first.ensures k)) in
    let second : (k : ℕ) → has c.flood-second.result k ≡ is_tied e true k
    = λ k. rw (← c.size-size.ensures.value, ← c.stones-stones.ensures.value)
    (flood_test c.size-size.result c.stones-stones.result c.edge.result (on_edge c.args.colour true c.size-size.result) c.flood-second.result k on
    c.edge.ensures (c.flood-second.ensures k)) in
    let on_board : Within e.board.size c.stones-stones.result = c.stones-stones.ensures.on_board in
    record {
      joins = rw (← c.size-size.ensures.value, ← c.stones-stones.ensures.value)
          (same_joined c.size-size.result c.args.colour c.stones-stones.result c.meets.result
          (meets_joined c.size-size.result c.args.colour c.stones-stones.result c.edge.result c.edge-first_edge.result c.flood-second.result c.meets.result
          c.edge.ensures c.edge-first_edge.ensures c.flood-second.ensures c.meets.ensures));
      to_first = first;
      to_second = second;
      headed = λ k. head_test e c.union.result c.minus-lone.result c.roots_of.result c.flood-first.result c.flood-second.result c.empties.result k
          (c.union.ensures.items k)
          (c.minus-lone.ensures.items k ∙ ap (λ v. v && not (has c.flood-second.result k)) (c.minus.ensures.items k)) (c.empties.ensures k)
          (root_test e c.roots_of.result k (rw (← c.stones-stones.ensures.value) on_board) (rw (
            ← c.size-size.ensures.value,
            ← c.stones-stones.ensures.value,
          ) (c.roots_of.ensures k)))
          (first k) (second k);
      sized = omega arith;
      on_board = rw (← c.stones-stones.ensures.value) on_board;
      apart = rw (← c.stones-stones.ensures.value) c.stones-stones.ensures.apart;
    }
