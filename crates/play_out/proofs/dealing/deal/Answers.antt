-- The cells from place i on are given away, from the last place down.
use Rattle.std.proofs.Common.{ℕ, ◌-◌, length, refl, sym, ◌∙◌, arith, subst}
use Rattle.hex_board.specs.Positions.{stones_of}
use Rattle.play_out.proofs.Shuffles.{first_shuffling, next_shuffling, same_shuffling, all_shuffled}
use Rattle.play_out.proofs.Gifts.{Dealt, dealt-odd, dealt-none, dealt-even, dealt-two, dealt-all}
use Rattle.play_out.proofs.Gifts.{dealt-to, same-dealt}
use Rattle.play_out.proofs.dealing.deal.Goals as goal
use Rattle.play_out.proofs.dealing.deal.Goals.{then-i-gt0+then-i-eq0, else-i-gt0}
use Rattle.play_out.proofs.dealing.deal.Goals.{else-i-gt0-via-then-i-gt0+else-i-eq0}
use Rattle.play_out.proofs.dealing.deal.Goals.{else-i-gt0-via-else-i-gt0}

pub pairs-init : goal.pairs-init
pairs-init c =
    let start = c.args.cells.now in
    let first = c.args.generator.now in
    let before : ℕ = stones_of c.args.board.now c.args.to_move in
    let value = c.stones-stones.ensures.value in
    elim c.if-i-gt0.branch [
      | then-i-gt0+then-i-eq0 w ↦ record {
        shuffling = same_shuffling start first w.settle.new.cells w.settle.new.generator _ _
            (length start - 1) _ w.cells-is w.generator-is w.i-is
            (next_shuffling start first start first w.settle.new.generator w.settle.new.cells (length start) (length start - 1) (first_shuffling start first)
            (omega (arith, w.if-i-gt0.true))
            w.settle.ensures.order w.settle.ensures.same w.settle.ensures.count);
        dealt = same-dealt before w.settle.new.cells _
            (length start - 1) _ before _ w.cells-is w.i-is value
            (dealt-even before start w.settle.new.cells (length start - 1) (omega (arith, w.if-i-gt0.true)) w.settle.ensures.count (omega (
              arith,
              w.if-i-gt0.true,
              w.if-i-eq0.true,
            )) w.settle.ensures.later);
      }
      | else-i-gt0 w ↦ record {
        shuffling = same_shuffling start first start first _ _
            (length start) _ w.cells-is w.generator-is w.i-is (first_shuffling start first);
        dealt = same-dealt before start _ (length start) _ before _ w.cells-is w.i-is value
            (elim w.else-i-gt0.branch [
              | else-i-gt0-via-then-i-gt0+else-i-eq0 u ↦ dealt-odd before start (length start) refl
                  (λ z. absurd (omega (arith, z, u.if-i-gt0.true))) (omega (arith, u.if-i-eq0.false))
              | else-i-gt0-via-else-i-gt0 u ↦ dealt-none before start (length start) refl
                  (omega (arith, u.if-i-gt0.false))
            ]);
      }
    ]

pub pairs-preserved : goal.pairs-preserved
pairs-preserved c =
    let inv = c.pairs.invariant in
    let before : ℕ = stones_of c.args.board.now c.args.to_move in
    let one = c.settle-cell in
    let two = c.settle-in-pairs in
    record {
      shuffling = next_shuffling _ _ one.new.cells one.new.generator two.new.generator two.new.cells
          (c.pairs.i - 1) _
          (next_shuffling _ _ c.pairs.cells c.pairs.generator one.new.generator one.new.cells c.pairs.i (c.pairs.i - 1) inv.shuffling (omega arith)
          one.ensures.order one.ensures.same one.ensures.count)
          (omega arith) two.ensures.order two.ensures.same two.ensures.count;
      dealt = subst (Dealt before two.new.cells (c.pairs.i - 2)) (sym c.with-stones.ensures.value)
          (dealt-two before c.pairs.cells one.new.cells two.new.cells c.pairs.i c.pairs.stones one.result inv.dealt c.pairs-test.true inv.shuffling.within
          one.ensures.count two.ensures.count one.ensures.later two.ensures.later one.ensures.cell);
    }

pub returns-then-i-gt0-2-clause-order : goal.returns-then-i-gt0-2-clause-order
returns-then-i-gt0-2-clause-order c =
    let inv = c.pairs.invariant in
    let odd = inv.dealt.some c.if-i-gt0-2.true in
    let o = odd.0 in
    all_shuffled _ _ c.pairs.cells c.pairs.generator c.pairs.i inv.shuffling
    (λ h. absurd (omega (arith, h, o, c.pairs-test.false)))

pub returns-then-i-gt0-2-clause-stones : goal.returns-then-i-gt0-2-clause-stones
returns-then-i-gt0-2-clause-stones c =
    let inv = c.pairs.invariant in
    c.with-stones-then-i-gt0-2.ensures.value
    ∙ (dealt-all (stones_of c.args.board.now c.args.to_move) c.pairs.cells c.pairs.i c.pairs.stones c.index-cells-0.result inv.dealt c.if-i-gt0-2.true
    (λ h. absurd (omega (arith, h, c.pairs-test.false))) inv.shuffling.within c.index-cells-0.is
    ∙ dealt-to c.args.board.now c.args.to_move c.pairs.cells)

pub returns-else-i-gt0-2-clause-order : goal.returns-else-i-gt0-2-clause-order
returns-else-i-gt0-2-clause-order c =
    all_shuffled _ _ c.pairs.cells c.pairs.generator c.pairs.i c.pairs.invariant.shuffling
    (λ h. absurd (omega (arith, h, c.if-i-gt0-2.false)))

pub returns-else-i-gt0-2-clause-stones : goal.returns-else-i-gt0-2-clause-stones
returns-else-i-gt0-2-clause-stones c =
    c.pairs.invariant.dealt.none (omega (arith, c.if-i-gt0-2.false))
    ∙ dealt-to c.args.board.now c.args.to_move c.pairs.cells
