use Rattle.std.proofs.Common.{false, refl, ◌≡◌, ℕ, length, arith, ap, ◌∙◌}
use Rattle.tree_words.specs.Writing.{listed}
use Rattle.tree_words.proofs.Blocks.BlockLaws.{clash}
use Rattle.trace_audit.specs.Tables.{block_at}
use Rattle.trace_audit.proofs.Standing.{few_listed, stands_is, stands_not}
use Rattle.trace_audit.proofs.blocks.block_end.Goals as goal

pub write_block-count-requires : goal.write_block-count-requires
write_block-count-requires c
    = omega (arith, few_listed c.size.result c.cells_below-cells.result c.size.ensures.range.1)

pub overflow_mul-size : goal.overflow_mul-size
overflow_mul-size c
    = omega (arith, few_listed c.size.result c.cells_below-cells.result c.size.ensures.range.1, c.write_block-count.ensures.count)

pub overflow_add-size : goal.overflow_add-size
overflow_add-size c
    = omega (arith, few_listed c.size.result c.cells_below-cells.result c.size.ensures.range.1, c.write_block-count.ensures.count)

pub overflow_add-end : goal.overflow_add-end
overflow_add-end c =
    let k = c.keeps.ensures.setting.ranges in
    omega (
      arith,
      few_listed c.size.result c.cells_below-cells.result c.size.ensures.range.1,
      c.write_block-count.ensures.count,
      c.requires.long,
      c.requires.at,
      k.playouts,
      k.words,
    )

pub same_block-requires-clause-few : goal.same_block-requires-clause-few
same_block-requires-clause-few c
    = omega (arith, few_listed c.size.result c.cells_below-cells.result c.size.ensures.range.1, c.write_block-count.ensures.count)

pub returns-then-same_block : goal.returns-then-same_block
returns-then-same_block c =
    let cells : listed c.size.result c.cells_below-cells.result ≡ (block_at c.args.shape.now c.args.board.now c.args.parent c.args.at).cells
    = ap (λ (z : ℕ). listed z c.cells_below-cells.result) c.size.ensures.value
    ∙ c.cells_below-cells.ensures in
    let long : length (listed c.size.result c.cells_below-cells.result) ≡ length
    (block_at c.args.shape.now c.args.board.now c.args.parent c.args.at).cells
    = ap length cells in
    let count = c.write_block-count.ensures.count in
    let all = stands_is c.args.shape.now c.args.board.now c.args.parent c.args.at c.empties-empties.result
    (listed c.size.result c.cells_below-cells.result) _ c.write_block-count.new.words c.empties-empties.ensures cells c.write_block-count.ensures.words in (
      record {
        inside = omega (arith, long, count, c.if-len-end.false, c.len.ensures, c.requires.long);
        claimed = omega (arith, long, count, c.if-at-end.false, c.at.ensures);
        shown = all c.args.words.now
            (λ i l t. c.if-same_block.ensures.0 refl i (omega (arith, l, long, count)) t);
      },
      omega (arith, long, count),
    )

pub returns-else-same_block : goal.returns-else-same_block
returns-else-same_block c = λ h.
    let cells : listed c.size.result c.cells_below-cells.result ≡ (block_at c.args.shape.now c.args.board.now c.args.parent c.args.at).cells
    = ap (λ (z : ℕ). listed z c.cells_below-cells.result) c.size.ensures.value
    ∙ c.cells_below-cells.ensures in
    let long : length (listed c.size.result c.cells_below-cells.result) ≡ length
    (block_at c.args.shape.now c.args.board.now c.args.parent c.args.at).cells
    = ap length cells in
    let count = c.write_block-count.ensures.count in
    let all = stands_not c.args.shape.now c.args.board.now c.args.parent c.args.at c.empties-empties.result
    (listed c.size.result c.cells_below-cells.result) _ c.write_block-count.new.words c.empties-empties.ensures cells c.write_block-count.ensures.words in
    clash false (c.if-same_block.ensures.1 (λ i l t. all c.args.words.now h.shown i (omega (arith, l, long, count)) t)) refl
