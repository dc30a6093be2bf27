use Rattle.std.proofs.Common.{sym, ◌∙◌, arith}
use Rattle.trace_audit.proofs.HandingSteps.{at_cells, at_inside, at_within, block_done, gifts_fit}
use Rattle.trace_audit.proofs.HandingSteps.{in_cells, in_node, in_words, parent_inside, place_fits}
use Rattle.trace_audit.proofs.HandingSteps.{root_done, root_fits, tally_fits, total_fits}
use Rattle.trace_audit.proofs.handing.hand_up.Goals as goal

pub offset_bounds-sums-at : goal.offset_bounds-sums-at
offset_bounds-sums-at c = let r = c.requires.sums in
    let f = at_inside c.args.shape.now c.args.words.now r.0 c.keeps.ensures.setting r.2 c.args.sums.now r.1 r.3 c.args.at r.4 r.5 c.requires.long in omega
    (arith, f, c.requires.long)

pub bounds-sums-at : goal.bounds-sums-at
bounds-sums-at c = let r = c.requires.sums in
    let f = at_inside c.args.shape.now c.args.words.now r.0 c.keeps.ensures.setting r.2 c.args.sums.now r.1 r.3 c.args.at r.4 r.5 c.requires.long in f.0

pub at-parent-requires : goal.at-parent-requires
at-parent-requires c = let r = c.requires.sums in
    let f = at_inside c.args.shape.now c.args.words.now r.0 c.keeps.ensures.setting r.2 c.args.sums.now r.1 r.3 c.args.at r.4 r.5 c.requires.long in f.1

pub gain-requires-clause-small : goal.gain-requires-clause-small
gain-requires-clause-small c = let r = c.requires.sums in
    root_fits c.args.shape.now c.args.words.now r.0 c.keeps.ensures.setting r.2 c.args.sums.now r.1 r.3 c.args.at r.4 r.5 c.requires.long
    c.at-parent.result c.turned-amount.result c.at-parent.ensures c.turned-amount.ensures (c.if-parent-root.true ∙ c.root.ensures)

pub unseen-unseen-requires-clause-within : goal.unseen-unseen-requires-clause-within
unseen-unseen-requires-clause-within c = let r = c.requires.sums in
    at_within c.args.shape.now c.args.words.now r.0 c.keeps.ensures.setting r.2 c.args.sums.now r.1 r.3 c.args.at r.4 r.5 c.requires.long

pub unseen-unseen-requires-clause-cells : goal.unseen-unseen-requires-clause-cells
unseen-unseen-requires-clause-cells c = let r = c.requires.sums in
    at_cells c.args.shape.now c.args.words.now r.0 c.keeps.ensures.setting r.2 c.args.sums.now r.1 r.3 c.args.at r.4 r.5 c.requires.long

pub at-requires : goal.at-requires
at-requires c = let r = c.requires.sums in
    let f = parent_inside c.args.shape.now c.args.words.now r.0 c.keeps.ensures.setting r.2 c.args.sums.now r.1 r.3 c.args.at r.4 r.5 c.requires.long
    c.at-parent.result c.turned-amount.result c.at-parent.ensures c.turned-amount.ensures
    (λ q. c.if-parent-root.false (q ∙ sym c.root.ensures)) in
    omega (arith, f)

pub overflow_sub-block : goal.overflow_sub-block
overflow_sub-block c = let r = c.requires.sums in
    let f = place_fits c.args.shape.now c.args.words.now r.0 c.keeps.ensures.setting r.2 c.args.sums.now r.1 r.3 c.args.at r.4 r.5 c.requires.long
    c.at-parent.result c.turned-amount.result c.at-parent.ensures c.turned-amount.ensures (λ q. c.if-parent-root.false (q ∙ sym c.root.ensures))
    c.at.result c.at.ensures in
    f.0

pub overflow_sub-block-else-parent-root : goal.overflow_sub-block-else-parent-root
overflow_sub-block-else-parent-root c = let r = c.requires.sums in
    let f = place_fits c.args.shape.now c.args.words.now r.0 c.keeps.ensures.setting r.2 c.args.sums.now r.1 r.3 c.args.at r.4 r.5 c.requires.long
    c.at-parent.result c.turned-amount.result c.at-parent.ensures c.turned-amount.ensures (λ q. c.if-parent-root.false (q ∙ sym c.root.ensures))
    c.at.result c.at.ensures in
    f.1

pub gain_block-requires-clause-within : goal.gain_block-requires-clause-within
gain_block-requires-clause-within c = let r = c.requires.sums in
    in_words c.args.shape.now c.args.words.now r.0 c.keeps.ensures.setting r.2 c.args.sums.now r.1 r.3 c.args.at r.4 r.5 c.requires.long
    c.at-parent.result c.turned-amount.result c.at-parent.ensures c.turned-amount.ensures (λ q. c.if-parent-root.false (q ∙ sym c.root.ensures))
    c.at.result c.at.ensures

pub gain_block-requires-clause-cells : goal.gain_block-requires-clause-cells
gain_block-requires-clause-cells c = let r = c.requires.sums in
    in_cells c.args.shape.now c.args.words.now r.0 c.keeps.ensures.setting r.2 c.args.sums.now r.1 r.3 c.args.at r.4 r.5 c.requires.long
    c.at-parent.result c.turned-amount.result c.at-parent.ensures c.turned-amount.ensures (λ q. c.if-parent-root.false (q ∙ sym c.root.ensures))
    c.at.result c.at.ensures

pub gain_block-requires-clause-node : goal.gain_block-requires-clause-node
gain_block-requires-clause-node c = let r = c.requires.sums in
    in_node c.args.shape.now c.args.words.now r.0 c.keeps.ensures.setting r.2 c.args.sums.now r.1 r.3 c.args.at r.4 r.5 c.requires.long c.at-parent.result
    c.turned-amount.result c.at-parent.ensures c.turned-amount.ensures (λ q. c.if-parent-root.false (q ∙ sym c.root.ensures)) c.at.result c.at.ensures

pub gain_block-requires-clause-small : goal.gain_block-requires-clause-small
gain_block-requires-clause-small c = let r = c.requires.sums in
    gifts_fit c.args.shape.now c.args.words.now r.0 c.keeps.ensures.setting r.2 c.args.sums.now r.1 r.3 c.args.at r.4 r.5 c.requires.long
    c.at-parent.result c.turned-amount.result c.at-parent.ensures c.turned-amount.ensures (λ q. c.if-parent-root.false (q ∙ sym c.root.ensures))
    c.at.result c.at.ensures c.unseen-unseen.result c.unseen-unseen.ensures

pub gain_block-requires-clause-tally : goal.gain_block-requires-clause-tally
gain_block-requires-clause-tally c = let r = c.requires.sums in
    tally_fits c.args.shape.now c.args.words.now r.0 c.keeps.ensures.setting r.2 c.args.sums.now r.1 r.3 c.args.at r.4 r.5 c.requires.long
    c.at-parent.result c.turned-amount.result c.at-parent.ensures c.turned-amount.ensures (λ q. c.if-parent-root.false (q ∙ sym c.root.ensures))
    c.at.result c.at.ensures

pub gain_block-requires-clause-total : goal.gain_block-requires-clause-total
gain_block-requires-clause-total c = let r = c.requires.sums in
    total_fits c.args.shape.now c.args.words.now r.0 c.keeps.ensures.setting r.2 c.args.sums.now r.1 r.3 c.args.at r.4 r.5 c.requires.long
    c.at-parent.result c.turned-amount.result c.at-parent.ensures c.turned-amount.ensures (λ q. c.if-parent-root.false (q ∙ sym c.root.ensures))
    c.at.result c.at.ensures

pub returns-then-parent-root : goal.returns-then-parent-root
returns-then-parent-root c = λ bs d lk i e a.
    root_done c.args.shape.now c.args.words.now bs c.keeps.ensures.setting lk c.args.sums.now d i c.args.at e a c.requires.long c.at-parent.result
    c.turned-amount.result c.at-parent.ensures c.turned-amount.ensures (c.if-parent-root.true ∙ c.root.ensures) c.gain.new.sums c.gain.ensures

pub returns-else-parent-root : goal.returns-else-parent-root
returns-else-parent-root c = λ bs d lk i e a.
    block_done c.args.shape.now c.args.words.now bs c.keeps.ensures.setting lk c.args.sums.now d i c.args.at e a c.requires.long c.at-parent.result
    c.turned-amount.result c.at-parent.ensures c.turned-amount.ensures (λ q. c.if-parent-root.false (q ∙ sym c.root.ensures)) c.at.result c.at.ensures
    c.unseen-unseen.result c.unseen-unseen.ensures c.gain_block.new.sums c.gain_block.ensures
