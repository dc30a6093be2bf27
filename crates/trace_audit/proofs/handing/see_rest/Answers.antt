use Rattle.std.proofs.Common.{◌≡◌, ℕ, ◌+◌, ◌-◌, ◌*◌, ◌<◌, slice_index_or, length, ap, ◌∙◌, arith}
use Rattle.tree_words.specs.Words.{cell_in}
use Rattle.trace_audit.specs.Gains.{cell_of_node, rest_gift}
use Rattle.trace_audit.proofs.Seeing.{sees_next}
use Rattle.trace_audit.proofs.handing.see_rest.Goals as goal

pub nodes-preserved : goal.nodes-preserved
nodes-preserved c =
    let b : ℕ = c.args.block in
    let n : ℕ = c.nodes.place in
    let cell : c.cell_of.result ≡ cell_of_node c.args.words.now b n = c.cell_of.ensures
    ∙ ap cell_in c.at.ensures in
    let fits : b + 4 + 4 * n + 3 < length c.args.sums.now
    = omega (arith, c.requires.within, c.nodes-test.true, c.at-count.ensures, c.requires.long) in
    sees_next c.args.words.now b n
    (rest_gift c.args.amount c.args.unseen.now) c.args.sums.now c.nodes.sums c.nodes.invariant _
    (ap (λ (k : ℕ). slice_index_or c.nodes.sums (b + 4 + 4 * n + 3) 0 + (c.args.amount - slice_index_or c.args.unseen.now k 0)) cell) fits
