use Rattle.std.proofs.Common.{◌≡◌, ℕ, ◌∙◌, ap, length-set, replicate, arith}
use Rattle.std.proofs.lemmas.List.{length-replicate}
use Rattle.tree_words.specs.Words.{cell_in}
use Rattle.trace_audit.specs.Gains.{cell_of_node}
use Rattle.trace_audit.proofs.Unseen.{unseen_next, unseen_none}
use Rattle.tree_words.proofs.Areas.CutAreas.{none_left}
use Rattle.trace_audit.proofs.handing.unseen.Goals as goal

pub nodes-init : goal.nodes-init
nodes-init c
    = (length-replicate {A = ℕ} 121 0, unseen_none c.args.words.now c.args.sums.now c.args.block (replicate 121 0) (none_left 121))

pub nodes-preserved : goal.nodes-preserved
nodes-preserved c =
    let cell : c.cell_of.result ≡ cell_of_node c.args.words.now c.args.block c.nodes.place
    = c.cell_of.ensures ∙ ap cell_in c.at.ensures in
    let long = c.nodes.invariant.0 in
    let small = c.requires.cells c.nodes.place
    (omega (arith, c.nodes-test.true, c.at-count.ensures)) in (
      length-set c.nodes.unseen c.cell_of.result c.turned.result ∙ long,
      unseen_next c.args.words.now c.args.sums.now c.args.block c.nodes.place c.nodes.unseen c.cell_of.result
          c.turned.result c.nodes.invariant.1 cell (omega (arith, cell, small, long)) c.turned.ensures,
    )
