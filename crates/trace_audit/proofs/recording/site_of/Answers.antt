use Rattle.std.proofs.Common.{ap, ◌∙◌, arith}
use Rattle.tree_words.specs.Words.{cell_in}
use Rattle.trace_audit.proofs.LinkedLaws.{cell_empty, cell_small, cell_state, entry_least, lies_in}
use Rattle.trace_audit.proofs.LinkedLaws.{node_most}
use Rattle.trace_audit.proofs.recording.site_of.Goals as goal

pub entry-requires : goal.entry-requires
entry-requires c =
    let r = c.requires in
    let l = lies_in r.0 c.args.words.now c.args.table.now r.1 r.2.0 r.2.2 r.3.0 r.3.1 in
    let long = r.2.2.table.long in
    omega (arith, l, long, r.3.2)

pub index-requires : goal.index-requires
index-requires c =
    let r = c.requires in
    let k = entry_least r.0 c.args.words.now c.args.table.now r.1 r.2.0 r.2.2 r.3.0 r.3.1 c.args.block c.entry.result r.3.2 c.entry.ensures in
    omega (arith, k.1, c.args.table.now.sites.ok.0)

pub at-requires : goal.at-requires
at-requires c =
    let r = c.requires in
    let m = node_most r.0 c.args.words.now c.args.table.now r.1 r.2.0 r.2.2 r.3.0 c.args.node r.3.1 r.3.3 in
    omega (arith, m, r.2.1)

pub numbered-requires : goal.numbered-requires
numbered-requires c =
    let r = c.requires in
    cell_small r.0 c.args.words.now c.args.table.now r.1 r.2.0 r.2.2 r.3.0 r.3.1 c.args.block c.entry.result r.3.2
    c.entry.ensures c.args.node c.cell_of.result r.3.3 (c.cell_of.ensures ∙ ap cell_in c.at.ensures) c.index.result.now c.index.ensures

pub after-requires : goal.after-requires
after-requires c =
    let r = c.requires in
    cell_empty r.0 c.args.words.now c.args.table.now r.1 r.2.0 r.2.2 r.3.0 r.3.1 c.args.block c.entry.result r.3.2
    c.entry.ensures c.args.node c.numbered.result r.3.3
    (c.numbered.ensures ∙ (c.cell_of.ensures ∙ ap cell_in c.at.ensures)) c.index.result.now c.index.ensures

pub returns : goal.returns
returns c = λ s bs g a.
    let h = g.0 in let long = g.1 in let lk = g.2 in
    let b = a.0 in let i = a.1 in let at = a.2 in let n = a.3 in
    cell_state s c.args.words.now c.args.table.now bs h lk b i c.args.block c.entry.result at c.entry.ensures
    c.args.node c.numbered.result n (c.numbered.ensures ∙ (c.cell_of.ensures ∙ ap cell_in c.at.ensures))
    c.index.result.now c.index.ensures c.after.result c.after.ensures
