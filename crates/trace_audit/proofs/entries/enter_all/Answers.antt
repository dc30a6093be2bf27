use Rattle.std.proofs.Common.{◌≡◌, ℕ, ◌+◌, ◌∷◌, ap, ◌∙◌, subst, arith}
use Rattle.tree_words.specs.Words.{cell_in}
use Rattle.trace_audit.specs.Tables.{IsEntered}
use Rattle.trace_audit.proofs.Matches.{if_yes, if_no}
use Rattle.trace_audit.proofs.EnterAll.{cell_empty, cell_small, cell_state, entered_more}
use Rattle.trace_audit.proofs.EnterAll.{entry_least, node_in, node_last, site_is}
use Rattle.trace_audit.proofs.entries.enter_all.Goals as goal

pub index-requires : goal.index-requires
index-requires c = let r = c.requires in let k = entry_least r.0 c.args.words.now c.args.table.now
    (c.args.at + 4) c.args.at c.args.end r.1 r.2 r.3 c.entry.result c.entry.ensures in
    omega (arith, k.1, c.args.table.now.sites.ok.0)

pub nodes-init : goal.nodes-init
nodes-init c = let r = c.requires in let ends = r.3.ends in
    (omega (arith, ends), (0, omega arith), λ s b bs e. e)

pub numbered-requires : goal.numbered-requires
numbered-requires c =
    let r = c.requires in
    let k = c.nodes.invariant.1 in
    let now = c.nodes.invariant.2 r.0 r.1 r.2 r.3 in
    cell_small r.0 c.args.words.now c.nodes.table c.nodes.x c.args.at c.args.end r.1 r.2 now k.0 c.nodes.x
    c.cell_of.result c.index.result.now k.1 c.nodes-test.true
    (site_is r.0 c.args.words.now c.args.table.now (c.args.at + 4) c.args.at c.args.end r.1 r.2 r.3 c.entry.result
    c.index.result.now c.entry.ensures c.index.ensures) (c.cell_of.ensures ∙ ap cell_in c.at.ensures)

pub after-after-requires : goal.after-after-requires
after-after-requires c =
    let r = c.requires in
    let k = c.nodes.invariant.1 in
    let now = c.nodes.invariant.2 r.0 r.1 r.2 r.3 in
    cell_empty r.0 c.args.words.now c.nodes.table c.nodes.x c.args.at c.args.end r.1 r.2 now k.0 c.nodes.x
    c.numbered.result c.index.result.now k.1 c.nodes-test.true
    (site_is r.0 c.args.words.now c.args.table.now (c.args.at + 4) c.args.at c.args.end r.1 r.2 r.3 c.entry.result
    c.index.result.now c.entry.ensures c.index.ensures) (c.numbered.ensures ∙ (c.cell_of.ensures ∙ ap cell_in c.at.ensures))

pub enter-requires : goal.enter-requires
enter-requires c =
    let r = c.requires in
    let k = c.nodes.invariant.1 in
    let now = c.nodes.invariant.2 r.0 r.1 r.2 r.3 in (
      r.0,
      r.1 ∷ r.2,
      (
        now.setting,
        now.long,
        now.scanned,
        node_in r.0 c.args.words.now c.nodes.table c.nodes.x c.args.at
            c.args.end r.1 r.2 now k.0 c.nodes.x k.1 c.nodes-test.true,
      ),
    )

pub returns-then-not-branch : goal.returns-then-not-branch
returns-then-not-branch c = λ s b bs e.
    let k = c.nodes.invariant.1 in
    let now = c.nodes.invariant.2 s b bs e in
    let site = site_is s c.args.words.now c.args.table.now
    (c.args.at + 4) c.args.at c.args.end b bs e c.entry.result c.index.result.now c.entry.ensures c.index.ensures in
    let n = node_in s c.args.words.now c.nodes.table c.nodes.x c.args.at c.args.end b bs now k.0 c.nodes.x k.1 c.nodes-test.true in
    let last = node_last s c.args.words.now c.nodes.table c.nodes.x c.args.at c.args.end b bs now k.0 c.nodes.x k.1 c.nodes-test.true in
    let state = cell_state s c.args.words.now c.nodes.table c.nodes.x c.args.at c.args.end b bs now k.0 c.nodes.x
    c.numbered.result c.index.result.now k.1 c.nodes-test.true site
    (c.numbered.ensures ∙ (c.cell_of.ensures ∙ ap cell_in c.at.ensures)) c.after-after.result c.after-after.ensures in
    if_no c.in_ok-enter.field-0 _ _
    (c.in_ok-enter.ensures s (b ∷ bs) (now.setting, now.long, now.scanned, n) last state) c.if-not-branch.true

pub nodes-preserved : goal.nodes-preserved
nodes-preserved c =
    let k = c.nodes.invariant.1 in
    let r = c.requires in
    let ends = r.3.ends in (
      omega (arith, ends, k.1, c.nodes-test.true),
      (k.0 + 1, omega (arith, k.1)),
      λ s b bs e.
          let now = c.nodes.invariant.2 s b bs e in
          let site = site_is s c.args.words.now c.args.table.now
          (c.args.at + 4) c.args.at c.args.end b bs e c.entry.result c.index.result.now c.entry.ensures c.index.ensures in
          let n = node_in s c.args.words.now c.nodes.table c.nodes.x c.args.at c.args.end b bs now k.0 c.nodes.x k.1 c.nodes-test.true in
          let last = node_last s c.args.words.now c.nodes.table c.nodes.x c.args.at c.args.end b bs now k.0 c.nodes.x k.1 c.nodes-test.true in
          let state = cell_state s c.args.words.now c.nodes.table c.nodes.x c.args.at c.args.end b bs now k.0 c.nodes.x
          c.numbered.result c.index.result.now k.1 c.nodes-test.true site
          (c.numbered.ensures ∙ (c.cell_of.ensures ∙ ap cell_in c.at.ensures)) c.after-after.result c.after-after.ensures in
          entered_more s c.args.words.now c.nodes.table c.enter.new.table c.args.at c.args.end c.nodes.x b bs now n
          (if_yes c.in_ok-enter.field-0 _ _ (c.in_ok-enter.ensures s (b ∷ bs) (now.setting, now.long, now.scanned, n) last state) c.if-not-branch.false),
    )

pub returns : goal.returns
returns c = λ s b bs e.
    let all : c.nodes.x ≡ c.args.end = omega (arith, c.nodes.invariant.0, c.nodes-test.false) in
    subst (λ (x : ℕ). IsEntered s c.args.words.now c.nodes.table x c.args.at c.args.end b bs) all
    (c.nodes.invariant.2 s b bs e)
