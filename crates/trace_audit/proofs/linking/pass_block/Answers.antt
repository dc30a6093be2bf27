use Rattle.std.proofs.Common.{◌+◌, List, ◌∷◌, refl, arith}
use Rattle.tree_words.specs.Blocks.{LinkedBlock}
use Rattle.tree_words.specs.Told.{told_block}
use Rattle.trace_audit.specs.Tables.{Scanned}
use Rattle.trace_audit.proofs.Matches.{if_yes, if_no}
use Rattle.trace_audit.proofs.PassBlock.{board_size, is_passed, must_be_alone, must_stand}
use Rattle.trace_audit.proofs.PassBlock.{number_least}
use Rattle.trace_audit.proofs.linking.pass_block.Goals as goal

pub index-requires : goal.index-requires
index-requires c =
    let r = c.requires.scanned in
    let long = r.1.table.long in
    let k = number_least c.args.shape.now c.args.words.now c.keeps.ensures.setting c.args.table.now c.args.at r.0 r.1 c.entry.result
    (omega (arith, long, c.requires.at, c.requires.long)) c.requires.entry c.entry.ensures in
    omega (arith, k.1, c.args.table.now.sites.ok.0)

pub block_end-requires-clause-size : goal.block_end-requires-clause-size
block_end-requires-clause-size c =
    let r = c.requires.scanned in
    let long = r.1.table.long in
    board_size c.args.shape.now c.args.words.now c.keeps.ensures.setting c.args.table.now c.args.at r.0 r.1 c.entry.result
    (omega (arith, long, c.requires.at, c.requires.long)) c.requires.entry c.entry.ensures
    c.index.result.now c.index.ensures c.at-parent.result c.at-parent.ensures

pub returns-in_default : goal.returns-in_default
returns-in_default c = λ bs sc.
    let long = sc.table.long in
    must_stand c.args.shape.now c.args.words.now c.keeps.ensures.setting c.args.table.now c.args.at bs sc c.entry.result
    (omega (arith, long, c.requires.at, c.requires.long)) c.requires.entry c.entry.ensures
    c.index.result.now c.index.ensures c.at-parent.result c.at-parent.ensures c.in_default.ensures

pub returns-then-has_entry : goal.returns-then-has_entry
returns-then-has_entry c = λ bs sc.
    let long = sc.table.long in
    let f = if_yes c.has_entry.result _ _ c.has_entry.ensures c.if-has_entry.true in
    must_be_alone c.args.shape.now c.args.words.now c.keeps.ensures.setting c.args.table.now c.args.at bs sc c.entry.result
    (omega (arith, long, c.requires.at, c.requires.long)) c.requires.entry c.entry.ensures
    c.index.result.now c.index.ensures c.at-parent.result c.at-parent.ensures c.in-Some.end c.in-Some.ensures.1 f.0 f.1 f.2 f.3

pub enter_all-requires : goal.enter_all-requires
enter_all-requires c =
    let bs : List LinkedBlock = c.requires.scanned.0 in
    let sc : Scanned c.args.shape.now c.args.words.now c.args.table.now c.args.at c.args.at bs
    = c.requires.scanned.1 in
    let long = sc.table.long in (
      c.args.shape.now,
      told_block c.args.shape.now bs c.at-parent.result c.args.at,
      bs,
      is_passed c.args.shape.now c.args.words.now c.keeps.ensures.setting c.args.table.now c.args.at bs sc c.entry.result
          (omega (arith, long, c.requires.at, c.requires.long)) c.requires.entry c.entry.ensures
          c.index.result.now c.index.ensures c.at-parent.result c.at-parent.ensures
          (record { index = c.args.table.now.index; sites = c.args.table.now.sites; others = c.args.table.now.others + c.other_words.result })
          c.in-Some.end c.other_words.result c.requires.long refl refl refl
          c.in-Some.ensures.0 c.in-Some.ensures.1
          (if_no c.has_entry.result _ _ c.has_entry.ensures c.if-has_entry.false) c.other_words.ensures.root c.other_words.ensures.other,
    )

pub returns-then-branch : goal.returns-then-branch
returns-then-branch c = λ bs sc.
    let long = sc.table.long in
    let b : LinkedBlock = told_block c.args.shape.now bs c.at-parent.result c.args.at in
    let e = is_passed c.args.shape.now c.args.words.now c.keeps.ensures.setting c.args.table.now c.args.at bs sc c.entry.result
    (omega (arith, long, c.requires.at, c.requires.long)) c.requires.entry c.entry.ensures
    c.index.result.now c.index.ensures c.at-parent.result c.at-parent.ensures
    (record { index = c.args.table.now.index; sites = c.args.table.now.sites; others = c.args.table.now.others + c.other_words.result }) c.in-Some.end
    c.other_words.result c.requires.long refl refl refl
    c.in-Some.ensures.0 c.in-Some.ensures.1
    (if_no c.has_entry.result _ _ c.has_entry.ensures c.if-has_entry.false) c.other_words.ensures.root c.other_words.ensures.other in
    let done = if_yes c.in_ok-enter_all.field-0 _ _
    (c.in_ok-enter_all.ensures c.args.shape.now b bs e) c.if-branch.true in
    let inside = c.in-Some.ensures.0.inside in
    let ends = c.in-Some.ensures.1 in
    (omega (arith, ends), omega (arith, ends, inside), (b ∷ bs, done.scanned))

pub returns-else-branch : goal.returns-else-branch
returns-else-branch c = λ bs sc.
    let long = sc.table.long in
    let b : LinkedBlock = told_block c.args.shape.now bs c.at-parent.result c.args.at in
    let e = is_passed c.args.shape.now c.args.words.now c.keeps.ensures.setting c.args.table.now c.args.at bs sc c.entry.result
    (omega (arith, long, c.requires.at, c.requires.long)) c.requires.entry c.entry.ensures
    c.index.result.now c.index.ensures c.at-parent.result c.at-parent.ensures
    (record { index = c.args.table.now.index; sites = c.args.table.now.sites; others = c.args.table.now.others + c.other_words.result }) c.in-Some.end
    c.other_words.result c.requires.long refl refl refl
    c.in-Some.ensures.0 c.in-Some.ensures.1
    (if_no c.has_entry.result _ _ c.has_entry.ensures c.if-has_entry.false) c.other_words.ensures.root c.other_words.ensures.other in
    if_no c.in_ok-enter_all.field-0 _ _
    (c.in_ok-enter_all.ensures c.args.shape.now b bs e) c.if-branch.false
