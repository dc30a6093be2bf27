use Rattle.std.proofs.Common.{◌≡◌, ℕ, [], refl, ◌∙◌}
use Rattle.tree_words.specs.Words.{root_at}
use Rattle.trace_audit.proofs.Matches.{if_yes, if_no}
use Rattle.trace_audit.proofs.Beginning.{first_scan, first_node, first_last, first_done}
use Rattle.trace_audit.proofs.linking.begin.Goals as goal

pub enter-requires : goal.enter-requires
enter-requires c =
    let s = c.args.shape.now in
    let h = c.keeps.ensures.setting in
    let root : c.root-root.result ≡ root_at s = c.root-root.ensures in (
      s,
      [],
      (
        h,
        c.requires,
        first_scan s c.args.words.now h c.root-root.result root _ _
            (c.len.ensures ∙ c.requires) c.in_ok-empty.ensures c.new.ensures.items refl,
        first_node s c.args.words.now h c.root-root.result root,
      ),
    )

pub returns-then-branch : goal.returns-then-branch
returns-then-branch c =
    let s = c.args.shape.now in
    let h = c.keeps.ensures.setting in
    let at : ℕ = c.root-root.result in
    let root : at ≡ root_at s = c.root-root.ensures in
    first_done s c.args.words.now h at root c.enter.new.table
    (if_yes c.in_ok-enter.field-0 _ _ (c.in_ok-enter.ensures s [] (
      h,
      c.requires,
      first_scan s c.args.words.now h at root _ _
          (c.len.ensures ∙ c.requires) c.in_ok-empty.ensures c.new.ensures.items refl,
      first_node s c.args.words.now h at root,
    ) (first_last s c.args.words.now h at root) (λ i. record { board = c.board.ensures.value i; player = c.colour.ensures i })) c.if-branch.true)

pub returns-else-branch : goal.returns-else-branch
returns-else-branch c =
    let s = c.args.shape.now in
    let h = c.keeps.ensures.setting in
    let at : ℕ = c.root-root.result in
    let root : at ≡ root_at s = c.root-root.ensures in
    if_no c.in_ok-enter.field-0 _ _ (c.in_ok-enter.ensures s [] (
      h,
      c.requires,
      first_scan s c.args.words.now h at root _ _
          (c.len.ensures ∙ c.requires) c.in_ok-empty.ensures c.new.ensures.items refl,
      first_node s c.args.words.now h at root,
    ) (first_last s c.args.words.now h at root) (λ i. record { board = c.board.ensures.value i; player = c.colour.ensures i })) c.if-branch.false
