use Rattle.std.proofs.Common.{◌≡◌, ℕ, ◌+◌, ◌<◌, ◌≤◌, length, set, refl, sym, ap, ◌∙◌, arith}
use Rattle.tree_words.specs.Words.{end_of}
use Rattle.trace_audit.specs.Slots.{IsNearTaken}
use Rattle.std.specs.Prelude.{slice_index}
use Rattle.trace_audit.proofs.Scanning.{enter_none}
use Rattle.trace_audit.proofs.Entering.{enter_some, node_inside}
use Rattle.trace_audit.proofs.Matches.{match_on}
use Rattle.trace_audit.proofs.MustStand.{two_close}
use Rattle.trace_audit.proofs.entries.enter.Goals as goal

pub overflow_add-x : goal.overflow_add-x
overflow_add-x c = let r = c.requires in
    let k = node_inside r.0 c.args.words.now c.args.table.now c.args.x c.args.free r.1 c.args.x r.2.0 r.2.2 r.2.3 in omega (arith, k)

pub at-link-requires : goal.at-link-requires
at-link-requires c = let r = c.requires in
    let k = node_inside r.0 c.args.words.now c.args.table.now c.args.x c.args.free r.1 c.args.x r.2.0 r.2.2 r.2.3 in omega (arith, k, r.2.1)

pub returns-then-start-free : goal.returns-then-start-free
returns-then-start-free c = λ s bs g last e. let h = g.0 in let long = g.1 in let sc = g.2 in
    let n = g.3 in
    enter_none s c.args.words.now h c.args.table.now c.args.x c.args.free bs sc n last long
    (omega (arith, c.if-link-eq0.false, c.at-link.ensures))
    (λ z. omega (arith, c.if-start-free.true, z.0, c.at-link.ensures))

pub returns-then-len-start : goal.returns-then-len-start
returns-then-len-start c = λ s bs g last e. let h = g.0 in let long = g.1 in let sc = g.2 in
    let n = g.3 in
    enter_none s c.args.words.now h c.args.table.now c.args.x c.args.free bs sc n last long
    (omega (arith, c.if-link-eq0.false, c.at-link.ensures))
    (λ z. omega (arith, c.if-len-start.true, c.len.ensures, z.1, c.at-link.ensures))

pub returns-then-at-x : goal.returns-then-at-x
returns-then-at-x c = λ s bs g last e. let h = g.0 in let long = g.1 in let sc = g.2 in
    let n = g.3 in
    enter_none s c.args.words.now h c.args.table.now c.args.x c.args.free bs sc n last long
    (omega (arith, c.if-link-eq0.false, c.at-link.ensures))
    (λ z. c.if-at-x.true (c.at.ensures ∙ ap (slice_index c.args.words.now) c.at-link.ensures ∙ z.2))

pub returns : goal.returns
returns c = λ s bs g last e. let h = g.0 in let long = g.1 in let sc = g.2 in let n = g.3 in
    let start : ℕ = c.at-link.result in
    let free : c.args.free ≤ start = omega (arith, c.if-start-free.false) in
    let inside : start < end_of s = omega (arith, c.if-len-start.false, c.len.ensures, long) in
    let number : c.in_ok-number.number ≡ length c.args.table.now.sites.items + 1
    = omega (arith, c.in_ok-number.ensures.value, c.len-2.ensures, c.in-Ok.ensures.len, c.args.table.now.sites.ok.0) in
    match_on c.enter.result
    (c.enter.new.self ≡ set c.args.table.now.index start c.in_ok-number.number)
    (IsNearTaken c.args.table.now.index start) _ _
    (λ m. enter_some s c.args.words.now c.args.table.now _ c.args.x c.args.free bs sc n _ start refl e
    (sym c.at-link.ensures) free inside (sym c.at.ensures ∙ c.if-at-x.false)
    (m ∙ ap (λ (k : ℕ). set c.args.table.now.index start k) number) c.in-Ok.ensures.items refl)
    (λ m. two_close s c.args.words.now h c.args.table.now c.args.x c.args.free bs sc n start (sym c.at-link.ensures)
    free m.0 (record { board = s.board; start = 0; player = s.player }) m.1 m.2 m.3 m.4)
    c.enter.ensures
