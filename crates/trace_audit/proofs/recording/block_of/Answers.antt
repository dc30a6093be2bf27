use Rattle.std.proofs.Common.{◌≡◌, ℕ, ◌+◌, ◌-◌, ◌*◌, ◌/◌, ap, arith}
use Rattle.std.specs.Prelude.{slice_index}
use Rattle.trace_audit.proofs.LinkedLaws.{block_entry, block_found, count_word, node_most}
use Rattle.trace_audit.proofs.LinkedLaws.{place_word}
use Rattle.trace_audit.proofs.recording.block_of.Goals as goal

pub returns-then-len-leaf : goal.returns-then-len-leaf
returns-then-len-leaf c = λ s bs g b i n. let h = g.0 in let long = g.1 in let lk = g.2 in
    let m = node_most s c.args.words.now c.args.table.now bs h lk b c.args.leaf i n in
    omega (arith, m, long, c.if-len-leaf.true, c.len.ensures)

pub returns-then-leaf-before : goal.returns-then-leaf-before
returns-then-leaf-before c = λ s bs g b i n. let h = g.0 in let long = g.1 in let lk = g.2 in
    let m = place_word s c.args.words.now c.args.table.now bs h lk b c.args.leaf i n in
    omega (arith, m.0, c.if-leaf-before.true, c.at.ensures)

pub returns-then-entry-eq0 : goal.returns-then-entry-eq0
returns-then-entry-eq0 c = λ s bs g b i n. let h = g.0 in let long = g.1 in let lk = g.2 in
    let m = place_word s c.args.words.now c.args.table.now bs h lk b c.args.leaf i n in
    let at : c.args.leaf - (4 + 4 * (c.at.result / 256)) ≡ b.start
    = omega (arith, m.0, c.at.ensures) in
    let most = node_most s c.args.words.now c.args.table.now bs h lk b c.args.leaf i n in
    let all = lk.table.long in
    let none = c.entry.ensures in
    omega (arith, c.if-entry-eq0.true, none, ap (slice_index c.args.table.now.index) at, block_entry s c.args.words.now c.args.table.now bs h lk b i)

pub returns-then-at-place : goal.returns-then-at-place
returns-then-at-place c = λ s bs g b i n. let h = g.0 in let long = g.1 in let lk = g.2 in
    let m = place_word s c.args.words.now c.args.table.now bs h lk b c.args.leaf i n in
    let at : c.args.leaf - (4 + 4 * (c.at.result / 256)) ≡ b.start
    = omega (arith, m.0, c.at.ensures) in
    omega (
      arith,
      c.if-at-place.true,
      c.at-2.ensures,
      ap (λ (y : ℕ). slice_index c.args.words.now (y + 3)) at,
      count_word s c.args.words.now c.args.table.now bs h lk b i,
      m.1,
      c.at.ensures,
    )

pub returns : goal.returns
returns c = λ s bs g. let h = g.0 in let long = g.1 in let lk = g.2 in
    let all = lk.table.long in
    let some = c.entry.ensures in
    block_found s c.args.words.now c.args.table.now bs h lk c.args.leaf (c.at.result / 256)
    (ap (λ (w : ℕ). w / 256) c.at.ensures) (omega (arith, c.if-leaf-before.false))
    (omega (arith, some, c.if-entry-eq0.false))
    (omega (arith, c.if-at-place.false, c.at-2.ensures))
