-- The answers of a child's three looks at once.
use Rattle.std.proofs.Common.{ℕ, ◌+◌, ap, ◌∙◌, arith}
use Rattle.walker.specs.Scans.{ScanData, child_in, kept}
use Rattle.walker.proofs.Keeping.{kept-at, whole-child}
use Rattle.walker.proofs.scans.Scan.got_child.Goals as goal

-- what is kept of a child with these counts, at the next place
abbrev counted : ℕ → ℕ → ScanData → ScanData
counted t s d
    = record (kept (record d { tally = t }) (child_in (record d { tally = t }) s)) { place = d.place + 1 }

pub overflow_add-self : goal.overflow_add-self
overflow_add-self c =
    let d : ScanData = record c.args.self.now { tally = c.args.tally } in
    let is = c.self-2.view_is
    ∙ (c.keep.ensures ∙ ap (counted c.args.tally c.args.seen) c.self.view_is) in
    omega (arith, ap (λ (z : ScanData). z.at) is, kept-at d (child_in d c.args.seen), c.requires.can.at)

pub returns : goal.returns
returns c =
    ap (λ (z : ScanData). record z { at = z.at + 4 })
    (c.self-2.view_is ∙ (c.keep.ensures ∙ ap (counted c.args.tally c.args.seen) c.self.view_is))
    ∙ whole-child c.args.self.now c.args.moved c.args.tally c.args.seen c.requires.phase
