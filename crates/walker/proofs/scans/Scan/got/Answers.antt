-- What keeping a child leaves as it was.
use Rattle.std.proofs.Common.{◌≡◌, ◌+◌, sym, ap, ◌∙◌, arith}
use Rattle.walker.specs.declared.scans.Phase.{Phase}
use Rattle.walker.specs.declared.scans.Phase.TheVariants.{Move, Seen}
use Rattle.walker.specs.Scans.{ScanData, child_in, kept, scan_on}
use Rattle.walker.proofs.Keeping.{kept-at}
use Rattle.walker.proofs.scans.Scan.got.Goals as goal

pub overflow_add-self-in-Seen : goal.overflow_add-self-in-Seen
overflow_add-self-in-Seen c =
    omega (
      arith,
      ap (λ (z : ScanData). z.at) (c.self-in-Seen.view_is ∙ c.keep.ensures),
      kept-at c.args.self.now (child_in c.args.self.now c.args.answer),
      c.requires.at,
    )

pub returns-in-Seen : goal.returns-in-Seen
returns-in-Seen c =
    let d : ScanData = c.args.self.now in
    let k : ScanData = kept d (child_in d c.args.answer) in
    let phase : d.phase ≡ Seen = sym (ap (λ (z : ScanData). z.phase) c.self.view_is)
    ∙ c.in-Seen.is in
    ap (λ (z : ScanData). record z { at = z.at + 1; phase = Move })
    (c.self-in-Seen.view_is ∙ c.keep.ensures)
    ∙ (λ i. record k { at = kept-at d (child_in d c.args.answer) i + 1; phase = Move; place = d.place + 1 })
    ∙ sym (ap (λ (p : Phase). scan_on p d c.args.answer) phase)
