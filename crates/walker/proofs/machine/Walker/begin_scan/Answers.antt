-- The block has as many nodes as the set has cells.
use Rattle.std.proofs.Common.{◌≡◌, length, sym, ap, ◌∙◌, arith}
use Rattle.tree_words.specs.Writing.{listed}
use Rattle.hex_cells.specs.Sets.{members}
use Rattle.walker.specs.declared.stages.Stage.TheVariants.{Scanning}
use Rattle.walker.specs.declared.machine.Walker.{Walker}
use Rattle.walker.specs.Scans.{ScanData, scan_of}
use Rattle.walker.specs.Machine.{cells_in}
use Rattle.walker.proofs.CellLaws.{count-listed}
use Rattle.walker.proofs.Cases.{headed-leaf, headed-scan}
use Rattle.walker.proofs.machine.Walker.begin_scan.Goals as goal

pub returns-then-count-eq0 : goal.returns-then-count-eq0
returns-then-count-eq0 c =
    let w : Walker = c.args.self.now in
    let many : members c.cells.result 121 ≡ length (listed w.shape.board.size c.cells.result)
    = count-listed c.cells.result w.shape.board.size c.cells.ensures.size
    (c.cells.ensures.within c.requires.size) in
    c.play_out.ensures ∙ sym (headed-leaf w c.requires.last
    (ap (λ s. length (listed w.shape.board.size s)) (sym c.cells.ensures.value) ∙ (sym many ∙ (sym c.count-count.ensures.value ∙ c.if-count-eq0.true))))

pub returns : goal.returns
returns c =
    let w : Walker = c.args.self.now in
    let many : members c.cells.result 121 ≡ length (listed w.shape.board.size c.cells.result)
    = count-listed c.cells.result w.shape.board.size c.cells.ensures.size
    (c.cells.ensures.within c.requires.size) in
    let count : c.count-count.result ≡ length (cells_in w) = c.count-count.ensures.value
    ∙ (many ∙ ap (λ s. length (listed w.shape.board.size s)) c.cells.ensures.value) in
    let scan : c.of-self.result ≡ scan_of w.start
    (length (cells_in w)) w.visits w.shape.knobs.weight = c.of-self.ensures
    ∙ (λ i. scan_of w.start (count i) w.visits (c.knobs.ensures.value i).weight) in
    ap (λ (s : ScanData). record w { stage = Scanning; scan = s }) scan
    ∙ sym (headed-scan w c.requires.last (omega (arith, count, c.if-count-eq0.false)))
