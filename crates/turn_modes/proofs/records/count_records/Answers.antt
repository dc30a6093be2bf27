use Rattle.std.proofs.Common.{◌≡◌, ℕ, ◌+◌, ◌==◌, not, Bool, List, sym, ap, ◌∙◌, arith}
use Rattle.std.specs.Prelude.{slice_range}
use Rattle.std.specs.List.{count_by}
use Rattle.tree_words.specs.Words.{root_at}
use Rattle.turn_modes.specs.Records.{records_in}
use Rattle.turn_modes.proofs.Recorded.{all_recorded, first_range}
use Rattle.turn_modes.proofs.records.count_records.Goals as goal

-- the records stand among the first words
counted : (c : goal.After-count_words) → c.count_words.result ≡ records_in c.args.closed.now
counted c =
    let tree = c.args.closed.now in
    let order : tree.shape.knobs.playouts + 2 ≡ 2 + tree.shape.knobs.playouts = omega arith in
    let root : c.root-root.result ≡ 2 + tree.shape.knobs.playouts
    = c.root-root.ensures ∙ ap root_at c.shape.ensures.value ∙ order in
    let some : ℕ → Bool = λ word. not (word == 0) in
    c.count_words.ensures
    ∙ ap (λ end. count_by some (slice_range c.words.result.now 2 end)) root
    ∙ ap (count_by some)
    (sym (first_range tree.shape c.words.result.now 2 (2 + tree.shape.knobs.playouts) (omega arith)
    (omega (arith, c.words.ensures.first.least))))
    ∙ ap (λ (words : List ℕ). count_by some (slice_range words 2 (2 + tree.shape.knobs.playouts)))
    (sym c.words.ensures.value)

pub returns-clause-value : goal.returns-clause-value
returns-clause-value c = counted c

pub returns-clause-all : goal.returns-clause-all
returns-clause-all c = counted c
    ∙ all_recorded c.args.closed.now.shape c.args.closed.now.words c.words.ensures.closed
