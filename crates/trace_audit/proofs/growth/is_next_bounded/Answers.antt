use Rattle.std.proofs.Common.{◌≡◌, ℕ, ◌+◌, ◌*◌, ap, ◌∙◌, arith}
use Rattle.std.specs.Prelude.{slice_index}
use Rattle.tree_words.specs.Words.{nodes_in}
use Rattle.trace_audit.proofs.InBlock.{le_match}
use Rattle.trace_audit.proofs.growth.is_next_bounded.Goals as goal

pub returns : goal.returns
returns c =
    let words = c.args.words.now in
    let r : ℕ = c.root-root.result in
    let w : ℕ = c.knobs.result.now.workers in
    let b : ℕ = slice_index words (r + 1) in
    let order : b + 4 + 4 * nodes_in words b ≡ b + (4 + 4 * nodes_in words b) = omega arith in
    le_match _ _ _ _ c.at-2.ensures
    (ap (λ (z : ℕ). c.at-block.result + 4 + 4 * z + w * c.args.others + 488 * w) c.at.ensures
    ∙ ap (λ (z : ℕ). z + 4 + 4 * nodes_in words z + w * c.args.others + 488 * w) c.at-block.ensures
    ∙ ap (λ (z : ℕ). z + w * c.args.others + 488 * w) order
    ∙ (λ i. let l : ℕ = slice_index words (c.root-root.ensures i + 1) in
    l + (4 + 4 * nodes_in words l) + (c.knobs.ensures.value i).workers * c.args.others + 488 * (c.knobs.ensures.value i).workers))
