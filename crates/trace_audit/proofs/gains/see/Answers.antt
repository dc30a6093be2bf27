use Rattle.std.proofs.Common.{◌≡◌, ℕ, ◌+◌, ◌*◌, ◌<◌, Bool, cond, List, slice_index, length, sym, ap}
use Rattle.std.proofs.Common.{◌∙◌, subst, arith}
use Rattle.hex_cells.specs.Sets.{has as has_cell}
use Rattle.tree_words.specs.Words.{cell_in}
use Rattle.trace_audit.specs.Gains.{Sees, stone_gift}
use Rattle.trace_audit.proofs.Seeing.{sees_next, sees_past}
use Rattle.trace_audit.proofs.gains.see.Goals as goal
use Rattle.trace_audit.proofs.gains.see.Goals.{then-has, else-has}

pub nodes-preserved : goal.nodes-preserved
nodes-preserved c =
    let b : ℕ = c.args.block in
    let n : ℕ = c.nodes.place in
    let gift : ℕ → ℕ = stone_gift c.args.stones c.args.amount in
    let is : c.has.result ≡ has_cell c.args.stones
    (cell_in (slice_index c.args.words.now (b + 4 + 4 * n))) = c.has.ensures
    ∙ ap (has_cell c.args.stones)
    (c.numbered.ensures ∙ c.cell_of.ensures ∙ ap cell_in c.at.ensures) in
    let fits : b + 4 + 4 * n + 3 < length c.args.sums.now
    = omega (arith, c.requires.within, c.nodes-test.true, c.at-count.ensures, c.requires.long) in
    elim c.if-has.branch [
      | then-has w ↦ subst (λ (l : List ℕ). Sees c.args.words.now b (n + 1) gift c.args.sums.now l)
          (sym w.sums-is)
          (sees_next c.args.words.now b n gift c.args.sums.now c.nodes.sums c.nodes.invariant _
          (ap (λ (t : Bool). slice_index c.nodes.sums (b + 4 + 4 * n + 3) + cond t c.args.amount 0) (sym (sym is ∙ w.if-has.true))) fits)
      | else-has w ↦ subst (λ (l : List ℕ). Sees c.args.words.now b (n + 1) gift c.args.sums.now l)
          (sym w.sums-is)
          (sees_past c.args.words.now b n gift c.args.sums.now c.nodes.sums c.nodes.invariant
          (ap (λ (t : Bool). cond t c.args.amount 0) (sym is ∙ w.if-has.false)))
    ]
