use Rattle.std.proofs.Common.{◌≡◌, ◌+◌, ◌<◌, ℕ, true, cond, slice_index, length}
use Rattle.std.proofs.Common.{refl, ap, ◌∙◌, arith}
use Rattle.hex_cells.specs.Sets.{has as has_cell}
use Rattle.tree_words.specs.Words.{cell_in, node_at}
use Rattle.tree_words.proofs.Walks.Countings.{cond-most}
use Rattle.seq_search.proofs.Additions.{sighted-move, sighted-word, sighted-next}
use Rattle.seq_search.proofs.adding.see.Goals as goal

pub overflow_add-words : goal.overflow_add-words
overflow_add-words c =
    let b : ℕ = c.args.block in let n : ℕ = c.nodes.place in
    let same = sighted-word b n c.args.stones c.args.amount c.args.words.now c.nodes.words c.nodes.invariant in
    let room = c.requires.small n c.nodes-test.true in
    let gain = cond-most (has_cell c.args.stones c.numbered.result) c.args.amount in
    omega (arith, same, room, c.gain_at.ensures, gain)

pub nodes-preserved : goal.nodes-preserved
nodes-preserved c =
    let b : ℕ = c.args.block in let n : ℕ = c.nodes.place in
    let cell : c.numbered.result ≡ cell_in (slice_index c.args.words.now (node_at b n))
    = c.numbered.ensures ∙ c.cell_of.ensures
    ∙ ap cell_in
    (sighted-move b n c.args.stones c.args.amount c.args.words.now c.nodes.words c.nodes.invariant) in
    let is : c.gain_at.result ≡ cond (has_cell c.args.stones (cell_in (slice_index c.args.words.now (node_at b n)))) c.args.amount 0
    = c.gain_at.ensures ∙ ap (λ (x : ℕ). cond (has_cell c.args.stones x) c.args.amount 0) cell in
    let fits : node_at b n + 3 < length c.args.words.now
    = omega (arith, c.requires.within, c.nodes-test.true) in
    sighted-next b n c.args.stones c.args.amount c.args.words.now c.nodes.words c.nodes.invariant c.gain_at.result is fits _ refl
