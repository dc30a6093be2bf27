use Rattle.std.proofs.Common.{ℕ, ◌+◌, ◌≤◌, ◌^◌, ◌/◌, List, length, slice_index, sym, ap, ◌∙◌, subst}
use Rattle.std.proofs.Common.{arith}
use Rattle.hex_board.specs.Positions.{stones_of}
use Rattle.hex_cells.specs.Colours.{is_same}
use Rattle.tree_words.specs.Sequence.{amount_of}
use Rattle.tree_words.specs.Words.{nodes_in, winner_in}
use Rattle.tree_words.specs.Blocks.{LinkedBlock, block_size}
use Rattle.trace_audit.specs.Gains.{AreCells, GainsLeaf, CanGain, IsNodeOf}
use Rattle.trace_audit.proofs.AddPlayout.{no_record, playout_added, right_record, wrong_record}
use Rattle.trace_audit.proofs.Gained.{block_cells, block_within, node_of}
use Rattle.trace_audit.proofs.Matches.{if_no, if_yes}
use Rattle.trace_audit.proofs.OwnSums.{leaf_room, seen_room, tally_room, total_room}
use Rattle.trace_audit.proofs.recording.add.Goals as goal

pub returns-in_default : goal.returns-in_default
returns-in_default c = λ bs lk a. no_record c.args.shape.now bs c.args.words.now c.args.k _
    (ap (λ (w : ℕ). w / 2) (sym c.at-word.ensures))
    (c.in_default.ensures c.args.shape.now bs (c.keeps.ensures.setting, c.requires.long, lk))

pub gain_leaf-requires-clause-within : goal.gain_leaf-requires-clause-within
gain_leaf-requires-clause-within c =
    let s = c.args.shape.now in
    let h = c.keeps.ensures.setting in
    let bs : List LinkedBlock = c.requires.sums.0 in
    let lk = c.requires.sums.1 in
    let a = c.requires.sums.2 in
    let f = c.in-Some.ensures s bs (h, c.requires.long, lk) in
    subst (λ (q : ℕ). q + block_size (nodes_in c.args.words.now q) ≤ length c.args.words.now) f.2
    (block_within s c.args.words.now bs h lk.linked f.0 f.1 c.requires.long)

pub gain_leaf-requires-clause-cells : goal.gain_leaf-requires-clause-cells
gain_leaf-requires-clause-cells c =
    let s = c.args.shape.now in
    let h = c.keeps.ensures.setting in
    let bs : List LinkedBlock = c.requires.sums.0 in
    let lk = c.requires.sums.1 in
    let a = c.requires.sums.2 in
    let f = c.in-Some.ensures s bs (h, c.requires.long, lk) in
    subst (AreCells c.args.words.now) f.2 (block_cells s c.args.words.now bs h lk.linked f.0 f.1)

pub gain_leaf-requires-clause-node : goal.gain_leaf-requires-clause-node
gain_leaf-requires-clause-node c =
    let s = c.args.shape.now in
    let h = c.keeps.ensures.setting in
    let bs : List LinkedBlock = c.requires.sums.0 in
    let lk = c.requires.sums.1 in
    let a = c.requires.sums.2 in
    let f = c.in-Some.ensures s bs (h, c.requires.long, lk) in
    subst (λ (q : ℕ). IsNodeOf c.args.words.now q (c.at-word.result / 2)) f.2
    (node_of s c.args.words.now bs h lk.linked f.0 _ f.1 f.3)

pub gain_leaf-requires-clause-small : goal.gain_leaf-requires-clause-small
gain_leaf-requires-clause-small c =
    let s = c.args.shape.now in
    let h = c.keeps.ensures.setting in
    let bs : List LinkedBlock = c.requires.sums.0 in
    let lk = c.requires.sums.1 in
    let a = c.requires.sums.2 in
    let f = c.in-Some.ensures s bs (h, c.requires.long, lk) in
    subst (λ (q : ℕ). CanGain c.args.words.now c.args.sums.now q (2 ^ 32 + 1)) f.2
    (seen_room s c.args.words.now bs h lk.linked c.args.sums.now c.args.k a c.requires.number f.0 f.1 _ f.3)

pub gain_leaf-requires-clause-tally : goal.gain_leaf-requires-clause-tally
gain_leaf-requires-clause-tally c =
    let s = c.args.shape.now in
    let h = c.keeps.ensures.setting in
    let bs : List LinkedBlock = c.requires.sums.0 in
    let lk = c.requires.sums.1 in
    let a = c.requires.sums.2 in
    let f = c.in-Some.ensures s bs (h, c.requires.long, lk) in
    let w = tally_room s c.args.words.now bs h lk.linked c.args.sums.now c.args.k a c.requires.number f.0 f.1 _ f.3 in
    omega (arith, w)

pub gain_leaf-requires-clause-total : goal.gain_leaf-requires-clause-total
gain_leaf-requires-clause-total c =
    let s = c.args.shape.now in
    let h = c.keeps.ensures.setting in
    let bs : List LinkedBlock = c.requires.sums.0 in
    let lk = c.requires.sums.1 in
    let a = c.requires.sums.2 in
    let f = c.in-Some.ensures s bs (h, c.requires.long, lk) in
    let w = total_room s c.args.words.now bs h lk.linked c.args.sums.now c.args.k a c.requires.number f.0 f.1 _ f.3 in
    omega (arith, ap (slice_index c.args.sums.now) f.2, w)

pub gain_leaf-requires-clause-leaves : goal.gain_leaf-requires-clause-leaves
gain_leaf-requires-clause-leaves c =
    let s = c.args.shape.now in
    let h = c.keeps.ensures.setting in
    let bs : List LinkedBlock = c.requires.sums.0 in
    let lk = c.requires.sums.1 in
    let a = c.requires.sums.2 in
    let f = c.in-Some.ensures s bs (h, c.requires.long, lk) in
    leaf_room s c.args.words.now bs h lk.linked c.args.sums.now c.args.k a c.requires.number f.0 f.1 _ f.3

pub returns-then-not-is_winner : goal.returns-then-not-is_winner
returns-then-not-is_winner c = λ bs lk a.
    let s = c.args.shape.now in
    let h = c.keeps.ensures.setting in
    let f = c.in-Some.ensures s bs (h, c.requires.long, lk) in
    let state = c.site_of-site.ensures s bs (h, c.requires.long, lk) f in
    wrong_record s bs c.args.words.now c.args.k h lk.linked _
    (ap (λ (w : ℕ). w / 2) (sym c.at-word.ensures)) f.0 f.1 f.3 c.site_of-site.result state c.ending_of-ending.result _ _
    (ap (λ k. k.seed) c.knobs.ensures.value) c.from.ensures c.ending_of-ending.ensures.full c.ending_of-ending.ensures.winner
    (λ z. if_no c.is_winner.result _ _ c.is_winner.ensures c.if-not-is_winner.true (z ∙ ap winner_in (sym c.at-word.ensures)))

pub returns : goal.returns
returns c = λ bs lk a.
    let s = c.args.shape.now in
    let h = c.keeps.ensures.setting in
    let f = c.in-Some.ensures s bs (h, c.requires.long, lk) in
    let state = c.site_of-site.ensures s bs (h, c.requires.long, lk) f in (
      right_record s bs c.args.words.now c.args.k h lk.linked _
          (ap (λ (w : ℕ). w / 2) (sym c.at-word.ensures)) f.0 f.1 f.3 c.site_of-site.result state c.ending_of-ending.result _ _
          (ap (λ k. k.seed) c.knobs.ensures.value) c.from.ensures c.ending_of-ending.ensures.full c.ending_of-ending.ensures.winner
          (if_yes c.is_winner.result _ _ c.is_winner.ensures c.if-not-is_winner.false ∙ ap winner_in c.at-word.ensures),
      playout_added s bs c.args.words.now c.args.k h lk.linked _
          (ap (λ (w : ℕ). w / 2) (sym c.at-word.ensures)) f.0 f.1 f.3 c.site_of-site.result state c.ending_of-ending.result _ _
          (ap (λ k. k.seed) c.knobs.ensures.value) c.from.ensures c.ending_of-ending.ensures.full c.ending_of-ending.ensures.winner
          c.args.sums.now c.gain_leaf.new.sums c.other.result a c.requires.number c.other.ensures c.ending_of-ending.ensures.filled
          (subst (λ (q : ℕ). GainsLeaf c.args.words.now q (c.at-word.result / 2) (amount_of (is_same c.ending_of-ending.result.winner c.other.result))
          (stones_of c.ending_of-ending.result.full c.other.result) c.args.sums.now c.gain_leaf.new.sums) (sym f.2) c.gain_leaf.ensures),
    )
