use Rattle.std.proofs.Common.{◌≡◌, arith, ◌∙◌, ap}
use Rattle.play_out.specs.Fills.{filled, playout_of}
use Rattle.tree_words.specs.Settings.{Setting}
use Rattle.tree_words.specs.Sequence.{outcome_of}
use Rattle.seq_search.specs.Searching.{Searched, Reached}
use Rattle.seq_search.specs.Descending.{spot_in}
use Rattle.seq_search.proofs.Searches.{outcome-is, searched-more}
use Rattle.seq_search.proofs.search.walk.Goals as goal

pub add-requires-clause-walked : goal.add-requires-clause-walked
add-requires-clause-walked g c =
    let s : Setting = c.args.shape.now in
    let w : Searched s c.args.words.now c.args.k = c.requires.searched in
    let r : Reached s w.blocks c.args.k c.args.words.now c.reach.new.words c.reach.new.walk
    = c.reach.ensures w.blocks c.args.k (omega (arith, c.requires.number)) w.holds
    (omega (arith, w.standing.rooted)) in
    (r.blocks, r.holds, r.descended)

pub returns : goal.returns
returns g c =
    let s : Setting = c.args.shape.now in
    let w : Searched s c.args.words.now c.args.k = c.requires.searched in
    let r : Reached s w.blocks c.args.k c.args.words.now c.reach.new.words c.reach.new.walk
    = c.reach.ensures w.blocks c.args.k (omega (arith, c.requires.number)) w.holds
    (omega (arith, w.standing.rooted)) in
    let seed : c.knobs.result.now.seed ≡ s.knobs.seed = ap (λ k. k.seed) c.knobs.ensures.value in
    let played : c.play-ending.result ≡ outcome_of s c.args.k (spot_in c.reach.new.walk)
    = outcome-is s c.args.k
    (spot_in c.reach.new.walk) c.play-ending.result.winner c.play-ending.result.full
    (c.play-ending.ensures.winner ∙ (λ i. playout_of c.reach.new.walk.board c.reach.new.walk.player (seed i) (c.from.ensures i)))
    (c.play-ending.ensures.full ∙ (λ i. filled c.reach.new.walk.board c.reach.new.walk.player (seed i) (c.from.ensures i))) in
    searched-more s c.args.words.now c.reach.new.words c.add.new.words c.args.k c.reach.new.walk c.play-ending.result c.keeps.ensures.setting
    c.requires.number w r
    played (c.add.ensures.holds r.blocks r.holds r.descended)
    (c.add.ensures.added r.blocks r.holds r.descended) c.add.ensures.record
