use Rattle.std.proofs.Common.{refl, sym, ◌∙◌}
use Rattle.seq_search.specs.Descending.{spot_in}
use Rattle.seq_search.proofs.Reaches.{leaf-within, reached-made, holds-made, reached-none}
use Rattle.seq_search.proofs.reaching.reach.Goals as goal

pub expand-requires-clause-leaf : goal.expand-requires-clause-leaf
expand-requires-clause-leaf c =
    let q = c.requires in
    leaf-within c.args.shape.now q.0 c.args.words.now q.1 c.descend.new.walk q.3
    (c.descend.ensures.leaf q.0 q.1 q.2 q.3)

pub descend-requires-then-expand : goal.descend-requires-then-expand
descend-requires-then-expand c =
    let q = c.requires in
    let d = c.descend.new.walk in
    let m = holds-made c.args.shape.now q.0 c.args.words.now c.expand.new.words q.1 d c.keeps.ensures.setting q.3 q.4 (c.descend.ensures.leaf q.0 q.1 q.2 q.3)
    (c.expand.ensures.words (spot_in d) refl)
    (sym (c.expand.ensures.told (spot_in d) refl) ∙ c.if-expand.true) in
    (m.0, q.1, q.2, m.1)

pub returns-then-expand : goal.returns-then-expand
returns-then-expand c bs k l h rooted =
    let d = c.descend.new.walk in
    reached-made c.args.shape.now bs c.args.words.now c.expand.new.words k d c.descend-then-expand.new.walk c.keeps.ensures.setting h rooted
    (c.descend.ensures.leaf bs k l h)
    (c.expand.ensures.words (spot_in d) refl)
    (sym (c.expand.ensures.told (spot_in d) refl) ∙ c.if-expand.true)
    (λ cs u. c.descend-then-expand.ensures.leaf cs k l u)

pub returns-else-expand : goal.returns-else-expand
returns-else-expand c bs k l h rooted =
    let d = c.descend.new.walk in
    reached-none c.args.shape.now bs c.args.words.now c.expand.new.words k d c.keeps.ensures.setting h (c.descend.ensures.leaf bs k l h)
    (c.expand.ensures.words (spot_in d) refl)
    (sym (c.expand.ensures.told (spot_in d) refl) ∙ c.if-expand.false)
