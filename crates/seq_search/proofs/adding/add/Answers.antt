use Rattle.std.proofs.Common.{◌+◌, ◌*◌, arith, subst, set as set_at}
use Rattle.seq_search.specs.Steps.{Records}
use Rattle.seq_search.proofs.Reaches.{leaf-within}
use Rattle.seq_search.proofs.Recordings.{recorded-holds, recorded-added, recorded-records}
use Rattle.seq_search.proofs.adding.add.Goals as goal

pub overflow_mul-words : goal.overflow_mul-words
overflow_mul-words c =
    let q = c.requires.walked in
    let fits = leaf-within c.args.shape.now q.0 c.args.words.now c.args.k c.args.walk.now q.1 q.2 in
    omega (arith, fits)

pub overflow_add-words : goal.overflow_add-words
overflow_add-words c =
    let q = c.requires.walked in
    let fits = leaf-within c.args.shape.now q.0 c.args.words.now c.args.k c.args.walk.now q.1 q.2 in
    omega (arith, fits, c.mark.ensures.range)

pub returns-clause-holds : goal.returns-clause-holds
returns-clause-holds c bs h d =
    recorded-holds c.args.shape.now bs c.args.words.now c.count.new.words c.args.k
    (2 * c.args.walk.now.node + c.mark.result) c.args.ending.now c.requires.number h
    (c.count.ensures bs c.args.k c.requires.number h d)

pub returns-clause-added : goal.returns-clause-added
returns-clause-added c bs h d =
    recorded-added c.args.shape.now bs c.args.words.now c.count.new.words c.args.k
    (2 * c.args.walk.now.node + c.mark.result) c.args.ending.now c.requires.number h
    (c.count.ensures bs c.args.k c.requires.number h d)

pub returns-clause-record : goal.returns-clause-record
returns-clause-record c =
    let q = c.requires.walked in
    subst (λ r. Records c.args.shape.now c.args.k (2 * c.args.walk.now.node
    + r) c.args.words.now (set_at c.count.new.words (2 + c.args.k) (2 * c.args.walk.now.node + c.mark.result))) c.mark.ensures.value
    (recorded-records c.args.shape.now q.0 c.args.words.now c.count.new.words c.args.k (2 * c.args.walk.now.node
    + c.mark.result) c.args.ending.now c.requires.number q.1 (c.count.ensures q.0 c.args.k c.requires.number q.1 q.2))
