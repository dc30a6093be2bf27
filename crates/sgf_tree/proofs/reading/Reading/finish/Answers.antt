use Rattle.std.proofs.Common.{◌≡◌, ◌<◌, length, arith}
use Rattle.std.proofs.lemmas.Bool.Decides.{nat_tests}
use Rattle.sgf_tree.proofs.Finishing.{is_final, is_not_final}
use Rattle.sgf_tree.proofs.reading.Reading.finish.Goals as goal

pub returns-clause-some : goal.returns-clause-some
returns-clause-some c =
    let r = c.args.self in
    let ground : length r.outer.items ≡ 0 = grind (arith, nat_tests) in
    let some : 0 < length r.kids.items = grind (arith, nat_tests) in
    rw c.of-trees.ensures
    (is_final r.place r.outer.items r.nodes.items r.kids.items r.props.items r.name.items r.values.items r.value.items c.in-Between.is ground some)

pub returns-then-not-is_empty-clause-none : goal.returns-then-not-is_empty-clause-none
returns-then-not-is_empty-clause-none c =
    let r = c.args.self in
    let many : 0 < length r.outer.items = grind (arith, nat_tests) in
    is_not_final r.place r.outer.items r.nodes.items r.kids.items r.props.items r.name.items r.values.items r.value.items c.in-Between.is many
