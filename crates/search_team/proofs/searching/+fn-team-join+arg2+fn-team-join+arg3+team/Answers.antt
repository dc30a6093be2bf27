-- Each half is fresh before its thread, and what the two leave is done.
use Rattle.std.proofs.Common.{rules, arith, ◌/◌, ◌-◌}
use Rattle.search_team.proofs.Halves.{kept-fresh, given-fresh, joined-done}
use Rattle.search_team.proofs.searching.+fn-team-join+arg2+fn-team-join+arg3+team.Goals as goal

pub join-left-requires-after_bounds : goal.join-left-requires-after_bounds
join-left-requires-after_bounds g t c =
    let kept = kept-fresh c.args.tree.now c.args.seat c.split-other.new.self c.args.workers
    (c.args.workers / 2)
    c.requires.fresh c.split-other.ensures.own.0 c.split-other.ensures.kept c.split-other.ensures.order.0 c.split-other.ensures.owed.0 in
    let given = given-fresh c.args.tree.now c.args.seat c.split-other.result (c.args.workers / 2)
    c.split-other.ensures.own.1 c.split-other.ensures.given c.split-other.ensures.order.1 c.split-other.ensures.owed.1 in
    λ κs lives. (
      (
        search rules,
        (
          λ a m. m,
          (
            λ a m. m,
            ((search rules, c.requires.shape, kept, (let l = c.requires.few in omega (arith, l))), (search rules, search rules)),
          ),
        ),
      ),
      (
        search rules,
        (
          λ a m. m,
          (
            λ a m. m,
            ((search rules, c.requires.shape, given, (let l = c.requires.few in omega (arith, l))), (search rules, search rules)),
          ),
        ),
      ),
    )

pub returns : goal.returns
returns g t c = record {
  done = joined-done c.args.tree.now c.join-left.result.0 c.join-left.result.1 c.join.new.self
      (c.args.workers - c.args.workers / 2) (c.args.workers / 2) c.args.workers
      c.join-left.ensures.first c.join-left.ensures.second c.join.ensures.own c.join.ensures.both c.join.ensures.order c.join.ensures.owed (omega arith);
}
