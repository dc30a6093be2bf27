-- More visits than the table has are bounded by those of their quotient.
use Rattle.std.proofs.Common.{◌+◌, ◌-◌, ◌*◌, ◌/◌, ◌^◌, ◌≤◌, subst}
use Rattle.uct_table.specs.Scores.{bonus_of}
use Rattle.uct_table.specs.Choice.{ParentData}
use Rattle.uct_table.proofs.Bounds.{in_table, quartered_bound}
use Rattle.uct_table.proofs.scorer.Parent.most_bonus.Goals as goal

pub reciprocal_root-requires-2 : goal.reciprocal_root-requires-2
reciprocal_root-requires-2 c = in_table c.args.v c.ilog2.result c.ilog2.ensures.power_le c.ilog2.ensures.next_power_gt c.if-v-lt-TABLED_VISITS.false

pub returns : goal.returns
returns c =
    subst (λ (p : ParentData). bonus_of p.visits c.args.v p.weight ≤ c.self.inside.factor * c.reciprocal_root-2.result / 2 ^ (28 + (c.ilog2.result - 8) / 2))
    c.self.view_is
    (quartered_bound c.self.inside.visits c.args.v c.self.inside.weight c.self.inside.factor c.reciprocal_root-2.result ((c.ilog2.result - 8) / 2)
    c.self.invariant.above c.reciprocal_root-2.ensures.above)
