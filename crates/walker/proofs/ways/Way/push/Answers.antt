-- One level more at the end of the array is the first of the list.
use Rattle.std.proofs.Common.{ap, ◌∙◌, ◌∷◌, length, arith}
use Rattle.std.proofs.Math.ListN.{length-set}
use Rattle.walker.proofs.Levels.{levels-long, levels-set}
use Rattle.walker.proofs.ways.Way.push.Goals as goal

pub listed : goal.listed
listed c = omega (
  arith,
  c.self.invariant,
  c.requires,
  levels-long c.self.inside.levels c.self.inside.depth (omega (arith, c.self.invariant)),
  ap length c.self.view_is,
)

pub bounds-self-inside-self-inside : goal.bounds-self-inside-self-inside
bounds-self-inside-self-inside c
    = omega (
      arith,
      c.self.invariant,
      c.requires,
      levels-long c.self.inside.levels c.self.inside.depth (omega (arith, c.self.invariant)),
      ap length c.self.view_is,
    )

pub invariant_of-self : goal.invariant_of-self
invariant_of-self c = (
  omega (
    arith,
    c.self.invariant,
    c.requires,
    levels-long c.self.inside.levels c.self.inside.depth (omega (arith, c.self.invariant)),
    ap length c.self.view_is,
  ),
  length-set c.self.inside.levels c.self.inside.depth c.args.level ∙ c.self.invariant.1,
)

pub returns : goal.returns
returns c =
    levels-set c.self.inside.levels c.self.inside.depth c.args.level
    (omega (
      arith,
      c.self.invariant,
      c.requires,
      levels-long c.self.inside.levels c.self.inside.depth (omega (arith, c.self.invariant)),
      ap length c.self.view_is,
    ))
    ∙ ap (λ l. c.args.level ∷ l) c.self.view_is
