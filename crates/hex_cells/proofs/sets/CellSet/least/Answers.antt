use Rattle.std.proofs.Common.{◌≡◌, arith}
use Rattle.hex_cells.proofs.Bits.{least_of, has_none}
use Rattle.hex_cells.proofs.sets.CellSet.least.Goals as goal

pub numbered-requires : goal.numbered-requires
numbered-requires c = (least_of _ (omega arith) c.self.invariant).0

pub returns-then-self-eq0 : goal.returns-then-self-eq0
returns-then-self-eq0 c
    = λ k. (let e : c.args.self ≡ 0 = grind (arith, c.if-self-eq0.true) in rw e (has_none k))

pub returns-else-self-eq0 : goal.returns-else-self-eq0
returns-else-self-eq0 c = let t = least_of c.self.inside.bits (omega arith) c.self.invariant in
    (cc t.1, λ k l. cc (t.2 k (rw (c.numbered.ensures) at l)))
