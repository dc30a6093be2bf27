use Rattle.std.proofs.Common.{sym, eq-eqb}
use Rattle.std.proofs.lemmas.Bool.{eqb-true}
use Rattle.hex_cells.proofs.Bits.{inside_out, inside_in}
use Rattle.hex_cells.proofs.sets.CellSet.inside.Goals as goal

pub returns : goal.returns
returns c = rw (sym c.self.view_is, sym c.other.view_is) (
  (λ h k. inside_out c.self.inside.bits c.other.inside.bits k c.self.invariant c.other.invariant (eqb-true _ _ h)),
  (λ f. eq-eqb _ _ (inside_in c.self.inside.bits c.other.inside.bits c.self.invariant c.other.invariant f)),
)
