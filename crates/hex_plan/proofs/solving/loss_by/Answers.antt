-- The copy is the threat's certificate.
use Rattle.std.proofs.Common.{refl}
use Rattle.hex_plan.proofs.ShownLosses.{found_loss}
use Rattle.hex_plan.proofs.solving.loss_by.Goals as goal

pub returns-clause-loss : goal.returns-clause-loss
returns-clause-loss c = (
  refl,
  found_loss c.args.board.now c.args.colour c.args.found c.in_ok-loss.loss c.requires.found
      c.requires.player c.in_ok-loss.ensures,
)
