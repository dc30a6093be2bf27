use Rattle.std.proofs.Common.{refl}
use Rattle.hex_plan.proofs.ShownLosses.{found_loss}
use Rattle.hex_plan.proofs.losses.shown_by.Goals as goal

pub returns : goal.returns
returns c = found_loss c.args.board.now c.args.colour c.args.found c.args.found.cert
    c.requires.found c.requires.player refl
