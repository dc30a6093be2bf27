-- The view of a seat that stands for one worker and has drawn nothing belongs to a new one.
use Rattle.std.proofs.Common.{◌∙◌}
use Rattle.search_tests.proofs.of_walker.new_walker.Goals as goal

pub returns : goal.returns
returns c =
    let fresh = c.requires.fresh in
    record { belongs = c.new-walker.ensures.belongs c.args.seat.now.view (fresh.own.shape ∙ c.requires.shape) fresh.width fresh.nothing fresh.order }
