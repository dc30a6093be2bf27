use Rattle.uct_table.proofs.Keeping.{kept_of_is}
use Rattle.uct_table.proofs.choosing.going_through_gives_choice.Goals as goal

pub returns : goal.returns
returns c = kept_of_is
