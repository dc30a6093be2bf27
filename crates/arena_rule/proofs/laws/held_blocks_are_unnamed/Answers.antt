use Rattle.arena_rule.proofs.AnswersBlocks.{held_unnamed}
use Rattle.arena_rule.proofs.laws.held_blocks_are_unnamed.Goals as goal

pub returns : goal.returns
returns c s a r id v h x seat held n
    = held_unnamed s r.blocks a.words a.views r.state id v h x seat.at held n
