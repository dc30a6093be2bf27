use Rattle.arena_rule.proofs.AnswersBlocks.{known_shown}
use Rattle.arena_rule.proofs.KnownMore.{known-kept}
use Rattle.arena_rule.proofs.laws.known_blocks_stay.Goals as goal

pub returns-clause-shown : goal.returns-clause-shown
returns-clause-shown c s a r id v b seat n =
    let h = known_shown s r.blocks a.words a.views r.state id v b seat.at n in
    record { link = h.0; block = h.1 }

pub returns-clause-kept : goal.returns-clause-kept
returns-clause-kept c v op x b n = known-kept v op x b n
