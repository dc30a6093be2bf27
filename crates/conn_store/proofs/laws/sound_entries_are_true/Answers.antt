use Rattle.conn_store.proofs.RuleTruth.{board_small, sound_true}
use Rattle.conn_store.proofs.laws.sound_entries_are_true.Goals as goal

pub returns : goal.returns
returns c = λ d on s. sound_true d (board_small d.elements on) s
