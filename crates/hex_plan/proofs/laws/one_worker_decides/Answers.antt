use Rattle.hex_plan.proofs.Same.{report_is_seq, same_turn}
use Rattle.hex_plan.proofs.laws.one_worker_decides.Goals as goal

pub returns : goal.returns
returns c = record {
  report = λ knobs one means off t. report_is_seq knobs means t one off;
  same = λ knobs one means off t u. same_turn knobs means t u one off;
}
