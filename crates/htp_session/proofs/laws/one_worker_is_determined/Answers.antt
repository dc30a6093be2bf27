use Rattle.htp_session.proofs.OneWorker.{answered_same, through_same}
use Rattle.htp_session.proofs.OneWorkerLoads.{equal_loads}
use Rattle.htp_session.proofs.laws.one_worker_is_determined.Goals as goal

pub returns : goal.returns
returns c = record {
  answered = λ start one other s lines. answered_same start one other lines s.worker
      (record { loads = equal_loads one.loads other.loads s.loads; good = s.good; other = s.other_good });
  through = λ start one other s lines. through_same start one other lines s.worker
      (record { loads = equal_loads one.loads other.loads s.loads; good = s.good; other = s.other_good });
}
