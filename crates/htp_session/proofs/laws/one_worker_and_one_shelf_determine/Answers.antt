use Rattle.htp_session.proofs.OneWorker.{answered_same, through_told}
use Rattle.htp_session.proofs.OneWorkerLoads.{told_loads}
use Rattle.htp_session.proofs.laws.one_worker_and_one_shelf_determine.Goals as goal

pub returns : goal.returns
returns c = record {
  answered = λ files tries start one other s lines. answered_same start one other lines s.worker
      (record { loads = told_loads files tries one.loads other.loads s.came s.other_came; good = s.good; other = s.other_good });
  through = λ files tries start one other s.
      through_told start s.worker files tries one other s.came s.other_came s.good s.other_good;
}
