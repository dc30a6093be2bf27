-- The law of accepted certificates, from what each line gives.
use Rattle.win_cert.proofs.AcceptedLaw.{accepted_wins, entries_true}
use Rattle.win_cert.proofs.laws.accepted_certificates_win.Goals as goal

pub returns-clause-wins : goal.returns-clause-wins
returns-clause-wins c = accepted_wins

pub returns-clause-entries : goal.returns-clause-entries
returns-clause-entries c = entries_true
