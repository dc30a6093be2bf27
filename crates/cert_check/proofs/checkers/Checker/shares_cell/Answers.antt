use Rattle.win_cert.specs.Entries.{entries_at}
use Rattle.cert_check.proofs.Sharing.{none_shared}
use Rattle.cert_check.proofs.checkers.Checker.shares_cell.Goals as goal

pub returns : goal.returns
returns c = none_shared
    (entries_at c.args.self.now c.args.numbers.now) c.common.result c.is_empty.result c.common.ensures c.is_empty.ensures
