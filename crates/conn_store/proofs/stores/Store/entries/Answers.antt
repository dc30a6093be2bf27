use Rattle.std.proofs.Common.{subst}
use Rattle.conn_store.specs.Stores.{AreTrue}
use Rattle.conn_store.proofs.RuleTruth.{sound_true}
use Rattle.conn_store.proofs.Tables.{stored_few}
use Rattle.conn_store.proofs.stores.Store.entries.Goals as goal

pub returns-clause-few : goal.returns-clause-few
returns-clause-few c = rw c.deref.ensures.value (stored_few _ _ _ _ _ _ c.self.invariant)

pub returns-clause-true_entries : goal.returns-clause-true_entries
returns-clause-true_entries c
    = subst AreTrue c.self.view_is (sound_true _ c.self.invariant.small c.self.invariant.sound)
