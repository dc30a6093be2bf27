-- The premises of each entry of a report are earlier ones.
use Rattle.std.proofs.Common.{List, sym, subst}
use Rattle.conn_store.specs.declared.entries.Entry.{Entry}
use Rattle.win_cert.specs.Cutting.{NameEarlier}
use Rattle.win_cert.proofs.CutDerivations.{name_earlier}
use Rattle.win_cert.proofs.drafts.draft_or.Goals as goal

pub marked-requires-clause-earlier : goal.marked-requires-clause-earlier
marked-requires-clause-earlier c = subst (λ (es : List Entry). NameEarlier es)
    (sym c.entries.ensures.value) (name_earlier c.store-store.result.now c.entries.ensures.sound)
