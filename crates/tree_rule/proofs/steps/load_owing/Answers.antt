-- To begin to owe is a step.
use Rattle.std.proofs.Common.{sym, subst}
use Rattle.arena_rule.specs.Adds.{CountAdd}
use Rattle.atomic_table.specs.Table.{Allows}
use Rattle.tree_rule.specs.Tables.{HoldsArenaRule}
use Rattle.tree_rule.specs.Plays.{IsOwing}
use Rattle.tree_rule.proofs.Moves.{owes-allowed}
use Rattle.tree_rule.proofs.steps.load_owing.Goals as goal

pub load-requires : goal.load-requires
load-requires g c =
    let sits = c.requires.own in
    let m = c.args.seat.now.me in
    let add : CountAdd = record { word = c.args.word; won = c.args.won } in (
      sits.table,
      c.requires.inside,
      subst (λ (a : CountAdd). Allows (HoldsArenaRule c.args.shared.now.key)
          c.args.shared.now.table_id.slots c.args.seat.now.id m c.args.at (λ n. n) (λ x new. IsOwing
          m a new)) (sym c.requires.picked)
          (owes-allowed c.args.shared.now.key c.args.shared.now.table_id.slots c.args.seat.now.id m sits.view add c.args.at c.requires.can),
    )

pub returns-clause-told : goal.returns-clause-told
returns-clause-told g c
    = subst (λ (a : CountAdd). IsOwing c.args.seat.now.me a c.load.new.seat.me) c.requires.picked c.load.ensures.2
