-- A seat that gave what it owed to a word.
use Rattle.std.proofs.Common.{ap, sym, ◌∙◌, subst}
use Rattle.arena_rule.specs.Owing.{Debtor, debts_but}
use Rattle.tree_rule.specs.Events.{IsGivenInRule}
use Rattle.tree_rule.specs.Seats.{IsSeatOf, debtor_of}
use Rattle.tree_rule.proofs.Moves.{sits-giving}
use Rattle.tree_rule.proofs.seats.TreeSeat.give.Goals as goal

sits : (c : goal.After-give) → IsSeatOf c.self.inside.seat.table_id c.give.new.seat
sits c = sits-giving c.self.inside.seat.table_id c.self.inside.seat c.give.new.seat c.args.word
    c.args.amount c.self.invariant c.give.ensures.table c.give.ensures.told

pub invariant_of-self : goal.invariant_of-self
invariant_of-self c = subst (λ id. IsSeatOf id c.give.new.seat) (sym c.give.ensures.table) (sits c)

pub returns-clause-own : goal.returns-clause-own
returns-clause-own c = record {
  table = c.give.ensures.table ∙ ap (λ s. s.table) c.self.view_is ∙ c.requires.own.table;
  shape = ap (λ (d : Debtor). d.view.shape) c.give.ensures.told.view
      ∙ ap (λ s. s.view.shape) c.self.view_is ∙ c.requires.own.shape;
}

pub returns-clause-rule : goal.returns-clause-rule
returns-clause-rule c = subst (λ (d : Debtor). IsGivenInRule d c.args.word c.args.amount)
    (ap debtor_of c.self.view_is) c.give.ensures.told.made

pub returns-clause-view : goal.returns-clause-view
returns-clause-view c = ap (λ (d : Debtor). d.view) c.give.ensures.told.view
    ∙ ap (λ s. s.view) c.self.view_is

pub returns-clause-owed : goal.returns-clause-owed
returns-clause-owed c = ap (λ (d : Debtor). d.owed) c.give.ensures.told.view
    ∙ ap (λ s. debts_but c.args.word s.owed) c.self.view_is

pub returns-clause-order : goal.returns-clause-order
returns-clause-order c = (sits c).view
