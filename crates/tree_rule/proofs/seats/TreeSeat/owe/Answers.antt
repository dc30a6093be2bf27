-- A seat that owes one add more.
use Rattle.std.proofs.Common.{ap, sym, ◌∙◌, subst, ◌∷◌}
use Rattle.tree_words.specs.Blocks.{In}
use Rattle.tree_words.specs.declared.steps.Op.TheVariants.{Add}
use Rattle.arena_rule.specs.Views.{SeatView}
use Rattle.arena_rule.specs.Adds.{CountAdd}
use Rattle.arena_rule.specs.Afters.{after}
use Rattle.arena_rule.specs.Answers.{MayAnswer}
use Rattle.arena_rule.specs.Owing.{Debtor, CanOwe}
use Rattle.arena_rule.proofs.Changes.{shape-after}
use Rattle.arena_rule.proofs.KnownMore.{known-kept}
use Rattle.tree_rule.specs.Events.{IsOwedInRule}
use Rattle.tree_rule.specs.Seats.{IsSeatOf, debtor_of}
use Rattle.tree_rule.proofs.Moves.{owed-answer, sits-owing}
use Rattle.tree_rule.proofs.seats.TreeSeat.owe.Goals as goal

-- the add
abbrev add : (c : goal.After-owe) → CountAdd
add c = record { word = c.args.word; won = c.args.won }

can : (c : goal.After-owe) → CanOwe c.self.inside.seat.me.0 (add c)
can c = subst (λ (d : Debtor). CanOwe d (add c)) (sym (ap debtor_of c.self.view_is)) c.requires.can

sits : (c : goal.After-owe) → IsSeatOf c.self.inside.seat.table_id c.owe.new.seat
sits c = sits-owing c.self.inside.seat.table_id c.self.inside.seat c.owe.new.seat (add c) c.self.invariant (can c) c.owe.ensures.table c.owe.ensures.told

pub invariant_of-self : goal.invariant_of-self
invariant_of-self c = subst (λ id. IsSeatOf id c.owe.new.seat) (sym c.owe.ensures.table) (sits c)

pub returns-clause-own : goal.returns-clause-own
returns-clause-own c = record {
  table = c.owe.ensures.table ∙ ap (λ s. s.table) c.self.view_is ∙ c.requires.own.table;
  shape = ap (λ (d : Debtor). d.view.shape) c.owe.ensures.told.view
      ∙ shape-after c.self.inside.seat.me.0.view (Add c.args.word c.args.won) 0
      ∙ ap (λ s. s.view.shape) c.self.view_is ∙ c.requires.own.shape;
}

pub returns-clause-answer : goal.returns-clause-answer
returns-clause-answer c = subst (λ (v : SeatView). MayAnswer v (Add c.args.word c.args.won) 0)
    (ap (λ s. s.view) c.self.view_is)
    (owed-answer c.self.inside.seat.me.0 (add c) c.self.invariant.view (can c))

pub returns-clause-rule : goal.returns-clause-rule
returns-clause-rule c = subst (λ (d : Debtor). IsOwedInRule d (add c))
    (ap debtor_of c.self.view_is) c.owe.ensures.told.made

pub returns-clause-view : goal.returns-clause-view
returns-clause-view c = ap (λ (d : Debtor). d.view) c.owe.ensures.told.view
    ∙ ap (λ s. after s.view (Add c.args.word c.args.won) 0) c.self.view_is

pub returns-clause-owed : goal.returns-clause-owed
returns-clause-owed c = ap (λ (d : Debtor). d.owed) c.owe.ensures.told.view
    ∙ ap (λ s. add c ∷ s.owed) c.self.view_is

pub returns-clause-order : goal.returns-clause-order
returns-clause-order c = (sits c).view

pub returns-clause-known : goal.returns-clause-known
returns-clause-known c b n =
    subst (λ (d : Debtor). In b d.view.known) (sym c.owe.ensures.told.view)
    (known-kept c.self.inside.seat.me.0.view (Add c.args.word c.args.won) 0 b
    (subst (λ (v : SeatView). In b v.known) (sym (ap (λ s. s.view) c.self.view_is)) n))
