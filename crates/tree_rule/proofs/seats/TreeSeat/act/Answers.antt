-- A step leaves a seat of the tree, with a view in order that knows no less.
use Rattle.std.proofs.Common.{ap, sym, ◌∙◌, subst}
use Rattle.tree_words.specs.Blocks.{In}
use Rattle.arena_rule.specs.Views.{SeatView}
use Rattle.arena_rule.specs.Fits.{FitsStep}
use Rattle.arena_rule.specs.Afters.{after}
use Rattle.arena_rule.specs.Answers.{MayAnswer}
use Rattle.arena_rule.specs.Owing.{Debtor}
use Rattle.arena_rule.proofs.Changes.{shape-after}
use Rattle.arena_rule.proofs.KnownMore.{known-kept}
use Rattle.tree_rule.specs.Events.{IsMadeInRule}
use Rattle.tree_rule.specs.Seats.{IsSeatOf, debtor_of}
use Rattle.tree_rule.proofs.Moves.{own-visits, sits-after}
use Rattle.tree_rule.proofs.seats.TreeSeat.act.Goals as goal

-- the seat after the step
sits : (c : goal.After-step) → IsSeatOf c.self.inside.seat.table_id c.step.new.seat
sits c = sits-after c.self.inside.seat.table_id c.self.inside.seat c.step.new.seat c.args.op
    c.step.result c.self.invariant (subst (λ (v : SeatView). FitsStep v c.args.op)
    (sym (ap (λ s. s.view) c.self.view_is)) c.requires.fits) c.step.ensures.table
    c.step.ensures.told

pub invariant_of-self : goal.invariant_of-self
invariant_of-self c = subst (λ id. IsSeatOf id c.step.new.seat) (sym c.step.ensures.table) (sits c)

pub returns-clause-own : goal.returns-clause-own
returns-clause-own c = record {
  table = c.step.ensures.table ∙ ap (λ s. s.table) c.self.view_is ∙ c.requires.own.table;
  shape = ap (λ (d : Debtor). d.view.shape) c.step.ensures.told.view
      ∙ shape-after c.self.inside.seat.me.0.view c.args.op c.step.result
      ∙ ap (λ s. s.view.shape) c.self.view_is ∙ c.requires.own.shape;
}

pub returns-clause-rule : goal.returns-clause-rule
returns-clause-rule c = subst (λ (d : Debtor). IsMadeInRule d c.args.op c.step.result)
    (ap debtor_of c.self.view_is) c.step.ensures.told.made

pub returns-clause-view : goal.returns-clause-view
returns-clause-view c = ap (λ (d : Debtor). d.view) c.step.ensures.told.view
    ∙ ap (λ s. after s.view c.args.op c.step.result) c.self.view_is

pub returns-clause-owed : goal.returns-clause-owed
returns-clause-owed c = ap (λ (d : Debtor). d.owed) c.step.ensures.told.view
    ∙ ap (λ s. s.owed) c.self.view_is

pub returns-clause-order : goal.returns-clause-order
returns-clause-order c = (sits c).view

pub returns-clause-known : goal.returns-clause-known
returns-clause-known c b n =
    subst (λ (d : Debtor). In b d.view.known) (sym c.step.ensures.told.view)
    (known-kept c.self.inside.seat.me.0.view c.args.op c.step.result b (subst (λ (v : SeatView). In b v.known) (sym (ap (λ s. s.view) c.self.view_is)) n))

pub returns-clause-visits : goal.returns-clause-visits
returns-clause-visits c x known e =
    let view = ap (λ s. s.view) c.self.view_is in
    own-visits c.args.self.now.view c.args.op c.step.result x
    (subst (λ (v : SeatView). MayAnswer v c.args.op c.step.result) view c.step.ensures.told.answer) known e
