-- A split leaves two seats of the tree.
use Rattle.std.proofs.Common.{ap, sym, ◌∙◌, subst}
use Rattle.arena_rule.specs.Views.{SeatView}
use Rattle.arena_rule.specs.Fits.{CanSplit}
use Rattle.arena_rule.specs.Afters.{kept_part, given_part}
use Rattle.arena_rule.specs.Owing.{Debtor}
use Rattle.tree_rule.specs.Events.{SplitKeepsRule}
use Rattle.tree_rule.proofs.Moves.{kept-shape, split-keeps}
use Rattle.tree_rule.proofs.seats.TreeSeat.split.Goals as goal

pub returns-clause-own : goal.returns-clause-own
returns-clause-own c =
    let table = ap (λ t. t.table) c.tree.view_is in
    let old = ap (λ s. s.view.shape) c.self.view_is ∙ c.requires.own.shape in (
      record { table = c.cut.ensures.own.0.table ∙ table; shape = ap (λ (d : Debtor). d.view.shape) c.cut.ensures.kept ∙ kept-shape _ _ ∙ old },
      record { table = c.cut.ensures.own.1.table ∙ table; shape = ap (λ (d : Debtor). d.view.shape) c.cut.ensures.given ∙ old },
    )

pub returns-clause-kept : goal.returns-clause-kept
returns-clause-kept c = ap (λ (d : Debtor). d.view) c.cut.ensures.kept
    ∙ ap (λ s. kept_part s.view c.args.part) c.self.view_is

pub returns-clause-given : goal.returns-clause-given
returns-clause-given c = ap (λ (d : Debtor). d.view) c.cut.ensures.given
    ∙ ap (λ s. given_part s.view c.args.part) c.self.view_is

pub returns-clause-owed : goal.returns-clause-owed
returns-clause-owed c
    = (ap (λ (d : Debtor). d.owed) c.cut.ensures.kept, ap (λ (d : Debtor). d.owed) c.cut.ensures.given)

pub returns-clause-rule : goal.returns-clause-rule
returns-clause-rule c =
    let view = ap (λ s. s.view) c.self.view_is in
    subst (λ (v : SeatView). SplitKeepsRule v c.cut.new.seat.me.0.view c.cut.result.me.0.view) view
    (split-keeps c.self.inside.seat.me.0.view _ _ c.args.part c.self.invariant.view
    (subst (λ (v : SeatView). CanSplit v c.args.part) (sym view) c.requires.can)
    (ap (λ (d : Debtor). d.view) c.cut.ensures.kept) (ap (λ (d : Debtor). d.view)
    c.cut.ensures.given))
