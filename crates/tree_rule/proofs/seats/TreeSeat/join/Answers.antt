-- A join leaves a seat of the tree.
use Rattle.std.proofs.Common.{ap, sym, ◌∙◌, subst}
use Rattle.arena_rule.specs.Views.{SeatView}
use Rattle.arena_rule.specs.Fits.{CanJoin}
use Rattle.arena_rule.specs.Afters.{joined}
use Rattle.arena_rule.specs.Owing.{Debtor}
use Rattle.tree_rule.specs.Events.{JoinKeepsRule}
use Rattle.tree_rule.proofs.Moves.{join-keeps, joined-shape}
use Rattle.tree_rule.proofs.seats.TreeSeat.join.Goals as goal

pub returns-clause-own : goal.returns-clause-own
returns-clause-own c =
    let table = ap (λ t. t.table) c.tree.view_is in
    let old = ap (λ s. s.view.shape) c.self.view_is ∙ c.requires.own.0.shape in
    record { table = c.merge.ensures.own.table ∙ table; shape = ap (λ (d : Debtor). d.view.shape) c.merge.ensures.both ∙ joined-shape _ _ ∙ old }

pub returns-clause-both : goal.returns-clause-both
returns-clause-both c =
    let mine = ap (λ s. s.view) c.self.view_is in
    let others = ap (λ s. s.view) c.other.view_is in
    ap (λ (d : Debtor). d.view) c.merge.ensures.both ∙ (λ i. joined (mine i) (others i))

pub returns-clause-owed : goal.returns-clause-owed
returns-clause-owed c = ap (λ (d : Debtor). d.owed) c.merge.ensures.both

pub returns-clause-rule : goal.returns-clause-rule
returns-clause-rule c =
    let v = c.self.inside.seat.me.0.view in
    let mine = ap (λ s. s.view) c.self.view_is in
    let others = ap (λ s. s.view) c.other.view_is in
    let can = subst (λ (w : SeatView). CanJoin w c.other.inside.seat.me.0.view) (sym mine)
    (subst (CanJoin c.args.self.now.view) (sym others) c.requires.can) in
    subst (λ (w : SeatView). JoinKeepsRule w c.args.other.view c.merge.new.seat.me.0.view) mine
    (subst (λ (w : SeatView). JoinKeepsRule v w c.merge.new.seat.me.0.view) others
    (join-keeps v c.other.inside.seat.me.0.view _ c.self.invariant.view can (ap (λ (d : Debtor). d.view) c.merge.ensures.both)))
