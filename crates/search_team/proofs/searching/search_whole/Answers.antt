-- The team is of two workers at least, and begins with nothing drawn.
use Rattle.std.proofs.Common.{sym, ap, ◌∙◌, subst}
use Rattle.arena_rule.specs.Views.{SeatView, HasDrawnNothing}
use Rattle.arena_rule.proofs.Firsts.{opening-nothing}
use Rattle.search_team.proofs.searching.search_whole.Goals as goal

pub team-seat-requires-clause-fresh : goal.team-seat-requires-clause-fresh
team-seat-requires-clause-fresh g c = λ κs lives.
    let is = c.in_ok-tree.ensures.view in
    record {
      own = c.in_ok-tree.ensures.own;
      width = ap (λ (v : SeatView). v.width) is ∙ sym (ap (λ k. k.workers) c.knobs.ensures.value);
      nothing = subst HasDrawnNothing (sym is) (opening-nothing c.args.shape.now);
      order = c.in_ok-tree.ensures.order;
      owed = c.in_ok-tree.ensures.owed;
      lone = λ e. absurd (c.if-workers-eq1.false e);
    }

pub returns-clause-one : goal.returns-clause-one
returns-clause-one g c
    = λ one. absurd (c.if-workers-eq1.false (ap (λ k. k.workers) c.knobs.ensures.value ∙ one))
