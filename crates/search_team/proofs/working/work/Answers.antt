-- A new walker begins, and owes nothing.
use Rattle.std.proofs.Common.{sym, ap, ◌∙◌, refl, subst}
use Rattle.tree_words.specs.Settings.{Setting}
use Rattle.tree_words.specs.declared.settings.Knobs.{Knobs}
use Rattle.walker.specs.Belongs.{Belongs}
use Rattle.search_team.specs.Debts.{HoldsDebts}
use Rattle.search_team.proofs.working.work.Goals as goal

pub steps-init : goal.steps-init
steps-init g c =
    let fresh = c.requires.fresh in
    let belongs : Belongs c.new-walker.result c.args.seat.now.view
    = c.new-walker.ensures.belongs c.args.seat.now.view
    (fresh.own.shape ∙ c.requires.shape) fresh.width fresh.nothing fresh.order in
    record {
      own = fresh.own;
      belongs = belongs;
      lone = fresh.lone refl;
      debts = subst (HoldsDebts c.args.tree.now.shape c.none-sums.result) (sym fresh.owed)
          (c.none-sums.ensures.none c.args.tree.now.shape (ap (λ (s : Setting). s.knobs.workers) c.requires.shape
          ∙ ap (λ (k : Knobs). k.workers) (sym c.knobs.ensures.value)));
    }
