-- Nothing is owed at first, and a part of what all hold is no more than that.
use Rattle.std.proofs.Common.{ℕ, ◌/◌, refl, sym, ap, ◌∙◌, arith}
use Rattle.search_team.specs.declared.holding.TheConstants.{MOST_HELD}
use Rattle.search_team.proofs.Debts.{holds-none}
use Rattle.search_team.proofs.holding.Sums.none.Goals as goal

pub returns-clause-none : goal.returns-clause-none
returns-clause-none c s e = holds-none s _ refl refl (omega arith)
    (omega (arith, ap (λ (k : ℕ). MOST_HELD / k) (e ∙ sym c.from.ensures)))
