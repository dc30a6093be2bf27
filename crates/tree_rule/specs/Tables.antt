-- The arena rule, as the rule of a table. No clause of a public call cites this.
use Rattle.std.specs.Prelude.{ℕ}
use Rattle.atomic_table.specs.Table.{State}
use Rattle.tree_words.specs.Settings.{Setting}
use Rattle.arena_rule.specs.Views.{opening_view}
use Rattle.arena_rule.specs.Owing.{Debtor, debtless, OwingRule}

-- the arena rule with debts holds of the table's words and of its seats; it has no slots
abbrev pub HoldsArenaRule : Setting → State ℕ Debtor → Type 0
HoldsArenaRule s t = OwingRule s t.words t.views

-- the first seat has the opening view, and owes nothing
abbrev pub first_view : Setting → Debtor
first_view s = debtless (opening_view s)
