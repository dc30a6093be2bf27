-- The events of a tree: its seats' steps, splits and joins, what they owe and what they give, as
-- the arena rule with debts sees them.
use Rattle.std.specs.Prelude.{◌≡◌, ◌≢◌, ℕ, [], ◌∷◌, ◌++◌, slice_set}
use Rattle.tree_words.specs.Settings.{Setting}
use Rattle.tree_words.specs.Opening.{opening_words}
use Rattle.tree_words.specs.declared.steps.Op.{Op}
use Rattle.arena_rule.specs.Views.{SeatView, spent_view}
use Rattle.arena_rule.specs.Adds.{CountAdd}
use Rattle.arena_rule.specs.Owing.{Debtor, debtless, IsDebtor, found_in, OwingArena, OwingHolds}
use Rattle.arena_rule.specs.Owing.{owing_after, owing_owed, owing_given}

-- the arena rule holds of the opening words and of one seat, which has this view and owes nothing
abbrev pub BeginsInRule : Setting → SeatView → Type 0
BeginsInRule s v =
    OwingHolds s (record { words = opening_words s; seats = debtless v ∷ [] })

-- The step of a seat was made in an arena, which is the words and all seats: the answer is what
-- the step finds there, and the arena rule holds before it and after it.
pub record IsMadeInRule (d : Debtor) (op : Op) (answer : ℕ) : Type 0 where
  pub arena : OwingArena
  pub id : ℕ
  pub seat : IsDebtor arena.seats id d
  pub found : answer ≡ found_in arena.words op
  pub before : OwingHolds d.view.shape arena
  pub after : OwingHolds d.view.shape (owing_after arena id d op)

-- the seat began to owe the add in an arena, and the rule holds before and after
pub record IsOwedInRule (d : Debtor) (add : CountAdd) : Type 0 where
  pub arena : OwingArena
  pub id : ℕ
  pub seat : IsDebtor arena.seats id d
  pub before : OwingHolds d.view.shape arena
  pub after : OwingHolds d.view.shape (owing_owed arena id d add)

-- the seat gave n, all that it owed to the word i, in an arena, and the rule holds before and after
pub record IsGivenInRule (d : Debtor) (i n : ℕ) : Type 0 where
  pub arena : OwingArena
  pub id : ℕ
  pub seat : IsDebtor arena.seats id d
  pub before : OwingHolds d.view.shape arena
  pub after : OwingHolds d.view.shape (owing_given arena id d i n)

-- Wherever the arena rule holds and a seat has the view v and owes nothing, it holds once that
-- seat has the view w and there is one seat more, with the view u, both owing nothing.
abbrev pub SplitKeepsRule : SeatView → SeatView → SeatView → Type 0
SplitKeepsRule v w u = (a : OwingArena) (id : ℕ) → OwingHolds v.shape a
    → IsDebtor a.seats id (debtless v)
    → OwingHolds v.shape (record {
      words = a.words;
      seats = slice_set a.seats id (debtless w) ++ debtless u ∷ [];
    })

-- Wherever the arena rule holds and two seats have the views v and u and owe nothing, it holds
-- once the first has the view w and the other is spent, both owing nothing.
abbrev pub JoinKeepsRule : SeatView → SeatView → SeatView → Type 0
JoinKeepsRule v u w = (a : OwingArena) (id other : ℕ) → OwingHolds v.shape a
    → IsDebtor a.seats id (debtless v)
    → IsDebtor a.seats other (debtless u) → other ≢ id
    → OwingHolds v.shape (record {
      words = a.words;
      seats = slice_set (slice_set a.seats id (debtless w)) other (debtless (spent_view v.shape));
    })
