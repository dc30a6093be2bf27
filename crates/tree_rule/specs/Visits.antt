-- The visits that a seat itself has made.
use Rattle.std.specs.Prelude.{◌≡◌, ℕ, ◌+◌, ◌≤◌, true}
use Rattle.tree_words.specs.Words.{visits_in}
use Rattle.tree_words.specs.declared.layout.TheConstants.{TALLY_WORD}
use Rattle.tree_words.specs.declared.steps.Op.{Op}
use Rattle.tree_words.specs.declared.steps.Op.TheVariants.{Look}
use Rattle.arena_rule.specs.Views.{SeatView}
use Rattle.arena_rule.specs.Lookups.{is_known, recorded_through, adds_made, adds_in}

-- how often the seat has counted at the tally of a known node: by its recorded walks through the
-- node, and by the adds that its walk in flight has made there
abbrev pub own_visits : SeatView → ℕ → ℕ
own_visits v x = recorded_through v x
    + adds_in (x + TALLY_WORD) (adds_made v.shape v.known v.ticket v.adds)

-- a look at the tally of a known node answers at least the seat's own visits there
abbrev pub AnswersOwnVisits : SeatView → Op → ℕ → Type 0
AnswersOwnVisits v op n = (x : ℕ) → is_known v x ≡ true → op ≡ Look (x + TALLY_WORD)
    → own_visits v x ≤ visits_in n
