-- Runs: lists of steps, splits and joins of the seats of one tree.
use Rattle.std.specs.Prelude.{◌≡◌, ◌≢◌, ℕ, ◌<◌, List, [], ◌∷◌, slice_index, replicate}
use mathlib.Core.Option.{some}
use lib.ListN.{get_elem?}
use Rattle.tree_words.specs.declared.steps.Op.{Op}
use Rattle.tree_words.specs.Settings.{Setting}
use Rattle.tree_words.specs.Opening.{opening_words}
use Rattle.arena_rule.specs.Views.{SeatView, new_view, opening_view}
use Rattle.arena_rule.specs.Fits.{FitsStep, CanSplit, CanJoin}
use Rattle.arena_rule.specs.Afters.{word_of, answer_of}
use Rattle.arena_rule.specs.Answers.{MayAnswer}
use Rattle.arena_rule.specs.Rule.{Rule, words_after, views_after, views_split, views_joined}

-- the words, and the view of each seat
pub record Arena : Type 0 where
  pub words : List ℕ
  pub views : List SeatView

-- the arena rule holds of the arena
abbrev pub RuleHolds : Setting → Arena → Type 0
RuleHolds s a = Rule s a.words a.views

-- the arena at the beginning: the opening words, with the opening view, or with K views of width 1
abbrev pub opening_arena : Setting → Arena
opening_arena s = record { words = opening_words s; views = opening_view s ∷ [] }

abbrev pub workers_arena : Setting → Arena
workers_arena s =
    record { words = opening_words s; views = replicate s.knobs.workers (new_view s 1 []) }

-- the seat has this view, which is not spent
pub record IsSeat (views : List SeatView) (id : ℕ) (v : SeatView) : Type 0 where
  pub at : get_elem? views id ≡ some v
  pub live : 0 < v.width

-- after a step of the seat, after its split, and after its join
abbrev pub arena_after : Arena → ℕ → SeatView → Op → Arena
arena_after a id v op =
    record { words = words_after a.words op; views = views_after a.words a.views id v op }

abbrev pub arena_split : Arena → ℕ → SeatView → ℕ → Arena
arena_split a id v part = record { words = a.words; views = views_split a.views id v part }

abbrev pub arena_joined : Arena → ℕ → SeatView → ℕ → SeatView → Arena
arena_joined a id v other w = record { words = a.words; views = views_joined a.views id v other w }

-- what a step answers in the arena
abbrev pub found_by : Arena → Op → ℕ
found_by a op = answer_of op (slice_index a.words (word_of op))

-- a step that fits the view of any seat keeps the rule
abbrev pub StepsKeep : Setting → Arena → Type 0
StepsKeep s a = (id : ℕ) (v : SeatView) (op : Op) → IsSeat a.views id v → FitsStep v op
    → RuleHolds s (arena_after a id v op)

-- and its answer is one that it may give
abbrev pub StepsMayAnswer : Arena → Type 0
StepsMayAnswer a = (id : ℕ) (v : SeatView) (op : Op) → IsSeat a.views id v → FitsStep v op
    → MayAnswer v op (found_by a op)

-- an event: a seat makes a step, or splits off a part of its width, or is joined with another seat
pub data Event : Type 0 where
  acts : ℕ → Op → Event
  splits : ℕ → ℕ → Event
  joins : ℕ → ℕ → Event

-- the seat's view fits the step, and `after` is what stands after it
pub record Acts (a : Arena) (id : ℕ) (op : Op) (after : Arena) : Type 0 where
  pub view : SeatView
  pub seat : IsSeat a.views id view
  pub fits : FitsStep view op
  pub is : after ≡ arena_after a id view op

-- the seat may split off the part
pub record Splits (a : Arena) (id part : ℕ) (after : Arena) : Type 0 where
  pub view : SeatView
  pub seat : IsSeat a.views id view
  pub can : CanSplit view part
  pub is : after ≡ arena_split a id view part

-- the seat may be joined with the other one
pub record Joins (a : Arena) (id other : ℕ) (after : Arena) : Type 0 where
  pub view : SeatView
  pub seat : IsSeat a.views id view
  pub others : SeatView
  pub joined : IsSeat a.views other others
  pub differ : other ≢ id
  pub can : CanJoin view others
  pub is : after ≡ arena_joined a id view other others

abbrev pub Happens : Event → Arena → Arena → Type 0
Happens (acts id op) a after = Acts a id op after
Happens (splits id part) a after = Splits a id part after
Happens (joins id other) a after = Joins a id other after

-- the events happen one after the other, and lead from the first arena to the last
abbrev pub LeadTo : List Event → Arena → Arena → Type 0
LeadTo [] a last = last ≡ a
LeadTo (e ∷ events) a last = (next : Arena) × Happens e a next × LeadTo events next last

-- a split, a join, and a run of events keep the rule
abbrev pub SplitsKeep : Setting → Arena → Type 0
SplitsKeep s a = (id part : ℕ) (b : Arena) → Splits a id part b → RuleHolds s b

abbrev pub JoinsKeep : Setting → Arena → Type 0
JoinsKeep s a = (id other : ℕ) (b : Arena) → Joins a id other b → RuleHolds s b

abbrev pub RunsKeep : Setting → Arena → Type 0
RunsKeep s a = (events : List Event) (b : Arena) → LeadTo events a b → RuleHolds s b
