-- The turns and texts of modes sim and bench.
use Rattle.std.specs.Prelude.{◌≡◌, ◌≢◌, ℕ, List, Some, None, false}
use Rattle.hex_cells.specs.declared.colours.Colour.{Colour}
use Rattle.hex_cells.specs.declared.colours.Colour.TheVariants.{Black}
use Rattle.hex_board.specs.Joined.{winner_of}
use Rattle.hex_board.specs.Positions.{Position, empty_board}
use Rattle.play_out.specs.Fills.{empties_of}
use Rattle.tree_words.specs.Closing.{ClosedTree}
use Rattle.tree_words.specs.Complete.{set_of}
use Rattle.tree_words.specs.Sequence.{seq_of}
use Rattle.tree_words.specs.Settings.{Setting}
use Rattle.tree_words.specs.declared.roots.Row.{Row}
use Rattle.tree_words.specs.declared.settings.Knobs.{Knobs}
use Rattle.hex_plan.specs.Good.{IsSequential, IsTurnShape, no_means}
use Rattle.hex_plan.specs.Plans.{IsPlanned}
use Rattle.hex_plan.specs.Reports.{rows_in}
use Rattle.hex_plan.specs.Seeds.{turn_knobs}
use Rattle.hex_plan.specs.TurnTexts.{report_of}
use Rattle.hex_plan.specs.Turns.{TurnData}
use Rattle.hex_plan.specs.declared.plans.Planned.{Planned}
use Rattle.hex_plan.specs.declared.settings.Means.{Means}
use Rattle.turn_search.specs.Owed.{IsOwed}
use Rattle.sim_run.specs.BetweenSteps.{EndsSchedule}
use Rattle.turn_modes.specs.ModeTexts.{sim_text, turn_text}
use Rattle.turn_modes.specs.Positions.{board_on, mover_after, shuffled_cells, placed_count}
use Rattle.turn_modes.specs.Schedules.{schedule_of}
use Rattle.turn_modes.specs.declared.options.ModeOptions.{ModeOptions}

-- ---- the turn

-- the first turn that a session with these knobs and means owes, on this board with this player to
-- move
abbrev pub IsFirstTurn : Knobs → Means → Position → Colour → TurnData → Type 0
IsFirstTurn knobs means now mover = IsOwed knobs means now mover 0

-- the turn is a first turn without means whenever its plan and tree are those of one
abbrev pub MakesFirstTurn : Planned → ClosedTree → TurnData → Type 0
MakesFirstTurn planned tree t = (knobs : Knobs) (now : Position) (mover : Colour)
    → winner_of now ≡ None → IsPlanned now mover no_means planned
    → IsTurnShape knobs now mover 0 tree.shape.allowed tree.shape → IsSequential knobs tree
    → IsFirstTurn knobs no_means now mover t

-- what is searched for a first turn without connections: all empty cells are allowed; proofs alone
-- cite it
abbrev pub first_setting : Knobs → Position → Colour → Setting
first_setting knobs now mover = record {
  board = now;
  player = mover;
  allowed = set_of (empties_of now);
  knobs = turn_knobs knobs 0;
}

-- the rows of its sequential search; proofs alone cite it
abbrev pub first_rows : Knobs → Position → Colour → List Row
first_rows knobs now mover = rows_in (seq_of (first_setting knobs now mover)).0

-- the turn is one of the mode, and the text is one of the turn; if there is one text alone, each
-- other turn of the mode has it
pub record IsModeTurn (IsTurn : TurnData → Type 0) (Says : TurnData → List ℕ → Type 0)
    (IsOne : Type 0) (t : TurnData) (text : List ℕ) : Type 0 where
  pub turn : IsTurn t
  pub says : Says t text
  pub determined : IsOne → (u : TurnData) (other : List ℕ) → IsTurn u → Says u other
      → other ≡ text

-- ---- mode sim

-- if there are several workers, the turn's tree is that of the schedule
abbrev pub FollowsSchedule : ModeOptions → TurnData → Type 0
FollowsSchedule o t = o.knobs.workers ≢ 1 → (tree : ClosedTree) × (t.closed ≡ Some tree)
    × EndsSchedule tree.shape (schedule_of o.knobs.workers o.knobs.seed o.steps) tree.words

-- the text is that of the turn: its cell, and the report of its tree
abbrev pub SaysReport : ℕ → TurnData → List ℕ → Type 0
SaysReport size t text =
    (report : List ℕ) × (report_of t ≡ Some report) × (text ≡ sim_text size t.cell report)

-- the turn is that of the board without stones, with Black to move, and without means; with one
-- worker the options determine its text
abbrev pub IsSimulation : ModeOptions → TurnData → List ℕ → Type 0
IsSimulation o = IsModeTurn (IsFirstTurn o.knobs no_means (empty_board o.size) Black)
    (SaysReport o.size) (o.knobs.workers ≡ 1)

-- ---- mode bench

-- how many stones the position of mode bench has, its board, and the player to move
abbrev pub bench_stones : ModeOptions → ℕ
bench_stones o = placed_count o.size (shuffled_cells o.size o.knobs.seed)

abbrev pub bench_board : ModeOptions → Position
bench_board o = board_on o.size (shuffled_cells o.size o.knobs.seed) (bench_stones o)

abbrev pub bench_player : ModeOptions → Colour
bench_player o = mover_after (bench_stones o)

-- the turn is that of the position, with the means of bench; if no connections are looked for the
-- options determine its text
abbrev pub IsBenchmark : ModeOptions → TurnData → List ℕ → Type 0
IsBenchmark o = IsModeTurn (IsFirstTurn o.knobs o.means (bench_board o) (bench_player o))
    (λ t text. text ≡ turn_text o.size (bench_stones o) o.knobs t.cell t.closed)
    (o.means.hsearch ≡ false)
