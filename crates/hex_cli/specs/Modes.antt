-- What a run does in each of its modes, to its end, told of what its devices tell before and after.
use Rattle.std.specs.Prelude.{◌≡◌, ◌&&◌, ◌||◌, ℕ, Bool, List, Result, nat_lt}
use Rattle.hexd_args.specs.declared.settings.Options.{Options}
use Rattle.hexd_args.specs.declared.settings.Mode.{Mode}
use Rattle.hexd_args.specs.declared.settings.Mode.TheVariants.{Htp, Check, Migrate, Audit}
use Rattle.hexd_args.specs.declared.settings.Mode.TheVariants.{Sim, Bench, Solve}
use Rattle.hex_plan.specs.Turns.{TurnData}
use Rattle.hex_plan.specs.declared.settings.Means.{Means}
use Rattle.hex_engine.specs.EngineState.{EngineState, opening}
use Rattle.hex_engine.specs.Supply.{Supply}
use Rattle.hex_engine.specs.declared.options.Options as engine
use Rattle.htp_session.specs.Endings.{Conversed}
use Rattle.hex_devices.specs.Devices.{DevicesState, Outcome}
use Rattle.hex_devices.specs.Devices.{link_and_archive, shelf_and_archive}
use Rattle.hex_devices.specs.Inputs.{AnswersInput, TextOf}
use Rattle.hex_devices.specs.declared.errors.AnswerError.{AnswerError}
use Rattle.hex_devices.specs.declared.errors.OutputError.{OutputError}
use Rattle.turn_modes.specs.HandingIn.{HandsIn}
use Rattle.turn_modes.specs.declared.modes.TurnMode.TheVariants as turn
use Rattle.turn_modes.specs.declared.options.ModeOptions.{ModeOptions}
use Rattle.hex_devices.specs.Statuses.{end_of_outcome, end_of_answer, end_of_output}
use Rattle.hex_devices.specs.declared.ends.End.{End}
use Rattle.hex_cli.specs.declared.kinds.ModeKind.{ModeKind}
use Rattle.hex_cli.specs.declared.kinds.ModeKind.TheVariants.{Session, WholeInput, OneTurn}
use Rattle.hex_cli.specs.declared.solutions.SolveOptions.{SolveOptions}
use Rattle.hex_cli.specs.declared.whole_inputs.InputMode.TheVariants as input
use Rattle.hex_io.specs.declared.limits.TheConstants.{INPUT_LIMIT}

-- ---- what the words' options say

-- by what means a session chooses its moves
abbrev pub means_of : Options → Means
means_of o = record { hsearch = o.hsearch; solve = o.solve; look = o.look }

-- the engine's options
abbrev pub engine_options : Options → engine.Options
engine_options o = record { knobs = o.knobs; means = means_of o }

-- where a session stands before its first line
abbrev pub session_start : Options → EngineState
session_start o = opening (engine_options o) o.size

-- one of the two means that an option asks for: a certificate, or a look-ahead
abbrev pub asks_for_means : Options → Bool
asks_for_means o = nat_lt 0 o.solve || nat_lt 0 o.look

-- by what means bench chooses its cell: by those of a session if an option asks for one, and
-- otherwise by the tree's search alone
abbrev pub bench_means : Options → Means
bench_means o = record {
  hsearch = asks_for_means o && o.hsearch;
  solve = o.solve;
  look = o.look;
}

-- what the modes sim and bench are told
abbrev pub mode_options : Options → ModeOptions
mode_options o = record {
  size = o.size;
  knobs = o.knobs;
  steps = o.steps;
  means = bench_means o;
}

-- what the mode solve is told
abbrev pub solve_options : Options → SolveOptions
solve_options o = record { hsearch = o.hsearch; budget = o.budget; best = o.best }

-- ---- the kinds of mode

-- a session, one that takes its whole input, or one that hands in one turn
abbrev pub kind_of : Mode → Options → ModeKind
kind_of Htp options = Session
kind_of Check options = WholeInput input.Check
kind_of Migrate options = WholeInput input.Migrate
kind_of Audit options = WholeInput input.Audit
kind_of Sim options = OneTurn turn.Sim
kind_of Bench options = OneTurn turn.Bench
kind_of Solve options = WholeInput (input.Solve (solve_options options))

-- ---- one relation for each kind

-- Mode htp: a session of these options used up just this, and came to this end.
abbrev pub PlaysBy : Supply → Options → End → DevicesState → DevicesState → Type 0
PlaysBy used options end before after = (outcome : Outcome) × (end ≡ end_of_outcome outcome)
    × Conversed outcome (engine_options options) options.size INPUT_LIMIT used
    (shelf_and_archive before) (shelf_and_archive after) before.link after.link

-- Modes check, migrate, audit and solve: the whole input, of at most INPUT_LIMIT bytes, was
-- answered by such a text, and this is the end.
abbrev pub AnswersBy : TextOf → End → DevicesState → DevicesState → Type 0
AnswersBy Answers end before after =
    (answer : Result Bool AnswerError) × (end ≡ end_of_answer answer)
    × AnswersInput Answers before.link after.link INPUT_LIMIT answer

-- Modes sim and bench: the archive took a turn, and then such a text was given, and this is the
-- end.
abbrev pub HandsInBy : (ModeOptions → TurnData → List ℕ → Type 0) → Options → End
    → DevicesState → DevicesState → Type 0
HandsInBy Says options end before after =
    (output : Result (Unit {0}) OutputError) × (end ≡ end_of_output output)
    × HandsIn (Says (mode_options options)) (link_and_archive before) (link_and_archive after)
    output
