-- What a text tells of a turn. No clause of a public call cites this.
use Rattle.std.specs.Prelude.{◌≡◌, ℕ, List}
use Rattle.std.specs.Option.{ForSome}
use Rattle.tree_words.specs.declared.settings.Knobs.{Knobs}
use Rattle.hex_plan.specs.TurnTexts.{report_of}
use Rattle.hex_plan.specs.Turns.{TurnData}
use Rattle.turn_modes.specs.ModeTexts.{sim_text, turn_text}

-- the text of mode sim for a turn with a tree
abbrev pub TellsSim : TurnData → List ℕ → Type 0
TellsSim t text =
    ForSome (report_of t) (λ report. text ≡ sim_text t.board.size t.cell report)

-- the text of mode bench, if so many stones were placed
abbrev pub TellsBench : Knobs → ℕ → TurnData → List ℕ → Type 0
TellsBench knobs stones t text = text ≡ turn_text t.board.size stones knobs t.cell t.closed
