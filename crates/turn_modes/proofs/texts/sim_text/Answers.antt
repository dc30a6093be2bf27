use Rattle.std.proofs.Common.{◌≡◌, Option, Some, None, sym, ap, ◌∙◌, rules}
use Rattle.std.specs.Prelude.{IsSome, option_map}
use Rattle.tree_words.specs.Closing.{ClosedTree}
use Rattle.hex_plan.specs.TurnTexts.{report_of, report_on}
use Rattle.hex_plan.specs.Turns.{TurnData}
use Rattle.turn_modes.proofs.texts.sim_text.Goals as goal

-- a turn with a tree has a report
has_report : (t : TurnData) → IsSome t.closed → None ≡ report_of t → ⊥
unfolding report_of
has_report t h e = none t.closed h e
  where
    none : (o : Option ClosedTree) → IsSome o → None ≡ option_map (report_on t.board.size) o → ⊥
    none None h e = absurd (search rules)
    none (Some tree) h e = absurd (cc)

pub unreachable-requires : goal.unreachable-requires
unreachable-requires c =
    has_report c.args.turn.now c.requires
    (sym (ap (option_map (λ text. text.now)) c.in_default.is) ∙ c.report.ensures
    ∙ ap (λ texts. texts.report) c.in_ok-texts.ensures)
