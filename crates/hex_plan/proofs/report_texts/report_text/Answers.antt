-- The report is that of the turn's tree, if it has one.
use Rattle.std.proofs.Common.{◌≡◌, Some, None, sym, ap, ◌∙◌}
use Rattle.std.specs.Prelude.{option_map}
use Rattle.tree_words.specs.Closing.{ClosedTree}
use Rattle.hex_plan.specs.TurnTexts.{report_of, report_on}
use Rattle.hex_plan.proofs.report_texts.report_text.Goals as goal

pub returns-in-None : goal.returns-in-None
unfolding report_of
returns-in-None c =
    let none : c.args.turn.now.closed ≡ None = sym c.closed.ensures.value
    ∙ ap (option_map (λ tree. tree.now)) c.in-None.is in
    sym (ap (option_map (report_on c.args.turn.now.board.size)) none)

pub returns-in_ok-tree_text-in-Some : goal.returns-in_ok-tree_text-in-Some
unfolding report_of
returns-in_ok-tree_text-in-Some c =
    let tree : ClosedTree = c.in-Some.closed.now in
    let some : c.args.turn.now.closed ≡ Some tree = sym c.closed.ensures.value
    ∙ ap (option_map (λ tree. tree.now)) c.in-Some.is in
    let size : c.size.result ≡ c.args.turn.now.board.size = cc in
    ap Some (c.in_ok-tree_text-in-Some.ensures ∙ ap (λ n. report_on n tree) size)
    ∙ sym (ap (option_map (report_on c.args.turn.now.board.size)) some)
