-- What was made has the game, and what is printed is its text.
use Rattle.std.specs.Prelude.{ℕ, List}
use Rattle.std.proofs.lemmas.Result.{IfOk-weaker}
use Rattle.sgf_tree.specs.Grammar.{Text}
use Rattle.sgf_game.specs.RecordOf.{IsRecordOf}
use Rattle.sgf_game.proofs.records.game_text.Goals as goal

pub returns-clause-record : goal.returns-clause-record
returns-clause-record c =
    let made = c.in_ok-collection in
    let trees = made.collection.trees in
    IfOk-weaker c.print.result (Text trees) (λ (bytes : List ℕ). IsRecordOf bytes c.args.game.now)
    (λ bytes text. record { trees = trees; text = text; shallow = made.ensures.shallow; is = made.ensures.same }) c.print.ensures.text
