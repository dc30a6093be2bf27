use Rattle.std.proofs.Common.{[], ◌∷◌, ◌++◌}
use Rattle.std.proofs.lemmas.List.Elements.{All-push, All-same}
use Rattle.look_ahead.specs.Looked.{IsLinedRow}
use Rattle.look_ahead.proofs.searches.Look.add_row.Goals as goal

pub returns-in_ok-push-clause-lines : goal.returns-in_ok-push-clause-lines
returns-in_ok-push-clause-lines c all =
    let lined_row = IsLinedRow c.args.board.now in
    let before = c.args.rows.now.items in
    let row = c.in_ok-row.row in
    All-same lined_row c.push.new.self.items (before ++ row ∷ []) c.in_ok-push.ensures.items
    (All-push lined_row before row all c.in_ok-row.ensures.line)
