use Rattle.std.proofs.Common.{length}
use Rattle.std.proofs.lemmas.Result.{err_from_is_err_and}
use Rattle.sgf_tree.specs.ReadingStates.{state_of}
use Rattle.sgf_tree.proofs.Verdicts.{ok_of, unfinished_of}
use Rattle.sgf_tree.proofs.Answering.{Answered, answers_ok, answers_not_sgf, answers_err}
use Rattle.sgf_tree.proofs.parsing.parse.Goals as goal

pub returns-in-Some : goal.returns-in-Some
returns-in-Some c =
    let bytes = c.args.bytes.now in
    let whole = ok_of bytes
    (state_of c.in_ok-reading.reading) c.in-Some.collection.trees c.in_ok-reading.ensures c.in-Some.ensures.some in
    let a = answers_ok bytes c.in-Some.collection whole.0 whole.1 in
    record { ok = a.ok; printable = a.printable; text = a.text; too_deep = a.too_deep; deep = a.deep; not_sgf = a.not_sgf; refused = a.refused }

pub returns-in-None : goal.returns-in-None
returns-in-None c =
    let bytes = c.args.bytes.now in
    let here = unfinished_of bytes
    (state_of c.in_ok-reading.reading) c.in_ok-reading.ensures c.in-None.ensures.none in
    let a = answers_not_sgf bytes (length bytes) here in
    record { ok = a.ok; printable = a.printable; text = a.text; too_deep = a.too_deep; deep = a.deep; not_sgf = a.not_sgf; refused = a.refused }

pub returns-in_err-reading : goal.returns-in_err-reading
returns-in_err-reading c =
    let bytes = c.args.bytes.now in
    let p = err_from_is_err_and c.from_residual.result c.from_residual.ensures.1 in
    let a : Answered bytes c.from_residual.result
    = rw (p.1, p.2) (answers_err bytes c.in_err-reading.field-0.0 c.in_err-reading.ensures) in
    record { ok = a.ok; printable = a.printable; text = a.text; too_deep = a.too_deep; deep = a.deep; not_sgf = a.not_sgf; refused = a.refused }
