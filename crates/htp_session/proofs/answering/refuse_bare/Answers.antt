-- The id is that of the line, and the message that of a syntax error.
use Rattle.std.proofs.Common.{◌≡◌, ◌++◌, Some, ◌∙◌, subst}
use Rattle.std.specs.Prelude.{OnOk}
use Rattle.htp_line.specs.Answering.{failure}
use Rattle.htp_session.proofs.answering.refuse_bare.Goals as goal

pub returns-clause-text : goal.returns-clause-text
returns-clause-text c =
    subst (λ m. OnOk c.refuse.result (c.refuse.new.out.items ≡ c.args.out.now.items ++ failure (Some c.args.id) m))
    (c.as_bytes.ensures.value ∙ c.message.ensures)
    (c.refuse.ensures.text (Some c.args.id) (c.deref.ensures.value ∙ c.in_ok-id.ensures.text))
