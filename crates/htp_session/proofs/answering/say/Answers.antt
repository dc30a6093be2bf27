-- Lines that ask for nothing that is used up.
use Rattle.std.proofs.Common.{[], None, Some, refl, rules, sym, append-nil, codes}
use Rattle.htp_line.specs.Answering.{failure}
use Rattle.htp_session.proofs.Speaking.{refused}
use Rattle.htp_session.proofs.answering.say.Goals as goal

pub returns-in_default-clause-speaks : goal.returns-in_default-clause-speaks
returns-in_default-clause-speaks c =
    refused _ _ (failure None (codes "line too long")) _ _ c.refuse.result
    (λ later. rw c.in_default.is refl) (c.refuse.ensures.text None refl) c.refuse.ensures.whole

pub returns-in-Blank-clause-speaks : goal.returns-in-Blank-clause-speaks
returns-in-Blank-clause-speaks c = ([], sym (append-nil _), λ later. search rules)

pub returns-in-Bare-clause-speaks : goal.returns-in-Bare-clause-speaks
returns-in-Bare-clause-speaks c =
    refused _ _ (failure (Some c.in-Bare.id) (codes "syntax error")) _ _ c.refuse_bare.result
    (λ later. search rules) c.refuse_bare.ensures.text c.refuse_bare.ensures.whole
