-- The certificate that is lent is the turn's.
use Rattle.std.proofs.Common.{◌≡◌, Option, Some, sym, ap, ◌∙◌, subst}
use Rattle.std.specs.Prelude.{option_map}
use Rattle.hex_plan.specs.TurnTexts.{cert_body, wincert_of}
use Rattle.hex_plan.specs.Turns.{CanBeWritten}
use Rattle.hex_plan.specs.declared.plans.Planned.{Planned}
use Rattle.hex_plan.proofs.texts.wincert_text.Goals as goal

-- what holds of what is lent, if it is this
lent : {A B : Type 0} (o : Option A) (f : A → B) (p : Option B) (q : Option A) → o ≡ q
    → option_map f o ≡ p → option_map f q ≡ p
lent o f p q e h = subst (λ v. option_map f v ≡ p) e h

pub cert_body-requires : goal.cert_body-requires
cert_body-requires c = subst CanBeWritten
    (sym (lent c.certificate.result (λ cert. cert.now) _ _ c.in-Some.is c.certificate.ensures))
    c.planned.ensures.written

pub returns-in_ok-cert_body-in-Some : goal.returns-in_ok-cert_body-in-Some
returns-in_ok-cert_body-in-Some c =
    ap Some c.in_ok-cert_body-in-Some.ensures
    ∙ ap (option_map cert_body)
    (lent c.certificate.result (λ cert. cert.now) _ _ c.in-Some.is c.certificate.ensures)
    ∙ ap (λ (p : Planned). wincert_of p.plan p.loss) c.planned.ensures.value
