-- What the modes for certificates answer.
use Rattle.std.specs.Prelude.{◌≡◌, ◌≢◌, ◌⊎◌, ℕ, Bool, true, false, List, ◌++◌, Ok, Err, codes}
use Rattle.std.specs.Fmt.{decimal}
use Rattle.conn_store.specs.declared.entries.Kind.TheVariants.{Full, Semi}
use Rattle.win_cert.specs.Readings.{IsParsedAs}
use Rattle.win_cert.specs.Reasons.{number_of_reason}
use Rattle.win_cert.specs.Texts.{cert_text}
use Rattle.win_cert.specs.Verdicts.{IsVerdict, raised}
use Rattle.win_cert.specs.declared.certs.Cert.{Cert}
use Rattle.win_cert.specs.declared.refusals.CertError.{CertError}
use Rattle.win_cert.specs.declared.refusals.CertError.TheVariants.{NotCert, TooManyLines, Memory}
use Rattle.win_cert.specs.declared.verdicts.Verdict.{Verdict}
use Rattle.win_cert.specs.declared.verdicts.Verdict.TheVariants.{Yes, No}

-- the line for bytes that are no certificate
abbrev pub refusal_text : CertError → List ℕ
refusal_text (NotCert line) = codes "not a certificate at line " ++ (decimal line ++ codes "\n")
refusal_text TooManyLines = codes "too many lines\n"
refusal_text Memory = codes ""

-- the bytes are no certificate, and the text says where
abbrev pub IsRefusalText : List ℕ → List ℕ → Type 0
IsRefusalText bytes text = (error : CertError) × (error ≢ Memory)
    × IsParsedAs bytes (Err error) × (text ≡ refusal_text error)

-- Mode migrate: the text is that of the certificate that the bytes are, in version 2 if it is of
-- version 1; or they are none.
abbrev pub IsMigrateText : List ℕ → List ℕ → Bool → Type 0
IsMigrateText bytes text true = (cert : Cert) × IsParsedAs bytes (Ok cert)
    × (text ≡ cert_text (raised cert))
IsMigrateText bytes text false = IsRefusalText bytes text

-- the line for a verdict
abbrev pub verdict_text : Verdict → List ℕ
verdict_text (Yes Full carrier) = codes "yes full\n"
verdict_text (Yes Semi carrier) = codes "yes semi\n"
verdict_text (No line reason) = codes "no "
    ++ (decimal line ++ (codes " " ++ (decimal (number_of_reason reason) ++ codes "\n")))

-- whether a verdict is yes
abbrev pub is_yes : Verdict → Bool
is_yes (Yes claim carrier) = true
is_yes (No line reason) = false

-- the bytes are a certificate, and the text is the line of its verdict
abbrev pub IsVerdictText : List ℕ → List ℕ → Bool → Type 0
IsVerdictText bytes text accepted = (cert : Cert) × (verdict : Verdict) × IsParsedAs bytes (Ok cert)
    × IsVerdict cert verdict × (accepted ≡ is_yes verdict)
    × (text ≡ verdict_text verdict)

-- Mode check: the text is the line of the verdict on the certificate that the bytes are; or they
-- are none.
abbrev pub IsCheckText : List ℕ → List ℕ → Bool → Type 0
IsCheckText bytes text accepted = IsVerdictText bytes text accepted
    ⊎ (IsRefusalText bytes text × (accepted ≡ false))
