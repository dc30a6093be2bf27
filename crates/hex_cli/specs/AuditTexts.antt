-- What mode audit answers.
use Rattle.std.specs.Prelude.{◌≡◌, ℕ, Bool, true, false, List, ◌++◌, codes}
use Rattle.std.specs.Fmt.{decimal}
use Rattle.trace_audit.specs.Numbers.{flaw_number}
use Rattle.trace_audit.specs.Verdicts.{IsVerdictOn}
use Rattle.trace_audit.specs.declared.types.Audit.{Audit}
use Rattle.trace_audit.specs.declared.types.Audit.TheVariants.{Yes, No}

-- the line for an audit
abbrev pub audit_text : Audit → List ℕ
audit_text (Yes trees) = codes "yes " ++ (decimal trees ++ codes "\n")
audit_text (No tree why) = codes "no "
    ++ (decimal tree ++ (codes " " ++ (decimal (flaw_number why) ++ codes "\n")))

-- whether an audit is yes
abbrev pub is_clean : Audit → Bool
is_clean (Yes trees) = true
is_clean (No tree why) = false

-- Mode audit: the text is the line of the verdict on the bytes.
abbrev pub IsAuditText : List ℕ → List ℕ → Bool → Type 0
IsAuditText bytes text accepted = (audit : Audit) × IsVerdictOn bytes audit
    × (accepted ≡ is_clean audit) × (text ≡ audit_text audit)
