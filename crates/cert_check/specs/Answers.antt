-- What the checker's answers mean.
use Rattle.win_cert.specs.declared.verdicts.Verdict.{Verdict}
use Rattle.win_cert.specs.declared.verdicts.Verdict.TheVariants.{Yes, No}

-- the verdict is yes
abbrev pub IsYes : Verdict → Type 0
IsYes (Yes claim carrier) = Unit {0}
IsYes (No line reason) = ⊥
