-- The results that say a fault.
use Rattle.std.specs.Prelude.{◌≡◌, Result, Ok, Err}
use Rattle.hex_engine.specs.declared.answers.Answer.{Answer}
use Rattle.hex_engine.specs.declared.answers.Answer.TheVariants.{Fail}
use Rattle.hex_engine.specs.declared.answers.EngineError.{EngineError}
use Rattle.hex_engine.specs.declared.answers.EngineError.TheVariants.{Archive}
use Rattle.hex_engine.specs.declared.answers.Fail.TheVariants.{ReadFault}

-- the answer is the failure `read fault`
abbrev pub IsReadFault : {E : Type 0} → Result Answer E → Type 0
IsReadFault result = result ≡ Ok (Fail ReadFault)

-- the archive failed
abbrev pub IsArchiveFault : {T : Type 0} → Result T EngineError → Type 0
IsArchiveFault result = result ≡ Err Archive
