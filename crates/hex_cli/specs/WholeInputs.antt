-- What the modes that take their whole input answer. No clause of a public call cites this.
use Rattle.hex_devices.specs.Inputs.{TextOf}
use Rattle.hex_cli.specs.AuditTexts.{IsAuditText}
use Rattle.hex_cli.specs.CertTexts.{IsCheckText, IsMigrateText}
use Rattle.hex_cli.specs.SolveTexts.{IsSolveText}
use Rattle.hex_cli.specs.declared.whole_inputs.InputMode.{InputMode}
use Rattle.hex_cli.specs.declared.whole_inputs.InputMode.TheVariants.{Check, Migrate, Audit, Solve}

-- the texts of each
abbrev pub IsTextOf : InputMode → TextOf
IsTextOf Check = IsCheckText
IsTextOf Migrate = IsMigrateText
IsTextOf Audit = IsAuditText
IsTextOf (Solve asked) = IsSolveText asked
