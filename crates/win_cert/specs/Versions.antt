-- The version that lines need.
use Rattle.std.specs.Prelude.{ℕ, Bool, true, false, List, if◌then◌else◌}
use Rattle.std.specs.List.{list_any}
use Rattle.win_cert.specs.declared.certs.TheConstants.{LATEST_VERSION, SECOND_VERSION}
use Rattle.win_cert.specs.declared.certs.TheConstants.{THIRD_VERSION}
use Rattle.win_cert.specs.declared.lines.Line.{Line}
use Rattle.win_cert.specs.declared.lines.Line.TheVariants.{Lift, OrMany}

-- whether the line is an `or` of four or more entries
abbrev pub is_or_many : Line → Bool
is_or_many (OrMany numbers) = true
is_or_many line = false

-- whether the line is a `lift`
abbrev pub is_lift : Line → Bool
is_lift (Lift i) = true
is_lift line = false

-- the version of a certificate of these lines: 2 where that suffices, else 3 where that does,
-- else 4
abbrev pub version_for : List Line → ℕ
version_for lines = if list_any is_lift lines then LATEST_VERSION
    else (if list_any is_or_many lines then THIRD_VERSION else SECOND_VERSION)
