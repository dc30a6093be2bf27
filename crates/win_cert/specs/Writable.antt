-- Which certificates can be written.
use Rattle.std.specs.Prelude.{◌≡◌, ℕ, ◌*◌, ◌<◌, ◌≤◌, ◌⊎◌, nat_le, List, [], ◌∷◌, length, All}
use Rattle.std.specs.Prelude.{if◌then◌else◌}
use Rattle.hex_board.specs.Positions.{IsPosition, Within}
use Rattle.win_cert.specs.declared.certs.Cert.{Cert}
use Rattle.win_cert.specs.declared.certs.TheConstants.{FIRST_VERSION, SECOND_VERSION}
use Rattle.win_cert.specs.declared.certs.TheConstants.{LATEST_VERSION, MOST_LATEST_LINES}
use Rattle.win_cert.specs.declared.certs.TheConstants.{MOST_LINES, THIRD_VERSION}
use Rattle.win_cert.specs.declared.lines.End.{End}
use Rattle.win_cert.specs.declared.lines.End.TheVariants.{At, First, Second}
use Rattle.win_cert.specs.declared.lines.Line.{Line}
use Rattle.win_cert.specs.declared.lines.Line.TheVariants.{Adj, And, Key, Or2, Or3, Put, Done, Move}
use Rattle.win_cert.specs.declared.lines.Line.TheVariants.{Cases, Lift, OrMany}
use Rattle.win_cert.specs.declared.lines.TheConstants.{LEAST_CASES, LEAST_MANY, MOST_CASES}
use Rattle.win_cert.specs.declared.lines.TheConstants.{MOST_NUMBER}

-- each number has at most six digits
abbrev pub AreNumbers : List ℕ → Type 0
AreNumbers numbers = All (λ i. i ≤ MOST_NUMBER) numbers

-- the end is an edge, or a cell of the board of size n
abbrev pub IsEndOn : ℕ → End → Type 0
IsEndOn n (At k) = k < n * n
IsEndOn n First = Unit {0}
IsEndOn n Second = Unit {0}

-- scopes and cases are of this version: of each but the first
abbrev pub HasScopes : ℕ → Type 0
HasScopes version = SECOND_VERSION ≤ version

-- the line is one of that version on the board of size n: its cells lie on the board, and its
-- numbers are not too great
abbrev pub IsLineOf : ℕ → ℕ → Line → Type 0
IsLineOf version n (Adj x y) = IsEndOn n x × IsEndOn n y
IsLineOf version n (And i j) = AreNumbers (i ∷ j ∷ [])
IsLineOf version n (Key i j) = AreNumbers (i ∷ j ∷ [])
IsLineOf version n (Or2 i j) = AreNumbers (i ∷ j ∷ [])
IsLineOf version n (Or3 i j k) = AreNumbers (i ∷ j ∷ k ∷ [])
IsLineOf version n (OrMany numbers) =
    (THIRD_VERSION ≤ version) × (LEAST_MANY ≤ length numbers) × (length numbers ≤ MOST_CASES)
    × AreNumbers numbers
IsLineOf version n (Put cells) = HasScopes version × Within n cells
IsLineOf version n Done = HasScopes version
IsLineOf version n (Move k i) = HasScopes version × (k < n * n) × AreNumbers (i ∷ [])
IsLineOf version n (Cases numbers) =
    HasScopes version × (LEAST_CASES ≤ length numbers) × (length numbers ≤ MOST_CASES)
    × AreNumbers numbers
IsLineOf version n (Lift i) = (LATEST_VERSION ≤ version) × AreNumbers (i ∷ [])

-- there is this version
abbrev pub IsVersion : ℕ → Type 0
IsVersion version =
    (version ≡ FIRST_VERSION) ⊎ (version ≡ SECOND_VERSION) ⊎ (version ≡ THIRD_VERSION)
    ⊎ (version ≡ LATEST_VERSION)

-- each part of the certificate can be spelled
pub record HasSpelling (cert : Cert) : Type 0 where
  pub version : IsVersion cert.version
  pub lines : All (IsLineOf cert.version cert.board.size) cert.lines
  pub entry : cert.entry ≤ MOST_NUMBER

-- the most derivation lines of a certificate of the version
abbrev pub most_lines : ℕ → ℕ
most_lines version = if nat_le LATEST_VERSION version then MOST_LATEST_LINES else MOST_LINES

-- the certificate can be written: each part can be spelled, and its lines are not too many
abbrev pub IsWritable : Cert → Type 0
IsWritable cert = HasSpelling cert × (length cert.lines ≤ most_lines cert.version)

-- the certificate's board is one, as that of each certificate in memory is
abbrev pub HasBoard : Cert → Type 0
HasBoard cert = IsPosition cert.board.size cert.board.black cert.board.white
