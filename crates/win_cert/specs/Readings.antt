-- What is read from bytes: a certificate, or the first line that is not as it should be.
use Rattle.std.specs.Prelude.{◌≡◌, ℕ, ◌+◌, ◌-◌, ◌≤◌, List, ◌++◌, length, take, Result, Ok, Err}
use Rattle.std.specs.List.{flat_map}
use Rattle.win_cert.specs.Texts.{cert_text, cert_words, ended, words_before_claim}
use Rattle.win_cert.specs.Writable.{HasBoard, HasSpelling, IsWritable, most_lines}
use Rattle.win_cert.specs.declared.certs.Cert.{Cert}
use Rattle.win_cert.specs.declared.refusals.CertError.{CertError}
use Rattle.win_cert.specs.declared.refusals.CertError.TheVariants.{NotCert, TooManyLines, Memory}

-- the bytes begin with the first n lines of the text of some certificate, which may have any
-- number of lines
abbrev pub HasGoodLines : List ℕ → ℕ → Type 0
HasGoodLines bytes n =
    (cert : Cert) × (rest : List ℕ) × HasBoard cert × HasSpelling cert
    × (n ≤ length (cert_words cert))
    × (bytes ≡ flat_map ended (take n (cert_words cert)) ++ rest)

-- the bytes begin with the lines before the claim of some certificate, whose derivation lines are
-- one too many
abbrev pub HasTooManyLines : List ℕ → Type 0
HasTooManyLines bytes =
    (cert : Cert) × (rest : List ℕ) × HasBoard cert × HasSpelling cert
    × (length cert.lines ≡ most_lines cert.version + 1)
    × (bytes ≡ flat_map ended (words_before_claim cert) ++ rest)

-- the bytes are the text of no certificate, and the line with this number, from 1, is the first
-- that is not as it should be
pub record IsBadAt (bytes : List ℕ) (line : ℕ) : Type 0 where
  pub good : HasGoodLines bytes (line - 1)
  pub bad : ¬ (HasGoodLines bytes line)
  pub few : ¬ (HasTooManyLines bytes)
  pub no_text : (cert : Cert) → HasBoard cert → IsWritable cert → ¬ (bytes ≡ cert_text cert)

-- what the bytes are read as: their certificate, or why there is none; memory may run out at any
-- bytes
abbrev pub IsParsedAs : List ℕ → Result Cert CertError → Type 0
IsParsedAs bytes (Ok cert) = HasBoard cert × IsWritable cert × (bytes ≡ cert_text cert)
IsParsedAs bytes (Err (NotCert line)) = IsBadAt bytes line
IsParsedAs bytes (Err TooManyLines) = HasTooManyLines bytes
IsParsedAs bytes (Err Memory) = Unit {0}
