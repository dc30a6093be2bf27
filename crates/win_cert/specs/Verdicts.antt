-- Which certificates are accepted, and the verdict on one.
use Rattle.std.specs.Prelude.{◌≡◌, ℕ, ◌<◌, ◌↔◌, List, [], ◌∷◌, ◌++◌, Option, Some, None, length}
use Rattle.std.specs.Prelude.{map, max}
use Rattle.std.specs.List.{slice_get}
use Rattle.std.specs.Option.{option_and_then}
use Rattle.win_cert.specs.Entries.{ScopedEntry, context_at, entry_at}
use Rattle.win_cert.specs.Reasons.{reason_against}
use Rattle.win_cert.specs.declared.statements.Statement.{Statement}
use Rattle.win_cert.specs.declared.statements.Statement.TheVariants.{Claim, Derivation}
use Rattle.win_cert.specs.declared.certs.Cert.{Cert}
use Rattle.win_cert.specs.declared.certs.TheConstants.{SECOND_VERSION}
use Rattle.win_cert.specs.declared.reasons.Reason.{Reason}
use Rattle.win_cert.specs.declared.verdicts.Verdict.{Verdict}
use Rattle.win_cert.specs.declared.verdicts.Verdict.TheVariants.{Yes, No}

-- the derivation lines, and then the claim
abbrev pub statements_of : Cert → List Statement
statements_of cert = map Derivation cert.lines ++ Claim cert.claim cert.entry ∷ []

-- the first reason against statement k, if there is one; the claim has the number after the last
-- line
abbrev pub reason_at : Cert → ℕ → Option Reason
reason_at cert k =
    option_and_then (reason_against (context_at cert k)) (slice_get (statements_of cert) k)

-- there is no reason against a line or the claim
abbrev pub Accepted : Cert → Type 0
Accepted cert = (k : ℕ) → reason_at cert k ≡ None

-- the entry that the claim names
abbrev pub claimed_entry : Cert → Option ScopedEntry
claimed_entry cert = entry_at (context_at cert (length cert.lines)) cert.entry

-- the verdict on a certificate: yes where it is accepted, and else the first statement against
-- which there is a reason, and the first reason against it
abbrev pub IsVerdict : Cert → Verdict → Type 0
IsVerdict cert (Yes kind carrier) =
    Accepted cert × (kind ≡ cert.claim)
    × (a : ScopedEntry) × (claimed_entry cert ≡ Some a) × (carrier ≡ a.carrier)
IsVerdict cert (No k reason) =
    (reason_at cert k ≡ Some reason) × ((j : ℕ) → j < k → reason_at cert j ≡ None)

-- the certificate in version 2, if it is of version 1, and all else as it was
abbrev pub raised : Cert → Cert
raised cert = record cert { version = max cert.version SECOND_VERSION }

-- there are the same verdicts on the two certificates
abbrev pub HaveSameVerdict : Cert → Cert → Type 0
HaveSameVerdict a b = (v : Verdict) → IsVerdict a v ↔ IsVerdict b v
