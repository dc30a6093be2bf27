-- Certificates that differ in their version alone.
use Rattle.std.proofs.Common.{◌≡◌, ℕ, zero, suc, [], ◌∷◌, ◌++◌, length, refl, ap, sym, ◌∙◌, subst}
use Rattle.std.proofs.Common.{◌↔◌}
use Rattle.std.specs.List.{slice_get}
use Rattle.std.specs.Option.{option_and_then}
use Rattle.win_cert.specs.Entries.{context_over, entries_below, entry_at, gives}
use Rattle.win_cert.specs.Reasons.{reason_against}
use Rattle.win_cert.specs.Verdicts.{HaveSameVerdict, IsVerdict, claimed_entry, raised, reason_at}
use Rattle.win_cert.specs.Verdicts.{statements_of}
use Rattle.win_cert.specs.declared.verdicts.Verdict.{Verdict}
use Rattle.win_cert.specs.declared.verdicts.Verdict.TheVariants.{No, Yes}
use Rattle.win_cert.specs.declared.certs.Cert.{Cert}

same_entries : (cert : Cert) (k : ℕ) → entries_below (raised cert) k ≡ entries_below cert k
same_entries cert zero = refl
same_entries cert (suc k)
    = ap (λ entries. entries ++ option_and_then (gives (context_over cert k entries)) (slice_get cert.lines k) ∷ [])
    (same_entries cert k)

same_reason : (cert : Cert) (k : ℕ) → reason_at (raised cert) k ≡ reason_at cert k
same_reason cert k
    = ap (λ entries. option_and_then (reason_against (context_over cert k entries)) (slice_get (statements_of cert) k))
    (same_entries cert k)

same_claim : (cert : Cert) → claimed_entry (raised cert) ≡ claimed_entry cert
same_claim cert
    = ap (λ entries. entry_at (context_over cert (length cert.lines) entries) cert.entry)
    (same_entries cert (length cert.lines))

same_verdict : (cert : Cert) (v : Verdict) → IsVerdict (raised cert) v ↔ IsVerdict cert v
same_verdict cert (Yes kind carrier) = (
  λ y. (λ k. sym (same_reason cert k) ∙ y.0 k, y.1, y.2, sym (same_claim cert) ∙ y.3, y.4),
  λ y. (λ k. same_reason cert k ∙ y.0 k, y.1, y.2, same_claim cert ∙ y.3, y.4),
)
same_verdict cert (No k reason) = (
  λ y. (sym (same_reason cert k) ∙ y.0, λ j below. sym (same_reason cert j) ∙ y.1 j below),
  λ y. (same_reason cert k ∙ y.0, λ j below. same_reason cert j ∙ y.1 j below),
)

-- there are the same verdicts on the raised certificate
pub raised_alike : (cert new : Cert) → new ≡ raised cert → HaveSameVerdict cert new
raised_alike cert new e
    = subst (HaveSameVerdict cert) (sym e) (λ v. let b = same_verdict cert v in (b.1, b.0))
