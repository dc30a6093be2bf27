-- What is read is what the bytes are read as: the answer that is computed line by line is the one
-- that the whole text tells.
use Rattle.std.proofs.Common.{◌≡◌, ◌≢◌, ℕ, List, Result, Ok, Err, refl, ap, sym, ◌∙◌, arith}
use Rattle.win_cert.specs.Lines.{cert_in, lines_of}
use Rattle.win_cert.specs.Readings.{IsBadAt, IsParsedAs}
use Rattle.win_cert.specs.Texts.{cert_text}
use Rattle.win_cert.specs.Writable.{HasBoard, IsWritable}
use Rattle.win_cert.specs.declared.certs.Cert.{Cert}
use Rattle.win_cert.specs.declared.refusals.CertError.{CertError}
use Rattle.win_cert.specs.declared.refusals.CertError.TheVariants.{Memory, NotCert, TooManyLines}
use Rattle.win_cert.proofs.ReadMeans.{read_means}
use Rattle.win_cert.proofs.ReadBack.{read_back}
use Rattle.win_cert.proofs.GoodFronts.{good_before}
use Rattle.win_cert.proofs.LongTexts.{long_back, long_means}
use Rattle.win_cert.proofs.BadHeads.{good_lines_before}

-- ---- what is read

pub ok_is_none : (c d : Cert) (m : CertError) → ◌≡◌ {A = Result Cert CertError} (Ok c) (Err m) → ⊥
ok_is_none c d m e = cc

pub two_causes : (m : ℕ) → ◌≡◌ {A = Result Cert CertError} (Err TooManyLines) (Err (NotCert m)) → ⊥
two_causes m e = cc

pub bad_at : (bytes : List ℕ) (m : ℕ) → cert_in (lines_of bytes) ≡ Err (NotCert m) → IsBadAt bytes m
bad_at bytes m e = record {
  good = good_lines_before bytes m e;
  bad = λ g. let past = good_before bytes m m g e in absurd (omega (arith, past));
  few = λ long. two_causes m (sym (long_back bytes long) ∙ e);
  no_text = λ cert board good is. ok_is_none cert cert (NotCert m)
      (sym (ap (λ b. cert_in (lines_of b)) is ∙ read_back cert board good) ∙ e);
}

-- the answer that is computed is what the bytes are read as
pub parsed : (bytes : List ℕ) (r : Result Cert CertError)
    → (r ≢ Err Memory → r ≡ cert_in (lines_of bytes)) → IsParsedAs bytes r
parsed bytes (Ok cert) h = read_means bytes cert (sym (h (λ e. cc)))
parsed bytes (Err (NotCert m)) h = bad_at bytes m (sym (h (λ e. cc)))
parsed bytes (Err TooManyLines) h = long_means bytes (sym (h (λ e. cc)))
parsed bytes (Err Memory) h = tt

-- a text that was written is read back
pub written_again : (cert : Cert) (r : Result Cert CertError) → HasBoard cert → IsWritable cert
    → IsParsedAs (cert_text cert) r
    → r ≢ Err Memory → r ≡ Ok cert
written_again cert (Ok other) board good (other_board, other_good, is) some =
    sym (read_back other other_board other_good) ∙ ap (λ b. cert_in (lines_of b)) (sym is)
    ∙ read_back cert board good
written_again cert (Err (NotCert m)) board good bad some = absurd (bad.no_text cert board good refl)
written_again cert (Err TooManyLines) board good long some =
    absurd (ok_is_none cert cert TooManyLines (sym (read_back cert board good) ∙ long_back (cert_text cert) long))
written_again cert (Err Memory) board good any some = absurd (some refl)
