-- Texts of too many lines.
use Rattle.std.proofs.Common.{◌≡◌, ℕ, inl, inr, List, [], ◌∷◌, ◌++◌, map, Ok, Err, ap, ◌∙◌, arith}
use Rattle.conn_store.specs.declared.entries.Kind.TheVariants.{Full}
use Rattle.win_cert.specs.Lines.{◌>>=◌, cert_in, cert_of, certs_of, head_in, lines_of, steps_in}
use Rattle.win_cert.specs.Readings.{HasTooManyLines}
use Rattle.win_cert.specs.Texts.{claim_words, line_words, words_before_claim}
use Rattle.win_cert.specs.declared.certs.Cert.{Cert}
use Rattle.win_cert.specs.declared.heads.Head.{Head}
use Rattle.win_cert.specs.declared.refusals.CertError.TheVariants.{TooManyLines}
use Rattle.win_cert.proofs.BadLines.{cut_at, later_some, too_many_back, too_many_means}
use Rattle.win_cert.proofs.HeadMeans.{IsHead, TextLines, head_lines, head_means}
use Rattle.win_cert.proofs.LineParts.{lines_some}
use Rattle.win_cert.proofs.PlainWords.{plain_cert}
use Rattle.win_cert.proofs.TextLines.{lines_before}
use Rattle.win_cert.proofs.ReadBack.{head_back}
use Rattle.win_cert.proofs.GoodFronts.{bind_err, steps_err, head_not_long, front_lines, head_of}

-- ---- too many lines

pub long_back : (bytes : List ℕ) → HasTooManyLines bytes
    → cert_in (lines_of bytes) ≡ Err TooManyLines
long_back bytes (cert, text, board, good, long, is) =
    let head = head_of cert in
    let is_head : IsHead head = record { version = good.version; board = board } in
    let lines = map (line_words cert.board.size) cert.lines in
    let plain = front_lines (words_before_claim cert) (claim_words cert ∷ [])
    (plain_cert cert board good) in
    let later = lines ++ lines_of text in
    ap cert_in (ap lines_of is ∙ lines_before (words_before_claim cert) text plain)
    ∙ ap (λ r. r >>= λ (h : Head × TextLines). certs_of h.0 h.1)
    (head_back head later (later_some lines (lines_of text) (lines_some text)) is_head)
    ∙ ap (λ r. r >>= λ s. Ok (cert_of head s))
    (too_many_back cert.version cert.board.size 0 cert.lines (lines_of text) board.most good.lines (omega arith)
    (omega (arith, long)) (lines_some text))

pub long_means : (bytes : List ℕ) → cert_in (lines_of bytes) ≡ Err TooManyLines
    → HasTooManyLines bytes
long_means bytes e
    = elim (bind_err (head_in (lines_of bytes)) (λ (h : Head × TextLines). certs_of h.0 h.1) TooManyLines e) [
      | inl h ↦ absurd (head_not_long (lines_of bytes) h)
      | inr a ↦
          let head : Head = a.0.0 in
          let good = head_means (lines_of bytes) a.0 a.1 in
          let long = too_many_means head.version head.board.size 0 a.0.1 (omega arith)
          (steps_err head (steps_in head.version head.board.size 0 a.0.1) TooManyLines a.2) in
          let cert : Cert = cert_of head (long.front, (Full, 0)) in
          let cut : lines_of bytes ≡ words_before_claim cert ++ long.rest = good.1
          ∙ ap (λ rest. head_lines head ++ rest) long.is in
          let text = cut_at bytes (words_before_claim cert) long.rest long.more cut in
          let count = long.long in
          (cert, text.0, good.0.board, record { version = good.0.version; lines = long.good; entry = omega arith }, omega (arith, count), text.1)
    ]
