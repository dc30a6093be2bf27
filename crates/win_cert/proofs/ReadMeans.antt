-- A certificate that is read is good, and the bytes are its text.
use Rattle.std.proofs.Common.{◌≡◌, ℕ, ◌≤◌, List, [], ◌∷◌, ◌++◌, length, map, Ok, ap, sym, ◌∙◌}
use Rattle.std.proofs.Common.{subst, arith}
use Rattle.std.proofs.lemmas.List.{append-nil, append_assoc}
use Rattle.win_cert.specs.Lines.{cert_in, cert_of, certs_of, head_in, lines_of, steps_in}
use Rattle.win_cert.specs.Texts.{cert_text, cert_words, claim_words, line_words}
use Rattle.win_cert.specs.Writable.{HasBoard, HasSpelling, IsWritable, most_lines}
use Rattle.win_cert.specs.declared.certs.Cert.{Cert}
use Rattle.win_cert.specs.declared.heads.Head.{Head}
use Rattle.win_cert.proofs.HeadMeans.{TextLines, bind_ok, head_lines, head_means}
use Rattle.win_cert.proofs.PlainWords.{plain_cert}
use Rattle.win_cert.proofs.StepsMean.{nothing, steps_mean}
use Rattle.win_cert.proofs.TextLines.{begins_with}

-- the certificate is good, and the bytes are its text
abbrev pub IsTextOf : List ℕ → Cert → Type 0
IsTextOf bytes cert = HasBoard cert × IsWritable cert × (bytes ≡ cert_text cert)

pub read_means : (bytes : List ℕ) (cert : Cert) → cert_in (lines_of bytes) ≡ Ok cert
    → IsTextOf bytes cert
read_means bytes cert e =
    let h = bind_ok (head_in (lines_of bytes))
    (λ (h : Head × TextLines). certs_of h.0 h.1) cert e in
    let head : Head = h.0.0 in
    let s = bind_ok (steps_in head.version head.board.size 0 h.0.1)
    (λ s. Ok (cert_of head s)) cert h.2 in
    let is : cert_of head s.0 ≡ cert = cc in
    let good = head_means (lines_of bytes) h.0 h.1 in
    let steps = steps_mean head.version head.board.size 0 h.0.1 s.0 (omega arith) s.1 in
    let whole : Cert = cert_of head s.0 in
    let spelled : HasSpelling whole
    = record { version = good.0.version; lines = steps.good; entry = steps.entry } in
    let few : length whole.lines ≤ most_lines head.version = let f = steps.few in omega (arith, f) in
    let lines = map (line_words head.board.size) whole.lines in
    let cut : lines_of bytes ≡ cert_words whole ++ nothing =
    good.1 ∙ ap (λ rest. head_lines head ++ rest)
    (steps.lines_are ∙ sym (append_assoc lines (claim_words whole ∷ []) nothing)) in
    let text = begins_with (cert_words whole) bytes []
    (plain_cert whole good.0.board spelled) cut in
    subst (IsTextOf bytes) is (good.0.board, (spelled, few), text ∙ append-nil (cert_text whole))
