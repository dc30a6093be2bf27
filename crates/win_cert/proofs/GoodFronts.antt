-- Good lines are never the line that is refused.
use Rattle.std.proofs.Common.{◌≡◌, ◌≢◌, ◌⊎◌, ℕ, ◌+◌, ◌<◌, ◌≤◌, zero, suc, inl, inr, List, [], ◌∷◌}
use Rattle.std.proofs.Common.{◌++◌, length, map, take, Option, Some, None, Result, Ok, Err, refl}
use Rattle.std.proofs.Common.{ap, sym, ◌∙◌, codes, arith}
use Rattle.std.proofs.lemmas.List.{length-append, length-map}
use Rattle.win_cert.specs.Lines.{◌>>=◌, Steps, at_line, cert_in, cert_of, certs_of, head_in}
use Rattle.win_cert.specs.Lines.{line_in, lines_of, player_in, size_in, steps_in, stones_in}
use Rattle.win_cert.specs.Lines.{version_in}
use Rattle.win_cert.specs.Readings.{HasGoodLines}
use Rattle.win_cert.specs.Texts.{cert_words, claim_words, line_words}
use Rattle.win_cert.specs.Writable.{HasBoard, HasSpelling}
use Rattle.win_cert.specs.declared.certs.Cert.{Cert}
use Rattle.win_cert.specs.declared.heads.Head.{Head}
use Rattle.win_cert.specs.declared.refusals.CertError.{CertError}
use Rattle.win_cert.specs.declared.refusals.CertError.TheVariants.{NotCert, TooManyLines}
use Rattle.win_cert.proofs.BadLines.{bad_after, bad_from, later_some, line_of_err, step_lines}
use Rattle.win_cert.proofs.HeadMeans.{IsHead, TextLines, head_lines}
use Rattle.win_cert.proofs.LineParts.{lines_some}
use Rattle.win_cert.proofs.PlainWords.{plain_cert}
use Rattle.win_cert.proofs.TextLines.{AreLines, lines_before}
use Rattle.win_cert.proofs.WordParts.{Words}
use Rattle.win_cert.proofs.ReadBack.{head_back}
use Rattle.win_cert.proofs.HeadStages.{tail5, tail4, tail3, tail2, bound5, bound4, bound3, bound2}
use Rattle.win_cert.proofs.HeadStages.{bound1, step2, step3, step4, step5}

-- ---- refusals, and what goes on

pub or_later : {A B : Type 0} (j : ℕ) (o : Option A) (f : A → Result B CertError) (d : CertError)
    → (at_line j o >>= f) ≡ Err d
    → (NotCert j ≡ d) ⊎ ((a : A) × (o ≡ Some a) × (f a ≡ Err d))
or_later j (Some a) f d e = inr (a, refl, e)
or_later j None f d e = inl (cc)

pub bind_err : {A B : Type 0} (r : Result A CertError) (f : A → Result B CertError) (d : CertError)
    → (r >>= f) ≡ Err d
    → (r ≡ Err d) ⊎ ((a : A) × (r ≡ Ok a) × (f a ≡ Err d))
bind_err (Ok a) f d e = inr (a, refl, e)
bind_err (Err c) f d e = inl (cc)

pub steps_err : (head : Head) (r : Result Steps CertError) (d : CertError)
    → (r >>= λ s. Ok (cert_of head s)) ≡ Err d → r ≡ Err d
steps_err head (Ok s) d e = cc
steps_err head (Err c) d e = cc

pub no_cert_at : (j : ℕ) → NotCert j ≡ TooManyLines → ⊥
no_cert_at j e = cc

pub no_ok : {A : Type 0} (x : A) (d : CertError) → ◌≡◌ {A = Result A CertError} (Ok x) (Err d) → ⊥
no_ok x d e = cc

pub head_not_long : (lines : TextLines) → head_in lines ≡ Err TooManyLines → ⊥
unfolding tail5 tail4 tail3 tail2
head_not_long lines e
    = elim (or_later 1 (line_in version_in lines) (λ v. tail2 v.0 v.1) TooManyLines e) [
      | inl z ↦ no_cert_at 1 z
      | inr v ↦
          elim (or_later 2 (line_in size_in v.0.1) (λ n. tail3 v.0.0 n.0 n.1) TooManyLines v.2) [
            | inl z ↦ no_cert_at 2 z
            | inr n ↦
                elim (or_later 3 (line_in player_in n.0.1) (λ p. tail4 v.0.0 n.0.0 p.0 p.1) TooManyLines n.2) [
                  | inl z ↦ no_cert_at 3 z
                  | inr p ↦
                      elim (or_later 4 (line_in (stones_in (codes "black") n.0.0 0) p.0.1) (λ b. tail5 v.0.0 n.0.0 p.0.0 b.0 b.1) TooManyLines p.2) [
                        | inl z ↦ no_cert_at 4 z
                        | inr b ↦
                            elim (or_later 5 (line_in (stones_in (codes "white") n.0.0 b.0.0) b.0.1) _ TooManyLines b.2)
                            [ inl z ↦ no_cert_at 5 z | inr w ↦ no_ok _ TooManyLines w.2 ]
                      ]
                ]
          ]
    ]

-- ---- fronts of good lines

pub take_front : (j : ℕ) (xs ys : TextLines) → j ≤ length xs → take j (xs ++ ys) ≡ take j xs
take_front zero xs ys few = refl
take_front (suc j) [] ys few = absurd (omega (arith, few))
take_front (suc j) (x ∷ xs) ys few = ap (λ ls. x ∷ ls) (take_front j xs ys (omega (arith, few)))

pub take_lines : (j : ℕ) (lines : TextLines) → AreLines lines → AreLines (take j lines)
take_lines zero lines p = tt
take_lines (suc j) [] p = tt
take_lines (suc j) (line ∷ lines) p = (p.0, take_lines j lines p.1)

pub front_lines : (xs ys : TextLines) → AreLines (xs ++ ys) → AreLines xs
front_lines [] ys p = tt
front_lines (x ∷ xs) ys p = (p.0, front_lines xs ys p.1)

pub cons_some : (words : Words) (lines : TextLines) → words ∷ lines ≢ []
cons_some words lines e = cc

-- good lines of a head are followed by a refusal at a later line
pub head_front : (head : Head) (rest : TextLines) (m : ℕ) → rest ≢ [] → IsHead head
    → (j : ℕ) → j ≤ 4
    → head_in (take j (head_lines head) ++ rest) ≡ Err (NotCert m) → j < m
head_front head rest m some good zero few e = let b = bound1 rest m e in omega (arith, b)
head_front head rest m some good (suc zero) few e =
    let b = bound2 head.version rest m (sym (step2 head rest some good) ∙ e) in omega (arith, b)
head_front head rest m some good (suc (suc zero)) few e =
    let b = bound3 head.version head.board.size rest m
    (sym (step2 head _ (cons_some _ _) good ∙ step3 head rest some good) ∙ e) in
    omega (arith, b)
head_front head rest m some good (suc (suc (suc zero))) few e =
    let b = bound4 head.version head.board.size head.player rest m
    (sym (step2 head _ (cons_some _ _) good ∙ step3 head _ (cons_some _ _) good ∙ step4 head rest some) ∙ e) in
    omega (arith, b)
head_front head rest m some good (suc (suc (suc (suc zero)))) few e =
    let b = bound5 head.version head.board.size head.player head.board.black rest m
    (sym (step2 head _ (cons_some _ _) good ∙ step3 head _ (cons_some _ _) good ∙ step4 head _ (cons_some _ _) ∙ step5 head rest some good) ∙ e) in
    omega (arith, b)
head_front head rest m some good (suc (suc (suc (suc (suc j))))) few e = absurd (omega (arith, few))

abbrev pub head_of : Cert → Head
head_of cert = record { version = cert.version; board = cert.board; player = cert.player }

pub any_from : (v n m : ℕ) (lines : TextLines) → steps_in v n 0 lines ≡ Err (NotCert m) → 6 ≤ m
any_from v n m [] e = let s : 6 ≡ m = line_of_err 6 m e in omega (arith, s)
any_from v n m (words ∷ lines) e
    = let b = bad_from v n 0 m (words ∷ lines) (cons_some words lines) e in omega (arith, b)

pub front_small : (cert : Cert) (rest : TextLines) (j m : ℕ) → HasBoard cert → HasSpelling cert
    → rest ≢ [] → j ≤ 4
    → cert_in (take j (cert_words cert) ++ rest) ≡ Err (NotCert m) → j < m
front_small cert rest j m board good some few e =
    let head = head_of cert in
    let is_head : IsHead head = record { version = good.version; board = board } in
    let s : Steps = (cert.lines, (cert.claim, cert.entry)) in
    let shown : cert_in (take j (head_lines head) ++ rest) ≡ Err (NotCert m) =
    sym (ap (λ front. cert_in (front ++ rest)) (take_front j (head_lines head) (step_lines cert.board.size s) (omega arith))) ∙ e in
    elim (bind_err (head_in (take j (head_lines head) ++ rest)) (λ (h : Head × TextLines). certs_of h.0 h.1) (NotCert m) shown) [
      | inl h ↦ head_front head rest m some is_head j few h
      | inr a ↦
          let six = any_from a.0.0.version a.0.0.board.size m a.0.1
          (steps_err a.0.0 (steps_in a.0.0.version a.0.0.board.size 0 a.0.1) (NotCert m) a.2) in
          omega (arith, six)
    ]

-- of a text that begins with good lines of a certificate none is refused
pub past_front : (cert : Cert) (rest : TextLines) (j m : ℕ) → HasBoard cert → HasSpelling cert
    → rest ≢ [] → j ≤ length cert.lines + 6
    → cert_in (take j (cert_words cert) ++ rest) ≡ Err (NotCert m) → j < m
past_front cert rest zero m board good some few e
    = front_small cert rest 0 m board good some (omega arith) e
past_front cert rest (suc zero) m board good some few e
    = front_small cert rest 1 m board good some (omega arith) e
past_front cert rest (suc (suc zero)) m board good some few e
    = front_small cert rest 2 m board good some (omega arith) e
past_front cert rest (suc (suc (suc zero))) m board good some few e
    = front_small cert rest 3 m board good some (omega arith) e
past_front cert rest (suc (suc (suc (suc zero)))) m board good some few e
    = front_small cert rest 4 m board good some (omega arith) e
past_front cert rest (suc (suc (suc (suc (suc j))))) m board good some few e =
    let head = head_of cert in
    let is_head : IsHead head = record { version = good.version; board = board } in
    let s : Steps = (cert.lines, (cert.claim, cert.entry)) in
    let later = take j (step_lines cert.board.size s) ++ rest in
    let shown : certs_of head later ≡ Err (NotCert m) =
    sym (ap (λ r. r >>= λ (h : Head × TextLines). certs_of h.0 h.1)
    (head_back head later (later_some (take j (step_lines cert.board.size s)) rest some) is_head)) ∙ e in
    let b = bad_after cert.version cert.board.size 0 j m s rest board.most good.lines good.entry some (omega (arith, few))
    (steps_err head (steps_in cert.version cert.board.size 0 later) (NotCert m) shown) in
    omega (arith, b)

pub words_count : (cert : Cert) → length (cert_words cert) ≡ length cert.lines + 6
words_count cert =
    let lines = map (line_words cert.board.size) cert.lines in
    let sum = length-append lines (claim_words cert ∷ []) in
    let same = length-map cert.lines (line_words cert.board.size) in
    omega (arith, sum, same)

-- a line that is refused comes after all lines that are good
pub good_before : (bytes : List ℕ) (j m : ℕ) → HasGoodLines bytes j
    → cert_in (lines_of bytes) ≡ Err (NotCert m) → j < m
good_before bytes j m (cert, text, board, good, few, is) e =
    let count = words_count cert in
    let cut : lines_of bytes ≡ take j (cert_words cert) ++ lines_of text =
    ap lines_of is
    ∙ lines_before (take j (cert_words cert)) text
    (take_lines j (cert_words cert) (plain_cert cert board good)) in
    past_front cert (lines_of text) j m board good (lines_some text) (omega (arith, few, count))
    (sym (ap cert_in cut) ∙ e)
