-- Heads, stage by stage: where one is refused.
use Rattle.std.proofs.Common.{◌≡◌, ◌≢◌, ◌⊎◌, ℕ, ◌≤◌, inl, inr, [], ◌∷◌, Option, Some, None, Result}
use Rattle.std.proofs.Common.{Ok, Err, refl, sym, ◌∙◌, codes, arith}
use Rattle.std.specs.Fmt.{decimal}
use Rattle.hex_cells.proofs.Bits.{has_none}
use Rattle.hex_cells.specs.declared.colours.Colour.{Colour}
use Rattle.win_cert.specs.Lines.{◌>>=◌, at_line, head_in, line_in, player_in, size_in, stones_in}
use Rattle.win_cert.specs.Lines.{version_in}
use Rattle.win_cert.specs.Texts.{colour_word, vertices_of}
use Rattle.win_cert.specs.declared.certs.TheConstants.{FIRST_VERSION, LATEST_VERSION}
use Rattle.win_cert.specs.declared.heads.Head.{Head}
use Rattle.win_cert.specs.declared.refusals.CertError.{CertError}
use Rattle.win_cert.specs.declared.refusals.CertError.TheVariants.{NotCert}
use Rattle.win_cert.proofs.HeadMeans.{IsHead, TextLines}
use Rattle.win_cert.proofs.ReadBack.{line_back, number_after_back, player_back, stones_back}
use Rattle.win_cert.proofs.ReadBack.{then_back, version_low}

-- ---- a head that is refused: the line is not before the stage

pub none_or : {A B : Type 0} (j m : ℕ) (o : Option A) (f : A → Result B CertError)
    → (at_line j o >>= f) ≡ Err (NotCert m)
    → (j ≡ m) ⊎ ((a : A) × (o ≡ Some a) × (f a ≡ Err (NotCert m)))
none_or j m (Some a) f e = inr (a, refl, e)
none_or j m None f e = inl (cc)

pub stage : {A B : Type 0} (j m : ℕ) (o : Option A) (f : A → Result B CertError)
    → ((a : A) → f a ≡ Err (NotCert m) → j ≤ m)
    → (at_line j o >>= f) ≡ Err (NotCert m) → j ≤ m
stage j m o f h e
    = elim (none_or j m o f e) [ inl same ↦ omega (arith, same) | inr later ↦ h later.0 later.2 ]

-- the head after one line, after two, three and four
unfoldable pub tail5 : ℕ → ℕ → Colour → ℕ → TextLines → Result (Head × TextLines) CertError
tail5 v n p b lines = at_line 5 (line_in (stones_in (codes "white") n b) lines) >>= λ w.
    Ok (record { version = v; board = record { size = n; black = b; white = w.0 }; player = p }, w.1)

unfoldable pub tail4 : ℕ → ℕ → Colour → TextLines → Result (Head × TextLines) CertError
tail4 v n p lines
    = at_line 4 (line_in (stones_in (codes "black") n 0) lines) >>= λ b. tail5 v n p b.0 b.1

unfoldable pub tail3 : ℕ → ℕ → TextLines → Result (Head × TextLines) CertError
tail3 v n lines = at_line 3 (line_in player_in lines) >>= λ p. tail4 v n p.0 p.1

unfoldable pub tail2 : ℕ → TextLines → Result (Head × TextLines) CertError
tail2 v lines = at_line 2 (line_in size_in lines) >>= λ n. tail3 v n.0 n.1

pub head_is : (lines : TextLines)
    → head_in lines ≡ (at_line 1 (line_in version_in lines) >>= λ v. tail2 v.0 v.1)
unfolding tail5 tail4 tail3 tail2
head_is lines = refl

pub no_error : {A : Type 0} (x : A) (m : ℕ)
    → ◌≡◌ {A = Result A CertError} (Ok x) (Err (NotCert m)) → ⊥
no_error x m e = cc

pub bound5 : (v n : ℕ) (p : Colour) (b : ℕ) (lines : TextLines) (m : ℕ)
    → tail5 v n p b lines ≡ Err (NotCert m) → 5 ≡ m
unfolding tail5
bound5 v n p b lines m e
    = elim (none_or 5 m (line_in (stones_in (codes "white") n b) lines) _ e) [ inl same ↦ same | inr later ↦ absurd (no_error _ m later.2) ]

pub bound4 : (v n : ℕ) (p : Colour) (lines : TextLines) (m : ℕ)
    → tail4 v n p lines ≡ Err (NotCert m) → 4 ≤ m
unfolding tail4
bound4 v n p lines m e = stage 4 m (line_in (stones_in (codes "black") n 0) lines)
    (λ b. tail5 v n p b.0 b.1)
    (λ b f. let s = bound5 v n p b.0 b.1 m f in omega (arith, s)) e

pub bound3 : (v n : ℕ) (lines : TextLines) (m : ℕ) → tail3 v n lines ≡ Err (NotCert m) → 3 ≤ m
unfolding tail3
bound3 v n lines m e = stage 3 m (line_in player_in lines) (λ p. tail4 v n p.0 p.1)
    (λ p f. let s = bound4 v n p.0 p.1 m f in omega (arith, s)) e

pub bound2 : (v : ℕ) (lines : TextLines) (m : ℕ) → tail2 v lines ≡ Err (NotCert m) → 2 ≤ m
unfolding tail2
bound2 v lines m e = stage 2 m (line_in size_in lines) (λ n. tail3 v n.0 n.1)
    (λ n f. let s = bound3 v n.0 n.1 m f in omega (arith, s)) e

pub bound1 : (lines : TextLines) (m : ℕ) → head_in lines ≡ Err (NotCert m) → 1 ≤ m
bound1 lines m e = stage 1 m (line_in version_in lines) (λ v. tail2 v.0 v.1)
    (λ v f. let s = bound2 v.0 v.1 m f in omega (arith, s)) (sym (head_is lines) ∙ e)

-- ---- good lines of a head are not refused

pub step2 : (head : Head) (rest : TextLines) → rest ≢ [] → IsHead head
    → head_in ((codes "hexcert" ∷ decimal head.version ∷ []) ∷ rest) ≡ tail2 head.version rest
step2 head rest some good =
    let v = version_low head.version good.version in
    let words = codes "hexcert" ∷ decimal head.version ∷ [] in
    head_is (words ∷ rest) ∙ then_back 1 (line_in version_in (words ∷ rest)) (head.version, rest)
    (λ v. tail2 v.0 v.1)
    (line_back version_in words head.version rest some
    (number_after_back (codes "hexcert") FIRST_VERSION LATEST_VERSION head.version v.0 v.1 (let h = v.1 in omega (arith, h))))

pub step3 : (head : Head) (rest : TextLines) → rest ≢ [] → IsHead head
    → tail2 head.version
    ((codes "size" ∷ decimal head.board.size ∷ []) ∷ rest) ≡ tail3 head.version head.board.size rest
unfolding tail2
step3 head rest some good =
    let n : ℕ = head.board.size in
    let size : n ≤ 11 = good.board.most in
    let words = codes "size" ∷ decimal n ∷ [] in
    then_back 2 (line_in size_in (words ∷ rest)) (n, rest) (λ n. tail3 head.version n.0 n.1)
    (line_back size_in words n rest some (number_after_back (codes "size") 1 11 n good.board.least size (omega (arith, size))))

pub step4 : (head : Head) (rest : TextLines) → rest ≢ []
    → tail3 head.version head.board.size
    ((codes "player" ∷ colour_word head.player ∷ []) ∷ rest) ≡ tail4 head.version head.board.size head.player rest
unfolding tail3
step4 head rest some =
    let words = codes "player" ∷ colour_word head.player ∷ [] in
    then_back 3 (line_in player_in (words ∷ rest)) (head.player, rest)
    (λ p. tail4 head.version head.board.size p.0 p.1)
    (line_back player_in words head.player rest some (player_back head.player))

pub step5 : (head : Head) (rest : TextLines) → rest ≢ [] → IsHead head
    → tail4 head.version head.board.size head.player
    ((codes "black" ∷ vertices_of head.board.size head.board.black) ∷ rest)
    ≡ tail5 head.version head.board.size head.player head.board.black rest
unfolding tail4
step5 head rest some good =
    let n : ℕ = head.board.size in
    let words = codes "black" ∷ vertices_of n head.board.black in
    then_back 4 (line_in (stones_in (codes "black") n 0) (words ∷ rest)) (head.board.black, rest)
    (λ b. tail5 head.version n head.player b.0 b.1)
    (line_back (stones_in (codes "black") n 0) words head.board.black rest some
    (stones_back (codes "black") n 0 head.board.black good.board.most good.board.black_on (λ k a b. let z = has_none k in cc)))
