-- The text of a certificate is read as the certificate.
use Rattle.std.proofs.Common.{◌≡◌, ◌≢◌, ℕ, ◌+◌, ◌≤◌, ◌&&◌, leb, eqb, suc, bit_and, inl, inr}
use Rattle.std.proofs.Common.{Bool, true, false, cond, List, [], ◌∷◌, ◌++◌, length, map, Option}
use Rattle.std.proofs.Common.{Some, None, Result, Ok, Err, refl, ap, sym, ◌∙◌, codes, arith}
use Rattle.std.proofs.lemmas.Bool.{le-leb}
use Rattle.std.specs.Fmt.{decimal}
use Rattle.std.specs.List.{All}
use Rattle.std.specs.Option.{option_and_then, option_map}
use Rattle.std.proofs.lemmas.Bool.{ne_eqb}
use Rattle.std.proofs.lemmas.Bool.Decides.{Decides-eqb}
use Rattle.std.proofs.lemmas.List.{append-nil, append_assoc}
use Rattle.std.proofs.lemmas.List.Elements.{All-tail}
use Rattle.hex_cells.specs.Sets.{has}
use Rattle.hex_cells.specs.declared.colours.Colour.{Colour}
use Rattle.hex_cells.specs.declared.colours.Colour.TheVariants.{Black, White}
use Rattle.hex_cells.proofs.Bits.{has_and, has_none, same_set}
use Rattle.hex_board.specs.Positions.{Apart, Within}
use Rattle.conn_store.specs.declared.entries.Kind.{Kind}
use Rattle.win_cert.specs.Lines.{◌>>=◌, steps_after, at_line, cert_in, cert_of, certs_of, head_in}
use Rattle.win_cert.specs.Lines.{line_in, lines_of, number_after, player_in, size_in, steps_in}
use Rattle.win_cert.specs.Lines.{stones_in, version_in, with_lines}
use Rattle.win_cert.specs.Named.{alone, set_named, first_number, statement_named}
use Rattle.win_cert.specs.Texts.{cert_text, cert_words, claim_words, colour_word, kind_word}
use Rattle.win_cert.specs.Texts.{line_words, vertices_of}
use Rattle.win_cert.specs.Writable.{HasBoard, IsLineOf, IsVersion, IsWritable, most_lines}
use Rattle.win_cert.specs.declared.certs.Cert.{Cert}
use Rattle.win_cert.specs.declared.certs.TheConstants.{FIRST_VERSION, LATEST_VERSION}
use Rattle.win_cert.specs.declared.heads.Head.{Head}
use Rattle.win_cert.specs.declared.lines.Line.{Line}
use Rattle.win_cert.specs.declared.lines.TheConstants.{MOST_NUMBER}
use Rattle.win_cert.specs.declared.refusals.CertError.{CertError}
use Rattle.win_cert.specs.declared.refusals.CertError.TheVariants.{TooManyLines}
use Rattle.win_cert.specs.declared.statements.Statement.TheVariants.{Claim, Derivation}
use Rattle.win_cert.proofs.CellSets.{cells_back}
use Rattle.win_cert.proofs.HeadMeans.{IsHead, TextLines, head_lines}
use Rattle.win_cert.proofs.LineParts.{first_of_more}
use Rattle.win_cert.proofs.PlainWords.{plain_cert}
use Rattle.win_cert.proofs.StepWords.{step_back}
use Rattle.win_cert.proofs.StepsMean.{nothing}
use Rattle.win_cert.proofs.TextLines.{lines_before}
use Rattle.win_cert.proofs.WordParts.{Words, after_back, number_back}

-- ---- the lines of a head

pub line_back : {A : Type 0} (said : Words → Option A) (words : Words) (a : A) (rest : TextLines)
    → rest ≢ [] → said words ≡ Some a
    → line_in said (words ∷ rest) ≡ Some (a, rest)
line_back {A} said words a rest some e =
    ap (option_and_then (λ (l : Words × TextLines). option_map (λ (a : A). (a, l.1)) (said l.0)))
    (first_of_more words rest some)
    ∙ ap (option_map (λ (a : A). (a, rest))) e

pub number_after_back : (name : List ℕ) (least most i : ℕ) → least ≤ i → i ≤ most → i ≤ MOST_NUMBER
    → number_after name least most (name ∷ decimal i ∷ []) ≡ Some i
number_after_back name least most i low high few =
    let test = λ (p : ℕ × Words). cond (leb least p.0 && leb p.0 most) (alone p.0 p.1) None in
    ap (option_and_then (λ rest. option_and_then test (first_number rest)))
    (after_back name (decimal i ∷ []))
    ∙ ap (option_and_then test) (number_back i [] few)
    ∙ ap (λ b. cond (b && leb i most) (Some i) None) (le-leb least i low)
    ∙ ap (λ b. cond b (Some i) None) (le-leb i most high)

pub player_back : (colour : Colour)
    → player_in (codes "player" ∷ colour_word colour ∷ []) ≡ Some colour
player_back Black = refl
player_back White = refl

false_and : (a b : Bool) → (a ≡ true → b ≡ true → ⊥) → (a && b) ≡ false
false_and true true h = absurd (h refl refl)
false_and true false h = refl
false_and false b h = refl

none_common : (s t : ℕ) → Apart s t → bit_and s t ≡ 0
none_common s t apart
    = same_set (bit_and s t) 0
    (λ k. has_and s t k ∙ false_and (has s k) (has t k) (apart k) ∙ sym (has_none k))

pub stones_back : (name : List ℕ) (n taken s : ℕ) → n ≤ 11 → Within n s → Apart s taken
    → stones_in name n taken (name ∷ vertices_of n s) ≡ Some s
stones_back name n taken s size on apart =
    let test = λ (s : ℕ). cond (eqb (bit_and s taken) 0) (Some s) None in
    ap (option_and_then (λ rest. option_and_then test (set_named n 0 0 rest)))
    (after_back name (vertices_of n s))
    ∙ ap (option_and_then test) (cells_back n s size on)
    ∙ ap (λ b. cond b (Some s) None)
    ((Decides-eqb (bit_and s taken) 0).1 (none_common s taken apart))

pub version_low : (v : ℕ) → IsVersion v → (FIRST_VERSION ≤ v) × (v ≤ LATEST_VERSION)
version_low v (inl e) = (omega (arith, e), omega (arith, e))
version_low v (inr (inl e)) = (omega (arith, e), omega (arith, e))
version_low v (inr (inr (inl e))) = (omega (arith, e), omega (arith, e))
version_low v (inr (inr (inr e))) = (omega (arith, e), omega (arith, e))

pub then_back : {A B : Type 0} (m : ℕ) (o : Option A) (a : A) (f : A → Result B CertError)
    → o ≡ Some a → (at_line m o >>= f) ≡ f a
then_back m o a f e = ap (λ o. at_line m o >>= f) e

-- the lines of a head are read as it
pub head_back : (head : Head) (rest : TextLines) → rest ≢ [] → IsHead head
    → head_in (head_lines head ++ rest) ≡ Ok (head, rest)
head_back head rest some good =
    let n : ℕ = head.board.size in
    let size : n ≤ 11 = good.board.most in
    let v = version_low head.version good.version in
    let white_line = codes "white" ∷ vertices_of n head.board.white in
    let black_line = codes "black" ∷ vertices_of n head.board.black in
    let player_line = codes "player" ∷ colour_word head.player ∷ [] in
    let size_line = codes "size" ∷ decimal n ∷ [] in
    let more : (words : Words) (lines : TextLines) → words ∷ lines ≢ [] = λ words lines e. cc in
    then_back 1 _ (head.version, size_line ∷ player_line ∷ black_line ∷ white_line ∷ rest) _
    (line_back version_in (codes "hexcert" ∷ decimal head.version ∷ []) head.version
    (size_line ∷ player_line ∷ black_line ∷ white_line ∷ rest) (more size_line _)
    (number_after_back (codes "hexcert") FIRST_VERSION LATEST_VERSION head.version v.0 v.1 (let h = v.1 in omega (arith, h))))
    ∙ then_back 2 _ (n, player_line ∷ black_line ∷ white_line ∷ rest) _
    (line_back size_in size_line n (player_line ∷ black_line ∷ white_line ∷ rest) (more player_line _)
    (number_after_back (codes "size") 1 11 n good.board.least size (omega (arith, size))))
    ∙ then_back 3 _ (head.player, black_line ∷ white_line ∷ rest) _
    (line_back player_in player_line head.player (black_line ∷ white_line ∷ rest) (more black_line _) (player_back head.player))
    ∙ then_back 4 _ (head.board.black, white_line ∷ rest) _
    (line_back (stones_in (codes "black") n 0) black_line head.board.black (white_line ∷ rest) (more white_line _)
    (stones_back (codes "black") n 0 head.board.black size good.board.black_on (λ k a b. let z = has_none k in cc)))
    ∙ then_back 5 _ (head.board.white, rest) _
    (line_back (stones_in (codes "white") n head.board.black) white_line head.board.white rest some
    (stones_back (codes "white") n head.board.black head.board.white size good.board.white_on (λ k a b. good.board.apart k b a)))

-- ---- steps

pub steps_more : (v n k : ℕ) (words : Words) (rest : TextLines) → rest ≢ []
    → steps_in v n k (words ∷ rest) ≡ steps_after v k (statement_named v n words) rest
    (steps_in v n (suc k) rest)
steps_more v n k words [] some = absurd (some refl)
steps_more v n k words (next ∷ rest) some = refl

pub append_some : (lines : TextLines) (words : Words) (rest : TextLines)
    → lines ++ words ∷ rest ≢ []
append_some [] words rest e = cc
append_some (line ∷ lines) words rest e = cc

-- the words of steps are read as them
pub steps_back : (v n k : ℕ) (lines : List Line) (kind : Kind) (i : ℕ) → n ≤ 11
    → All (IsLineOf v n) lines → i ≤ MOST_NUMBER
    → k + length lines ≤ most_lines v
    → steps_in v n k (map (line_words n) lines ++ (kind_word kind ∷ decimal i ∷ []) ∷ nothing) ≡ Ok
    (lines, (kind, i))
steps_back v n k [] kind i size good few room =
    ap (λ o. steps_after v k o nothing (steps_in v n (suc k) nothing))
    (step_back v n (Claim kind i) size few)
steps_back v n k (line ∷ lines) kind i size good few room =
    let rest = map (line_words n) lines ++ (kind_word kind ∷ decimal i ∷ []) ∷ nothing in
    steps_more v n k (line_words n line) rest
    (append_some (map (line_words n) lines) (kind_word kind ∷ decimal i ∷ []) nothing)
    ∙ ap (λ o. steps_after v k o rest (steps_in v n (suc k) rest))
    (step_back v n (Derivation line) size (good 0 line (omega arith)))
    ∙ ap (λ b. cond b (Err TooManyLines) (with_lines (line ∷ []) (steps_in v n (suc k) rest)))
    (ne_eqb k (most_lines v) (λ e. omega (arith, e, room)))
    ∙ ap (with_lines (line ∷ []))
    (steps_back v n (suc k) lines kind i size (All-tail (IsLineOf v n) line lines good) few (omega (arith, room)))

-- the text of a certificate that can be written is read as the certificate
pub read_back : (cert : Cert) → HasBoard cert → IsWritable cert
    → cert_in (lines_of (cert_text cert)) ≡ Ok cert
read_back cert board good =
    let head : Head = record { version = cert.version; board = cert.board; player = cert.player } in
    let n : ℕ = cert.board.size in
    let lines = map (line_words n) cert.lines in
    let steps = lines ++ claim_words cert ∷ nothing in
    let is_head : IsHead head = record { version = good.0.version; board = board } in
    ap (λ text. cert_in (lines_of text)) (sym (append-nil (cert_text cert)))
    ∙ ap cert_in (lines_before (cert_words cert) [] (plain_cert cert board good.0))
    ∙ ap (λ rest. cert_in (head_lines head ++ rest))
    (append_assoc lines (claim_words cert ∷ []) nothing)
    ∙ ap (λ r. r >>= λ (h : Head × TextLines). certs_of h.0 h.1)
    (head_back head steps (append_some lines (claim_words cert) nothing) is_head)
    ∙ ap (λ r. r >>= λ s. Ok (cert_of head s))
    (steps_back cert.version n 0 cert.lines cert.claim cert.entry board.most good.0.lines good.0.entry
    (let h = good.1 in omega (arith, h)))
