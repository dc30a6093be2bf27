-- Where a text is refused, and with which line.
use Rattle.std.proofs.Common.{◌≡◌, ◌≢◌, ℕ, ◌+◌, ◌≤◌, eqb, zero, suc, Bool, true, false, cond, List}
use Rattle.std.proofs.Common.{[], ◌∷◌, ◌++◌, length, map, take, Option, Some, None, Result, Ok, Err}
use Rattle.std.proofs.Common.{refl, ap, sym, ◌∙◌, arith}
use Rattle.std.specs.Fmt.{decimal}
use Rattle.std.specs.List.{All, flat_map, join_with_byte}
use Rattle.std.proofs.lemmas.Bool.Decides.{Decides-eqb, not_from_Decides}
use Rattle.std.proofs.lemmas.List.{append-nil, append_assoc}
use Rattle.std.proofs.lemmas.List.Elements.{All-cons, All-nil, All-tail}
use Rattle.conn_store.specs.declared.entries.Kind.TheVariants.{Full}
use Rattle.win_cert.specs.Lines.{Steps, steps_after, is_nothing, lines_of, steps_in, with_lines}
use Rattle.win_cert.specs.Named.{statement_named}
use Rattle.win_cert.specs.Texts.{ended, kind_word, line_feed, line_words, space}
use Rattle.win_cert.specs.Writable.{IsLineOf, most_lines}
use Rattle.win_cert.specs.declared.lines.Line.{Line}
use Rattle.win_cert.specs.declared.lines.TheConstants.{MOST_NUMBER}
use Rattle.win_cert.specs.declared.refusals.CertError.{CertError}
use Rattle.win_cert.specs.declared.refusals.CertError.TheVariants.{NotCert, TooManyLines}
use Rattle.win_cert.specs.declared.statements.Statement.{Statement}
use Rattle.win_cert.specs.declared.statements.Statement.TheVariants.{Claim, Derivation}
use Rattle.win_cert.proofs.HeadMeans.{TextLines}
use Rattle.win_cert.proofs.ReadBack.{steps_more}
use Rattle.win_cert.proofs.StepMeans.{step_means}
use Rattle.win_cert.proofs.StepWords.{step_back}
use Rattle.win_cert.proofs.TextLines.{text_from}
use Rattle.win_cert.proofs.WordParts.{Words}

-- ---- a text with lines first

joined_lines : (lines rest : TextLines) → rest ≢ []
    → join_with_byte line_feed (map (join_with_byte space) (lines ++ rest))
    ≡ flat_map ended lines ++ join_with_byte line_feed (map (join_with_byte space) rest)
joined_lines [] rest some = refl
joined_lines (words ∷ []) [] some = absurd (some refl)
joined_lines (words ∷ []) (next ∷ rest) some =
    sym (append_assoc (join_with_byte space words) (line_feed ∷ []) (join_with_byte line_feed (map (join_with_byte space) (next ∷ rest))))
    ∙ ap (λ t. t ++ join_with_byte line_feed (map (join_with_byte space) (next ∷ rest)))
    (sym (append-nil (ended words)))
joined_lines (words ∷ other ∷ lines) rest some =
    let later = join_with_byte line_feed (map (join_with_byte space) rest) in
    ap (λ t. join_with_byte space words ++ line_feed ∷ t) (joined_lines (other ∷ lines) rest some)
    ∙ sym (append_assoc (join_with_byte space words) (line_feed ∷ []) (flat_map ended (other ∷ lines) ++ later))
    ∙ sym (append_assoc (ended words) (flat_map ended (other ∷ lines)) later)

-- a text with these lines first, and something after them, begins with them
pub cut_at : (bytes : List ℕ) (lines rest : TextLines) → rest ≢ [] → lines_of bytes ≡ lines ++ rest
    → (text : List ℕ) × (bytes ≡ flat_map ended lines ++ text)
cut_at bytes lines rest some e = (
  join_with_byte line_feed (map (join_with_byte space) rest),
  sym (text_from bytes) ∙ ap (λ ls. join_with_byte line_feed (map (join_with_byte space) ls)) e
      ∙ joined_lines lines rest some,
)

-- ---- what follows k lines

pub later_some : (lines rest : TextLines) → rest ≢ [] → lines ++ rest ≢ []
later_some [] rest some e = some e
later_some (line ∷ lines) rest some e = cc

err_of_lines : (front : List Line) (later : Result Steps CertError) (d : CertError)
    → with_lines front later ≡ Err d → later ≡ Err d
err_of_lines front (Ok s) d e = cc
err_of_lines front (Err c) d e = cc

at_limit : (b : Bool) (line : Line) (later : Result Steps CertError)
    → (b ≡ false → later ≡ Err TooManyLines)
    → cond b (Err TooManyLines) (with_lines (line ∷ []) later) ≡ Err TooManyLines
at_limit true line later h = refl
at_limit false line later h = ap (with_lines (line ∷ [])) (h refl)

next_below : (v k : ℕ) → eqb k (most_lines v) ≡ false → k ≤ most_lines v → suc k ≤ most_lines v
next_below v k under few = let other = not_from_Decides (eqb k (most_lines v))
    (Decides-eqb k (most_lines v)) under in omega (arith, other)

pub too_many_back : (v n k : ℕ) (lines : List Line) (rest : TextLines) → n ≤ 11
    → All (IsLineOf v n) lines → k ≤ most_lines v
    → k + length lines ≡ most_lines v + 1 → rest ≢ []
    → steps_in v n k (map (line_words n) lines ++ rest) ≡ Err TooManyLines
too_many_back v n k [] rest size good few long some = absurd (omega (arith, long))
too_many_back v n k (line ∷ lines) rest size good few long some =
    let later = map (line_words n) lines ++ rest in
    steps_more v n k (line_words n line) later (later_some (map (line_words n) lines) rest some)
    ∙ ap (λ o. steps_after v k o later (steps_in v n (suc k) later))
    (step_back v n (Derivation line) size (good 0 line (omega arith)))
    ∙ at_limit (eqb k (most_lines v)) line (steps_in v n (suc k) later)
    (λ below. too_many_back v n (suc k) lines rest size
    (All-tail (IsLineOf v n) line lines good) (next_below v k below few) (omega (arith, long)) some)

pub record AreTooMany (v n k : ℕ) (lines : TextLines) : Type 0 where
  pub front : List Line
  pub rest : TextLines
  pub is : lines ≡ map (line_words n) front ++ rest
  pub more : rest ≢ []
  pub good : All (IsLineOf v n) front
  pub long : k + length front ≡ most_lines v + 1

not_too_many : {A : Type 0} (b : Bool) (x : A) (m : ℕ)
    → cond b (Ok x) (Err (NotCert m)) ≡ Err TooManyLines → ⊥
not_too_many true x m e = cc
not_too_many false x m e = cc

too_many_or : (v n k : ℕ) (words : Words) (rest : TextLines) (later : Result Steps CertError)
    (line : Line) (b : Bool)
    → eqb k (most_lines v) ≡ b → words ≡ line_words n line → IsLineOf v n line → rest ≢ []
    → k ≤ most_lines v
    → (later ≡ Err TooManyLines → suc k ≤ most_lines v → AreTooMany v n (suc k) rest)
    → cond b (Err TooManyLines) (with_lines (line ∷ []) later) ≡ Err TooManyLines
    → AreTooMany v n k (words ∷ rest)
too_many_or v n k words rest later line true limit is good some few others e = record {
  front = line ∷ [];
  rest = rest;
  is = ap (λ w. w ∷ rest) is;
  more = some;
  good = All-cons (IsLineOf v n) line [] good (All-nil (IsLineOf v n));
  long = let at = (Decides-eqb k (most_lines v)).0 limit in omega (arith, at);
}
too_many_or v n k words rest later line false limit is good some few others e =
    let t = others (err_of_lines (line ∷ []) later TooManyLines e) (next_below v k limit few) in
    record {
      front = line ∷ t.front;
      rest = t.rest;
      is = (λ i. is i ∷ t.is i);
      more = t.more;
      good = All-cons (IsLineOf v n) line t.front good t.good;
      long = let l = t.long in omega (arith, l);
    }

one_too_many : (v n k : ℕ) (words : Words) (rest : TextLines) (later : Result Steps CertError)
    (o : Option Statement)
    → statement_named v n words ≡ o → rest ≢ [] → k ≤ most_lines v
    → (later ≡ Err TooManyLines → suc k ≤ most_lines v → AreTooMany v n (suc k) rest)
    → steps_after v k o rest later ≡ Err TooManyLines → AreTooMany v n k (words ∷ rest)
one_too_many v n k words rest later None said some few others e = cc
one_too_many v n k words rest later (Some (Derivation line)) said some few others e =
    let means = step_means v n words (Derivation line) said in
    too_many_or v n k words rest later line
    (eqb k (most_lines v)) refl means.1 means.0 some few others e
one_too_many v n k words rest later (Some (Claim kind i)) said some few others e =
    absurd (not_too_many (is_nothing rest) ([], (kind, i)) (k + 7) e)

pub too_many_means : (v n k : ℕ) (lines : TextLines) → k ≤ most_lines v
    → steps_in v n k lines ≡ Err TooManyLines → AreTooMany v n k lines
too_many_means v n k [] few e = cc
too_many_means v n k (words ∷ []) few e = cc
too_many_means v n k (words ∷ next ∷ lines) few e =
    one_too_many v n k words (next ∷ lines) (steps_in v n (suc k) (next ∷ lines))
    (statement_named v n words) refl (λ z. cc) few
    (λ f room. too_many_means v n (suc k) (next ∷ lines) room f) e

-- ---- a bad line

-- the lines of steps
abbrev pub step_lines : ℕ → Steps → TextLines
step_lines n s = map (line_words n) s.0 ++ (kind_word s.1.0 ∷ decimal s.1.1 ∷ []) ∷ []

pub record IsBadStep (v n k : ℕ) (lines : TextLines) (m : ℕ) : Type 0 where
  pub s : Steps
  pub j : ℕ
  pub rest : TextLines
  pub is : lines ≡ take j (step_lines n s) ++ rest
  pub more : rest ≢ []
  pub good : All (IsLineOf v n) s.0
  pub entry : s.1.1 ≤ MOST_NUMBER
  pub long : j ≤ length s.0 + 1
  pub count : m ≡ k + j + 6

bad_here : (v n k m : ℕ) (lines : TextLines) → lines ≢ [] → k + 6 ≡ m → IsBadStep v n k lines m
bad_here v n k m lines some e = record {
  s = ([], (Full, 0));
  j = 0;
  rest = lines;
  is = refl;
  more = some;
  good = All-nil (IsLineOf v n);
  entry = omega arith;
  long = omega arith;
  count = omega (arith, e);
}

pub line_of_err : (m l : ℕ) → ◌≡◌ {A = Result Steps CertError} (Err (NotCert m))
    (Err (NotCert l)) → m ≡ l
line_of_err m l e = cc

no_limit : (b : Bool) (r : Result Steps CertError) (m : ℕ)
    → cond b (Err TooManyLines) r ≡ Err (NotCert m) → r ≡ Err (NotCert m)
no_limit true r m e = cc
no_limit false r m e = e

no_end : (b : Bool) (s : Steps) (l m : ℕ)
    → cond b (Ok s) (Err (NotCert l)) ≡ Err (NotCert m) → l ≡ m
no_end true s l m e = cc
no_end false s l m e = cc

one_bad : (v n k m : ℕ) (words : Words) (rest : TextLines) (later : Result Steps CertError)
    (o : Option Statement)
    → statement_named v n words ≡ o → rest ≢ []
    → (later ≡ Err (NotCert m) → IsBadStep v n (suc k) rest m)
    → steps_after v k o rest later ≡ Err (NotCert m) → IsBadStep v n k (words ∷ rest) m
one_bad v n k m words rest later None said some others e
    = bad_here v n k m (words ∷ rest) (λ z. cc) (line_of_err (k + 6) m e)
one_bad v n k m words rest later (Some (Derivation line)) said some others e =
    let means = step_means v n words (Derivation line) said in
    let b = others
    (err_of_lines (line ∷ []) later (NotCert m) (no_limit (eqb k (most_lines v)) (with_lines (line ∷ []) later) m e)) in
    record {
      s = (line ∷ b.s.0, b.s.1);
      j = suc b.j;
      rest = b.rest;
      is = (λ i. means.1 i ∷ b.is i);
      more = b.more;
      good = All-cons (IsLineOf v n) line b.s.0 means.0 b.good;
      entry = b.entry;
      long = let l = b.long in omega (arith, l);
      count = let c = b.count in omega (arith, c);
    }
one_bad v n k m words rest later (Some (Claim kind i)) said some others e =
    let means = step_means v n words (Claim kind i) said in
    let line = no_end (is_nothing rest) ([], (kind, i)) (k + 7) m e in
    record {
      s = ([], (kind, i));
      j = 1;
      rest = rest;
      is = ap (λ w. w ∷ rest) means.1;
      more = some;
      good = All-nil (IsLineOf v n);
      entry = means.0;
      long = omega arith;
      count = omega (arith, line);
    }

pub bad_means : (v n k m : ℕ) (lines : TextLines) → lines ≢ []
    → steps_in v n k lines ≡ Err (NotCert m) → IsBadStep v n k lines m
bad_means v n k m [] some e = absurd (some refl)
bad_means v n k m (words ∷ []) some e = bad_here v n k m (words ∷ []) some (line_of_err (k + 6) m e)
bad_means v n k m (words ∷ next ∷ lines) some e =
    one_bad v n k m words (next ∷ lines) (steps_in v n (suc k) (next ∷ lines))
    (statement_named v n words) refl (λ z. cc)
    (λ f. bad_means v n (suc k) m (next ∷ lines) (λ z. cc) f) e

pub bad_from : (v n k m : ℕ) (lines : TextLines) → lines ≢ []
    → steps_in v n k lines ≡ Err (NotCert m) → k + 6 ≤ m
bad_from v n k m lines some e = let b = bad_means v n k m lines some e in let c = b.count in
    omega (arith, c)

-- good steps are not refused
pub bad_after : (v n k j m : ℕ) (s : Steps) (rest : TextLines) → n ≤ 11 → All (IsLineOf v n) s.0
    → s.1.1 ≤ MOST_NUMBER → rest ≢ []
    → j ≤ length s.0 + 1 → steps_in v n k (take j (step_lines n s) ++ rest) ≡ Err (NotCert m)
    → k + j + 6 ≤ m
bad_after v n k zero m s rest size good few some long e =
    let f = bad_from v n k m rest some e in omega (arith, f)
bad_after v n k (suc zero) m ([], (kind, i)) rest size good few some long e =
    let line = no_end (is_nothing rest) ([], (kind, i)) (k + 7) m
    (sym (steps_more v n k (kind_word kind ∷ decimal i ∷ []) rest some
    ∙ ap (λ o. steps_after v k o rest (steps_in v n (suc k) rest))
    (step_back v n (Claim kind i) size few)) ∙ e) in
    omega (arith, line)
bad_after v n k (suc (suc j)) m ([], claim) rest size good few some long e
    = absurd (omega (arith, long))
bad_after v n k (suc j) m (line ∷ lines, claim) rest size good few some long e =
    let later = take j (step_lines n (lines, claim)) ++ rest in
    let shown = sym (steps_more v n k (line_words n line) later (later_some (take j (step_lines n (lines, claim))) rest some)
    ∙ ap (λ o. steps_after v k o later (steps_in v n (suc k) later))
    (step_back v n (Derivation line) size (good 0 line (omega arith)))) ∙ e in
    let after = bad_after v n (suc k) j m (lines, claim) rest size
    (All-tail (IsLineOf v n) line lines good) few some (omega (arith, long))
    (err_of_lines (line ∷ []) (steps_in v n (suc k) later) (NotCert m) (no_limit (eqb k (most_lines v)) (with_lines (line
    ∷ []) (steps_in v n (suc k) later)) m shown)) in
    omega (arith, after)
