-- A line that says something is written in the words of what it says.
use Rattle.std.proofs.Common.{◌≡◌, ℕ, ◌≤◌, ◌⊎◌, ◌&&◌, leb, inl, inr, Bool, true, false, cond}
use Rattle.std.proofs.Common.{List, [], ◌∷◌, length, map, Option, Some, None, refl, ap, sym, ◌∙◌}
use Rattle.std.proofs.Common.{subst, codes}
use Rattle.std.proofs.lemmas.Bool.{leb-true}
use Rattle.std.proofs.lemmas.Bool.{and_parts}
use Rattle.std.specs.Fmt.{decimal}
use Rattle.std.specs.List.{All}
use Rattle.std.specs.Option.{option_and_then}
use Rattle.std.specs.Str.{bytes_eq}
use Rattle.std.proofs.lemmas.List.Elements.{All-cons, All-nil}
use Rattle.std.proofs.lemmas.Slice.Eq.{bytes_eq-Decides}
use Rattle.hex_cells.specs.Vertices.{vertex_of}
use Rattle.conn_store.specs.declared.entries.Kind.{Kind}
use Rattle.conn_store.specs.declared.entries.Kind.TheVariants.{Full, Semi}
use Rattle.win_cert.specs.Named.{IsStatementOf, adj_in, alone, args_named, cases_in, set_named}
use Rattle.win_cert.specs.Named.{claim_in, first_cell, first_end, first_number, is_in_version}
use Rattle.win_cert.specs.Named.{keyword_named, lift_in, move_in, numbers_named, or_in, or_of}
use Rattle.win_cert.specs.Named.{pair_in, put_in, statement_named, statement_words}
use Rattle.win_cert.specs.Texts.{end_word, kind_word}
use Rattle.win_cert.specs.Writable.{HasScopes}
use Rattle.win_cert.specs.declared.certs.TheConstants.{LATEST_VERSION, SECOND_VERSION}
use Rattle.win_cert.specs.declared.certs.TheConstants.{THIRD_VERSION}
use Rattle.win_cert.specs.declared.keywords.Keyword.{Keyword}
use Rattle.win_cert.specs.declared.keywords.Keyword.TheVariants as keyword
use Rattle.win_cert.specs.declared.lines.Line.{Line}
use Rattle.win_cert.specs.declared.lines.Line.TheVariants.{Adj, And, Key, Or2, Or3, Put, Done, Move}
use Rattle.win_cert.specs.declared.lines.Line.TheVariants.{Cases, Lift, OrMany}
use Rattle.win_cert.specs.declared.lines.TheConstants.{LEAST_CASES, LEAST_MANY, MOST_CASES}
use Rattle.win_cert.specs.declared.lines.TheConstants.{MOST_NUMBER}
use Rattle.win_cert.specs.declared.statements.Statement.{Statement}
use Rattle.win_cert.specs.declared.statements.Statement.TheVariants.{Claim, Derivation}
use Rattle.win_cert.proofs.CellSets.{cells_mean}
use Rattle.win_cert.proofs.Options.{some_of_map, some_of_test, some_of_then}
use Rattle.win_cert.proofs.WordParts.{Words, alone_means, cell_first_means, end_first_means}
use Rattle.win_cert.proofs.WordParts.{number_means, numbers_means}
use Rattle.std.proofs.lemmas.Option.{cond_some}

-- ---- keywords

keyword_text : Keyword → List ℕ
keyword_text keyword.Adj = codes "adj"
keyword_text keyword.And = codes "and"
keyword_text keyword.Key = codes "key"
keyword_text keyword.Or = codes "or"
keyword_text keyword.Put = codes "put"
keyword_text keyword.Done = codes "done"
keyword_text keyword.Move = codes "move"
keyword_text keyword.Cases = codes "cases"
keyword_text keyword.Lift = codes "lift"
keyword_text keyword.Full = codes "full"
keyword_text keyword.Semi = codes "semi"

one_of : (b : Bool) (x k : Keyword) (o : Option Keyword) → cond b (Some x) o ≡ Some k
    → ((b ≡ true) × (x ≡ k)) ⊎ (o ≡ Some k)
one_of true x k o e = inl (refl, cc)
one_of false x k o e = inr e

is_text : (word : List ℕ) (x k : Keyword) → (bytes_eq word (keyword_text x) ≡ true) × (x ≡ k)
    → word ≡ keyword_text k
is_text word x k p = (bytes_eq-Decides word (keyword_text x)).0 p.0 ∙ ap keyword_text p.1

-- the word is the text of a keyword that is named, where it is the first one or the others tell
next_keyword : (word : List ℕ) (x k : Keyword) (o : Option Keyword)
    → (o ≡ Some k → word ≡ keyword_text k)
    → cond (bytes_eq word (keyword_text x)) (Some x) o ≡ Some k → word ≡ keyword_text k
next_keyword word x k o others e = elim (one_of (bytes_eq word (keyword_text x)) x k o e) [
  | inl p ↦ is_text word x k p
  | inr e ↦ others e
]

no_keyword : (word : List ℕ) (k : Keyword) → ◌≡◌ {A = Option Keyword} None (Some k)
    → word ≡ keyword_text k
no_keyword word k e = cc

keyword_means : (word : List ℕ) (k : Keyword) → keyword_named word ≡ Some k → word ≡ keyword_text k
unfolding keyword_named keyword_text
keyword_means word k =
    next_keyword word keyword.Adj k _
    (next_keyword word keyword.And k _ (next_keyword word keyword.Key k _
    (next_keyword word keyword.Or k _ (next_keyword word keyword.Put k _ (next_keyword word keyword.Done k _
    (next_keyword word keyword.Move k _ (next_keyword word keyword.Cases k _ (next_keyword word keyword.Lift k _ (next_keyword word keyword.Full k _
    (next_keyword word keyword.Semi k _ (no_keyword word k)))))))))))

-- ---- what follows each keyword

-- the step is one of the version, and the keyword's text and the words are its words
abbrev Means : ℕ → ℕ → List ℕ → Words → Statement → Type 0
Means v n name words s = IsStatementOf v n s × (name ∷ words ≡ statement_words n s)

adj_means : (v n : ℕ) (words : Words) (s : Statement) → adj_in n words ≡ Some s
    → Means v n (codes "adj") words s
adj_means v n words s e =
    let p = some_of_then
    (λ x. option_and_then (λ y. alone (Derivation (Adj x.0 y.0)) y.1) (first_end n x.1))
    (first_end n words) s e in
    let q = some_of_then (λ y. alone (Derivation (Adj p.0.0 y.0)) y.1) (first_end n p.0.1) s p.2 in
    let r = alone_means (Derivation (Adj p.0.0 q.0.0)) s q.0.1 q.2 in
    let x = end_first_means n words p.0 p.1 in
    let y = end_first_means n p.0.1 q.0 q.1 in
    subst (Means v n (codes "adj") words) r.0 (
      (x.0, y.0),
      ap (λ ws. codes "adj" ∷ ws)
          (x.1 ∙ ap (λ ws. end_word n p.0.0 ∷ ws) (y.1 ∙ ap (λ ws. end_word n q.0.0 ∷ ws) r.1)),
    )

two : (i j : ℕ) → i ≤ MOST_NUMBER → j ≤ MOST_NUMBER → All (λ i. i ≤ MOST_NUMBER) (i ∷ j ∷ [])
two i j a b = All-cons (λ i. i ≤ MOST_NUMBER) i (j ∷ []) a
    (All-cons (λ i. i ≤ MOST_NUMBER) j [] b (All-nil (λ i. i ≤ MOST_NUMBER)))

one : (i : ℕ) → i ≤ MOST_NUMBER → All (λ i. i ≤ MOST_NUMBER) (i ∷ [])
one i a = All-cons (λ i. i ≤ MOST_NUMBER) i [] a (All-nil (λ i. i ≤ MOST_NUMBER))

pair_means : (v n : ℕ) (name : List ℕ) (line : ℕ → ℕ → Line) (words : Words) (s : Statement)
    → ((i j : ℕ) → i ≤ MOST_NUMBER → j ≤ MOST_NUMBER → Means v n name (decimal i ∷ decimal j ∷ []) (Derivation (line i j)))
    → pair_in line words ≡ Some s → Means v n name words s
pair_means v n name line words s says e =
    let p = some_of_then
    (λ i. option_and_then (λ j. alone (Derivation (line i.0 j.0)) j.1) (first_number i.1))
    (first_number words) s e in
    let q = some_of_then (λ j. alone (Derivation (line p.0.0 j.0)) j.1)
    (first_number p.0.1) s p.2 in
    let r = alone_means (Derivation (line p.0.0 q.0.0)) s q.0.1 q.2 in
    let i = number_means words p.0 p.1 in
    let j = number_means p.0.1 q.0 q.1 in
    let is : words ≡ decimal p.0.0 ∷ decimal q.0.0 ∷ [] =
    i.is ∙ ap (λ ws. decimal p.0.0 ∷ ws) (j.is ∙ ap (λ ws. decimal q.0.0 ∷ ws) r.1) in
    subst (Means v n name words) r.0
    (subst (λ ws. Means v n name ws (Derivation (line p.0.0 q.0.0))) (sym is) (says p.0.0 q.0.0 i.few j.few))

many_means : (v n : ℕ) (numbers : List ℕ) (s : Statement) → All (λ i. i ≤ MOST_NUMBER) numbers
    → cond (leb THIRD_VERSION v && leb LEAST_MANY (length numbers) && leb (length numbers) MOST_CASES) (Some (Derivation (OrMany numbers))) None ≡ Some s
    → Means v n (codes "or") (map decimal numbers) s
many_means v n numbers s few e =
    let q = cond_some
    (leb THIRD_VERSION v && leb LEAST_MANY (length numbers) && leb (length numbers) MOST_CASES)
    (Derivation (OrMany numbers)) s e in
    let both = and_parts (leb THIRD_VERSION v && leb LEAST_MANY (length numbers))
    (leb (length numbers) MOST_CASES) q.0 in
    let first = and_parts (leb THIRD_VERSION v) (leb LEAST_MANY (length numbers)) both.0 in
    subst (Means v n (codes "or") (map decimal numbers)) q.1 (
      (leb-true THIRD_VERSION v first.0, leb-true LEAST_MANY (length numbers) first.1, leb-true (length numbers) MOST_CASES both.1, few),
      refl,
    )

or_of_means : (v n : ℕ) (numbers : List ℕ) (s : Statement) → All (λ i. i ≤ MOST_NUMBER) numbers
    → or_of v numbers ≡ Some s → Means v n (codes "or") (map decimal numbers) s
or_of_means v n [] s few e = many_means v n [] s few e
or_of_means v n (i ∷ []) s few e = many_means v n (i ∷ []) s few e
or_of_means v n (i ∷ j ∷ []) s few e =
    let same : Derivation (Or2 i j) ≡ s = cc in
    subst (Means v n (codes "or") (decimal i ∷ decimal j ∷ [])) same (few, refl)
or_of_means v n (i ∷ j ∷ k ∷ []) s few e =
    let same : Derivation (Or3 i j k) ≡ s = cc in
    subst (Means v n (codes "or") (decimal i ∷ decimal j ∷ decimal k ∷ [])) same (few, refl)
or_of_means v n (i ∷ j ∷ k ∷ l ∷ rest) s few e = many_means v n (i ∷ j ∷ k ∷ l ∷ rest) s few e

or_means : (v n : ℕ) (words : Words) (s : Statement) → or_in v words ≡ Some s
    → Means v n (codes "or") words s
or_means v n words s e =
    let p = some_of_then (or_of v) (numbers_named words) s e in
    let numbers = numbers_means words p.0 p.1 in
    subst (λ ws. Means v n (codes "or") ws s) (sym numbers.1)
    (or_of_means v n p.0 s numbers.0 p.2)

put_means : (v n : ℕ) (words : Words) (s : Statement) → HasScopes v → put_in n words ≡ Some s
    → Means v n (codes "put") words s
put_means v n words s scopes e =
    let p = some_of_map (λ cells. Derivation (Put cells)) (set_named n 0 0 words) s e in
    let cells = cells_mean n words p.0 p.1 in
    subst (Means v n (codes "put") words) p.2
    ((scopes, cells.0), ap (λ ws. codes "put" ∷ ws) cells.1)

done_means : (v n : ℕ) (words : Words) (s : Statement) → HasScopes v
    → alone (Derivation Done) words ≡ Some s → Means v n (codes "done") words s
done_means v n words s scopes e =
    let r = alone_means (Derivation Done) s words e in
    subst (Means v n (codes "done") words) r.0 (scopes, ap (λ ws. codes "done" ∷ ws) r.1)

move_means : (v n : ℕ) (words : Words) (s : Statement) → HasScopes v
    → move_in n words ≡ Some s → Means v n (codes "move") words s
move_means v n words s scopes e =
    let p = some_of_then
    (λ k. option_and_then (λ i. alone (Derivation (Move k.0 i.0)) i.1) (first_number k.1))
    (first_cell n words) s e in
    let q = some_of_then (λ i. alone (Derivation (Move p.0.0 i.0)) i.1)
    (first_number p.0.1) s p.2 in
    let r = alone_means (Derivation (Move p.0.0 q.0.0)) s q.0.1 q.2 in
    let k = cell_first_means n words p.0 p.1 in
    let i = number_means p.0.1 q.0 q.1 in
    subst (Means v n (codes "move") words) r.0 (
      (scopes, k.0, one q.0.0 i.few),
      ap (λ ws. codes "move" ∷ ws)
          (k.1 ∙ ap (λ ws. vertex_of n p.0.0 ∷ ws) (i.is ∙ ap (λ ws. decimal q.0.0 ∷ ws) r.1)),
    )

cases_means : (v n : ℕ) (words : Words) (s : Statement) → HasScopes v
    → cases_in words ≡ Some s → Means v n (codes "cases") words s
cases_means v n words s scopes e =
    let p = some_of_then
    (λ (numbers : List ℕ). cond (leb LEAST_CASES (length numbers) && leb (length numbers) MOST_CASES) (Some (Derivation (Cases numbers))) None)
    (numbers_named words) s e in
    let q = cond_some (leb LEAST_CASES (length p.0) && leb (length p.0) MOST_CASES)
    (Derivation (Cases p.0)) s p.2 in
    let both = and_parts (leb LEAST_CASES (length p.0)) (leb (length p.0) MOST_CASES) q.0 in
    let numbers = numbers_means words p.0 p.1 in
    subst (Means v n (codes "cases") words) q.1 (
      (scopes, leb-true LEAST_CASES (length p.0) both.0, leb-true (length p.0) MOST_CASES both.1, numbers.0),
      ap (λ ws. codes "cases" ∷ ws) numbers.1,
    )

lift_means : (v n : ℕ) (words : Words) (s : Statement) → LATEST_VERSION ≤ v
    → lift_in words ≡ Some s → Means v n (codes "lift") words s
lift_means v n words s latest e =
    let p = some_of_then (λ i. alone (Derivation (Lift i.0)) i.1) (first_number words) s e in
    let r = alone_means (Derivation (Lift p.0.0)) s p.0.1 p.2 in
    let i = number_means words p.0 p.1 in
    subst (Means v n (codes "lift") words) r.0 (
      (latest, one p.0.0 i.few),
      ap (λ ws. codes "lift" ∷ ws) (i.is ∙ ap (λ ws. decimal p.0.0 ∷ ws) r.1),
    )

claim_means : (v n : ℕ) (kind : Kind) (words : Words) (s : Statement) → claim_in kind words ≡ Some s
    → Means v n (kind_word kind) words s
claim_means v n kind words s e =
    let p = some_of_then (λ i. alone (Claim kind i.0) i.1) (first_number words) s e in
    let r = alone_means (Claim kind p.0.0) s p.0.1 p.2 in
    let i = number_means words p.0 p.1 in
    subst (Means v n (kind_word kind) words) r.0 (
      i.few,
      ap (λ ws. kind_word kind ∷ ws) (i.is ∙ ap (λ ws. decimal p.0.0 ∷ ws) r.1),
    )

args_means : (v n : ℕ) (k : Keyword) (words : Words) (s : Statement) → is_in_version v k ≡ true
    → args_named v n k words ≡ Some s
    → Means v n (keyword_text k) words s
unfolding keyword_text
args_means v n keyword.Adj words s t e = adj_means v n words s e
args_means v n keyword.And words s t e
    = pair_means v n (codes "and") And words s (λ i j a b. (two i j a b, refl)) e
args_means v n keyword.Key words s t e
    = pair_means v n (codes "key") Key words s (λ i j a b. (two i j a b, refl)) e
args_means v n keyword.Or words s t e = or_means v n words s e
args_means v n keyword.Put words s t e
    = put_means v n words s (leb-true SECOND_VERSION v t) e
args_means v n keyword.Done words s t e
    = done_means v n words s (leb-true SECOND_VERSION v t) e
args_means v n keyword.Move words s t e
    = move_means v n words s (leb-true SECOND_VERSION v t) e
args_means v n keyword.Cases words s t e
    = cases_means v n words s (leb-true SECOND_VERSION v t) e
args_means v n keyword.Lift words s t e
    = lift_means v n words s (leb-true LATEST_VERSION v t) e
args_means v n keyword.Full words s t e = claim_means v n Full words s e
args_means v n keyword.Semi words s t e = claim_means v n Semi words s e

-- a line that says a step is in its words
pub step_means : (v n : ℕ) (words : Words) (s : Statement) → statement_named v n words ≡ Some s
    → IsStatementOf v n s × (words ≡ statement_words n s)
step_means v n [] s e = cc
step_means v n (word ∷ words) s e =
    let p = some_of_then (λ k. cond (is_in_version v k) (args_named v n k words) None)
    (keyword_named word) s e in
    let q = some_of_test (is_in_version v p.0) (args_named v n p.0 words) s p.2 in
    let means = args_means v n p.0 words s q.0 q.1 in
    (means.0, ap (λ w. w ∷ words) (keyword_means word p.0 p.1) ∙ means.1)
