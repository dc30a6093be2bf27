-- What the words of a line say is what they are the words of, and the other way round.
use Rattle.std.proofs.Common.{◌≡◌, ℕ, ◌*◌, ◌<◌, ◌≤◌, ◌&&◌, leb, true, cond, List, [], ◌∷◌}
use Rattle.std.proofs.Common.{length, map, Some, None, refl, ap, ◌∙◌, codes, arith}
use Rattle.std.proofs.lemmas.Bool.{le-leb}
use Rattle.std.specs.Fmt.{decimal}
use Rattle.std.specs.List.{All}
use Rattle.std.specs.Option.{option_and_then, option_map}
use Rattle.hex_cells.specs.Vertices.{vertex_of}
use Rattle.conn_store.specs.declared.entries.Kind.{Kind}
use Rattle.conn_store.specs.declared.entries.Kind.TheVariants.{Full, Semi}
use Rattle.win_cert.specs.Named.{IsStatementOf, adj_in, alone, args_named, cases_in, claim_in}
use Rattle.win_cert.specs.Named.{first_end, first_number, is_in_version, keyword_named, lift_in, move_in}
use Rattle.win_cert.specs.Named.{or_in, or_of, pair_in, statement_named, statement_words}
use Rattle.win_cert.specs.Texts.{end_word, vertices_of}
use Rattle.win_cert.specs.Writable.{IsEndOn}
use Rattle.win_cert.specs.declared.certs.TheConstants.{LATEST_VERSION, SECOND_VERSION}
use Rattle.win_cert.specs.declared.certs.TheConstants.{THIRD_VERSION}
use Rattle.win_cert.specs.declared.keywords.Keyword.{Keyword}
use Rattle.win_cert.specs.declared.keywords.Keyword.TheVariants as keyword
use Rattle.win_cert.specs.declared.lines.End.{End}
use Rattle.win_cert.specs.declared.lines.Line.{Line}
use Rattle.win_cert.specs.declared.lines.Line.TheVariants.{Adj, And, Key, Or2, Or3, Put, Done, Move}
use Rattle.win_cert.specs.declared.lines.Line.TheVariants.{Cases, Lift, OrMany}
use Rattle.win_cert.specs.declared.lines.TheConstants.{LEAST_CASES, LEAST_MANY, MOST_CASES}
use Rattle.win_cert.specs.declared.lines.TheConstants.{MOST_NUMBER}
use Rattle.win_cert.specs.declared.statements.Statement.{Statement}
use Rattle.win_cert.specs.declared.statements.Statement.TheVariants.{Claim, Derivation}
use Rattle.win_cert.proofs.CellSets.{cells_back}
use Rattle.win_cert.proofs.WordParts.{Words, cell_first, end_first, number_back, numbers_back}

-- ---- from what is said to the words, and back

-- a line with this keyword
by_keyword : (v n : ℕ) (word : List ℕ) (words : Words) (k : Keyword) → keyword_named word ≡ Some k
    → is_in_version v k ≡ true
    → statement_named v n (word ∷ words) ≡ args_named v n k words
by_keyword v n word words k e in_version =
    ap (option_and_then (λ k. cond (is_in_version v k) (args_named v n k words) None)) e
    ∙ ap (λ b. cond b (args_named v n k words) None) in_version

pair_back : (line : ℕ → ℕ → Line) (i j : ℕ) → All (λ i. i ≤ MOST_NUMBER) (i ∷ j ∷ [])
    → pair_in line (decimal i ∷ decimal j ∷ []) ≡ Some (Derivation (line i j))
pair_back line i j few =
    ap (option_and_then (λ p. option_and_then (λ q. alone (Derivation (line p.0 q.0)) q.1) (first_number p.1)))
    (number_back i (decimal j ∷ []) (few 0 0 (omega arith)))
    ∙ ap (option_and_then (λ q. alone (Derivation (line i q.0)) q.1))
    (number_back j [] (few 1 0 (omega arith)))

adj_back : (n : ℕ) (x y : End) → n ≤ 11 → IsEndOn n x → IsEndOn n y
    → adj_in n (end_word n x ∷ end_word n y ∷ []) ≡ Some (Derivation (Adj x y))
adj_back n x y size on_x on_y =
    ap (option_and_then (λ p. option_and_then (λ q. alone (Derivation (Adj p.0 q.0)) q.1) (first_end n p.1)))
    (end_first n x (end_word n y ∷ []) size on_x)
    ∙ ap (option_and_then (λ q. alone (Derivation (Adj x q.0)) q.1)) (end_first n y [] size on_y)

or_two_back : (v i j : ℕ) → All (λ i. i ≤ MOST_NUMBER) (i ∷ j ∷ [])
    → or_in v (decimal i ∷ decimal j ∷ []) ≡ Some (Derivation (Or2 i j))
or_two_back v i j few = ap (option_and_then (or_of v)) (numbers_back (i ∷ j ∷ []) few)

or_three_back : (v i j k : ℕ) → All (λ i. i ≤ MOST_NUMBER) (i ∷ j ∷ k ∷ [])
    → or_in v (decimal i ∷ decimal j ∷ decimal k ∷ []) ≡ Some (Derivation (Or3 i j k))
or_three_back v i j k few = ap (option_and_then (or_of v)) (numbers_back (i ∷ j ∷ k ∷ []) few)

or_many_of : (v : ℕ) (numbers : List ℕ) → THIRD_VERSION ≤ v → LEAST_MANY ≤ length numbers
    → length numbers ≤ MOST_CASES → or_of v numbers ≡ Some (Derivation (OrMany numbers))
or_many_of v [] latest least most = absurd (omega (arith, least))
or_many_of v (i ∷ []) latest least most = absurd (omega (arith, least))
or_many_of v (i ∷ j ∷ []) latest least most = absurd (omega (arith, least))
or_many_of v (i ∷ j ∷ k ∷ []) latest least most = absurd (omega (arith, least))
or_many_of v (i ∷ j ∷ k ∷ l ∷ rest) latest least most =
    let numbers : List ℕ = i ∷ j ∷ k ∷ l ∷ rest in
    let line = Some (Derivation (OrMany numbers)) in
    ap (λ b. cond (b && leb LEAST_MANY (length numbers) && leb (length numbers) MOST_CASES) line None)
    (le-leb THIRD_VERSION v latest)
    ∙ ap (λ b. cond (b && leb (length numbers) MOST_CASES) line None)
    (le-leb LEAST_MANY (length numbers) least)
    ∙ ap (λ b. cond b line None) (le-leb (length numbers) MOST_CASES most)

or_many_back : (v : ℕ) (numbers : List ℕ) → THIRD_VERSION ≤ v → LEAST_MANY ≤ length numbers
    → length numbers ≤ MOST_CASES → All (λ i. i ≤ MOST_NUMBER) numbers
    → or_in v (map decimal numbers) ≡ Some (Derivation (OrMany numbers))
or_many_back v numbers latest least most few =
    ap (option_and_then (or_of v)) (numbers_back numbers few)
    ∙ or_many_of v numbers latest least most

move_back : (n k i : ℕ) → n ≤ 11 → k < n * n → All (λ i. i ≤ MOST_NUMBER) (i ∷ [])
    → move_in n (vertex_of n k ∷ decimal i ∷ []) ≡ Some (Derivation (Move k i))
move_back n k i size on few =
    ap (option_and_then (λ p. option_and_then (λ q. alone (Derivation (Move p.0 q.0)) q.1) (first_number p.1)))
    (cell_first n k (decimal i ∷ []) size on)
    ∙ ap (option_and_then (λ q. alone (Derivation (Move k q.0)) q.1))
    (number_back i [] (few 0 0 (omega arith)))

cases_back : (numbers : List ℕ) → LEAST_CASES ≤ length numbers → length numbers ≤ MOST_CASES
    → All (λ i. i ≤ MOST_NUMBER) numbers
    → cases_in (map decimal numbers) ≡ Some (Derivation (Cases numbers))
cases_back numbers least most few =
    let test = λ (numbers : List ℕ). cond (leb LEAST_CASES (length numbers) && leb (length numbers) MOST_CASES) (Some (Derivation (Cases numbers))) None in
    ap (option_and_then test) (numbers_back numbers few)
    ∙ ap (λ b. cond (b && leb (length numbers) MOST_CASES) (Some (Derivation (Cases numbers))) None)
    (le-leb LEAST_CASES (length numbers) least)
    ∙ ap (λ b. cond b (Some (Derivation (Cases numbers))) None)
    (le-leb (length numbers) MOST_CASES most)

lift_back : (i : ℕ) → All (λ i. i ≤ MOST_NUMBER) (i ∷ [])
    → lift_in (decimal i ∷ []) ≡ Some (Derivation (Lift i))
lift_back i few = ap (option_and_then (λ p. alone (Derivation (Lift p.0)) p.1))
    (number_back i [] (few 0 0 (omega arith)))

claim_back : (kind : Kind) (i : ℕ) → i ≤ MOST_NUMBER
    → claim_in kind (decimal i ∷ []) ≡ Some (Claim kind i)
claim_back kind i few = ap (option_and_then (λ p. alone (Claim kind p.0) p.1))
    (number_back i [] few)

-- the words of a step say it
pub step_back : (v n : ℕ) (s : Statement) → n ≤ 11 → IsStatementOf v n s
    → statement_named v n (statement_words n s) ≡ Some s
unfolding keyword_named
step_back v n (Derivation (Adj x y)) size is
    = by_keyword v n (codes "adj") (end_word n x ∷ end_word n y ∷ []) keyword.Adj refl refl
    ∙ adj_back n x y size is.0 is.1
step_back v n (Derivation (And i j)) size is
    = by_keyword v n (codes "and") (decimal i ∷ decimal j ∷ []) keyword.And refl refl
    ∙ pair_back And i j is
step_back v n (Derivation (Key i j)) size is
    = by_keyword v n (codes "key") (decimal i ∷ decimal j ∷ []) keyword.Key refl refl
    ∙ pair_back Key i j is
step_back v n (Derivation (Or2 i j)) size is
    = by_keyword v n (codes "or") (decimal i ∷ decimal j ∷ []) keyword.Or refl refl
    ∙ or_two_back v i j is
step_back v n (Derivation (Or3 i j k)) size is
    = by_keyword v n (codes "or") (decimal i ∷ decimal j ∷ decimal k ∷ []) keyword.Or refl refl
    ∙ or_three_back v i j k is
step_back v n (Derivation (OrMany numbers)) size is
    = by_keyword v n (codes "or") (map decimal numbers) keyword.Or refl refl
    ∙ or_many_back v numbers is.0 is.1 is.2 is.3
step_back v n (Derivation (Put s)) size is
    = by_keyword v n (codes "put") (vertices_of n s) keyword.Put refl
    (le-leb SECOND_VERSION v is.0)
    ∙ ap (option_map (λ s. Derivation (Put s))) (cells_back n s size is.1)
step_back v n (Derivation Done) size is = by_keyword v n (codes "done") [] keyword.Done refl
    (le-leb SECOND_VERSION v is)
step_back v n (Derivation (Move k i)) size is
    = by_keyword v n (codes "move") (vertex_of n k ∷ decimal i ∷ []) keyword.Move refl
    (le-leb SECOND_VERSION v is.0)
    ∙ move_back n k i size is.1 is.2
step_back v n (Derivation (Cases numbers)) size is
    = by_keyword v n (codes "cases") (map decimal numbers) keyword.Cases refl
    (le-leb SECOND_VERSION v is.0)
    ∙ cases_back numbers is.1 is.2 is.3
step_back v n (Derivation (Lift i)) size is
    = by_keyword v n (codes "lift") (decimal i ∷ []) keyword.Lift refl
    (le-leb LATEST_VERSION v is.0)
    ∙ lift_back i is.1
step_back v n (Claim Full i) size is
    = by_keyword v n (codes "full") (decimal i ∷ []) keyword.Full refl refl ∙ claim_back Full i is
step_back v n (Claim Semi i) size is
    = by_keyword v n (codes "semi") (decimal i ∷ []) keyword.Semi refl refl ∙ claim_back Semi i is
