-- What words name, and what the words of a line say. Only private clauses cite this.
use Rattle.std.specs.Prelude.{ℕ, ◌*◌, ◌≤◌, ◌&&◌, nat_le, nat_lt, Bool, true, List, [], ◌∷◌}
use Rattle.std.specs.Prelude.{Option, Some, None, suc, length, codes, if◌then◌else◌}
use Rattle.std.specs.Fmt.{decimal}
use Rattle.std.specs.Option.{option_and_then, option_map}
use Rattle.std.specs.Str.{bytes_eq}
use Rattle.std.specs.Str.Parse.{digits_value}
use Rattle.hex_cells.specs.Sets.{with_cell}
use Rattle.hex_cells.specs.Vertices.{vertex_cell, vertex_of}
use Rattle.conn_store.specs.declared.entries.Kind.{Kind}
use Rattle.conn_store.specs.declared.entries.Kind.TheVariants.{Full, Semi}
use Rattle.win_cert.specs.Texts.{kind_word, line_words}
use Rattle.win_cert.specs.Writable.{IsLineOf}
use Rattle.win_cert.specs.declared.certs.TheConstants.{LATEST_VERSION, SECOND_VERSION}
use Rattle.win_cert.specs.declared.certs.TheConstants.{THIRD_VERSION}
use Rattle.win_cert.specs.declared.keywords.Keyword.{Keyword}
use Rattle.win_cert.specs.declared.keywords.Keyword.TheVariants as keyword
use Rattle.win_cert.specs.declared.lines.End.{End}
use Rattle.win_cert.specs.declared.lines.End.TheVariants.{At, First, Second}
use Rattle.win_cert.specs.declared.lines.Line.{Line}
use Rattle.win_cert.specs.declared.lines.Line.TheVariants.{Adj, And, Key, Or2, Or3, Put, Done, Move}
use Rattle.win_cert.specs.declared.lines.Line.TheVariants.{Cases, Lift, OrMany}
use Rattle.win_cert.specs.declared.lines.TheConstants.{LEAST_CASES, LEAST_MANY, MOST_CASES}
use Rattle.win_cert.specs.declared.lines.TheConstants.{MOST_NUMBER}
use Rattle.win_cert.specs.declared.statements.Statement.{Statement}
use Rattle.win_cert.specs.declared.statements.Statement.TheVariants.{Claim, Derivation}

-- the number that a word is, without leading zero and with at most six digits
unfoldable pub number_named : List ℕ → Option ℕ
number_named word =
    if bytes_eq word (decimal (digits_value 10 word)) && nat_le (digits_value 10 word) MOST_NUMBER
    then Some (digits_value 10 word) else None

-- the cell of the board of size n whose vertex in lower case the word is
unfoldable pub cell_named : ℕ → List ℕ → Option ℕ
cell_named n word = option_and_then
    (λ k. if nat_lt k (n * n) && bytes_eq word (vertex_of n k) then Some k else None)
    (vertex_cell n word)

-- the end that a word names
abbrev pub end_named : ℕ → List ℕ → Option End
end_named n word =
    if bytes_eq word (codes "edge1") then Some First
    else if bytes_eq word (codes "edge2") then Some Second
    else option_map At (cell_named n word)

-- the first of the words as a number, and the words after it
abbrev pub first_number : List (List ℕ) → Option (ℕ × List (List ℕ))
first_number [] = None
first_number (word ∷ words) = option_map (λ i. (i, words)) (number_named word)

abbrev pub first_cell : ℕ → List (List ℕ) → Option (ℕ × List (List ℕ))
first_cell n [] = None
first_cell n (word ∷ words) = option_map (λ k. (k, words)) (cell_named n word)

abbrev pub first_end : ℕ → List (List ℕ) → Option (End × List (List ℕ))
first_end n [] = None
first_end n (word ∷ words) = option_map (λ end. (end, words)) (end_named n word)

-- the words after a first word that is this one
abbrev pub after_word : List ℕ → List (List ℕ) → Option (List (List ℕ))
after_word name [] = None
after_word name (word ∷ words) = if bytes_eq word name then Some words else None

-- this, where no word is left
abbrev pub alone : {A : Type 0} → A → List (List ℕ) → Option A
alone a [] = Some a
alone a (word ∷ words) = None

-- the numbers that all words are
abbrev pub numbers_named : List (List ℕ) → Option (List ℕ)
numbers_named [] = Some []
numbers_named (word ∷ words) = option_and_then
    (λ i. option_map (λ numbers. i ∷ numbers) (numbers_named words)) (number_named word)

-- the set s with the cells that all words name: they rise, and none is below `least`
abbrev pub set_named : ℕ → ℕ → ℕ → List (List ℕ) → Option ℕ
set_named n s least [] = Some s
set_named n s least (word ∷ words) = option_and_then
    (λ k. if nat_le least k then set_named n (with_cell s k) (suc k) words else None)
    (cell_named n word)

-- the keyword that a word is
unfoldable pub keyword_named : List ℕ → Option Keyword
keyword_named word =
    if bytes_eq word (codes "adj") then Some keyword.Adj
    else if bytes_eq word (codes "and") then Some keyword.And
    else if bytes_eq word (codes "key") then Some keyword.Key
    else if bytes_eq word (codes "or") then Some keyword.Or
    else if bytes_eq word (codes "put") then Some keyword.Put
    else if bytes_eq word (codes "done") then Some keyword.Done
    else if bytes_eq word (codes "move") then Some keyword.Move
    else if bytes_eq word (codes "cases") then Some keyword.Cases
    else if bytes_eq word (codes "lift") then Some keyword.Lift
    else if bytes_eq word (codes "full") then Some keyword.Full
    else if bytes_eq word (codes "semi") then Some keyword.Semi
    else None

-- whether lines with that keyword stand in certificates of the version
abbrev pub is_in_version : ℕ → Keyword → Bool
is_in_version version keyword.Put = nat_le SECOND_VERSION version
is_in_version version keyword.Done = nat_le SECOND_VERSION version
is_in_version version keyword.Move = nat_le SECOND_VERSION version
is_in_version version keyword.Cases = nat_le SECOND_VERSION version
is_in_version version keyword.Lift = nat_le LATEST_VERSION version
is_in_version version k = true

-- what the words after each keyword say, on the board of size n
abbrev pub adj_in : ℕ → List (List ℕ) → Option Statement
adj_in n words = option_and_then
    (λ x. option_and_then (λ y. alone (Derivation (Adj x.0 y.0)) y.1) (first_end n x.1))
    (first_end n words)

abbrev pub pair_in : (ℕ → ℕ → Line) → List (List ℕ) → Option Statement
pair_in line words = option_and_then
    (λ i. option_and_then (λ j. alone (Derivation (line i.0 j.0)) j.1) (first_number i.1))
    (first_number words)

abbrev pub or_of : ℕ → List ℕ → Option Statement
or_of version (i ∷ j ∷ []) = Some (Derivation (Or2 i j))
or_of version (i ∷ j ∷ k ∷ []) = Some (Derivation (Or3 i j k))
or_of version numbers = if nat_le THIRD_VERSION version && nat_le LEAST_MANY (length numbers)
    && nat_le (length numbers) MOST_CASES then Some (Derivation (OrMany numbers)) else None

abbrev pub or_in : ℕ → List (List ℕ) → Option Statement
or_in version words = option_and_then (or_of version) (numbers_named words)

abbrev pub put_in : ℕ → List (List ℕ) → Option Statement
put_in n words = option_map (λ s. Derivation (Put s)) (set_named n 0 0 words)

abbrev pub move_in : ℕ → List (List ℕ) → Option Statement
move_in n words = option_and_then
    (λ k. option_and_then (λ i. alone (Derivation (Move k.0 i.0)) i.1) (first_number k.1))
    (first_cell n words)

abbrev pub cases_in : List (List ℕ) → Option Statement
cases_in words = option_and_then
    (λ numbers. if nat_le LEAST_CASES (length numbers) && nat_le (length numbers) MOST_CASES
    then Some (Derivation (Cases numbers)) else None)
    (numbers_named words)

abbrev pub lift_in : List (List ℕ) → Option Statement
lift_in words =
    option_and_then (λ i. alone (Derivation (Lift i.0)) i.1) (first_number words)

abbrev pub claim_in : Kind → List (List ℕ) → Option Statement
claim_in kind words =
    option_and_then (λ i. alone (Claim kind i.0) i.1) (first_number words)

abbrev pub args_named : ℕ → ℕ → Keyword → List (List ℕ) → Option Statement
args_named version n keyword.Adj words = adj_in n words
args_named version n keyword.And words = pair_in And words
args_named version n keyword.Key words = pair_in Key words
args_named version n keyword.Or words = or_in version words
args_named version n keyword.Put words = put_in n words
args_named version n keyword.Done words = alone (Derivation Done) words
args_named version n keyword.Move words = move_in n words
args_named version n keyword.Cases words = cases_in words
args_named version n keyword.Lift words = lift_in words
args_named version n keyword.Full words = claim_in Full words
args_named version n keyword.Semi words = claim_in Semi words

-- what the words of a line say, in a certificate of that version on a board of that size
abbrev pub statement_named : ℕ → ℕ → List (List ℕ) → Option Statement
statement_named version n [] = None
statement_named version n (word ∷ words) = option_and_then
    (λ k. if is_in_version version k then args_named version n k words else None)
    (keyword_named word)

-- the words of a line that says this
abbrev pub statement_words : ℕ → Statement → List (List ℕ)
statement_words n (Derivation line) = line_words n line
statement_words n (Claim kind i) = kind_word kind ∷ decimal i ∷ []

-- it is one of that version on the board of size n
abbrev pub IsStatementOf : ℕ → ℕ → Statement → Type 0
IsStatementOf version n (Derivation line) = IsLineOf version n line
IsStatementOf version n (Claim kind i) = i ≤ MOST_NUMBER
