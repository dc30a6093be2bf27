-- How a text is read, line by line: its head, and then the steps. Only private clauses cite this.
use Rattle.std.specs.Prelude.{ℕ, ◌+◌, ◌==◌, ◌&&◌, nat_le, Bool}
use Rattle.std.specs.Prelude.{false, List, [], ◌∷◌, ◌++◌, Option, Some, None, Result, Ok, Err, suc}
use Rattle.std.specs.Prelude.{length, map, codes, bit_and, if◌then◌else◌}
use Rattle.std.specs.List.{slice_split}
use Rattle.std.specs.Option.{ok_or, option_and_then, option_map}
use Rattle.std.specs.Str.{bytes_eq}
use Rattle.hex_cells.specs.declared.colours.Colour.{Colour}
use Rattle.hex_cells.specs.declared.colours.Colour.TheVariants.{Black, White}
use Rattle.hex_cells.specs.declared.board_size.TheConstants.Size.{MAX}
use Rattle.conn_store.specs.declared.entries.Kind.{Kind}
use Rattle.win_cert.specs.Named.{after_word, alone, set_named, first_number, statement_named}
use Rattle.win_cert.specs.Writable.{most_lines}
use Rattle.win_cert.specs.Words.{is_line_feed, is_space_byte}
use Rattle.win_cert.specs.declared.certs.Cert.{Cert}
use Rattle.win_cert.specs.declared.certs.TheConstants.{FIRST_VERSION, LATEST_VERSION}
use Rattle.win_cert.specs.declared.heads.Head.{Head}
use Rattle.win_cert.specs.declared.lines.Line.{Line}
use Rattle.win_cert.specs.declared.refusals.CertError.{CertError}
use Rattle.win_cert.specs.declared.refusals.CertError.TheVariants.{NotCert, TooManyLines}
use Rattle.win_cert.specs.declared.statements.Statement.{Statement}
use Rattle.win_cert.specs.declared.statements.Statement.TheVariants.{Claim, Derivation}

-- the words of each line, and of what stands after the last line feed
abbrev pub lines_of : List ℕ → List (List (List ℕ))
lines_of bytes = map (slice_split is_space_byte) (slice_split is_line_feed bytes)

-- the first line, and what stands after it; none where no line feed is left
abbrev pub first_line : List (List (List ℕ)) → Option (List (List ℕ) × List (List (List ℕ)))
first_line [] = None
first_line (words ∷ []) = None
first_line (words ∷ next ∷ lines) = Some (words, next ∷ lines)

-- whether nothing is left
abbrev pub is_nothing : List (List (List ℕ)) → Bool
is_nothing ((word ∷ []) ∷ []) = length word == 0
is_nothing lines = false

-- what the first line says
abbrev pub line_in : {A : Type 0} → (List (List ℕ) → Option A) → List (List (List ℕ))
    → Option (A × List (List (List ℕ)))
line_in said lines =
    option_and_then (λ l. option_map (λ a. (a, l.1)) (said l.0)) (first_line lines)

infixl 10 ◌>>=◌
-- what is read goes on as f says, and a refusal stays
abbrev pub ◌>>=◌ : {A B : Type 0} → Result A CertError → (A → Result B CertError)
    → Result B CertError
(Ok x) >>= f = f x
(Err e) >>= f = Err e

-- what was read, with the lines that are left
abbrev pub with_rest : {A : Type 0} → Result A CertError → List (List (List ℕ))
    → Result (A × List (List (List ℕ))) CertError
with_rest result lines = result >>= λ a. Ok (a, lines)

-- a name and a number from `least` to `most`
abbrev pub number_after : List ℕ → ℕ → ℕ → List (List ℕ) → Option ℕ
number_after name least most words = option_and_then
    (λ rest. option_and_then
    (λ i. if nat_le least i.0 && nat_le i.0 most then alone i.0 i.1 else None)
    (first_number rest))
    (after_word name words)

abbrev pub version_in : List (List ℕ) → Option ℕ
version_in words = number_after (codes "hexcert") FIRST_VERSION LATEST_VERSION words

abbrev pub size_in : List (List ℕ) → Option ℕ
size_in words = number_after (codes "size") 1 MAX words

abbrev pub first_colour : List (List ℕ) → Option Colour
first_colour [] = None
first_colour (word ∷ words) =
    if bytes_eq word (codes "black") then alone Black words
    else if bytes_eq word (codes "white") then alone White words else None

abbrev pub player_in : List (List ℕ) → Option Colour
player_in words = option_and_then first_colour (after_word (codes "player") words)

-- stones on the board of size n, none of them in the set `taken`
abbrev pub stones_in : List ℕ → ℕ → ℕ → List (List ℕ) → Option ℕ
stones_in name n taken words = option_and_then
    (λ rest. option_and_then (λ s. if bit_and s taken == 0 then Some s else None)
    (set_named n 0 0 rest))
    (after_word name words)

-- what is read in line n, or that it is bad
abbrev pub at_line : {A : Type 0} → ℕ → Option A → Result A CertError
at_line n said = ok_or said (NotCert n)

-- the head of a text, and the lines after it
abbrev pub head_in : List (List (List ℕ)) → Result (Head × List (List (List ℕ))) CertError
head_in lines =
    at_line 1 (line_in version_in lines) >>= λ v.
    at_line 2 (line_in size_in v.1) >>= λ n.
    at_line 3 (line_in player_in n.1) >>= λ p.
    at_line 4 (line_in (stones_in (codes "black") n.0 0) p.1) >>= λ b.
    at_line 5 (line_in (stones_in (codes "white") n.0 b.0) b.1) >>= λ w.
    Ok (
      record {
        version = v.0;
        board = record { size = n.0; black = b.0; white = w.0 };
        player = p.0;
      },
      w.1,
    )

-- derivation lines, and the claim with the number of its entry
abbrev pub Steps : Type 0
Steps = List Line × (Kind × ℕ)

-- these lines before the others
abbrev pub with_lines : List Line → Result Steps CertError → Result Steps CertError
with_lines front steps = steps >>= λ s. Ok (front ++ s.0, s.1)

-- what is read after the head of that version and k lines, where this is said first, before other
-- lines
abbrev pub steps_after : ℕ → ℕ → Option Statement → List (List (List ℕ)) → Result Steps CertError
    → Result Steps CertError
steps_after version k None lines others = Err (NotCert (k + 6))
steps_after version k (Some (Derivation line)) lines others =
    if k == most_lines version then Err TooManyLines else with_lines (line ∷ []) others
steps_after version k (Some (Claim kind i)) lines others =
    if is_nothing lines then Ok ([], (kind, i)) else Err (NotCert (k + 7))

-- the steps after the head and k lines
abbrev pub steps_in : ℕ → ℕ → ℕ → List (List (List ℕ)) → Result Steps CertError
steps_in version n k [] = Err (NotCert (k + 6))
steps_in version n k (words ∷ []) = Err (NotCert (k + 6))
steps_in version n k (words ∷ next ∷ lines) =
    steps_after version k (statement_named version n words) (next ∷ lines)
    (steps_in version n (suc k) (next ∷ lines))

-- the certificate of this head and these steps
abbrev pub cert_of : Head → Steps → Cert
cert_of head steps = record {
  version = head.version;
  board = head.board;
  player = head.player;
  lines = steps.0;
  claim = steps.1.0;
  entry = steps.1.1;
}

-- the certificate of this head, where these lines follow it
abbrev pub certs_of : Head → List (List (List ℕ)) → Result Cert CertError
certs_of head lines =
    steps_in head.version head.board.size 0 lines >>= λ s. Ok (cert_of head s)

-- what a text of these lines is read as
abbrev pub cert_in : List (List (List ℕ)) → Result Cert CertError
cert_in lines = head_in lines >>= λ h. certs_of h.0 h.1
