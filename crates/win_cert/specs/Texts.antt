-- The text of a certificate: lines of words with one space between two, each line ended by a line
-- feed.
use Rattle.std.specs.Prelude.{ℕ, List, [], ◌∷◌, ◌++◌, map, codes}
use Rattle.std.specs.Fmt.{decimal}
use Rattle.std.specs.List.{flat_map, join_with_byte}
pub use Rattle.hex_cells.specs.Colours.{colour_word}
pub use Rattle.hex_cells.specs.Vertices.{vertices_of}
use Rattle.hex_cells.specs.Vertices.{vertex_of}
use Rattle.conn_store.specs.declared.entries.Kind.{Kind}
use Rattle.conn_store.specs.declared.entries.Kind.TheVariants.{Full, Semi}
use Rattle.win_cert.specs.declared.certs.Cert.{Cert}
use Rattle.win_cert.specs.declared.lines.End.{End}
use Rattle.win_cert.specs.declared.lines.End.TheVariants.{At, First, Second}
use Rattle.win_cert.specs.declared.lines.Line.{Line}
use Rattle.win_cert.specs.declared.lines.Line.TheVariants.{Adj, And, Key, Or2, Or3, Put, Done, Move}
use Rattle.win_cert.specs.declared.lines.Line.TheVariants.{Cases, Lift, OrMany}

-- the byte between two words, and the byte that ends a line
abbrev pub space : ℕ
space = 32

abbrev pub line_feed : ℕ
line_feed = 10

abbrev pub kind_word : Kind → List ℕ
kind_word Full = codes "full"
kind_word Semi = codes "semi"

-- the word for an end: a vertex, or the name of one of the player's edges
abbrev pub end_word : ℕ → End → List ℕ
end_word n (At k) = vertex_of n k
end_word n First = codes "edge1"
end_word n Second = codes "edge2"

-- the words of a derivation line, on the board of size n
abbrev pub line_words : ℕ → Line → List (List ℕ)
line_words n (Adj x y) = codes "adj" ∷ end_word n x ∷ end_word n y ∷ []
line_words n (And i j) = codes "and" ∷ decimal i ∷ decimal j ∷ []
line_words n (Key i j) = codes "key" ∷ decimal i ∷ decimal j ∷ []
line_words n (Or2 i j) = codes "or" ∷ decimal i ∷ decimal j ∷ []
line_words n (Or3 i j k) = codes "or" ∷ decimal i ∷ decimal j ∷ decimal k ∷ []
line_words n (OrMany numbers) = codes "or" ∷ map decimal numbers
line_words n (Put cells) = codes "put" ∷ vertices_of n cells
line_words n Done = codes "done" ∷ []
line_words n (Move k i) = codes "move" ∷ vertex_of n k ∷ decimal i ∷ []
line_words n (Cases numbers) = codes "cases" ∷ map decimal numbers
line_words n (Lift i) = codes "lift" ∷ decimal i ∷ []

-- the words of the five lines that tell version, size, player and stones
abbrev pub head_words : Cert → List (List (List ℕ))
head_words cert =
    (codes "hexcert" ∷ decimal cert.version ∷ []) ∷
    (codes "size" ∷ decimal cert.board.size ∷ []) ∷
    (codes "player" ∷ colour_word cert.player ∷ []) ∷
    (codes "black" ∷ vertices_of cert.board.size cert.board.black) ∷
    (codes "white" ∷ vertices_of cert.board.size cert.board.white) ∷ []

-- the words of the claim
abbrev pub claim_words : Cert → List (List ℕ)
claim_words cert = kind_word cert.claim ∷ decimal cert.entry ∷ []

-- the words of the lines before the claim
abbrev pub words_before_claim : Cert → List (List (List ℕ))
words_before_claim cert = head_words cert ++ map (line_words cert.board.size) cert.lines

-- the words of all lines
abbrev pub cert_words : Cert → List (List (List ℕ))
cert_words cert = words_before_claim cert ++ claim_words cert ∷ []

-- a line of these words, with its line feed
abbrev pub ended : List (List ℕ) → List ℕ
ended words = join_with_byte space words ++ line_feed ∷ []

-- the text of a certificate
abbrev pub cert_text : Cert → List ℕ
cert_text cert = flat_map ended (cert_words cert)
