-- What the head of a text says is in its words.
use Rattle.std.proofs.Common.{◌≡◌, ◌≢◌, ℕ, ◌≤◌, ◌⊎◌, ◌&&◌, leb, eqb, bit_and, inl, inr, Bool}
use Rattle.std.proofs.Common.{true, false, cond, List, [], ◌∷◌, ◌++◌, Option, Some, None, Result, Ok, Err}
use Rattle.std.proofs.Common.{refl, ap, ◌∙◌, subst, codes, arith}
use Rattle.std.proofs.lemmas.Bool.{leb-true}
use Rattle.std.specs.Fmt.{decimal}
use Rattle.std.specs.Option.{option_and_then, option_map}
use Rattle.std.specs.Str.{bytes_eq}
use Rattle.std.proofs.lemmas.Bool.{and_parts, cases_eq}
use Rattle.std.proofs.lemmas.Bool.Decides.{Decides-eqb}
use Rattle.std.proofs.lemmas.Slice.Eq.{bytes_eq-Decides}
use Rattle.hex_cells.specs.declared.colours.Colour.{Colour}
use Rattle.hex_cells.specs.declared.colours.Colour.TheVariants.{Black, White}
use Rattle.hex_board.specs.Positions.{IsPosition, Within}
use Rattle.win_cert.specs.Lines.{◌>>=◌, at_line, first_colour, first_line, head_in, line_in}
use Rattle.win_cert.specs.Lines.{number_after, player_in, size_in, stones_in, version_in}
use Rattle.win_cert.specs.Named.{after_word, alone, set_named, first_number}
use Rattle.win_cert.specs.Texts.{colour_word, vertices_of}
use Rattle.win_cert.specs.Writable.{IsVersion}
use Rattle.win_cert.specs.declared.certs.TheConstants.{FIRST_VERSION, LATEST_VERSION}
use Rattle.win_cert.specs.declared.certs.TheConstants.{SECOND_VERSION, THIRD_VERSION}
use Rattle.win_cert.specs.declared.heads.Head.{Head}
use Rattle.win_cert.specs.declared.refusals.CertError.{CertError}
use Rattle.win_cert.proofs.CellLists.{apart_of}
use Rattle.win_cert.proofs.CellSets.{cells_mean}
use Rattle.win_cert.proofs.Options.{some_of_map, some_of_test, some_of_then}
use Rattle.win_cert.proofs.WordParts.{Words, after_means, alone_means, number_means}
use Rattle.std.proofs.lemmas.Option.{cond_some}

abbrev pub TextLines : Type 0
TextLines = List Words

pub bind_ok : {A B : Type 0} (r : Result A CertError) (f : A → Result B CertError) (y : B)
    → (r >>= f) ≡ Ok y
    → (x : A) × (r ≡ Ok x) × (f x ≡ Ok y)
bind_ok (Ok x) f y e = (x, refl, e)
bind_ok (Err d) f y e = cc

pub same_ok : {A : Type 0} (x y : A) → ◌≡◌ {A = Result A CertError} (Ok x) (Ok y) → x ≡ y
same_ok x y e = cc

pub at_line_ok : {A : Type 0} (m : ℕ) (o : Option A) (x : A) → at_line m o ≡ Ok x → o ≡ Some x
at_line_ok m (Some a) x e = cc
at_line_ok m None x e = cc

first_means : (lines : TextLines) (p : Words × TextLines) → first_line lines ≡ Some p
    → lines ≡ p.0 ∷ p.1
first_means [] p e = cc
first_means (words ∷ []) p e = cc
first_means (words ∷ next ∷ lines) p e =
    let pair : ◌≡◌ {A = Words × TextLines} (words, next ∷ lines) p = cc in
    ap (λ (q : Words × TextLines). q.0 ∷ q.1) pair

-- the first line says this
pub record Says {A : Type 0} (said : Words → Option A) (lines : TextLines) (a : A)
    (rest : TextLines) : Type 0 where
  pub words : Words
  pub is : lines ≡ words ∷ rest
  pub says : said words ≡ Some a

pub line_means : {A : Type 0} (said : Words → Option A) (lines : TextLines) (p : A × TextLines)
    → line_in said lines ≡ Some p
    → Says said lines p.0 p.1
line_means {A} said lines p e =
    let first = some_of_then
    (λ (l : Words × TextLines). option_map (λ (a : A). (a, l.1)) (said l.0))
    (first_line lines) p e in
    let said_is = some_of_map (λ (a : A). (a, first.0.1)) (said first.0.0) p first.2 in
    record {
      words = first.0.0;
      is = first_means lines first.0 first.1
          ∙ ap (λ ls. first.0.0 ∷ ls) (ap (λ (q : A × TextLines). q.1) said_is.2);
      says = said_is.1 ∙ ap Some (ap (λ (q : A × TextLines). q.0) said_is.2);
    }

pub record IsNumberLine (name : List ℕ) (least most i : ℕ) (words : Words) : Type 0 where
  pub low : least ≤ i
  pub high : i ≤ most
  pub is : words ≡ name ∷ decimal i ∷ []

pub number_after_means : (name : List ℕ) (least most : ℕ) (words : Words) (i : ℕ)
    → number_after name least most words ≡ Some i
    → IsNumberLine name least most i words
number_after_means name least most words i e =
    let test = λ (p : ℕ × Words). cond (leb least p.0 && leb p.0 most) (alone p.0 p.1) None in
    let rest = some_of_then (λ rest. option_and_then test (first_number rest))
    (after_word name words) i e in
    let first = some_of_then test (first_number rest.0) i rest.2 in
    let range = some_of_test (leb least first.0.0 && leb first.0.0 most)
    (alone first.0.0 first.0.1) i first.2 in
    let both = and_parts (leb least first.0.0) (leb first.0.0 most) range.0 in
    let end = alone_means first.0.0 i first.0.1 range.1 in
    let number = number_means rest.0 first.0 first.1 in
    record {
      low = subst (λ j. least ≤ j) end.0 (leb-true least first.0.0 both.0);
      high = subst (λ j. j ≤ most) end.0 (leb-true first.0.0 most both.1);
      is = after_means name words rest.0 rest.1
          ∙ ap (λ ws. name ∷ ws)
          (number.is ∙ ap (λ ws. decimal first.0.0 ∷ ws) end.1 ∙ ap (λ j. decimal j ∷ []) end.0);
    }

colour_of : (b : Bool) (colour other : Colour) (words : Words) (o : Option Colour)
    → cond b (alone colour words) o ≡ Some other
    → ((b ≡ true) × (alone colour words ≡ Some other)) ⊎ (o ≡ Some other)
colour_of true colour other words o e = inl (refl, e)
colour_of false colour other words o e = inr e

is_colour : (word : List ℕ) (words : Words) (colour other : Colour)
    → (bytes_eq word (colour_word colour) ≡ true) × (alone colour words ≡ Some other)
    → word ∷ words ≡ colour_word other ∷ []
is_colour word words colour other p =
    let end = alone_means colour other words p.1 in
    ap (λ w. w ∷ words) ((bytes_eq-Decides word (colour_word colour)).0 p.0 ∙ ap colour_word end.0)
    ∙ ap (λ ws. colour_word other ∷ ws) end.1

colour_means : (words : Words) (colour : Colour) → first_colour words ≡ Some colour
    → words ≡ colour_word colour ∷ []
colour_means [] colour e = cc
colour_means (word ∷ words) colour e =
    let other : Option Colour = cond (bytes_eq word (codes "white")) (alone White words) None in
    elim (colour_of (bytes_eq word (codes "black")) Black colour words other e) [
      | inl p ↦ is_colour word words Black colour p
      | inr e ↦ is_colour word words White colour
          (some_of_test (bytes_eq word (codes "white")) (alone White words) colour e)
    ]

pub player_means : (words : Words) (colour : Colour) → player_in words ≡ Some colour
    → words ≡ codes "player" ∷ colour_word colour ∷ []
player_means words colour e =
    let rest = some_of_then first_colour (after_word (codes "player") words) colour e in
    after_means (codes "player") words rest.0 rest.1
    ∙ ap (λ ws. codes "player" ∷ ws) (colour_means rest.0 colour rest.2)

pub record IsStonesLine (name : List ℕ) (n taken s : ℕ) (words : Words) : Type 0 where
  pub on_board : Within n s
  pub free : bit_and s taken ≡ 0
  pub is : words ≡ name ∷ vertices_of n s

pub stones_mean : (name : List ℕ) (n taken : ℕ) (words : Words) (s : ℕ)
    → stones_in name n taken words ≡ Some s
    → IsStonesLine name n taken s words
stones_mean name n taken words s e =
    let test = λ (s : ℕ). cond (eqb (bit_and s taken) 0) (Some s) None in
    let rest = some_of_then (λ rest. option_and_then test (set_named n 0 0 rest))
    (after_word name words) s e in
    let cells = some_of_then test (set_named n 0 0 rest.0) s rest.2 in
    let free = cond_some (eqb (bit_and cells.0 taken) 0) cells.0 s cells.2 in
    let means = cells_mean n rest.0 cells.0 cells.1 in
    record {
      on_board = subst (Within n) free.1 means.0;
      free = subst (λ s. bit_and s taken ≡ 0) free.1
          ((Decides-eqb (bit_and cells.0 taken) 0).0 free.0);
      is = after_means name words rest.0 rest.1
          ∙ ap (λ ws. name ∷ ws) (means.1 ∙ ap (vertices_of n) free.1);
    }

-- the lines of a head
abbrev pub head_lines : Head → TextLines
head_lines head =
    (codes "hexcert" ∷ decimal head.version ∷ []) ∷ (codes "size" ∷ decimal head.board.size ∷ [])
    ∷ (codes "player" ∷ colour_word head.player ∷ []) ∷ (codes "black" ∷ vertices_of head.board.size head.board.black)
    ∷ (codes "white" ∷ vertices_of head.board.size head.board.white) ∷ []

pub record IsHead (head : Head) : Type 0 where
  pub version : IsVersion head.version
  pub board : IsPosition head.board.size head.board.black head.board.white

third_or_latest : (v : ℕ) → FIRST_VERSION ≤ v → v ≤ LATEST_VERSION → v ≢ FIRST_VERSION
    → v ≢ SECOND_VERSION → (v ≡ THIRD_VERSION) ⊎ (v ≡ LATEST_VERSION)
third_or_latest v low high more than = elim (cases_eq v THIRD_VERSION) [
  | inl same ↦ inl same
  | inr other ↦ inr (omega (arith, low, high, more, than, other))
]

later_version : (v : ℕ) → FIRST_VERSION ≤ v → v ≤ LATEST_VERSION → v ≢ FIRST_VERSION
    → (v ≡ SECOND_VERSION) ⊎ ((v ≡ THIRD_VERSION) ⊎ (v ≡ LATEST_VERSION))
later_version v low high more = elim (cases_eq v SECOND_VERSION) [
  | inl same ↦ inl same
  | inr other ↦ inr (third_or_latest v low high more other)
]

-- between the first and the latest each number is a version
pub is_version : (v : ℕ) → FIRST_VERSION ≤ v → v ≤ LATEST_VERSION → IsVersion v
is_version v low high = elim (cases_eq v FIRST_VERSION) [
  | inl same ↦ inl same
  | inr other ↦ inr (later_version v low high other)
]

-- a head that is read is good, and the lines are its own
pub head_means : (lines : TextLines) (p : Head × TextLines) → head_in lines ≡ Ok p
    → IsHead p.0 × (lines ≡ head_lines p.0 ++ p.1)
head_means lines p e =
    let v = bind_ok (at_line 1 (line_in version_in lines)) _ p e in
    let n = bind_ok (at_line 2 (line_in size_in v.0.1)) _ p v.2 in
    let c = bind_ok (at_line 3 (line_in player_in n.0.1)) _ p n.2 in
    let b = bind_ok (at_line 4 (line_in (stones_in (codes "black") n.0.0 0) c.0.1)) _ p c.2 in
    let w = bind_ok (at_line 5 (line_in (stones_in (codes "white") n.0.0 b.0.0) b.0.1)) _ p b.2 in
    let v_line = line_means version_in lines v.0
    (at_line_ok 1 (line_in version_in lines) v.0 v.1) in
    let n_line = line_means size_in v.0.1 n.0 (at_line_ok 2 (line_in size_in v.0.1) n.0 n.1) in
    let c_line = line_means player_in n.0.1 c.0 (at_line_ok 3 (line_in player_in n.0.1) c.0 c.1) in
    let b_line = line_means (stones_in (codes "black") n.0.0 0) c.0.1 b.0
    (at_line_ok 4 (line_in (stones_in (codes "black") n.0.0 0) c.0.1) b.0 b.1) in
    let w_line = line_means (stones_in (codes "white") n.0.0 b.0.0) b.0.1 w.0
    (at_line_ok 5 (line_in (stones_in (codes "white") n.0.0 b.0.0) b.0.1) w.0 w.1) in
    let version = number_after_means
    (codes "hexcert") FIRST_VERSION LATEST_VERSION v_line.words v.0.0 v_line.says in
    let size = number_after_means (codes "size") 1 11 n_line.words n.0.0 n_line.says in
    let player = player_means c_line.words c.0.0 c_line.says in
    let black = stones_mean (codes "black") n.0.0 0 b_line.words b.0.0 b_line.says in
    let white = stones_mean (codes "white") n.0.0 b.0.0 w_line.words w.0.0 w_line.says in
    let head : Head
    = record { version = v.0.0; board = record { size = n.0.0; black = b.0.0; white = w.0.0 }; player = c.0.0 } in
    let is : ◌≡◌ {A = Head × TextLines} (head, w.0.1) p = same_ok (head, w.0.1) p w.2 in
    let good : IsHead head = record {
      version = is_version v.0.0 version.low version.high;
      board = record {
        least = size.low;
        most = size.high;
        apart = λ k in_black in_white. apart_of w.0.0 b.0.0 white.free k in_white in_black;
        black_on = black.on_board;
        white_on = white.on_board;
      };
    } in
    let whole : lines ≡ head_lines head ++ w.0.1 =
    v_line.is
    ∙ (λ i. version.is i ∷
    (n_line.is
    ∙ (λ i. size.is i ∷ (c_line.is ∙ (λ i. player i ∷ (b_line.is ∙ (λ i. black.is i ∷ (w_line.is ∙ (λ i. white.is i ∷ w.0.1)) i)) i)) i)) i) in
    subst (λ (q : Head × TextLines). IsHead q.0 × (lines ≡ head_lines q.0 ++ q.1)) is (good, whole)
