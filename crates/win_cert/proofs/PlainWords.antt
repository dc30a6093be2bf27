-- The words of a certificate have neither spaces nor line feeds.
use Rattle.std.proofs.Common.{◌≡◌, inl, inr, ℕ, ◌+◌, ◌*◌, ◌/◌, ◌%◌, ◌^◌, ◌<◌, ◌≤◌, zero, suc}
use Rattle.std.proofs.Common.{Bool, true, false, cond, List, [], ◌∷◌, ◌++◌, map, refl, codes, arith}
use Rattle.std.specs.Fmt.{decimal}
use Rattle.std.specs.List.{All, filter, range_with_len}
use Rattle.std.specs.Str.Parse.{AllDigits}
use Rattle.std.proofs.lemmas.Bool.{ne_eqb}
use Rattle.std.proofs.lemmas.Fmt.{decimal_is_IsNumeral}
use Rattle.std.proofs.lemmas.List.Elements.{All-cons, All-nil, All-tail}
use Rattle.std.proofs.lemmas.Str.Parse.{digit_from_value}
use Rattle.hex_cells.specs.Sets.{has}
use Rattle.hex_cells.specs.Vertices.{vertex_of}
use Rattle.hex_cells.specs.declared.colours.Colour.{Colour}
use Rattle.hex_cells.specs.declared.colours.Colour.TheVariants.{Black, White}
use Rattle.conn_store.specs.declared.entries.Kind.{Kind}
use Rattle.conn_store.specs.declared.entries.Kind.TheVariants.{Full, Semi}
use Rattle.win_cert.specs.Texts.{cert_words, colour_word, end_word, kind_word, line_words}
use Rattle.win_cert.specs.Texts.{vertices_of}
use Rattle.win_cert.specs.Words.{is_line_feed, is_space_byte}
use Rattle.win_cert.specs.Writable.{HasBoard, HasSpelling, IsEndOn, IsLineOf, IsVersion}
use Rattle.win_cert.specs.declared.certs.Cert.{Cert}
use Rattle.win_cert.specs.declared.lines.End.{End}
use Rattle.win_cert.specs.declared.lines.End.TheVariants.{At, First, Second}
use Rattle.win_cert.specs.declared.lines.Line.{Line}
use Rattle.win_cert.specs.declared.lines.Line.TheVariants.{Adj, And, Key, Or2, Or3, Put, Done, Move}
use Rattle.win_cert.specs.declared.lines.Line.TheVariants.{Cases, Lift, OrMany}
use Rattle.win_cert.specs.declared.lines.TheConstants.{MOST_NUMBER}
use Rattle.win_cert.proofs.TextLines.{AreLines, ArePlain, IsLine, Plain}
use Rattle.win_cert.proofs.WordParts.{row_small}

plain_nil : Plain []
plain_nil = (All-nil (λ x. is_space_byte x ≡ false), All-nil (λ x. is_line_feed x ≡ false))

plain_cons : (x : ℕ) (word : List ℕ) → is_space_byte x ≡ false → is_line_feed x ≡ false → Plain word
    → Plain (x ∷ word)
plain_cons x word s l p
    = (All-cons (λ x. is_space_byte x ≡ false) x word s p.0, All-cons (λ x. is_line_feed x ≡ false) x word l p.1)

are_plain : List ℕ → Bool
are_plain [] = true
are_plain (x ∷ word) = cond (is_space_byte x) false (cond (is_line_feed x) false (are_plain word))

plain_if : (s l : Bool) (x : ℕ) (word : List ℕ) → is_space_byte x ≡ s → is_line_feed x ≡ l
    → (are_plain word ≡ true → Plain word)
    → cond s false (cond l false (are_plain word)) ≡ true → Plain (x ∷ word)
plain_if true l x word a b rest e = cc
plain_if false true x word a b rest e = cc
plain_if false false x word a b rest e = plain_cons x word a b (rest e)

plain_code : (word : List ℕ) → are_plain word ≡ true → Plain word
unfolding are_plain
plain_code [] e = plain_nil
plain_code (x ∷ word) e = plain_if (is_space_byte x) (is_line_feed x) x word refl refl
    (plain_code word) e

plain_digits : (word : List ℕ) → AllDigits 10 word → Plain word
plain_digits [] d = plain_nil
plain_digits (x ∷ word) d =
    let r = digit_from_value x d.0 in
    plain_cons x word (ne_eqb x 32 (λ e. omega (arith, e, r)))
    (ne_eqb x 10 (λ e. omega (arith, e, r))) (plain_digits word d.1)

plain_decimal : (i : ℕ) → i < 2 ^ 64 → Plain (decimal i)
plain_decimal i small = plain_digits (decimal i) (decimal_is_IsNumeral i small).0.1

plain_number : (i : ℕ) → i ≤ MOST_NUMBER → Plain (decimal i)
plain_number i few = plain_decimal i (omega arith)

plain_vertex : (n k : ℕ) → n ≤ 11 → k < n * n → Plain (vertex_of n k)
plain_vertex n k size on
    = plain_cons (97 + k % n) (decimal (k / n + 1)) (ne_eqb (97 + k % n) 32 (λ e. omega (arith, e)))
    (ne_eqb (97 + k % n) 10 (λ e. omega (arith, e)))
    (plain_decimal (k / n + 1) (row_small n k size on))

plain_end : (n : ℕ) (end : End) → n ≤ 11 → IsEndOn n end → Plain (end_word n end)
unfolding are_plain
plain_end n (At k) size on = plain_vertex n k size on
plain_end n First size on = plain_code (codes "edge1") refl
plain_end n Second size on = plain_code (codes "edge2") refl

plain_if_in : (n k : ℕ) (b : Bool) (cells : List ℕ) → n ≤ 11 → k < n * n
    → ArePlain (map (vertex_of n) cells)
    → ArePlain (map (vertex_of n) (cond b (k ∷ cells) cells))
plain_if_in n k true cells size on p = (plain_vertex n k size on, p)
plain_if_in n k false cells size on p = p

plain_cells : (n s a m : ℕ) → n ≤ 11 → a + m ≤ n * n
    → ArePlain (map (vertex_of n) (filter (has s) (range_with_len a m)))
plain_cells n s a zero size on = tt
plain_cells n s a (suc m) size on
    = plain_if_in n a (has s a) (filter (has s) (range_with_len (a + 1) m)) size (omega arith)
    (plain_cells n s (a + 1) m size (omega arith))

plain_vertices : (n s : ℕ) → n ≤ 11 → ArePlain (vertices_of n s)
plain_vertices n s size = plain_cells n s 0 (n * n) size (omega arith)

plain_numbers : (numbers : List ℕ) → All (λ i. i ≤ MOST_NUMBER) numbers
    → ArePlain (map decimal numbers)
plain_numbers [] few = tt
plain_numbers (i ∷ numbers) few
    = (plain_number i (few 0 0 (omega arith)), plain_numbers numbers (All-tail (λ i. i ≤ MOST_NUMBER) i numbers few))

pub plain_line : (v n : ℕ) (line : Line) → n ≤ 11 → IsLineOf v n line → IsLine (line_words n line)
unfolding are_plain
plain_line v n (Adj x y) size is
    = (plain_code (codes "adj") refl, (plain_end n x size is.0, (plain_end n y size is.1, tt)))
plain_line v n (And i j) size is = (plain_code (codes "and") refl, plain_numbers (i ∷ j ∷ []) is)
plain_line v n (Key i j) size is = (plain_code (codes "key") refl, plain_numbers (i ∷ j ∷ []) is)
plain_line v n (Or2 i j) size is = (plain_code (codes "or") refl, plain_numbers (i ∷ j ∷ []) is)
plain_line v n (Or3 i j k) size is
    = (plain_code (codes "or") refl, plain_numbers (i ∷ j ∷ k ∷ []) is)
plain_line v n (OrMany numbers) size is
    = (plain_code (codes "or") refl, plain_numbers numbers is.3)
plain_line v n (Put s) size is = (plain_code (codes "put") refl, plain_vertices n s size)
plain_line v n Done size is = (plain_code (codes "done") refl, tt)
plain_line v n (Move k i) size is
    = (plain_code (codes "move") refl, (plain_vertex n k size is.1, plain_numbers (i ∷ []) is.2))
plain_line v n (Cases numbers) size is
    = (plain_code (codes "cases") refl, plain_numbers numbers is.3)
plain_line v n (Lift i) size is = (plain_code (codes "lift") refl, plain_numbers (i ∷ []) is.1)

plain_colour : (colour : Colour) → Plain (colour_word colour)
unfolding are_plain
plain_colour Black = plain_code (codes "black") refl
plain_colour White = plain_code (codes "white") refl

plain_kind : (kind : Kind) → Plain (kind_word kind)
unfolding are_plain
plain_kind Full = plain_code (codes "full") refl
plain_kind Semi = plain_code (codes "semi") refl

plain_steps : (v n : ℕ) (lines : List Line) (claim : List (List ℕ)) → n ≤ 11
    → All (IsLineOf v n) lines → IsLine claim
    → AreLines (map (line_words n) lines ++ claim ∷ [])
plain_steps v n [] claim size good end = (end, tt)
plain_steps v n (line ∷ lines) claim size good end =
    (plain_line v n line size (good 0 line (omega arith)), plain_steps v n lines claim size (All-tail (IsLineOf v n) line lines good) end)

version_small : (v : ℕ) → IsVersion v → v < 2 ^ 64
version_small v (inl e) = omega (arith, e)
version_small v (inr (inl e)) = omega (arith, e)
version_small v (inr (inr (inl e))) = omega (arith, e)
version_small v (inr (inr (inr e))) = omega (arith, e)

-- the lines of a certificate are words without spaces and line feeds
pub plain_cert : (cert : Cert) → HasBoard cert → HasSpelling cert → AreLines (cert_words cert)
unfolding are_plain
plain_cert cert board good =
    let n : ℕ = cert.board.size in
    let size : n ≤ 11 = board.most in (
      (plain_code (codes "hexcert") refl, (plain_decimal cert.version (version_small cert.version good.version), tt)),
      (
        (plain_code (codes "size") refl, (plain_decimal n (omega (arith, size)), tt)),
        (
          (plain_code (codes "player") refl, (plain_colour cert.player, tt)),
          (
            (plain_code (codes "black") refl, plain_vertices n cert.board.black size),
            (
              (plain_code (codes "white") refl, plain_vertices n cert.board.white size),
              plain_steps cert.version n cert.lines
                  (kind_word cert.claim ∷ decimal cert.entry ∷ []) size good.lines
                  (plain_kind cert.claim, (plain_number cert.entry good.entry, tt)),
            ),
          ),
        ),
      ),
    )
