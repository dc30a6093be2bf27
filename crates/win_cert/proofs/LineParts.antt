-- The lines of a text, as it is read.
use Rattle.std.proofs.Common.{◌≡◌, ◌≢◌, ℕ, ◌+◌, ◌==◌, Bool, true, false, cond, List, [], ◌∷◌}
use Rattle.std.proofs.Common.{length, take, drop, map, Some, None, refl, ap, sym, ◌∙◌, suc, arith}
use Rattle.std.proofs.lemmas.Bool.{ne_eqb}
use Rattle.std.specs.List.{onto_first, position, slice_split}
use Rattle.win_cert.specs.Lines.{first_line, is_nothing, lines_of}
use Rattle.win_cert.specs.Words.{is_line_feed, is_space_byte}
use Rattle.win_cert.proofs.Splitting.{split_first, split_some, split_whole}

-- where no line feed is left, there is no line
pub last_line : (text : List ℕ) → position is_line_feed text ≡ None
    → first_line (lines_of text) ≡ None
last_line text e = ap (λ parts. first_line (map (slice_split is_space_byte) parts))
    (split_whole is_line_feed text e)

pub first_of_more : (words : List (List ℕ)) (lines : List (List (List ℕ))) → lines ≢ []
    → first_line (words ∷ lines) ≡ Some (words, lines)
first_of_more words [] some = absurd (some refl)
first_of_more words (next ∷ lines) some = refl

map_some : (parts : List (List ℕ)) → parts ≢ [] → map (slice_split is_space_byte) parts ≢ []
map_some [] some e = some refl
map_some (part ∷ parts) some e = cc

pub lines_some : (text : List ℕ) → lines_of text ≢ []
lines_some text = map_some (slice_split is_line_feed text) (split_some is_line_feed text)

-- the first line stands before the first line feed
pub next_line : (text : List ℕ) (i : ℕ) → position is_line_feed text ≡ Some i
    → first_line (lines_of text) ≡ Some
    (slice_split is_space_byte (take i text), lines_of (drop (i + 1) text))
next_line text i e =
    ap (λ parts. first_line (map (slice_split is_space_byte) parts))
    (split_first is_line_feed text i e)
    ∙ first_of_more (slice_split is_space_byte (take i text)) (lines_of (drop (i + 1) text))
    (lines_some (drop (i + 1) text))

length_some : {A : Type 0} (x : A) (xs : List A) → (length (x ∷ xs) == 0) ≡ false
length_some x xs = ne_eqb (suc (length xs)) 0 (λ e. omega arith)

more_words : (words : List (List ℕ)) (lines : List (List (List ℕ))) → words ≢ []
    → is_nothing (([] ∷ words) ∷ lines) ≡ false
more_words [] lines some = absurd (some refl)
more_words (word ∷ words) lines some = refl

more_lines : (words : List (List ℕ)) (lines : List (List (List ℕ))) → lines ≢ []
    → is_nothing (words ∷ lines) ≡ false
more_lines words [] some = absurd (some refl)
more_lines [] (line ∷ lines) some = refl
more_lines (word ∷ []) (line ∷ lines) some = refl
more_lines (word ∷ next ∷ words) (line ∷ lines) some = refl

-- a first word that is not empty is no nothing
filled_word : (x : ℕ) (words : List (List ℕ)) (lines : List (List (List ℕ)))
    → is_nothing (onto_first x words ∷ lines) ≡ false
filled_word x [] [] = length_some x []
filled_word x [] (line ∷ lines) = refl
filled_word x (word ∷ []) [] = length_some x word
filled_word x (word ∷ []) (line ∷ lines) = refl
filled_word x (word ∷ next ∷ words) lines = refl

nothing_of : (b : Bool) (x : ℕ) (words : List (List ℕ)) (lines : List (List (List ℕ))) → words ≢ []
    → is_nothing (cond b ([] ∷ words) (onto_first x words) ∷ lines) ≡ false
nothing_of true x words lines some = more_words words lines some
nothing_of false x words lines some = filled_word x words lines

onto_part : (x : ℕ) (parts : List (List ℕ)) → parts ≢ []
    → is_nothing (map (slice_split is_space_byte) (onto_first x parts)) ≡ false
onto_part x [] some = absurd (some refl)
onto_part x (part ∷ parts) some =
    nothing_of (is_space_byte x) x (slice_split is_space_byte part)
    (map (slice_split is_space_byte) parts) (split_some is_space_byte part)

parts_of : (b : Bool) (x : ℕ) (parts : List (List ℕ)) → parts ≢ []
    → is_nothing
    (map (slice_split is_space_byte) (cond b ([] ∷ parts) (onto_first x parts))) ≡ false
parts_of true x parts some = more_lines ([] ∷ []) (map (slice_split is_space_byte) parts)
    (map_some parts some)
parts_of false x parts some = onto_part x parts some

-- nothing is left exactly where no byte is
pub nothing_left : (text : List ℕ) → (length text == 0) ≡ is_nothing (lines_of text)
nothing_left [] = refl
nothing_left (x ∷ text) = length_some x text
    ∙ sym (parts_of (is_line_feed x) x (slice_split is_line_feed text) (split_some is_line_feed text))
