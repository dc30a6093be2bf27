-- Lines of words, as text, and how they are cut again.
use Rattle.std.proofs.Common.{◌≡◌, ℕ, false, List, [], ◌∷◌, ◌++◌, map, refl, ap, sym, ◌∙◌}
use Rattle.std.specs.List.{All, flat_map, join_with_byte, slice_split}
use Rattle.std.proofs.lemmas.List.{append_assoc}
use Rattle.std.proofs.lemmas.List.Elements.{All-append, All-cons}
use Rattle.std.proofs.lemmas.List.Splits.{join_with_byte-slice_split, slice_split_at}
use Rattle.std.proofs.lemmas.List.Splits.{slice_split_none}
use Rattle.win_cert.specs.Lines.{lines_of}
use Rattle.win_cert.specs.Texts.{ended, line_feed, space}
use Rattle.win_cert.specs.Words.{is_line_feed, is_space_byte}

-- a word has neither spaces nor line feeds
abbrev pub Plain : List ℕ → Type 0
Plain word = All (λ x. is_space_byte x ≡ false) word × All (λ x. is_line_feed x ≡ false) word

abbrev pub ArePlain : List (List ℕ) → Type 0
ArePlain [] = Unit {0}
ArePlain (word ∷ words) = Plain word × ArePlain words

-- words that make a line: there is one
abbrev pub IsLine : List (List ℕ) → Type 0
IsLine [] = ⊥
IsLine (word ∷ words) = ArePlain (word ∷ words)

abbrev pub AreLines : List (List (List ℕ)) → Type 0
AreLines [] = Unit {0}
AreLines (words ∷ lines) = IsLine words × AreLines lines

-- words that are joined are cut again
cut_again : (word : List ℕ) (words : List (List ℕ)) → ArePlain (word ∷ words)
    → slice_split is_space_byte (join_with_byte space (word ∷ words)) ≡ word ∷ words
cut_again word [] p = slice_split_none is_space_byte word p.0.0
cut_again word (next ∷ words) p
    = slice_split_at is_space_byte word space (join_with_byte space (next ∷ words)) p.0.0 refl
    ∙ ap (λ ws. word ∷ ws) (cut_again next words p.1)

no_feed : (word : List ℕ) (words : List (List ℕ)) → ArePlain (word ∷ words)
    → All (λ x. is_line_feed x ≡ false) (join_with_byte space (word ∷ words))
no_feed word [] p = p.0.1
no_feed word (next ∷ words) p
    = All-append (λ x. is_line_feed x ≡ false) word
    (space ∷ join_with_byte space (next ∷ words)) p.0.1
    (All-cons (λ x. is_line_feed x ≡ false) space (join_with_byte space (next ∷ words)) refl (no_feed next words p.1))

-- a line before a text is the first of its lines
pub line_before : (words : List (List ℕ)) (text : List ℕ) → IsLine words
    → lines_of (ended words ++ text) ≡ words ∷ lines_of text
line_before [] text p = absurd p
line_before (word ∷ words) text p =
    let line = join_with_byte space (word ∷ words) in
    ap lines_of (append_assoc line (line_feed ∷ []) text)
    ∙ ap (map (slice_split is_space_byte))
    (slice_split_at is_line_feed line line_feed text (no_feed word words p) refl)
    ∙ ap (λ ws. ws ∷ lines_of text) (cut_again word words p)

-- lines before a text are the first of its lines
pub lines_before : (lines : List (List (List ℕ))) (text : List ℕ) → AreLines lines
    → lines_of (flat_map ended lines ++ text) ≡ lines ++ lines_of text
lines_before [] text p = refl
lines_before (words ∷ lines) text p =
    ap lines_of (append_assoc (ended words) (flat_map ended lines) text)
    ∙ line_before words (flat_map ended lines ++ text) p.0
    ∙ ap (λ ls. words ∷ ls) (lines_before lines text p.1)

joined_parts : (parts : List (List ℕ))
    → map (join_with_byte space) (map (slice_split is_space_byte) parts) ≡ parts
joined_parts [] = refl
joined_parts (part ∷ parts)
    = ap (λ p. p ∷ map (join_with_byte space) (map (slice_split is_space_byte) parts))
    (join_with_byte-slice_split space part)
    ∙ ap (λ ps. part ∷ ps) (joined_parts parts)

pub text_from : (text : List ℕ)
    → join_with_byte line_feed (map (join_with_byte space) (lines_of text)) ≡ text
text_from text = ap (join_with_byte line_feed) (joined_parts (slice_split is_line_feed text))
    ∙ join_with_byte-slice_split line_feed text

-- a text is told by its lines
pub same_text : (a b : List ℕ) → lines_of a ≡ lines_of b → a ≡ b
same_text a b e = sym (text_from a)
    ∙ ap (λ ls. join_with_byte line_feed (map (join_with_byte space) ls)) e ∙ text_from b

-- a text with these lines first begins with them
pub begins_with : (lines : List (List (List ℕ))) (bytes text : List ℕ) → AreLines lines
    → lines_of bytes ≡ lines ++ lines_of text
    → bytes ≡ flat_map ended lines ++ text
begins_with lines bytes text p e = same_text bytes (flat_map ended lines ++ text)
    (e ∙ sym (lines_before lines text p))
