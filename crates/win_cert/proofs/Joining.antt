-- Words that are joined by spaces.
use Rattle.std.proofs.Common.{◌≡◌, ℕ, ◌+◌, Bool, List, [], ◌∷◌, ◌++◌, map, ap, sym, ◌∙◌, arith}
use Rattle.std.specs.List.{filter, flat_map, join_with_byte, range_with_len}
use Rattle.std.proofs.lemmas.Grind.{flat_map-append}
use Rattle.std.proofs.lemmas.List.{append-nil, append_assoc, map-append, map-id}
use Rattle.std.proofs.lemmas.List.Elements.{filter-append}
use Rattle.std.proofs.lemmas.List.FromFn.{map-range_with_len_more}
use Rattle.win_cert.specs.Texts.{cert_text, claim_words, ended, head_words, line_words, space}
use Rattle.win_cert.specs.Texts.{words_before_claim}
use Rattle.win_cert.specs.declared.certs.Cert.{Cert}
use Rattle.win_cert.specs.Words.{after_spaces}

-- a word and others: the word, and then each other after a space
pub joined : (word : List ℕ) (words : List (List ℕ))
    → join_with_byte space (word ∷ words) ≡ word ++ after_spaces words
joined word [] = sym (append-nil word)
joined word (other ∷ words) = ap (λ text. word ++ space ∷ text) (joined other words)

-- the same, where it stands after a text
pub joined_after : (text word : List ℕ) (words : List (List ℕ))
    → (text ++ word) ++ after_spaces words ≡ text ++ join_with_byte space (word ∷ words)
joined_after text word words = append_assoc text word (after_spaces words)
    ∙ ap (λ t. text ++ t) (sym (joined word words))

pub range_more : (k : ℕ) → range_with_len 0 (k + 1) ≡ range_with_len 0 k ++ k ∷ []
range_more k = sym (map-id (range_with_len 0 (k + 1)))
    ∙ map-range_with_len_more (λ i. i) 0 k k (omega arith)
    ∙ ap (λ xs. xs ++ k ∷ []) (map-id (range_with_len 0 k))

-- the cells below k + 1 that pass are those below k, and then k where it passes
pub cells_more : (vertex : ℕ → List ℕ) (test : ℕ → Bool) (k : ℕ)
    → after_spaces (map vertex (filter test (range_with_len 0 (k + 1))))
    ≡ after_spaces (map vertex (filter test (range_with_len 0 k))) ++ after_spaces
    (map vertex (filter test (k ∷ [])))
cells_more vertex test k =
    let below = filter test (range_with_len 0 k) in
    let own = filter test (k ∷ []) in
    ap (λ xs. after_spaces (map vertex (filter test xs))) (range_more k)
    ∙ ap (λ xs. after_spaces (map vertex xs)) (filter-append test (range_with_len 0 k) (k ∷ []))
    ∙ ap after_spaces (map-append vertex below own)
    ∙ flat_map-append (λ word. space ∷ word) (map vertex below) (map vertex own)

-- the text so far, with one more cell
pub text_more : (vertex : ℕ → List ℕ) (test : ℕ → Bool) (k : ℕ) (start text new : List ℕ)
    → text ≡ start ++ after_spaces (map vertex (filter test (range_with_len 0 k)))
    → new ≡ text ++ after_spaces (map vertex (filter test (k ∷ [])))
    → new ≡ start ++ after_spaces (map vertex (filter test (range_with_len 0 (k + 1))))
text_more vertex test k start text new e more =
    more ∙ ap (λ t. t ++ after_spaces (map vertex (filter test (k ∷ [])))) e
    ∙ append_assoc start (after_spaces (map vertex (filter test (range_with_len 0 k))))
    (after_spaces (map vertex (filter test (k ∷ []))))
    ∙ ap (λ t. start ++ t) (sym (cells_more vertex test k))

-- the parts of a certificate's text
pub text_parts : (cert : Cert)
    → (flat_map ended (head_words cert) ++ flat_map ended (map (line_words cert.board.size) cert.lines)) ++ ended (claim_words cert)
    ≡ cert_text cert
text_parts cert =
    let lines = map (line_words cert.board.size) cert.lines in
    ap (λ t. t ++ ended (claim_words cert)) (sym (flat_map-append ended (head_words cert) lines))
    ∙ ap (λ t. flat_map ended (words_before_claim cert) ++ t)
    (sym (append-nil (ended (claim_words cert))))
    ∙ sym (flat_map-append ended (words_before_claim cert) (claim_words cert ∷ []))
