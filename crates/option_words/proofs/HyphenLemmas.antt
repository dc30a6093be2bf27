-- A hyphen alone is no part of a line, but for a positional word after `--`.
use Rattle.std.proofs.lemmas.Bool.{or_parts}
use Rattle.std.proofs.Common.{◌≡◌, ◌≢◌, ◌∙◌, true, false, refl, sym, ap, subst, List, [], ◌∷◌, ◌++◌}
use Rattle.std.proofs.Common.{map, Option, Some, None, append_assoc, true≢false, All, AllPairs}
use Rattle.std.proofs.Common.{Contains, codes, arith, suc}
use Rattle.std.specs.Prelude.{unwrap_or}
use Rattle.std.specs.List.{flat_map}
use Rattle.std.specs.Str.{bytes_eq}
use Rattle.std.proofs.lemmas.List.Elements.{All-append, All-cons, All-nil}
use Rattle.option_words.specs.Grammar.{Form, IsPart, OptionTable, Part, Saying, after_hyphens}
use Rattle.option_words.specs.Grammar.{apart, begins_with_hyphen, joined, part_words, plain, saying}
use Rattle.option_words.specs.Grammar.{value_of, word_name}
use Rattle.option_words.specs.Lines.{IsLine}
use Rattle.option_words.specs.Values.{TextBytes, lone_hyphen}
use Rattle.option_words.proofs.Rules.{says}
use Rattle.option_words.proofs.Sayings.{Once, fresh_at, once_from_pairs, says_both}
use Rattle.option_words.proofs.Sound.{plain_sayings}

abbrev IsMore : TextBytes → Type 0
IsMore word = word ≢ lone_hyphen

no_hyphen : (word : TextBytes) → begins_with_hyphen word ≡ false → IsMore word
no_hyphen word bare same = true≢false (sym (ap begins_with_hyphen same) ∙ bare)

option_more : (rest : TextBytes) → IsMore (45 ∷ 45 ∷ rest)
option_more rest same = cc

part_more : (t : OptionTable) (p : Part) → IsPart t p → All IsMore (part_words p)
part_more t (joined name value) h
    = All-cons IsMore _ [] (option_more (name ++ (codes "=" ++ value))) (All-nil IsMore)
part_more t (apart name value) h = All-cons IsMore _ (value ∷ []) (option_more name)
    (All-cons IsMore value [] (no_hyphen value h.1) (All-nil IsMore))
part_more t (plain word) h = All-cons IsMore word [] (no_hyphen word h) (All-nil IsMore)

parts_more : (t : OptionTable) (ps : List Part) → All (IsPart t) ps
    → All IsMore (flat_map part_words ps)
parts_more t [] h = All-nil IsMore
parts_more t (p ∷ ps) h =
    All-append IsMore (part_words p) (flat_map part_words ps) (part_more t p (h 0 p (omega arith)))
    (parts_more t ps (λ k d lt. h (suc k) d (omega arith)))

-- the first that says a name says its value
first_said : (name value : TextBytes) (front rest : List Saying) → bytes_eq name name ≡ true
    → says name front ≡ false → value_of (front ++ ((name, value) ∷ rest)) name ≡ Some value
first_said name value [] rest same h = rw same refl
first_said name value (u ∷ front) rest same h =
    let apart = or_parts (bytes_eq u.0 name) (says name front) h in
    rw apart.0 (first_said name value front rest same apart.1)

-- the positional word is said once
one_word : (front : List Saying) (word : TextBytes) (ws : List TextBytes)
    → Once (front ++ plain_sayings (word ∷ ws)) → ws ≡ []
one_word front word [] once = refl
one_word front word (w ∷ ws) once =
    let fresh = fresh_at (front ++ (word_name, word) ∷ []) (word_name, w) (plain_sayings ws)
    (subst Once (sym (append_assoc front ((word_name, word) ∷ []) (plain_sayings (w ∷ ws)))) once) in
    absurd (true≢false (or_parts (says word_name front) true (sym (says_both word_name front ((word_name, word) ∷ [])) ∙ fresh)).1)

abbrev SaysMore : List Saying → Type 0
SaysMore said = value_of said word_name ≢ Some lone_hyphen

rest_more : (front : List Saying) (ws : List TextBytes) → Once (front ++ plain_sayings ws)
    → SaysMore (front ++ plain_sayings ws) → All IsMore ws
rest_more front [] once more = All-nil IsMore
rest_more front (w ∷ ws) once more =
    let first = first_said word_name w front (plain_sayings ws) refl
    (fresh_at front (word_name, w) (plain_sayings ws) once) in
    let other : IsMore w = λ same. more (first ∙ ap Some same) in
    subst (λ (vs : List TextBytes). All IsMore (w ∷ vs)) (sym (one_word front w ws once))
    (All-cons IsMore w [] other (All-nil IsMore))

after_more : (front : List Saying) (rest : Option (List TextBytes))
    → Once (front ++ plain_sayings (unwrap_or rest []))
    → SaysMore (front ++ plain_sayings (unwrap_or rest [])) → All IsMore (after_hyphens rest)
after_more front None once more = All-nil IsMore
after_more front (Some ws) once more
    = All-cons IsMore _ ws (option_more []) (rest_more front ws once more)

pub line_more : (form : Form) (words : List TextBytes) (said : List Saying) → IsLine form words said
    → value_of said word_name ≢ Some lone_hyphen → Contains words lone_hyphen → ⊥
line_more form words said line more found =
    let says = line.says in
    let front = map saying says.parts in
    let tail = plain_sayings (unwrap_or says.rest []) in
    let once : Once (front ++ tail)
    = once_from_pairs (front ++ tail)
    (subst (λ (us : List Saying). AllPairs (λ a b. a.0 ≢ b.0) us) says.said_is line.once) in
    let other : SaysMore (front ++ tail) = subst SaysMore says.said_is more in
    let all = All-append IsMore (flat_map part_words says.parts) (after_hyphens says.rest)
    (parts_more form.options says.parts says.are_parts)
    (after_more front says.rest once other) in
    let here : All IsMore words = subst (λ (ws : List TextBytes). All IsMore ws)
    (sym says.spelled) all in
    here found.0 lone_hyphen found.1 found.2
