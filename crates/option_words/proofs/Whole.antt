-- If the words are parts that say each thing once, and a positional word if one is required, a
-- parse finds no
-- fault in them, and its rows are what they say.
use Rattle.std.proofs.lemmas.Bool.{not-true, or_parts}
use Rattle.std.proofs.Common.{◌≡◌, ◌∙◌, ◌==◌, ℕ, true, false, refl, sym, ap, ap₂, subst, List, []}
use Rattle.std.proofs.Common.{◌∷◌, ◌++◌, Option, Some, None, append-nil, append_assoc, true≢false}
use Rattle.std.specs.List.{flat_map, list_all}
use Rattle.std.specs.Str.{bytes_eq}
use Rattle.clap.specs.Lexer.{long_of}
use Rattle.clap.specs.Walk.{Held, Text as TextBytes, Waiting, idle, next_position, option, settled}
use Rattle.option_words.specs.Command.{is_name, rules_with, shape_with, word_built}
use Rattle.option_words.specs.Grammar.{Form, OptionTable, Part, Saying, after_hyphens, apart}
use Rattle.option_words.specs.Grammar.{joined, part_words, plain, word_name}
use Rattle.option_words.proofs.Rules.{KeepsWord, conflict, found_all, found_word, found_passes}
use Rattle.option_words.proofs.Rules.{has_option, option_in, same_bytes, says}
use Rattle.option_words.proofs.Steps.{at, dashes, fault_dashes, fault_joined, fault_named}
use Rattle.option_words.proofs.Steps.{fault_past, fault_plain, fault_value, past, walked_dashes}
use Rattle.option_words.proofs.Steps.{walked_joined, walked_named, walked_past, walked_plain}
use Rattle.option_words.proofs.Steps.{walked_value}
use Rattle.option_words.proofs.Turns.{Pending, asking, clashes, held_with, or_nothing, react_passes}
use Rattle.option_words.proofs.Turns.{reacted_is, settle_is, settled_is}
use Rattle.option_words.proofs.Lexing.{name_and_value_at, name_and_value_none, plain_facts}
use Rattle.option_words.proofs.Ends.{IsWanted}
use Rattle.option_words.proofs.Rest.{Done, base, done_end, done_more, positional_is}
use Rattle.option_words.proofs.Sayings.{Once, fresh_at, says_both}
use Rattle.option_words.proofs.Sound.{Complete, IsPartOf, Parts, plain_sayings, uses, wanted}

-- ---- names

abbrev pub WellNamed : OptionTable → Type 0
WellNamed t = list_all (λ o. is_name o.0) t ≡ true

named : (t : OptionTable) → WellNamed t → (name : TextBytes) (o : TextBytes × List TextBytes)
    → option_in t name ≡ Some o → is_name name ≡ true
named t well name o e =
    subst (λ (n : TextBytes). is_name n ≡ true)
    (same_bytes o.0 name (found_passes (λ p. bytes_eq p.0 name) t o e))
    (found_all (λ p. bytes_eq p.0 name) (λ p. is_name p.0) t o e well)

long_joined : (name v : TextBytes) → is_name name ≡ true
    → (bytes_eq (dashes ++ (name ++ (61 ∷ v))) dashes ≡ false)
    × (long_of (dashes ++ (name ++ (61 ∷ v))) ≡ Some (name, Some v))
long_joined [] v h = absurd (true≢false (sym h))
long_joined (b ∷ bs) v h = (refl, ap (λ p. Some p) (name_and_value_at (b ∷ bs) v (not-true _ h)))

long_named : (name : TextBytes) → is_name name ≡ true → (bytes_eq (dashes ++ name) dashes ≡ false)
    × (long_of (dashes ++ name) ≡ Some (name, None))
long_named [] h = absurd (true≢false (sym h))
long_named (b ∷ bs) h = (refl, ap (λ p. Some p) (name_and_value_none (b ∷ bs) (not-true _ h)))

-- ---- what was not said before

clear_from : (S : List Saying) (q : Option Saying) (rest : List Saying) → Once (base S q ++ rest)
    → clashes q S ≡ false
clear_from S None rest once = refl
clear_from S (Some u) rest once = fresh_at S u rest (subst Once (append_assoc S (u ∷ []) rest) once)

-- the positional word is expected while none was said
abbrev Expects : List Saying → ℕ → Type 0
Expects us p = says word_name us ≡ false → 1 ≡ p

expects_after : (us : List Saying) (name v : TextBytes) (p : ℕ) → Expects us p
    → Expects (us ++ (name, v) ∷ []) p
expects_after us name v p expects h =
    expects (or_parts (says word_name us) _ (sym (says_both word_name us ((name, v) ∷ [])) ∙ h)).0

expected_no_more : (us : List Saying) (word : TextBytes) (p : ℕ)
    → Expects (us ++ (word_name, word) ∷ []) p
expected_no_more us word p h =
    absurd (true≢false (or_parts (says word_name us) true (sym (says_both word_name us ((word_name, word) ∷ [])) ∙ h)).1)

-- one more thing at the front of the rest
regrouped : (before : List Saying) (u : Saying) (rest U : List Saying) → U ≡ before ++ (u ∷ rest)
    → U ≡ (before ++ u ∷ []) ++ rest
regrouped before u rest U e = e ∙ sym (append_assoc before (u ∷ []) rest)

-- ---- after `--`

whole_past : (t : Form) → KeepsWord t.options
    → (ws : List TextBytes) (S : List Saying) (q : Option Saying) (w : Waiting) (p : ℕ)
    (U : List Saying) → Pending t q → U ≡ base S q ++ plain_sayings ws → Complete t U
    → Expects (base S q) p
    → Done t (past (held_with S q) w p) ws U
whole_past t keeps [] S q w p U pending is all expects =
    let same : U ≡ base S q = is ∙ append-nil (base S q) in
    subst (λ (us : List Saying). Done t (past (held_with S q) w p) [] us) (sym same)
    (done_end t keeps (past (held_with S q) w p) S q refl pending (clear_from S q [] (subst Once is all.0))
    (subst (λ (us : List Saying). IsWanted t.required (says word_name us)) same all.1))
whole_past t keeps (x ∷ xs) S q w p U pending is all expects =
    let once : Once (base S q ++ ((word_name, x) ∷ plain_sayings xs)) = subst Once is all.0 in
    let clear = clear_from S q ((word_name, x) ∷ plain_sayings xs) once in
    let first = expects (fresh_at (base S q) (word_name, x) (plain_sayings xs) once) in
    let known = wanted t p (subst (λ (n : ℕ). (1 == n) ≡ true) first refl) in
    done_more t (past (held_with S q) w p)
    (past (held_with (base S q) (Some (word_name, x))) idle (next_position (word_built t.required) p)) x xs U
    (fault_past (shape_with t) (held_with S q) w p x (word_built t.required) known refl ∙ settle_is t S q pending ∙ ap conflict clear)
    (walked_past (rules_with t) (held_with S q) w p x (word_built t.required) known refl
    ∙ ap (λ (h : Held). past h idle (next_position (word_built t.required) p)) (positional_is t S q x pending clear))
    (whole_past t keeps xs (base S q) (Some (word_name, x)) idle (next_position (word_built t.required) p) U (found_word t) (regrouped (base S q) (
      word_name,
      x,
    ) (plain_sayings xs) U is) all (expected_no_more (base S q) x (next_position (word_built t.required) p)))

-- ---- before `--`

abbrev Whole : Form → List Part → Option (List TextBytes) → Type 0
Whole t parts rest = (S : List Saying) (q : Option Saying) (p : ℕ) (U : List Saying) → Pending t q
    → U ≡ base S q ++ uses parts rest → Complete t U → Expects (base S q) p
    → Done t (at (held_with S q) idle p) (flat_map part_words parts ++ after_hyphens rest) U

whole_end : (t : Form) → KeepsWord t.options → (rest : Option (List TextBytes)) → Whole t [] rest
whole_end t keeps None S q p U pending is all expects =
    let same : U ≡ base S q = is ∙ append-nil (base S q) in
    subst (λ (us : List Saying). Done t (at (held_with S q) idle p) [] us) (sym same)
    (done_end t keeps (at (held_with S q) idle p) S q refl pending (clear_from S q [] (subst Once is all.0))
    (subst (λ (us : List Saying). IsWanted t.required (says word_name us)) same all.1))
whole_end t keeps (Some ws) S q p U pending is all expects =
    done_more t (at (held_with S q) idle p) (past (held_with S q) idle p) dashes ws U
    (fault_dashes (shape_with t) (held_with S q) idle p dashes refl refl)
    (walked_dashes (rules_with t) (held_with S q) idle p dashes refl refl)
    (whole_past t keeps ws S q idle p U pending is all expects)

-- the walk from here on, after the words of one part
abbrev After : Form → Part → List Part → Option (List TextBytes) → Type 0
After t part parts rest = IsPartOf t.options part → Whole t parts rest → Whole t (part ∷ parts) rest

whole_joined : (t : Form) → KeepsWord t.options → WellNamed t.options
    → (name v : TextBytes) (parts : List Part) (rest : Option (List TextBytes))
    → After t (joined name v) parts rest
whole_joined t keeps well name v parts rest part more S q p U pending is all expects =
    let has = has_option t keeps name part.0 part.1 in
    let long = long_joined name v (named t.options well name part.0 part.1) in
    let once : Once (base S q ++ ((name, v) ∷ uses parts rest)) = subst Once is all.0 in
    let clear = clear_from S q ((name, v) ∷ uses parts rest) once in
    let fresh = fresh_at (base S q) (name, v) (uses parts rest) once in
    let now = base S q ++ (name, v) ∷ [] in
    let words = flat_map part_words parts ++ after_hyphens rest in
    done_more t (at (held_with S q) idle p) (at (held_with now None) idle p)
    (dashes ++ (name ++ (61 ∷ v))) words U
    (fault_joined (shape_with t) (held_with S q) idle p (dashes ++ (name ++ (61 ∷ v))) name v has.found.rule refl long.0 long.1 has.by_long has.takes
    ∙ or_nothing _ ∙ react_passes t S q name v pending has.found clear fresh)
    (walked_joined (rules_with t) (held_with S q) p (dashes ++ (name ++ (61 ∷ v))) name v has.found.rule long.0 long.1 has.by_long has.takes
    ∙ ap (λ (h : Held). at h idle p) (reacted_is t S q name v pending has.found clear fresh))
    (more now None p U tt (regrouped (base S q) (name, v) (uses parts rest) U is
    ∙ ap (λ (us : List Saying). us ++ uses parts rest) (sym (append-nil now))) all
    (subst (λ (us : List Saying). Expects us p) (sym (append-nil now)) (expects_after (base S q) name v p expects)))

whole_apart : (t : Form) → KeepsWord t.options → WellNamed t.options
    → (name v : TextBytes) (parts : List Part) (rest : Option (List TextBytes))
    → After t (apart name v) parts rest
whole_apart t keeps well name v parts rest part more S q p U pending is all expects =
    let has = has_option t keeps name part.0.0 part.0.1 in
    let long = long_named name (named t.options well name part.0.0 part.0.1) in
    let facts = plain_facts v part.1 in
    let f = has.found in
    let once : Once (base S q ++ ((name, v) ∷ uses parts rest)) = subst Once is all.0 in
    let clear = clear_from S q ((name, v) ∷ uses parts rest) once in
    let held_is : record
    (settled (rules_with t) (held_with S q)) { pending = Some (f.rule.id, []) } ≡ asking
    (base S q) name =
    ap (λ (h : Held). record h { pending = Some (f.rule.id, []) }) (settled_is t S q pending clear)
    ∙ ap (λ (id : TextBytes). record (held_with (base S q) None) { pending = Some (id, []) }) f.set.id_is in
    let words = flat_map part_words parts ++ after_hyphens rest in
    done_more t (at (held_with S q) idle p) (at (asking (base S q) name) (option name) p)
    (dashes ++ name) (v ∷ words) U
    (fault_named (shape_with t) (held_with S q) idle p (dashes ++ name) name f.rule refl long.0 long.1 has.by_long has.takes ∙ or_nothing _
    ∙ settle_is t S q pending ∙ ap conflict clear)
    (walked_named (rules_with t) (held_with S q) p (dashes ++ name) name f.rule long.0 long.1 has.by_long has.takes
    ∙ ap₂ (λ (h : Held) (id : TextBytes). at h (option id) p) held_is f.set.id_is)
    (done_more t (at (asking (base S q) name) (option name) p) (at (held_with (base S q) (Some (name, v))) idle p) v words U
    (fault_value (shape_with t) (asking (base S q) name) p v name facts.0 facts.1 facts.2)
    (walked_value (rules_with t) (asking (base S q) name) p v name f.rule facts.0 facts.1 facts.2 f.is_rule has.most (rw has.is_id refl))
    (more (base S q) (Some (name, v)) p U f (regrouped (base S q) (name, v) (uses parts rest) U is) all (expects_after (base S q) name v p expects)))

whole_plain : (t : Form) → (word : TextBytes) (parts : List Part) (rest : Option (List TextBytes))
    → After t (plain word) parts rest
whole_plain t word parts rest part more S q p U pending is all expects =
    let facts = plain_facts word part in
    let once : Once (base S q ++ ((word_name, word) ∷ uses parts rest)) = subst Once is all.0 in
    let clear = clear_from S q ((word_name, word) ∷ uses parts rest) once in
    let first = expects (fresh_at (base S q) (word_name, word) (uses parts rest) once) in
    let known = wanted t p (subst (λ (n : ℕ). (1 == n) ≡ true) first refl) in
    let words = flat_map part_words parts ++ after_hyphens rest in
    done_more t (at (held_with S q) idle p)
    (at (held_with (base S q) (Some (word_name, word))) idle (next_position (word_built t.required) p)) word words U
    (fault_plain (shape_with t) (held_with S q) p word (word_built t.required) facts.0 facts.1 facts.2 known refl ∙ settle_is t S q pending
    ∙ ap conflict clear)
    (walked_plain (rules_with t) (held_with S q) p word (word_built t.required) facts.0 facts.1 facts.2 known refl refl
    ∙ ap (λ (h : Held). at h idle (next_position (word_built t.required) p)) (positional_is t S q word pending clear))
    (more (base S q) (Some (word_name, word)) (next_position (word_built t.required) p) U (found_word t) (regrouped (base S q) (
      word_name,
      word,
    ) (uses parts rest) U is) all (expected_no_more (base S q) word (next_position (word_built t.required) p)))

pub whole : (t : Form) → KeepsWord t.options → WellNamed t.options
    → (parts : List Part) (rest : Option (List TextBytes)) → Parts t.options parts
    → Whole t parts rest
whole t keeps well [] rest all = whole_end t keeps rest
whole t keeps well (joined name v ∷ parts) rest all
    = whole_joined t keeps well name v parts rest all.0 (whole t keeps well parts rest all.1)
whole t keeps well (apart name v ∷ parts) rest all
    = whole_apart t keeps well name v parts rest all.0 (whole t keeps well parts rest all.1)
whole t keeps well (plain word ∷ parts) rest all
    = whole_plain t word parts rest all.0 (whole t keeps well parts rest all.1)
