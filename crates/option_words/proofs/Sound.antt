-- If a parse finds no fault, the words are parts that say each thing once, and a positional word if
-- one is
-- required.
use Rattle.std.proofs.Common.{◌≡◌, ◌≢◌, ◌∙◌, ◌==◌, ℕ, Bool, cond, true, false, refl, sym, ap, ap₂}
use Rattle.std.proofs.Common.{subst, List, [], ◌∷◌, ◌++◌, map, Option, Some, None, option_map}
use Rattle.std.proofs.Common.{append-nil, append_assoc}
use Rattle.std.specs.Prelude.{unwrap_or, ⊤}
use Rattle.std.specs.List.{flat_map}
use Rattle.std.specs.Str.{IsUtf8, bytes_eq}
use Rattle.clap.specs.Kinds.{Kinds, or_else}
use Rattle.clap.specs.Faults.{settle_fault, stray_fault, turn_fault}
use Rattle.clap.specs.Lexer.{long_of}
use Rattle.clap.specs.Walk.{Held, Text as TextBytes, Waiting, Walk, arg_by_index, idle}
use Rattle.clap.specs.Walk.{next_position, option, settled}
use Rattle.clap.specs.declared.error.kind.ErrorKind.TheVariants as kind
use Rattle.option_words.specs.Command.{option_built, rules_with, shape_with, word_built}
use Rattle.option_words.specs.Grammar.{Form, OptionTable, Part, Saying, after_hyphens, apart}
use Rattle.option_words.specs.Grammar.{begins_with_hyphen, joined, part_words, plain, saying}
use Rattle.option_words.specs.Grammar.{word_name}
use Rattle.option_words.proofs.Rules.{Found, HasOption, KeepsWord, found_word, has_option}
use Rattle.option_words.proofs.Rules.{option_in, rule_by_index, rule_by_long, rule_by_short, says}
use Rattle.option_words.proofs.Steps.{at, dashes, fault_joined, fault_named, fault_past}
use Rattle.option_words.proofs.Steps.{fault_past_stray, fault_plain, fault_short, fault_stray}
use Rattle.option_words.proofs.Steps.{fault_unknown, past, walked_dashes, walked_joined}
use Rattle.option_words.proofs.Steps.{walked_named, walked_past, walked_plain, walked_value}
use Rattle.option_words.proofs.Turns.{Pending, asking, asking_faults, clashes, held_with}
use Rattle.option_words.proofs.Turns.{no_conflict, or_nothing, react_needs, reacted_is, settle_is}
use Rattle.option_words.proofs.Turns.{settled_is}
use Rattle.option_words.proofs.Lexing.{Class, classify, is_dashes, is_joined, is_named, is_plain}
use Rattle.option_words.proofs.Lexing.{is_short, plain_facts}
use Rattle.option_words.proofs.Ends.{IsWanted}
use Rattle.option_words.proofs.Rest.{asking_ends, base, ends_need, no_later_fault, no_turn_fault}
use Rattle.option_words.proofs.Rest.{positional_is, rest_fault}
use Rattle.option_words.proofs.Sayings.{Once, once_more}

-- each word is text, and no hyphen alone
abbrev pub Words : List TextBytes → Type 0
Words [] = ⊤
Words (w ∷ ws) = (IsUtf8 w × (w ≢ 45 ∷ [])) × Words ws

-- the name is in the table
abbrev pub IsNamed : OptionTable → TextBytes → Type 0
IsNamed t name = (o : TextBytes × List TextBytes) × (option_in t name ≡ Some o)

abbrev pub IsPartOf : OptionTable → Part → Type 0
IsPartOf t (joined name value) = IsNamed t name
IsPartOf t (apart name value) = IsNamed t name × (begins_with_hyphen value ≡ false)
IsPartOf t (plain word) = begins_with_hyphen word ≡ false

abbrev pub Parts : OptionTable → List Part → Type 0
Parts t [] = ⊤
Parts t (p ∷ ps) = IsPartOf t p × Parts t ps

-- positional words, as what they say
abbrev pub plain_sayings : List TextBytes → List Saying
plain_sayings = map (λ word. saying (plain word))

abbrev pub uses : List Part → Option (List TextBytes) → List Saying
uses parts rest = map saying parts ++ plain_sayings (unwrap_or rest [])

abbrev pub Complete : Form → List Saying → Type 0
Complete t U = Once U × IsWanted t.required (says word_name U)

-- the words are parts, which go on from what was said before
pub record Spelling (t : Form) (before : List Saying) (words : List TextBytes) : Type 0 where
  pub parts : List Part
  pub rest : Option (List TextBytes)
  pub spelled : words ≡ flat_map part_words parts ++ after_hyphens rest
  pub are_parts : Parts t.options parts
  pub complete : Complete t (before ++ uses parts rest)

-- one more part at the front
spelling_more : (t : Form) (before : List Saying) (p : Part) (words more : List TextBytes)
    → words ≡ part_words p ++ more → IsPartOf t.options p
    → Spelling t (before ++ saying p ∷ []) more → Spelling t before words
spelling_more t before p words more is part s = record {
  parts = p ∷ s.parts;
  rest = s.rest;
  spelled = is ∙ ap (λ (ws : List TextBytes). part_words p ++ ws) s.spelled
      ∙ sym (append_assoc (part_words p) (flat_map part_words s.parts) (after_hyphens s.rest));
  are_parts = (part, s.are_parts);
  complete = subst (λ (us : List Saying). Complete t us)
      (append_assoc before (saying p ∷ []) (uses s.parts s.rest)) s.complete;
}

-- ---- after `--`

plain_use : (t : Form) (before : List Saying) (word : TextBytes) (ws : List TextBytes)
    → Complete t ((before ++ (word_name, word) ∷ []) ++ plain_sayings ws)
    → Complete t (before ++ plain_sayings (word ∷ ws))
plain_use t before word ws h
    = subst (λ (us : List Saying). Complete t us)
    (append_assoc before ((word_name, word) ∷ []) (plain_sayings ws)) h

stray : (t : Form) (i : ℕ) → (1 == i) ≡ false → arg_by_index (rules_with t) i ≡ None
stray t i e = rule_by_index t i ∙ ap (λ (b : Bool). cond b (Some (word_built t.required)) None) e

pub wanted : (t : Form) (i : ℕ) → (1 == i) ≡ true
    → arg_by_index (rules_with t) i ≡ Some (word_built t.required)
wanted t i e = rule_by_index t i ∙ ap (λ (b : Bool). cond b (Some (word_built t.required)) None) e

stray_never : (t : Form) (fault : Kinds) → fault ≡ [] → fault ≡ stray_fault (shape_with t) → ⊥
stray_never t fault none is = let e : [] ≡ kind.UnknownArgument ∷ [] = sym none ∙ is in cc

once_base : (S : List Saying) (q : Option Saying) → Once S → clashes q S ≡ false → Once (base S q)
once_base S None once clear = subst Once (sym (append-nil S)) once
once_base S (Some u) once clear = once_more S u once clear

-- what a settled turn without fault shows
settles : (t : Form) (S : List Saying) (q : Option Saying) (fault : Kinds) → Pending t q
    → fault ≡ settle_fault (rules_with t) false (held_with S q) → fault ≡ [] → clashes q S ≡ false
settles t S q fault pending is none = no_conflict _ (sym (settle_is t S q pending) ∙ sym is ∙ none)

-- the words after `--` go on so, from each state
abbrev PastGoesOn : Form → List TextBytes → Type 0
PastGoesOn t ws = (S : List Saying) (q : Option Saying) (w : Waiting) (p : ℕ) → Pending t q → Once S
    → rest_fault t (past (held_with S q) w p) ws ≡ [] → Complete t (base S q ++ plain_sayings ws)

past_step : (t : Form) (x : TextBytes) (xs : List TextBytes) (S : List Saying) (q : Option Saying)
    (w : Waiting) (p : ℕ) → Pending t q → Once S
    → rest_fault t (past (held_with S q) w p) (x ∷ xs) ≡ []
    → PastGoesOn t xs → (b : Bool) → (1 == p) ≡ b → Complete t (base S q ++ plain_sayings (x ∷ xs))
past_step t x xs S q w p pending once e more false is =
    absurd (stray_never t _ (no_turn_fault t (past (held_with S q) w p) x xs e) (fault_past_stray (shape_with t) (held_with S q) w p x (stray t p is)))
past_step t x xs S q w p pending once e more true is =
    let clear = settles t S q _ pending
    (fault_past (shape_with t) (held_with S q) w p x (word_built t.required) (wanted t p is) refl) (no_turn_fault t (past (held_with S q) w p) x xs e) in
    let next = walked_past (rules_with t) (held_with S q) w p x (word_built t.required)
    (wanted t p is) refl
    ∙ ap (λ (h : Held). past h idle (next_position (word_built t.required) p))
    (positional_is t S q x pending clear) in
    plain_use t (base S q) x xs
    (more (base S q) (Some (word_name, x)) idle (next_position (word_built t.required) p) (found_word t) (once_base S q once clear)
    (no_later_fault t (past (held_with S q) w p) (past (held_with (base S q) (Some (word_name, x))) idle (next_position (word_built t.required) p)) x xs e
    next))

sound_past : (t : Form) → KeepsWord t.options → (ws : List TextBytes) → PastGoesOn t ws
sound_past t keeps [] S q w p pending once e =
    let need = ends_need t keeps (past (held_with S q) w p) S q refl pending e in
    subst (λ (us : List Saying). Complete t us) (sym (append-nil (base S q)))
    (once_base S q once need.0, need.1)
sound_past t keeps (x ∷ xs) S q w p pending once e =
    past_step t x xs S q w p pending once e (sound_past t keeps xs) (1 == p) refl

-- an option that waits for its value never gets it after `--`
asking_past : (t : Form) (ws : List TextBytes) (S : List Saying) (id : TextBytes) (w : Waiting)
    (p : ℕ) → Found t id → rest_fault t (past (asking S id) w p) ws ≡ [] → ⊥
asking_past t [] S id w p found e = asking_ends t (past (asking S id) w p) S id found refl e
asking_past t (x ∷ xs) S id w p found e = go (1 == p) refl
  where
    none : turn_fault (shape_with t) [] (past (asking S id) w p) x ≡ []
    none = no_turn_fault t (past (asking S id) w p) x xs e

    go : (b : Bool) → (1 == p) ≡ b → ⊥
    go false is = stray_never t _ none
        (fault_past_stray (shape_with t) (asking S id) w p x (stray t p is))
    go true is =
        let fault : [] ≡ kind.InvalidValue ∷ [] = sym none
        ∙ fault_past (shape_with t) (asking S id) w p x (word_built t.required)
        (wanted t p is) refl ∙ asking_faults t S id found in cc

-- ---- before `--`

-- where the walk stands: after S and the pending q, or at an option that waits for its value
pub data Stand : Type 0 where
  ready : List Saying → Option Saying → Stand
  asks : List Saying → TextBytes → Stand

abbrev stands : Stand → ℕ → Walk
stands (ready S q) p = at (held_with S q) idle p
stands (asks S id) p = at (asking S id) (option id) p

abbrev IsStand : Form → Stand → Type 0
IsStand t (ready S q) = Pending t q × Once S
IsStand t (asks S id) = HasOption t id × Once S

-- the words are parts from here on; if an option waits, its value comes first
abbrev Spells : Form → Stand → List TextBytes → Type 0
Spells t (ready S q) words = Spelling t (base S q) words
Spells t (asks S id) words = (value : TextBytes) × (more : List TextBytes) × (words ≡ value ∷ more)
    × (begins_with_hyphen value ≡ false) × Spelling t (S ++ (id, value) ∷ []) more

abbrev GoesOn : Form → List TextBytes → Type 0
GoesOn t ws = (s : Stand) (p : ℕ) → IsStand t s → rest_fault t (stands s p) ws ≡ [] → Spells t s ws

spelling_end : (t : Form) (before : List Saying) → Complete t before → Spelling t before []
spelling_end t before all = record {
  parts = [];
  rest = None;
  spelled = refl;
  are_parts = tt;
  complete = subst (λ (us : List Saying). Complete t us) (sym (append-nil before)) all;
}

sound_end : (t : Form) → KeepsWord t.options → GoesOn t []
sound_end t keeps (ready S q) p stand e =
    let need = ends_need t keeps (at (held_with S q) idle p) S q refl stand.0 e in
    spelling_end t (base S q) (once_base S q stand.1 need.0, need.1)
sound_end t keeps (asks S id) p stand e =
    absurd (asking_ends t (at (asking S id) (option id) p) S id stand.0.found refl e)

unknown_never : (t : Form) (w : Walk) (x : TextBytes) (xs : List TextBytes)
    → rest_fault t w (x ∷ xs) ≡ []
    → turn_fault (shape_with t) [] w x ≡ kind.UnknownArgument ∷ [] → ⊥
unknown_never t w x xs e is =
    let fault : [] ≡ kind.UnknownArgument ∷ [] = sym (no_turn_fault t w x xs e) ∙ is in cc

invalid_never : (t : Form) (w : Walk) (x : TextBytes) (xs : List TextBytes)
    → rest_fault t w (x ∷ xs) ≡ [] → (more : Kinds)
    → turn_fault (shape_with t) [] w x ≡ kind.InvalidValue ∷ more → ⊥
invalid_never t w x xs e more is =
    let fault : [] ≡ kind.InvalidValue ∷ more = sym (no_turn_fault t w x xs e) ∙ is in cc

-- `--` itself
dashes_ready : (t : Form) → KeepsWord t.options
    → (x : TextBytes) (xs : List TextBytes) (S : List Saying) (q : Option Saying) (p : ℕ)
    → Pending t q → Once S → rest_fault t (at (held_with S q) idle p) (x ∷ xs) ≡ []
    → x ≡ dashes → bytes_eq x dashes ≡ true → Spelling t (base S q) (x ∷ xs)
dashes_ready t keeps x xs S q p pending once e same is = record {
  parts = [];
  rest = Some xs;
  spelled = ap (λ (w : TextBytes). w ∷ xs) same;
  are_parts = tt;
  complete = sound_past t keeps xs S q idle p pending once
      (no_later_fault t (at (held_with S q) idle p) (past (held_with S q) idle p) x xs e (walked_dashes (rules_with t) (held_with S q) idle p x refl is));
}

-- `--name=value`
joined_ready : (t : Form) → KeepsWord t.options
    → (x : TextBytes) (xs : List TextBytes) (S : List Saying) (q : Option Saying) (p : ℕ)
    → Pending t q → Once S → rest_fault t (at (held_with S q) idle p) (x ∷ xs) ≡ []
    → (name v : TextBytes) → x ≡ dashes ++ (name ++ (61 ∷ v)) → bytes_eq x dashes ≡ false
    → long_of x ≡ Some (name, Some v) → GoesOn t xs → (o : Option (TextBytes × List TextBytes))
    → option_in t.options name ≡ o → Spelling t (base S q) (x ∷ xs)
joined_ready t keeps x xs S q p pending once e name v same other long more None absent =
    absurd (unknown_never t _ x xs e (fault_unknown (shape_with t) (held_with S q) idle p x name (Some v) refl other long (rule_by_long t name
    ∙ ap (option_map option_built) absent)))
joined_ready t keeps x xs S q p pending once e name v same other long more (Some o) is =
    let has = has_option t keeps name o is in
    let f = has.found in
    let fault = fault_joined (shape_with t)
    (held_with S q) idle p x name v f.rule refl other long has.by_long has.takes in
    let need = react_needs t S q name v pending f
    (sym (or_nothing _) ∙ sym fault ∙ no_turn_fault t _ x xs e) in
    let next = walked_joined (rules_with t)
    (held_with S q) p x name v f.rule other long has.by_long has.takes
    ∙ ap (λ (h : Held). at h idle p) (reacted_is t S q name v pending f need.0 need.1) in
    let now = base S q ++ (name, v) ∷ [] in
    let rest : Spelling t (now ++ []) xs
    = more (ready now None) p
    (tt, once_more (base S q) (name, v) (once_base S q once need.0) need.1)
    (no_later_fault t (at (held_with S q) idle p) (at (held_with now None) idle p) x xs e next) in
    spelling_more t (base S q) (joined name v) (x ∷ xs) xs (ap (λ (w : TextBytes). w ∷ xs) same)
    (o, is) (subst (λ (us : List Saying). Spelling t us xs) (append-nil now) rest)

-- `--name`, and its value after it
named_ready : (t : Form) → KeepsWord t.options
    → (x : TextBytes) (xs : List TextBytes) (S : List Saying) (q : Option Saying) (p : ℕ)
    → Pending t q → Once S → rest_fault t (at (held_with S q) idle p) (x ∷ xs) ≡ []
    → (name : TextBytes) → x ≡ dashes ++ name → bytes_eq x dashes ≡ false
    → long_of x ≡ Some (name, None) → GoesOn t xs → (o : Option (TextBytes × List TextBytes))
    → option_in t.options name ≡ o → Spelling t (base S q) (x ∷ xs)
named_ready t keeps x xs S q p pending once e name same other long more None absent =
    absurd (unknown_never t _ x xs e (fault_unknown (shape_with t) (held_with S q) idle p x name None refl other long (rule_by_long t name
    ∙ ap (option_map option_built) absent)))
named_ready t keeps x xs S q p pending once e name same other long more (Some o) is =
    let has = has_option t keeps name o is in
    let f = has.found in
    let fault = fault_named (shape_with t)
    (held_with S q) idle p x name f.rule refl other long has.by_long has.takes in
    let clear = settles t S q _ pending (fault ∙ or_nothing _) (no_turn_fault t _ x xs e) in
    let held : Held
    = record (settled (rules_with t) (held_with S q)) { pending = Some (f.rule.id, []) } in
    let held_is : held ≡ asking (base S q) name =
    ap (λ (h : Held). record h { pending = Some (f.rule.id, []) }) (settled_is t S q pending clear)
    ∙ ap (λ (id : TextBytes). record (held_with (base S q) None) { pending = Some (id, []) }) f.set.id_is in
    let next = walked_named (rules_with t)
    (held_with S q) p x name f.rule other long has.by_long has.takes
    ∙ ap₂ (λ (h : Held) (id : TextBytes). at h (option id) p) held_is f.set.id_is in
    let rest = more (asks (base S q) name) p (has, once_base S q once clear)
    (no_later_fault t (at (held_with S q) idle p) (at (asking (base S q) name) (option name) p) x xs e next) in
    spelling_more t (base S q) (apart name rest.0) (x ∷ xs) rest.1
    (ap₂ (λ (w : TextBytes) (ws : List TextBytes). w ∷ ws) same rest.2) ((o, is), rest.3) rest.4

-- a positional word
plain_ready : (t : Form) (x : TextBytes) (xs : List TextBytes) (S : List Saying) (q : Option Saying)
    (p : ℕ) → Pending t q → Once S → rest_fault t (at (held_with S q) idle p) (x ∷ xs) ≡ []
    → begins_with_hyphen x ≡ false → GoesOn t xs → (b : Bool) → (1 == p) ≡ b
    → Spelling t (base S q) (x ∷ xs)
plain_ready t x xs S q p pending once e bare more false is =
    let facts = plain_facts x bare in
    absurd (stray_never t _ (no_turn_fault t (at (held_with S q) idle p) x xs e)
    (fault_stray (shape_with t) (held_with S q) p x facts.0 facts.1 facts.2 (stray t p is)))
plain_ready t x xs S q p pending once e bare more true is =
    let facts = plain_facts x bare in
    let clear = settles t S q _ pending
    (fault_plain (shape_with t) (held_with S q) p x (word_built t.required) facts.0 facts.1 facts.2 (wanted t p is) refl)
    (no_turn_fault t (at (held_with S q) idle p) x xs e) in
    let next = walked_plain (rules_with t) (held_with S q) p x
    (word_built t.required) facts.0 facts.1 facts.2 (wanted t p is) refl refl
    ∙ ap (λ (h : Held). at h idle (next_position (word_built t.required) p))
    (positional_is t S q x pending clear) in
    let rest = more (ready (base S q) (Some (word_name, x)))
    (next_position (word_built t.required) p) (found_word t, once_base S q once clear)
    (no_later_fault t (at (held_with S q) idle p) (at (held_with (base S q) (Some (word_name, x))) idle (next_position (word_built t.required) p)) x xs e
    next) in
    spelling_more t (base S q) (plain x) (x ∷ xs) xs refl bare rest

ready_step : (t : Form) → KeepsWord t.options
    → (x : TextBytes) (xs : List TextBytes) (S : List Saying) (q : Option Saying) (p : ℕ)
    → Pending t q → Once S → rest_fault t (at (held_with S q) idle p) (x ∷ xs) ≡ []
    → GoesOn t xs → Class x → Spelling t (base S q) (x ∷ xs)
ready_step t keeps x xs S q p pending once e more (is_dashes same is)
    = dashes_ready t keeps x xs S q p pending once e same is
ready_step t keeps x xs S q p pending once e more (is_joined name v same other long) =
    joined_ready t keeps x xs S q p pending once e name v same other long more
    (option_in t.options name) refl
ready_step t keeps x xs S q p pending once e more (is_named name same other long) =
    named_ready t keeps x xs S q p pending once e name same other long more
    (option_in t.options name) refl
ready_step t keeps x xs S q p pending once e more (is_short y z ys other long short first) =
    absurd (unknown_never t _ x xs e (fault_short (shape_with t) (held_with S q) idle p x y z ys refl other long short refl first (rule_by_short t z)))
ready_step t keeps x xs S q p pending once e more (is_plain is)
    = plain_ready t x xs S q p pending once e is more (1 == p) refl

-- ---- at an option that waits

or_first : (k : Kinds) (xs ys : Kinds) → k ≡ kind.InvalidValue ∷ xs
    → or_else k ys ≡ kind.InvalidValue ∷ xs
or_first k xs ys e = rw e refl

long_asks : (t : Form) → KeepsWord t.options
    → (x : TextBytes) (xs : List TextBytes) (S : List Saying) (id : TextBytes) (p : ℕ) → Found t id
    → rest_fault t (at (asking S id) (option id) p) (x ∷ xs) ≡ []
    → (name : TextBytes) (v : Option TextBytes) → bytes_eq x dashes ≡ false
    → long_of x ≡ Some (name, v) → (o : Option (TextBytes × List TextBytes))
    → option_in t.options name ≡ o → ⊥
long_asks t keeps x xs S id p found e name v other long None absent =
    unknown_never t _ x xs e
    (fault_unknown (shape_with t) (asking S id) (option id) p x name v refl other long (rule_by_long t name ∙ ap (option_map option_built) absent))
long_asks t keeps x xs S id p found e name (Some v) other long (Some o) is =
    let has = has_option t keeps name o is in
    invalid_never t _ x xs e []
    (fault_joined (shape_with t) (asking S id) (option id) p x name v has.found.rule refl other long has.by_long has.takes
    ∙ or_nothing _ ∙ or_first _ [] _ (asking_faults t S id found))
long_asks t keeps x xs S id p found e name None other long (Some o) is =
    let has = has_option t keeps name o is in
    invalid_never t _ x xs e []
    (fault_named (shape_with t) (asking S id) (option id) p x name has.found.rule refl other long has.by_long has.takes
    ∙ or_nothing _ ∙ asking_faults t S id found)

asks_step : (t : Form) → KeepsWord t.options
    → (x : TextBytes) (xs : List TextBytes) (S : List Saying) (id : TextBytes) (p : ℕ)
    → HasOption t id → Once S → rest_fault t (at (asking S id) (option id) p) (x ∷ xs) ≡ []
    → GoesOn t xs → Class x → Spells t (asks S id) (x ∷ xs)
asks_step t keeps x xs S id p has once e more (is_dashes same is) =
    absurd (asking_past t xs S id (option id) p has.found (no_later_fault t (at (asking S id) (option id) p) (past (asking S id) (option id) p) x xs e
    (walked_dashes (rules_with t) (asking S id) (option id) p x refl is)))
asks_step t keeps x xs S id p has once e more (is_joined name v same other long) =
    absurd (long_asks t keeps x xs S id p has.found e name (Some v) other long (option_in t.options name) refl)
asks_step t keeps x xs S id p has once e more (is_named name same other long) =
    absurd (long_asks t keeps x xs S id p has.found e name None other long (option_in t.options name) refl)
asks_step t keeps x xs S id p has once e more (is_short y z ys other long short first) =
    absurd (unknown_never t _ x xs e (fault_short (shape_with t) (asking S id) (option id) p x y z ys refl other long short refl first (rule_by_short t z)))
asks_step t keeps x xs S id p has once e more (is_plain is) =
    let facts = plain_facts x is in
    let next = walked_value (rules_with t)
    (asking S id) p x id has.found.rule facts.0 facts.1 facts.2 has.found.is_rule has.most
    (rw has.is_id refl) in (
      x,
      xs,
      refl,
      is,
      more (ready S (Some (id, x))) p (
        has.found,
        once,
      ) (no_later_fault t (at (asking S id) (option id) p) (at (held_with S (Some (id, x))) idle p) x xs e next),
    )

pub sound : (t : Form) → KeepsWord t.options → (words : List TextBytes) → Words words
    → GoesOn t words
sound t keeps [] words s p stand e = sound_end t keeps s p stand e
sound t keeps (x ∷ xs) words (ready S q) p stand e =
    ready_step t keeps x xs S q p stand.0 stand.1 e (sound t keeps xs words.1)
    (classify x words.0.0 words.0.1)
sound t keeps (x ∷ xs) words (asks S id) p stand e =
    asks_step t keeps x xs S id p stand.0 stand.1 e (sound t keeps xs words.1)
    (classify x words.0.0 words.0.1)
