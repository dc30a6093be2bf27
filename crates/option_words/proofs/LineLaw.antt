-- `clap` finds no fault in words exactly if they are a line by the grammar, and its values are what
-- the line says.
use Rattle.std.proofs.Common.{◌≡◌, ◌∙◌, ◌||◌, ◌<◌, ℕ, Bool, cond, true, false, refl, sym, ap, subst}
use Rattle.std.proofs.Common.{List, [], ◌∷◌, map, length, Option, Some, None, true≢false, zero, suc}
use Rattle.std.proofs.Common.{arith, All, Contains, IsSome}
use Rattle.std.specs.Prelude.{is_some}
use Rattle.std.specs.List.{slice_index_or}
use Rattle.std.specs.Str.{bytes_eq}
use Rattle.std.proofs.lemmas.List.Elements.{All-cons, All-nil}
use Rattle.clap.specs.Faults.{built_fault, entered_fault, fault_of, level_fault}
use Rattle.clap.specs.Simple.{App, argument_words, built, entered, matches_of, names_of}
use Rattle.clap.specs.Walk.{Text as TextBytes, first_of, idle, nothing_held, rows_after, walk}
use Rattle.clap.specs.Walk.{with_default}
use Rattle.option_words.specs.Command.{ReadsForm, rules_with, shape_with}
use Rattle.option_words.specs.Grammar.{Form, IsPart, OptionTable, Part, Saying, apart, joined}
use Rattle.option_words.specs.Grammar.{plain, value_of, word_name}
use Rattle.option_words.specs.Lines.{IsLine, value_in}
use Rattle.option_words.proofs.Rules.{bytes_same, option_in, same_bytes, says}
use Rattle.option_words.proofs.Steps.{at}
use Rattle.option_words.proofs.Turns.{held_with}
use Rattle.option_words.proofs.Ends.{end_value}
use Rattle.option_words.proofs.Rest.{Done, end_rows, rest_fault}
use Rattle.option_words.proofs.Sayings.{once_from_pairs, pairs_from_once}
use Rattle.option_words.proofs.Sound.{IsNamed, IsPartOf, Parts, Spelling, Words, ready, sound, uses}
use Rattle.option_words.proofs.Whole.{whole}
use Rattle.option_words.proofs.TextLemmas.{IsOther}

-- ---- the command's own faults and rows

abbrev app_with : Form → App
app_with t = record { top = shape_with t; subs = [] }

abbrev start : Rattle.clap.specs.Walk.Walk
start = at (held_with [] None) idle 1

no_subcommand : (t : Form) (words : List TextBytes) (stop : Option (TextBytes × List TextBytes))
    → level_fault (shape_with t) [] nothing_held words (is_some (entered (app_with t) stop))
    (entered_fault (app_with t) stop) ≡ rest_fault t start words
unfolding rest_fault
no_subcommand t words None = refl
no_subcommand t words (Some p) = refl

all_words : (app : App) (form : Form) → ReadsForm app form → (words : List TextBytes)
    → argument_words app words ≡ words
all_words app form reads words = rw reads.top refl

pub fault_is : (app : App) (form : Form) → ReadsForm app form → (words : List TextBytes)
    → fault_of app words ≡ rest_fault form start words
fault_is app form reads words =
    ap (λ (ws : List TextBytes). built_fault (built app) nothing_held ws)
    (all_words app form reads words)
    ∙ ap (λ (a : App). built_fault a nothing_held words) reads.built
    ∙ no_subcommand form words (walk (rules_with form) [] nothing_held words).stopped

rows_with : (form : Form) (words : List TextBytes)
    → rows_after (rules_with form) [] words ≡ end_rows form start words
unfolding end_rows
rows_with form words = refl

pub rows_are : (app : App) (form : Form) → ReadsForm app form → (words : List TextBytes)
    → matches_of app words ≡ end_rows form start words
rows_are app form reads words =
    ap (λ (ws : List TextBytes). rows_after (built app).top.rules (names_of (built app)) ws)
    (all_words app form reads words)
    ∙ ap (λ (a : App). rows_after a.top.rules (names_of a) words) reads.built
    ∙ rows_with form words

-- ---- names

named_from : (t : OptionTable) (name : TextBytes) → Contains (map (λ o. o.0) t) name
    → IsNamed t name
named_from [] name (k, lt, is) = absurd (omega arith)
named_from (o ∷ t) name (k, lt, is) = go (bytes_eq o.0 name) refl k lt is (λ c. named_from t name c)
  where
    go : (b : Bool) → bytes_eq o.0 name ≡ b → (k : ℕ) → k < length (map (λ o. o.0) (o ∷ t))
        → slice_index_or (map (λ o. o.0) (o ∷ t)) k name ≡ name
        → (Contains (map (λ o. o.0) t) name → IsNamed t name) → IsNamed (o ∷ t) name
    go true e k lt is more = (o, rw e refl)
    go false e zero lt is more = absurd (true≢false (sym (bytes_same o.0 name is) ∙ e))
    go false e (suc k) lt is more = let rest = more (k, omega arith, is) in (rest.0, rw e rest.1)

contains_from : (t : OptionTable) (name : TextBytes) (o : TextBytes × List TextBytes)
    → option_in t name ≡ Some o → Contains (map (λ p. p.0) t) name
contains_from [] name o e = cc
contains_from (p ∷ t) name o e = go (bytes_eq p.0 name) refl e (λ f. contains_from t name o f)
  where
    go : (b : Bool) → bytes_eq p.0 name ≡ b → cond b (Some p) (option_in t name) ≡ Some o
        → (option_in t name ≡ Some o → Contains (map (λ p. p.0) t) name)
        → Contains (map (λ p. p.0) (p ∷ t)) name
    go true e f more = (0, omega arith, same_bytes p.0 name e)
    go false e f more = let c = more f in (suc c.0, omega (arith, c.1), c.2)

part_from : (t : OptionTable) (p : Part) → IsPart t p → IsPartOf t p
part_from t (joined name value) h = named_from t name h
part_from t (apart name value) h = (named_from t name h.0, h.1)
part_from t (plain word) h = h

part_to : (t : OptionTable) (p : Part) → IsPartOf t p → IsPart t p
part_to t (joined name value) h = contains_from t name h.0 h.1
part_to t (apart name value) h = (contains_from t name h.0.0 h.0.1, h.1)
part_to t (plain word) h = h

parts_from : (t : OptionTable) (ps : List Part) → All (IsPart t) ps → Parts t ps
parts_from t [] h = tt
parts_from t (p ∷ ps) h
    = (part_from t p (h 0 p (omega arith)), parts_from t ps (λ k d lt. h (suc k) d (omega arith)))

parts_to : (t : OptionTable) (ps : List Part) → Parts t ps → All (IsPart t) ps
parts_to t [] h = All-nil (IsPart t)
parts_to t (p ∷ ps) h = All-cons (IsPart t) p ps (part_to t p h.0) (parts_to t ps h.1)

words_from : (words : List TextBytes) → All IsOther words → Words words
words_from [] h = tt
words_from (w ∷ ws) h = (h 0 w (omega arith), words_from ws (λ k d lt. h (suc k) d (omega arith)))

-- ---- the positional word

said_some : (name : TextBytes) (us : List Saying) → says name us ≡ true → IsSome (value_of us name)
said_some name [] h = absurd (true≢false (sym h))
said_some name (u ∷ us) h = go (bytes_eq u.0 name) refl h (λ f. said_some name us f)
  where
    go : (b : Bool) → bytes_eq u.0 name ≡ b → (b || says name us) ≡ true
        → (says name us ≡ true → IsSome (value_of us name)) → IsSome (value_of (u ∷ us) name)
    go true e f more = rw e refl
    go false e f more = rw e (more f)

some_said : (name : TextBytes) (us : List Saying) → IsSome (value_of us name) → says name us ≡ true
some_said name [] h = h
some_said name (u ∷ us) h = go (bytes_eq u.0 name) refl h (λ f. some_said name us f)
  where
    go : (b : Bool) → bytes_eq u.0 name ≡ b → IsSome (value_of (u ∷ us) name)
        → (IsSome (value_of us name) → says name us ≡ true) → (b || says name us) ≡ true
    go true e f more = refl
    go false e f more = more (rw e at f)

-- ---- the law

pub line_from : (app : App) (form : Form) → ReadsForm app form → (words : List TextBytes)
    → All IsOther words → fault_of app words ≡ [] → (said : List Saying) × IsLine form words said
line_from app form reads words other e =
    let s : Spelling form [] words = sound form reads.apart words (words_from words other)
    (ready [] None) 1 (tt, tt) (sym (fault_is app form reads words) ∙ e) in (
      uses s.parts s.rest,
      record {
        says = record { parts = s.parts; rest = s.rest; spelled = s.spelled; are_parts = parts_to form.options s.parts s.are_parts; said_is = refl };
        once = pairs_from_once (uses s.parts s.rest) s.complete.0;
        word = λ required. said_some word_name (uses s.parts s.rest) (s.complete.1 required);
      },
    )

line_done : (app : App) (form : Form) → ReadsForm app form
    → (words : List TextBytes) (said : List Saying) → IsLine form words said
    → Done form start words said
line_done app form reads words said line =
    let at_parts = whole form reads.apart reads.named line.says.parts line.says.rest
    (parts_from form.options line.says.parts line.says.are_parts) [] None 1 said tt line.says.said_is
    (once_from_pairs said line.once, λ required. some_said word_name said (line.word required))
    (λ _. refl) in
    subst (λ (ws : List TextBytes). Done form start ws said) (sym line.says.spelled) at_parts

pub line_clear : (app : App) (form : Form) → ReadsForm app form
    → (words : List TextBytes) (said : List Saying) → IsLine form words said
    → fault_of app words ≡ []
line_clear app form reads words said line = fault_is app form reads words
    ∙ (line_done app form reads words said line).0

pub line_values : (app : App) (form : Form) → ReadsForm app form
    → (words : List TextBytes) (said : List Saying) → IsLine form words said → (name : TextBytes)
    → first_of name (matches_of app words) ≡ value_in form said name
line_values app form reads words said line name =
    ap (first_of name)
    (rows_are app form reads words ∙ (line_done app form reads words said line).1)
    ∙ end_value name form said

pub same_values : (app : App) (form : Form) → ReadsForm app form
    → (words : List TextBytes) (said : List Saying) → IsLine form words said
    → (λ name. first_of name (matches_of app words)) ≡ value_in form said
same_values app form reads words said line
    = λ i name. line_values app form reads words said line name i
