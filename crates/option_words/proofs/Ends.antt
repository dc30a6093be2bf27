-- The end of a walk: defaults come in, and the positional word has to be there if one is required.
use Rattle.std.proofs.Common.{◌≡◌, ◌∙◌, ◌&&◌, ◌||◌, Bool, cond, not, true, false, refl, sym, ap}
use Rattle.std.proofs.Common.{List, [], ◌∷◌, ◌++◌, map, Option, Some, None, option_map, true≢false}
use Rattle.std.proofs.lemmas.Bool.{not-true}
use Rattle.std.specs.Prelude.{slice_get, option_and_then}
use Rattle.std.specs.List.{find, fold, list_any}
use Rattle.std.specs.Option.{option_map_or}
use Rattle.std.specs.Str.{bytes_eq}
use Rattle.clap.specs.Kinds.{Kinds, values_kinds}
use Rattle.clap.specs.Faults.{check_fault, defaults_fault}
use Rattle.clap.specs.Facts.{explicit_source}
use Rattle.clap.specs.Takes.{is_given}
use Rattle.clap.specs.Walk.{Row, Text as TextBytes, default_rows, first_of, has_row, more_values}
use Rattle.clap.specs.Walk.{with_default}
use Rattle.clap.specs.declared.builder.value_parser.Reading.TheVariants as reading
use Rattle.clap.specs.declared.builder.value_parser.ValueParser.TheVariants as vp
use Rattle.clap.specs.declared.error.kind.ErrorKind.TheVariants as kind
use Rattle.clap.specs.declared.parser.matches.ValueSource.TheVariants.{DefaultValue}
use Rattle.clap.proofs.WalkLemmas.{both}
use Rattle.option_words.specs.Command.{option_built, rules_with, shape_with, word_built}
use Rattle.option_words.specs.Grammar.{Form, OptionTable, Saying, default_sayings, defaults_of}
use Rattle.option_words.specs.Grammar.{value_of, word_name}
use Rattle.option_words.proofs.Rules.{KeepsWord, at_row-absent, differs_back, row_for, rows_for}
use Rattle.option_words.proofs.Rules.{same_bytes, says}
use Rattle.option_words.proofs.Turns.{both_none}

-- ---- no default is at fault

texts_pass : (values : List TextBytes) → values_kinds false vp.String values ≡ []
texts_pass [] = refl
texts_pass (v ∷ vs) = texts_pass vs

either : (b : Bool) (xs : Kinds) → xs ≡ [] → cond b [] xs ≡ []
either true xs e = refl
either false xs e = e

options_clear : (t : OptionTable) (rows : List Row) → defaults_fault rows (map option_built t) ≡ []
unfolding defaults_fault
options_clear [] rows = refl
options_clear (o ∷ t) rows =
    both_none _ _ (either _ _ (texts_pass o.1))
    (options_clear t (with_default rows (option_built o)))

word_clear : (b : Bool) (xs : Kinds) → cond (b || true) [] xs ≡ []
word_clear true xs = refl
word_clear false xs = refl

pub defaults_clear : (t : Form) (rows : List Row) → defaults_fault rows (rules_with t) ≡ []
unfolding defaults_fault
defaults_clear t rows =
    both_none _ _ (word_clear (has_row word_name rows) _)
    (options_clear t.options (with_default rows (word_built t.required)))

-- ---- rows with defaults

abbrev pub row_at : TextBytes → List Row → Option Row
row_at id rows = find (λ r. bytes_eq r.id id) rows

abbrev pub or_option : {X : Type 0} → Option X → Option X → Option X
or_option None y = y
or_option (Some x) y = Some x

or_option_assoc : {X : Type 0} (a b c : Option X)
    → or_option (or_option a b) c ≡ or_option a (or_option b c)
or_option_assoc None b c = refl
or_option_assoc (Some x) b c = refl

pub or_option_none : {X : Type 0} (a : Option X) → or_option a None ≡ a
or_option_none None = refl
or_option_none (Some x) = refl

default_row : TextBytes → List TextBytes → Option Row
default_row id [] = None
default_row id (v ∷ vs) =
    Some (record { id = id; values = v ∷ vs; count = None; source = Some DefaultValue; reading = reading.AsWritten })

abbrev default_of : TextBytes × List TextBytes → TextBytes → Option Row
default_of o id = cond (bytes_eq o.0 id) (default_row o.0 o.1) None

abbrev default_in : OptionTable → TextBytes → Option Row
default_in [] id = None
default_in (o ∷ t) id = or_option (default_of o id) (default_in t id)

there : (id : TextBytes) (rows : List Row) → has_row id rows ≡ true
    → (r : Row) × (row_at id rows ≡ Some r)
there id [] h = absurd (true≢false (sym h))
there id (r ∷ rs) h = go (bytes_eq r.id id) refl (λ rest. there id rs rest) h
  where
    go : (b : Bool) → bytes_eq r.id id ≡ b
        → (has_row id rs ≡ true → (x : Row) × (row_at id rs ≡ Some x)) → (b || has_row id rs) ≡ true
        → (x : Row) × (row_at id (r ∷ rs) ≡ Some x)
    go true e rest f = (r, rw e refl)
    go false e rest f = let x = rest f in (x.0, rw e x.1)

pushed_row : (id : TextBytes) (rows : List Row) (r : Row)
    → row_at id (rows ++ r ∷ []) ≡ or_option (row_at id rows)
    (cond (bytes_eq r.id id) (Some r) None)
pushed_row id [] r = refl
pushed_row id (x ∷ xs) r =
    let rest = pushed_row id xs r in
    elim (bytes_eq x.id id) as
    (λ b. cond b (Some x) (row_at id (xs ++ r ∷ [])) ≡ or_option (cond b (Some x) (row_at id xs)) (cond (bytes_eq r.id id) (Some r) None)) [
      | true ↦ refl
      | false ↦ rest
    ]

no_choice : {X : Type 0} (b : Bool) (x : X) → cond b x x ≡ x
no_choice true x = refl
no_choice false x = refl

new_default : (id name : TextBytes) (values : List TextBytes) (rows : List Row)
    → has_row name rows ≡ false
    → row_at id (default_rows name reading.AsWritten values rows) ≡ or_option (row_at id rows)
    (cond (bytes_eq name id) (default_row name values) None)
unfolding default_row
new_default id name [] rows h
    = sym (ap (or_option (row_at id rows)) (no_choice (bytes_eq name id) None) ∙ or_option_none (row_at id rows))
new_default id name (v ∷ vs) rows h =
    let row : Row
    = record { id = name; values = v ∷ vs; count = None; source = Some DefaultValue; reading = reading.AsWritten } in
    ap (row_at id) (at_row-absent name (more_values DefaultValue (v ∷ vs)) (row ∷ []) rows h)
    ∙ pushed_row id rows row

default_step : (id : TextBytes) (o : TextBytes × List TextBytes) (rows : List Row)
    → row_at id (with_default rows (option_built o)) ≡ or_option (row_at id rows) (default_of o id)
default_step id o rows = go (has_row o.0 rows) refl
  where
    kept : has_row o.0 rows ≡ true → (b : Bool) → bytes_eq o.0 id ≡ b
        → row_at id rows ≡ or_option (row_at id rows) (cond b (default_row o.0 o.1) None)
    kept h true e =
        let same = same_bytes o.0 id e in
        let has = there id rows (rw (← same) h) in rw has.1 refl
    kept h false e = sym (or_option_none (row_at id rows))

    go : (b : Bool) → has_row o.0 rows ≡ b
        → row_at id (cond b rows (default_rows o.0 reading.AsWritten o.1 rows)) ≡ or_option
        (row_at id rows) (default_of o id)
    go true h = kept h (bytes_eq o.0 id) refl
    go false h = new_default id o.0 o.1 rows h

defaults_rows : (id : TextBytes) (t : OptionTable) (rows : List Row)
    → row_at id (fold with_default rows (map option_built t)) ≡ or_option (row_at id rows)
    (default_in t id)
defaults_rows id [] rows = sym (or_option_none (row_at id rows))
defaults_rows id (o ∷ t) rows =
    defaults_rows id t (with_default rows (option_built o))
    ∙ ap (λ (r : Option Row). or_option r (default_in t id)) (default_step id o rows)
    ∙ or_option_assoc (row_at id rows) (default_of o id) (default_in t id)

rows_at_end : (id : TextBytes) (t : Form) (rows : List Row)
    → row_at id (fold with_default rows (rules_with t)) ≡ or_option (row_at id rows)
    (default_in t.options id)
rows_at_end id t rows =
    ap (λ (rs : List Row). row_at id (fold with_default rs (map option_built t.options)))
    (no_choice (has_row word_name rows) rows) ∙ defaults_rows id t.options rows

-- ---- the values

abbrev first_text : Row → Option TextBytes
first_text r = slice_get r.values 0

pub value_pushed : (id : TextBytes) (us vs : List Saying)
    → value_of (us ++ vs) id ≡ or_option (value_of us id) (value_of vs id)
value_pushed id [] vs = refl
value_pushed id (u ∷ us) vs =
    let rest = value_pushed id us vs in
    elim (bytes_eq u.0 id) as
    (λ b. option_map (λ (s : Saying). s.1) (cond b (Some u) (find (λ s. bytes_eq s.0 id) (us ++ vs)))
    ≡ or_option (option_map (λ (s : Saying). s.1) (cond b (Some u) (find (λ s. bytes_eq s.0 id) us))) (value_of vs id)) [
      | true ↦ refl
      | false ↦ rest
    ]

rows_value : (id : TextBytes) (us : List Saying) (d : Option Row)
    → option_and_then first_text (or_option (row_at id (rows_for us)) d) ≡ or_option
    (value_of us id) (option_and_then first_text d)
rows_value id [] d = refl
rows_value id (u ∷ us) d =
    let rest = rows_value id us d in
    elim (bytes_eq u.0 id) as
    (λ b. option_and_then first_text (or_option (cond b (Some (row_for u)) (row_at id (rows_for us))) d)
    ≡ or_option (option_map (λ (s : Saying). s.1) (cond b (Some u) (find (λ s. bytes_eq s.0 id) us))) (option_and_then first_text d)) [
      | true ↦ refl
      | false ↦ rest
    ]

default_value : (id name : TextBytes) (values : List TextBytes) (d : Option Row)
    → (e : Option TextBytes) → option_and_then first_text d ≡ e
    → option_and_then first_text
    (or_option (cond (bytes_eq name id) (default_row name values) None) d) ≡ or_option
    (value_of (default_sayings name values) id) e
unfolding default_row
default_value id name [] d e is
    = ap (λ (r : Option Row). option_and_then first_text (or_option r d))
    (no_choice (bytes_eq name id) None) ∙ is
default_value id name (v ∷ vs) d e is =
    elim (bytes_eq name id) as
    (λ b. option_and_then first_text (or_option (cond b (default_row name (v ∷ vs)) None) d)
    ≡ or_option (option_map (λ (s : Saying). s.1) (cond b (Some (name, v)) None)) e) [
      | true ↦ refl
      | false ↦ is
    ]

defaults_value : (id : TextBytes) (t : OptionTable)
    → option_and_then first_text (default_in t id) ≡ value_of (defaults_of t) id
defaults_value id [] = refl
defaults_value id (o ∷ t) =
    default_value id o.0 o.1 (default_in t id) (value_of (defaults_of t) id) (defaults_value id t)
    ∙ sym (value_pushed id (default_sayings o.0 o.1) (defaults_of t))

-- the first value of an id at the end is what was said, and else the default
pub end_value : (id : TextBytes) (t : Form) (us : List Saying)
    → first_of id (fold with_default (rows_for us) (rules_with t)) ≡ value_of
    (us ++ defaults_of t.options) id
end_value id t us =
    ap (option_and_then first_text) (rows_at_end id t (rows_for us))
    ∙ rows_value id us (default_in t.options id)
    ∙ ap (or_option (value_of us id)) (defaults_value id t.options)
    ∙ sym (value_pushed id us (defaults_of t.options))

-- ---- the positional word is there

no_word_default : (t : OptionTable) → KeepsWord t → default_in t word_name ≡ None
no_word_default [] keeps = refl
no_word_default (o ∷ t) keeps =
    let parts = both _ _ keeps in
    let other : bytes_eq o.0 word_name ≡ false = differs_back word_name o.0 (not-true _ parts.0) in
    rw other (no_word_default t parts.1)

abbrev given_row : Option Row → Bool
given_row r = option_map_or (λ (x : Row). explicit_source x.source) r false

word_row : (us : List Saying) → given_row (row_at word_name (rows_for us)) ≡ says word_name us
word_row [] = refl
word_row (u ∷ us) =
    let rest = word_row us in
    elim (bytes_eq u.0 word_name) as
    (λ b. given_row (cond b (Some (row_for u)) (row_at word_name (rows_for us))) ≡ (b || says word_name us)) [
      | true ↦ refl
      | false ↦ rest
    ]

word_given : (t : Form) → KeepsWord t.options → (us : List Saying)
    → is_given word_name (fold with_default (rows_for us) (rules_with t)) ≡ says word_name us
word_given t keeps us =
    ap given_row
    (rows_at_end word_name t (rows_for us) ∙ ap (or_option (row_at word_name (rows_for us))) (no_word_default t.options keeps)
    ∙ or_option_none (row_at word_name (rows_for us)))
    ∙ word_row us

none_required : (t : OptionTable) (rows : List Row)
    → list_any (λ a. a.required && not (is_given a.id rows)) (map option_built t) ≡ false
none_required [] rows = refl
none_required (o ∷ t) rows = none_required t rows

-- the last check, by whether a word is required and whether one was said
abbrev pub missing : Bool → Bool → Kinds
missing required said = cond said [] (cond required (kind.MissingRequiredArgument ∷ []) [])

abbrev pub IsWanted : Bool → Bool → Type 0
IsWanted required said = required ≡ true → said ≡ true

missing_is : (r b : Bool)
    → cond ((r && not b) || false) (kind.MissingRequiredArgument ∷ []) [] ≡ missing r b
missing_is true true = refl
missing_is true false = refl
missing_is false true = refl
missing_is false false = refl

pub check_is : (t : Form) → KeepsWord t.options → (us : List Saying)
    → check_fault (shape_with t)
    (fold with_default (rows_for us) (rules_with t)) false ≡ missing t.required (says word_name us)
check_is t keeps us =
    rw (none_required t.options (fold with_default (rows_for us) (rules_with t)), word_given t keeps us) (missing_is t.required (says word_name us))

pub not_missing : (r b : Bool) → missing r b ≡ [] → IsWanted r b
not_missing r true e = λ _. refl
not_missing true false e = cc
not_missing false false e = λ wanted. wanted

pub none_missing : (r b : Bool) → IsWanted r b → missing r b ≡ []
none_missing r true h = refl
none_missing true false h = absurd (true≢false (sym (h refl)))
none_missing false false h = refl
