-- The rules of a command that has a positional word and options, as a parse reads them, and one use
-- of a rule.
use Rattle.std.proofs.lemmas.Bool.{not-true, or_parts}
use Rattle.std.proofs.Common.{◌≡◌, ◌∙◌, ◌&&◌, ◌||◌, ℕ, Bool, cond, true, false, not, refl, sym, ap}
use Rattle.std.proofs.Common.{subst, List, [], ◌∷◌, ◌++◌, map, Option, Some, None, option_map}
use Rattle.std.proofs.Common.{append-nil, true≢false, ◌==◌}
use Rattle.std.specs.List.{find, list_any, list_all}
use Rattle.std.specs.Option.{option_map_or}
use Rattle.std.specs.Str.{bytes_eq}
use Rattle.std.proofs.lemmas.Slice.Eq.{bytes_eq-Decides}
use Rattle.std.proofs.lemmas.List.{map-append}
use Rattle.clap.specs.Kinds.{Kinds, or_else}
use Rattle.clap.specs.Faults.{use_fault}
use Rattle.clap.specs.Walk.{Row, Rule, Text as TextBytes, arg_by_id, arg_by_index, arg_by_long}
use Rattle.clap.specs.Walk.{arg_by_short, at_row, has_row, more_values, most_values, takes_values}
use Rattle.clap.specs.Walk.{used, with_values, without}
use Rattle.clap.proofs.WalkLemmas.{list_any-map, both}
use Rattle.clap.specs.declared.builder.value_parser.Reading.TheVariants as reading
use Rattle.clap.specs.declared.error.kind.ErrorKind.TheVariants as kind
use Rattle.clap.specs.declared.parser.matches.ValueSource.TheVariants.{CommandLine}
use Rattle.option_words.specs.Command.{option_built, rules_with, word_built}
use Rattle.option_words.specs.Grammar.{Form, OptionTable, Saying, word_name}

-- ---- rows

abbrev pub row_for : Saying → Row
row_for u = record { id = u.0; values = u.1 ∷ []; count = None; source = Some CommandLine; reading = reading.AsWritten }

abbrev pub rows_for : List Saying → List Row
rows_for = map row_for

abbrev pub says : TextBytes → List Saying → Bool
says name us = list_any (λ u. bytes_eq u.0 name) us

pub has_row-rows : (name : TextBytes) (us : List Saying) → has_row name (rows_for us) ≡ says name us
has_row-rows name us = sym (list_any-map (λ r. bytes_eq r.id name) row_for us)

pub at_row-absent : (id : TextBytes) (change : Row → List Row) (missing rows : List Row)
    → has_row id rows ≡ false → at_row id change missing rows ≡ rows ++ missing
at_row-absent id change missing [] h = refl
at_row-absent id change missing (r ∷ rs) h =
    let p = or_parts (bytes_eq r.id id) (has_row id rs) h in
    rw p.0 (ap (λ (ys : List Row). r ∷ ys) (at_row-absent id change missing rs p.1))

pub used_fresh : (id v : TextBytes) (S : List Saying) → says id S ≡ false
    → with_values id reading.AsWritten CommandLine (v ∷ []) (without id (rows_for S)) ≡ rows_for
    (S ++ (id, v) ∷ [])
used_fresh id v S h =
    let none = has_row-rows id S ∙ h in
    let kept : without id (rows_for S) ≡ rows_for S
    = at_row-absent id (λ _. []) [] (rows_for S) none ∙ append-nil (rows_for S) in
    ap (with_values id reading.AsWritten CommandLine (v ∷ [])) kept
    ∙ at_row-absent id (more_values CommandLine (v ∷ [])) (rows_for ((id, v) ∷ []))
    (rows_for S) none ∙ sym (map-append row_for S ((id, v) ∷ []))

-- ---- one use

abbrev pub conflict : Bool → Kinds
conflict b = cond b (kind.ArgumentConflict ∷ []) []

-- the rule takes one text, once
pub record IsSet (a : Rule) (id : TextBytes) : Type 0 where
  pub id_is : a.id ≡ id
  pub fault : (v : TextBytes) (rows : List Row)
      → use_fault false a (v ∷ []) rows ≡ conflict (has_row id rows)
  pub no_value : (rows : List Row) → use_fault false a [] rows ≡ kind.InvalidValue ∷ []
  pub used_is : (v : TextBytes) (rows : List Row)
      → used a (v ∷ []) rows ≡ with_values id reading.AsWritten CommandLine (v ∷ []) (without id rows)

conflict_or : (b : Bool)
    → or_else (cond (b && true) (kind.ArgumentConflict ∷ []) []) [] ≡ conflict b
conflict_or true = refl
conflict_or false = refl

pub word_set : (required : Bool) → IsSet (word_built required) word_name
word_set required = record {
  id_is = refl;
  fault = λ v rows. conflict_or (has_row word_name rows);
  no_value = λ rows. refl;
  used_is = λ v rows. refl;
}

pub option_set : (o : TextBytes × List TextBytes) → IsSet (option_built o) o.0
option_set o = record {
  id_is = refl;
  fault = λ v rows. conflict_or (has_row o.0 rows);
  no_value = λ rows. refl;
  used_is = λ v rows. refl;
}

-- ---- finding a rule

abbrev pub option_in : OptionTable → TextBytes → Option (TextBytes × List TextBytes)
option_in t name = find (λ o. bytes_eq o.0 name) t

abbrev rules_of : Bool → OptionTable → List Rule
rules_of required t = word_built required ∷ map option_built t

long_in : (required : Bool) (t : OptionTable) (name : TextBytes)
    → arg_by_long (rules_of required t) name ≡ option_map option_built (option_in t name)
long_in required [] name = refl
long_in required (o ∷ t) name =
    let rest = long_in required t name in
    elim (bytes_eq o.0 name) as
    (λ b. cond (b || false) (Some (option_built o)) (arg_by_long (rules_of required t) name) ≡ option_map option_built (cond b (Some o) (option_in t name))) [
      | true ↦ refl
      | false ↦ rest
    ]

pub rule_by_long : (t : Form) (name : TextBytes)
    → arg_by_long (rules_with t) name ≡ option_map option_built (option_in t.options name)
rule_by_long t name = long_in t.required t.options name

options_by_id : (t : OptionTable) (name : TextBytes)
    → find (λ a. bytes_eq a.id name) (map option_built t) ≡ option_map option_built
    (option_in t name)
options_by_id [] name = refl
options_by_id (o ∷ t) name =
    let rest = options_by_id t name in
    elim (bytes_eq o.0 name) as
    (λ b. cond b (Some (option_built o)) (find (λ a. bytes_eq a.id name) (map option_built t))
    ≡ option_map option_built (cond b (Some o) (option_in t name))) [
      | true ↦ refl
      | false ↦ rest
    ]

short_in : (required : Bool) (t : OptionTable) (x : ℕ) → arg_by_short (rules_of required t) x ≡ None
short_in required [] x = refl
short_in required (o ∷ t) x = short_in required t x

pub rule_by_short : (t : Form) (x : ℕ) → arg_by_short (rules_with t) x ≡ None
rule_by_short t x = short_in t.required t.options x

no_index : (t : OptionTable) (i : ℕ) → find (λ a. option_map_or (λ k. k == i) a.index false)
    (map option_built t) ≡ None
no_index [] i = refl
no_index (o ∷ t) i = no_index t i

pub rule_by_index : (t : Form) (i : ℕ)
    → arg_by_index (rules_with t) i ≡ cond (1 == i) (Some (word_built t.required)) None
rule_by_index t i = ap (cond (1 == i) (Some (word_built t.required))) (no_index t.options i)

-- the rule of an id is there
pub record Found (t : Form) (id : TextBytes) : Type 0 where
  pub rule : Rule
  pub is_rule : arg_by_id (rules_with t) id ≡ Some rule
  pub set : IsSet rule id

pub found_word : (t : Form) → Found t word_name
found_word t =
    record { rule = word_built t.required; is_rule = refl; set = word_set t.required }

pub same_bytes : (a b : TextBytes) → bytes_eq a b ≡ true → a ≡ b
same_bytes a b = (bytes_eq-Decides a b).0

pub bytes_same : (a b : TextBytes) → a ≡ b → bytes_eq a b ≡ true
bytes_same a b = (bytes_eq-Decides a b).1

pub found_passes : {X : Type 0} (p : X → Bool) (xs : List X) (x : X) → find p xs ≡ Some x
    → p x ≡ true
found_passes p [] x e = cc
found_passes p (y ∷ xs) x e = go (p y) refl e (λ rest. found_passes p xs x rest)
  where
    go : (b : Bool) → p y ≡ b → cond b (Some y) (find p xs) ≡ Some x
        → (find p xs ≡ Some x → p x ≡ true) → p x ≡ true
    go true is e rest = let same : y ≡ x = cc in rw (← same) is
    go false is e rest = rest e

pub found_all : {X : Type 0} (p q : X → Bool) (xs : List X) (x : X) → find p xs ≡ Some x
    → list_all q xs ≡ true → q x ≡ true
found_all p q [] x e all = cc
found_all p q (y ∷ xs) x e all = go (p y) e (λ rest. found_all p q xs x rest (both _ _ all).1)
  where
    go : (b : Bool) → cond b (Some y) (find p xs) ≡ Some x → (find p xs ≡ Some x → q x ≡ true)
        → q x ≡ true
    go true e rest = let same : y ≡ x = cc in rw (← same) (both _ _ all).0
    go false e rest = rest e

-- no option is called as the positional word
abbrev pub KeepsWord : OptionTable → Type 0
KeepsWord t = list_all (λ o. not (bytes_eq word_name o.0)) t ≡ true

-- the name is an option's
pub record HasOption (t : Form) (name : TextBytes) : Type 0 where
  pub found : Found t name
  pub by_long : arg_by_long (rules_with t) name ≡ Some found.rule
  pub takes : takes_values found.rule ≡ true
  pub most : most_values found.rule ≡ 1
  pub is_id : bytes_eq name found.rule.id ≡ true
  pub not_word : bytes_eq word_name name ≡ false

pub has_option : (t : Form) → KeepsWord t.options
    → (name : TextBytes) (o : TextBytes × List TextBytes) → option_in t.options name ≡ Some o
    → HasOption t name
has_option t keeps name o e =
    let same : o.0 ≡ name = same_bytes _ _ (found_passes (λ p. bytes_eq p.0 name) t.options o e) in
    let other : bytes_eq word_name name ≡ false
    = rw (← same)
    (not-true _ (found_all (λ p. bytes_eq p.0 name) (λ p. not (bytes_eq word_name p.0)) t.options o e keeps)) in
    record {
      found = record {
        rule = option_built o;
        is_rule = rw other (options_by_id t.options name ∙ ap (option_map option_built) e);
        set = subst (λ (n : TextBytes). IsSet (option_built o) n) same (option_set o);
      };
      by_long = rule_by_long t name ∙ ap (option_map option_built) e;
      takes = refl;
      most = refl;
      is_id = bytes_same _ _ (sym same);
      not_word = other;
    }

pub differs_back : (a b : TextBytes) → bytes_eq a b ≡ false → bytes_eq b a ≡ false
differs_back a b e = go (bytes_eq b a) refl
  where
    go : (t : Bool) → bytes_eq b a ≡ t → t ≡ false
    go true f = absurd (true≢false (sym (bytes_same a b (sym (same_bytes b a f))) ∙ e))
    go false f = refl
