-- What a turn needs to have no fault, and where the walk stands after it.
use Rattle.std.proofs.Common.{◌≡◌, ◌∙◌, Bool, true, false, refl, sym, ap, List, [], ◌∷◌, ◌++◌}
use Rattle.std.proofs.Common.{Option, Some, None, append-nil}
use Rattle.std.specs.Prelude.{⊤}
use Rattle.clap.specs.Kinds.{Kinds, or_else}
use Rattle.clap.specs.Faults.{react_fault, settle_fault, use_fault}
use Rattle.clap.specs.Walk.{Held, Row, Text as TextBytes, reacted, settled, used}
use Rattle.clap.specs.declared.error.kind.ErrorKind.TheVariants as kind
use Rattle.option_words.specs.Command.{rules_with}
use Rattle.option_words.specs.Grammar.{Form, Saying}
use Rattle.option_words.proofs.Rules.{Found, conflict, has_row-rows, rows_for, says, used_fresh}

-- ---- what is held

-- what is pending, with its value
abbrev pub pend : Option Saying → Option (TextBytes × List TextBytes)
pend None = None
pend (Some u) = Some (u.0, u.1 ∷ [])

abbrev pub as_list : Option Saying → List Saying
as_list None = []
as_list (Some u) = u ∷ []

-- rows for S, and q is pending
abbrev pub held_with : List Saying → Option Saying → Held
held_with S q = record { rows = rows_for S; pending = pend q; skip = 0 }

-- rows for S, and the option waits for its value
abbrev pub asking : List Saying → TextBytes → Held
asking S id = record { rows = rows_for S; pending = Some (id, []); skip = 0 }

abbrev pub Pending : Form → Option Saying → Type 0
Pending t None = ⊤
Pending t (Some u) = Found t u.0

abbrev pub clashes : Option Saying → List Saying → Bool
clashes None S = false
clashes (Some u) S = says u.0 S

-- ---- kinds

pub none_both : (xs ys : Kinds) → or_else xs ys ≡ [] → (xs ≡ []) × (ys ≡ [])
none_both [] ys e = (refl, e)
none_both (x ∷ xs) ys e = cc

pub both_none : (xs ys : Kinds) → xs ≡ [] → ys ≡ [] → or_else xs ys ≡ []
both_none xs ys e f = rw (e, f) refl

pub or_nothing : (xs : Kinds) → or_else xs [] ≡ xs
or_nothing [] = refl
or_nothing (x ∷ xs) = refl

pub no_conflict : (b : Bool) → conflict b ≡ [] → b ≡ false
no_conflict true e = cc
no_conflict false e = refl

-- ---- settling

pub settle_is : (t : Form) (S : List Saying) (q : Option Saying) → Pending t q
    → settle_fault (rules_with t) false (held_with S q) ≡ conflict (clashes q S)
settle_is t S None f = refl
settle_is t S (Some u) f
    = rw f.is_rule (f.set.fault u.1 (rows_for S) ∙ ap conflict (has_row-rows u.0 S))

pub settled_is : (t : Form) (S : List Saying) (q : Option Saying) → Pending t q
    → clashes q S ≡ false → settled (rules_with t) (held_with S q) ≡ held_with (S ++ as_list q) None
settled_is t S None f h = ap (λ (s : List Saying). held_with s None) (sym (append-nil S))
settled_is t S (Some u) f h =
    let same : used f.rule (u.1 ∷ []) (rows_for S) ≡ rows_for (S ++ u ∷ [])
    = f.set.used_is u.1 (rows_for S) ∙ used_fresh u.0 u.1 S h in
    rw f.is_rule (ap (λ (rows : List Row). record { rows = rows; pending = None; skip = 0 }) same)

pub asking_faults : (t : Form) (S : List Saying) (id : TextBytes) → Found t id
    → settle_fault (rules_with t) false (asking S id) ≡ kind.InvalidValue ∷ []
asking_faults t S id f = rw f.is_rule (f.set.no_value (rows_for S))

-- ---- `--name=value`

-- the fault of a use of the option o, after the pending q
use_is : (t : Form) (S : List Saying) (q : Option Saying) (name v : TextBytes) → Pending t q
    → (f : Found t name) → clashes q S ≡ false
    → use_fault false f.rule (v ∷ []) (settled (rules_with t) (held_with S q)).rows ≡ conflict
    (says name (S ++ as_list q))
use_is t S q name v pending f h =
    ap (λ (held : Held). use_fault false f.rule (v ∷ []) held.rows) (settled_is t S q pending h)
    ∙ f.set.fault v (rows_for (S ++ as_list q)) ∙ ap conflict (has_row-rows name (S ++ as_list q))

pub react_needs : (t : Form) (S : List Saying) (q : Option Saying) (name v : TextBytes)
    → Pending t q → (f : Found t name) → react_fault (rules_with t) false f.rule (v ∷ [])
    (held_with S q) ≡ []
    → (clashes q S ≡ false) × (says name (S ++ as_list q) ≡ false)
react_needs t S q name v pending f e =
    let parts = none_both (settle_fault (rules_with t) false (held_with S q))
    (use_fault false f.rule (v ∷ []) (settled (rules_with t) (held_with S q)).rows) e in
    let clear = no_conflict _ (sym (settle_is t S q pending) ∙ parts.0) in
    (clear, no_conflict _ (sym (use_is t S q name v pending f clear) ∙ parts.1))

pub react_passes : (t : Form) (S : List Saying) (q : Option Saying) (name v : TextBytes)
    → Pending t q → (f : Found t name) → clashes q S ≡ false → says name (S ++ as_list q) ≡ false
    → react_fault (rules_with t) false f.rule (v ∷ []) (held_with S q) ≡ []
react_passes t S q name v pending f clear fresh =
    both_none (settle_fault (rules_with t) false (held_with S q))
    (use_fault false f.rule (v ∷ []) (settled (rules_with t) (held_with S q)).rows)
    (settle_is t S q pending ∙ ap conflict clear)
    (use_is t S q name v pending f clear ∙ ap conflict fresh)

pub reacted_is : (t : Form) (S : List Saying) (q : Option Saying) (name v : TextBytes) → Pending t q
    → (f : Found t name) → clashes q S ≡ false → says name (S ++ as_list q) ≡ false
    → reacted (rules_with t) f.rule (v ∷ []) (held_with S q) ≡ held_with
    ((S ++ as_list q) ++ (name, v) ∷ []) None
reacted_is t S q name v pending f clear fresh =
    let rows : used f.rule (v ∷ []) (settled (rules_with t) (held_with S q)).rows ≡ rows_for
    ((S ++ as_list q) ++ (name, v) ∷ []) =
    ap (λ (held : Held). used f.rule (v ∷ []) held.rows) (settled_is t S q pending clear)
    ∙ f.set.used_is v (rows_for (S ++ as_list q)) ∙ used_fresh name v (S ++ as_list q) fresh in
    ap (λ (rows : List Row). record { rows = rows; pending = None; skip = 0 }) rows
