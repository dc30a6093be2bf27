-- The faults of the words from a place of the walk on, and the rows at their end.
use Rattle.std.proofs.Common.{◌≡◌, ◌∙◌, ◌&&◌, Bool, cond, true, false, refl, sym, ap, subst, List}
use Rattle.std.proofs.Common.{[], ◌∷◌, ◌++◌, Option, Some}
use Rattle.std.specs.List.{fold}
use Rattle.clap.specs.Kinds.{Kinds, or_else}
use Rattle.clap.specs.Faults.{check_fault, defaults_fault, settle_fault, turn_fault, walk_fault}
use Rattle.clap.specs.Walk.{Held, Row, Text as TextBytes, Walk, finished, is_pending}
use Rattle.clap.specs.Walk.{positional_held, pushed, settled, walked, with_default}
use Rattle.option_words.specs.Command.{rules_with, shape_with, word_built}
use Rattle.option_words.specs.Grammar.{Form, Saying, word_name}
use Rattle.option_words.proofs.Rules.{Found, KeepsWord, conflict, rows_for, says}
use Rattle.option_words.proofs.Turns.{Pending, as_list, asking, asking_faults, clashes, both_none}
use Rattle.option_words.proofs.Turns.{held_with, no_conflict, none_both, pend, settle_is}
use Rattle.option_words.proofs.Turns.{settled_is}
use Rattle.option_words.proofs.Ends.{IsWanted, check_is, defaults_clear, missing, none_missing}
use Rattle.option_words.proofs.Ends.{not_missing}

-- what was said, with what is pending
abbrev pub base : List Saying → Option Saying → List Saying
base S q = S ++ as_list q

abbrev pub ends : Form → Held → Kinds
ends t h = or_else (settle_fault (rules_with t) false h)
    (or_else (defaults_fault (settled (rules_with t) h).rows (rules_with t)) (check_fault (shape_with t) (finished (rules_with t) h) false))

unfoldable pub rest_fault : Form → Walk → List TextBytes → Kinds
rest_fault t w words =
    or_else (walk_fault (shape_with t) [] w words)
    (ends t (fold (walked (rules_with t) []) w words).held)

unfoldable pub end_rows : Form → Walk → List TextBytes → List Row
end_rows t w words = finished (rules_with t) (fold (walked (rules_with t) []) w words).held

or_else_assoc : (xs ys zs : Kinds) → or_else (or_else xs ys) zs ≡ or_else xs (or_else ys zs)
or_else_assoc [] ys zs = refl
or_else_assoc (x ∷ xs) ys zs = refl

rest_more : (t : Form) (w : Walk) (x : TextBytes) (xs : List TextBytes)
    → rest_fault t w (x ∷ xs) ≡ or_else (turn_fault (shape_with t) [] w x)
    (rest_fault t (walked (rules_with t) [] w x) xs)
unfolding rest_fault walk_fault
rest_more t w x xs = or_else_assoc (turn_fault (shape_with t) [] w x) _ _

rest_none : (t : Form) (w : Walk) → rest_fault t w [] ≡ ends t w.held
unfolding rest_fault walk_fault
rest_none t w = refl

rows_more : (t : Form) (w : Walk) (x : TextBytes) (xs : List TextBytes)
    → end_rows t w (x ∷ xs) ≡ end_rows t (walked (rules_with t) [] w x) xs
unfolding end_rows
rows_more t w x xs = refl

rows_none : (t : Form) (w : Walk) → end_rows t w [] ≡ finished (rules_with t) w.held
unfolding end_rows
rows_none t w = refl

-- ---- without a fault

pub no_turn_fault : (t : Form) (w : Walk) (x : TextBytes) (xs : List TextBytes)
    → rest_fault t w (x ∷ xs) ≡ [] → turn_fault (shape_with t) [] w x ≡ []
no_turn_fault t w x xs e = (none_both _ _ (sym (rest_more t w x xs) ∙ e)).0

pub no_later_fault : (t : Form) (w next : Walk) (x : TextBytes) (xs : List TextBytes)
    → rest_fault t w (x ∷ xs) ≡ [] → walked (rules_with t) [] w x ≡ next → rest_fault t next xs ≡ []
no_later_fault t w next x xs e is =
    subst (λ (v : Walk). rest_fault t v xs ≡ []) is (none_both _ _ (sym (rest_more t w x xs) ∙ e)).1

-- ---- the walk passes, and says U

abbrev pub Done : Form → Walk → List TextBytes → List Saying → Type 0
Done t w words U = (rest_fault t w words ≡ [])
    × (end_rows t w words ≡ fold with_default (rows_for U) (rules_with t))

pub done_more : (t : Form) (w next : Walk) (x : TextBytes) (xs : List TextBytes) (U : List Saying)
    → turn_fault (shape_with t) [] w x ≡ [] → walked (rules_with t) [] w x ≡ next → Done t next xs U
    → Done t w (x ∷ xs) U
done_more t w next x xs U none is done = (
  rest_more t w x xs ∙ both_none _ _ none (ap (λ (v : Walk). rest_fault t v xs) is ∙ done.0),
  rows_more t w x xs ∙ ap (λ (v : Walk). end_rows t v xs) is ∙ done.1,
)

-- ---- the end

finished_is : (t : Form) (S : List Saying) (q : Option Saying) → Pending t q → clashes q S ≡ false
    → finished (rules_with t) (held_with S q) ≡ fold with_default (rows_for (base S q))
    (rules_with t)
finished_is t S q pending clear =
    ap (λ (h : Held). fold with_default h.rows (rules_with t)) (settled_is t S q pending clear)

check_base : (t : Form) → KeepsWord t.options → (S : List Saying) (q : Option Saying) → Pending t q
    → clashes q S ≡ false
    → check_fault (shape_with t)
    (finished (rules_with t) (held_with S q)) false ≡ missing t.required (says word_name (base S q))
check_base t keeps S q pending clear =
    ap (λ (rows : List Row). check_fault (shape_with t) rows false)
    (finished_is t S q pending clear) ∙ check_is t keeps (base S q)

pub ends_need : (t : Form) → KeepsWord t.options → (w : Walk) (S : List Saying) (q : Option Saying)
    → w.held ≡ held_with S q → Pending t q → rest_fault t w [] ≡ []
    → (clashes q S ≡ false) × IsWanted t.required (says word_name (base S q))
ends_need t keeps w S q is pending e =
    let at_end : ends t (held_with S q) ≡ [] = ap (ends t) (sym is) ∙ sym (rest_none t w) ∙ e in
    let parts = none_both (settle_fault (rules_with t) false (held_with S q)) _ at_end in
    let clear = no_conflict _ (sym (settle_is t S q pending) ∙ parts.0) in
    let last = (none_both (defaults_fault (settled (rules_with t) (held_with S q)).rows (rules_with t)) _ parts.1).1 in
    (clear, not_missing _ _ (sym (check_base t keeps S q pending clear) ∙ last))

pub done_end : (t : Form) → KeepsWord t.options → (w : Walk) (S : List Saying) (q : Option Saying)
    → w.held ≡ held_with S q → Pending t q → clashes q S ≡ false
    → IsWanted t.required (says word_name (base S q)) → Done t w [] (base S q)
done_end t keeps w S q is pending clear said = (
  rest_none t w ∙ ap (ends t) is ∙ both_none (settle_fault (rules_with t) false (held_with S q)) _
      (settle_is t S q pending ∙ ap conflict clear)
      (both_none _ _ (defaults_clear t (settled (rules_with t) (held_with S q)).rows) (check_base t keeps S q pending clear ∙ none_missing _ _ said)),
  rows_none t w ∙ ap (finished (rules_with t)) is ∙ finished_is t S q pending clear,
)

pub asking_ends : (t : Form) (w : Walk) (S : List Saying) (id : TextBytes) → Found t id
    → w.held ≡ asking S id → rest_fault t w [] ≡ [] → ⊥
asking_ends t w S id found is e =
    let at_end : ends t (asking S id) ≡ [] = ap (ends t) (sym is) ∙ sym (rest_none t w) ∙ e in
    let first = (none_both (settle_fault (rules_with t) false (asking S id)) _ at_end).0 in
    let fault = asking_faults t S id found in cc

-- ---- a positional word

kept_or : (b : Bool) (h g : Held) → cond (b && false) h g ≡ g
kept_or true h g = refl
kept_or false h g = refl

pub positional_is : (t : Form) (S : List Saying) (q : Option Saying) (word : TextBytes)
    → Pending t q → clashes q S ≡ false
    → positional_held (rules_with t) (word_built t.required) word (held_with S q) ≡ held_with
    (base S q) (Some (word_name, word))
positional_is t S q word pending clear =
    ap (pushed word_name word)
    (kept_or (is_pending (word_built t.required) (pend q)) (held_with S q) (settled (rules_with t) (held_with S q)) ∙ settled_is t S q pending clear)
