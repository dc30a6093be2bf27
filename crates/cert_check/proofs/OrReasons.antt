-- The reasons against an `or`, and what it gives.
use Rattle.std.proofs.Common.{◌≡◌, ℕ, ◌<◌, List, ◌∷◌, ◌==◌, ◌&&◌, not, Option, Some, None, Bool}
use Rattle.std.proofs.Common.{true, refl, sym, ◌∙◌, ap, subst}
use Rattle.std.specs.List.{cons_option, list_all}
use Rattle.std.specs.Option.{IfSome, option_map}
use Rattle.std.proofs.lemmas.Bool.{and_from, and_parts, eq-eqb, eqb-true, false≢true}
use Rattle.hex_board.specs.Elements.{element_count}
use Rattle.conn_store.specs.declared.entries.Kind.TheVariants.{Full, Semi}
use Rattle.win_cert.specs.Entries.{Context, ScopedEntry, carriers_of, elements_at, entries_at}
use Rattle.win_cert.specs.Entries.{entry_at, entry_between, gives, or_entry}
use Rattle.win_cert.specs.Reasons.{reason_against}
use Rattle.win_cert.specs.declared.reasons.Reason.TheVariants.{BadReference, EndsDiffer, CommonCell}
use Rattle.win_cert.specs.declared.reasons.Reason.TheVariants.{WrongScope}
use Rattle.win_cert.specs.Scopes.{elements_in}
use Rattle.win_cert.specs.Statements.{have_same_ends, may_take, same_ends, share_cell}
use Rattle.win_cert.specs.declared.statements.Statement.TheVariants.{Derivation}
use Rattle.win_cert.specs.declared.lines.Line.{Line}
use Rattle.win_cert.specs.declared.lines.Line.TheVariants.{Adj, And, Key, Or2, Or3, Put, Done, Move}
use Rattle.win_cert.specs.declared.lines.Line.TheVariants.{Cases, Lift, OrMany}
use Rattle.win_cert.proofs.CutSteps.{many_reasons, or_reason, two_reasons, three_reasons}
use Rattle.cert_check.specs.Keeping.{IsGivenOn, IsOrOf, TakesKind, entry_of}
use Rattle.cert_check.specs.declared.given.Given.{Given}
use Rattle.cert_check.proofs.ReasonLaws.{told}

pub or_reasons : (c : Context) (line : Line) (numbers : List ℕ) → IsOrOf line numbers
    → reason_against c (Derivation line) ≡ or_reason c (Derivation line) numbers
or_reasons c (Or2 i j) numbers h = two_reasons c i j ∙ ap (or_reason c (Derivation (Or2 i j))) h.1
or_reasons c (Or3 i j k) numbers h = three_reasons c i j k
    ∙ ap (or_reason c (Derivation (Or3 i j k))) h.1
or_reasons c (OrMany ns) numbers h = many_reasons c ns
    ∙ ap (or_reason c (Derivation (OrMany ns))) h.1
or_reasons c (Adj x y) numbers h = absurd (false≢true h.0)
or_reasons c (And i j) numbers h = absurd (false≢true h.0)
or_reasons c (Key i j) numbers h = absurd (false≢true h.0)
or_reasons c (Put cells) numbers h = absurd (false≢true h.0)
or_reasons c Done numbers h = absurd (false≢true h.0)
or_reasons c (Move k i) numbers h = absurd (false≢true h.0)
or_reasons c (Cases ns) numbers h = absurd (false≢true h.0)
or_reasons c (Lift i) numbers h = absurd (false≢true h.0)

pub or_takes : (line : Line) (numbers : List ℕ) → IsOrOf line numbers
    → TakesKind (Derivation line) Semi true
or_takes (Or2 i j) numbers h = (refl, refl)
or_takes (Or3 i j k) numbers h = (refl, refl)
or_takes (OrMany ns) numbers h = (refl, refl)
or_takes (Adj x y) numbers h = absurd (false≢true h.0)
or_takes (And i j) numbers h = absurd (false≢true h.0)
or_takes (Key i j) numbers h = absurd (false≢true h.0)
or_takes (Put cells) numbers h = absurd (false≢true h.0)
or_takes Done numbers h = absurd (false≢true h.0)
or_takes (Move k i) numbers h = absurd (false≢true h.0)
or_takes (Cases ns) numbers h = absurd (false≢true h.0)
or_takes (Lift i) numbers h = absurd (false≢true h.0)

pub or_gives : (c : Context) (line : Line) (numbers : List ℕ) → IsOrOf line numbers
    → gives c line ≡ or_entry c (entries_at c numbers)
or_gives c (Or2 i j) numbers h = ap (λ l. or_entry c (entries_at c l)) h.1
or_gives c (Or3 i j k) numbers h = ap (λ l. or_entry c (entries_at c l)) h.1
or_gives c (OrMany ns) numbers h = ap (λ l. or_entry c (entries_at c l)) h.1
or_gives c (Adj x y) numbers h = absurd (false≢true h.0)
or_gives c (And i j) numbers h = absurd (false≢true h.0)
or_gives c (Key i j) numbers h = absurd (false≢true h.0)
or_gives c (Put cells) numbers h = absurd (false≢true h.0)
or_gives c Done numbers h = absurd (false≢true h.0)
or_gives c (Move k i) numbers h = absurd (false≢true h.0)
or_gives c (Cases ns) numbers h = absurd (false≢true h.0)
or_gives c (Lift i) numbers h = absurd (false≢true h.0)

-- ---- by the checker's tests

-- the reason: whether all numbers may be taken, whether all entries are in the scope, whether all
-- have the same elements, and whether their carriers share a cell
pub or_tested : {taken inside same shared : Bool} (c : Context) (line : Line) (numbers : List ℕ)
    → IsOrOf line numbers
    → taken ≡ list_all (λ i. may_take (Derivation line) (entry_at c i)) numbers
    → inside ≡ list_all (λ a. a.scope == c.scope) (entries_at c numbers)
    → same ≡ have_same_ends (entries_at c numbers) → shared ≡ share_cell (entries_at c numbers)
    → reason_against c (Derivation line) ≡ told (not taken) BadReference
    (told (not inside) WrongScope (told (not same) EndsDiffer (told shared CommonCell None)))
or_tested c line numbers h t i e s = cc (or_reasons c line numbers h, t, i, e, s)

-- the entries that are named begin with the one of the first number
pub named_first : {q : Option Given} {numbers rest : List ℕ} {i : ℕ} {a : Given} (c : Context)
    → numbers ≡ i ∷ rest → option_map entry_of q ≡ entry_at c i → q ≡ Some a
    → entries_at c numbers ≡ entry_of a ∷ entries_at c rest
named_first {rest = rest} c are is found = ap (entries_at c) are
    ∙ ap (λ o. cons_option o (entries_at c rest)) (sym is ∙ ap (option_map entry_of) found)

same_self : (a : ScopedEntry) → same_ends a a ≡ true
same_self a = and_from (a.x == a.x) (a.y == a.y) (eq-eqb a.x a.x refl) (eq-eqb a.y a.y refl)

-- all have the same elements if all have those of the first
pub same_as_first : (a : ScopedEntry) (rest entries : List ScopedEntry) → entries ≡ a ∷ rest
    → list_all (same_ends a) entries ≡ have_same_ends entries
same_as_first a rest entries e = ap (list_all (same_ends a)) e
    ∙ ap (λ b. b && list_all (same_ends a) rest) (same_self a) ∙ ap have_same_ends (sym e)

-- the elements of the first are some of the scope's board, if all are in the scope
pub first_ends : {inside : Bool} {q : Option Given} {a : Given} {rest : List ScopedEntry}
    (c : Context) (entries : List ScopedEntry) → entries ≡ entry_of a ∷ rest
    → inside ≡ list_all (λ e. e.scope == c.scope) entries → inside ≡ true → q ≡ Some a
    → IfSome q (IsGivenOn c.base)
    → (a.x < element_count (elements_at c)) × (a.y < element_count (elements_at c))
first_ends {a = a} {rest = rest} c entries named is inside found on =
    let given : IsGivenOn c.base a = subst (λ o. IfSome o (IsGivenOn c.base)) found on in
    let all = ap (list_all (λ e. e.scope == c.scope)) (sym named) ∙ sym is ∙ inside in
    let scope = eqb-true a.scope c.scope
    (and_parts (a.scope == c.scope) (list_all (λ e. e.scope == c.scope) rest) all).0 in
    (subst (λ t. a.x < element_count (elements_in c.base t)) scope given.x, subst (λ t. a.y < element_count (elements_in c.base t)) scope given.y)

-- what is given: the entry g of the first one's elements, with the cells of all carriers
pub or_given : {rest : List ScopedEntry} {s : ℕ} {g : ScopedEntry} (c : Context) (line : Line)
    (numbers : List ℕ) (a : Given) → IsOrOf line numbers
    → entries_at c numbers ≡ entry_of a ∷ rest → s ≡ carriers_of (entries_at c numbers)
    → g ≡ entry_between c Full a.x a.y s → gives c line ≡ Some g
or_given c line numbers a h named both is = or_gives c line numbers h ∙ ap (or_entry c) named
    ∙ ap (λ l. Some (entry_between c Full a.x a.y (carriers_of l))) (sym named)
    ∙ ap Some (sym (is ∙ ap (entry_between c Full a.x a.y) both))
