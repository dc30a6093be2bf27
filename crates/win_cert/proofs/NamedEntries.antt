-- What a statement names, where no reason is against it: good entries of the kind and in the scope
-- that it takes.
use Rattle.std.proofs.Common.{◌≡◌, ℕ, ◌==◌, ◌&&◌, ◌||◌, not, true, false, Bool, List, [], ◌∷◌}
use Rattle.std.proofs.Common.{Option, Some, None, cond, refl, sym, ◌∙◌, ap, zero, suc}
use Rattle.std.specs.List.{cons_option, filter_map, find, list_all, slice_get}
use Rattle.std.proofs.lemmas.Bool.{and_from, and_parts, both_ways, eqb-true, eq-eqb, false≢true}
use Rattle.std.proofs.lemmas.Bool.{not-false, not-true}
use Rattle.hex_board.specs.Elements.{PlayerBoard}
use Rattle.conn_store.specs.Stores.{same_kind}
use Rattle.win_cert.specs.Entries.{Context, ScopedEntry, entry_at}
use Rattle.win_cert.specs.Reasons.{applies, is_bad_reference, is_wrong_scope, order, reason_against}
use Rattle.win_cert.specs.declared.reasons.Reason.{Reason}
use Rattle.win_cert.specs.declared.reasons.Reason.TheVariants.{BadReference, BadStone, CarriersMeet}
use Rattle.win_cert.specs.declared.reasons.Reason.TheVariants.{CommonCell, EndInCarrier, EndsDiffer}
use Rattle.win_cert.specs.declared.reasons.Reason.TheVariants.{MiddleKind, NoCommonMiddle, NotEdges}
use Rattle.win_cert.specs.declared.reasons.Reason.TheVariants.{NotJoined, NotNeighbours}
use Rattle.win_cert.specs.declared.reasons.Reason.TheVariants.{WrongColour, WrongScope}
use Rattle.win_cert.specs.Scopes.{elements_in}
use Rattle.win_cert.specs.Statements.{entries_named, is_chain, is_or, kind_taken, may_take}
use Rattle.win_cert.specs.Statements.{numbers_in, scope_taken}
use Rattle.win_cert.specs.declared.statements.Statement.{Statement}
use Rattle.win_cert.proofs.GoodEntries.{IsGood}
use Rattle.conn_store.proofs.Tables.{kinds_are}

-- ---- no reason

passed : (b : Bool) (r : Reason) (o : Option Reason) → cond b (Some r) o ≡ None
    → (b ≡ false) × (o ≡ None)
passed true r o h = absurd (cc)
passed false r o h = (refl, h)

passed_at : (test : Reason → Bool) (rs : List Reason) (i : ℕ) (r : Reason) → find test rs ≡ None
    → slice_get rs i ≡ Some r → test r ≡ false
passed_at test [] i r h e = absurd (cc)
passed_at test (q ∷ rs) zero r h e = let f : q ≡ r = cc in ap test (sym f)
    ∙ (passed (test q) q (find test rs) h).0
passed_at test (q ∷ rs) (suc i) r h e
    = passed_at test rs i r (passed (test q) q (find test rs) h).1 e

-- where there is no reason against a statement, none applies
pub none_applies : (c : Context) (s : Statement) → reason_against c s ≡ None → (r : Reason)
    → applies c s r ≡ false
unfolding reason_against
none_applies c s h BadReference = passed_at (applies c s) order 0 BadReference h refl
none_applies c s h BadStone = passed_at (applies c s) order 1 BadStone h refl
none_applies c s h WrongScope = passed_at (applies c s) order 2 WrongScope h refl
none_applies c s h WrongColour = passed_at (applies c s) order 3 WrongColour h refl
none_applies c s h NotNeighbours = passed_at (applies c s) order 4 NotNeighbours h refl
none_applies c s h NoCommonMiddle = passed_at (applies c s) order 5 NoCommonMiddle h refl
none_applies c s h CarriersMeet = passed_at (applies c s) order 6 CarriersMeet h refl
none_applies c s h EndInCarrier = passed_at (applies c s) order 7 EndInCarrier h refl
none_applies c s h MiddleKind = passed_at (applies c s) order 8 MiddleKind h refl
none_applies c s h EndsDiffer = passed_at (applies c s) order 9 EndsDiffer h refl
none_applies c s h CommonCell = passed_at (applies c s) order 10 CommonCell h refl
none_applies c s h NotEdges = passed_at (applies c s) order 11 NotEdges h refl
none_applies c s h NotJoined = passed_at (applies c s) order 12 NotJoined h refl

-- ---- lists of entries

-- P of each entry
abbrev pub Each : (ScopedEntry → Type 0) → List ScopedEntry → Type 0
Each P [] = Unit {0}
Each P (a ∷ entries) = P a × Each P entries

pub each_passes : (test : ScopedEntry → Bool) (entries : List ScopedEntry)
    → list_all test entries ≡ true → Each (λ a. test a ≡ true) entries
each_passes test [] h = tt
each_passes test (a ∷ entries) h = let t = and_parts (test a) (list_all test entries) h in
    (t.0, each_passes test entries t.1)

pub each_both : (P Q R : ScopedEntry → Type 0) (entries : List ScopedEntry)
    → ((a : ScopedEntry) → P a → Q a → R a) → Each P entries → Each Q entries → Each R entries
each_both P Q R [] f p q = tt
each_both P Q R (a ∷ entries) f p q = (f a p.0 q.0, each_both P Q R entries f p.1 q.1)

-- ---- the entries that are named

-- the entry, on the board of its scope
abbrev pub IsGoodEntry : PlayerBoard → ScopedEntry → Type 0
IsGoodEntry base a = IsGood (elements_in base a.scope) a.kind a.x a.y a.carrier

-- earlier lines give good entries
abbrev pub GaveGood : Context → Type 0
GaveGood c = (i : ℕ) (a : ScopedEntry) → entry_at c i ≡ Some a → IsGoodEntry c.base a

-- the statement may take the entry, which an earlier line gave
pub record IsNamed (c : Context) (s : Statement) (a : ScopedEntry) : Type 0 where
  pub kind_is : a.kind ≡ kind_taken s
  pub differ : (is_chain s || is_or s) ≡ true → a.x ≡ a.y → ⊥
  pub given : (i : ℕ) × (entry_at c i ≡ Some a)

-- and it is a good one in the scope that the statement takes
pub record IsLineTaken (c : Context) (s : Statement) (a : ScopedEntry) : Type 0 where
  pub named : IsNamed c s a
  pub scope_is : a.scope ≡ scope_taken c s
  pub good : IsGoodEntry c.base a

named_one : (c : Context) (s : Statement) (i : ℕ) (o : Option ScopedEntry) (rest : List ScopedEntry)
    → entry_at c i ≡ o → may_take s o ≡ true → Each (IsNamed c s) rest
    → Each (IsNamed c s) (cons_option o rest)
named_one c s i None rest e h f = absurd (false≢true h)
named_one c s i (Some a) rest e h f =
    let t = and_parts (same_kind a.kind (kind_taken s))
    (not ((is_chain s || is_or s) && a.x == a.y)) h in (
      record {
        kind_is = kinds_are a.kind (kind_taken s) t.0;
        differ = λ u q. both_ways ((is_chain s || is_or s) && a.x == a.y)
            (not-true ((is_chain s || is_or s) && a.x == a.y) t.1)
            (and_from (is_chain s || is_or s) (a.x == a.y) u (eq-eqb a.x a.y q));
        given = (i, e);
      },
      f,
    )

named_all : (c : Context) (s : Statement) (numbers : List ℕ)
    → list_all (λ i. may_take s (entry_at c i)) numbers ≡ true
    → Each (IsNamed c s) (filter_map (entry_at c) numbers)
named_all c s [] h = tt
named_all c s (i ∷ numbers) h =
    let t = and_parts (may_take s (entry_at c i))
    (list_all (λ j. may_take s (entry_at c j)) numbers) h in
    named_one c s i (entry_at c i) (filter_map (entry_at c) numbers) refl t.0
    (named_all c s numbers t.1)

-- the entries that a statement names, where no reason is against it: of each statement but `lift`
pub taken : (c : Context) (s : Statement) → GaveGood c → ((r : Reason) → applies c s r ≡ false)
    → is_bad_reference c s ≡ not (list_all (λ i. may_take s (entry_at c i)) (numbers_in s))
    → is_wrong_scope c s ≡ not (list_all (λ a. a.scope == scope_taken c s) (entries_named c s))
    → Each (IsLineTaken c s) (entries_named c s)
taken c s g h p q = each_both (IsNamed c s) (λ a. (a.scope == scope_taken c s) ≡ true) (IsLineTaken c s)
    (entries_named c s)
    (λ a p q. record { named = p; scope_is = eqb-true a.scope (scope_taken c s) q; good = g p.given.0 a p.given.1 })
    (named_all c s (numbers_in s) (not-false (list_all (λ i. may_take s (entry_at c i)) (numbers_in s)) (sym p ∙ h BadReference)))
    (each_passes (λ a. a.scope == scope_taken c s) (entries_named c s) (not-false (list_all (λ a. a.scope == scope_taken c s) (entries_named c s)) (sym q
    ∙ h WrongScope)))
