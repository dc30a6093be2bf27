-- The reasons against `and` and `key`, if both entries are there and stand in the scope.
use Rattle.std.proofs.Common.{◌≡◌, ℕ, ◌<◌, ◌==◌, List, [], ◌∷◌, ◌||◌, not, Option, Some, None, Bool}
use Rattle.std.proofs.Common.{true, false, refl, sym, ◌∙◌, ap, subst, bit_or, if◌then◌else◌}
use Rattle.std.specs.List.{list_all}
use Rattle.std.specs.Option.{is_none, is_some, option_and_then, option_map, option_map_or}
use Rattle.std.specs.Int.Bits.{or_zero_r}
use Rattle.std.proofs.lemmas.Bool.{and_parts, eqb-true, false≢true, true≢false}
use Rattle.hex_cells.specs.Sets.{with_cell}
use Rattle.hex_board.specs.Elements.{PlayerBoard, element_count}
use Rattle.hex_board.specs.Places.{cell_of}
use Rattle.conn_store.specs.declared.entries.Kind.TheVariants.{Full, Semi}
use Rattle.win_cert.specs.Entries.{Context, ScopedEntry, and_entry, carriers_of, elements_at}
use Rattle.win_cert.specs.Entries.{entries_at, entry_at, entry_between, gives, is_end, key_entry}
use Rattle.win_cert.specs.Entries.{middle_of, other_end}
use Rattle.win_cert.specs.Reasons.{holds_of_chain, reason_against, is_bad_reference, is_wrong_scope}
use Rattle.win_cert.specs.declared.reasons.Reason.{Reason}
use Rattle.win_cert.specs.declared.reasons.Reason.TheVariants.{NoCommonMiddle, CarriersMeet}
use Rattle.win_cert.specs.declared.reasons.Reason.TheVariants.{EndInCarrier, MiddleKind}
use Rattle.win_cert.specs.Scopes.{elements_in}
use Rattle.win_cert.specs.Statements.{is_cell_in, may_take, share_cell}
use Rattle.win_cert.specs.declared.statements.Statement.TheVariants.{Derivation}
use Rattle.cert_check.specs.Keeping.{AreBothNamed, IsGivenOn, TakesKind, chain_line, entry_of}
use Rattle.cert_check.specs.declared.given.Given.{Given}
use Rattle.cert_check.proofs.ReasonLaws.{chain_reasons, told, told_next}
use Rattle.win_cert.proofs.CutChains.{two_at}

-- whether the middle is of the other sort
abbrev pub is_wrong_middle : Bool → Option ℕ → Bool
is_wrong_middle true o = is_none o
is_wrong_middle false o = is_some o

-- the reason against the two entries with this middle
abbrev pub chain_reason : Context → Bool → ScopedEntry → ScopedEntry → Option ℕ → Option Reason
chain_reason c over_cell a b None = Some NoCommonMiddle
chain_reason c over_cell a b (Some u) =
    told (share_cell (a ∷ b ∷ [])) CarriersMeet
    (told (is_cell_in (elements_at c) (other_end a u) b.carrier || is_cell_in (elements_at c) (other_end b u) a.carrier) EndInCarrier
    (told (is_wrong_middle over_cell (cell_of (elements_at c) u)) MiddleKind None))

-- the last four reasons, of the entries that are named
abbrev pub last_reasons : Context → Bool → List ScopedEntry → Option Reason
last_reasons c over_cell es =
    told (not (holds_of_chain (λ a b u. true) es)) NoCommonMiddle
    (told (share_cell es) CarriersMeet
    (told (holds_of_chain (λ a b u. is_cell_in (elements_at c) (other_end a u) b.carrier
    || is_cell_in (elements_at c) (other_end b u) a.carrier) es) EndInCarrier
    (told (holds_of_chain (λ a b u. is_wrong_middle over_cell (cell_of (elements_at c) u)) es) MiddleKind None)))

by_middle : (c : Context) (over_cell : Bool) (a b : ScopedEntry) (m : Option ℕ)
    → told (not (option_map_or (λ u. true) m false)) NoCommonMiddle
    (told (share_cell (a ∷ b ∷ [])) CarriersMeet
    (told (option_map_or (λ u. is_cell_in (elements_at c) (other_end a u) b.carrier
    || is_cell_in (elements_at c) (other_end b u) a.carrier) m false) EndInCarrier
    (told (option_map_or (λ u. is_wrong_middle over_cell (cell_of (elements_at c) u)) m false) MiddleKind None)))
    ≡ chain_reason c over_cell a b m
by_middle c over_cell a b None = refl
by_middle c over_cell a b (Some u) = refl

-- the four tests, over the entries that are named
after_scopes : (c : Context) (over_cell : Bool) (i j : ℕ) (a b : ScopedEntry)
    → entries_at c (i ∷ j ∷ []) ≡ a ∷ b ∷ []
    → is_bad_reference c (Derivation (chain_line over_cell i j)) ≡ false
    → is_wrong_scope c (Derivation (chain_line over_cell i j)) ≡ false
    → reason_against c (Derivation (chain_line over_cell i j)) ≡ last_reasons c over_cell
    (a ∷ b ∷ [])
after_scopes c true i j a b e r s = chain_reasons c true i j
    ∙ told_next _ _ _ _ r (told_next _ _ _ _ s (ap (last_reasons c true) e))
after_scopes c false i j a b e r s = chain_reasons c false i j
    ∙ told_next _ _ _ _ r (told_next _ _ _ _ s (ap (last_reasons c false) e))

-- the reason, by the middle
pub join_reason : (c : Context) (over_cell : Bool) (i j : ℕ) (a b : ScopedEntry) (m : Option ℕ)
    → entries_at c (i ∷ j ∷ []) ≡ a ∷ b ∷ []
    → is_bad_reference c (Derivation (chain_line over_cell i j)) ≡ false
    → is_wrong_scope c (Derivation (chain_line over_cell i j)) ≡ false
    → middle_of a b ≡ m
    → reason_against c (Derivation (chain_line over_cell i j)) ≡ chain_reason c over_cell a b m
join_reason c over_cell i j a b m e r s h =
    after_scopes c over_cell i j a b e r s ∙ by_middle c over_cell a b (middle_of a b)
    ∙ ap (chain_reason c over_cell a b) h

two_carriers : (a b : ScopedEntry) → carriers_of (a ∷ b ∷ []) ≡ bit_or a.carrier b.carrier
two_carriers a b = ap (bit_or a.carrier) (or_zero_r b.carrier)

-- ---- by the checker's tests

-- the reason if the two entries have the middle u: whether the carriers meet, whether one of the
-- other ends x and y is in the other carrier, and whether the middle is of the other sort
pub joined : {c : Context} {o : Bool} {i j u x y : ℕ} {a b : Given} {m : Option ℕ} {meet inside wrong : Bool} → AreBothNamed c o i j a b
    → m ≡ middle_of (entry_of a) (entry_of b) → m ≡ Some u
    → meet ≡ share_cell (entries_at c (i ∷ j ∷ []))
    → x ≡ other_end (entry_of a) u → y ≡ other_end (entry_of b) u
    → inside ≡ (is_cell_in (elements_at c) x b.carrier || is_cell_in (elements_at c) y a.carrier)
    → wrong ≡ is_wrong_middle o (cell_of (elements_at c) u)
    → reason_against c (Derivation (chain_line o i j)) ≡ told meet CarriersMeet
    (told inside EndInCarrier (told wrong MiddleKind None))
joined {c = c} {o = o} {i = i} {j = j} {u = u} {x = x} {a = a} {b = b} n is some shares x_is y_is in_carrier of_middle =
    let e = elements_at c in
    let two = two_at c i j (entry_of a) (entry_of b) n.first n.second in
    let reason = join_reason c o i j (entry_of a) (entry_of b) (Some u) two n.references n.scopes
    (sym is ∙ some) in
    let share = ap share_cell (sym two) ∙ sym shares in
    let ends = ap (λ v. is_cell_in e v b.carrier || is_cell_in e (other_end (entry_of b) u) a.carrier) (sym x_is)
    ∙ ap (λ v. is_cell_in e x b.carrier || is_cell_in e v a.carrier) (sym y_is) ∙ sym in_carrier in
    cc (reason, share, ends, sym of_middle)

-- whether the middle is of the other sort, by what cell it is
pub wrong_is : (c : Context) (u : ℕ) {o p : Bool} {e : PlayerBoard} {q r : Option ℕ}
    → e ≡ elements_at c → q ≡ cell_of e u → q ≡ r → o ≡ p
    → is_wrong_middle p r ≡ is_wrong_middle o (cell_of (elements_at c) u)
wrong_is c u {p = p} at is found test =
    ap (is_wrong_middle p) (sym (ap (λ e. cell_of e u) (sym at) ∙ sym is ∙ found))
    ∙ ap (λ t. is_wrong_middle t (cell_of (elements_at c) u)) (sym test)

-- what a `key` gives, and an `and`
pub key_gives : (c : Context) (over_cell : Bool) (i j : ℕ) (a b : ScopedEntry) (u k : ℕ)
    → over_cell ≡ true → entries_at c (i ∷ j ∷ []) ≡ a ∷ b ∷ []
    → middle_of a b ≡ Some u → cell_of (elements_at c) u ≡ Some k
    → gives c (chain_line over_cell i j) ≡ Some
    (entry_between c Semi (other_end a u) (other_end b u) (with_cell (bit_or a.carrier b.carrier) k))
key_gives c true i j a b u k o e h q = ap (key_entry c) e
    ∙ ap (option_and_then (λ v. option_map (λ l. entry_between c Semi (other_end a v) (other_end b v) (with_cell (carriers_of (a ∷ b ∷ [])) l))
    (cell_of (elements_at c) v))) h
    ∙ ap (option_map (λ l. entry_between c Semi (other_end a u) (other_end b u) (with_cell (carriers_of (a ∷ b ∷ [])) l))) q
    ∙ ap (λ s. Some (entry_between c Semi (other_end a u) (other_end b u) (with_cell s k)))
    (two_carriers a b)
key_gives c false i j a b u k o e h q = absurd (false≢true o)

pub and_gives : (c : Context) (over_cell : Bool) (i j : ℕ) (a b : ScopedEntry) (u : ℕ)
    → over_cell ≡ false → entries_at c (i ∷ j ∷ []) ≡ a ∷ b ∷ []
    → middle_of a b ≡ Some u
    → gives c (chain_line over_cell i j) ≡ Some
    (entry_between c Full (other_end a u) (other_end b u) (bit_or a.carrier b.carrier))
and_gives c true i j a b u o e h = absurd (true≢false o)
and_gives c false i j a b u o e h = ap (and_entry c) e
    ∙ ap (option_map (λ v. entry_between c Full (other_end a v) (other_end b v) (carriers_of (a ∷ b ∷ [])))) h
    ∙ ap (λ s. Some (entry_between c Full (other_end a u) (other_end b u) s)) (two_carriers a b)

-- the same of the entry g between the other ends x and y, with the cells of both carriers
pub key_given : {c : Context} {o : Bool} {i j u k x y s t : ℕ} {a b : Given} {m q : Option ℕ} {e : PlayerBoard} {g : ScopedEntry} → AreBothNamed c o i j a b
    → o ≡ true
    → m ≡ middle_of (entry_of a) (entry_of b) → m ≡ Some u → e ≡ elements_at c → q ≡ cell_of e u
    → q ≡ Some k → x ≡ other_end (entry_of a) u → y ≡ other_end (entry_of b) u
    → s ≡ bit_or a.carrier b.carrier → t ≡ with_cell s k → g ≡ entry_between c Semi x y t
    → gives c (chain_line o i j) ≡ Some g
key_given {c = c} {o = o} {i = i} {j = j} {u = u} {k = k} {a = a} {b = b} n key is some at cell found x_is y_is both with is_g =
    let two = two_at c i j (entry_of a) (entry_of b) n.first n.second in
    let given = key_gives c o i j (entry_of a) (entry_of b) u k key two (sym is ∙ some)
    (ap (λ e. cell_of e u) (sym at) ∙ sym cell ∙ found) in
    cc (given, x_is, y_is, both, with, is_g)

pub and_given : {c : Context} {o : Bool} {i j u x y s : ℕ} {a b : Given} {m : Option ℕ} {g : ScopedEntry} → AreBothNamed c o i j a b → o ≡ false
    → m ≡ middle_of (entry_of a) (entry_of b) → m ≡ Some u → x ≡ other_end (entry_of a) u
    → y ≡ other_end (entry_of b) u
    → s ≡ bit_or a.carrier b.carrier → g ≡ entry_between c Full x y s
    → gives c (chain_line o i j) ≡ Some g
and_given {c = c} {o = o} {i = i} {j = j} {u = u} {a = a} {b = b} n plain is some x_is y_is both is_g =
    let two = two_at c i j (entry_of a) (entry_of b) n.first n.second in
    let given = and_gives c o i j (entry_of a) (entry_of b) u plain two (sym is ∙ some) in
    cc (given, x_is, y_is, both, is_g)

-- ---- the elements

pick : (b : Bool) (x y n : ℕ) → x < n → y < n → (if b then x else y) < n
pick true x y n h e = h
pick false x y n h e = e

pub other_below : (c : Context) (a : Given) (u : ℕ) → a.scope ≡ c.scope → IsGivenOn c.base a
    → other_end (entry_of a) u < element_count (elements_at c)
other_below c a u s g = pick (a.x == u) a.y a.x (element_count (elements_at c))
    (subst (λ t. a.y < element_count (elements_in c.base t)) s g.y)
    (subst (λ t. a.x < element_count (elements_in c.base t)) s g.x)

-- one of the two if it alone is shared
abbrev shared : Bool → Bool → ℕ → ℕ → Option ℕ
shared p q x y = if p then (if q then None else Some x) else (if q then Some y else None)

shared_below : (p q : Bool) (x y u n : ℕ) → shared p q x y ≡ Some u → x < n → y < n → u < n
shared_below true true x y u n h l m = absurd (cc)
shared_below true false x y u n h l m = let e : x ≡ u = cc in subst (λ v. v < n) e l
shared_below false true x y u n h l m = let e : y ≡ u = cc in subst (λ v. v < n) e m
shared_below false false x y u n h l m = absurd (cc)

pub middle_below : (c : Context) (a : Given) (b : ScopedEntry) (u : ℕ) → a.scope ≡ c.scope
    → IsGivenOn c.base a → middle_of (entry_of a) b ≡ Some u → u < element_count (elements_at c)
middle_below c a b u s g h = shared_below (is_end b a.x) (is_end b a.y) a.x a.y u
    (element_count (elements_at c)) h
    (subst (λ t. a.x < element_count (elements_in c.base t)) s g.x)
    (subst (λ t. a.y < element_count (elements_in c.base t)) s g.y)

-- the other ends of two entries that are named are elements
pub first_below : {c : Context} {o : Bool} {i j x : ℕ} {a b : Given} (u : ℕ)
    → AreBothNamed c o i j a b → x ≡ other_end (entry_of a) u → x < element_count (elements_at c)
first_below {c = c} {a = a} u n e = subst (λ v. v < element_count (elements_at c)) (sym e)
    (other_below c a u n.first_scope n.first_given)

pub second_below : {c : Context} {o : Bool} {i j y : ℕ} {a b : Given} (u : ℕ)
    → AreBothNamed c o i j a b → y ≡ other_end (entry_of b) u → y < element_count (elements_at c)
second_below {c = c} {b = b} u n e = subst (λ v. v < element_count (elements_at c)) (sym e)
    (other_below c b u n.second_scope n.second_given)

-- ---- what is asked of the entries that are named

pub chain_takes : (over_cell : Bool) (i j : ℕ)
    → TakesKind (Derivation (chain_line over_cell i j)) Full true
chain_takes true i j = (refl, refl)
chain_takes false i j = (refl, refl)

pub chain_bad : (c : Context) (over_cell : Bool) (i j : ℕ) (b : Bool)
    → b ≡ list_all (λ k. may_take (Derivation (chain_line over_cell i j)) (entry_at c k))
    (i ∷ j ∷ [])
    → is_bad_reference c (Derivation (chain_line over_cell i j)) ≡ not b
chain_bad c true i j b h = ap not (sym h)
chain_bad c false i j b h = ap not (sym h)

pub chain_scopes : (c : Context) (over_cell : Bool) (i j : ℕ) (b : Bool)
    → b ≡ list_all (λ a. a.scope == c.scope) (entries_at c (i ∷ j ∷ []))
    → is_wrong_scope c (Derivation (chain_line over_cell i j)) ≡ not b
chain_scopes c true i j b h = ap not (sym h)
chain_scopes c false i j b h = ap not (sym h)

pub two_scopes : (a b : ScopedEntry) (s : ℕ) → list_all (λ e. e.scope == s) (a ∷ b ∷ []) ≡ true
    → (a.scope ≡ s) × (b.scope ≡ s)
two_scopes a b s h =
    let p = and_parts (a.scope == s) (list_all (λ e. e.scope == s) (b ∷ [])) h in
    let q = and_parts (b.scope == s) true p.1 in
    (eqb-true a.scope s p.0, eqb-true b.scope s q.0)
