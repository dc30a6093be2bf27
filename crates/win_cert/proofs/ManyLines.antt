-- An `or` of any number of entries has no reason against it exactly where the rule of OR applies to
-- the entries that it names.
use Rattle.std.proofs.Common.{◌≡◌, ℕ, ◌<◌, ◌≤◌, ◌==◌, ◌&&◌, ◌||◌, ◌⊎◌, not, min, max, true, false}
use Rattle.std.proofs.Common.{List, [], ◌∷◌, Option, Some, None, map, bit_or, refl, sym, ◌∙◌, ap}
use Rattle.std.proofs.Common.{subst, inl, inr, length, arith}
use Rattle.std.specs.Int.Bits.{or_zero_r}
use Rattle.std.specs.List.{All, cons_option, list_all}
use Rattle.std.proofs.lemmas.Bool.{and_from, and_parts, both_ways, eq-eqb, eqb-true}
use Rattle.std.proofs.lemmas.Bool.{false_from_ne_true, ne_eqb, not-false}
use Rattle.std.proofs.lemmas.Bool.{and_right as and_no}
use Rattle.std.proofs.lemmas.List.Elements.{All-cons, All-head, All-nil, All-tail}
use Rattle.std.proofs.lemmas.List.Folds.{list_all-map}
use Rattle.hex_cells.specs.Sets.{has}
use Rattle.hex_board.proofs.Search.{any_in}
use Rattle.conn_store.specs.Entries.{IsBetween, IsValid}
use Rattle.conn_store.specs.Rules.{OrRule, is_in_all, union_of}
use Rattle.conn_store.specs.Stores.{same_kind}
use Rattle.conn_store.specs.declared.entries.Entry.{Entry}
use Rattle.conn_store.specs.declared.entries.Kind.TheVariants.{Full, Semi}
use Rattle.conn_store.proofs.RuleEntries.{like_pair}
use Rattle.conn_store.proofs.Tables.{kinds_are}
use Rattle.win_cert.specs.Cuts.{scoped}
use Rattle.win_cert.specs.Entries.{Context, ScopedEntry, carriers_of, elements_at, entries_at}
use Rattle.win_cert.specs.Entries.{entry_at, gives, or_entry}
use Rattle.win_cert.specs.Reasons.{reason_against}
use Rattle.win_cert.specs.RuleLines.{AreNamed, IsClear, OrOverMany}
use Rattle.win_cert.specs.Statements.{have_same_ends, is_chain, is_or, kind_taken, may_take}
use Rattle.win_cert.specs.Statements.{same_ends, share_cell}
use Rattle.win_cert.specs.declared.lines.Line.{Line}
use Rattle.win_cert.specs.declared.lines.Line.TheVariants.{OrMany}
use Rattle.win_cert.specs.declared.reasons.Reason.TheVariants.{BadReference, CommonCell, EndsDiffer}
use Rattle.win_cert.specs.declared.statements.Statement.{Statement}
use Rattle.win_cert.specs.declared.statements.Statement.TheVariants.{Derivation}
use Rattle.win_cert.proofs.CutChains.{none_shared}
use Rattle.win_cert.proofs.CutSteps.{IsRight, many_reasons, or_clear, or_reason, same_entry}
use Rattle.win_cert.proofs.NamedEntries.{none_applies}
use Rattle.win_cert.proofs.ScopeBoards.{empty_small, scope_small}

-- ---- the entries that are named

-- earlier lines with these numbers gave these entries in the scope
abbrev pub AreThere : Context → List ℕ → List Entry → Type 0
AreThere c numbers entries =
    map (entry_at c) numbers ≡ map (λ (v : Entry). Some (scoped c.scope v)) entries

named_are : (c : Context) (numbers : List ℕ) (entries : List Entry) → AreThere c numbers entries
    → entries_at c numbers ≡ map (scoped c.scope) entries
named_are c [] [] h = refl
named_are c [] (a ∷ entries) h = absurd (cc)
named_are c (i ∷ numbers) [] h = absurd (cc)
named_are c (i ∷ numbers) (a ∷ entries) h =
    let first : entry_at c i ≡ Some (scoped c.scope a) = cc in
    let rest : AreThere c numbers entries = cc in
    ap (λ o. cons_option o (entries_at c numbers)) first
    ∙ ap (λ l. scoped c.scope a ∷ l) (named_are c numbers entries rest)

-- the statement may take all numbers if it may take all entries
all_taken : (c : Context) (s : Statement) (numbers : List ℕ) (entries : List Entry)
    → AreThere c numbers entries
    → list_all (λ i. may_take s (entry_at c i)) numbers
    ≡ list_all (λ (a : Entry). may_take s (Some (scoped c.scope a))) entries
all_taken c s numbers entries h = sym (list_all-map (may_take s) (entry_at c) numbers)
    ∙ ap (list_all (may_take s)) h
    ∙ list_all-map (may_take s) (λ (v : Entry). Some (scoped c.scope v)) entries

-- ---- carriers

-- of entries with cells of a board, no cell is in all carriers
pub none_in_all : (entries : List ScopedEntry)
    → ((k : ℕ) → list_all (λ (v : ScopedEntry). has v.carrier k) entries ≡ true → k < 121)
    → share_cell entries ≡ false
    → (k : ℕ) → list_all (λ (v : ScopedEntry). has v.carrier k) entries ≡ false
none_in_all entries l f k
    = false_from_ne_true (list_all (λ (v : ScopedEntry). has v.carrier k) entries)
    (λ t. both_ways (share_cell entries) f
    (any_in (λ j. list_all (λ (v : ScopedEntry). has v.carrier j) entries) 0 121 k (omega arith) (omega (arith, l k t)) t))

pub cell_small : (c : Context) (a : Entry) → c.base.board.size ≤ 11 → IsValid (elements_at c) a
    → (k : ℕ) → has a.carrier k ≡ true → k < 121
cell_small c a m v k h
    = empty_small (elements_at c) a.carrier (scope_small c.base c.scope m) v.empty k h

-- ---- no reason is against it: the rule applies

pub taken_kind : (s : Statement) (a : Entry) (scope : ℕ) (o : Option ScopedEntry)
    → o ≡ Some (scoped scope a) → may_take s o ≡ true → a.kind ≡ kind_taken s
taken_kind s a scope o e h =
    kinds_are a.kind (kind_taken s)
    (and_parts (same_kind a.kind (kind_taken s)) (not ((is_chain s || is_or s) && a.x == a.y)) (ap (may_take s) (sym e) ∙ h)).0

kinds_of : (s : Statement) (scope : ℕ) (entries : List Entry)
    → list_all (λ (a : Entry). may_take s (Some (scoped scope a))) entries ≡ true
    → All (λ (a : Entry). a.kind ≡ kind_taken s) entries
kinds_of s scope [] h = All-nil (λ (a : Entry). a.kind ≡ kind_taken s)
kinds_of s scope (a ∷ entries) h =
    let t = and_parts (may_take s (Some (scoped scope a)))
    (list_all (λ (b : Entry). may_take s (Some (scoped scope b))) entries) h in
    All-cons (λ (b : Entry). b.kind ≡ kind_taken s) a entries
    (taken_kind s a scope (Some (scoped scope a)) refl t.0) (kinds_of s scope entries t.1)

same_pair : (a b : Entry) → (a.x == b.x && a.y == b.y) ≡ true → (a.x ≡ b.x) × (a.y ≡ b.y)
same_pair a b h = let t = and_parts (a.x == b.x) (a.y == b.y) h in
    (eqb-true a.x b.x t.0, eqb-true a.y b.y t.1)

pairs_of : (a : Entry) (entries : List Entry) → a.x < a.y
    → list_all (λ (b : Entry). a.x == b.x && a.y == b.y) entries ≡ true
    → All (λ (b : Entry). IsBetween b a.x a.y) entries
pairs_of a [] l h = All-nil (λ (b : Entry). IsBetween b a.x a.y)
pairs_of a (b ∷ entries) l h =
    let t = and_parts (a.x == b.x && a.y == b.y)
    (list_all (λ (d : Entry). a.x == d.x && a.y == d.y) entries) h in
    let q = same_pair a b t.0 in
    All-cons (λ (d : Entry). IsBetween d a.x a.y) b entries (like_pair a b l q.0 q.1)
    (pairs_of a entries l t.1)

pub ways_mean : (c : Context) (s : Statement) (numbers : List ℕ) (a : Entry) (others : List Entry)
    → kind_taken s ≡ Semi → AreNamed c numbers (a ∷ others)
    → not (list_all (λ i. may_take s (entry_at c i)) numbers) ≡ false
    → not (have_same_ends (entries_at c numbers)) ≡ false
    → share_cell (entries_at c numbers) ≡ false → OrOverMany (a ∷ others) a.x a.y
ways_mean c s numbers a others k n take ends common =
    let all : List Entry = a ∷ others in
    let v = scoped c.scope a in
    let named : entries_at c numbers ≡ map (scoped c.scope) all = named_are c numbers all n.at in
    let valid = All-head (IsValid (elements_at c)) a others n.valid in
    let taken = sym (all_taken c s numbers all n.at)
    ∙ not-false (list_all (λ i. may_take s (entry_at c i)) numbers) take in
    let alike = not-false (list_all (same_ends v) (map (scoped c.scope) others))
    (ap (λ z. not (have_same_ends z)) (sym named) ∙ ends) in
    let free = none_in_all (map (scoped c.scope) all)
    (λ k g. cell_small c a n.size valid k (and_parts (has a.carrier k) (list_all (λ (w : ScopedEntry). has w.carrier k) (map (scoped c.scope) others)) g).0)
    (ap share_cell (sym named) ∙ common) in
    record {
      kinds = subst (λ v. All (λ (b : Entry). b.kind ≡ v) all) k (kinds_of s c.scope all taken);
      pairs = All-cons (λ (b : Entry). IsBetween b a.x a.y) a others
          (like_pair a a valid.order refl refl)
          (pairs_of a others valid.order (sym (list_all-map (same_ends v) (scoped c.scope) others) ∙ alike));
      free = λ k. sym (list_all-map (λ (w : ScopedEntry). has w.carrier k) (scoped c.scope) all)
          ∙ free k;
    }

pub many_means : (c : Context) (numbers : List ℕ) (a : Entry) (others : List Entry)
    → AreNamed c numbers (a ∷ others) → IsClear c (OrMany numbers)
    → OrOverMany (a ∷ others) a.x a.y
many_means c numbers a others n h = let f = none_applies c (Derivation (OrMany numbers)) h in
    ways_mean c (Derivation (OrMany numbers)) numbers a others refl n
    (f BadReference) (f EndsDiffer) (f CommonCell)

-- ---- the rule applies: no reason is against it

in_order : (a : Entry) (x y : ℕ) → x < y → IsBetween a x y → (a.x ≡ x) × (a.y ≡ y)
in_order a x y l q = let first : a.x ≡ min x y = q.0 in let second : a.y ≡ max x y = q.1 in
    (omega arith, omega arith)

differ : (a : Entry) (x y : ℕ) → x < y → IsBetween a x y → a.x ≡ a.y → ⊥
differ a x y l q e = let t = in_order a x y l q in absurd (omega (arith, t.0, t.1))

one_taken : (s : Statement) (scope : ℕ) (a : Entry) (x y : ℕ) → kind_taken s ≡ Semi → x < y
    → a.kind ≡ Semi → IsBetween a x y → may_take s (Some (scoped scope a)) ≡ true
one_taken s scope a x y h l k q =
    ap (λ v. same_kind v (kind_taken s) && not ((is_chain s || is_or s) && a.x == a.y)) k
    ∙ ap (λ v. same_kind Semi v && not ((is_chain s || is_or s) && a.x == a.y)) h
    ∙ ap not (and_no (is_chain s || is_or s) (a.x == a.y) (ne_eqb a.x a.y (differ a x y l q)))

each_taken : (s : Statement) (scope x y : ℕ) (entries : List Entry) → kind_taken s ≡ Semi → x < y
    → All (λ (a : Entry). a.kind ≡ Semi) entries → All (λ (a : Entry). IsBetween a x y) entries
    → list_all (λ (a : Entry). may_take s (Some (scoped scope a))) entries ≡ true
each_taken s scope x y [] h l k q = refl
each_taken s scope x y (a ∷ entries) h l k q =
    and_from (may_take s (Some (scoped scope a)))
    (list_all (λ (b : Entry). may_take s (Some (scoped scope b))) entries)
    (one_taken s scope a x y h l (All-head (λ (b : Entry). b.kind ≡ Semi) a entries k) (All-head (λ (b : Entry). IsBetween b x y) a entries q))
    (each_taken s scope x y entries h l (All-tail (λ (b : Entry). b.kind ≡ Semi) a entries k) (All-tail (λ (b : Entry). IsBetween b x y) a entries q))

in_scope : (s : ℕ) (entries : List Entry)
    → list_all (λ (v : ScopedEntry). v.scope == s) (map (scoped s) entries) ≡ true
in_scope s [] = refl
in_scope s (a ∷ entries) = and_from (s == s)
    (list_all (λ (v : ScopedEntry). v.scope == s) (map (scoped s) entries)) (eq-eqb s s refl)
    (in_scope s entries)

are_alike : (a : Entry) (x y : ℕ) (entries : List Entry) → IsBetween a x y
    → All (λ (b : Entry). IsBetween b x y) entries
    → list_all (λ (b : Entry). a.x == b.x && a.y == b.y) entries ≡ true
are_alike a x y [] p q = refl
are_alike a x y (b ∷ entries) p q =
    let h = All-head (λ (d : Entry). IsBetween d x y) b entries q in
    and_from (a.x == b.x && a.y == b.y)
    (list_all (λ (d : Entry). a.x == d.x && a.y == d.y) entries)
    (and_from (a.x == b.x) (a.y == b.y) (eq-eqb a.x b.x (p.0 ∙ sym h.0)) (eq-eqb a.y b.y (p.1 ∙ sym h.1)))
    (are_alike a x y entries p (All-tail (λ (d : Entry). IsBetween d x y) b entries q))

pub ways_clear : (c : Context) (s : Statement) (numbers : List ℕ) (a : Entry) (others : List Entry)
    (x y : ℕ) → kind_taken s ≡ Semi → x < y → AreThere c numbers (a ∷ others)
    → All (λ (b : Entry). b.kind ≡ Semi) (a ∷ others)
    → All (λ (b : Entry). IsBetween b x y) (a ∷ others)
    → ((k : ℕ) → is_in_all (a ∷ others) k ≡ false) → or_reason c s numbers ≡ None
ways_clear c s numbers a others x y h l at kinds pairs free =
    let all : List Entry = a ∷ others in
    let named : entries_at c numbers ≡ map (scoped c.scope) all = named_are c numbers all at in
    or_clear (not (list_all (λ i. may_take s (entry_at c i)) numbers))
    (not (list_all (λ e. e.scope == c.scope) (entries_at c numbers)))
    (not (have_same_ends (entries_at c numbers))) (share_cell (entries_at c numbers))
    (ap not (all_taken c s numbers all at ∙ each_taken s c.scope x y all h l kinds pairs))
    (ap not (ap (list_all (λ e. e.scope == c.scope)) named ∙ in_scope c.scope all))
    (ap not (ap have_same_ends named ∙ list_all-map (same_ends (scoped c.scope a)) (scoped c.scope) others
    ∙ are_alike a x y others (All-head (λ (b : Entry). IsBetween b x y) a others pairs) (All-tail (λ (b : Entry). IsBetween b x y) a others pairs)))
    (ap share_cell named ∙ none_shared (map (scoped c.scope) all) (λ k. list_all-map (λ (w : ScopedEntry). has w.carrier k) (scoped c.scope) all ∙ free k))

pub many_clear : (c : Context) (numbers : List ℕ) (a : Entry) (others : List Entry)
    → AreNamed c numbers (a ∷ others) → OrOverMany (a ∷ others) a.x a.y
    → IsClear c (OrMany numbers)
many_clear c numbers a others n r = many_reasons c numbers
    ∙ ways_clear c (Derivation (OrMany numbers)) numbers a others a.x a.y refl
    (All-head (IsValid (elements_at c)) a others n.valid).order n.at r.kinds r.pairs r.free

-- ---- what it gives

union_more : (a : Entry) (ways : List Entry) → union_of (a ∷ ways) ≡ bit_or a.carrier (union_of ways)
union_more a [] = sym (or_zero_r a.carrier)
union_more a (b ∷ ways) = refl

carriers_are : (s : ℕ) (ways : List Entry) → carriers_of (map (scoped s) ways) ≡ union_of ways
carriers_are s [] = refl
carriers_are s (a ∷ ways)
    = ap (bit_or a.carrier) (carriers_are s ways) ∙ sym (union_more a ways)

pub few_ways : (ways : List Entry) (x y n : ℕ) → OrRule ways x y → length ways ≡ n → n < 2 → ⊥
few_ways ways x y n r h l = few r.number
  where
    few : (length ways ≡ 2) ⊎ (length ways ≡ 3) → ⊥
    few (inl q) = absurd (omega arith)
    few (inr q) = absurd (omega arith)

-- the line of an `or` over ways of r's elements gives r
pub ways_right : (c : Context) (line : Line) (numbers : List ℕ) (ways : List Entry) (r : Entry)
    → gives c line ≡ or_entry c (entries_at c numbers)
    → reason_against c (Derivation line) ≡ or_reason c (Derivation line) numbers
    → kind_taken (Derivation line) ≡ Semi → r.x < r.y → AreThere c numbers ways
    → OrRule ways r.x r.y → r.kind ≡ Full → r.carrier ≡ union_of ways → IsRight c line r
ways_right c line numbers [] r g reasons h l at rule k m
    = absurd (few_ways [] r.x r.y 0 rule refl (omega arith))
ways_right c line numbers (a ∷ others) r g reasons h l at rule k m =
    let t = in_order a r.x r.y l
    (All-head (λ (b : Entry). IsBetween b r.x r.y) a others rule.pairs) in
    let least : min a.x a.y ≡ r.x = omega (arith, t.0, t.1) in
    let greatest : max a.x a.y ≡ r.y = omega (arith, t.0, t.1) in (
      g ∙ ap (or_entry c) (named_are c numbers (a ∷ others) at)
          ∙ ap Some
          (same_entry r Full (min a.x a.y) (max a.x a.y) (carriers_of (map (scoped c.scope) (a ∷ others)))
          c.scope (sym k) least greatest (carriers_are c.scope (a ∷ others) ∙ sym m)),
      reasons
          ∙ ways_clear c (Derivation line) numbers a others r.x r.y h l at rule.kinds rule.pairs rule.free,
    )
