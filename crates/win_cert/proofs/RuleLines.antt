-- A line of a rule has no reason against it exactly where the rule applies to the entries that it
-- names.
use Rattle.std.proofs.Common.{◌≡◌, ℕ, ◌<◌, ◌==◌, ◌&&◌, ◌||◌, ◌⊎◌, not, min, max, true, false}
use Rattle.std.proofs.Common.{Bool, [], ◌∷◌, Option, Some, None, map, if◌then◌else◌}
use Rattle.std.proofs.Common.{refl, sym, ◌∙◌, ap, inl, inr, arith}
use Rattle.std.specs.Option.{is_none, is_some, option_map_or}
use Rattle.std.proofs.lemmas.Bool.{and_parts, both_ways, cases_eq, eq-eqb}
use Rattle.std.proofs.lemmas.Bool.{or_left, or_parts, or_right, true≢false}
use Rattle.std.proofs.lemmas.List.Elements.{All-head}
use Rattle.hex_cells.specs.Sets.{has, with_cell}
use Rattle.hex_board.specs.Elements.{PlayerBoard}
use Rattle.hex_board.specs.Places.{cell_of}
use Rattle.conn_store.specs.Entries.{IsBetween, IsValid}
use Rattle.conn_store.specs.Rules.{AndRule, IsChain, OrRule, both_of}
use Rattle.conn_store.specs.declared.entries.Cause.TheVariants.{Adjacent}
use Rattle.conn_store.specs.declared.entries.Entry.{Entry}
use Rattle.conn_store.specs.declared.entries.Kind.{Kind}
use Rattle.conn_store.specs.declared.entries.Kind.TheVariants.{Full, Semi}
use Rattle.conn_store.proofs.RuleEntries.{both_not}
use Rattle.conn_store.proofs.RuleTruth.{second_of}
use Rattle.hsearch.proofs.Orders.{turned_pair}
use Rattle.win_cert.specs.Cuts.{scoped}
use Rattle.win_cert.specs.Entries.{Context, ScopedEntry, elements_at, entries_at, entry_at, is_end}
use Rattle.win_cert.specs.Entries.{middle_of, other_end}
use Rattle.win_cert.specs.Reasons.{holds_of_chain}
use Rattle.win_cert.specs.declared.reasons.Reason.TheVariants.{BadReference, CarriersMeet}
use Rattle.win_cert.specs.declared.reasons.Reason.TheVariants.{CommonCell, EndInCarrier, EndsDiffer}
use Rattle.win_cert.specs.declared.reasons.Reason.TheVariants.{MiddleKind, NoCommonMiddle}
use Rattle.win_cert.specs.RuleLines.{AreNamed, IsClear, JoinOverCell, JoinOverGroup}
use Rattle.win_cert.specs.declared.statements.Statement.{Statement}
use Rattle.win_cert.specs.declared.statements.Statement.TheVariants.{Derivation}
use Rattle.win_cert.specs.Statements.{is_cell_in, kind_taken}
use Rattle.win_cert.specs.Statements.{may_take, share_cell}
use Rattle.win_cert.specs.declared.lines.Line.TheVariants.{And, Key, Or2, Or3}
use Rattle.win_cert.proofs.CutChains.{two_at}
use Rattle.win_cert.proofs.CutSteps.{IsChainAt, and_right, key_right, three_reasons, two_reasons}
use Rattle.win_cert.proofs.ManyLines.{cell_small, none_in_all, taken_kind, ways_clear, ways_mean}
use Rattle.win_cert.proofs.Middles.{IsEndOf, is_cell, is_group, middle_ends, misses_by, other_first}
use Rattle.win_cert.proofs.Middles.{other_second, second_then}
use Rattle.win_cert.proofs.NamedEntries.{none_applies}

-- ---- the entries that are named

two_there : (c : Context) (i j : ℕ) (a b : Entry)
    → map (entry_at c) (i ∷ j ∷ []) ≡ map (λ (v : Entry). Some (scoped c.scope v)) (a ∷ b ∷ [])
    → (entry_at c i ≡ Some (scoped c.scope a)) × (entry_at c j ≡ Some (scoped c.scope b))
two_there c i j a b h = (cc, cc)

two_taken : (p q : Bool) → not (p && (q && true)) ≡ false → (p ≡ true) × (q ≡ true)
two_taken true true h = (refl, refl)
two_taken true false h = absurd (true≢false h)
two_taken false q h = absurd (true≢false h)

-- ---- the middle of two entries

picked : (p q : Bool) (v w u : ℕ)
    → (if p then (if q then None else Some v) else (if q then Some w else None)) ≡ Some u
    → ((p ≡ true) × (q ≡ false) × (v ≡ u)) ⊎ ((p ≡ false) × (q ≡ true) × (w ≡ u))
picked true true v w u h = absurd (cc)
picked true false v w u h = inl (refl, refl, cc)
picked false true v w u h = inr (refl, refl, cc)
picked false false v w u h = absurd (cc)

-- an entry's other end is one of its elements
other_in : (b : ScopedEntry) (u : ℕ) → is_end b (other_end b u) ≡ true
other_in b u = elim (cases_eq b.x u) [
  | inl q ↦ ap (is_end b) (other_second b u q)
      ∙ or_right (b.x == b.y) (b.y == b.y) (eq-eqb b.y b.y refl)
  | inr n ↦ ap (is_end b) (other_first b u n)
      ∙ or_left (b.x == b.x) (b.y == b.x) (eq-eqb b.x b.x refl)
]

not_low : (x y u : ℕ) → x < y → y ≡ u → x ≡ u → ⊥
not_low x y u l q e = absurd (omega arith)

-- two entries that share one element alone have two other ends
others_differ : (a b : ScopedEntry) (u : ℕ) → a.x < a.y → middle_of a b ≡ Some u
    → other_end a u ≡ other_end b u → ⊥
others_differ a b u l h e = elim (picked (is_end b a.x) (is_end b a.y) a.x a.y u h) [
  | inl p ↦ both_ways (is_end b a.y) p.1
      (ap (is_end b) (sym (other_second a u p.2) ∙ e) ∙ other_in b u)
  | inr p ↦ both_ways (is_end b a.x) p.0
      (ap (is_end b) (sym (other_first a u (not_low a.x a.y u l p.2)) ∙ e) ∙ other_in b u)
]

pair_second : (a : Entry) (u v : ℕ) → a.x < a.y → a.x ≡ u → v ≡ a.y → IsBetween a v u
pair_second a u v l q e = (omega arith, omega arith)

pair_first : (a : Entry) (u v : ℕ) → a.x < a.y → a.y ≡ u → v ≡ a.x → IsBetween a v u
pair_first a u v l q e = (omega arith, omega arith)

pair_with : (a : Entry) (s u : ℕ) → a.x < a.y → IsEndOf (scoped s a) u
    → IsBetween a (other_end (scoped s a) u) u
pair_with a s u l h = elim (cases_eq a.x u) [
  | inl q ↦ pair_second a u (other_end (scoped s a) u) l q (other_second (scoped s a) u q)
  | inr n ↦ pair_first a u (other_end (scoped s a) u) l (second_then (scoped s a) u h n)
      (other_first (scoped s a) u n)
]

chain_of : (a b : Entry) (s u : ℕ) → a.x < a.y → b.x < b.y
    → middle_of (scoped s a) (scoped s b) ≡ Some u
    → IsChain a b (other_end (scoped s a) u) u (other_end (scoped s b) u)
chain_of a b s u l m h =
    let t = middle_ends (scoped s a) (scoped s b) u h in
    record {
      first = pair_with a s u l t.0;
      second = turned_pair b (other_end (scoped s b) u) u (pair_with b s u m t.1);
      ends = others_differ (scoped s a) (scoped s b) u l h;
    }

-- ---- `and` and `key`

some_middle : (o : Option ℕ) → not (option_map_or (λ u. true) o false) ≡ false
    → (u : ℕ) × (o ≡ Some u)
some_middle None h = absurd (true≢false h)
some_middle (Some u) h = (u, refl)

some_cell : (o : Option ℕ) → is_none o ≡ false → (k : ℕ) × (o ≡ Some k)
some_cell None h = absurd (true≢false h)
some_cell (Some k) h = (k, refl)

-- an end of one entry is a cell of the other's carrier
abbrev ends_meet : PlayerBoard → ScopedEntry → ScopedEntry → ℕ → Bool
ends_meet e v w z = is_cell_in e (other_end v z) w.carrier || is_cell_in e (other_end w z) v.carrier

-- an entry that a rule may give
abbrev entry_of : Kind → ℕ → ℕ → ℕ → Entry
entry_of kind x y c = record { kind = kind; x = min x y; y = max x y; carrier = c; cause = Adjacent }

-- what both lines ask
record IsChainLine (c : Context) (a b : Entry) : Type 0 where
  pub middle : ℕ
  pub is : middle_of (scoped c.scope a) (scoped c.scope b) ≡ Some middle
  pub rule : AndRule (elements_at c) a b (other_end (scoped c.scope a) middle) middle
      (other_end (scoped c.scope b) middle)

module _ (c : Context) (i j : ℕ) (a b : Entry) (n : AreNamed c (i ∷ j ∷ []) (a ∷ b ∷ [])) where
  named_pair : entries_at c (i ∷ j ∷ []) ≡ scoped c.scope a ∷ scoped c.scope b ∷ []
  named_pair = let t = two_there c i j a b n.at in
      two_at c i j (scoped c.scope a) (scoped c.scope b) t.0 t.1

  -- a test of the two entries and their middle
  at_middle : (test : ScopedEntry → ScopedEntry → ℕ → Bool) (u : ℕ)
      → middle_of (scoped c.scope a) (scoped c.scope b) ≡ Some u
      → holds_of_chain test (entries_at c (i ∷ j ∷ [])) ≡ test (scoped c.scope a) (scoped c.scope b) u
  at_middle test u is = ap (holds_of_chain test) named_pair
      ∙ ap (λ o. option_map_or (test (scoped c.scope a) (scoped c.scope b)) o false) is

  chain_line : (s : Statement) → kind_taken s ≡ Full
      → not (may_take s (entry_at c i) && (may_take s (entry_at c j) && true)) ≡ false
      → not (holds_of_chain (λ v w z. true) (entries_at c (i ∷ j ∷ []))) ≡ false
      → share_cell (entries_at c (i ∷ j ∷ [])) ≡ false
      → holds_of_chain (ends_meet (elements_at c)) (entries_at c (i ∷ j ∷ [])) ≡ false
      → IsChainLine c a b
  chain_line s full ht hm hs he =
      let e = elements_at c in
      let v = scoped c.scope a in
      let w = scoped c.scope b in
      let t = two_there c i j a b n.at in
      let k = two_taken (may_take s (entry_at c i)) (may_take s (entry_at c j)) ht in
      let va = All-head (IsValid e) a (b ∷ []) n.valid in
      let vb = second_of (IsValid e) a b [] n.valid in
      let m = some_middle (middle_of v w)
      (ap (λ z. not (holds_of_chain (λ v w z. true) z)) (sym named_pair) ∙ hm) in
      let free = none_in_all (v ∷ w ∷ [])
      (λ k h. cell_small c a n.size va k (and_parts (has a.carrier k) (has b.carrier k && true) h).0) (ap share_cell (sym named_pair) ∙ hs) in
      let ends = or_parts (is_cell_in e (other_end v m.0) b.carrier)
      (is_cell_in e (other_end w m.0) a.carrier) (sym (at_middle (ends_meet e) m.0 m.1) ∙ he) in
      record {
        middle = m.0;
        is = m.1;
        rule = record {
          first_kind = taken_kind s a c.scope (entry_at c i) t.0 k.0 ∙ full;
          second_kind = taken_kind s b c.scope (entry_at c j) t.1 k.1 ∙ full;
          chain = chain_of a b c.scope m.0 va.order vb.order m.1;
          apart = λ k h g. both_not (has a.carrier k) (has b.carrier k) (free k) h g;
          first_end = misses_by e (other_end v m.0) b.carrier vb.empty ends.0;
          second_end = misses_by e (other_end w m.0) a.carrier va.empty ends.1;
        };
      }

  chain_at : (x u y : ℕ) → AndRule (elements_at c) a b x u y → IsChainAt c i j a b x u y
  chain_at x u y r =
      let t = two_there c i j a b n.at in
      record {
        first = t.0;
        second = t.1;
        first_order = (All-head (IsValid (elements_at c)) a (b ∷ []) n.valid).order;
        second_order = (second_of (IsValid (elements_at c)) a b [] n.valid).order;
        rule = r;
      }

  pub and_means : IsClear c (And i j) → JoinOverGroup (elements_at c) a b
  and_means h =
      let e = elements_at c in
      let f = none_applies c (Derivation (And i j)) h in
      let w = chain_line (Derivation (And i j)) refl (f BadReference)
      (f NoCommonMiddle) (f CarriersMeet) (f EndInCarrier) in
      let g = sym (at_middle (λ v w z. is_some (cell_of e z)) w.middle w.is) ∙ f MiddleKind in
      (other_end (scoped c.scope a) w.middle, w.middle, other_end (scoped c.scope b) w.middle, w.rule, is_group e w.middle g)

  pub and_clear : JoinOverGroup (elements_at c) a b → IsClear c (And i j)
  and_clear (x, u, y, r, g) =
      (and_right c i j a b x u y (chain_at x u y r) (entry_of Full x y (both_of a b)) g (refl, refl) refl refl).1

  pub key_means : IsClear c (Key i j) → JoinOverCell (elements_at c) a b
  key_means h =
      let e = elements_at c in
      let f = none_applies c (Derivation (Key i j)) h in
      let w = chain_line (Derivation (Key i j)) refl (f BadReference)
      (f NoCommonMiddle) (f CarriersMeet) (f EndInCarrier) in
      let q = some_cell (cell_of e w.middle)
      (sym (at_middle (λ v w z. is_none (cell_of e z)) w.middle w.is) ∙ f MiddleKind) in
      (other_end (scoped c.scope a) w.middle, w.middle, other_end (scoped c.scope b) w.middle, q.0, w.rule, is_cell e w.middle q.0 q.1)

  pub key_clear : JoinOverCell (elements_at c) a b → IsClear c (Key i j)
  key_clear (x, u, y, k, r, g) =
      (key_right c i j a b x u y (chain_at x u y r) (entry_of Semi x y (with_cell (both_of a b) k)) k g (refl, refl) refl refl).1

-- ---- `or`

pub two_means : (c : Context) (i j : ℕ) (a b : Entry) → AreNamed c (i ∷ j ∷ []) (a ∷ b ∷ [])
    → IsClear c (Or2 i j) → OrRule (a ∷ b ∷ []) a.x a.y
two_means c i j a b n h =
    let f = none_applies c (Derivation (Or2 i j)) h in
    let w = ways_mean c (Derivation (Or2 i j)) (i ∷ j ∷ []) a (b ∷ []) refl n
    (f BadReference) (f EndsDiffer) (f CommonCell) in
    record { number = inl refl; kinds = w.kinds; pairs = w.pairs; free = w.free }

pub two_clear : (c : Context) (i j : ℕ) (a b : Entry) → AreNamed c (i ∷ j ∷ []) (a ∷ b ∷ [])
    → OrRule (a ∷ b ∷ []) a.x a.y → IsClear c (Or2 i j)
two_clear c i j a b n r = two_reasons c i j
    ∙ ways_clear c (Derivation (Or2 i j)) (i ∷ j ∷ []) a (b ∷ []) a.x a.y refl
    (All-head (IsValid (elements_at c)) a (b ∷ []) n.valid).order n.at r.kinds r.pairs r.free

pub three_means : (c : Context) (i j k : ℕ) (a b d : Entry)
    → AreNamed c (i ∷ j ∷ k ∷ []) (a ∷ b ∷ d ∷ []) → IsClear c (Or3 i j k)
    → OrRule (a ∷ b ∷ d ∷ []) a.x a.y
three_means c i j k a b d n h =
    let f = none_applies c (Derivation (Or3 i j k)) h in
    let w = ways_mean c (Derivation (Or3 i j k)) (i ∷ j ∷ k ∷ []) a (b ∷ d ∷ []) refl n
    (f BadReference) (f EndsDiffer) (f CommonCell) in
    record { number = inr refl; kinds = w.kinds; pairs = w.pairs; free = w.free }

pub three_clear : (c : Context) (i j k : ℕ) (a b d : Entry)
    → AreNamed c (i ∷ j ∷ k ∷ []) (a ∷ b ∷ d ∷ []) → OrRule (a ∷ b ∷ d ∷ []) a.x a.y
    → IsClear c (Or3 i j k)
three_clear c i j k a b d n r = three_reasons c i j k
    ∙ ways_clear c (Derivation (Or3 i j k)) (i ∷ j ∷ k ∷ []) a (b ∷ d ∷ []) a.x a.y refl
    (All-head (IsValid (elements_at c)) a (b ∷ d ∷ []) n.valid).order n.at r.kinds r.pairs r.free
