-- Entries that share an element: their other ends, and what the lines `and` and `key` ask of them.
use Rattle.std.proofs.Common.{◌≡◌, ℕ, ◌<◌, ◌==◌, ◌&&◌, ◌||◌, true, false, Bool, List, [], ◌∷◌}
use Rattle.std.proofs.Common.{Option, Some, None, if◌then◌else◌, cond, refl, sym, ◌∙◌, ap, subst}
use Rattle.std.proofs.Common.{inl, inr, ◌⊎◌, arith}
use Rattle.std.specs.List.{find, list_all}
use Rattle.std.specs.Option.{is_some, option_map_or}
use Rattle.std.proofs.lemmas.Bool.{and_from, and_parts, both_ways, cases_eq, eq-eqb, eqb-true}
use Rattle.std.proofs.lemmas.Bool.{false_from_ne_true, false≢true, ne_eqb, or_cases, or_parts}
use Rattle.hex_cells.specs.Sets.{has}
use Rattle.hex_board.specs.Elements.{PlayerBoard}
use Rattle.hex_board.specs.Joined.{cells_of}
use Rattle.hex_board.specs.Places.{at_cell, cell_of, is_member}
use Rattle.hex_board.specs.Positions.{AllEmpty, is_empty_at}
use Rattle.hex_board.proofs.Places.{cell_out}
use Rattle.hex_board.proofs.Search.{any_in}
use Rattle.conn_store.specs.Entries.{Misses}
use Rattle.conn_store.specs.Rules.{IsCell, IsGroup}
use Rattle.conn_store.specs.declared.entries.Kind.{Kind}
use Rattle.conn_store.specs.declared.entries.Kind.TheVariants.{Full}
use Rattle.conn_store.proofs.Sureness.{Disjoint}
use Rattle.win_cert.specs.Entries.{Context, ScopedEntry, elements_at, is_end, middle_of, other_end}
use Rattle.win_cert.specs.Scopes.{elements_in}
use Rattle.win_cert.specs.Statements.{is_cell_in, kind_taken, scope_taken, share_cell}
use Rattle.win_cert.specs.declared.statements.Statement.{Statement}
use Rattle.win_cert.proofs.GoodEntries.{IsGood, good_turned}
use Rattle.win_cert.proofs.LinksOn.{cell_is}
use Rattle.win_cert.proofs.NamedEntries.{IsLineTaken}
use Rattle.win_cert.proofs.ScopeBoards.{IsSmallBoard, empty_small}

-- ---- the element that two entries share

abbrev pub IsEndOf : ScopedEntry → ℕ → Type 0
IsEndOf a u = (a.x ≡ u) ⊎ (a.y ≡ u)

pick : (p q : Bool) (v w u : ℕ)
    → (if p then (if q then None else Some v) else (if q then Some w else None)) ≡ Some u
    → ((p ≡ true) × (v ≡ u)) ⊎ ((q ≡ true) × (w ≡ u))
pick true true v w u h = absurd (cc)
pick true false v w u h = inl (refl, cc)
pick false true v w u h = inr (refl, cc)
pick false false v w u h = absurd (cc)

end_of : (a : ScopedEntry) (v : ℕ) → is_end a v ≡ true → IsEndOf a v
end_of a v h
    = elim (or_cases (a.x == v) (a.y == v) h) [ inl e ↦ inl (eqb-true a.x v e) | inr e ↦ inr (eqb-true a.y v e) ]

pub middle_ends : (a b : ScopedEntry) (u : ℕ) → middle_of a b ≡ Some u → IsEndOf a u × IsEndOf b u
middle_ends a b u h = elim (pick (is_end b a.x) (is_end b a.y) a.x a.y u h) [
  | inl p ↦ (inl p.1, subst (λ v. IsEndOf b v) p.1 (end_of b a.x p.0))
  | inr p ↦ (inr p.1, subst (λ v. IsEndOf b v) p.1 (end_of b a.y p.0))
]

pub if_yes : (b : Bool) (x y : ℕ) → b ≡ true → (if b then x else y) ≡ x
if_yes true x y h = refl
if_yes false x y h = absurd (false≢true h)

pub if_no : (b : Bool) (x y : ℕ) → b ≡ false → (if b then x else y) ≡ y
if_no true x y h = absurd (false≢true (sym h))
if_no false x y h = refl

pub other_second : (a : ScopedEntry) (u : ℕ) → a.x ≡ u → other_end a u ≡ a.y
other_second a u h = if_yes (a.x == u) a.y a.x (eq-eqb a.x u h)

pub other_first : (a : ScopedEntry) (u : ℕ) → (a.x ≡ u → ⊥) → other_end a u ≡ a.x
other_first a u h = if_no (a.x == u) a.y a.x (ne_eqb a.x u h)

pub second_then : (a : ScopedEntry) (u : ℕ) → IsEndOf a u → (a.x ≡ u → ⊥) → a.y ≡ u
second_then a u (inl h) n = absurd (n h)
second_then a u (inr h) n = h

-- an entry of u is one of its other end and u
good_other : (e : PlayerBoard) (kind : Kind) (a : ScopedEntry) (u c : ℕ) → IsEndOf a u
    → IsGood e kind a.x a.y c → IsGood e kind (other_end a u) u c
good_other e kind a u c h g = elim (cases_eq a.x u) [
  | inl q ↦ subst (λ v. IsGood e kind v u c) (sym (other_second a u q))
      (subst (λ v. IsGood e kind a.y v c) q (good_turned e kind a.x a.y c g))
  | inr n ↦ subst (λ v. IsGood e kind v u c) (sym (other_first a u n))
      (subst (λ v. IsGood e kind a.x v c) (second_then a u h n) g)
]

-- which is another element
pub other_differs : (a : ScopedEntry) (u : ℕ) → (a.x ≡ a.y → ⊥) → IsEndOf a u
    → other_end a u ≡ u → ⊥
other_differs a u n h e = elim (cases_eq a.x u) [
  | inl q ↦ n (q ∙ sym (sym (other_second a u q) ∙ e))
  | inr m ↦ m (sym (other_first a u m) ∙ e)
]

-- ---- empty cells of elements

found_one : (p : ℕ → Bool) (x k : ℕ) (b : Bool) (o : Option ℕ) → p x ≡ b
    → cond b (Some x) o ≡ Some k → (p k ≡ true) ⊎ (o ≡ Some k)
found_one p x k true o e h = let q : x ≡ k = cc in inl (ap p (sym q) ∙ e)
found_one p x k false o e h = inr h

found : (p : ℕ → Bool) (xs : List ℕ) (k : ℕ) → find p xs ≡ Some k → p k ≡ true
found p [] k h = absurd (cc)
found p (x ∷ xs) k h
    = elim (found_one p x k (p x) (find p xs) refl h) [ inl f ↦ f | inr f ↦ found p xs k f ]

pub is_cell : (e : PlayerBoard) (u k : ℕ) → cell_of e u ≡ Some k → IsCell e u k
is_cell e u k h =
    let t = and_parts (is_empty_at e.board k) (is_member e u (at_cell k))
    (found (λ j. is_empty_at e.board j && is_member e u (at_cell j)) (cells_of e.board.size) k h) in
    (t.0, cell_out e u k t.1)

pub is_group : (e : PlayerBoard) (u : ℕ) → is_some (cell_of e u) ≡ false → IsGroup e u
is_group e u f k h = both_ways (is_some (cell_of e u)) f (ap is_some (cell_is e u k h))

-- a set of empty cells without the element's
pub misses_by : (e : PlayerBoard) (x c : ℕ) → AllEmpty e.board c → is_cell_in e x c ≡ false
    → Misses e x c
misses_by e x c f n k h i
    = both_ways (is_cell_in e x c) n
    (ap (λ o. option_map_or (has c) o false) (cell_is e x k (f k i, h)) ∙ i)

-- ---- what both lines ask

-- entries of u and their other ends, without a cell in common, or a cell of an end of the other
pub record IsChainOver (e : PlayerBoard) (a b : ScopedEntry) (u : ℕ) : Type 0 where
  pub first : IsGood e Full (other_end a u) u a.carrier
  pub second : IsGood e Full u (other_end b u) b.carrier
  pub apart : Disjoint a.carrier b.carrier
  pub first_end : Misses e (other_end a u) b.carrier
  pub second_end : Misses e (other_end b u) a.carrier

apart_by : (a b : ScopedEntry) → ((k : ℕ) → has a.carrier k ≡ true → k < 121)
    → share_cell (a ∷ b ∷ []) ≡ false → Disjoint a.carrier b.carrier
apart_by a b l f k h
    = false_from_ne_true (has b.carrier k) (λ i. both_ways (share_cell (a ∷ b ∷ [])) f
    (any_in (λ j. list_all (λ (w : ScopedEntry). has w.carrier j) (a ∷ b ∷ [])) 0 121 k (omega arith) (omega (arith, l k h))
    (and_from (has a.carrier k) (has b.carrier k && true) h (and_from (has b.carrier k) true i refl))))

pub chain_over : (e : PlayerBoard) (a b : ScopedEntry) (u : ℕ) → IsSmallBoard e
    → IsGood e Full a.x a.y a.carrier → IsGood e Full b.x b.y b.carrier → middle_of a b ≡ Some u
    → share_cell (a ∷ b ∷ []) ≡ false
    → (is_cell_in e (other_end a u) b.carrier || is_cell_in e (other_end b u) a.carrier) ≡ false
    → IsChainOver e a b u
chain_over e a b u m g h q f n =
    let t = middle_ends a b u q in
    let v = or_parts (is_cell_in e (other_end a u) b.carrier)
    (is_cell_in e (other_end b u) a.carrier) n in
    record {
      first = good_other e Full a u a.carrier t.0 g;
      second = good_turned e Full (other_end b u) u b.carrier
          (good_other e Full b u b.carrier t.1 h);
      apart = apart_by a b (empty_small e a.carrier m g.empty) f;
      first_end = misses_by e (other_end a u) b.carrier h.empty v.0;
      second_end = misses_by e (other_end b u) a.carrier g.empty v.1;
    }

-- a named entry on the board of the line's scope
pub taken_good : (c : Context) (s : Statement) (kind : Kind) (a : ScopedEntry) → kind_taken s ≡ kind
    → scope_taken c s ≡ c.scope → IsLineTaken c s a → IsGood (elements_at c) kind a.x a.y a.carrier
taken_good c s kind a p q t = subst (λ k. IsGood (elements_at c) k a.x a.y a.carrier)
    (t.named.kind_is ∙ p)
    (subst (λ v. IsGood (elements_in c.base v) a.kind a.x a.y a.carrier) (t.scope_is ∙ q) t.good)
