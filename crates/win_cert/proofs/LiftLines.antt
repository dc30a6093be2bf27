-- `lift`: an entry in a scope with more stones, between the elements that hold its own.
use Rattle.std.proofs.Common.{◌≡◌, ℕ, ◌*◌, ◌==◌, not, true, false, Option, Some, None, []}
use Rattle.std.proofs.Common.{bit_or, cond, refl, sym, ◌∙◌, ap, subst, inl, inr, arith}
use Rattle.std.specs.List.{cons_option, find, list_all}
use Rattle.std.specs.Option.{option_map}
use Rattle.std.proofs.lemmas.Bool.{and_from, and_parts, cases_Bool, eqb-true}
use Rattle.std.proofs.lemmas.Bool.{or_cases, or_left, or_right}
use Rattle.hex_cells.specs.Sets.{has, members, without_cells}
use Rattle.hex_cells.proofs.Bits.{has_or, has_without_cells}
use Rattle.hex_board.specs.Elements.{PlayerBoard, edge_element}
use Rattle.hex_board.specs.Joined.{cells_of}
use Rattle.hex_board.specs.Places.{Place, at_cell, at_edge, IsMember, is_member}
use Rattle.hex_board.specs.Positions.{AllEmpty, is_empty_at, stones_of}
use Rattle.hex_board.proofs.Parts.{find_case, some_same}
use Rattle.hex_board.proofs.Places.{cell_out}
use Rattle.conn_store.specs.Entries.{Misses}
use Rattle.conn_store.specs.Laws.{IsSubset}
use Rattle.conn_store.specs.Links.{StonesLink}
use Rattle.conn_store.specs.declared.entries.Kind.{Kind}
use Rattle.conn_store.proofs.Sureness.{same, sure_more}
use Rattle.conn_store.proofs.Ways.{linked_kept}
use Rattle.win_cert.specs.Entries.{Context, ScopedEntry, element_on, elements_at, end_element}
use Rattle.win_cert.specs.Entries.{end_for, entry_at, entry_between, lift_between, lift_entry}
use Rattle.win_cert.specs.Scopes.{elements_in, is_part}
use Rattle.win_cert.specs.declared.lines.End.{End}
use Rattle.win_cert.specs.declared.lines.End.TheVariants.{At, First, Second}
use Rattle.win_cert.proofs.ChainLines.{given_is}
use Rattle.win_cert.proofs.GoodEntries.{IsGood, concluded, good_between}
use Rattle.win_cert.proofs.LiftedLinks.{HasMore, IsHeldBy, free_place, link_held}
use Rattle.win_cert.proofs.MoreStones.{IsCovered, sure_stones}
use Rattle.win_cert.proofs.NamedEntries.{GaveGood, IsGoodEntry}
use Rattle.win_cert.proofs.Options.{some_of_then}
use Rattle.win_cert.proofs.ScopeBoards.{IsSmallBoard, scope_empty, scope_leaves, scope_own}
use Rattle.win_cert.proofs.ScopeBoards.{scope_size}

-- ---- the place that an end names

abbrev place_of : End → Place
place_of (At k) = at_cell k
place_of First = at_edge false
place_of Second = at_edge true

found_end : (e : PlayerBoard) (x : ℕ) (end : End)
    → option_map At (find (λ k. is_member e x (at_cell k)) (cells_of e.board.size)) ≡ Some end
    → IsMember e x (place_of end)
found_end e x end h
    = elim (find_case (λ k. is_member e x (at_cell k)) 0 (e.board.size * e.board.size)) [
      | inl u ↦ absurd (none_there end (sym (ap (option_map At) u.0) ∙ h))
      | inr u ↦ subst (λ v. IsMember e x (place_of v))
          (some_end (At u.0) end (sym (ap (option_map At) u.1) ∙ h)) (cell_out e x u.0 u.3)
    ]
  where
    none_there : (end : End) → ◌≡◌ {A = Option End} None (Some end) → ⊥
    none_there end h = cc

    some_end : (a b : End) → Some a ≡ Some b → a ≡ b
    some_end a b h = cc

named_end : (e : PlayerBoard) (x : ℕ) (end : End) → end_for e x ≡ Some end
    → IsMember e x (place_of end)
named_end e x end h =
    let found : Option End = option_map At (find (λ k. is_member e x (at_cell k)) (cells_of e.board.size)) in
    let next : Option End = cond (x == edge_element e true) (Some Second) found in
    elim (cases_Bool (x == edge_element e false)) [
      | inl t ↦ subst (λ v. IsMember e x (place_of v))
          (some_end First end (sym (ap (λ b. cond b (Some First) next) t) ∙ h))
          (sym (eqb-true x (edge_element e false) t))
      | inr f ↦
          let later : next ≡ Some end = sym (ap (λ b. cond b (Some First) next) f) ∙ h in
          elim (cases_Bool (x == edge_element e true)) [
            | inl t ↦ subst (λ v. IsMember e x (place_of v))
                (some_end Second end (sym (ap (λ b. cond b (Some Second) found) t) ∙ later))
                (sym (eqb-true x (edge_element e true) t))
            | inr g ↦ found_end e x end (sym (ap (λ b. cond b (Some Second) found) g) ∙ later)
          ]
    ]
  where
    some_end : (a b : End) → Some a ≡ Some b → a ≡ b
    some_end a b h = cc

end_place : (d : PlayerBoard) (v : ℕ) (end : End) → end_element d end ≡ Some v
    → IsMember d v (place_of end)
end_place d v (At k) h = h
end_place d v First h = some_same (edge_element d false) v h
end_place d v Second h = some_same (edge_element d true) v h

-- element v of d holds element x of e
held_by : (e d : PlayerBoard) (x v : ℕ) → element_on d e x ≡ Some v → IsHeldBy e d x v
held_by e d x v h = let p = some_of_then (end_element d) (end_for e x) v h in
    record { place = place_of p.0; from = named_end e x p.0 p.1; to = end_place d v p.0 p.2 }

-- ---- a part of a scope

pub part_inside : (s t : ℕ) → is_part s t ≡ true → IsSubset s t
part_inside s t h k i
    = sym (ap (λ v. has v k) (eqb-true (bit_or s t) t h)) ∙ has_or s t k
    ∙ or_left (has s k) (has t k) i

-- the player has more stones on its board
more_there : (base : PlayerBoard) (s t : ℕ) → IsSubset s t
    → HasMore (elements_in base s) (elements_in base t)
more_there base s t i = record {
  size = scope_size base.board base.player s ∙ sym (scope_size base.board base.player t);
  player = refl;
  own = λ k h. scope_own base.board base.player t k ∙ elim (or_cases (has (stones_of base.board base.player) k) (has s k)
      (sym (scope_own base.board base.player s k) ∙ h)) [
        | inl o ↦ or_left (has (stones_of base.board base.player) k) (has t k) o
        | inr o ↦ or_right (has (stones_of base.board base.player) k) (has t k) (i k o)
      ];
}

-- ---- the entry

-- the carrier's other cells are empty there
left_empty : (base : PlayerBoard) (s t c : ℕ) → AllEmpty (elements_in base s).board c
    → AllEmpty (elements_in base t).board (without_cells c t)
left_empty base s t c f k h =
    let p = and_parts (has c k) (not (has t k)) (sym (has_without_cells c t k) ∙ h) in
    scope_leaves base.board base.player t k
    ∙ and_from (is_empty_at base.board k) (not (has t k))
    (scope_empty base.board base.player s k (f k p.0)) p.1

left_missed : (base : PlayerBoard) (s t x v c : ℕ) → AllEmpty (elements_in base s).board c
    → Misses (elements_in base s) x c → IsHeldBy (elements_in base s) (elements_in base t) x v
    → Misses (elements_in base t) v (without_cells c t)
left_missed base s t x v c f m b k h i =
    let p = and_parts (has c k) (not (has t k)) (sym (has_without_cells c t k) ∙ i) in
    let same = free_place (elements_in base t) v k b.place (left_empty base s t c f k i) h b.to in
    m k (subst (IsMember (elements_in base s) x) same b.from) p.0

covered_by : (base : PlayerBoard) (t c : ℕ)
    → IsCovered c (stones_of (elements_in base t).board base.player) (without_cells c t)
covered_by base t c k h = elim (cases_Bool (has t k)) [
  | inl o ↦ inl
      (scope_own base.board base.player t k ∙ or_right (has (stones_of base.board base.player) k) (has t k) o)
  | inr o ↦ inr (has_without_cells c t k ∙ and_from (has c k) (not (has t k)) h (ap not o))
]

-- a good entry is one with more stones
good_lifted : (base : PlayerBoard) (s t x y v w c : ℕ) (kind : Kind)
    → IsSmallBoard (elements_in base t) → IsSubset s t → IsGood (elements_in base s) kind x y c
    → IsHeldBy (elements_in base s) (elements_in base t) x v
    → IsHeldBy (elements_in base s) (elements_in base t) y w
    → IsGood (elements_in base t) kind v w (without_cells c t)
good_lifted base s t x y v w c kind small i g a b =
    let e = elements_in base s in
    let d = elements_in base t in
    let own = stones_of d.board base.player in
    let rest = without_cells c t in
    let more = more_there base s t i in
    record {
      empty = left_empty base s t c g.empty;
      first = left_missed base s t x v c g.empty g.first a;
      second = left_missed base s t y w c g.empty g.second b;
      holds = concluded d (members c 121) kind v w rest small (left_empty base s t c g.empty)
          (sure_more (members c 121) (members c 121) kind (StonesLink e x y) (StonesLink d v w) own own rest rest (omega arith) (same own) (same rest)
          (λ p q j k l. link_held e d x y v w p q more a b k j l)
          (sure_stones (members c 121) kind (StonesLink e x y) (stones_of e.board base.player) own c rest (linked_kept e x y) more.own (covered_by base t c)
          g.holds));
    }

-- ---- the line

made_good : (c : Context) (a : ScopedEntry) (o p : Option ℕ) (r : ScopedEntry)
    → IsSmallBoard (elements_at c) → IsSubset a.scope c.scope → IsGoodEntry c.base a
    → element_on (elements_at c) (elements_in c.base a.scope) a.x ≡ o
    → element_on (elements_at c) (elements_in c.base a.scope) a.y ≡ p
    → lift_between c a o p ≡ Some r → IsGoodEntry c.base r
made_good c a (Some v) (Some w) r m i g h k e =
    let from = elements_in c.base a.scope in
    let rest = without_cells a.carrier c.scope in
    given_is c (entry_between c a.kind v w rest) r e
    (good_between (elements_at c) a.kind v w rest
    (good_lifted c.base a.scope c.scope a.x a.y v w a.carrier a.kind m i g (held_by from (elements_at c) a.x v h) (held_by from (elements_at c) a.y w k)))
made_good c a (Some v) None r m i g h k e = absurd (cc)
made_good c a None p r m i g h k e = absurd (cc)

pub lift_good : (c : Context) (o : Option ScopedEntry) (r : ScopedEntry) → GaveGood c → (i : ℕ)
    → entry_at c i ≡ o → IsSmallBoard (elements_at c)
    → list_all (λ a. is_part a.scope c.scope) (cons_option o []) ≡ true
    → lift_entry c (cons_option o []) ≡ Some r → IsGoodEntry c.base r
lift_good c None r g i h m f e = absurd (cc)
lift_good c (Some a) r g i h m f e
    = made_good c a _ _ r m
    (part_inside a.scope c.scope (and_parts (is_part a.scope c.scope) true f).0) (g i a h) refl refl
    e
