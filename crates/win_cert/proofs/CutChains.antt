-- What a line names: the entries that lines before it gave, and of two that share
-- an element, that element and the other ends.
use Rattle.std.proofs.Common.{◌≡◌, ℕ, ◌==◌, ◌||◌, true, false, Bool, List, [], ◌∷◌, Option, Some}
use Rattle.std.proofs.Common.{None, min, max, if◌then◌else◌, refl, sym, ◌∙◌, ap, inl, inr, ◌⊎◌}
use Rattle.std.specs.List.{cons_option, list_all}
use Rattle.std.specs.Option.{is_some, option_map_or}
use Rattle.std.proofs.lemmas.Bool.{eq-eqb, false_from_ne_true, false≢true, ne_eqb, true≢false}
use Rattle.std.proofs.lemmas.Bool.{or_from}
use Rattle.hex_cells.specs.Sets.{has}
use Rattle.hex_cells.specs.declared.board_size.TheConstants.{MOST_CELLS}
use Rattle.hex_board.specs.Elements.{PlayerBoard}
use Rattle.hex_board.specs.Places.{cell_of}
use Rattle.hex_board.proofs.Search.{any_out}
use Rattle.conn_store.specs.Entries.{Misses}
use Rattle.conn_store.specs.Rules.{IsGroup}
use Rattle.conn_store.proofs.RuleTruth.{least_first}
use Rattle.win_cert.specs.Entries.{Context, ScopedEntry, entries_at, entry_at, is_end, middle_of}
use Rattle.win_cert.specs.Entries.{other_end}
use Rattle.win_cert.specs.Statements.{is_cell_in, share_cell}
use Rattle.win_cert.proofs.Middles.{is_cell, if_yes, if_no}

-- ---- the entries that are named

pub two_at : (c : Context) (i j : ℕ) (a b : ScopedEntry) → entry_at c i ≡ Some a
    → entry_at c j ≡ Some b → entries_at c (i ∷ j ∷ []) ≡ a ∷ b ∷ []
two_at c i j a b h k = ap (λ o. cons_option o (cons_option (entry_at c j) [])) h
    ∙ ap (λ o. cons_option (Some a) (cons_option o [])) k

-- ---- the element that two entries share

pick_first : (p q : Bool) (v w : ℕ) → p ≡ true → q ≡ false
    → (if p then (if q then None else Some v) else (if q then Some w else None)) ≡ Some v
pick_first true false v w h k = refl
pick_first true true v w h k = absurd (true≢false k)
pick_first false q v w h k = absurd (false≢true h)

pick_second : (p q : Bool) (v w : ℕ) → p ≡ false → q ≡ true
    → (if p then (if q then None else Some v) else (if q then Some w else None)) ≡ Some w
pick_second false true v w h k = refl
pick_second false false v w h k = absurd (false≢true k)
pick_second true q v w h k = absurd (true≢false h)

either_yes : (p q : Bool) → (p ≡ true) ⊎ (q ≡ true) → (p || q) ≡ true
either_yes true q h = refl
either_yes false q (inl h) = absurd (false≢true h)
either_yes false q (inr h) = h

-- the entry's elements are v and w, in one order or the other
abbrev pub AreEnds : ScopedEntry → ℕ → ℕ → Type 0
AreEnds a v w = ((a.x ≡ v) × (a.y ≡ w)) ⊎ ((a.x ≡ w) × (a.y ≡ v))

ends_in : (a : ScopedEntry) (v w : ℕ) → AreEnds a v w → is_end a v ≡ true
ends_in a v w (inl h) = either_yes (a.x == v) (a.y == v) (inl (eq-eqb a.x v h.0))
ends_in a v w (inr h) = either_yes (a.x == v) (a.y == v) (inr (eq-eqb a.y v h.1))

ends_out : (a : ScopedEntry) (v w z : ℕ) → AreEnds a v w → (v ≡ z → ⊥) → (w ≡ z → ⊥)
    → is_end a z ≡ false
ends_out a v w z (inl h) m n = or_from (a.x == z) (a.y == z) (ne_eqb a.x z (λ q. m (sym h.0 ∙ q)))
    (ne_eqb a.y z (λ q. n (sym h.1 ∙ q)))
ends_out a v w z (inr h) m n = or_from (a.x == z) (a.y == z) (ne_eqb a.x z (λ q. n (sym h.0 ∙ q)))
    (ne_eqb a.y z (λ q. m (sym h.1 ∙ q)))

pub other_is : (a : ScopedEntry) (v u : ℕ) → AreEnds a v u → (v ≡ u → ⊥) → other_end a u ≡ v
other_is a v u (inl h) n = if_no (a.x == u) a.y a.x (ne_eqb a.x u (λ q. n (sym h.0 ∙ q))) ∙ h.0
other_is a v u (inr h) n = if_yes (a.x == u) a.y a.x (eq-eqb a.x u h.0) ∙ h.1

turned : (b : ScopedEntry) (y u : ℕ) → AreEnds b y u → AreEnds b u y
turned b y u (inl h) = inr h
turned b y u (inr h) = inl h

pub middle_is : (a b : ScopedEntry) (x u y : ℕ) → AreEnds a x u → AreEnds b y u → (x ≡ u → ⊥)
    → (x ≡ y → ⊥) → middle_of a b ≡ Some u
middle_is a b x u y (inl h) k m o =
    pick_second (is_end b a.x) (is_end b a.y) a.x a.y
    (ap (is_end b) h.0 ∙ ends_out b y u x k (λ q. o (sym q)) (λ q. m (sym q)))
    (ap (is_end b) h.1 ∙ ends_in b u y (turned b y u k)) ∙ ap Some h.1
middle_is a b x u y (inr h) k m o =
    pick_first (is_end b a.x) (is_end b a.y) a.x a.y
    (ap (is_end b) h.0 ∙ ends_in b u y (turned b y u k))
    (ap (is_end b) h.1 ∙ ends_out b y u x k (λ q. o (sym q)) (λ q. m (sym q))) ∙ ap Some h.0

-- an entry of the least and the greatest of two elements
pub ends_are : (a : ScopedEntry) (v w : ℕ) → a.x ≡ min v w → a.y ≡ max v w → AreEnds a v w
ends_are a v w h k = least_first v w a.x a.y h k

-- ---- carriers

pub none_shared : (entries : List ScopedEntry)
    → ((k : ℕ) → list_all (λ a. has a.carrier k) entries ≡ false) → share_cell entries ≡ false
none_shared entries h = false_from_ne_true (share_cell entries) (λ t.
    let w = any_out (λ k. list_all (λ a. has a.carrier k) entries) 0 MOST_CELLS t in
    true≢false (sym w.2 ∙ h w.0))

missed_at : (e : PlayerBoard) (x c : ℕ) (o : Option ℕ) → cell_of e x ≡ o → Misses e x c
    → option_map_or (has c) o false ≡ false
missed_at e x c None h m = refl
missed_at e x c (Some k) h m = false_from_ne_true (has c k) (m k (is_cell e x k h).1)

pub missed : (e : PlayerBoard) (x c : ℕ) → Misses e x c → is_cell_in e x c ≡ false
missed e x c m = missed_at e x c (cell_of e x) refl m

no_cell : (e : PlayerBoard) (u : ℕ) (o : Option ℕ) → cell_of e u ≡ o → IsGroup e u
    → is_some o ≡ false
no_cell e u None h g = refl
no_cell e u (Some k) h g = absurd (g k (is_cell e u k h))

pub group_none : (e : PlayerBoard) (u : ℕ) → IsGroup e u → is_some (cell_of e u) ≡ false
group_none e u g = no_cell e u (cell_of e u) refl g
