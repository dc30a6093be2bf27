-- Where the elements of the two edges are linked, the edges are joined.
use Rattle.std.proofs.Common.{◌≡◌, ℕ, ◌*◌, true, false, Bool, List, [], ◌∷◌, Some, refl, sym, ◌∙◌}
use Rattle.std.proofs.Common.{ap, subst, inl, inr, ◌⊎◌, arith}
use Rattle.std.proofs.lemmas.Bool.{cases_Bool, both_ways}
use Rattle.hex_cells.specs.Sets.{has}
use Rattle.hex_cells.specs.Edges.{on_edge}
use Rattle.hex_cells.specs.declared.colours.Colour.{Colour}
use Rattle.hex_board.specs.Elements.{PlayerBoard, HasCell, are_joined, edge_element, is_tied}
use Rattle.hex_board.specs.Groups.{Links}
use Rattle.hex_board.specs.Joined.{Joined, Path, last_of}
use Rattle.hex_board.specs.Places.{Place, at_cell, at_edge, Beside, IsMember, Route, last_place}
use Rattle.hex_board.specs.Positions.{Within, stones_of}
use Rattle.hex_board.proofs.Parts.{high_apart, zero_out, one_out, tied_stone}
use Rattle.hex_board.proofs.Roots.{turned_link, links_through}
use Rattle.hex_board.proofs.Search.{leads_out, joined_out}
use Rattle.conn_store.specs.Laws.{IsSubset}
use Rattle.conn_store.specs.Links.{MayPass, StonesLink}

more_path : (n s t a : ℕ) (xs : List ℕ) → IsSubset s t → Path n s a xs → Path n t a xs
more_path n s t a [] f p = f a p
more_path n s t a (x ∷ xs) f p = (f a p.0, p.1, more_path n s t x xs f p.2)

-- a path of the stones t leads from cell k to the player's second edge
abbrev pub ToSecond : ℕ → Colour → ℕ → ℕ → Type 0
ToSecond n c t k = (xs : List ℕ) × Path n t k xs × (on_edge c true n (last_of k xs) ≡ true)

-- what is known of a place from which the second edge is reached
abbrev pub Ends : ℕ → Colour → ℕ → Place → Type 0
Ends n c t (at_cell k) = ToSecond n c t k ⊎ Joined n c t
Ends n c t (at_edge false) = Joined n c t
Ends n c t (at_edge true) = Unit {0}

-- the path of a place of the first edge's element goes through the stones t
abbrev pub IsStone : ℕ → Place → Type 0
IsStone t (at_cell k) = has t k ≡ true
IsStone t (at_edge second) = Unit {0}

step_back : (n : ℕ) (c : Colour) (t : ℕ) (p q : Place) → IsStone t p → Beside n c p q → Ends n c t q
    → Ends n c t p
step_back n c t (at_cell a) (at_cell b) h s (inl w) = inl (b ∷ w.0, (h, s, w.1), w.2)
step_back n c t (at_cell a) (at_cell b) h s (inr j) = inr j
step_back n c t (at_cell a) (at_edge false) h s j = inr j
step_back n c t (at_cell a) (at_edge true) h s e = inl ([], h, s)
step_back n c t (at_edge false) (at_cell b) h s (inl w) = (b, w.0, w.1, s, w.2)
step_back n c t (at_edge false) (at_cell b) h s (inr j) = j
step_back n c t (at_edge false) (at_edge second) h s e = absurd s
step_back n c t (at_edge true) q h s e = tt

route_ends : (n : ℕ) (c : Colour) (t : ℕ) (P : Place → Type 0) (p : Place) (ps : List Place)
    → ((q : Place) → P q → IsStone t q) → Route n c P p ps
    → Ends n c t (last_place p ps) → Ends n c t p
route_ends n c t P p [] f w e = e
route_ends n c t P p (q ∷ qs) f w e
    = step_back n c t p q (f p w.0) w.1 (route_ends n c t P q qs f w.2 e)

-- a path of the player's stones to an edge, in the stones t
tied_path : (e : PlayerBoard) (second : Bool) (t k : ℕ) → IsSubset (stones_of e.board e.player) t
    → is_tied e second k ≡ true
    → (xs : List ℕ) × Path e.board.size t k xs
    × (on_edge e.player second e.board.size (last_of k xs) ≡ true)
tied_path e second t k f h =
    let l = leads_out (e.board.size * e.board.size) e.board.size (stones_of e.board e.player)
    (on_edge e.player second e.board.size) k h in
    (l.0, more_path e.board.size (stones_of e.board e.player) t k l.0 f l.1, l.2)

first_cell : (e : PlayerBoard) (k : ℕ) → Within e.board.size (stones_of e.board e.player)
    → are_joined e ≡ false → HasCell e (edge_element e false) k → is_tied e false k ≡ true
first_cell e k on j h
    = elim (zero_out e k on h) [ inl t ↦ t | inr t ↦ absurd (both_ways (are_joined e) j t.0) ]

second_cell : (e : PlayerBoard) (k : ℕ) → Within e.board.size (stones_of e.board e.player)
    → are_joined e ≡ false → HasCell e (edge_element e true) k → is_tied e true k ≡ true
second_cell e k on j h = one_out e k on j (h ∙ ap_some (high_apart (are_joined e) j))
  where
    ap_some : {a b : ℕ} → a ≡ b → Some a ≡ Some b
    ap_some q = ap Some q

stone_passes : (e : PlayerBoard) (t : ℕ) (q : Place)
    → Within e.board.size (stones_of e.board e.player) → IsSubset (stones_of e.board e.player) t
    → are_joined e ≡ false
    → MayPass e (edge_element e false) (edge_element e true) t q → IsStone t q
stone_passes e t (at_cell k) on f j (inl h) = h
stone_passes e t (at_cell k) on f j (inr (inl h))
    = f k (tied_stone e false k (first_cell e k on j h))
stone_passes e t (at_cell k) on f j (inr (inr h))
    = f k (tied_stone e true k (second_cell e k on j h))
stone_passes e t (at_edge second) on f j h = tt

last_ends : (e : PlayerBoard) (t : ℕ) (q : Place) → Within e.board.size (stones_of e.board e.player)
    → IsSubset (stones_of e.board e.player) t → are_joined e ≡ false
    → IsMember e (edge_element e true) q → Ends e.board.size e.player t q
last_ends e t (at_cell k) on f j h = inl (tied_path e true t k f (second_cell e k on j h))
last_ends e t (at_edge true) on f j h = tt
last_ends e t (at_edge false) on f j h = absurd (apart (h ∙ high_apart (are_joined e) j))
  where
    apart : ◌≡◌ {A = ℕ} 0 1 → ⊥
    apart q = absurd (omega arith)

-- two paths from a cell, one to each edge
meet_there : (n : ℕ) (c : Colour) (t k : ℕ) (xs : List ℕ) → Path n t k xs
    → on_edge c false n (last_of k xs) ≡ true → ToSecond n c t k → Joined n c t
meet_there n c t k xs p h w =
    let a : Links n t (last_of k xs) k = turned_link n t k (last_of k xs) (xs, p, refl) in
    let b : Links n t (last_of k xs) (last_of k w.0)
    = links_through n t (last_of k xs) k (last_of k w.0) a (w.0, w.1, refl) in
    (last_of k xs, b.0, b.1, h, subst (λ v. on_edge c true n v ≡ true) (sym b.2) w.2)

first_ends : (e : PlayerBoard) (t : ℕ) (p : Place)
    → Within e.board.size (stones_of e.board e.player) → IsSubset (stones_of e.board e.player) t
    → are_joined e ≡ false
    → IsMember e (edge_element e false) p → Ends e.board.size e.player t p
    → Joined e.board.size e.player t
first_ends e t (at_cell k) on f j h (inr w) = w
first_ends e t (at_cell k) on f j h (inl w) =
    let l = tied_path e false t k f (first_cell e k on j h) in
    meet_there e.board.size e.player t k l.0 l.1 l.2 w
first_ends e t (at_edge false) on f j h w = w
first_ends e t (at_edge true) on f j h w = absurd (apart (sym h ∙ high_apart (are_joined e) j))
  where
    apart : ◌≡◌ {A = ℕ} 0 1 → ⊥
    apart q = absurd (omega arith)

more_joined : (n : ℕ) (c : Colour) (s t : ℕ) → IsSubset s t → Joined n c s → Joined n c t
more_joined n c s t f j = (j.0, j.1, more_path n s t j.0 j.1 f j.2, j.3, j.4)

pub linked_joins : (e : PlayerBoard) (t : ℕ) → Within e.board.size (stones_of e.board e.player)
    → IsSubset (stones_of e.board e.player) t
    → StonesLink e (edge_element e false) (edge_element e true) t → Joined e.board.size e.player t
linked_joins e t on f l = elim (cases_Bool (are_joined e)) [
  | inl j ↦ more_joined e.board.size e.player (stones_of e.board e.player) t f
      (joined_out e.board.size e.player (stones_of e.board e.player) j)
  | inr j ↦ first_ends e t l.0 on f j l.2
      (route_ends e.board.size e.player t (MayPass e (edge_element e false) (edge_element e true) t) l.0 l.1 (λ q h. stone_passes e t q on f j h) l.4
      (last_ends e t (last_place l.0 l.1) on f j l.3))
]
