-- Links of elements on a board with more stones of the player's: elements that hold others are
-- linked where those are.
use Rattle.std.proofs.Common.{◌≡◌, ℕ, Bool, true, [], ap, refl, sym, ◌∙◌, subst}
use Rattle.std.proofs.Common.{inl, inr, ◌⊎◌}
use Rattle.std.specs.List.{count_by, range_with_len}
use Rattle.std.proofs.lemmas.Bool.{both_ways}
use Rattle.hex_cells.specs.Sets.{has}
use Rattle.hex_cells.specs.declared.colours.Colour.{Colour}
use Rattle.hex_board.specs.Elements.{PlayerBoard, HasCell, edge_element, edge_elements}
use Rattle.hex_board.specs.Elements.{head_element, is_head}
use Rattle.hex_board.specs.Places.{Place, at_cell, at_edge, IsMember, Route, last_place}
use Rattle.hex_board.specs.Positions.{Within, is_empty_at, stones_of}
use Rattle.hex_board.proofs.Parts.{edge_below, high_edge, of_free, some_same}
use Rattle.hex_board.proofs.Placed.{stone_full}
use Rattle.hex_board.proofs.Places.{empty_alone}
use Rattle.conn_store.specs.Laws.{IsSubset}
use Rattle.conn_store.specs.Links.{MayPass, StonesLink}
use Rattle.conn_store.proofs.Ways.{Own, Way, group_way, joined_route, own_cell, route_as}
use Rattle.win_cert.proofs.LinksOn.{cell_on, link_on, member_on}
use Rattle.win_cert.proofs.StonesOn.{empty_same, on_board, own_inside, own_within}

-- one place is of element x on e, and of element v on d
pub record IsHeldBy (e d : PlayerBoard) (x v : ℕ) : Type 0 where
  pub place : Place
  pub from : IsMember e x place
  pub to : IsMember d v place

-- ---- an element with an empty cell has no other place

-- such a cell is the element's one place
only_place : (e : PlayerBoard) (x k : ℕ) (p : Place)
    → Within e.board.size (stones_of e.board e.player) → is_empty_at e.board k ≡ true
    → HasCell e x k → IsMember e x p → p ≡ at_cell k
only_place e x k (at_cell a) on f h i = ap at_cell (sym (empty_alone e x k a on f h i))
only_place e x k (at_edge second) on f h i
    = absurd
    (high_edge (edge_elements e) (count_by (is_head e) (range_with_len 0 k)) (edge_element e second) (edge_below e second)
    (i ∙ some_same x (head_element e k) (sym h ∙ of_free e k f)))

-- the same of any board
pub free_place : (e : PlayerBoard) (x k : ℕ) (p : Place) → is_empty_at e.board k ≡ true
    → HasCell e x k → IsMember e x p → p ≡ at_cell k
free_place e x k p f h i
    = only_place (on_board e) x k p (own_within e.board e.player) (sym (empty_same e.board k) ∙ f)
    (cell_on e x k h) (member_on e x p i)

-- ---- paths

way_as : (e : PlayerBoard) (P : Place → Type 0) (p q : Place) → ((r : Place) → Own e r → P r)
    → Way e.board.size e.player (Own e) p q → Way e.board.size e.player P p q
way_as e P p q f w = (w.0, route_as e.board.size e.player (Own e) P p w.0 f w.1, w.2)

-- two places of an element hang together
inside_way : (e : PlayerBoard) (x : ℕ) (P : Place → Type 0) (p q : Place)
    → Within e.board.size (stones_of e.board e.player) → ((r : Place) → Own e r → P r)
    → ((k : ℕ) → HasCell e x k → P (at_cell k)) → IsMember e x p → IsMember e x q
    → Way e.board.size e.player P p q
inside_way e x P (at_edge second) q on f g h i = way_as e P (at_edge second) q f
    (group_way e x (at_edge second) q on (λ k z j. edge_none e x k second z j h) h i)
  where
    edge_none : (e : PlayerBoard) (x k : ℕ) (second : Bool) → is_empty_at e.board k ≡ true
        → HasCell e x k → edge_element e second ≡ x → ⊥
    edge_none e x k second z j h
        = high_edge (edge_elements e) (count_by (is_head e) (range_with_len 0 k))
        (edge_element e second) (edge_below e second)
        (h ∙ some_same x (head_element e k) (sym j ∙ of_free e k z))
inside_way e x P (at_cell a) q on f g h i = elim (own_cell e x a on h) [
  | inl z ↦ subst (λ v. Way e.board.size e.player P (at_cell a) v) (sym (only_place e x a q on z h i))
      ([], g a h, refl)
  | inr o ↦ way_as e P (at_cell a) q f
      (group_way e x (at_cell a) q on
      (λ k z j. both_ways (is_empty_at e.board k)
      (stone_full e.board e.player k (subst (λ v. has (stones_of e.board e.player) v ≡ true) (sym (empty_alone e x k a on z j h)) o)) z) h i)
]

-- ---- on the other board

-- on d the player has his stones on e, or more
pub record HasMore (e d : PlayerBoard) : Type 0 where
  pub size : e.board.size ≡ d.board.size
  pub player : e.player ≡ d.player
  pub own : IsSubset (stones_of e.board e.player) (stones_of d.board d.player)

own_there : (e d : PlayerBoard) (v w t : ℕ) → HasMore e d → IsSubset (stones_of d.board d.player) t
    → (r : Place) → Own (on_board e) r → MayPass d v w t r
own_there e d v w t m i (at_cell k) h = inl (i k (m.own k (own_inside e.board e.player k h)))
own_there e d v w t m i (at_edge second) h = tt

-- a cell of an element has a stone, or is a cell of the one that holds it
held_cell : (e d : PlayerBoard) (x v t k : ℕ) → HasMore e d
    → IsSubset (stones_of d.board d.player) t → IsHeldBy e d x v → HasCell (on_board e) x k
    → (has t k ≡ true) ⊎ HasCell d v k
held_cell e d x v t k m i b h = elim (own_cell (on_board e) x k (own_within e.board e.player) h) [
  | inl z ↦ inr (subst (IsMember d v) (only_place (on_board e) x k b.place (own_within e.board e.player) z h (member_on e x b.place b.from)) b.to)
  | inr o ↦ inl (i k (m.own k (own_inside e.board e.player k o)))
]

first_there : (e d : PlayerBoard) (x v w t k : ℕ) → HasMore e d
    → IsSubset (stones_of d.board d.player) t → IsHeldBy e d x v → HasCell (on_board e) x k
    → MayPass d v w t (at_cell k)
first_there e d x v w t k m i b h
    = elim (held_cell e d x v t k m i b h) [ inl o ↦ inl o | inr o ↦ inr (inl o) ]

second_there : (e d : PlayerBoard) (y v w t k : ℕ) → HasMore e d
    → IsSubset (stones_of d.board d.player) t → IsHeldBy e d y w → HasCell (on_board e) y k
    → MayPass d v w t (at_cell k)
second_there e d y v w t k m i b h
    = elim (held_cell e d y w t k m i b h) [ inl o ↦ inl o | inr o ↦ inr (inr o) ]

pass_there : (e d : PlayerBoard) (x y v w s t : ℕ) → HasMore e d
    → IsSubset (stones_of d.board d.player) t → IsHeldBy e d x v → IsHeldBy e d y w → IsSubset s t
    → (r : Place) → MayPass (on_board e) x y s r → MayPass d v w t r
pass_there e d x y v w s t m i a b j (at_cell k) (inl h) = inl (j k h)
pass_there e d x y v w s t m i a b j (at_cell k) (inr (inl h))
    = first_there e d x v w t k m i a h
pass_there e d x y v w s t m i a b j (at_cell k) (inr (inr h))
    = second_there e d y v w t k m i b h
pass_there e d x y v w s t m i a b j (at_edge second) h = tt

-- what links two elements links those that hold them
pub link_held : (e d : PlayerBoard) (x y v w s t : ℕ) → HasMore e d → IsHeldBy e d x v
    → IsHeldBy e d y w → IsSubset s t → IsSubset (stones_of d.board d.player) t
    → StonesLink e x y s → StonesLink d v w t
link_held e d x y v w s t m a b j i link =
    let f = on_board e in
    let on = own_within e.board e.player in
    let n = e.board.size in
    let P = MayPass d v w t in
    let l = link_on e x y s link in
    let own = own_there e d v w t m i in
    let first = inside_way f x P a.place l.0 on own (λ k h. first_there e d x v w t k m i a h)
    (member_on e x a.place a.from) l.2 in
    let last = inside_way f y P (last_place l.0 l.1) b.place on own
    (λ k h. second_there e d y v w t k m i b h) l.3 (member_on e y b.place b.from) in
    let middle : Route n e.player P l.0 l.1
    = route_as n e.player (MayPass f x y s) P l.0 l.1 (pass_there e d x y v w s t m i a b j) l.4 in
    let way = joined_route n e.player P a.place l.0 b.place first.0 first.1 first.2
    (joined_route n e.player P l.0 (last_place l.0 l.1) b.place l.1 middle refl last) in (
      a.place,
      way.0,
      a.to,
      subst (IsMember d w) (sym way.2) b.to,
      subst (λ (c : Colour). Route d.board.size c P a.place way.0) m.player
          (subst (λ z. Route z e.player P a.place way.0) m.size way.1),
    )
