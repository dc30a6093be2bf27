-- Links of elements on any board, also where stones lie off it.
use Rattle.std.proofs.Common.{◌≡◌, ℕ, ◌*◌, ◌&&◌, true, false, Some, nat_eq, sym, ◌∙◌, ap, subst}
use Rattle.std.proofs.Common.{inl, inr}
use Rattle.std.specs.Option.{option_eq}
use Rattle.hex_cells.specs.Sets.{has}
use Rattle.hex_board.specs.Elements.{PlayerBoard, HasCell, edge_element}
use Rattle.hex_board.specs.Joined.{Joined}
use Rattle.hex_board.specs.Places.{Place, at_cell, at_edge, IsMember, cell_of, is_member}
use Rattle.hex_board.specs.Places.{last_place}
use Rattle.hex_board.specs.Positions.{is_empty_at, stones_of}
use Rattle.hex_board.proofs.Places.{cell_test}
use Rattle.conn_store.specs.Laws.{IsSubset}
use Rattle.conn_store.specs.Links.{MayPass, StonesLink}
use Rattle.conn_store.specs.Rules.{IsCell, IsGroup}
use Rattle.conn_store.proofs.Edges.{linked_joins}
use Rattle.conn_store.proofs.Ways.{linked_cell, linked_group, route_as}
use Rattle.win_cert.proofs.SameTests.{find_same}
use Rattle.win_cert.proofs.StonesOn.{edge_same, element_same, empty_same, on_board, own_inside}
use Rattle.win_cert.proofs.StonesOn.{own_within}

-- ---- to the board without stones off it, and back

pub cell_on : (e : PlayerBoard) (x k : ℕ) → HasCell e x k → HasCell (on_board e) x k
cell_on e x k h = sym (element_same e k) ∙ h

pub cell_off : (e : PlayerBoard) (x k : ℕ) → HasCell (on_board e) x k → HasCell e x k
cell_off e x k h = element_same e k ∙ h

pub member_on : (e : PlayerBoard) (x : ℕ) (p : Place) → IsMember e x p → IsMember (on_board e) x p
member_on e x (at_cell k) h = cell_on e x k h
member_on e x (at_edge second) h = sym (edge_same e second) ∙ h

member_off : (e : PlayerBoard) (x : ℕ) (p : Place) → IsMember (on_board e) x p → IsMember e x p
member_off e x (at_cell k) h = cell_off e x k h
member_off e x (at_edge second) h = edge_same e second ∙ h

pass_on : (e : PlayerBoard) (x y s : ℕ) (p : Place) → MayPass e x y s p
    → MayPass (on_board e) x y s p
pass_on e x y s (at_cell k) (inl h) = inl h
pass_on e x y s (at_cell k) (inr (inl h)) = inr (inl (cell_on e x k h))
pass_on e x y s (at_cell k) (inr (inr h)) = inr (inr (cell_on e y k h))
pass_on e x y s (at_edge second) h = tt

pass_off : (e : PlayerBoard) (x y s : ℕ) (p : Place) → MayPass (on_board e) x y s p
    → MayPass e x y s p
pass_off e x y s (at_cell k) (inl h) = inl h
pass_off e x y s (at_cell k) (inr (inl h)) = inr (inl (cell_off e x k h))
pass_off e x y s (at_cell k) (inr (inr h)) = inr (inr (cell_off e y k h))
pass_off e x y s (at_edge second) h = tt

pub link_on : (e : PlayerBoard) (x y s : ℕ) → StonesLink e x y s → StonesLink (on_board e) x y s
link_on e x y s l = (
  l.0,
  l.1,
  member_on e x l.0 l.2,
  member_on e y (last_place l.0 l.1) l.3,
  route_as e.board.size e.player (MayPass e x y s) (MayPass (on_board e) x y s) l.0 l.1
      (pass_on e x y s) l.4,
)

link_off : (e : PlayerBoard) (x y s : ℕ) → StonesLink (on_board e) x y s → StonesLink e x y s
link_off e x y s l = (
  l.0,
  l.1,
  member_off e x l.0 l.2,
  member_off e y (last_place l.0 l.1) l.3,
  route_as e.board.size e.player (MayPass (on_board e) x y s) (MayPass e x y s) l.0 l.1
      (pass_off e x y s) l.4,
)

-- ---- over a middle

own_there : (e : PlayerBoard) (s : ℕ) → IsSubset (stones_of e.board e.player) s
    → IsSubset (stones_of (on_board e).board e.player) s
own_there e s i k h = i k (own_inside e.board e.player k h)

-- a group
pub group_links : (e : PlayerBoard) (x u y s : ℕ) → IsSubset (stones_of e.board e.player) s
    → IsGroup e u → StonesLink e x u s → StonesLink e u y s → StonesLink e x y s
group_links e x u y s i g l m
    = link_off e x y s
    (linked_group (on_board e) x u y s (own_within e.board e.player) (own_there e s i)
    (λ k f h. g k (empty_same e.board k ∙ f, cell_off e u k h)) (link_on e x u s l)
    (link_on e u y s m))

-- an empty cell, which is filled
pub cell_links : (e : PlayerBoard) (x u y k s : ℕ) → IsCell e u k → has s k ≡ true
    → StonesLink e x u s → StonesLink e u y s → StonesLink e x y s
cell_links e x u y k s c t l m = link_off e x y s
    (linked_cell (on_board e) x u y k s (own_within e.board e.player) (sym (empty_same e.board k)
    ∙ c.0) (cell_on e u k c.1) t (link_on e x u s l) (link_on e u y s m))

-- ---- the player's edges

pub links_join : (e : PlayerBoard) (s : ℕ) → IsSubset (stones_of e.board e.player) s
    → StonesLink e (edge_element e false) (edge_element e true) s → Joined e.board.size e.player s
links_join e s i l = linked_joins (on_board e) s (own_within e.board e.player) (own_there e s i)
    (subst (λ v. StonesLink (on_board e) 0 v s) (edge_same e true) (link_on e 0 (edge_element e true) s l))

-- ---- the empty cell that an element is

pub cell_is : (e : PlayerBoard) (u k : ℕ) → IsCell e u k → cell_of e u ≡ Some k
cell_is e u k h =
    let d = on_board e in
    let n = e.board.size in
    let same : cell_of e u ≡ cell_of d u =
    find_same (λ j. is_empty_at e.board j && is_member e u (at_cell j))
    (λ j. is_empty_at d.board j && is_member d u (at_cell j)) 0 (n * n)
    (λ j l. ap (λ b. b && is_member e u (at_cell j)) (empty_same e.board j)
    ∙ ap (λ o. is_empty_at d.board j && option_eq nat_eq o (Some u)) (element_same e j)) in
    same ∙ sym (cell_test d u (Some k) (own_within e.board e.player) (sym (empty_same e.board k) ∙ h.0, cell_on e u k h.1) tt)
