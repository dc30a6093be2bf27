-- Paths of places: between elements, and inside a group.
use Rattle.std.proofs.Common.{◌≡◌, ℕ, ◌*◌, ◌+◌, ◌<◌, true, false, Bool, List, [], ◌∷◌, Some, refl}
use Rattle.std.proofs.Common.{sym, ◌∙◌, ap, subst, inl, inr, ◌⊎◌, arith}
use Rattle.std.proofs.lemmas.Bool.{cases_Bool}
use Rattle.hex_cells.specs.Sets.{has}
use Rattle.hex_cells.specs.Edges.{on_edge}
use Rattle.hex_cells.specs.declared.colours.Colour.{Colour}
use Rattle.std.specs.List.{count_by, range_with_len}
use Rattle.hex_board.specs.Elements.{PlayerBoard, HasCell, are_joined, edge_element, edge_elements}
use Rattle.hex_board.specs.Elements.{is_head, is_linked, is_tied}
use Rattle.hex_board.specs.Joined.{Path, last_of}
use Rattle.hex_board.specs.Places.{Place, at_cell, at_edge, Beside, IsMember, Near, Route}
use Rattle.hex_board.specs.Places.{last_place}
use Rattle.hex_board.specs.Positions.{Within, stones_of, is_empty_at}
use Rattle.hex_board.proofs.GroupLaws.{one_element}
use Rattle.hex_board.proofs.Parts.{high_apart, joined_low, low_joined, link_out, zero_out, one_out}
use Rattle.hex_board.proofs.Parts.{case_of, is_free, is_first, is_second, is_group, is_other}
use Rattle.hex_board.proofs.Parts.{linked_last, tied_stone, edge_below, of_free}
use Rattle.hex_board.proofs.Places.{beside_back, empty_alone}
use Rattle.hex_board.proofs.Search.{leads_out, joined_out}
use Rattle.conn_store.specs.Laws.{IsSubset}
use Rattle.conn_store.specs.Links.{MayPass, StonesLink}
use Rattle.conn_store.proofs.Sureness.{IsKept}

-- a path from p to q
abbrev pub Way : ℕ → Colour → (Place → Type 0) → Place → Place → Type 0
Way n c P p q = (ps : List Place) × Route n c P p ps × (last_place p ps ≡ q)

way_here : (n : ℕ) (c : Colour) (P : Place → Type 0) (p : Place) → P p → Way n c P p p
way_here n c P p h = ([], h, refl)

way_on : (n : ℕ) (c : Colour) (P : Place → Type 0) (p q r : Place) → P p → Beside n c p q
    → Way n c P q r → Way n c P p r
way_on n c P p q r h b w = (q ∷ w.0, (h, b, w.1), w.2)

first_passes : (n : ℕ) (c : Colour) (P : Place → Type 0) (p : Place) (ps : List Place)
    → Route n c P p ps → P p
first_passes n c P p [] w = w
first_passes n c P p (q ∷ qs) w = w.0

pub joined_route : (n : ℕ) (c : Colour) (P : Place → Type 0) (p q r : Place) (ps : List Place)
    → Route n c P p ps → last_place p ps ≡ q → Way n c P q r → Way n c P p r
joined_route n c P p q r [] w e v = subst (λ u. Way n c P u r) (sym e) v
joined_route n c P p q r (t ∷ ts) w e v
    = way_on n c P p t r w.0 w.1 (joined_route n c P t q r ts w.2 e v)

way_through : (n : ℕ) (c : Colour) (P : Place → Type 0) (p q r : Place) → Way n c P p q
    → Way n c P q r → Way n c P p r
way_through n c P p q r w v = joined_route n c P p q r w.0 w.1 w.2 v

route_back : (n : ℕ) (c : Colour) (P : Place → Type 0) (p q r : Place) (ps : List Place)
    → Route n c P p ps → last_place p ps ≡ q → Way n c P p r → Way n c P q r
route_back n c P p q r [] w e v = subst (λ u. Way n c P u r) e v
route_back n c P p q r (t ∷ ts) w e v =
    route_back n c P t q r ts w.2 e
    (way_on n c P t p r (first_passes n c P t ts w.2) (beside_back n c p t w.1) v)

way_back : (n : ℕ) (c : Colour) (P : Place → Type 0) (p q : Place) → Way n c P p q → Way n c P q p
way_back n c P p q w
    = route_back n c P p q p w.0 w.1 w.2 (way_here n c P p (first_passes n c P p w.0 w.1))

pub route_as : (n : ℕ) (c : Colour) (P Q : Place → Type 0) (p : Place) (ps : List Place)
    → ((q : Place) → P q → Q q) → Route n c P p ps → Route n c Q p ps
route_as n c P Q p [] f w = f p w
route_as n c P Q p (q ∷ qs) f w = (f p w.0, w.1, route_as n c P Q q qs f w.2)

way_as : (n : ℕ) (c : Colour) (P Q : Place → Type 0) (p q : Place) → ((r : Place) → P r → Q r)
    → Way n c P p q → Way n c Q p q
way_as n c P Q p q f w = (w.0, route_as n c P Q p w.0 f w.1, w.2)

-- ---- paths of the player's own stones

abbrev pub IsOwn : ℕ → Place → Type 0
IsOwn s (at_cell k) = has s k ≡ true
IsOwn s (at_edge second) = Unit {0}

cells_way : (n : ℕ) (c : Colour) (s a : ℕ) (xs : List ℕ) → Path n s a xs
    → Way n c (IsOwn s) (at_cell a) (at_cell (last_of a xs))
cells_way n c s a [] p = way_here n c (IsOwn s) (at_cell a) p
cells_way n c s a (x ∷ xs) p
    = way_on n c (IsOwn s) (at_cell a) (at_cell x) (at_cell (last_of x xs)) p.0 p.1
    (cells_way n c s x xs p.2)

edge_way : (n : ℕ) (c : Colour) (s a : ℕ) (second : Bool) (xs : List ℕ) → Path n s a xs
    → on_edge c second n (last_of a xs) ≡ true → Way n c (IsOwn s) (at_cell a) (at_edge second)
edge_way n c s a second [] p e = way_on n c (IsOwn s) (at_cell a) (at_edge second)
    (at_edge second) p e (way_here n c (IsOwn s) (at_edge second) tt)
edge_way n c s a second (x ∷ xs) p e
    = way_on n c (IsOwn s) (at_cell a) (at_cell x) (at_edge second) p.0 p.1
    (edge_way n c s x second xs p.2 e)

-- the player's own stones and edges of a board
abbrev pub Own : PlayerBoard → Place → Type 0
Own e p = IsOwn (stones_of e.board e.player) p

abbrev pub OwnWay : PlayerBoard → Place → Place → Type 0
OwnWay e p q = Way e.board.size e.player (Own e) p q

linked_way : (e : PlayerBoard) (a b : ℕ) → is_linked e a b ≡ true → OwnWay e (at_cell a) (at_cell b)
linked_way e a b h =
    let l = link_out e.board.size (stones_of e.board e.player) a b h in
    subst (λ v. OwnWay e (at_cell a) (at_cell v)) l.2
    (cells_way e.board.size e.player (stones_of e.board e.player) a l.0 l.1)

tied_way : (e : PlayerBoard) (second : Bool) (a : ℕ) → is_tied e second a ≡ true
    → OwnWay e (at_cell a) (at_edge second)
tied_way e second a h =
    let l = leads_out (e.board.size * e.board.size) e.board.size (stones_of e.board e.player)
    (on_edge e.player second e.board.size) a h in
    edge_way e.board.size e.player (stones_of e.board e.player) a second l.0 l.1 l.2

pub edges_way : (e : PlayerBoard) → are_joined e ≡ true → OwnWay e (at_edge false) (at_edge true)
edges_way e h =
    let j = joined_out e.board.size e.player (stones_of e.board e.player) h in
    way_on e.board.size e.player (Own e) (at_edge false) (at_cell j.0) (at_edge true) tt j.3
    (edge_way e.board.size e.player (stones_of e.board e.player) j.0 true j.1 j.2 j.4)

-- ---- inside a group

pub own_cell : (e : PlayerBoard) (u k : ℕ) → Within e.board.size (stones_of e.board e.player)
    → HasCell e u k
    → (is_empty_at e.board k ≡ true) ⊎ (has (stones_of e.board e.player) k ≡ true)
own_cell e u k on h = elim (case_of e k on) [
  | is_free f t ↦ inl f
  | is_first f t ↦ inr (tied_stone e false k f)
  | is_second f g t ↦ inr (tied_stone e true k g)
  | is_group r f g l m t ↦ inr (linked_last e r k l)
  | is_other f g l m t ↦ absurd (cc)
]

-- a path of own stones from a cell of the element that holds an edge
to_edge : (e : PlayerBoard) (u a : ℕ) (second : Bool)
    → Within e.board.size (stones_of e.board e.player) → HasCell e u a → edge_element e second ≡ u
    → OwnWay e (at_cell a) (at_edge second)
to_edge e u a false on h q = elim (zero_out e a on (h ∙ ap Some (sym q))) [
  | inl t ↦ tied_way e false a t
  | inr t ↦ way_through e.board.size e.player (Own e) (at_cell a) (at_edge true) (at_edge false)
      (tied_way e true a t.1)
      (way_back e.board.size e.player (Own e) (at_edge false) (at_edge true) (edges_way e t.0))
]
to_edge e u a true on h q = elim (cases_Bool (are_joined e)) [
  | inl j ↦ elim (zero_out e a on (h ∙ ap Some (sym q ∙ low_joined (are_joined e) j))) [
    | inl t ↦ way_through e.board.size e.player (Own e) (at_cell a) (at_edge false) (at_edge true)
        (tied_way e false a t) (edges_way e j)
    | inr t ↦ tied_way e true a t.1
  ]
  | inr j ↦ tied_way e true a (one_out e a on j (h ∙ ap Some (sym q ∙ high_apart (are_joined e) j)))
]

edge_to_edge : (e : PlayerBoard) (s t : Bool) → edge_element e s ≡ edge_element e t
    → OwnWay e (at_edge s) (at_edge t)
edge_to_edge e false false q = way_here e.board.size e.player (Own e) (at_edge false) tt
edge_to_edge e true true q = way_here e.board.size e.player (Own e) (at_edge true) tt
edge_to_edge e false true q = edges_way e (joined_low (are_joined e) (sym q))
edge_to_edge e true false q = way_back e.board.size e.player (Own e) (at_edge false) (at_edge true)
    (edges_way e (joined_low (are_joined e) q))

-- two places of a group hang together through own stones and edges
pub group_way : (e : PlayerBoard) (u : ℕ) (p q : Place)
    → Within e.board.size (stones_of e.board e.player)
    → ((k : ℕ) → is_empty_at e.board k ≡ true → HasCell e u k → ⊥) → IsMember e u p → IsMember e u q
    → OwnWay e p q
group_way e u (at_cell a) (at_cell b) on f h i = elim (one_element e u a b on h i) [
  | inl q ↦ elim (own_cell e u a on h) [
    | inl o ↦ absurd (f a o h)
    | inr o ↦ subst (λ v. OwnWay e (at_cell a) (at_cell v)) q
        (way_here e.board.size e.player (Own e) (at_cell a) o)
  ]
  | inr r ↦ elim r [
    | inl l ↦ linked_way e a b l
    | inr t ↦ way_through e.board.size e.player (Own e) (at_cell a) (at_edge t.0) (at_cell b)
        (tied_way e t.0 a t.2)
        (way_through e.board.size e.player (Own e) (at_edge t.0) (at_edge t.1) (at_cell b) (edge_to_edge e t.0 t.1 t.4)
        (way_back e.board.size e.player (Own e) (at_cell b) (at_edge t.1) (tied_way e t.1 b t.3)))
  ]
]
group_way e u (at_cell a) (at_edge t) on f h i = to_edge e u a t on h i
group_way e u (at_edge s) (at_cell b) on f h i = way_back e.board.size e.player (Own e) (at_cell b)
    (at_edge s) (to_edge e u b s on i h)
group_way e u (at_edge s) (at_edge t) on f h i = edge_to_edge e s t (h ∙ sym i)

-- ---- linked elements

-- the path of StonesLink
abbrev pub Passage : PlayerBoard → ℕ → ℕ → ℕ → Place → Place → Type 0
Passage e x y s p q = Way e.board.size e.player (MayPass e x y s) p q

linked_from : (e : PlayerBoard) (x y s : ℕ) (p q : Place) → IsMember e x p → IsMember e y q
    → Passage e x y s p q → StonesLink e x y s
linked_from e x y s p q h i w = (p, w.0, h, subst (λ v. IsMember e y v) (sym w.2) i, w.1)

kept_pass : (e : PlayerBoard) (x y s t : ℕ) (r : Place) → IsSubset s t → MayPass e x y s r
    → MayPass e x y t r
kept_pass e x y s t (at_cell k) f (inl h) = inl (f k h)
kept_pass e x y s t (at_cell k) f (inr h) = inr h
kept_pass e x y s t (at_edge second) f h = tt

pub linked_kept : (e : PlayerBoard) (x y : ℕ) → IsKept (StonesLink e x y)
linked_kept e x y s t f l
    = (l.0, l.1, l.2, l.3, route_as e.board.size e.player (MayPass e x y s) (MayPass e x y t) l.0 l.1 (λ r h. kept_pass e x y s t r f h) l.4)

pass_back : (e : PlayerBoard) (x y s : ℕ) (r : Place) → MayPass e x y s r → MayPass e y x s r
pass_back e x y s (at_cell k) (inl h) = inl h
pass_back e x y s (at_cell k) (inr (inl h)) = inr (inr h)
pass_back e x y s (at_cell k) (inr (inr h)) = inr (inl h)
pass_back e x y s (at_edge second) h = tt

pub linked_back : (e : PlayerBoard) (x y s : ℕ) → StonesLink e x y s → StonesLink e y x s
linked_back e x y s l =
    let w : Passage e x y s l.0 (last_place l.0 l.1) = (l.1, l.4, refl) in
    linked_from e y x s (last_place l.0 l.1) l.0 l.3 l.2
    (way_as e.board.size e.player (MayPass e x y s) (MayPass e y x s) (last_place l.0 l.1) l.0 (λ r h. pass_back e x y s r h)
    (way_back e.board.size e.player (MayPass e x y s) l.0 (last_place l.0 l.1) w))

first_member : (e : PlayerBoard) (x y s : ℕ) (p : Place) → IsMember e x p → MayPass e x y s p
first_member e x y s (at_cell k) h = inr (inl h)
first_member e x y s (at_edge second) h = tt

second_member : (e : PlayerBoard) (x y s : ℕ) (p : Place) → IsMember e y p → MayPass e x y s p
second_member e x y s (at_cell k) h = inr (inr h)
second_member e x y s (at_edge second) h = tt

pub near_linked : (e : PlayerBoard) (x y s : ℕ) → Near e x y → StonesLink e x y s
near_linked e x y s h = linked_from e x y s h.1 h.2 h.3 h.4
    (way_on e.board.size e.player (MayPass e x y s) h.1 h.2 h.2 (first_member e x y s h.1 h.3) h.5
    (way_here e.board.size e.player (MayPass e x y s) h.2 (second_member e x y s h.2 h.4)))

-- cells of u may be passed as stones
abbrev pub IsFilled : PlayerBoard → ℕ → ℕ → Type 0
IsFilled e u s = (k : ℕ) → HasCell e u k → has s k ≡ true

first_pass : (e : PlayerBoard) (x u y s : ℕ) (r : Place) → IsFilled e u s → MayPass e x u s r
    → MayPass e x y s r
first_pass e x u y s (at_cell k) f (inl h) = inl h
first_pass e x u y s (at_cell k) f (inr (inl h)) = inr (inl h)
first_pass e x u y s (at_cell k) f (inr (inr h)) = inl (f k h)
first_pass e x u y s (at_edge second) f h = tt

second_pass : (e : PlayerBoard) (x u y s : ℕ) (r : Place) → IsFilled e u s → MayPass e u y s r
    → MayPass e x y s r
second_pass e x u y s (at_cell k) f (inl h) = inl h
second_pass e x u y s (at_cell k) f (inr (inl h)) = inl (f k h)
second_pass e x u y s (at_cell k) f (inr (inr h)) = inr (inr h)
second_pass e x u y s (at_edge second) f h = tt

-- over a middle whose places hang together
pub linked_over : (e : PlayerBoard) (x u y s : ℕ) → IsFilled e u s
    → ((p q : Place) → IsMember e u p → IsMember e u q → Passage e x y s p q)
    → StonesLink e x u s → StonesLink e u y s → StonesLink e x y s
linked_over e x u y s f g l m =
    let v : Passage e x u s l.0 (last_place l.0 l.1) = (l.1, l.4, refl) in
    let w : Passage e u y s m.0 (last_place m.0 m.1) = (m.1, m.4, refl) in
    linked_from e x y s l.0 (last_place m.0 m.1) l.2 m.3
    (way_through e.board.size e.player (MayPass e x y s) l.0 (last_place l.0 l.1) (last_place m.0 m.1)
    (way_as e.board.size e.player (MayPass e x u s) (MayPass e x y s) l.0 (last_place l.0 l.1) (λ r h. first_pass e x u y s r f h) v)
    (way_through e.board.size e.player (MayPass e x y s) (last_place l.0 l.1) m.0 (last_place m.0 m.1) (g (last_place l.0 l.1) m.0 l.3 m.2)
    (way_as e.board.size e.player (MayPass e u y s) (MayPass e x y s) m.0 (last_place m.0 m.1) (λ r h. second_pass e x u y s r f h) w)))

own_pass : (e : PlayerBoard) (x y s : ℕ) (r : Place) → IsSubset (stones_of e.board e.player) s
    → Own e r → MayPass e x y s r
own_pass e x y s (at_cell k) f h = inl (f k h)
own_pass e x y s (at_edge second) f h = tt

-- the middle is a group
pub linked_group : (e : PlayerBoard) (x u y s : ℕ)
    → Within e.board.size (stones_of e.board e.player) → IsSubset (stones_of e.board e.player) s
    → ((k : ℕ) → is_empty_at e.board k ≡ true → HasCell e u k → ⊥) → StonesLink e x u s
    → StonesLink e u y s → StonesLink e x y s
linked_group e x u y s on i f l m = linked_over e x u y s
    (λ k h. elim (own_cell e u k on h) [ inl o ↦ absurd (f k o h) | inr o ↦ i k o ])
    (λ p q h j. way_as e.board.size e.player (Own e) (MayPass e x y s) p q (λ r t. own_pass e x y s r i t) (group_way e u p q on f h j)) l m

no_edge : (e : PlayerBoard) (u k : ℕ) (second : Bool) → is_empty_at e.board k ≡ true → HasCell e u k
    → edge_element e second ≡ u → ⊥
no_edge e u k second f h q = far (edge_elements e) (count_by (is_head e) (range_with_len 0 k))
    (edge_element e second) (edge_below e second) (q ∙ some_same _ _ (sym h ∙ of_free e k f))
  where
    far : (b x v : ℕ) → v < b → v ≡ b + x → ⊥
    far b x v h e = absurd (omega arith)

    some_same : (x y : ℕ) → Some x ≡ Some y → x ≡ y
    some_same x y e = cc

cell_way : (e : PlayerBoard) (x u y k s : ℕ) (p q : Place)
    → Within e.board.size (stones_of e.board e.player) → has s k ≡ true
    → is_empty_at e.board k ≡ true → HasCell e u k
    → IsMember e u p → IsMember e u q → Passage e x y s p q
cell_way e x u y k s (at_cell a) (at_cell b) on t f c h i =
    let ea : k ≡ a = empty_alone e u k a on f c h in
    let eb : k ≡ b = empty_alone e u k b on f c i in
    subst (λ v. Passage e x y s (at_cell a) (at_cell v)) (sym ea ∙ eb)
    (way_here e.board.size e.player (MayPass e x y s) (at_cell a) (inl (subst (λ v. has s v ≡ true) ea t)))
cell_way e x u y k s (at_cell a) (at_edge second) on t f c h i = absurd (no_edge e u k second f c i)
cell_way e x u y k s (at_edge second) q on t f c h i = absurd (no_edge e u k second f c h)

-- the middle is an empty cell, which is filled
pub linked_cell : (e : PlayerBoard) (x u y k s : ℕ)
    → Within e.board.size (stones_of e.board e.player) → is_empty_at e.board k ≡ true
    → HasCell e u k
    → has s k ≡ true → StonesLink e x u s → StonesLink e u y s → StonesLink e x y s
linked_cell e x u y k s on f c t l m = linked_over e x u y s
    (λ j h. subst (λ v. has s v ≡ true) (empty_alone e u k j on f c h) t)
    (λ p q h i. cell_way e x u y k s p q on t f c h i) l m
