-- Entries of the player's edges: where he is joined, and after a stone of his.
use Rattle.std.proofs.Common.{◌≡◌, ℕ, true, false, Bool, List, [], ◌∷◌, refl, sym, ◌∙◌, subst, inl}
use Rattle.std.proofs.Common.{inr, suc, arith}
use Rattle.std.specs.List.{count_by, range_with_len}
use Rattle.hex_cells.specs.Sets.{has, members, with_cell, without_cell}
use Rattle.hex_cells.specs.Edges.{on_edge}
use Rattle.hex_cells.specs.declared.colours.Colour.{Colour}
use Rattle.hex_cells.proofs.WithCell.{with_cell-here, with_cell-keeps}
use Rattle.hex_board.specs.Elements.{PlayerBoard, are_joined, edge_element, edge_elements}
use Rattle.hex_board.specs.Elements.{head_element, is_head}
use Rattle.hex_board.specs.Joined.{Joined, Path, last_of}
use Rattle.hex_board.specs.Places.{Place, at_cell, at_edge, IsMember, Route, last_place}
use Rattle.hex_board.specs.Positions.{AllEmpty, is_empty_at, stones_of}
use Rattle.hex_board.proofs.Parts.{edge_below, of_free, some_same, high_edge}
use Rattle.hex_board.proofs.Search.{joined_out}
use Rattle.conn_store.specs.Entries.{Misses}
use Rattle.conn_store.specs.Laws.{IsSubset}
use Rattle.conn_store.specs.Links.{MayPass, StonesLink}
use Rattle.conn_store.specs.declared.entries.Kind.{Kind}
use Rattle.conn_store.specs.declared.entries.Kind.TheVariants.{Full, Semi}
use Rattle.conn_store.proofs.Sureness.{sure_more, without_keeps}
use Rattle.conn_store.proofs.Ways.{linked_kept}
use Rattle.win_cert.proofs.LinksOn.{links_join}
use Rattle.win_cert.specs.Scopes.{elements_in}
use Rattle.win_cert.proofs.GoodEntries.{IsGood, concluded, good_linked}
use Rattle.win_cert.proofs.ScopeBoards.{IsSmallBoard, scope_fewer, scope_more, scope_size}
use Rattle.conn_store.proofs.Chains.{empty_more}

-- the entry of the player's edges
abbrev pub IsGoodOfEdges : PlayerBoard → Kind → ℕ → Type 0
IsGoodOfEdges e kind c = IsGood e kind (edge_element e false) (edge_element e true) c

-- ---- who is joined has linked the elements of his edges

to_edge : (n : ℕ) (c : Colour) (P : Place → Type 0) (t x : ℕ) (xs : List ℕ)
    → ((k : ℕ) → has t k ≡ true → P (at_cell k)) → P (at_edge true) → Path n t x xs
    → on_edge c true n (last_of x xs) ≡ true → (ps : List Place) × Route n c P (at_cell x) ps
    × (last_place (at_cell x) ps ≡ at_edge true)
to_edge n c P t x [] f g p h = (at_edge true ∷ [], (f x p, h, g), refl)
to_edge n c P t x (y ∷ ys) f g p h = let r = to_edge n c P t y ys f g p.2 h in
    (at_cell y ∷ r.0, (f x p.0, p.1, r.1), r.2)

pub joined_links : (e : PlayerBoard) (t : ℕ) → Joined e.board.size e.player t
    → StonesLink e (edge_element e false) (edge_element e true) t
joined_links e t j =
    let r = to_edge e.board.size e.player
    (MayPass e (edge_element e false) (edge_element e true) t) t j.0 j.1
    (λ k h. inl h) tt j.2 j.4 in (
      at_edge false,
      at_cell j.0 ∷ r.0,
      refl,
      subst (λ v. IsMember e (edge_element e true) v) (sym r.2) refl,
      (tt, j.3, r.1),
    )

-- so an entry with the empty carrier is true
pub good_done : (e : PlayerBoard) → IsSmallBoard e → are_joined e ≡ true → IsGoodOfEdges e Full 0
good_done e m h = good_linked e (edge_element e false) (edge_element e true) m
    (joined_links e (stones_of e.board e.player) (joined_out e.board.size e.player (stones_of e.board e.player) h))

-- ---- no empty cell is in the element of an edge

pub edge_misses : (e : PlayerBoard) (second : Bool) (c : ℕ) → AllEmpty e.board c
    → Misses e (edge_element e second) c
edge_misses e second c f k h i
    = high_edge (edge_elements e) (count_by (is_head e) (range_with_len 0 k))
    (edge_element e second) (edge_below e second)
    (some_same (edge_element e second) (head_element e k) (sym h ∙ of_free e k (f k i)))

-- ---- after a stone of his

-- with a stone on the cell the player is sure of his edges, so without it he is if he places first
pub good_move : (base : PlayerBoard) (s k c : ℕ) → IsSmallBoard (elements_in base s)
    → is_empty_at (elements_in base s).board k ≡ true
    → IsGoodOfEdges (elements_in base (with_cell s k)) Full c
    → IsGoodOfEdges (elements_in base s) Semi (with_cell c k)
good_move base s k c m h g =
    let e = elements_in base s in
    let w = elements_in base (with_cell s k) in
    let own = stones_of e.board base.player in
    let all : AllEmpty e.board (with_cell c k)
    = empty_more e c k (λ j i. (scope_fewer base.board base.player s k j (g.empty j i)).0) h in
    let kept : IsSubset c (without_cell (with_cell c k) k)
    = λ j i. without_keeps (with_cell c k) k j (with_cell-keeps c k j i)
    (scope_fewer base.board base.player s k j (g.empty j i)).1 in
    record {
      empty = all;
      first = edge_misses e false (with_cell c k) all;
      second = edge_misses e true (with_cell c k) all;
      holds = concluded e (suc (members c 121)) Semi (edge_element e false) (edge_element e true)
          (with_cell c k) m all (inr (
            k,
            with_cell-here c k,
            sure_more (members c 121) (members c 121) Full
                (StonesLink w (edge_element w false) (edge_element w true))
                (StonesLink e (edge_element e false) (edge_element e true))
                (stones_of w.board base.player) (with_cell own k) c (without_cell (with_cell c k) k)
                (omega arith) (scope_more base.board base.player s k) kept
                (λ a b i j l. joined_links e b (subst (λ z. Joined z base.player b) (scope_size base.board base.player (with_cell s k)
                ∙ sym (scope_size base.board base.player s))
                (links_join w b (λ q r. i q (scope_more base.board base.player s k q r))
                (linked_kept w (edge_element w false) (edge_element w true) a b j l))))
                g.holds,
          ));
    }
