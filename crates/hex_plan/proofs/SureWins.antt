-- Who is sure of joining his edges on a later board wins it.
use Rattle.std.proofs.Common.{◌≡◌, ℕ, ◌+◌, true, false, sym, subst, inl, inr, arith}
use Rattle.std.proofs.lemmas.Bool.{false_from_ne_true}
use Rattle.hex_cells.specs.Sets.{has, members, with_cell, without_cell}
use Rattle.hex_cells.specs.Colours.{other_of}
use Rattle.hex_cells.specs.declared.colours.Colour.{Colour}
use Rattle.hex_cells.proofs.WithCell.{with_cell-here}
use Rattle.hex_board.specs.Elements.{HasCell, PlayerBoard, edge_element}
use Rattle.hex_board.specs.Joined.{Joined}
use Rattle.hex_board.specs.Positions.{AllEmpty, Position, Within, placed, stones_of}
use Rattle.hex_board.specs.Wins.{Wins}
use Rattle.hex_board.proofs.Placed.{placed_other, placed_own, placed_size}
use Rattle.conn_store.specs.Entries.{IsBetween, IsTrueEntry, IsValid}
use Rattle.conn_store.specs.Laws.{IsSubset}
use Rattle.conn_store.specs.Links.{StonesLink}
use Rattle.conn_store.specs.Rules.{AndRule, IsCell, both_of}
use Rattle.conn_store.specs.Truth.{IsSure, IsSureIn}
use Rattle.conn_store.specs.declared.entries.Entry.{Entry}
use Rattle.conn_store.specs.declared.entries.Kind.{Kind}
use Rattle.conn_store.specs.declared.entries.Kind.TheVariants.{Full, Semi}
use Rattle.conn_store.proofs.Chains.{empty_both, misses_of}
use Rattle.conn_store.proofs.Edges.{linked_joins}
use Rattle.conn_store.proofs.RuleTruth.{between, between_back}
use Rattle.conn_store.proofs.Sureness.{in_union, more_stones, same, sure_both, sure_less}
use Rattle.conn_store.proofs.Sureness.{sure_wider, union_left, union_right}
use Rattle.conn_store.proofs.Ways.{linked_cell, linked_kept}
use Rattle.conn_store.proofs.Winning.{Joins, sure_wins, still_empty, rest_empty}
use Rattle.win_cert.proofs.CutEnds.{between_edges}

-- the player's two edges
abbrev pub EdgesLink : PlayerBoard → ℕ → Type 0
EdgesLink e = StonesLink e (edge_element e false) (edge_element e true)

-- ---- boards with one stone more

edges_join : (e : PlayerBoard) (n s : ℕ) → n ≡ e.board.size
    → Within e.board.size (stones_of e.board e.player) → IsSubset (stones_of e.board e.player) s
    → Joins (EdgesLink e) n e.player s
edges_join e n s q on i t j g
    = subst (λ m. Joined m e.player t) (sym q) (linked_joins e t on (λ k h. j k (i k h)) g)

-- after a stone of his own
wins_after_own : (e : PlayerBoard) (n k c : ℕ) → Within e.board.size (stones_of e.board e.player)
    → AllEmpty (placed e.board e.player k) c
    → IsSureIn n Full (EdgesLink e) (with_cell (stones_of e.board e.player) k) c
    → Wins e.player (placed e.board e.player k) (other_of e.player)
wins_after_own e n k c on f g =
    let s = stones_of e.board e.player in
    sure_wins n Full e.player (placed e.board e.player k) (EdgesLink e) (with_cell s k) c
    (placed_own e.board e.player k) f
    (edges_join e (placed e.board e.player k).size (with_cell s k) (placed_size e.board e.player k) on (more_stones s k)) g

-- after a stone of the opponent outside the carrier
pub wins_after_other : (board : Position) (player : Colour) (n k c : ℕ)
    → Within board.size (stones_of board (other_of player)) → AllEmpty board c → has c k ≡ false
    → IsSureIn n Semi (EdgesLink (record { board = board; player = other_of player }))
    (stones_of board (other_of player)) c → Wins (other_of player) (placed board player k)
    (other_of player)
wins_after_other board player n k c on f h g =
    let e : PlayerBoard = record { board = board; player = other_of player } in
    let s = stones_of board (other_of player) in
    sure_wins n Semi (other_of player) (placed board player k) (EdgesLink e) s c
    (placed_other board player k) (still_empty board player c k f h)
    (edges_join e (placed board player k).size s (placed_size board player k) on (same s)) g

-- ---- entries between the two edges

says_edges : (e : PlayerBoard) (a : Entry) (n : ℕ) (kind : Kind) (s c : ℕ)
    → IsBetween a (edge_element e false) (edge_element e true)
    → IsSureIn n kind (StonesLink e a.x a.y) s c
    → IsSureIn n kind (EdgesLink e) s c
says_edges e a n kind s c h g =
    let p = between_edges e a h in
    subst (λ v. IsSureIn n kind (StonesLink e (edge_element e false) v) s c) p.1
    (subst (λ v. IsSureIn n kind (StonesLink e v a.y) s c) p.0 g)

-- what an entry between the two edges says
pub entry_says : (e : PlayerBoard) (a : Entry) (kind : Kind)
    → IsBetween a (edge_element e false) (edge_element e true) → IsTrueEntry e a → a.kind ≡ kind
    → IsSureIn (members a.carrier 121) kind (EdgesLink e) (stones_of e.board e.player) a.carrier
entry_says e a kind h t k
    = says_edges e a (members a.carrier 121) kind (stones_of e.board e.player) a.carrier h
    (subst (λ w. IsSure w (StonesLink e a.x a.y) (stones_of e.board e.player) a.carrier) k t)

-- after a stone on a cell of a full entry's carrier
pub full_wins : (e : PlayerBoard) (a : Entry) (k : ℕ)
    → Within e.board.size (stones_of e.board e.player)
    → IsBetween a (edge_element e false) (edge_element e true) → IsValid e a → IsTrueEntry e a
    → a.kind ≡ Full → has a.carrier k ≡ true
    → Wins e.player (placed e.board e.player k) (other_of e.player)
full_wins e a k on h v t f i =
    let s = stones_of e.board e.player in
    wins_after_own e (members a.carrier 121) k (without_cell a.carrier k) on
    (rest_empty e.board e.player a.carrier k v.empty)
    (sure_less (members a.carrier 121) Full (EdgesLink e) s a.carrier k
    (linked_kept e (edge_element e false) (edge_element e true)) i (entry_says e a Full h t f))

-- ---- two full entries that meet in a cell

-- with one stone more, what a full entry of x and u says
part_says : (e : PlayerBoard) (a : Entry) (x u k : ℕ) → IsTrueEntry e a → a.kind ≡ Full
    → IsBetween a x u
    → IsSureIn (members a.carrier 121) Full (StonesLink e x u)
    (with_cell (stones_of e.board e.player) k) a.carrier
part_says e a x u k t f h =
    let s = stones_of e.board e.player in
    let n = members a.carrier 121 in
    sure_wider n n Full (StonesLink e x u) s (with_cell s k) a.carrier a.carrier (linked_kept e x u)
    (omega arith) (more_stones s k) (same a.carrier)
    (between e n Full a x u s a.carrier h (subst (λ w. IsSure w (StonesLink e a.x a.y) s a.carrier) f t))

-- after a stone on the cell in which they meet, the two join
chain_sure : (e : PlayerBoard) (a b : Entry) (x u y k : ℕ)
    → Within e.board.size (stones_of e.board e.player) → IsTrueEntry e a → IsTrueEntry e b
    → AndRule e a b x u y → IsCell e u k
    → IsSureIn (members a.carrier 121 + members b.carrier 121) Full (StonesLink e x y)
    (with_cell (stones_of e.board e.player) k) (both_of a b)
chain_sure e a b x u y k on ta tb r g =
    let s = stones_of e.board e.player in
    let n = members a.carrier 121 in
    let p = members b.carrier 121 in
    sure_both (n + p) n p Full (StonesLink e x u) (StonesLink e u y) (StonesLink e x y)
    (with_cell s k) a.carrier b.carrier (both_of a b) (omega arith)
    (linked_kept e x u) (linked_kept e u y) (linked_kept e x y)
    (λ t i j l. linked_cell e x u y k t on g.0 g.1 (i k (with_cell-here s k)) j l)
    (λ q h. false_from_ne_true (has b.carrier q) (r.apart q h)) (union_left a.carrier b.carrier)
    (union_right a.carrier b.carrier)
    (part_says e a x u k ta r.first_kind r.chain.first)
    (part_says e b u y k tb r.second_kind r.chain.second)

-- the cell in which they meet is in neither carrier
not_in_both : (e : PlayerBoard) (a b : Entry) (x u y k : ℕ) → IsValid e a → IsValid e b
    → AndRule e a b x u y → HasCell e u k → has (both_of a b) k ≡ false
not_in_both e a b x u y k va vb r g
    = false_from_ne_true (has (both_of a b) k) (λ h. elim (in_union a.carrier b.carrier k h) [
      | inl o ↦ (misses_of e a x u va r.chain.first).1 k g o
      | inr o ↦ (misses_of e b u y vb r.chain.second).0 k g o
    ])

pub middle_wins : (e : PlayerBoard) (entry a b : Entry) (x u y k : ℕ)
    → Within e.board.size (stones_of e.board e.player)
    → IsBetween entry (edge_element e false) (edge_element e true) → IsBetween entry x y
    → IsValid e a → IsValid e b → IsTrueEntry e a → IsTrueEntry e b → AndRule e a b x u y
    → IsCell e u k → Wins e.player (placed e.board e.player k) (other_of e.player)
middle_wins e entry a b x u y k on h i va vb ta tb r g =
    let s = stones_of e.board e.player in
    let n = members a.carrier 121 + members b.carrier 121 in
    wins_after_own e n k (both_of a b) on
    (still_empty e.board e.player (both_of a b) k (empty_both e a.carrier b.carrier va.empty vb.empty) (not_in_both e a b x u y k va vb r g.1))
    (says_edges e entry n Full (with_cell s k) (both_of a b) h
    (between_back e n Full entry x y (with_cell s k) (both_of a b) i (chain_sure e a b x u y k on ta tb r g)))
