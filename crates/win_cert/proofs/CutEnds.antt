-- The end by which a line names an element, and the elements of the player's edges.
use Rattle.std.proofs.Common.{◌≡◌, ℕ, ◌*◌, ◌<◌, nat_lt, ◌&&◌, not, true, false, Option, Some, None}
use Rattle.std.proofs.Common.{min, max, sym, ◌∙◌, subst, arith}
use Rattle.std.specs.Option.{MatchOption}
use Rattle.std.proofs.lemmas.Bool.{and_parts, false_from_ne_true, ltb-true}
use Rattle.hex_cells.specs.Sets.{has}
use Rattle.hex_cells.specs.Colours.{other_of}
use Rattle.hex_board.specs.Elements.{PlayerBoard, HasCell, edge_element}
use Rattle.hex_board.specs.Positions.{Position, Within, stones_of}
use Rattle.hex_cells.specs.declared.colours.Colour.{Colour}
use Rattle.hex_board.proofs.Parts.{case_of, is_free, is_first, is_second, is_group, is_other}
use Rattle.hex_board.proofs.Parts.{linked_last, none_other, tied_stone, none_some}
use Rattle.conn_store.specs.Entries.{IsBetween}
use Rattle.conn_store.specs.declared.entries.Entry.{Entry}
use Rattle.win_cert.specs.Cutting.{AreStonesOn, IsEndFor}
use Rattle.win_cert.specs.declared.lines.End.TheVariants.{At}

cell_below : (e : PlayerBoard) (k x : ℕ) → AreStonesOn e → HasCell e x k
    → k < e.board.size * e.board.size
cell_below e k x s h = elim (case_of e k s.own) [
  | is_free i t ↦ ltb-true k (e.board.size * e.board.size)
      (and_parts (nat_lt k (e.board.size * e.board.size)) (not (has e.board.black k))
      (and_parts (nat_lt k (e.board.size * e.board.size) && not (has e.board.black k)) (not (has e.board.white k)) i).0).0
  | is_first i t ↦ s.own k (tied_stone e false k i)
  | is_second i j t ↦ s.own k (tied_stone e true k j)
  | is_group r i j l m t ↦ s.own k (linked_last e r k l)
  | is_other i j l m t ↦ absurd (none_some x (sym t ∙ h))
]

-- a cell of the element names it
pub cell_end : (e : PlayerBoard) (x k : ℕ) → AreStonesOn e → HasCell e x k → IsEndFor e x (At k)
cell_end e x k s h =
    let l = cell_below e k x s h in
    record {
      element = h;
      place = l;
      other = false_from_ne_true (has (stones_of e.board (other_of e.player)) k)
          (λ t. none_some x (sym ((none_other e k s.own s.apart l).1 t) ∙ h));
    }

-- what is said of the item of an option that has one
pub some_case : (P : Type 0) (Q : ℕ → Type 0) (o : Option ℕ) (k : ℕ) → MatchOption o P Q
    → o ≡ Some k → Q k
some_case P Q None k m h = absurd (cc)
some_case P Q (Some v) k m h = let e : v ≡ k = cc in subst Q e m

-- the player's stones, as they are asked for, lie on the board
pub stones_within : (p : Position) (e : PlayerBoard) (c : Colour) (s : ℕ) → p ≡ e.board
    → c ≡ e.player → s ≡ stones_of p c → Within p.size s
    → Within e.board.size (stones_of e.board e.player)
stones_within p e c s h k q on =
    subst (λ (v : Position). Within v.size (stones_of v e.player)) h
    (subst (λ (v : Colour). Within p.size (stones_of p v)) k (subst (Within p.size) q on))

-- the entry of the edges
pub between_edges : (e : PlayerBoard) (a : Entry)
    → IsBetween a (edge_element e false) (edge_element e true) → (a.x ≡ edge_element e false)
    × (a.y ≡ edge_element e true)
between_edges e a h = both a.x a.y (edge_element e true) h.0 h.1
  where
    both : (x y v : ℕ) → x ≡ min 0 v → y ≡ max 0 v → (x ≡ 0) × (y ≡ v)
    both x y v p q = (omega arith, omega arith)
