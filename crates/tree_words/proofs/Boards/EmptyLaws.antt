-- The empty cells of a board: as a set, in a list, and how many they are.
use Rattle.std.proofs.Common.{◌≡◌, ℕ, zero, suc, ◌+◌, ◌*◌, ◌≤◌, ◌<◌, Bool, true, false, cond, List}
use Rattle.std.proofs.Common.{[], ◌∷◌, length, set, get_or, refl, sym, ap, ◌∙◌, subst, ⊎_elim}
use Rattle.std.proofs.Common.{arith, ◌-◌, length-append}
use Rattle.std.specs.Prelude.{◌==◌}
use Rattle.hex_cells.specs.Sets.{has as has_cell, members}
use Rattle.hex_cells.proofs.Bits.{below_from_items}
use Rattle.hex_cells.proofs.Counts.{members_flat}
use Rattle.hex_board.specs.Positions.{Position, is_empty_at}
use Rattle.play_out.specs.Fills.{empties_of}
use Rattle.tree_words.specs.Settings.{Setting, IsSetting}
use Rattle.tree_words.specs.Words.{root_at, move_word, cell_in}
use Rattle.tree_words.specs.Blocks.{LinkedBlock, place, cell_at, InOrder, up}
use Rattle.tree_words.specs.Paths.{NodeState, root_state, state_after, node_board}
use Rattle.tree_words.specs.Complete.{allowed_cells, cells_below, HasEmpties}
use Rattle.std.proofs.lemmas.Bool.{eqb-true, cases_Bool, false_from_ne_true}
use Rattle.tree_words.proofs.Blocks.BlockLaws.{apart, up_same, root_node}
use Rattle.tree_words.proofs.Boards.RootLaws.{filter_at}
use Rattle.std.specs.List.{filter, range_with_len}
use Rattle.std.proofs.Math.Nat.{mul-le-mul}
use Rattle.std.proofs.lemmas.List.Elements.{filter_agree}
use Rattle.hex_board.specs.Joined.{cells_of}
use Rattle.tree_words.specs.Writing.{listed}
use Rattle.play_out.proofs.Listing.{filter_more}
use Rattle.hex_board.proofs.Placed.{empty_on}

-- no block has the root among its nodes
pub up-root : {A : Type 0} (root : A) (step : LinkedBlock → ℕ → A → A) (r : ℕ)
    (bs : List LinkedBlock) → InOrder r bs → up root step bs r ≡ root
up-root root step r [] g = refl
up-root root step r (b ∷ bs) g = up_same root step b bs r (apart r b bs r g.0 (root_node r bs))
    ∙ up-root root step r bs g.1

-- the cells of a block are empty on its parent's board
empties-empty : (p : Position) (i : ℕ) → i < length (empties_of p)
    → is_empty_at p (get_or (empties_of p) i 0) ≡ true
unfolding empties_of
empties-empty p i l = (filter_at (is_empty_at p) 0 (p.size * p.size) i l).0

allowed-empty : (s : Setting) (i : ℕ) → IsSetting s → i < length (allowed_cells s)
    → is_empty_at s.board (get_or (allowed_cells s) i 0) ≡ true
unfolding allowed_cells
allowed-empty s i h l
    = h.empty _ (filter_at (has_cell s.allowed) 0 (s.board.size * s.board.size) i l).0

pub below-empty : (s : Setting) (bs : List LinkedBlock) (x i : ℕ) → IsSetting s
    → InOrder (root_at s) bs → i < length (cells_below s bs x)
    → is_empty_at (node_board s bs x) (get_or (cells_below s bs x) i 0) ≡ true
below-empty s bs x i h g l = ⊎_elim
    (λ (t : (x == root_at s) ≡ true).
    let at : x ≡ root_at s = eqb-true x (root_at s) t in
    let cells : cells_below s bs x ≡ allowed_cells s
    = ap (λ (u : Bool). cond u (allowed_cells s) (empties_of (node_board s bs x))) t in
    let board : node_board s bs x ≡ s.board = ap (node_board s bs) at
    ∙ ap (λ (p : NodeState). p.board)
    (up-root (root_state s) (λ b y above. state_after above (cell_at b (place b y))) (root_at s) bs g) in
    (λ j. is_empty_at (board j) (get_or (cells j) i 0))
    ∙ allowed-empty s i h (subst (λ (c : List ℕ). i < length c) cells l))
    (λ (t : (x == root_at s) ≡ false).
    let cells : cells_below s bs x ≡ empties_of (node_board s bs x)
    = ap (λ (u : Bool). cond u (allowed_cells s) (empties_of (node_board s bs x))) t in
    ap (λ (c : List ℕ). is_empty_at (node_board s bs x) (get_or c i 0)) cells
    ∙ empties-empty (node_board s bs x) i (subst (λ (c : List ℕ). i < length c) cells l))
    (cases_Bool (x == root_at s))

pub cell-of-move : (i c : ℕ) → c < 256 → cell_in (move_word i c) ≡ c
cell-of-move i c l = omega arith

-- how many cells below n the set has
pub members-listed : (set n : ℕ)
    → members set n ≡ length (filter (has_cell set) (range_with_len 0 n))
unfolding members
members-listed set zero = refl
members-listed set (suc n)
    = omega (
      arith,
      members-listed set n,
      ap length (filter_more (has_cell set) 0 n n (omega arith)),
      length-append (filter (has_cell set) (range_with_len 0 n)) (cond (has_cell set n) (n ∷ []) []),
      one (has_cell set n) n,
    )
  where
    one : (t : Bool) (n : ℕ) → length (cond t (n ∷ []) []) ≡ cond t 1 0
    one true n = refl
    one false n = refl

pub empties-listed : (set : ℕ) (p : Position) → ((k : ℕ) → has_cell set k ≡ is_empty_at p k)
    → listed p.size set ≡ empties_of p
unfolding empties_of
empties-listed set p e = filter_agree (has_cell set) (is_empty_at p) e (cells_of p.size)

-- the number of the empty cells
pub count_empties : (set : ℕ) (p : Position) → p.size ≤ 11
    → ((k : ℕ) → has_cell set k ≡ is_empty_at p k) → members set 121 ≡ length (empties_of p)
count_empties set p l e =
    let n : ℕ = p.size * p.size in
    let most : n ≤ 11 * 11 = mul-le-mul l l in
    let past : members set (n + (121 - n)) ≡ members set n
    = members_flat set n (121 - n)
    (λ k m. false_from_ne_true (has_cell set k) (λ t. let on : k < n = empty_on p k (sym (e k) ∙ t) in omega arith)) in
    ap (members set) (rest n most) ∙ past ∙ members-listed set n
    ∙ ap length (empties-listed set p e)
  where
    rest : (n : ℕ) → n ≤ 11 * 11 → 121 ≡ n + (121 - n)
    rest n l = omega arith

-- a set of the empty cells of a board
pub has-empties : (set : ℕ) (p : Position) → p.size ≤ 11
    → ((k : ℕ) → has_cell set k ≡ is_empty_at p k) → HasEmpties set p
has-empties set p h e = record {
  small = below_from_items set 121 (λ k t. let most : p.size * p.size ≤ 11 * 11 = mul-le-mul h h in
      let on : k < p.size * p.size = empty_on p k (sym (e k) ∙ t) in omega arith);
  items = e;
}
