-- The cells of a set in their order.
use Rattle.std.proofs.Common.{◌≡◌, ℕ, zero, suc, ◌+◌, ◌-◌, ◌*◌, ◌<◌, ◌≤◌, Bool, true, cond, List}
use Rattle.std.proofs.Common.{[], ◌∷◌, ◌++◌, length, get_or, sym, ap, ◌∙◌, arith, ⊎_elim}
use Rattle.std.specs.List.{filter, range_with_len}
use Rattle.std.proofs.lemmas.Bool.{cases_lt, false_from_ne_true}
use Rattle.std.proofs.lemmas.List.{get_or_append_left}
use Rattle.std.proofs.Math.Nat.{mul-le-mul}
use Rattle.hex_cells.specs.Sets.{has as has_cell, members}
use Rattle.hex_cells.proofs.Counts.{members_flat, members_apart}
use Rattle.hex_cells.proofs.Bits.{same_set}
use Rattle.hex_board.specs.Positions.{Position, Within, is_empty_at}
use Rattle.play_out.specs.Fills.{empties_of}
use Rattle.play_out.proofs.Listing.{filter_more}
use Rattle.tree_words.specs.Complete.{set_of}
use Rattle.tree_words.specs.Writing.{listed}
use Rattle.tree_words.proofs.Boards.SetNumbers.{set_empties}
use Rattle.tree_words.proofs.Boards.EmptyLaws.{members-listed}
use Rattle.walker.proofs.MemberLaws.{push-last}

-- a cell of the set stands at the place of its rank
pub rank-cell : (set c n : ℕ) → has_cell set c ≡ true → c < n
    → get_or (filter (has_cell set) (range_with_len 0 n)) (members set c) 0 ≡ c
rank-cell set c zero t l = absurd (omega arith)
rank-cell set c (suc n) t l =
    let xs : List ℕ = filter (has_cell set) (range_with_len 0 n) in
    let more : filter (has_cell set) (range_with_len 0 (suc n)) ≡ xs ++ cond (has_cell set n)
    (n ∷ []) [] = filter_more (has_cell set) 0 n n (omega arith) in
    ap (λ (ys : List ℕ). get_or ys (members set c) 0) more ∙ ⊎_elim
    (λ (q : c < n).
    let fits : members set c < length xs
    = omega (arith, members_apart set c n t q, members-listed set n) in
    get_or_append_left xs (cond (has_cell set n) (n ∷ []) []) 0 (members set c) fits
    ∙ rank-cell set c n t q)
    (λ (q : n ≤ c).
    let is : c ≡ n = omega arith in
    let here : has_cell set n ≡ true = ap (has_cell set) (sym is) ∙ t in
    ap (λ (u : Bool). get_or (xs ++ cond u (n ∷ []) []) (members set c) 0) here
    ∙ ap (λ (z : ℕ). get_or (xs ++ n ∷ []) z 0) (ap (members set) is ∙ members-listed set n)
    ∙ push-last xs n ∙ sym is)
    (cases_lt c n)

-- the cell of rank k, of a set on the board
pub nth-cell : (set size c k : ℕ) → Within size set → has_cell set c ≡ true → members set c ≡ k
    → get_or (listed size set) k 0 ≡ c
nth-cell set size c k on t e = ap (λ (z : ℕ). get_or (listed size set) z 0) (sym e)
    ∙ rank-cell set c (size * size) t (on c t)

-- there are as many as are listed
pub count-listed : (set size : ℕ) → size ≤ 11 → Within size set
    → members set 121 ≡ length (listed size set)
count-listed set size small on =
    let most : size * size ≤ 11 * 11 = mul-le-mul small small in
    ap (members set) (rest (size * size) most)
    ∙ members_flat set (size * size) (121 - size * size)
    (λ k m. false_from_ne_true (has_cell set k) (λ t. let l = on k t in omega (arith, l, m)))
    ∙ members-listed set (size * size)
  where
    rest : (n : ℕ) → n ≤ 11 * 11 → 121 ≡ n + (121 - n)
    rest n l = omega arith

-- the number of the set of a board's empty cells
pub empties-number : (set : ℕ) (p : Position) → ((k : ℕ) → has_cell set k ≡ is_empty_at p k)
    → set ≡ set_of (empties_of p)
empties-number set p e = same_set set (set_of (empties_of p)) (λ k. e k ∙ sym (set_empties p k))
