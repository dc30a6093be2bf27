-- What a closed tree decides.
use Rattle.std.proofs.Common.{◌≡◌, ℕ, ◌*◌, ◌<◌, true, List, get_or, length, sym, ◌∙◌, subst, arith}
use Rattle.hex_cells.specs.Sets.{has}
use Rattle.hex_board.specs.Positions.{is_empty_at}
use Rattle.tree_words.specs.Settings.{Setting, IsSetting}
use Rattle.tree_words.specs.Complete.{allowed_cells}
use Rattle.tree_words.specs.Closing.{IsClosed}
use Rattle.tree_words.specs.Roots.{IsBest, HasRoot}
use Rattle.tree_words.proofs.Boards.RootLaws.{has_root, filter_at}

-- each allowed cell is in the set of those
allowed_at : (s : Setting) (i : ℕ) → i < length (allowed_cells s)
    → has s.allowed (get_or (allowed_cells s) i 0) ≡ true
unfolding allowed_cells
allowed_at s i l = (filter_at (has s.allowed) 0 (s.board.size * s.board.size) i l).0

-- the best cell of a closed tree is empty
pub best_is_empty : (s : Setting) (words : List ℕ) (cell : ℕ) → IsSetting s → IsClosed s words
    → IsBest s words cell → is_empty_at s.board cell ≡ true
best_is_empty s words cell set closed best =
    let root : HasRoot s words = has_root s words set closed in
    let is : cell ≡ get_or (allowed_cells s) best.place 0 = best.is
    ∙ root.cells best.place best.within in
    subst (λ k. is_empty_at s.board k ≡ true) (sym is)
    (set.empty _ (allowed_at s best.place (omega (arith, best.within, root.count))))
