-- The script of two workers on a board of one cell: each step fits.
use Rattle.std.proofs.Common.{◌≡◌, ℕ, ◌+◌, ◌<◌, true, false, List, [], ◌∷◌, Some, refl, sym, ap, subst, ⊎_elim, inl, arith}
use Rattle.std.specs.Prelude.{slice_get}
use Rattle.hex_cells.specs.declared.colours.Colour.TheVariants.{Black}
use Rattle.hex_cells.specs.Sets.{has as has_cell}
use Rattle.hex_board.specs.Joined.{is_joined, leads_in}
use Rattle.play_out.specs.Fills.{empties_of, order_of, filled_by, filled, playout_of}
use Rattle.play_out.specs.Streams.{words_of, shuffled}
use Rattle.tree_words.specs.Blocks.{LinkedBlock, has_node, child}
use Rattle.tree_words.specs.Paths.{node_state}
use Rattle.tree_words.specs.Complete.{allowed_cells}
use Rattle.tree_words.specs.Sequence.{outcome_of, chosen_of}
use Rattle.tree_words.specs.Told.{told_block}
use Rattle.tree_words.specs.declared.steps.Op.TheVariants.{Draw, Look, Add, Note}
use Rattle.arena_rule.specs.Views.{SeatView, HasEnded, new_view, opening_view}
use Rattle.arena_rule.specs.Fits.{FitsAdd, MayBegin, IsChosen}
use Rattle.arena_rule.specs.Lookups.{IsLoaded, record_word}
use Rattle.arena_rule.specs.Afters.{drew, known_after, loads_after, looked, added_at, noted, with_word, kept_part, given_part, joined}
use Rattle.search_tests.proofs.ScriptLaws.{draw-fits, next-add, note-fits}
use Rattle.search_tests.specs.Scripts.{one_cell, ScriptLine, TwoViews, AllFit, HaveEnded, after_script}
use Rattle.uct_table.specs.Choice.{choice_of}
use Rattle.tree_words.proofs.Blocks.BlockLaws.{has-at}
use Rattle.arena_rule.specs.Adds.{CountAdd, walk_adds}

-- the root's block
abbrev pub root_child : LinkedBlock
root_child = told_block one_cell [] 4 8

-- Black wins from the full board, and the cell holds his stone
adds : (k : ℕ) → walk_adds one_cell (root_child ∷ []) k 12 ≡ record { word = 14; won = true }
    ∷ (record { word = 15; won = true } ∷ (record { word = 6; won = false } ∷ []))
unfolding walk_adds outcome_of playout_of filled order_of filled_by empties_of words_of shuffled is_joined leads_in allowed_cells has_cell
adds k = refl

-- the view before the first add of a seat that has looked at all counts
abbrev ready : ℕ → SeatView
ready k = record (new_view one_cell 1 (root_child ∷ [])) {
  ticket = Some k;
  loads = record { word = 15; value = 0 } ∷ (record { word = 14; value = 0 } ∷ (record { word = 6; value = 0 } ∷ []));
}

won : (k : ℕ) → (outcome_of one_cell k (node_state one_cell (root_child ∷ []) 12)).winner ≡ Black
unfolding outcome_of playout_of filled order_of filled_by empties_of words_of shuffled is_joined leads_in allowed_cells has_cell
won k = refl

only-node : (y : ℕ) → has_node root_child y ≡ true → y ≡ 12
unfolding allowed_cells has_cell
only-node y h = let q = has-at root_child y h in omega (arith, q)

may-begin : (k : ℕ) → MayBegin (ready k) 12
unfolding allowed_cells has_cell choice_of chosen_of
may-begin k = record {
  known = refl;
  below = λ e. omega (arith, e);
  chosen = λ b y i h on. ⊎_elim
      (λ (e : b ≡ root_child). subst (λ (c : LinkedBlock). IsChosen (ready k) c y) (sym e)
      (record {
        parent = (0, refl);
        tallies = λ j l. subst (λ (i : ℕ). IsLoaded (ready k) (child root_child i + 2)) (first j l) (0, refl);
        seen = λ j l. subst (λ (i : ℕ). IsLoaded (ready k) (child root_child i + 3)) (first j l) (0, refl);
        choice = only-node y (subst (λ (c : LinkedBlock). has_node c y ≡ true) e h);
      }))
      (λ n. absurd n)
      i;
  ends = inl (omega arith);
}
  where
    first : (j : ℕ) → j < 1 → 0 ≡ j
    first j l = omega arith

-- the seats after the split
abbrev pub two_seats : TwoViews
two_seats = record { first = kept_part (opening_view one_cell) 1; second = given_part (opening_view one_cell) 1 }

-- the script: what each seat looks at before its first draw, and both walks
abbrev pub script : List ScriptLine
script =
    (false, Look 5, 8)
    ∷ (false, Look 8, 4)
    ∷ (false, Look 9, 1)
    ∷ (false, Look 10, 0)
    ∷ (false, Look 11, 1)
    ∷ (false, Look 12, 0)
    ∷ (false, Look 6, 0)
    ∷ (false, Look 14, 0)
    ∷ (false, Look 15, 0)
    ∷ (true, Look 5, 8)
    ∷ (true, Look 8, 4)
    ∷ (true, Look 9, 1)
    ∷ (true, Look 10, 0)
    ∷ (true, Look 11, 1)
    ∷ (true, Look 12, 0)
    ∷ (true, Look 6, 0)
    ∷ (true, Look 14, 0)
    ∷ (true, Look 15, 0)
    ∷ (false, Draw, 0)
    ∷ (true, Draw, 1)
    ∷ (false, Add 14 true, 0)
    ∷ (true, Add 14 true, 4294967297)
    ∷ (false, Add 15 true, 0)
    ∷ (false, Add 6 false, 0)
    ∷ (false, Note 0 24, 0)
    ∷ (true, Add 15 true, 4294967297)
    ∷ (true, Add 6 false, 4294967296)
    ∷ (true, Note 1 24, 0)
    ∷ (false, Draw, 2)
    ∷ (true, Draw, 3)
    ∷ []

-- the adds of the walk of playout k
first-add : (k : ℕ) → FitsAdd (ready k) (record { word = 14; won = true })
first-add k = record { number = k; ticket = refl; held = refl; next = (12, refl, may-begin k, ap (λ (l : List CountAdd). slice_get l 0) (adds k)) }

pub all-fit : AllFit two_seats script
unfolding allowed_cells has_cell drew known_after loads_after looked added_at noted with_word kept_part
all-fit = (
  omega arith,
  (λ e. cc),
  (
    omega arith,
    (λ e. cc),
    (
      omega arith,
      (λ e. cc),
      (
        omega arith,
        (λ e. cc),
        (
          omega arith,
          (λ e. cc),
          (
            omega arith,
            (λ e. cc),
            (
              omega arith,
              (λ e. cc),
              (
                omega arith,
                (λ e. cc),
                (
                  omega arith,
                  (λ e. cc),
                  (
                    omega arith,
                    (λ e. cc),
                    (
                      omega arith,
                      (λ e. cc),
                      (
                        omega arith,
                        (λ e. cc),
                        (
                          omega arith,
                          (λ e. cc),
                          (
                            omega arith,
                            (λ e. cc),
                            (
                              omega arith,
                              (λ e. cc),
                              (
                                omega arith,
                                (λ e. cc),
                                (
                                  omega arith,
                                  (λ e. cc),
                                  (
                                    omega arith,
                                    (λ e. cc),
                                    (
                                      draw-fits _ refl refl refl refl,
                                      (λ e. cc),
                                      (
                                        draw-fits _ refl refl refl refl,
                                        (λ e. cc),
                                        (
                                          first-add 0,
                                          (λ e. cc),
                                          (
                                            first-add 1,
                                            (λ e. cc),
                                            (
                                              next-add _ one_cell (root_child ∷ []) 0 12 1 _ _ refl refl refl refl refl (adds 0) refl,
                                              (λ e. cc),
                                              (
                                                next-add _ one_cell (root_child ∷ []) 0 12 2 _ _ refl refl refl refl refl (adds 0) refl,
                                                (λ e. cc),
                                                (
                                                  note-fits _ one_cell (root_child ∷ []) 0 12 24 _ refl refl refl refl (adds 0) (ap (record_word 12) (won 0)),
                                                  (λ e. cc),
                                                  (
                                                    next-add _ one_cell (root_child ∷ []) 1 12 1 _ _ refl refl refl refl refl (adds 1) refl,
                                                    (λ e. cc),
                                                    (
                                                      next-add _ one_cell (root_child ∷ []) 1 12 2 _ _ refl refl refl refl refl (adds 1) refl,
                                                      (λ e. cc),
                                                      (
                                                        note-fits _ one_cell (root_child
                                                            ∷ []) 1 12 24 _ refl refl refl refl (adds 1) (ap (record_word 12) (won 1)),
                                                        (λ e. cc),
                                                        (draw-fits _ refl refl refl refl, (λ e. cc), (draw-fits _ refl refl refl refl, (λ e. cc), tt)),
                                                      ),
                                                    ),
                                                  ),
                                                ),
                                              ),
                                            ),
                                          ),
                                        ),
                                      ),
                                    ),
                                  ),
                                ),
                              ),
                            ),
                          ),
                        ),
                      ),
                    ),
                  ),
                ),
              ),
            ),
          ),
        ),
      ),
    ),
  ),
)

pub ended : HaveEnded (after_script two_seats script).first (after_script two_seats script).second
unfolding allowed_cells has_cell drew known_after loads_after looked added_at noted with_word kept_part
ended = (record { left = refl; right = refl }, refl, refl)

pub all-ended : (v w : SeatView) → HaveEnded v w → ((joined v w).width ≡ 2) × HasEnded (joined v w)
unfolding joined
all-ended v w h = (omega (arith, h.1, h.2), omega (arith, h.0.left, h.0.right))
