-- On the empty board of size 2: what the walk to a1 asks, and what a claim for a1 asks.
use Rattle.std.proofs.Common.{◌≡◌, ℕ, zero, suc, ◌+◌, ◌<◌, true, false, List, [], ◌∷◌, length, Some, None, refl, sym, ap, ◌∙◌, subst, ⊎_elim, inl, arith}
use Rattle.std.specs.Prelude.{◌==◌, slice_get}
use Rattle.std.proofs.lemmas.Bool.{or_cases, eqb-true}
use Rattle.hex_cells.specs.Sets.{has as has_cell}
use Rattle.hex_cells.specs.declared.colours.Colour.TheVariants.{White}
use Rattle.play_out.specs.Fills.{empties_of}
use Rattle.play_out.specs.declared.playouts.Ending.{Ending}
use Rattle.tree_words.specs.Settings.{Setting}
use Rattle.tree_words.specs.Words.{root_at}
use Rattle.tree_words.specs.Blocks.{LinkedBlock, has_node, is_node, link_of, child}
use Rattle.tree_words.specs.Paths.{node_state, node_board, is_on}
use Rattle.tree_words.specs.Complete.{allowed_cells}
use Rattle.tree_words.specs.Sequence.{outcome_of, chosen_of}
use Rattle.tree_words.specs.Told.{told_block}
use Rattle.tree_words.proofs.Blocks.BlockLaws.{has-at}
use Rattle.uct_table.specs.Choice.{choice_of}
use Rattle.arena_rule.specs.Views.{SeatView, WordLoad, new_view}
use Rattle.arena_rule.specs.Adds.{walk_adds, adds_up}
use Rattle.arena_rule.specs.Lookups.{IsLoaded, load_of, or_zero, record_word}
use Rattle.arena_rule.specs.Fits.{FitsAdd, FitsClaim, MayBegin, IsChosen, MayGetBlock}
use Rattle.search_tests.specs.Scripts.{two_by_two, FillsForWhite}

-- the root's block
abbrev pub root_child : LinkedBlock
root_child = told_block two_by_two [] 6 10

-- the outcome of playout 0 from a1
outcome : FillsForWhite → outcome_of two_by_two 0 (node_state two_by_two (root_child ∷ []) 14) ≡ record
    { winner = White; full = record { size = 2; black = 9; white = 6 } }
unfolding outcome_of allowed_cells has_cell
outcome f = λ i. record { winner = f.1 i; full = f.0 i }

pub adds : FillsForWhite → walk_adds two_by_two (root_child ∷ []) 0 14
    ≡ record { word = 16; won = false } ∷ record { word = 17; won = false } ∷ record { word = 29; won = false } ∷ record { word = 8; won = true } ∷ []
unfolding walk_adds allowed_cells has_cell
adds f = (λ i. (adds_up two_by_two (outcome f i) (root_child ∷ []) 14).adds) ∙ refl

pub note-value : FillsForWhite → record_word 14 (outcome_of two_by_two 0 (node_state two_by_two (root_child ∷ []) 14)).winner ≡ 29
note-value f = ap (λ (o : Ending). record_word 14 o.winner) (outcome f)

-- the loads of a seat that has looked at all counts, newest first
abbrev loads : List WordLoad
loads =
    record { word = 29; value = 0 } ∷ record { word = 28; value = 0 } ∷ record { word = 25; value = 0 } ∷ record { word = 24; value = 0 }
    ∷ record { word = 21; value = 0 } ∷ record { word = 20; value = 0 } ∷ record { word = 17; value = 0 } ∷ record { word = 16; value = 0 }
    ∷ record { word = 8; value = 0 } ∷ []

abbrev ready : SeatView
ready = record (new_view two_by_two 1 (root_child ∷ [])) { ticket = Some 0; loads = loads }

-- a1 is the only node of the root's block on the way to it
only-node : (y : ℕ) → has_node root_child y ≡ true → is_on two_by_two (root_child ∷ []) y 14 ≡ true → y ≡ 14
unfolding allowed_cells has_cell
only-node y h on =
    let q = has-at root_child y h in
    ⊎_elim (λ (t : (14 == y) ≡ true). sym (eqb-true 14 y t))
    (λ t. ⊎_elim (λ (u : (6 == y) ≡ true). absurd (omega (arith, eqb-true 6 y u, q.2)))
    (λ (u : false ≡ true). absurd (no u)) (or_cases (6 == y) false t)) (or_cases (14 == y) _ on)
  where
    no : false ≡ true → ⊥
    no e = cc

tallies : (j : ℕ) → j < 4 → IsLoaded ready (child root_child j + 2)
tallies zero l = (0, refl)
tallies (suc zero) l = (0, refl)
tallies (suc (suc zero)) l = (0, refl)
tallies (suc (suc (suc zero))) l = (0, refl)
tallies (suc (suc (suc (suc j)))) l = absurd (omega (arith, l))

seen : (j : ℕ) → j < 4 → IsLoaded ready (child root_child j + 3)
seen zero l = (0, refl)
seen (suc zero) l = (0, refl)
seen (suc (suc zero)) l = (0, refl)
seen (suc (suc (suc zero))) l = (0, refl)
seen (suc (suc (suc (suc j)))) l = absurd (omega (arith, l))

may-begin : MayBegin ready 14
unfolding allowed_cells has_cell choice_of chosen_of
may-begin = record {
  known = refl;
  below = λ e. omega (arith, e);
  chosen = λ b y i h on. ⊎_elim
      (λ (e : b ≡ root_child). subst (λ (c : LinkedBlock). IsChosen ready c y) (sym e)
      (record {
        parent = (0, refl);
        tallies = tallies;
        seen = seen;
        choice = only-node y (subst (λ (c : LinkedBlock). has_node c y ≡ true) e h) on;
      }))
      (λ n. absurd n)
      i;
  ends = inl (omega arith);
}

pub first-add : FillsForWhite → FitsAdd ready (record { word = 16; won = false })
first-add f = record { number = 0; ticket = refl; held = refl; next = (14, refl, may-begin, (λ i. slice_get (adds f i) 0)) }

-- a seat that knows the root's block and has loaded one visit at a1 may claim a block for it
pub may-get : (v : SeatView) → v.shape ≡ two_by_two → v.known ≡ root_child ∷ [] → load_of v.loads 16 ≡ Some 4294967296 → MayGetBlock v 14 16
unfolding allowed_cells has_cell empties_of
may-get v s b l =
    let many : length (empties_of (node_board v.shape v.known 14)) ≡ 3 = λ i. length (empties_of (node_board (s i) (b i) 14)) in
    let loaded : or_zero (load_of v.loads 16) ≡ 4294967296 = ap or_zero l in
    record {
      known = λ i. is_node (root_at (s i)) (b i) 14;
      below = λ e. omega (arith, e, ap root_at s);
      vacant = λ i. link_of (b i) 14;
      loaded = (4294967296, l);
      visits = omega (arith, loaded, ap (λ (t : Setting). t.knobs.expand) s);
      some = omega (arith, many);
      fits = omega (arith, many);
    }

pub claim-fits : (v : SeatView) (k : ℕ) → v.shape ≡ two_by_two → v.known ≡ root_child ∷ [] → load_of v.loads 16 ≡ Some
    4294967296 → v.ticket ≡ Some k → v.adds ≡ None → v.held ≡ None → v.full ≡ false → FitsClaim v 16
claim-fits v k s b l t a h f = record { number = k; ticket = t; adds = a; held = h; room = f; node = 14; may = may-get v s b l }
