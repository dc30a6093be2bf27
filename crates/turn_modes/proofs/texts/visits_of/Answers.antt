use Rattle.std.proofs.Common.{◌≡◌, ℕ, suc, ◌+◌, ◌<◌, ◌≤◌, ◌==◌, cond, List, ◌∷◌, length, drop}
use Rattle.std.proofs.Common.{get_or, sym, ap, ◌∙◌, add-one}
use Rattle.std.proofs.Math.Seq.{drop-cons}
use Rattle.std.proofs.lemmas.Bool.{eq-eqb, ne_eqb}
use Rattle.std.proofs.lemmas.List.{drop_all}
use Rattle.tree_words.specs.declared.roots.Row.{Row}
use Rattle.turn_modes.specs.Rows.{visits_of}
use Rattle.turn_modes.proofs.texts.visits_of.Goals as goal

-- the row of a place, and those after it
from_place : (rows : List Row) (i cell : ℕ) (row : Row) → i < length rows → row ≡ get_or rows i row
    → visits_of (drop i rows) cell ≡ cond (row.cell == cell) row.visits
    (visits_of (drop (i + 1) rows) cell)
unfolding visits_of
from_place rows i cell row l e =
    ap (λ (rs : List Row). visits_of rs cell)
    (drop-cons rows i row l ∙ ap (λ (r : Row). r ∷ drop (suc i) rows) (sym e)
    ∙ ap (λ n. row ∷ drop n rows) (sym (add-one i)))

here : (rows : List Row) (i cell : ℕ) (row : Row) → i < length rows → row ≡ get_or rows i row
    → row.cell ≡ cell → visits_of (drop i rows) cell ≡ row.visits
here rows i cell row l e h = from_place rows i cell row l e
    ∙ ap (λ b. cond b row.visits (visits_of (drop (i + 1) rows) cell)) (eq-eqb row.cell cell h)

later : (rows : List Row) (i cell : ℕ) (row : Row) → i < length rows → row ≡ get_or rows i row
    → (row.cell ≡ cell → ⊥) → visits_of (drop i rows) cell ≡ visits_of (drop (i + 1) rows) cell
later rows i cell row l e n = from_place rows i cell row l e
    ∙ ap (λ b. cond b row.visits (visits_of (drop (i + 1) rows) cell)) (ne_eqb row.cell cell n)

none : (rows : List Row) (i cell : ℕ) → length rows ≤ i → visits_of (drop i rows) cell ≡ 0
unfolding visits_of
none rows i cell l = ap (λ (rs : List Row). visits_of rs cell) (drop_all i rows l)

pub loop-row-preserved : goal.loop-row-preserved
loop-row-preserved c =
    let other : c.row-item.result.cell ≡ c.args.cell → ⊥
    = λ e. c.if-number.false
    (c.number.ensures.value ∙ e ∙ sym c.number-in-loop-row.ensures.value) in
    sym (later c.args.rows.now c.loop-row.row-index c.args.cell c.row-item.result
    c.loop-row-test.true c.row-item.is other) ∙ c.loop-row.invariant

pub returns-then-number : goal.returns-then-number
returns-then-number c =
    let same : c.row-item.result.cell ≡ c.args.cell = sym c.number.ensures.value ∙ c.if-number.true
    ∙ c.number-in-loop-row.ensures.value in
    sym (here c.args.rows.now c.loop-row.row-index c.args.cell c.row-item.result
    c.loop-row-test.true c.row-item.is same) ∙ c.loop-row.invariant

pub returns : goal.returns
returns c = sym (none c.args.rows.now c.loop-row.row-index c.args.cell c.loop-row-test.false)
    ∙ c.loop-row.invariant
