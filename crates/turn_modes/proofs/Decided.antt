-- What a first turn was searched for, and its rows.
use Rattle.std.proofs.Common.{◌≡◌, false, refl, sym, ap, ◌∙◌, subst}
use Rattle.std.specs.Prelude.{IsSome}
use Rattle.hex_cells.proofs.Bits.{same_set}
use Rattle.hex_cells.specs.declared.colours.Colour.{Colour}
use Rattle.hex_board.specs.Positions.{Position, is_empty_at}
use Rattle.play_out.specs.Fills.{empties_of}
use Rattle.tree_words.specs.Closing.{ClosedTree}
use Rattle.tree_words.specs.Complete.{set_of}
use Rattle.tree_words.specs.Roots.{rows_of}
use Rattle.tree_words.specs.Sequence.{seq_of}
use Rattle.tree_words.specs.Settings.{Setting}
use Rattle.tree_words.specs.Trees.{IsTreeOf}
use Rattle.tree_words.specs.declared.settings.Knobs.{Knobs}
use Rattle.tree_words.proofs.Boards.SetNumbers.{set_empties}
use Rattle.hex_plan.specs.Good.{IsSequential, IsTurnShape, no_means}
use Rattle.hex_plan.specs.Reports.{rows_in}
use Rattle.hex_plan.specs.Seeds.{turn_knobs}
use Rattle.hex_plan.specs.Turns.{TurnData}
use Rattle.hex_plan.specs.declared.settings.Means.{Means}
use Rattle.hex_plan.proofs.Reports.{rows_of_tree}
use Rattle.hex_plan.proofs.Same.{IsBare, is_bare}
use Rattle.turn_modes.specs.OneTurn.{IsFirstTurn, first_rows, first_setting}

-- ---- a tree that was searched as prepared

pub shape_of_tree : (knobs : Knobs) (now : Position) (mover : Colour) (s : Setting) (c : ClosedTree)
    → c.shape ≡ s → IsTurnShape knobs now mover 0 s.allowed s
    → IsTurnShape knobs now mover 0 c.shape.allowed c.shape
shape_of_tree knobs now mover s c e h
    = subst (λ (z : Setting). IsTurnShape knobs now mover 0 z.allowed z) (sym e) h

pub sequential_tree : (knobs : Knobs) (now : Position) (mover : Colour) (s : Setting)
    (c : ClosedTree) → c.shape ≡ s → IsTurnShape knobs now mover 0 s.allowed s
    → (s.knobs.workers ≡ 1 → IsTreeOf s c.words (seq_of s).0) → IsSequential knobs c
sequential_tree knobs now mover s c e h one w
    = subst (λ (z : Setting). IsTreeOf z c.words (seq_of z).0) (sym e)
    (one (ap (λ (k : Knobs). k.workers) h.knobs ∙ w))

-- ---- the tree of a first turn, if no connections were looked for

pub bare_turn : (knobs : Knobs) (means : Means) (now : Position) (mover : Colour) (t : TurnData)
    → means.hsearch ≡ false → IsFirstTurn knobs means now mover t → IsBare knobs t
bare_turn knobs means now mover t off f = is_bare knobs means t off f.good

pub has_tree : (knobs : Knobs) (now : Position) (mover : Colour) (t : TurnData)
    → IsFirstTurn knobs no_means now mover t → IsSome t.closed
has_tree knobs now mover t f =
    subst IsSome (sym (bare_turn knobs no_means now mover t refl f).tree.1) refl

-- what it was searched for
pub tree_setting : (knobs : Knobs) (means : Means) (now : Position) (mover : Colour) (t : TurnData)
    → IsFirstTurn knobs means now mover t → (b : IsBare knobs t)
    → b.tree.0.shape ≡ first_setting knobs now mover
tree_setting knobs means now mover t f b =
    let shape = b.tree.2.shape in
    let cells : b.free.allowed ≡ set_of (empties_of now)
    = same_set b.free.allowed (set_of (empties_of now))
    (λ k. b.free.empties.items k ∙ ap (λ (p : Position). is_empty_at p k) f.board
    ∙ sym (set_empties now k)) in
    λ i. record {
      board = (shape.board ∙ f.board) i;
      player = (shape.player ∙ f.player) i;
      allowed = (shape.allowed ∙ cells) i;
      knobs = (shape.knobs ∙ ap (turn_knobs knobs) f.number) i;
    }

-- with one worker its rows are those of the sequential search
pub sequential_rows_of : (knobs : Knobs) (means : Means) (now : Position) (mover : Colour)
    (t : TurnData) → IsFirstTurn knobs means now mover t → (b : IsBare knobs t)
    → knobs.workers ≡ 1
    → rows_of b.tree.0.shape b.tree.0.words ≡ first_rows knobs now mover
sequential_rows_of knobs means now mover t f b one =
    let c : ClosedTree = b.tree.0 in
    let s = b.tree.2 in
    rows_of_tree c.shape c.words (seq_of c.shape).0 s.setting s.closed (s.sequential one)
    ∙ ap (λ (z : Setting). rows_in (seq_of z).0) (tree_setting knobs means now mover t f b)
