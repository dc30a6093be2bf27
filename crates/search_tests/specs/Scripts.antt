-- Scripts: steps of two seats of one tree, with their answers. No clause of a public call cites
-- this.
use Rattle.std.specs.Prelude.{◌≡◌, ◌≢◌, ℕ, Bool, if◌then◌else◌, None, List, [], ◌∷◌}
use Rattle.hex_cells.specs.declared.colours.Colour.TheVariants.{Black, White}
use Rattle.hex_board.specs.Positions.{Position}
use Rattle.play_out.specs.Fills.{filled, playout_of}
use Rattle.tree_words.specs.Settings.{Setting}
use Rattle.tree_words.specs.declared.steps.Op.{Op}
use Rattle.tree_words.specs.declared.steps.Op.TheVariants.{Done}
use Rattle.arena_rule.specs.Views.{SeatView, HasDrawnNothing}
use Rattle.arena_rule.specs.Lookups.{known_link}
use Rattle.arena_rule.specs.Fits.{FitsStep, CanJoin}
use Rattle.arena_rule.specs.Afters.{after}
use Rattle.arena_rule.specs.IsView.{IsView}
use Rattle.tree_rule.specs.Seats.{TreeData, SeatData, IsOf}

-- the seat is of the tree, stands for one worker, and has drawn nothing
pub record IsUndrawn (tree : TreeData) (seat : SeatData) : Type 0 where
  pub own : IsOf tree seat
  pub width : seat.view.width ≡ 1
  pub nothing : HasDrawnNothing seat.view
  pub order : IsView seat.view

-- an empty board of one cell, for two workers and two playouts
abbrev pub one_cell : Setting
one_cell = record {
  board = record { size = 1; black = 0; white = 0 };
  player = Black;
  allowed = 1;
  knobs = record {
    workers = 2;
    playouts = 2;
    seed = 0;
    words = 1024;
    expand = 8;
    weight = 180;
  };
}

-- the empty board of size 2, for two workers and four playouts, with a block after one visit
abbrev pub two_by_two : Setting
two_by_two = record {
  board = record { size = 2; black = 0; white = 0 };
  player = Black;
  allowed = 15;
  knobs = record {
    workers = 2;
    playouts = 4;
    seed = 0;
    words = 1024;
    expand = 1;
    weight = 180;
  };
}

-- after Black's stone on a1
abbrev pub after_a1 : Position
after_a1 = record { size = 2; black = 1; white = 0 }

-- that board filled: Black has a1 and b2 too, White b1 and a2
abbrev pub filled_for_white : Position
filled_for_white = record { size = 2; black = 9; white = 6 }

-- playout 0 from there fills it so, and White wins
abbrev pub FillsForWhite : Type 0
FillsForWhite = (filled after_a1 White 0 0 ≡ filled_for_white)
    × (playout_of after_a1 White 0 0 ≡ White)

-- a line of a script: whether the second seat makes the step, the step, and its answer
abbrev pub ScriptLine : Type 0
ScriptLine = Bool × Op × ℕ

-- the views of the two seats
pub record TwoViews : Type 0 where
  pub first : SeatView
  pub second : SeatView

abbrev pub both_views : SeatData → SeatData → TwoViews
both_views a b = record { first = a.view; second = b.view }

-- the view of the seat that makes the step
abbrev pub stepping : TwoViews → ScriptLine → SeatView
stepping t l = if l.0 then t.second else t.first

-- the views after a line, and after all lines
abbrev pub after_script_line : TwoViews → ScriptLine → TwoViews
after_script_line t l = if l.0 then record t { second = after t.second l.1 l.2 }
    else record t { first = after t.first l.1 l.2 }

abbrev pub after_script : TwoViews → List ScriptLine → TwoViews
after_script t [] = t
after_script t (l ∷ lines) = after_script (after_script_line t l) lines

-- the step of each line fits the view that stands after those before it
abbrev pub AllFit : TwoViews → List ScriptLine → Type 0
AllFit t [] = Unit {0}
AllFit t (l ∷ lines) =
    FitsStep (stepping t l) l.1 × (l.1 ≢ Done) × AllFit (after_script_line t l) lines

-- two seats, each of one worker, who has ended
abbrev pub HaveEnded : SeatView → SeatView → Type 0
HaveEnded v w = CanJoin v w × (v.width ≡ 1) × (w.width ≡ 1)

-- both claimed 16 words and hold nothing, and the second knows the block at word 30 below a1
pub record RaceEnds (v w : SeatView) : Type 0 where
  pub claimed : (v.claimed ≡ 16) × (w.claimed ≡ 16)
  pub held : (v.held ≡ None) × (w.held ≡ None)
  pub link : known_link w 14 ≡ 30
