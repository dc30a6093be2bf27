-- Good turns.
use Rattle.std.specs.Prelude.{◌≡◌, ◌&&◌, ℕ, Bool, true, false, None, Some, is_some, nat_lt}
use Rattle.std.specs.declared.option.Option.{Option}
use Rattle.hex_cells.specs.declared.colours.Colour.{Colour}
use Rattle.hex_board.specs.Joined.{winner_of}
use Rattle.hex_board.specs.Positions.{IsPosition, Position, is_empty_at}
use Rattle.tree_words.specs.declared.settings.Knobs.{Knobs}
use Rattle.tree_words.specs.Settings.{Setting, IsSetting}
use Rattle.tree_words.specs.Closing.{ClosedTree, IsClosed}
use Rattle.tree_words.specs.Roots.{IsBest}
use Rattle.tree_words.specs.Sequence.{seq_of}
use Rattle.tree_words.specs.Trees.{IsTreeOf}
use Rattle.look_ahead.specs.Looked.{LookedData}
use Rattle.hex_plan.specs.Plans.{IsPlanned, IsSearchAmong}
use Rattle.hex_plan.specs.Seeds.{turn_knobs}
use Rattle.hex_plan.specs.Turns.{TurnData, IsLookedAt, searched_cells}
use Rattle.hex_plan.specs.declared.settings.Means.{Means}
use Rattle.hex_plan.specs.declared.plans.Planned.{Planned}
use Rattle.hex_plan.specs.declared.types.Plan.{Plan}
use Rattle.hex_plan.specs.declared.types.Plan.TheVariants.{Win, Search}

-- the shape is that of the search of the turn with this number, at which the mover is to place a
-- stone on one of these cells of the board now: these, and the given knobs with the turn's seed
pub record IsTurnShape (given : Knobs) (now : Position) (mover : Colour) (number cells : ℕ)
    (shape : Setting) : Type 0 where
  pub board : shape.board ≡ now
  pub player : shape.player ≡ mover
  pub allowed : shape.allowed ≡ cells
  pub knobs : shape.knobs ≡ turn_knobs given number

-- the tree is that of Seq, if there is one worker
abbrev pub IsSequential : Knobs → ClosedTree → Type 0
IsSequential knobs closed = knobs.workers ≡ 1
    → IsTreeOf closed.shape closed.words (seq_of closed.shape).0

-- the tree was searched for this turn of a session with these knobs, among the allowed cells
pub record IsSearchedFor (knobs : Knobs) (t : TurnData) (allowed : ℕ)
    (tree : ClosedTree) : Type 0 where
  -- its shape is that of the turn, and one that can be searched, and it is closed
  pub shape : IsTurnShape knobs t.board t.player t.number allowed tree.shape
  pub setting : IsSetting tree.shape
  pub closed : IsClosed tree.shape tree.words
  -- the turn's cell is the least among the cells of the root's children of most visits
  pub best : IsBest tree.shape tree.words t.cell
  -- with one worker the tree is that of Seq
  pub sequential : IsSequential knobs tree

-- the tree's search alone
abbrev pub no_means : Means
no_means = record { hsearch = false; solve = 0; look = 0 }

-- a session with these means looks ahead before a search
abbrev pub looks_ahead : Means → Bool
looks_ahead means = means.hsearch && nat_lt 0 means.look

-- the turn was decided by a search: with what the look-ahead found, if the session looks ahead; and
-- it has a tree, searched for it among the allowed cells, or at the one of them that was looked for
abbrev pub IsDecidedBySearch : Knobs → Means → TurnData → ℕ → Type 0
IsDecidedBySearch knobs means t allowed =
    (is_some t.looked ≡ looks_ahead means)
    × IsLookedAt t.board t.player allowed means.look t.looked
    × (tree : ClosedTree) × (t.closed ≡ Some tree)
    × IsSearchedFor knobs t (searched_cells allowed t.looked) tree

-- the turn is decided as planned: by the cell of a win, and then it keeps no look-ahead, and has no
-- tree; or by a search
abbrev pub FollowsPlan : Knobs → Means → TurnData → Plan → Type 0
FollowsPlan knobs means t (Win cert cell) =
    (t.looked ≡ None) × (t.closed ≡ None) × (t.cell ≡ cell)
FollowsPlan knobs means t (Search threats allowed lost) = IsDecidedBySearch knobs means t allowed

-- Good: what is promised of each turn of a session with these knobs and means
pub record IsGood (knobs : Knobs) (means : Means) (t : TurnData) : Type 0 where
  -- the turn's board is one, no player is joined there, and the turn's cell is empty
  pub position : IsPosition t.board.size t.board.black t.board.white
  pub nobody : winner_of t.board ≡ None
  pub empty : is_empty_at t.board t.cell ≡ true
  -- it was planned for its board and player, and decided as planned
  pub planned : IsPlanned t.board t.player means t.planned
  pub follows : FollowsPlan knobs means t t.planned.plan

-- the turn, which was planned so for the player on the board, is good if no player is joined there
abbrev pub IsGoodAsPlanned : TurnData → Position → Colour → Planned → Type 0
IsGoodAsPlanned t board player planned = (knobs : Knobs) (means : Means)
    → winner_of board ≡ None → IsPlanned board player means planned → IsGood knobs means t

-- what the look-ahead found, if there was one, is a look-ahead's of the cells that the plan allows,
-- with this budget
abbrev pub IsLookedFor : Position → Colour → Plan → ℕ → Option LookedData → Type 0
IsLookedFor board player plan budget looked = (allowed : ℕ) → IsSearchAmong plan allowed
    → IsLookedAt board player allowed budget looked

-- the turn with this number, which was planned so, and which the tree decides after this look-
-- ahead, is good if no player is joined on the tree's board, the plan is one for this board and
-- player, there was a look-ahead exactly if the means have one, it is one of what is allowed, with
-- the means' budget, and the tree's shape is that of the turn; for one worker the tree has to be
-- that of Seq
abbrev pub IsGoodAsSearched : TurnData → ℕ → Planned → Option LookedData → ClosedTree → Type 0
IsGoodAsSearched t number planned looked tree = (knobs : Knobs) (means : Means)
    → winner_of tree.shape.board ≡ None
    → IsPlanned tree.shape.board tree.shape.player means planned
    → is_some looked ≡ looks_ahead means
    → IsLookedFor tree.shape.board tree.shape.player planned.plan means.look looked
    → IsTurnShape knobs tree.shape.board tree.shape.player number tree.shape.allowed tree.shape
    → IsSequential knobs tree → IsGood knobs means t
