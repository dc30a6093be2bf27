-- A seat's view: what is known of a seat by its own steps.
use Rattle.std.specs.Prelude.{◌≡◌, ℕ, Bool, false, List, [], Option, Some, None}
use Rattle.hex_cells.specs.declared.colours.Colour.TheVariants.{Black}
use Rattle.tree_words.specs.Settings.{Setting}
use Rattle.tree_words.specs.Blocks.{LinkedBlock}
use Rattle.tree_words.specs.Opening.{opening_words}

-- the held block: its first word, its size, and the words written so far, from its first one on
pub record HeldBlock : Type 0 where
  pub start : ℕ
  pub size : ℕ
  pub written : List ℕ

-- a walk in flight: its leaf, and how many of its adds are made
pub record Flight : Type 0 where
  pub leaf : ℕ
  pub made : ℕ

-- a recorded walk: its number, and the record that was stored for it
pub record Walked : Type 0 where
  pub number : ℕ
  pub value : ℕ

-- a load: a word, and the value that was found there
pub record WordLoad : Type 0 where
  pub word : ℕ
  pub value : ℕ

-- A view. `width` is the number of workers for which the seat stands, and `ended` how many of them
-- have ended. `ticket` is the number in hand, if any, `adds` the walk in flight, if any of its adds
-- is made, and `held` the held block, if any. `known` is the list of the blocks whose links the
-- seat knows, newest first. `walks` are the records that it stored, the newest first. `full` says
-- that a claim went past the area's end. `whole`, if any, is a copy of all words. `loads` has the
-- loads of tallies and of seen words since the last Note, newest first. `claimed` is the number of
-- words that its claims took inside the area.
pub record SeatView : Type 0 where
  pub shape : Setting
  pub width : ℕ
  pub ended : ℕ
  pub ticket : Option ℕ
  pub adds : Option Flight
  pub held : Option HeldBlock
  pub known : List LinkedBlock
  pub walks : List Walked
  pub full : Bool
  pub whole : Option (List ℕ)
  pub loads : List WordLoad
  pub claimed : ℕ

-- a view of this shape and width that knows these blocks, with all its other parts empty, 0 or
-- false
abbrev pub new_view : Setting → ℕ → List LinkedBlock → SeatView
new_view s width known = record {
  shape = s;
  width = width;
  ended = 0;
  ticket = None;
  adds = None;
  held = None;
  known = known;
  walks = [];
  full = false;
  whole = None;
  loads = [];
  claimed = 0;
}

-- a spent view: that of a seat that was joined away. It stands for no worker and has nothing.
abbrev pub spent_view : Setting → SeatView
spent_view s = new_view s 0 []

-- the opening view: it stands for all workers and has a copy of the opening words
abbrev pub opening_view : Setting → SeatView
opening_view s = record (new_view s s.knobs.workers []) { whole = Some (opening_words s) }

-- the view has drawn nothing
pub record HasDrawnNothing (v : SeatView) : Type 0 where
  pub ticket : v.ticket ≡ None
  pub adds : v.adds ≡ None
  pub held : v.held ≡ None
  pub ended : v.ended ≡ 0
  pub walks : v.walks ≡ []
  pub full : v.full ≡ false
  pub claimed : v.claimed ≡ 0

-- all workers of the view have ended
abbrev pub HasEnded : SeatView → Type 0
HasEnded v = v.ended ≡ v.width

-- what is seen of the Rust type, of which no value is made: the spent view of an empty board of one
-- cell
unfoldable pub unseen_view : SeatView
unseen_view = spent_view (record {
  board = record { size = 1; black = 0; white = 0 };
  player = Black;
  allowed = 1;
  knobs = record { workers = 1; playouts = 1; seed = 0; words = 1024; expand = 1; weight = 0 };
})
