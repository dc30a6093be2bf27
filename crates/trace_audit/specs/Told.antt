-- What a text tells: the tree that is read from it.
use Rattle.std.specs.Prelude.{◌≡◌, ℕ, ◌≤◌, ◌<◌, ◌^◌, List, length, slice_index}
use Rattle.tree_words.specs.Closing.{ClosedTree, IsClosed}
use Rattle.tree_words.specs.Settings.{IsSetting}
use Rattle.tree_words.specs.Words.{area_at, end_of}
use Rattle.trace_audit.specs.Traces.{trace_text, written_count}

-- each word is a 64-bit number
abbrev pub AreWords : List ℕ → Type 0
AreWords words = (i : ℕ) → slice_index words i < 2 ^ 64

-- a tree as a text tells it: the shape is one that can be searched, the words are 64-bit numbers
-- and as many as the shape has, those before the block area are written, and those that are not
-- written are 0
pub record IsReadTree (tree : ClosedTree) : Type 0 where
  pub shape : IsSetting tree.shape
  pub words : AreWords tree.words
  pub long : length tree.words ≡ end_of tree.shape
  pub area : area_at tree.shape ≤ written_count tree.words
  pub rest : (i : ℕ) → written_count tree.words ≤ i → slice_index tree.words i ≡ 0

-- the bytes are the text of a tree that is read from them and is closed: it has the shape of the
-- given tree and its words as far as they are written
pub record TellsClosed (given : ClosedTree) (bytes : List ℕ) : Type 0 where
  pub tree : ClosedTree
  pub told : IsReadTree tree
  pub shape : tree.shape ≡ given.shape
  pub words : (i : ℕ) → i < written_count given.words
      → slice_index tree.words i ≡ slice_index given.words i
  pub closed : IsClosed tree.shape tree.words
  pub text : bytes ≡ trace_text tree
