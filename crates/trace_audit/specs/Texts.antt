-- Words and texts in bytes. No clause of a public call cites this.
use Rattle.std.specs.Prelude.{◌≡◌, ℕ, ◌+◌, ◌*◌, ◌≤◌, List, ◌++◌, length, take, drop, codes}
use Rattle.tree_words.specs.Areas.{IsCut, all_words}
use Rattle.tree_words.specs.Closing.{ClosedTree}
use Rattle.tree_words.specs.Settings.{Setting, IsSetting}
use Rattle.tree_words.specs.Words.{area_at, end_of}
use Rattle.trace_audit.specs.Traces.{bytes_of, fields_of, trace_text}
use Rattle.trace_audit.specs.Told.{AreWords, IsReadTree}
use Rattle.trace_audit.specs.Verdicts.{BeginsWithTree}
use Rattle.trace_audit.specs.declared.parsing.Text.{Text}
use Rattle.trace_audit.specs.declared.parsing.TheConstants.{HEADER_BYTES}
use Rattle.trace_audit.specs.declared.places.TheConstants.{FIELDS}
use Rattle.trace_audit.specs.declared.texts.TheConstants.{WORD_BYTES}

-- the words stand in the bytes from byte `at` on
abbrev pub StandAt : List ℕ → ℕ → List ℕ → Type 0
StandAt bytes at words = bytes_of words ≡ take (WORD_BYTES * length words) (drop at bytes)

-- the bytes begin with the name of a text and these fields
abbrev pub BeginWith : List ℕ → List ℕ → Type 0
BeginWith bytes fields =
    (rest : List ℕ) × (bytes ≡ codes "HEXTREE1" ++ (bytes_of fields ++ rest))

-- the fields are 64-bit numbers, and the bytes begin with the name of a text and them
pub record AreFields (bytes fields : List ℕ) : Type 0 where
  pub count : length fields ≡ FIELDS
  pub words : AreWords fields
  pub header : BeginWith bytes fields
  pub long : HEADER_BYTES ≤ length bytes

-- no fields stand so at the start of the bytes
abbrev pub LacksFields : List ℕ → Type 0
LacksFields bytes = (fields : List ℕ) → length fields ≡ FIELDS → ¬ (BeginWith bytes fields)

-- the bytes begin with the text of no tree
abbrev pub BeginsWithNoTree : List ℕ → Type 0
BeginsWithNoTree bytes = (tree : ClosedTree) → ¬ (BeginsWithTree tree bytes)

-- so many words may follow the header of a text of this shape: from all before the block area to
-- all of the tree, and no more than so many bytes have
abbrev pub MayFollow : Setting → ℕ → ℕ → Type 0
MayFollow s count bytes =
    (area_at s ≤ count) × (count ≤ end_of s) × (WORD_BYTES * count ≤ bytes)

-- the bytes begin with the header of a text of this shape and so many words, and have as many: from
-- all before the block area to all of the tree
pub record IsHeader (bytes : List ℕ) (s : Setting) (count : ℕ) : Type 0 where
  pub setting : IsSetting s
  pub header : BeginWith bytes (fields_of s count)
  pub least : area_at s ≤ count
  pub most : count ≤ end_of s
  pub long : HEADER_BYTES + WORD_BYTES * count ≤ length bytes

-- the tree of what was read
abbrev pub closed_tree_of : Text → ClosedTree
closed_tree_of text =
    record { shape = text.shape; words = all_words text.shape text.words }

-- what was read is a tree as it is read, and the bytes begin with its text, of so many bytes
pub record IsText (bytes : List ℕ) (text : Text) : Type 0 where
  pub read : IsReadTree (closed_tree_of text)
  pub cut : IsCut text.shape text.words text.cut
  pub most : text.bytes ≤ length bytes
  pub least : HEADER_BYTES ≤ text.bytes
  pub begins : bytes ≡ trace_text (closed_tree_of text) ++ drop text.bytes bytes
