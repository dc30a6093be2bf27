-- Verdicts: what an audit says of bytes.
use Rattle.std.specs.Prelude.{◌≡◌, ◌≢◌, ℕ, List, [], ◌∷◌, ◌++◌, length}
use Rattle.std.specs.Prelude.{MatchOption, Option}
use Rattle.std.specs.List.{AllByRecursion, flat_map}
use Rattle.tree_words.specs.Settings.{Setting, IsSetting}
use Rattle.tree_words.specs.Blocks.{LinkedBlock}
use Rattle.tree_words.specs.Complete.{Linked}
use Rattle.tree_words.specs.Records.{Recorded}
use Rattle.tree_words.specs.Counts.{Exact}
use Rattle.tree_words.specs.Growth.{Grown}
use Rattle.tree_words.specs.Closing.{ClosedTree, IsClosed, KeepsEnds}
use Rattle.trace_audit.specs.Traces.{trace_text}
use Rattle.trace_audit.specs.Told.{AreWords, IsReadTree}
use Rattle.trace_audit.specs.declared.types.Audit.{Audit}
use Rattle.trace_audit.specs.declared.types.Audit.TheVariants.{Yes, No}
use Rattle.trace_audit.specs.declared.types.Flaw.{Flaw}
use Rattle.trace_audit.specs.declared.types.Flaw.TheVariants.{BadForm, Block, Record, Count, End}
use Rattle.trace_audit.specs.declared.types.Flaw.TheVariants.{Growth}

-- the bytes begin with the text of this tree, as it is read
pub record BeginsWithTree (tree : ClosedTree) (bytes : List ℕ) : Type 0 where
  pub read : IsReadTree tree
  pub rest : List ℕ
  pub text : bytes ≡ trace_text tree ++ rest

-- the first point of the closed tree that fails: no list of blocks is linked, or such a list is
-- and of the other points this is the first that fails
abbrev pub FailsFirst : Setting → List ℕ → Flaw → Type 0
FailsFirst s words BadForm = ⊥
FailsFirst s words Block = (bs : List LinkedBlock) → ¬ (Linked s words bs)
FailsFirst s words Record =
    (bs : List LinkedBlock) × Linked s words bs × ¬ (Recorded s bs words)
FailsFirst s words Count =
    (bs : List LinkedBlock) × Linked s words bs × Recorded s bs words × ¬ (Exact s bs words)
FailsFirst s words End =
    (bs : List LinkedBlock) × Linked s words bs × Recorded s bs words × Exact s bs words
    × ¬ (KeepsEnds s words)
FailsFirst s words Growth =
    (bs : List LinkedBlock) × Linked s words bs × Recorded s bs words × Exact s bs words
    × KeepsEnds s words × ¬ (Grown s bs words)

-- the answer is the first point that fails; `None` if the tree is closed
abbrev pub IsFirstFailure : Setting → List ℕ → Option Flaw → Type 0
IsFirstFailure s words answer = MatchOption answer (IsClosed s words) (FailsFirst s words)

-- the first flaw of the bytes' first text: no text of a tree stands there, or the tree that is read
-- there fails so
abbrev pub HasFlaw : List ℕ → Flaw → Type 0
HasFlaw bytes BadForm = (bytes ≢ []) × ((tree : ClosedTree) → ¬ (BeginsWithTree tree bytes))
HasFlaw bytes why =
    (tree : ClosedTree) × BeginsWithTree tree bytes × FailsFirst tree.shape tree.words why

-- the tree is closed, its shape is one that can be searched, and its words are 64-bit numbers
abbrev pub IsClosedTree : ClosedTree → Type 0
IsClosedTree t = IsSetting t.shape × IsClosed t.shape t.words × AreWords t.words

-- each of the trees is such a tree
abbrev pub AreTrees : List ClosedTree → Type 0
AreTrees [] = Unit {0}
AreTrees (t ∷ ts) = IsClosedTree t × AreTrees ts

-- the bytes are the texts of n closed trees, one after another, each as it is read, and then the
-- rest
pub record AreTexts (n : ℕ) (rest bytes : List ℕ) : Type 0 where
  pub trees : List ClosedTree
  pub count : length trees ≡ n
  pub closed : AllByRecursion (λ tree. IsReadTree tree × IsClosed tree.shape tree.words) trees
  pub text : bytes ≡ flat_map trace_text trees ++ rest

-- the verdict on bytes: they are the texts of so many closed trees; or behind those of so many
-- stands a text with this first flaw
abbrev pub IsVerdictOn : List ℕ → Audit → Type 0
IsVerdictOn bytes (Yes trees) = AreTexts trees [] bytes
IsVerdictOn bytes (No tree why) =
    (rest : List ℕ) × AreTexts tree rest bytes × HasFlaw rest why
