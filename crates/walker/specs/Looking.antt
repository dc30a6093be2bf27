-- What a view has of a scan.
use Rattle.std.specs.Prelude.{◌≡◌, ℕ, ◌+◌, ◌<◌, ◌≤◌, true, false, List, [], ◌∷◌, ◌++◌, length, map}
use Rattle.std.specs.Prelude.{take, Some, slice_get}
use Rattle.uct_table.specs.Choice.{Child, score_in, kept_of, kept_from}
use Rattle.tree_words.specs.Words.{count_in}
use Rattle.tree_words.specs.Blocks.{LinkedBlock, child}
use Rattle.tree_words.specs.Sequence.{child_of}
use Rattle.tree_words.specs.Descents.{pairs_of}
use Rattle.tree_words.specs.Walks.{AtMost}
use Rattle.tree_words.specs.declared.layout.TheConstants.{HEADER_WORDS, TALLY_WORD, SEEN_WORD}
use Rattle.arena_rule.specs.Views.{SeatView}
use Rattle.arena_rule.specs.Lookups.{IsLoaded, load_of, tally_loaded, seen_loaded}
use Rattle.walker.specs.Scans.{ScanData}
use Rattle.walker.specs.declared.scans.Phase.{Phase}
use Rattle.walker.specs.declared.scans.Phase.TheVariants.{Move, Tally, Seen}
use Rattle.walker.specs.declared.machine.Walker.{Walker}

-- the child of this place, the best of the children xs, is the one that is kept: going on through
-- any further children is going on from it
pub record HasKept (d : ScanData) (xs : List Child) : Type 0 where
  pub place : d.best < d.place
  pub child : Child
  pub is : slice_get xs d.best ≡ Some child
  pub visits : child.visits ≡ d.visits
  pub fresh : d.fresh ≡ true → d.visits ≡ 0
  pub score : d.fresh ≡ false → (0 < d.visits) × (score_in d.parent d.weight child ≡ d.most)
  pub goes : (ys : List Child) → kept_of d.parent d.weight (xs ++ ys)
      ≡ kept_from d.parent d.weight d.best child d.place ys

abbrev pub KeepsBest : ScanData → List Child → Type 0
KeepsBest d [] = (d.place ≡ 0) × (d.best ≡ 0) × (d.most ≡ 0) × (d.fresh ≡ false)
KeepsBest d (x ∷ xs) = HasKept d (x ∷ xs)

-- the counts of the first n children of a block, as they were loaded
abbrev pub children_loaded : SeatView → LinkedBlock → ℕ → List Child
children_loaded v b n =
    map child_of (pairs_of (tally_loaded v) (seen_loaded v) (b.start + HEADER_WORDS)
    (take n b.cells))

-- where the scan stands in its child, which begins at y: a tally that it has is loaded
abbrev pub InChild : Phase → SeatView → ScanData → ℕ → Type 0
InChild Move v d y = d.at ≡ y
InChild Tally v d y = d.at ≡ y + TALLY_WORD
InChild Seen v d y =
    (d.at ≡ y + SEEN_WORD) × (load_of v.loads (y + TALLY_WORD) ≡ Some d.tally)
    × AtMost v.shape.knobs.playouts (count_in d.tally)

-- the scan has looked at the children before its place, and keeps the one that Choice takes of them
pub record IsScan (w : Walker) (v : SeatView) (b : LinkedBlock) : Type 0 where
  pub parent : w.scan.parent ≡ w.visits
  pub weight : w.scan.weight ≡ v.shape.knobs.weight
  pub count : w.scan.count ≡ length b.cells
  pub place : w.scan.place < w.scan.count
  pub stands : InChild w.scan.phase v w.scan (child b w.scan.place)
  pub tallies : (i : ℕ) → i < w.scan.place → IsLoaded v (child b i + TALLY_WORD)
  pub seen : (i : ℕ) → i < w.scan.place → IsLoaded v (child b i + SEEN_WORD)
  pub few : w.scan.visits ≤ v.shape.knobs.playouts
  pub keeps : KeepsBest w.scan (children_loaded v b w.scan.place)
