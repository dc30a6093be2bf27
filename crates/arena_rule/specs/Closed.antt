-- The end of a search, and what the records tell of the counts.
use Rattle.std.specs.Prelude.{◌≡◌, ℕ, ◌+◌, ◌<◌, ◌==◌, not, true, List, sum_by, count_by}
use Rattle.std.specs.Prelude.{slice_index}
use Rattle.std.specs.List.{filter, range_with_len}
use Rattle.tree_words.specs.Settings.{Setting}
use Rattle.tree_words.specs.Words.{root_at, record_in}
use Rattle.tree_words.specs.Blocks.{LinkedBlock, In, has_node, is_node}
use Rattle.tree_words.specs.Records.{leaf_of}
use Rattle.tree_words.specs.Closing.{IsClosed}
use Rattle.tree_words.specs.declared.layout.TheConstants.{TALLY_WORD, SEEN_WORD}
use Rattle.arena_rule.specs.Views.{SeatView, HasEnded}
use Rattle.arena_rule.specs.Adds.{tally_amount, seen_amount, amount_at}
use Rattle.arena_rule.specs.Lookups.{adds_made}
use Rattle.arena_rule.specs.Runs.{Arena, IsSeat}

-- the seat is the last one: it stands for all workers, and they have ended
pub record IsLast (s : Setting) (views : List SeatView) (id : ℕ) (v : SeatView) : Type 0 where
  pub seat : IsSeat views id v
  pub width : v.width ≡ s.knobs.workers
  pub ended : HasEnded v

-- the number of each playout stands in the view's walks once
abbrev pub HasAllWalks : Setting → SeatView → Type 0
HasAllWalks s v = (k : ℕ) → k < s.knobs.playouts → count_by (λ w. w.number == k) v.walks ≡ 1

-- if one seat is left and its workers have ended, the tree is closed
abbrev pub EndsClosed : Setting → Arena → Type 0
EndsClosed s a = (id : ℕ) (v : SeatView) → IsLast s a.views id v → IsClosed s a.words

-- and the seat has all walks
abbrev pub EndsWithAllWalks : Setting → Arena → Type 0
EndsWithAllWalks s a = (id : ℕ) (v : SeatView) → IsLast s a.views id v → HasAllWalks s v

-- the numbers of the recorded playouts: those below N whose record is not 0
abbrev pub recorded : Setting → List ℕ → List ℕ
recorded s words = filter (λ k. not (record_in words k == 0)) (range_with_len 0 s.knobs.playouts)

-- what the adds that a view has made in flight add to the word w
abbrev pub amount_in_flight : Setting → List LinkedBlock → ℕ → SeatView → ℕ
amount_in_flight s bs w v = amount_at w (adds_made s bs v.ticket v.adds)

-- The counts are those of the records: a tally of a node is what the exact counts have there of the
-- recorded playouts, and what the adds made in flight add to it. So is the seen word of each node
-- of a block.
pub record CountsRecords (s : Setting) (bs : List LinkedBlock) (a : Arena) : Type 0 where
  pub tallies : (x : ℕ) → is_node (root_at s) bs x ≡ true
      → slice_index a.words (x + TALLY_WORD)
      ≡ sum_by (λ k. tally_amount s bs k (leaf_of a.words k) x) (recorded s a.words)
      + sum_by (amount_in_flight s bs (x + TALLY_WORD)) a.views
  pub seen : (b : LinkedBlock) (y : ℕ) → In b bs → has_node b y ≡ true
      → slice_index a.words (y + SEEN_WORD)
      ≡ sum_by (λ k. seen_amount s bs k (leaf_of a.words k) b y) (recorded s a.words)
      + sum_by (amount_in_flight s bs (y + SEEN_WORD)) a.views
