-- The scan of a block's children: three looks for each.
use Rattle.std.specs.Prelude.{◌≡◌, ℕ, ◌+◌, ◌-◌, ◌==◌, ◌<◌, nat_lt, if◌then◌else◌, Bool, true, false}
use Rattle.uct_table.specs.Choice.{Child, score_in}
use Rattle.uct_table.specs.declared.scoring.TheConstants.{MOST_COUNT}
use Rattle.tree_words.specs.Words.{count_in}
use Rattle.tree_words.specs.Walks.{AtMost}
use Rattle.tree_words.specs.Sequence.{child_of}
use Rattle.tree_words.specs.declared.layout.TheConstants.{HEADER_WORDS, NODE_WORDS, TALLY_WORD}
use Rattle.tree_words.specs.declared.layout.TheConstants.{SEEN_WORD, MOST_NODES}
use Rattle.walker.specs.declared.TheConstants.{PAST_WORDS}
use Rattle.walker.specs.declared.scans.Phase.{Phase}
use Rattle.walker.specs.declared.scans.Phase.TheVariants.{Move, Tally, Seen}

-- A scan: the visits of the block's parent and the weight, the number of its nodes, the next word,
-- and the place of the child in hand with the tally that was found there. `best` is the place of
-- the child that is kept, `visits` are its visits and `most` is its score; `fresh` says that it
-- has no visits.
pub record ScanData : Type 0 where
  pub parent : ℕ
  pub weight : ℕ
  pub count : ℕ
  pub at : ℕ
  pub phase : Phase
  pub place : ℕ
  pub tally : ℕ
  pub best : ℕ
  pub visits : ℕ
  pub most : ℕ
  pub fresh : Bool

-- the scan of the block that begins at `block`, at its first child
abbrev pub scan_of : ℕ → ℕ → ℕ → ℕ → ScanData
scan_of block count parent weight = record {
  parent = parent;
  weight = weight;
  count = count;
  at = block + HEADER_WORDS;
  phase = Move;
  place = 0;
  tally = 0;
  best = 0;
  visits = 0;
  most = 0;
  fresh = false;
}

-- the counts of the child in hand, whose seen word this is
abbrev pub child_in : ScanData → ℕ → Child
child_in d seen = child_of (count_in d.tally, count_in seen)

-- it is kept if no child without visits is kept, and it has none itself or the greater score;
-- of the first child the visits are taken in any case
unfoldable pub kept : ScanData → Child → ScanData
kept d c =
    if d.fresh then d
    else (if c.visits == 0 then record d { best = d.place; visits = 0; fresh = true }
    else (if nat_lt d.most (score_in d.parent d.weight c)
    then record d { best = d.place; visits = c.visits; most = score_in d.parent d.weight c }
    else (if d.place == 0 then record d { visits = c.visits } else d)))

-- after a look: the tally is next, then the seen word, then the next child's move
abbrev pub scan_on : Phase → ScanData → ℕ → ScanData
scan_on Move d x = record d { at = d.at + TALLY_WORD; phase = Tally }
scan_on Tally d x = record d { at = d.at + (SEEN_WORD - TALLY_WORD); phase = Seen; tally = x }
scan_on Seen d x = record (kept d (child_in d x)) {
  at = d.at + (NODE_WORDS - SEEN_WORD);
  phase = Move;
  place = d.place + 1;
}

abbrev pub scan_next : ScanData → ℕ → ScanData
scan_next d x = scan_on d.phase d x

-- the scan may go on with this answer: its words are small, and at a seen word the counts can be
-- scored
pub record CanScan (d : ScanData) (x : ℕ) : Type 0 where
  pub at : d.at < PAST_WORDS
  pub place : d.place < MOST_NODES
  pub tally : d.phase ≡ Seen → AtMost MOST_COUNT (count_in d.tally)
  pub seen : d.phase ≡ Seen → AtMost MOST_COUNT (count_in x)

-- the scan may go on with the counts of a whole child, whose move is next
pub record CanScanChild (d : ScanData) (t s : ℕ) : Type 0 where
  pub at : d.at < PAST_WORDS
  pub place : d.place < MOST_NODES
  pub tally : AtMost MOST_COUNT (count_in t)
  pub seen : AtMost MOST_COUNT (count_in s)
