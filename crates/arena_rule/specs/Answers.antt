-- What an answer may be, told from the view before the step. All that is said of an answer holds of
-- it together.
use Rattle.std.specs.Prelude.{◌≡◌, ◌≢◌, ◌⊎◌, ℕ, ◌+◌, ◌*◌, ◌<◌, ◌≤◌, true, false, List, Contains}
use Rattle.std.specs.Prelude.{Some, slice_index}
use Rattle.tree_words.specs.Words.{root_at, area_at, end_of, visits_in, wins_in}
use Rattle.tree_words.specs.Blocks.{LinkedBlock, In, size, covers, cover, is_header_or_move}
use Rattle.tree_words.specs.Blocks.{header_or_move}
use Rattle.tree_words.specs.declared.layout.TheConstants.{LINK_WORD, TALLY_WORD, SEEN_WORD}
use Rattle.tree_words.specs.declared.layout.TheConstants.{MOST_BLOCK_WORDS}
use Rattle.tree_words.specs.declared.settings.TheConstants.{MOST_WORKERS}
use Rattle.tree_words.specs.declared.steps.Op.{Op}
use Rattle.tree_words.specs.declared.steps.Op.TheVariants.{Draw, Look, Claim, Write, Publish, Add}
use Rattle.tree_words.specs.declared.steps.Op.TheVariants.{Note, Done}
use Rattle.arena_rule.specs.Views.{SeatView, Walked}
use Rattle.arena_rule.specs.Lookups.{is_known, known_link, told_below, recorded_through, adds_made}
use Rattle.arena_rule.specs.Lookups.{adds_in, is_held}
use Rattle.arena_rule.specs.Afters.{word_of}

-- if the view has a copy of the words, the answer is the value there
abbrev pub AgreesWithWhole : SeatView → ℕ → ℕ → Type 0
AgreesWithWhole v i x = (words : List ℕ) → v.whole ≡ Some words → x ≡ slice_index words i

-- a Draw answers at most N + K, and no number of the view's walks
pub record AnswersDraw (v : SeatView) (x : ℕ) : Type 0 where
  pub most : x ≤ v.shape.knobs.playouts + v.shape.knobs.workers
  pub new : (w : Walked) → Contains v.walks w → w.number ≢ x

-- b may be the first word of a block below the known node x: it lies behind the node, and the told
-- block lies inside the area and shares no word with a known block or with the held one
pub record MayLieBelow (v : SeatView) (x b : ℕ) : Type 0 where
  pub above : x < b
  pub inside : (area_at v.shape ≤ b) × (b + size (told_below v x b) ≤ end_of v.shape)
  pub apart : (i : ℕ) → covers i (told_below v x b) ≡ true → cover i v.known ≡ 0
  pub held : (i : ℕ) → covers i (told_below v x b) ≡ true → is_held v.held i ≡ false

-- the link of the known node x is found to be b: the root's names the first block of the area; a
-- known link stays; another is 0 or the first word of a block that may lie below the node
pub record AnswersLink (v : SeatView) (x b : ℕ) : Type 0 where
  pub root : x ≡ root_at v.shape → b ≡ area_at v.shape
  pub known : 0 < known_link v x → b ≡ known_link v x
  pub other : known_link v x ≡ 0 → (b ≡ 0) ⊎ MayLieBelow v x b

-- the tally of the known node x: visits and wins of at most N, and as many visits at least as the
-- view's own walks through the node, and one more if its adds in flight include that tally
pub record AnswersTally (v : SeatView) (x n : ℕ) : Type 0 where
  pub visits : visits_in n ≤ v.shape.knobs.playouts
  pub wins : wins_in n ≤ v.shape.knobs.playouts
  pub own : recorded_through v x
      + adds_in (x + TALLY_WORD) (adds_made v.shape v.known v.ticket v.adds) ≤ visits_in n

-- the seen word of a known node: two counts of at most N
pub record AnswersSeen (v : SeatView) (n : ℕ) : Type 0 where
  pub visits : visits_in n ≤ v.shape.knobs.playouts
  pub wins : wins_in n ≤ v.shape.knobs.playouts

-- A Look at the word i: at a link, a header or move word of a known block, a tally or a seen word
-- of a known node it answers as said. At another word it may answer any value.
pub record AnswersLook (v : SeatView) (i n : ℕ) : Type 0 where
  pub link : (x : ℕ) → is_known v x ≡ true → i ≡ x + LINK_WORD → AnswersLink v x n
  pub block : (b : LinkedBlock) (j : ℕ) → In b v.known → j < size b → is_header_or_move j ≡ true
      → i ≡ b.start + j → n ≡ header_or_move b j
  pub tally : (x : ℕ) → is_known v x ≡ true → i ≡ x + TALLY_WORD → AnswersTally v x n
  pub seen : (x : ℕ) → is_known v x ≡ true → i ≡ x + SEEN_WORD → AnswersSeen v n

-- a Claim answers from N + 6 to a largest block for each of the most workers past the area's end,
-- and no less than the end of a known block
pub record AnswersClaim (v : SeatView) (x : ℕ) : Type 0 where
  pub least : area_at v.shape ≤ x
  pub most : x ≤ end_of v.shape + MOST_WORKERS * MOST_BLOCK_WORDS
  pub behind : (b : LinkedBlock) → In b v.known → b.start + size b ≤ x

-- a Publish answers as a Look at that link
abbrev pub AnswersPublish : SeatView → ℕ → ℕ → Type 0
AnswersPublish v l n = (x : ℕ) → is_known v x ≡ true → l ≡ x + LINK_WORD → AnswersLink v x n

-- an Add answers a word whose visits are fewer than N
abbrev pub AnswersAdd : SeatView → ℕ → Type 0
AnswersAdd v n = visits_in n < v.shape.knobs.playouts

-- what is said of the answer by the kind of step: a Write and a Note answer 0
abbrev pub AnswersStep : SeatView → Op → ℕ → Type 0
AnswersStep v Draw x = AnswersDraw v x
AnswersStep v (Look i) x = AnswersLook v i x
AnswersStep v (Claim words) x = AnswersClaim v x
AnswersStep v (Write i value) x = x ≡ 0
AnswersStep v (Publish l b) x = AnswersPublish v l x
AnswersStep v (Add i won) x = AnswersAdd v x
AnswersStep v (Note k value) x = x ≡ 0
AnswersStep v Done x = Unit {0}

-- the step may give this answer
pub record MayAnswer (v : SeatView) (op : Op) (x : ℕ) : Type 0 where
  pub step : AnswersStep v op x
  pub whole : AgreesWithWhole v (word_of op) x
