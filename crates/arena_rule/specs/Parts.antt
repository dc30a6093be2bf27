-- The parts of the arena rule, over the words, the linked blocks and the views of all seats. A
-- spent view has nothing, so that it adds nothing to a sum; what is said of each view holds of it
-- too.
use Rattle.std.specs.Prelude.{◌≡◌, ◌≢◌, ℕ, ◌+◌, ◌*◌, ◌<◌, ◌≤◌, ◌==◌, ◌&&◌, nat_lt, nat_le}
use Rattle.std.specs.Prelude.{if◌then◌else◌, Bool, true, List, length, sum_by, count_by}
use Rattle.std.specs.Prelude.{slice_index, Contains, Option, Some, None}
use mathlib.Core.Option.{some}
use lib.ListN.{get_elem?}
use Rattle.tree_words.specs.Settings.{Setting}
use Rattle.tree_words.specs.Words.{root_at, area_at, end_of, next_in, ticket_in, record_in, leaf_in}
use Rattle.tree_words.specs.Words.{winner_in, link_in}
use Rattle.tree_words.specs.Blocks.{LinkedBlock, one_if, is_node, cover}
use Rattle.tree_words.specs.Paths.{node_state}
use Rattle.tree_words.specs.Complete.{Linked, HaveNodes}
use Rattle.tree_words.specs.Sequence.{outcome_of}
use Rattle.tree_words.specs.Told.{Knows}
use Rattle.tree_words.specs.declared.layout.TheConstants.{TALLY_WORD, SEEN_WORD, MOST_BLOCK_WORDS}
use Rattle.arena_rule.specs.Views.{SeatView, HeldBlock, Flight, Walked, spent_view}
use Rattle.arena_rule.specs.Adds.{walk_adds, amount_at}
use Rattle.arena_rule.specs.Lookups.{is_known, adds_made, is_held}

-- P holds of each view
abbrev pub Each : (SeatView → Type 0) → List SeatView → Type 0
Each P views = (i : ℕ) (v : SeatView) → get_elem? views i ≡ some v → P v

-- the workers of a view, those of them that have ended, and its workers if it is full
abbrev pub width_of : SeatView → ℕ
width_of v = v.width

abbrev pub ended_of : SeatView → ℕ
ended_of v = v.ended

abbrev pub full_width : SeatView → ℕ
full_width v = if v.full then v.width else 0

-- a view has the tree's shape, no more workers have ended than it stands for, and it is spent if
-- it stands for none
pub record HasWidth (s : Setting) (v : SeatView) : Type 0 where
  pub shape : v.shape ≡ s
  pub ended : v.ended ≤ v.width
  pub spent : v.width ≡ 0 → v ≡ spent_view s

-- Widths: the widths add up to K. TICKET is at most N and the number of ended workers, and at least
-- N if one has ended. NEXT is at most the area's end and a largest block for each worker of the
-- full views, and past the end if there is one.
pub record Widths (s : Setting) (words : List ℕ) (views : List SeatView) : Type 0 where
  pub each : Each (HasWidth s) views
  pub sum : sum_by width_of views ≡ s.knobs.workers
  pub ticket : ticket_in words ≤ s.knobs.playouts + sum_by ended_of views
  pub ended : 0 < sum_by ended_of views → s.knobs.playouts ≤ ticket_in words
  pub next : next_in words ≤ end_of s + MOST_BLOCK_WORDS * sum_by full_width views
  pub full : 0 < sum_by full_width views → end_of s < next_in words

-- Fresh: the words of the area at and above NEXT are 0
abbrev pub Fresh : Setting → List ℕ → Type 0
Fresh s words = (i : ℕ) → area_at s ≤ i → next_in words ≤ i → i < end_of s → slice_index words i ≡ 0

-- 1 if the view holds the word i
abbrev pub held_at : ℕ → SeatView → ℕ
held_at i v = one_if (is_held v.held i)

-- the word i lies inside the area and below NEXT
abbrev pub is_claimed : Setting → List ℕ → ℕ → Bool
is_claimed s words i = nat_le (area_at s) i && (nat_lt i (next_in words) && nat_lt i (end_of s))

-- Apart: a word lies in at most one of the linked and held blocks, and in none unless it lies below
-- NEXT and inside the area
abbrev pub AreApart : Setting → List LinkedBlock → List ℕ → List SeatView → Type 0
AreApart s bs words views =
    (i : ℕ) → cover i bs + sum_by (held_at i) views ≤ one_if (is_claimed s words i)

-- Linked: bs are the linked blocks, each complete and named by its parent's link, and each with a
-- node; the root's link is N + 6, and its move word is 0
pub record AreLinked (s : Setting) (bs : List LinkedBlock) (words : List ℕ) : Type 0 where
  pub blocks : Linked s words bs
  pub nodes : HaveNodes bs
  pub link : link_in words (root_at s) ≡ area_at s
  pub move : slice_index words (root_at s) ≡ 0

-- the held block has a word at least, and has its written words and then zeros
pub record HasWritten (words : List ℕ) (h : HeldBlock) : Type 0 where
  pub some : 0 < h.size
  pub fits : length h.written ≤ h.size
  pub each : (j : ℕ) → j < h.size → slice_index words (h.start + j) ≡ slice_index h.written j

-- Held: so is each held block
abbrev pub AreWritten : List ℕ → List SeatView → Type 0
AreWritten words views = Each (λ v. (h : HeldBlock) → v.held ≡ Some h → HasWritten words h) views

-- Known: each known block is a linked block, and its parent is known by the blocks behind it
abbrev pub Known : Setting → List LinkedBlock → List SeatView → Type 0
Known s bs views = Each (λ v. Knows (root_at s) bs v.known) views

-- what the recorded walks of a view add to the word w, and what the adds that it has made in flight
-- add to it
abbrev pub amount_recorded : Setting → List LinkedBlock → ℕ → List Walked → ℕ
amount_recorded s bs w walks =
    sum_by (λ q. amount_at w (walk_adds s bs q.number (leaf_in q.value))) walks

abbrev pub amount_counted : Setting → List LinkedBlock → ℕ → SeatView → ℕ
amount_counted s bs w v =
    amount_recorded s bs w v.walks + amount_at w (adds_made s bs v.ticket v.adds)

-- Sums: the tally of each node of the tree is what the recorded walks and the adds made in flight,
-- of all views, add to it; so is the seen word of each node but the root, whose seen word is 0
pub record Sums (s : Setting) (bs : List LinkedBlock)
    (words : List ℕ) (views : List SeatView) : Type 0 where
  pub tallies : (x : ℕ) → is_node (root_at s) bs x ≡ true
      → slice_index words (x + TALLY_WORD) ≡ sum_by (amount_counted s bs (x + TALLY_WORD)) views
  pub seen : (x : ℕ) → is_node (root_at s) bs x ≡ true → x ≢ root_at s
      → slice_index words (x + SEEN_WORD) ≡ sum_by (amount_counted s bs (x + SEEN_WORD)) views
  pub root : slice_index words (root_at s + SEEN_WORD) ≡ 0

-- how often the view has the number k: in hand, and in its walks
abbrev pub in_hand : ℕ → Option ℕ → ℕ
in_hand k None = 0
in_hand k (Some n) = one_if (n == k)

abbrev pub times_drawn : ℕ → SeatView → ℕ
times_drawn k v = in_hand k v.ticket + count_by (λ w. w.number == k) v.walks

-- the value that the view's walks have for the number k, or 0
abbrev pub value_noted : ℕ → SeatView → ℕ
value_noted k v = sum_by (λ w. if w.number == k then w.value else 0) v.walks

-- the record of the walk is right: its leaf is a node of the tree other than the root, and its
-- result is that of the playout
pub record IsRight (s : Setting) (bs : List LinkedBlock) (w : Walked) : Type 0 where
  pub node : is_node (root_at s) bs (leaf_in w.value) ≡ true
  pub below : leaf_in w.value ≢ root_at s
  pub result : winner_in w.value
      ≡ (outcome_of s w.number (node_state s bs (leaf_in w.value))).winner

-- Tickets: each number below TICKET and below N is in exactly one view, there once, and no other is
-- in any. The record of a number is the value that a view's walks have for it, and else 0; and each
-- recorded walk is right.
pub record Tickets (s : Setting) (bs : List LinkedBlock)
    (words : List ℕ) (views : List SeatView) : Type 0 where
  pub once : (k : ℕ) → sum_by (times_drawn k) views
      ≡ one_if (nat_lt k (ticket_in words) && nat_lt k s.knobs.playouts)
  pub records : (k : ℕ) → k < s.knobs.playouts → record_in words k ≡ sum_by (value_noted k) views
  pub right : Each (λ v. (w : Walked) → Contains v.walks w → IsRight s bs w) views

-- a walk in flight: its leaf is a known node other than the root, and it has made at least one add,
-- and no more than it has
pub record IsFlying (v : SeatView) (k : ℕ) (f : Flight) : Type 0 where
  pub known : is_known v f.leaf ≡ true
  pub below : f.leaf ≢ root_at v.shape
  pub made : (1 ≤ f.made) × (f.made ≤ length (walk_adds v.shape v.known k f.leaf))

-- what a view has in hand: a number below TICKET and below N, only of one worker, who has not
-- ended; adds begun or a held block only with it, and never both; and the leaves of its recorded
-- walks are known nodes
pub record HasInHand (s : Setting) (words : List ℕ) (v : SeatView) : Type 0 where
  pub ticket : (k : ℕ) → v.ticket ≡ Some k → (k < ticket_in words) × (k < s.knobs.playouts)
  pub walks : (w : Walked) → Contains v.walks w
      → (w.number < ticket_in words) × (w.number < s.knobs.playouts)
  pub one : (k : ℕ) → v.ticket ≡ Some k → (v.width ≡ 1) × (v.ended ≡ 0)
  pub idle : v.ticket ≡ None → (v.adds ≡ None) × (v.held ≡ None)
  pub either : (f : Flight) → v.adds ≡ Some f → v.held ≡ None
  pub flight : (k : ℕ) (f : Flight) → v.ticket ≡ Some k → v.adds ≡ Some f → IsFlying v k f
  pub leaves : (w : Walked) → Contains v.walks w → is_known v (leaf_in w.value) ≡ true

-- InHand: so is it with each view
abbrev pub InHand : Setting → List ℕ → List SeatView → Type 0
InHand s words views = Each (HasInHand s words) views

-- Sole: a view that has a copy of all words is the only one that is not spent, and the words are
-- that copy
abbrev pub Sole : List ℕ → List SeatView → Type 0
Sole words views = (i : ℕ) (v : SeatView) (copy : List ℕ)
    → get_elem? views i ≡ some v → v.whole ≡ Some copy
    → (words ≡ copy)
    × ((j : ℕ) (other : SeatView) → get_elem? views j ≡ some other → j ≢ i → other.width ≡ 0)
