-- Seats that owe. A seat may hold back adds of its walks to seen words, and give what it owes to a
-- word later, in one step. The words with all that is owed given are the settled words: of these
-- the arena rule speaks.
use Rattle.std.specs.Prelude.{◌≡◌, ◌≢◌, ℕ, ◌+◌, ◌*◌, ◌/◌, ◌<◌, ◌≤◌, ◌==◌, not, true, List, [], ◌∷◌}
use Rattle.std.specs.Prelude.{◌++◌}
use Rattle.std.specs.Prelude.{length, map, sum_by, slice_index, slice_set, Contains, None, Some}
use Rattle.std.specs.List.{filter}
use mathlib.Core.Option.{some}
use lib.ListN.{get_elem?}
use Rattle.tree_words.specs.Settings.{Setting}
use Rattle.tree_words.specs.Words.{root_at, visits_in, wins_in}
use Rattle.tree_words.specs.Sequence.{amount_of}
use Rattle.tree_words.specs.declared.layout.TheConstants.{SEEN_WORD, VISIT}
use Rattle.tree_words.specs.declared.steps.Op.{Op}
use Rattle.tree_words.specs.declared.steps.Op.TheVariants.{Add}
use Rattle.arena_rule.specs.declared.views.TheConstants.{MOST_OWED_VISITS}
use Rattle.arena_rule.specs.Views.{SeatView, spent_view, unseen_view}
use Rattle.arena_rule.specs.Adds.{CountAdd, amount_at}
use Rattle.arena_rule.specs.Lookups.{is_known}
use Rattle.arena_rule.specs.Fits.{FitsStep, CanSplit, CanJoin}
use Rattle.arena_rule.specs.Afters.{word_of, answer_of, after, kept_part, given_part, joined}
use Rattle.arena_rule.specs.Rule.{Rule, words_after}
use Rattle.arena_rule.specs.Answers.{MayAnswer}
use Rattle.arena_rule.specs.Closed.{IsLast}
use Rattle.tree_words.specs.Blocks.{is_node}
use Rattle.tree_words.specs.Closing.{IsClosed}

-- a seat: its view, and the adds that it owes: its walks count them as made, the words have not
-- got them yet
pub record Debtor : Type 0 where
  pub view : SeatView
  pub owed : List CountAdd

abbrev pub view_of : Debtor → SeatView
view_of d = d.view

abbrev pub views_of : List Debtor → List SeatView
views_of seats = map view_of seats

-- a seat that owes nothing
abbrev pub debtless : SeatView → Debtor
debtless v = record { view = v; owed = [] }

-- what the seat owes to the word w
abbrev pub owed_to : ℕ → Debtor → ℕ
owed_to w d = amount_at w d.owed

-- what all seats owe to the word w
abbrev pub owed_in : ℕ → List Debtor → ℕ
owed_in w seats = sum_by (owed_to w) seats

-- the word is the seen word of a known node other than the root
pub record IsSeenWord (v : SeatView) (w : ℕ) : Type 0 where
  pub node : ℕ
  pub known : is_known v node ≡ true
  pub below : node ≢ root_at v.shape
  pub word : w ≡ node + SEEN_WORD

-- one worker's part of the visits that all workers may owe to a word
abbrev pub owed_part : Setting → ℕ
owed_part s = MOST_OWED_VISITS * VISIT / s.knobs.workers

-- a seat owes to seen words alone, to each at most a worker's part and one visit with a win more,
-- and nothing if its view has a copy of all words
pub record OwesRightly (d : Debtor) : Type 0 where
  pub seen : (a : CountAdd) → Contains d.owed a → IsSeenWord d.view a.word
  pub few : (w : ℕ) → owed_to w d ≤ owed_part d.view.shape + amount_of true
  pub alone : (copy : List ℕ) → d.view.whole ≡ Some copy → d.owed ≡ []

-- The arena rule with debts: there are the settled words, which have at each word what the words
-- have there and what all seats owe to it. Of them the arena rule holds. A word to which something
-- is owed has no more wins than visits.
pub record OwingRule (s : Setting) (words : List ℕ) (seats : List Debtor) : Type 0 where
  pub settled : List ℕ
  pub rule : Rule s settled (views_of seats)
  pub long : length settled ≡ length words
  pub sums : (i : ℕ) → slice_index settled i ≡ slice_index words i + owed_in i seats
  pub owed : (j : ℕ) (d : Debtor) → get_elem? seats j ≡ some d → OwesRightly d
  pub wins : (i : ℕ) → 0 < owed_in i seats
      → wins_in (slice_index words i) ≤ visits_in (slice_index words i)

-- the seat with this number is d, which is not spent
pub record IsDebtor (seats : List Debtor) (id : ℕ) (d : Debtor) : Type 0 where
  pub at : get_elem? seats id ≡ some d
  pub live : 0 < d.view.width

-- after a step of the seat: it owes what it owed
abbrev pub stepped_seat : Debtor → Op → ℕ → Debtor
stepped_seat d op x = record d { view = after d.view op x }

-- what the step finds in the words
abbrev pub found_in : List ℕ → Op → ℕ
found_in words op = answer_of op (slice_index words (word_of op))

abbrev pub seats_after : List ℕ → List Debtor → ℕ → Debtor → Op → List Debtor
seats_after words seats id d op = slice_set seats id (stepped_seat d op (found_in words op))

-- Owe: the seat may make this add, which is one to the seen word of a known node, owes no more than
-- a worker's part to that word, and has no copy of the words
pub record CanOwe (d : Debtor) (a : CountAdd) : Type 0 where
  pub fits : FitsStep d.view (Add a.word a.won)
  pub seen : IsSeenWord d.view a.word
  pub few : owed_to a.word d ≤ owed_part d.view.shape
  pub alone : d.view.whole ≡ None

-- afterwards its view is the one after the add, and it owes the add
abbrev pub owing_more : Debtor → CountAdd → Debtor
owing_more d a = record { view = after d.view (Add a.word a.won) 0; owed = a ∷ d.owed }

-- Give: n is what the seat owes to the word i, and not 0
pub record CanGive (d : Debtor) (i n : ℕ) : Type 0 where
  pub owes : n ≡ owed_to i d
  pub some : 0 < n

-- afterwards it owes nothing to the word
abbrev pub debts_but : ℕ → List CountAdd → List CountAdd
debts_but i owed = filter (λ a. not (a.word == i)) owed

abbrev pub owing_less : Debtor → ℕ → Debtor
owing_less d i = record d { owed = debts_but i d.owed }

-- the words after a Give of n to the word i
abbrev pub words_given : List ℕ → ℕ → ℕ → List ℕ
words_given words i n = slice_set words i (slice_index words i + n)

-- a split and a join of seats that owe nothing
abbrev pub seats_split : List Debtor → ℕ → SeatView → ℕ → List Debtor
seats_split seats id v part =
    slice_set seats id (debtless (kept_part v part)) ++ debtless (given_part v part) ∷ []

abbrev pub seats_joined : List Debtor → ℕ → SeatView → ℕ → SeatView → List Debtor
seats_joined seats id v other w =
    slice_set (slice_set seats id (debtless (joined v w))) other (debtless (spent_view v.shape))

-- the words, and the seats with what they owe
pub record OwingArena : Type 0 where
  pub words : List ℕ
  pub seats : List Debtor

-- the arena rule with debts holds of the arena
abbrev pub OwingHolds : Setting → OwingArena → Type 0
OwingHolds s a = OwingRule s a.words a.seats

-- after a step of the seat d, after it owed an add, and after it gave n to the word i
abbrev pub owing_after : OwingArena → ℕ → Debtor → Op → OwingArena
owing_after a id d op =
    record { words = words_after a.words op; seats = seats_after a.words a.seats id d op }

abbrev pub owing_owed : OwingArena → ℕ → Debtor → CountAdd → OwingArena
owing_owed a id d add =
    record { words = a.words; seats = slice_set a.seats id (owing_more d add) }

abbrev pub owing_given : OwingArena → ℕ → Debtor → ℕ → ℕ → OwingArena
owing_given a id d i n =
    record { words = words_given a.words i n; seats = slice_set a.seats id (owing_less d i) }

-- the law of debts: each step that fits, an add that is owed, a debt that is given, and a split and
-- a join of seats that owe nothing keep the rule
abbrev pub OwingStepsKeep : Setting → OwingArena → Type 0
OwingStepsKeep s a = (id : ℕ) (d : Debtor) (op : Op) → IsDebtor a.seats id d
    → FitsStep d.view op → OwingHolds s (owing_after a id d op)

abbrev pub OwesKeep : Setting → OwingArena → Type 0
OwesKeep s a = (id : ℕ) (d : Debtor) (add : CountAdd) → IsDebtor a.seats id d → CanOwe d add
    → OwingHolds s (owing_owed a id d add)

abbrev pub GivesKeep : Setting → OwingArena → Type 0
GivesKeep s a = (id : ℕ) (d : Debtor) (i n : ℕ) → IsDebtor a.seats id d → CanGive d i n
    → OwingHolds s (owing_given a id d i n)

abbrev pub OwingSplitsKeep : Setting → OwingArena → Type 0
OwingSplitsKeep s a = (id part : ℕ) (v : SeatView) → IsDebtor a.seats id (debtless v)
    → CanSplit v part
    → OwingHolds s (record { words = a.words; seats = seats_split a.seats id v part })

abbrev pub OwingJoinsKeep : Setting → OwingArena → Type 0
OwingJoinsKeep s a = (id other : ℕ) (v w : SeatView) → IsDebtor a.seats id (debtless v)
    → IsDebtor a.seats other (debtless w) → other ≢ id → CanJoin v w
    → OwingHolds s (record { words = a.words; seats = seats_joined a.seats id v other w })

-- and the answer of a step is one that it may give
abbrev pub OwingStepsMayAnswer : OwingArena → Type 0
OwingStepsMayAnswer a = (id : ℕ) (d : Debtor) (op : Op) → IsDebtor a.seats id d
    → FitsStep d.view op → MayAnswer d.view op (found_in a.words op)

-- only the seen word of a node differs from the settled one
abbrev pub OwesAtSeenWords : (s : Setting) (a : OwingArena) → OwingHolds s a → Type 0
OwesAtSeenWords s a rule = (i : ℕ) → 0 < owed_in i a.seats
    → (x : ℕ) × (is_node (root_at s) rule.rule.blocks x ≡ true) × (x ≢ root_at s)
    × (i ≡ x + SEEN_WORD)

-- how far a word lags behind its settled one: by MOST_OWED_VISITS visits in all, and by one visit
-- with a win for each worker
abbrev pub LagsLittle : Setting → OwingArena → Type 0
LagsLittle s a = (i : ℕ)
    → owed_in i a.seats ≤ MOST_OWED_VISITS * VISIT + s.knobs.workers * amount_of true

-- if one seat is left, whose workers have ended, and it owes nothing, the tree is closed
abbrev pub OwingEndsClosed : Setting → OwingArena → Type 0
OwingEndsClosed s a = (id : ℕ) (v : SeatView) → IsLast s (views_of a.seats) id v
    → IsDebtor a.seats id (debtless v) → IsClosed s a.words

-- what is seen of the Rust type, of which no value is made
unfoldable pub unseen_debtor : Debtor
unseen_debtor = debtless unseen_view
