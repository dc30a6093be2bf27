-- What stands after a step: the word that it changes, and the view.
use Rattle.std.specs.Prelude.{ℕ, ◌+◌, ◌-◌, ◌==◌, ◌&&◌, ◌||◌, not, nat_lt, nat_le, if◌then◌else◌}
use Rattle.std.specs.Prelude.{Bool, true, List, [], ◌∷◌, ◌++◌, slice_set, Option, Some, None}
use Rattle.std.specs.Prelude.{option_map}
use Rattle.tree_words.specs.Words.{end_of}
use Rattle.tree_words.specs.Blocks.{LinkedBlock}
use Rattle.tree_words.specs.Sequence.{amount_of}
use Rattle.tree_words.specs.declared.layout.TheConstants.{NEXT_AT, TICKET_AT, RECORDS_AT, LINK_WORD}
use Rattle.tree_words.specs.declared.layout.TheConstants.{TALLY_WORD, SEEN_WORD}
use Rattle.tree_words.specs.declared.steps.Op.{Op}
use Rattle.tree_words.specs.declared.steps.Op.TheVariants.{Draw, Look, Claim, Write, Publish, Add}
use Rattle.tree_words.specs.declared.steps.Op.TheVariants.{Note, Done}
use Rattle.arena_rule.specs.Views.{SeatView, HeldBlock, Flight, WordLoad, new_view}
use Rattle.arena_rule.specs.Lookups.{is_known, known_link, told_below}

-- the word of a step
abbrev pub word_of : Op → ℕ
word_of Draw = TICKET_AT
word_of (Look i) = i
word_of (Claim words) = NEXT_AT
word_of (Write i value) = i
word_of (Publish l b) = l
word_of (Add i won) = i
word_of (Note k value) = RECORDS_AT + k
word_of Done = NEXT_AT

-- the word's new value, if x was found
abbrev pub put : Op → ℕ → ℕ
put Draw x = x + 1
put (Look i) x = x
put (Claim words) x = x + words
put (Write i value) x = value
put (Publish l b) x = if x == 0 then b else x
put (Add i won) x = x + amount_of won
put (Note k value) x = value
put Done x = x

-- what a step answers if x was found: a Write and a Note answer 0
abbrev pub answer_of : Op → ℕ → ℕ
answer_of Draw x = x
answer_of (Look i) x = x
answer_of (Claim words) x = x
answer_of (Write i value) x = 0
answer_of (Publish l b) x = x
answer_of (Add i won) x = x
answer_of (Note k value) x = 0
answer_of Done x = x

-- after a Draw of x: a number below N is in hand, any other ends the worker
unfoldable pub drew : SeatView → ℕ → SeatView
drew v x =
    if nat_lt x v.shape.knobs.playouts then record v { ticket = Some x }
    else record v { ended = 1 }

-- the known blocks after the link of the node x was found to be b: if it is a known node without
-- a known block and b is not 0, the told block is known too
unfoldable pub known_after : SeatView → ℕ → ℕ → List LinkedBlock
known_after v x b =
    if is_known v x && (known_link v x == 0 && not (b == 0)) then told_below v x b ∷ v.known
    else v.known

-- the word i is the tally or the seen word of a known node; no node begins at 0
abbrev pub is_count : SeatView → ℕ → Bool
is_count v i = is_known v (i - TALLY_WORD) || is_known v (i - SEEN_WORD)

-- the loads after the word i was found to be x: those of tallies and seen words of known nodes are
-- kept
unfoldable pub loads_after : SeatView → ℕ → ℕ → List WordLoad
loads_after v i x = if is_count v i then record { word = i; value = x } ∷ v.loads else v.loads

-- the node whose link is the word i
abbrev pub node_of_link : ℕ → ℕ
node_of_link i = i - LINK_WORD

-- after a Look at the word i that found x
unfoldable pub looked : SeatView → ℕ → ℕ → SeatView
looked v i x = record v { known = known_after v (node_of_link i) x; loads = loads_after v i x }

-- after a Claim of so many words that found x: inside the area the block is held, with nothing
-- written; else the view is full
unfoldable pub claimed_at : SeatView → ℕ → ℕ → SeatView
claimed_at v words x =
    if nat_le (x + words) (end_of v.shape)
    then record v {
      held = Some (record { start = x; size = words; written = [] });
      claimed = v.claimed + words;
    }
    else record v { full = true }

-- the held block with one word more
abbrev pub written_more : ℕ → HeldBlock → HeldBlock
written_more value h = record h { written = h.written ++ value ∷ [] }

-- after a Write
unfoldable pub wrote : SeatView → ℕ → SeatView
wrote v value = record v { held = option_map (written_more value) v.held }

-- after a Publish of b at the link l that found x: if this was 0 the held block is known, else
-- the one that the link names; in both cases nothing is held
unfoldable pub published : SeatView → ℕ → ℕ → ℕ → SeatView
published v l b x =
    record v { known = known_after v (node_of_link l) (if x == 0 then b else x); held = None }

-- the walk in flight after one more add, which is the leaf's tally if it is the first
abbrev pub flight_after : ℕ → Option Flight → Flight
flight_after i None = record { leaf = i - TALLY_WORD; made = 1 }
flight_after i (Some f) = record { leaf = f.leaf; made = f.made + 1 }

-- after an Add at the word i
unfoldable pub added_at : SeatView → ℕ → SeatView
added_at v i = record v { adds = Some (flight_after i v.adds) }

-- after a Note: the walk is recorded, and no number, no adds and no loads are left
unfoldable pub noted : SeatView → ℕ → ℕ → SeatView
noted v k value = record v {
  ticket = None;
  adds = None;
  walks = record { number = k; value = value } ∷ v.walks;
  loads = [];
}

-- the view after a step but for its copy of the words
abbrev pub changed : SeatView → Op → ℕ → SeatView
changed v Draw x = drew v x
changed v (Look i) x = looked v i x
changed v (Claim words) x = claimed_at v words x
changed v (Write i value) x = wrote v value
changed v (Publish l b) x = published v l b x
changed v (Add i won) x = added_at v i
changed v (Note k value) x = noted v k value
changed v Done x = v

-- the copy of all words, if any, gets the new value
unfoldable pub with_word : ℕ → ℕ → SeatView → SeatView
with_word i n v = record v { whole = option_map (λ words. slice_set words i n) v.whole }

-- the view after a step that was answered x
abbrev pub after : SeatView → Op → ℕ → SeatView
after v op x = with_word (word_of op) (put op x) (changed v op x)

-- a split: what the splitting seat keeps, and the new seat's view
unfoldable pub kept_part : SeatView → ℕ → SeatView
kept_part v part = record v { width = v.width - part; whole = None }

abbrev pub given_part : SeatView → ℕ → SeatView
given_part v part = new_view v.shape part v.known

-- a join: widths, ended workers and claimed words add up, known blocks and walks are those of both,
-- and it is full if one was
unfoldable pub joined : SeatView → SeatView → SeatView
joined v other = record (new_view v.shape (v.width + other.width) (v.known ++ other.known)) {
  ended = v.ended + other.ended;
  walks = v.walks ++ other.walks;
  full = v.full || other.full;
  claimed = v.claimed + other.claimed;
}
