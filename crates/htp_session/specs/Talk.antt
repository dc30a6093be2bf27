-- The bytes that answer a list of raw lines.
use Rattle.std.specs.Prelude.{◌≡◌, ◌≢◌, ℕ, Bool, true, false, List, [], ◌++◌, Option, Some, None}
use Rattle.std.specs.Prelude.{Result, Ok, Err, codes, fold, if◌then◌else◌}
use Rattle.htp_line.specs.Lines.{whole}
use Rattle.htp_line.specs.Reading.{reading}
use Rattle.htp_line.specs.declared.request.Parsed.{Parsed}
use Rattle.htp_line.specs.declared.request.Parsed.TheVariants.{Blank, Bare, Request}
use Rattle.htp_line.specs.Splitting.{kept_line}
use Rattle.htp_line.specs.Answering.{success, failure}
use Rattle.hex_engine.specs.EngineState.{EngineState}
use Rattle.hex_engine.specs.Supply.{Supply, nothing_left}
use Rattle.hex_engine.specs.Replies.{Reply, Done, Quit, Failed, Turned, Missing, message}
use Rattle.hex_engine.specs.Requests.{reaction}

-- whether a talk goes on, or how it ended
pub data Ending : Type 0 where
  Going : Ending
  -- quit was answered
  AfterQuit : Ending
  -- a request wants a file or a turn that is not there
  Short : Missing → Ending

-- what was said, what the conversation stands at then, and what is left to be used up
pub record TalkState : Type 0 where
  pub text : List ℕ
  pub at : EngineState
  pub left : Supply
  pub ending : Ending

-- the bytes of a reply to a request with this id
abbrev pub reply_text : Option ℕ → Reply → List ℕ
reply_text id (Done text) = success id text
reply_text id Quit = success id []
reply_text id (Failed fail) = failure id (message fail)

-- the talk ends after an answered quit
abbrev pub ending_if : Bool → Ending
ending_if true = AfterQuit
ending_if false = Going

-- whether the reply is that to `quit`
abbrev pub is_quit : Reply → Bool
is_quit Quit = true
is_quit _ = false

-- what is said to a request
abbrev pub after_reaction : EngineState → Supply → Option ℕ → Result Turned Missing → TalkState
after_reaction at left id
    (Err missing) = record { text = []; at = at; left = left; ending = Short missing }
after_reaction at left id
    (Ok t) = record {
      text = reply_text id t.reply;
      at = t.after;
      left = t.left;
      ending = ending_if
          (is_quit t.reply);
    }

-- what is said to a line: nothing to a blank one, and a refusal to an id that stands alone
abbrev pub after_reading : EngineState → Supply → Parsed → TalkState
after_reading at left Blank = record { text = []; at = at; left = left; ending = Going }
after_reading at left
    (Bare id) =
    record { text = failure (Some id) (codes "syntax error"); at = at; left = left; ending = Going }
after_reading at left (Request request) =
    after_reaction at left request.id (reaction at left request)

-- what is said to a line as far as it is kept, which is nothing if the line is too long
abbrev pub after_line : EngineState → Supply → Option (List ℕ) → TalkState
after_line at left None =
    record { text = failure None (codes "line too long"); at = at; left = left; ending = Going }
after_line at left (Some raw) = after_reading at left (reading raw)

-- what was said so far, and then this
abbrev pub followed_by : TalkState → TalkState → TalkState
followed_by so_far next =
    record { text = so_far.text ++ next.text; at = next.at; left = next.left; ending = next.ending }

-- whether a talk goes on
abbrev pub goes_on : Ending → Bool
goes_on Going = true
goes_on AfterQuit = false
goes_on (Short missing) = false

-- one more line: if the talk has ended it changes nothing
unfoldable pub with_line : TalkState → List ℕ → TalkState
with_line so_far raw = if goes_on so_far.ending then followed_by so_far
    (after_line so_far.at so_far.left (kept_line raw)) else so_far

-- before the first line nothing is said
abbrev pub talk_start : EngineState → Supply → TalkState
talk_start start left = record { text = []; at = start; left = left; ending = Going }

-- the talk over these lines, from where the conversation stands at its start and with this left to
-- be used up
abbrev pub talk : EngineState → Supply → List (List ℕ) → TalkState
talk start left lines = fold with_line (talk_start start left) lines

-- the talk over the whole lines of a text, with all this to use up
abbrev pub talk_to : EngineState → Supply → List ℕ → TalkState
talk_to start all seen = talk start all (whole seen)

-- each line was answered, up to an answered quit, so no request wanted what was not there, and all
-- was used up
pub record IsThrough (s : TalkState) : Type 0 where
  pub answered : (missing : Missing) → s.ending ≢ Short missing
  pub used : s.left ≡ nothing_left
