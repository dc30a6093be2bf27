-- What a talk keeps, and that more at the end of what is left changes nothing of it where it is not
-- short.
use Rattle.std.proofs.Common.{◌≡◌, ◌≢◌, ℕ, Bool, true, false, cond, List, [], ◌∷◌, Option, Some, None}
use Rattle.std.proofs.Common.{Result, Ok, Err, fold, refl, ap, ◌∙◌}
use Rattle.std.proofs.lemmas.List.Folds.{fold_stays}
use Rattle.htp_line.specs.Reading.{reading}
use Rattle.htp_line.specs.declared.request.Parsed.{Parsed}
use Rattle.htp_line.specs.declared.request.Parsed.TheVariants.{Blank, Bare, Request}
use Rattle.htp_line.specs.Splitting.{kept_line}
use Rattle.hex_engine.specs.EngineState.{EngineState}
use Rattle.hex_engine.specs.Supply.{Supply, and_then}
use Rattle.hex_engine.specs.Replies.{Turned, Missing}
use Rattle.hex_engine.specs.Requests.{reaction}
use Rattle.htp_session.specs.Talk.{TalkState, Ending, Short, ending_if, goes_on, after_reaction}
use Rattle.htp_session.specs.Talk.{after_reading}
use Rattle.htp_session.specs.Talk.{after_line, followed_by, with_line, talk_start, talk}
use Rattle.htp_session.specs.Laws.{IsAnswered}
use Rattle.htp_session.specs.Supply.{with_more_left}
use Rattle.htp_session.proofs.TalkLaws.{step-stays}
use Rattle.htp_session.proofs.TakenTurns.{KeepsOptions, reaction_keeps}
use Rattle.htp_session.proofs.MoreLeft.{HasAll, leaving_more, reaction_more}

-- ---- a talk keeps its options

turned_keeps : (at : EngineState) (left : Supply) (id : Option ℕ) (r : Result Turned Missing)
    → KeepsOptions at r → (after_reaction at left id r).at.options ≡ at.options
turned_keeps at left id (Ok t) keeps = keeps
turned_keeps at left id (Err missing) keeps = refl

reading_keeps : (at : EngineState) (left : Supply) (line : Parsed)
    → (after_reading at left line).at.options ≡ at.options
reading_keeps at left Blank = refl
reading_keeps at left (Bare id) = refl
reading_keeps at left (Request asked) = turned_keeps at left asked.id (reaction at left asked)
    (reaction_keeps at left asked)

said_keeps : (at : EngineState) (left : Supply) (line : Option (List ℕ))
    → (after_line at left line).at.options ≡ at.options
said_keeps at left None = refl
said_keeps at left (Some raw) = reading_keeps at left (reading raw)

step_keeps_if : (b : Bool) (a : TalkState) (line : Option (List ℕ))
    → (cond b (followed_by a (after_line a.at a.left line)) a).at.options ≡ a.at.options
step_keeps_if true a line = said_keeps a.at a.left line
step_keeps_if false a line = refl

pub step_keeps : (a : TalkState) (raw : List ℕ) → (with_line a raw).at.options ≡ a.at.options
unfolding with_line
step_keeps a raw = step_keeps_if (goes_on a.ending) a (kept_line raw)

fold_keeps : (a : TalkState) (lines : List (List ℕ))
    → (fold with_line a lines).at.options ≡ a.at.options
fold_keeps a [] = refl
fold_keeps a (raw ∷ lines) = fold_keeps (with_line a raw) lines ∙ step_keeps a raw

-- what a talk stands at has the options of its start
pub talk_options : (start : EngineState) (left : Supply) (lines : List (List ℕ))
    → (talk start left lines).at.options ≡ start.options
talk_options start left lines = fold_keeps (talk_start start left) lines

-- a talk that goes on, or ended with an answered quit, was not short
pub answered_if : (quit : Bool) (e : Ending) → e ≡ ending_if quit → (missing : Missing)
    → e ≢ Short missing
answered_if true e p = λ missing q. cc
answered_if false e p = λ missing q. cc

-- ---- more at the end of what is left

turned_more : (at : EngineState) (left more : Supply) (id : Option ℕ)
    (now later : Result Turned Missing) → (HasAll now → later ≡ leaving_more more now)
    → IsAnswered (after_reaction at left id now)
    → after_reaction at (and_then left more) id later ≡ with_more_left
    (after_reaction at left id now) more
turned_more at left more id (Err missing) later same answered = absurd (answered missing refl)
turned_more at left more id (Ok t) later same answered = rw (same tt) refl

reading_more : (at : EngineState) (left more : Supply) (line : Parsed)
    → IsAnswered (after_reading at left line)
    → after_reading at (and_then left more) line ≡ with_more_left (after_reading at left line) more
reading_more at left more Blank answered = refl
reading_more at left more (Bare id) answered = refl
reading_more at left more (Request asked) answered
    = turned_more at left more asked.id (reaction at left asked)
    (reaction at (and_then left more) asked) (reaction_more at left more asked) answered

said_more : (at : EngineState) (left more : Supply) (line : Option (List ℕ))
    → IsAnswered (after_line at left line)
    → after_line at (and_then left more) line ≡ with_more_left (after_line at left line) more
said_more at left more None answered = refl
said_more at left more (Some raw) answered = reading_more at left more (reading raw) answered

step_if : (b : Bool) (a : TalkState) (more : Supply) (line : Option (List ℕ))
    → IsAnswered (cond b (followed_by a (after_line a.at a.left line)) a)
    → cond b (followed_by (with_more_left a more) (after_line a.at (and_then a.left more) line))
    (with_more_left a more) ≡ with_more_left
    (cond b (followed_by a (after_line a.at a.left line)) a) more
step_if true a more line answered
    = ap (followed_by (with_more_left a more)) (said_more a.at a.left more line answered)
step_if false a more line answered = refl

step_more : (a : TalkState) (more : Supply) (raw : List ℕ) → IsAnswered (with_line a raw)
    → with_line (with_more_left a more) raw ≡ with_more_left (with_line a raw) more
unfolding with_line
step_more a more raw answered = step_if (goes_on a.ending) a more (kept_line raw) answered

-- a talk that was short stays so
pub fold_short : (a : TalkState) (lines : List (List ℕ)) (missing : Missing)
    → a.ending ≡ Short missing → (fold with_line a lines).ending ≡ Short missing
fold_short a lines missing e
    = ap (λ (s : TalkState). s.ending)
    (fold_stays with_line a (λ raw. step-stays a raw (ap goes_on e)) lines) ∙ e

fold_more : (a : TalkState) (more : Supply) (lines : List (List ℕ))
    → IsAnswered (fold with_line a lines)
    → fold with_line (with_more_left a more) lines ≡ with_more_left (fold with_line a lines) more
fold_more a more [] answered = refl
fold_more a more (raw ∷ lines) answered =
    ap (λ s. fold with_line s lines)
    (step_more a more raw (λ missing e. answered missing (fold_short (with_line a raw) lines missing e))) ∙ fold_more (with_line a raw) more lines answered

pub talk_more_left : (start : EngineState) (left more : Supply) (lines : List (List ℕ))
    → IsAnswered (talk start left lines) → talk start (and_then left more) lines ≡ with_more_left
    (talk start left lines) more
talk_more_left start left more lines answered
    = fold_more (talk_start start left) more lines answered
