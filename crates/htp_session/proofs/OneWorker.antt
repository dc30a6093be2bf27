-- With one worker a talk is determined: any good turns with which it is answered give the same
-- talk.
use Rattle.std.proofs.Common.{◌≡◌, ℕ, Bool, true, false, cond, List, [], ◌∷◌, Option, Some, None}
use Rattle.std.proofs.Common.{Result, Ok, Err, fold, refl, sym, ap, ◌∙◌, subst}
use Rattle.hex_io.specs.declared.files.File.{File}
use Rattle.htp_line.specs.Reading.{reading}
use Rattle.htp_line.specs.declared.request.Parsed.{Parsed}
use Rattle.htp_line.specs.declared.request.Parsed.TheVariants.{Blank, Bare, Request}
use Rattle.htp_line.specs.Splitting.{kept_line}
use Rattle.hex_engine.specs.declared.options.Options.{Options}
use Rattle.hex_engine.specs.Supply.{Supply}
use Rattle.hex_engine.specs.EngineState.{EngineState}
use Rattle.hex_engine.specs.Uses.{AreGood, CameOf, HasOneWorker}
use Rattle.hex_engine.specs.Replies.{Turned, Missing}
use Rattle.hex_engine.specs.Requests.{reaction}
use Rattle.htp_session.specs.Talk.{TalkState, IsThrough, goes_on, after_reaction, after_reading}
use Rattle.htp_session.specs.Talk.{after_line, followed_by, with_line, talk_start, talk}
use Rattle.htp_session.specs.Laws.{IsAnswered, SaySame}
use Rattle.htp_session.proofs.OneWorkerLoads.{told_loads}
use Rattle.htp_session.proofs.OneWorkerMoves.{Alike, Agree, reactions_agree}
use Rattle.htp_session.proofs.TalkLaws.{step-stays}

-- the same is said, and the same stands then, but for what is left
record SaysSame (options : Options) (a b : TalkState) : Type 0 where
  is : b ≡ record a { left = b.left }
  left : Alike options a.left b.left

turned_same : (options : Options) (at : EngineState) (a b : Supply) (id : Option ℕ)
    (r s : Result Turned Missing) → Agree options r s → IsAnswered (after_reaction at a id r)
    → IsAnswered (after_reaction at b id s)
    → SaysSame options (after_reaction at a id r) (after_reaction at b id s)
turned_same options at a b id (Err missing) s h p q = absurd (p missing refl)
turned_same options at a b id (Ok t) (Err missing) h p q = absurd (q missing refl)
turned_same options at a b id (Ok t) (Ok u) h p q
    = record { is = ap (λ (v : Turned). after_reaction at b id (Ok v)) h.0; left = h.1 }

reading_same : (options : Options) (at : EngineState) (a b : Supply) (line : Parsed)
    → HasOneWorker options → Alike options a b → IsAnswered (after_reading at a line)
    → IsAnswered (after_reading at b line)
    → SaysSame options (after_reading at a line) (after_reading at b line)
reading_same options at a b Blank one h p q = record { is = refl; left = h }
reading_same options at a b (Bare id) one h p q = record { is = refl; left = h }
reading_same options at a b (Request asked) one h p q
    = turned_same options at a b asked.id (reaction at a asked) (reaction at b asked)
    (reactions_agree options at a b asked one h) p q

said_same : (options : Options) (at : EngineState) (a b : Supply) (line : Option (List ℕ))
    → HasOneWorker options → Alike options a b → IsAnswered (after_line at a line)
    → IsAnswered (after_line at b line)
    → SaysSame options (after_line at a line) (after_line at b line)
said_same options at a b None one h p q = record { is = refl; left = h }
said_same options at a b (Some raw) one h p q = reading_same options at a b (reading raw) one h p q

-- the same, with this left
abbrev with_left : TalkState → Supply → TalkState
with_left s left = record s { left = left }

step_same : (options : Options) (s : TalkState) (b : Supply) (raw : List ℕ) → HasOneWorker options
    → Alike options s.left b → IsAnswered (with_line s raw)
    → IsAnswered (with_line (with_left s b) raw)
    → SaysSame options (with_line s raw) (with_line (with_left s b) raw)
unfolding with_line
step_same options s b raw one h = by (goes_on s.ending) (kept_line raw)
  where
    by : (x : Bool) (line : Option (List ℕ))
        → IsAnswered (cond x (followed_by s (after_line s.at s.left line)) s)
        → IsAnswered (cond x (followed_by (with_left s b) (after_line s.at b line)) (with_left s b))
        → SaysSame options (cond x (followed_by s (after_line s.at s.left line)) s)
        (cond x (followed_by (with_left s b) (after_line s.at b line)) (with_left s b))
    by true line p q =
        let same = said_same options s.at s.left b line one h p q in
        record { is = ap (followed_by (with_left s b)) same.is; left = same.left }
    by false line p q = record { is = refl; left = h }

-- a talk that was answered was answered before each of its lines
answered_before : (s : TalkState) (lines : List (List ℕ)) → IsAnswered (fold with_line s lines)
    → IsAnswered s
answered_before s [] p = p
answered_before s (raw ∷ lines) p = λ missing e. answered_before (with_line s raw) lines p missing
    (ap (λ (z : TalkState). z.ending) (step-stays s raw (ap goes_on e)) ∙ e)

lines_same : (options : Options) (s : TalkState) (b : Supply) (lines : List (List ℕ))
    → HasOneWorker options → Alike options s.left b → IsAnswered (fold with_line s lines)
    → IsAnswered (fold with_line (with_left s b) lines)
    → SaysSame options (fold with_line s lines) (fold with_line (with_left s b) lines)
lines_same options s b [] one h p q = record { is = refl; left = h }
lines_same options s b (raw ∷ lines) one h p q =
    let next : TalkState = with_line (with_left s b) raw in
    let same : SaysSame options (with_line s raw) next
    = step_same options s b raw one h (answered_before (with_line s raw) lines p)
    (answered_before next lines q) in
    subst (λ (z : TalkState). SaysSame options (fold with_line (with_line s raw) lines) (fold with_line z lines)) (sym same.is)
    (lines_same options (with_line s raw) next.left lines one same.left p (subst (λ (z : TalkState). IsAnswered (fold with_line z lines)) same.is q))

-- with one worker two answered talks are the same but for what is left
pub answered_same : (start : EngineState) (one other : Supply) (lines : List (List ℕ))
    → HasOneWorker start.options → Alike start.options one other
    → IsAnswered (talk start one lines) → IsAnswered (talk start other lines)
    → SaySame (talk start one lines) (talk start other lines)
answered_same start one other lines worker alike p q =
    let same = lines_same start.options (talk_start start one) other lines worker alike p q in
    (sym (ap (λ (s : TalkState). s.text) same.is), sym (ap (λ (s : TalkState). s.at) same.is))

-- with one worker two talks that are through are the same
pub through_same : (start : EngineState) (one other : Supply) (lines : List (List ℕ))
    → HasOneWorker start.options → Alike start.options one other
    → IsThrough (talk start one lines) → IsThrough (talk start other lines)
    → talk start one lines ≡ talk start other lines
through_same start one other lines worker alike p q =
    let same = lines_same start.options (talk_start start one) other lines worker alike p.answered q.answered in
    sym (same.is ∙ ap (with_left (talk start one lines)) (q.used ∙ sym p.used))

-- the same, where the loads of both came of the same files and faults
pub through_told : (start : EngineState) → HasOneWorker start.options → (files : List File)
    → (tries : List Bool) → (one other : Supply) → CameOf files tries one.loads
    → CameOf files tries other.loads
    → AreGood start.options one.turns → AreGood start.options other.turns → (lines : List (List ℕ))
    → IsThrough (talk start one lines) → IsThrough (talk start other lines)
    → talk start one lines ≡ talk start other lines
through_told start worker files tries one other c d good fine lines
    = through_same start one other lines worker
    (record { loads = told_loads files tries one.loads other.loads c d; good = good; other = fine })
