-- Each line that takes a turn is answered by a generated move.
use Rattle.std.proofs.Common.{◌≡◌, ◌≢◌, ℕ, zero, suc, Bool, true, false, cond, List, [], ◌∷◌, ◌++◌}
use Rattle.std.proofs.Common.{Option, Some, None, Result, Ok, Err, ◌⊎◌, ⊎_elim, inl, inr, fold}
use Rattle.std.proofs.Common.{drop, refl, sym, ap, ◌∙◌, subst, add-one}
use Rattle.std.specs.List.{AllByRecursion}
use Rattle.std.specs.Prelude.{slice_get}
use Rattle.std.proofs.lemmas.Bool.{and_parts, eqb-true}
use Rattle.std.proofs.lemmas.List.Sums.{fold_push}
use Rattle.hex_io.specs.Told.{Told, Both}
use Rattle.hex_io.specs.declared.limits.TheConstants.{INPUT_LIMIT}
use Rattle.hex_io.proofs.BothLaws.{Both-weaker}
use Rattle.htp_line.specs.Answering.{success}
use Rattle.htp_line.specs.Lines.{lines}
use Rattle.htp_line.specs.Reading.{reading}
use Rattle.htp_line.specs.declared.request.Parsed.{Parsed}
use Rattle.htp_line.specs.declared.request.Parsed.TheVariants.{Blank, Bare, Request}
use Rattle.htp_line.specs.Splitting.{kept_line}
use Rattle.hex_cells.specs.declared.colours.Colour.{Colour}
use Rattle.hex_cells.specs.Vertices.{vertex_of}
use Rattle.hex_board.specs.Positions.{Position}
use Rattle.hex_game.specs.Games.{board_of, is_legal, with_step}
use Rattle.hex_game.specs.Moves.{step_of}
use Rattle.hex_game.specs.declared.moves.Move.TheVariants.{Stone}
use Rattle.hex_plan.specs.Good.{FollowsPlan, IsGood}
use Rattle.hex_plan.specs.Laws.{IsCertified}
use Rattle.hex_plan.specs.Plans.{IsWin}
use Rattle.hex_plan.specs.Turns.{TurnData}
use Rattle.hex_plan.specs.declared.types.Plan.{Plan}
use Rattle.hex_plan.specs.declared.types.Plan.TheVariants.{Win, Search}
use Rattle.hex_engine.specs.declared.options.Options.{Options}
use Rattle.hex_engine.specs.EngineState.{EngineState, opening}
use Rattle.hex_engine.specs.Supply.{Supply}
use Rattle.hex_engine.specs.Uses.{AreGood, Loading}
use Rattle.hex_engine.specs.MoveReplies.{is_next, turned}
use Rattle.hex_engine.specs.Replies.{Turned, Missing}
use Rattle.hex_engine.specs.Requests.{reaction}
use Rattle.htp_session.specs.Talk.{TalkState, goes_on, reply_text, after_reaction, after_reading}
use Rattle.htp_session.specs.Talk.{after_line, followed_by, with_line, talk_start, talk}
use Rattle.htp_session.specs.Endings.{Conversed, since}
use Rattle.hex_devices.specs.Devices.{DevicesState, shelf_and_archive}
use Rattle.hex_cli.specs.Headline.{IsGeneratedMove, AreGeneratedMoves, WinsOrIsBest}
use Rattle.hex_cli.specs.Playing.{HasTrueThreats, IsDoneSession}
use Rattle.hex_plan.proofs.CertifiedMoves.{is_certified, lost_loses, outside_loses}
use Rattle.hex_cells.proofs.ColourLaws.{same_colour}
use Rattle.hex_engine.proofs.Legal.{next_board, next_is_legal}
use Rattle.htp_session.proofs.TakenTurns.{TakesTurn, MayTakeTurn, reaction_takes}
use Rattle.htp_session.proofs.SupplyLaws.{step_keeps}

-- ---- a line

-- what was said to a line that took the next turn
record SaysTurn (at : EngineState) (left : Supply) (s : TalkState) : Type 0 where
  turn : TurnData
  colour : Colour
  was : left.turns ≡ turn ∷ s.left.turns
  next : is_next at colour turn ≡ true
  after : s.at ≡ (turned at colour turn).after
  written : (id : Option ℕ) × (s.text ≡ success id (vertex_of (board_of at.game).size turn.cell))

abbrev MaySayTurn : EngineState → Supply → TalkState → Type 0
MaySayTurn at left s = ((s.left.turns ≡ left.turns) × (s.at.turns ≡ at.turns)) ⊎ SaysTurn at left s

turned_says : (at : EngineState) (left : Supply) (id : Option ℕ) (r : Result Turned Missing)
    → MayTakeTurn at left r → MaySayTurn at left (after_reaction at left id r)
turned_says at left id (Err missing) h = inl (refl, refl)
turned_says at left id (Ok t) h = ⊎_elim
    (λ (same : (t.left.turns ≡ left.turns) × (t.after.turns ≡ at.turns)). inl same)
    (λ (took : TakesTurn at left t). inr (record {
      turn = took.turn;
      colour = took.colour;
      was = took.was;
      next = took.next;
      after = took.after;
      written = (id, ap (reply_text id) took.reply);
    })) h

reading_says : (at : EngineState) (left : Supply) (line : Parsed)
    → MaySayTurn at left (after_reading at left line)
reading_says at left Blank = inl (refl, refl)
reading_says at left (Bare id) = inl (refl, refl)
reading_says at left (Request asked) = turned_says at left asked.id (reaction at left asked)
    (reaction_takes at left asked)

said_says : (at : EngineState) (left : Supply) (line : Option (List ℕ))
    → MaySayTurn at left (after_line at left line)
said_says at left None = inl (refl, refl)
said_says at left (Some raw) = reading_says at left (reading raw)

-- ---- the turns that are left

-- what begins with x from place n on has x there, and goes on with what follows
dropped : (xs : List TurnData) (n : ℕ) (x : TurnData) (others : List TurnData)
    → drop n xs ≡ x ∷ others → (slice_get xs n ≡ Some x) × (drop (suc n) xs ≡ others)
dropped [] zero x others e = absurd (cc)
dropped [] (suc n) x others e = absurd (cc)
dropped (y ∷ ys) zero x others e = (cc, cc)
dropped (y ∷ ys) (suc n) x others e = dropped ys n x others e

-- the turns that are left are those after the turns that were taken, and they are good for the
-- options
record Holds (start : EngineState) (all : Supply) (s : TalkState) : Type 0 where
  good : AreGood start.options s.left.turns
  place : drop s.at.turns all.turns ≡ s.left.turns
  same : s.at.options ≡ start.options

-- one line more
record Goes (start : EngineState) (all : Supply) (before after : TalkState) : Type 0 where
  holds : Holds start all after
  generated : after.at.turns ≢ before.at.turns → IsGeneratedMove start all before after

stands_still : (start : EngineState) (all : Supply) (before after : TalkState)
    → Holds start all before → after.at.options ≡ before.at.options
    → after.left.turns ≡ before.left.turns → after.at.turns ≡ before.at.turns
    → Goes start all before after
stands_still start all before after h o l t = record {
  holds = record {
    good = subst (AreGood start.options) (sym l) h.good;
    place = ap (λ n. drop n all.turns) t ∙ h.place ∙ sym l;
    same = o ∙ h.same;
  };
  generated = λ moved. absurd (moved t);
}

-- a win's cell wins, and a search's is the best of its tree
chosen_by : (start : EngineState) (turn : TurnData) (plan : Plan) → turn.planned.plan ≡ plan
    → FollowsPlan start.options.knobs start.options.means turn plan → IsCertified turn
    → WinsOrIsBest start turn plan
chosen_by start turn (Win cert cell) is follows certified = certified (subst IsWin (sym is) tt)
chosen_by start turn (Search threats allowed lost) is follows certified = follows

-- the player and the number of the turn that is next
next_player : (at : EngineState) (colour : Colour) (turn : TurnData)
    → is_next at colour turn ≡ true → turn.player ≡ colour
next_player at colour turn next = same_colour turn.player colour
    (and_parts _ _ (and_parts _ _ next).1).0

next_number : (at : EngineState) (colour : Colour) (turn : TurnData)
    → is_next at colour turn ≡ true → turn.number ≡ at.turns
next_number at colour turn next = eqb-true turn.number at.turns
    (and_parts _ _ (and_parts _ _ next).1).1

takes_turn : (start : EngineState) (all : Supply) (before : TalkState) (s : TalkState)
    → Holds start all before → s.at.options ≡ before.at.options
    → SaysTurn before.at before.left s → Goes start all before (followed_by before s)
takes_turn start all before s h o took =
    let turn : TurnData = took.turn in
    let good : AreGood start.options (turn ∷ s.left.turns)
    = subst (AreGood start.options) took.was h.good in
    let at = dropped all.turns before.at.turns turn s.left.turns (h.place ∙ took.was) in
    let count : s.at.turns ≡ suc before.at.turns = ap (λ (e : EngineState). e.turns) took.after
    ∙ add-one before.at.turns in
    let board : turn.board ≡ board_of before.at.game
    = next_board before.at took.colour turn took.next in
    let player : turn.player ≡ took.colour = next_player before.at took.colour turn took.next in
    let number : turn.number ≡ before.at.turns
    = next_number before.at took.colour turn took.next in
    record {
      holds = record {
        good = good.1;
        place = ap (λ n. drop n all.turns) count ∙ at.1;
        same = o ∙ h.same;
      };
      generated = λ moved. record {
        turn = turn;
        legal = subst
            (λ (c : Colour). is_legal before.at.game (step_of c (Stone turn.cell)) ≡ true)
            (sym player)
            (next_is_legal before.at took.colour turn
            (subst (λ (p : Options). IsGood p.knobs p.means turn) (sym h.same) good.0) took.next);
        played = ap (λ (e : EngineState). e.game) took.after
            ∙ ap (λ (c : Colour). with_step before.at.game (step_of c (Stone turn.cell)))
            (sym player);
        written = (
          took.written.0,
          ap (λ l. before.text ++ l) (took.written.1 ∙ ap
              (λ (p : Position). success took.written.0 (vertex_of p.size turn.cell))
              (sym board)),
        );
        board = board;
        number = number;
        place = ap (λ n. slice_get all.turns n) number ∙ at.0;
        chosen = chosen_by start turn turn.planned.plan refl good.0.follows
            (is_certified start.options.knobs start.options.means turn good.0);
      };
    }

step_goes_if : (b : Bool) (start : EngineState) (all : Supply) (a : TalkState)
    (line : Option (List ℕ)) → Holds start all a
    → (cond b (followed_by a (after_line a.at a.left line)) a).at.options ≡ a.at.options
    → Goes start all a (cond b (followed_by a (after_line a.at a.left line)) a)
step_goes_if false start all a line h o = stands_still start all a a h refl refl refl
step_goes_if true start all a line h o = ⊎_elim
    (λ (same : ((after_line a.at a.left line).left.turns ≡ a.left.turns)
    × ((after_line a.at a.left line).at.turns ≡ a.at.turns)). stands_still start all a
    (followed_by a (after_line a.at a.left line)) h o same.0 same.1)
    (λ (took : SaysTurn a.at a.left (after_line a.at a.left line)). takes_turn start all a
    (after_line a.at a.left line) h o took)
    (said_says a.at a.left line)

step_goes : (start : EngineState) (all : Supply) (a : TalkState) (raw : List ℕ)
    → Holds start all a → (with_line a raw).at.options ≡ a.at.options
    → Goes start all a (with_line a raw)
unfolding with_line
step_goes start all a raw h o = step_goes_if (goes_on a.ending) start all a
    (kept_line raw) h o

-- ---- a talk

fold_holds : (start : EngineState) (all : Supply) (a : TalkState) (lines : List (List ℕ))
    → Holds start all a → Holds start all (fold with_line a lines)
fold_holds start all a [] h = h
fold_holds start all a (raw ∷ lines) h = fold_holds start all (with_line a raw) lines
    (step_goes start all a raw h (step_keeps a raw)).holds

are_generated : (start : EngineState) (all : Supply) (lines : List (List ℕ))
    → AreGood start.options all.turns → start.turns ≡ 0 → AreGeneratedMoves start all lines
are_generated start all lines good none before after others raw grown split moved =
    let first : Holds start all (talk_start start all)
    = record { good = good; place = ap (λ n. drop n all.turns) none; same = refl } in
    let here : TalkState = talk start all before in
    let holds : Holds start all here = fold_holds start all (talk_start start all) before first in
    let more : talk start all after ≡ with_line here raw = ap (λ (ls : List (List ℕ)). talk start all ls) grown
    ∙ fold_push with_line (talk_start start all) before raw in
    let goes = step_goes start all here raw holds (step_keeps here raw) in
    subst (IsGeneratedMove start all here) (sym more)
    (goes.generated (subst (λ (s : TalkState). s.at.turns ≢ here.at.turns) more moved))

-- the turns that a session used up tell true threats
pub threats_at : (options : Options) (turns : List TurnData) → AreGood options turns
    → AllByRecursion HasTrueThreats turns
threats_at options [] good = tt
threats_at options (turn ∷ turns) good = (
  record {
    outside = outside_loses options.knobs options.means turn good.0;
    where_lost = lost_loses options.knobs options.means turn good.0;
  },
  threats_at options turns good.1,
)

-- ---- a session that is done

pub moves_at : (options : Options) (size : ℕ) (used : Supply) (x y : Option Told)
    → Both x y (λ o n. Unit {0}) → AreGood options used.turns
    → Both x y (λ o n. AreGeneratedMoves (opening options size) used (lines (since o n)))
moves_at options size used x y told good
    = Both-weaker x y _ _ (λ o n t. are_generated (opening options size) used _ good refl) told

pub is_done : (options : Options) (size : ℕ) (used : Supply) (old new : DevicesState)
    → Conversed (Ok tt) options size INPUT_LIMIT used (shelf_and_archive old)
    (shelf_and_archive new) old.link new.link → IsDoneSession (opening options size) used old new
is_done options size used old new k = record {
  loaded = subst (λ l. Loading old.shelf new.shelf used l) k.vain k.fetched;
  archived = k.took;
  read = Both-weaker old.link new.link _ _ (λ o n p. p.course) k.outcome;
  said = Both-weaker old.link new.link _ _ (λ o n p. p.ends) k.outcome;
}
