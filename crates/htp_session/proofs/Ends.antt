-- What stands at each end of a conversation, by what it kept and what answered its lines.
use Rattle.std.proofs.Common.{Ok, Err, ◌≡◌, ℕ, ◌+◌, ◌≤◌, ◌⊎◌, Bool, List, [], ◌∷◌, ◌++◌, length, take}
use Rattle.std.proofs.Common.{refl, ap, sym, ◌∙◌, inl, inr, append-nil, length-append, arith}
use Rattle.std.proofs.Math.Seq.{take-append_seam}
use Rattle.hex_io.specs.Told.{Told}
use Rattle.htp_line.specs.Lines.{lines}
use Rattle.hex_engine.specs.EngineState.{EngineState}
use Rattle.hex_engine.specs.Supply.{Supply, nothing_left}
use Rattle.hex_engine.specs.Replies.{NoTurn}
use Rattle.htp_session.specs.Talk.{Going, AfterQuit, Short, ending_if, talk, talk_to}
use Rattle.htp_session.specs.Sessions.{TookAndGave, all_used}
use Rattle.htp_session.specs.Endings.{since, Ended}
use Rattle.hex_devices.specs.declared.stops.Stop.TheVariants as stop
use Rattle.htp_session.proofs.Keeping.{since_taken, taking_nothing, course_of}
use Rattle.htp_session.proofs.SupplyLaws.{answered_if}

-- all lines were answered, or quit was
pub ended_finished : (start : EngineState) (all : Supply) (limit : ℕ) (o n : Told)
    (taken text : List ℕ) (at : EngineState) (quit : Bool) → length taken ≤ limit
    → TookAndGave start all o n taken text
    → talk start all (lines taken) ≡ all_used text at (ending_if quit)
    → (n.to_come ≡ []) ⊎ (ending_if quit ≡ AfterQuit) → Ended (Ok tt) start all limit o n
ended_finished start all limit o n taken text at quit few kept is ended =
    let s = since_taken start all o n taken text kept in
    record {
      course = course_of start all o n taken text kept;
      ends = record {
        in_limit = rw s few;
        given = rw (s, is) kept.given;
        through = rw (s, is) (record { answered = answered_if quit (ending_if quit) refl; used = refl });
        ended = rw (s, is) ended;
      };
    }

-- a read failed
pub ended_unread : (start : EngineState) (all : Supply) (limit : ℕ) (o n : Told)
    (taken text : List ℕ) (at : EngineState) → length taken ≤ limit
    → TookAndGave start all o n taken text → talk_to start all taken ≡ all_used text at Going
    → Ended (Err stop.ReadFault) start all limit o n
ended_unread start all limit o n taken text at few kept is =
    let s = since_taken start all o n taken text kept in
    record {
      course = course_of start all o n taken text kept;
      ends = record {
        in_limit = rw s few;
        given = rw (s, is) kept.given;
        going = rw (s, is) refl;
        used = rw (s, is) refl;
      };
    }

-- one byte more than the limit was taken
pub ended_overlong : (start : EngineState) (all : Supply) (limit : ℕ) (o n : Told)
    (seen more text : List ℕ) (at : EngineState) → length seen ≡ limit → length more ≡ 1
    → TookAndGave start all o n (seen ++ more) text → talk_to start all seen ≡ all_used text at Going
    → Ended (Err stop.TooLong) start all limit o n
ended_overlong start all limit o n seen more text at full one kept is =
    let s = since_taken start all o n (seen ++ more) text kept in
    let front : take limit (since o n) ≡ seen = ap (take limit) s
    ∙ ap (λ k. take k (seen ++ more)) (sym full) ∙ take-append_seam seen more in
    record {
      course = course_of start all o n (seen ++ more) text kept;
      ends = record {
        many = let h = ap length s ∙ length-append seen more in omega (arith, h, full, one);
        given = rw (front, is) kept.given;
        going = rw (front, is) refl;
        used = rw (front, is) refl;
      };
    }

-- a turn is wanted
pub ended_unarchived : (start : EngineState) (all : Supply) (limit : ℕ) (o n : Told)
    (taken text : List ℕ) (at : EngineState) → length taken ≤ limit
    → TookAndGave start all o n taken text
    → talk start all (lines taken) ≡ all_used text at (Short NoTurn)
    → Ended (Err stop.ArchiveFault) start all limit o n
ended_unarchived start all limit o n taken text at few kept is =
    let s = since_taken start all o n taken text kept in
    record {
      course = course_of start all o n taken text kept;
      ends = record {
        in_limit = rw s few;
        given = rw (s, is) kept.given;
        wants = rw (s, is) refl;
        used = rw (s, is) refl;
      };
    }

-- a write failed within the text
pub ended_unwritten : (start : EngineState) (all : Supply) (limit : ℕ) (o n : Told)
    (taken part more : List ℕ) → length taken ≤ limit → TookAndGave start all o n taken part
    → (talk start all (lines taken)).text ≡ part ++ more
    → Ended (Err stop.WriteFault) start all limit o n
ended_unwritten start all limit o n taken part more few kept is =
    let s = since_taken start all o n taken part kept in
    record {
      course = course_of start all o n taken part kept;
      ends = record { in_limit = rw s few; given = (part, more, rw s is, kept.given) };
    }

-- memory ran out at the line after the first ones
pub ended_unfinished : (start : EngineState) (all : Supply) (limit : ℕ) (o n : Told)
    (taken text : List ℕ) (ls : List (List ℕ)) (raw : List ℕ) (others : List (List ℕ))
    (at : EngineState) → length taken ≤ limit → TookAndGave start all o n taken text
    → lines taken ≡ ls ++ raw ∷ others → talk start all ls ≡ all_used text at Going
    → Ended (Err stop.Memory) start all limit o n
ended_unfinished start all limit o n taken text ls raw others at few kept split is =
    let s = since_taken start all o n taken text kept in
    let w : lines (since o n) ≡ ls ++ raw ∷ others = ap lines s ∙ split in
    let front : take (length ls) (lines (since o n)) ≡ ls = ap (take (length ls)) w
    ∙ take-append_seam ls (raw ∷ others) in
    let many : length (lines (since o n)) ≡ length ls + length (raw ∷ others) = ap length w
    ∙ length-append ls (raw ∷ others) in
    record {
      course = course_of start all o n taken text kept;
      ends = record {
        in_limit = rw s few;
        before = length ls;
        given = rw (front, is) kept.given;
        going = rw (front, is) refl;
        used = rw (front, is) refl;
        line = inl (omega (arith, many));
      };
    }

-- memory ran out before the first read
pub ended_unbegun : (start : EngineState) (limit : ℕ) (o : Told)
    → Ended (Err stop.Memory) start nothing_left limit o o
ended_unbegun start limit o =
    let kept = taking_nothing start nothing_left o in
    let s : since o o ≡ [] = since_taken start nothing_left o o [] [] kept in
    let same_length = ap length s in
    record {
      course = course_of start nothing_left o o [] [] kept;
      ends = record {
        in_limit = omega arith;
        before = 0;
        given = sym (append-nil o.given);
        going = refl;
        used = refl;
        line = inr s;
      };
    }
