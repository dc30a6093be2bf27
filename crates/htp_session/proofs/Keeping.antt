-- What a conversation keeps while it goes on.
use Rattle.std.proofs.Common.{◌≡◌, ℕ, Bool, true, false, List, [], ◌∷◌, ◌++◌, length, take, drop}
use Rattle.std.proofs.Common.{refl, ap, sym, ◌∙◌, append-nil, append_assoc, length-append, fold}
use Rattle.std.proofs.Common.{cond, arith}
use Rattle.std.specs.List.{AllByRecursion}
use Rattle.std.proofs.Math.Seq.{take-append_seam, drop-append_seam}
use Rattle.std.proofs.lemmas.List.{take-append-le}
use Rattle.std.proofs.lemmas.List.Sums.{fold-append}
use Rattle.hex_io.specs.Told.{Told, TakesBytes, GivesBytes}
use Rattle.htp_line.specs.Lines.{whole, rest, lines, unless_empty}
use Rattle.htp_line.specs.Splitting.{kept_line}
use Rattle.htp_line.proofs.LinesLaws.{whole-append}
use Rattle.hex_engine.specs.EngineState.{EngineState}
use Rattle.hex_engine.specs.Supply.{Supply, and_then}
use Rattle.htp_session.specs.Talk.{TalkState, Going, goes_on, after_line, followed_by, with_line}
use Rattle.htp_session.specs.Talk.{talk_start, talk, talk_to}
use Rattle.htp_session.specs.Endings.{since, Shown, Course}
use Rattle.htp_session.specs.Sessions.{TookAndGave}
use Rattle.htp_session.proofs.SupplyLaws.{talk_more_left, answered_if}

pub since_taken : (start : EngineState) (all : Supply) (o n : Told) (seen text : List ℕ)
    → TookAndGave start all o n seen text → since o n ≡ seen
since_taken start all o n seen text k = ap (drop (length o.taken)) k.taken
    ∙ drop-append_seam o.taken seen

shown_grows : (start : EngineState) (all : Supply) (o n m : Told) (x y : List ℕ) (ask : ℕ × ℕ)
    → m.taken ≡ n.taken ++ x → m.given ≡ n.given ++ y → Shown start all o n ask
    → Shown start all o m ask
shown_grows start all o n m x y ask p q s =
    let t : take ask.0 m.taken ≡ take ask.0 n.taken = ap (take ask.0) p
    ∙ take-append-le ask.0 n.taken x s.in_taken in
    let g : take ask.1 m.given ≡ take ask.1 n.given = ap (take ask.1) q
    ∙ take-append-le ask.1 n.given y s.in_given in
    record {
      in_taken = let e = ap length p ∙ length-append n.taken x in omega (arith, s.in_taken);
      in_given = let e = ap length q ∙ length-append n.given y in omega (arith, s.in_given);
      answered = rw (t, g) s.answered;
      going = rw t s.going;
    }

all_shown_grow : (start : EngineState) (all : Supply) (o n m : Told) (x y : List ℕ)
    → m.taken ≡ n.taken ++ x → m.given ≡ n.given ++ y → (asks : List (ℕ × ℕ))
    → AllByRecursion (Shown start all o n) asks → AllByRecursion (Shown start all o m) asks
all_shown_grow start all o n m x y p q [] shown = shown
all_shown_grow start all o n m x y p q (ask ∷ asks) shown
    = (shown_grows start all o n m x y ask p q shown.0, all_shown_grow start all o n m x y p q asks shown.1)

all_push : {A : Type 0} (P : A → Type 0) (xs : List A) (x : A) → AllByRecursion P xs → P x
    → AllByRecursion P (xs ++ x ∷ [])
all_push P [] x all p = (p, tt)
all_push P (y ∷ ys) x all p = (all.0, all_push P ys x all.1 p)

-- a read took more
pub taking_more : (start : EngineState) (all : Supply) (o n m : Told) (seen text buf : List ℕ)
    (k : ℕ) → TookAndGave start all o n seen text → text ≡ (talk_to start all seen).text
    → (talk_to start all seen).ending ≡ Going → TakesBytes n m k buf
    → TookAndGave start all o m (seen ++ take k buf) text
taking_more start all o n m seen text buf k kept e going t =
    let ask : ℕ × ℕ = (length n.taken, length n.given) in
    let taken_then : drop (length o.taken) (take (length n.taken) m.taken) ≡ seen
    = ap (λ l. drop (length o.taken) (take (length n.taken) l)) t.taken
    ∙ ap (drop (length o.taken)) (take-append_seam n.taken (take k buf))
    ∙ since_taken start all o n seen text kept in
    let given_then : take (length n.given) m.given ≡ n.given
    = ap (take (length n.given)) (t.given ∙ sym (append-nil n.given))
    ∙ take-append_seam n.given [] in
    let shown : Shown start all o m ask = record {
      in_taken = let h = ap length t.taken ∙ length-append n.taken (take k buf) in omega arith;
      in_given = let h = ap length t.given in omega arith;
      answered = given_then ∙ kept.given ∙ ap (λ l. o.given ++ l) e
          ∙ ap (λ l. o.given ++ (talk_to start all l).text) (sym taken_then);
      going = ap (λ l. (talk_to start all l).ending) taken_then ∙ going;
    } in
    record {
      taken = t.taken ∙ ap (λ l. l ++ take k buf) kept.taken
          ∙ append_assoc o.taken seen (take k buf);
      moved = kept.moved ∙ ap (λ l. seen ++ l) t.moved
          ∙ sym (append_assoc seen (take k buf) m.to_come);
      given = t.given ∙ kept.given;
      asks = (
        kept.asks.0 ++ ask ∷ [],
        t.asks ∙ ap (λ l. l ++ ask ∷ []) kept.asks.1 ∙ append_assoc o.asks kept.asks.0 (ask ∷ []),
        all_push (Shown start all o m) kept.asks.0 ask
            (all_shown_grow start all o n m (take k buf) [] t.taken (t.given ∙ sym (append-nil n.given)) kept.asks.0 kept.asks.2) shown,
      );
    }

-- more was given
pub giving_more : (start : EngineState) (all : Supply) (o n m : Told) (seen text bytes : List ℕ)
    → TookAndGave start all o n seen text → GivesBytes n m bytes
    → TookAndGave start all o m seen (text ++ bytes)
giving_more start all o n m seen text bytes kept g =
    let taken : m.taken ≡ n.taken = ap (λ (t : Told). t.taken) g in
    let given : m.given ≡ n.given ++ bytes = ap (λ (t : Told). t.given) g in
    record {
      taken = taken ∙ kept.taken;
      moved = kept.moved ∙ ap (λ (t : Told). seen ++ t.to_come) (sym g);
      given = given ∙ ap (λ l. l ++ bytes) kept.given ∙ append_assoc o.given text bytes;
      asks = (
        kept.asks.0,
        ap (λ (t : Told). t.asks) g ∙ kept.asks.1,
        all_shown_grow start all o n m [] bytes (taken ∙ sym (append-nil n.taken)) given
            kept.asks.0 kept.asks.2,
      );
    }

shown_later : (start : EngineState) (all more : Supply) (o n : Told) (ask : ℕ × ℕ)
    → Shown start all o n ask → Shown start (and_then all more) o n ask
shown_later start all more o n ask s =
    let lines = whole (drop (length o.taken) (take ask.0 n.taken)) in
    let same = talk_more_left start all more lines (answered_if false _ s.going) in
    record {
      in_taken = s.in_taken;
      in_given = s.in_given;
      answered = s.answered ∙ ap (λ (t : TalkState). o.given ++ t.text) (sym same);
      going = ap (λ (t : TalkState). t.ending) same ∙ s.going;
    }

all_shown_later : (start : EngineState) (all more : Supply) (o n : Told) (asks : List (ℕ × ℕ))
    → AllByRecursion (Shown start all o n) asks
    → AllByRecursion (Shown start (and_then all more) o n) asks
all_shown_later start all more o n [] shown = shown
all_shown_later start all more o n (ask ∷ asks) shown
    = (shown_later start all more o n ask shown.0, all_shown_later start all more o n asks shown.1)

-- more was used up
pub using_more : (start : EngineState) (all more : Supply) (o n : Told) (seen text : List ℕ)
    → TookAndGave start all o n seen text → TookAndGave start (and_then all more) o n seen text
using_more start all more o n seen text kept = record {
  taken = kept.taken;
  moved = kept.moved;
  given = kept.given;
  asks = (kept.asks.0, kept.asks.1, all_shown_later start all more o n kept.asks.0 kept.asks.2);
}

pub taking_nothing : (start : EngineState) (all : Supply) (o : Told) → TookAndGave start all o o [] []
taking_nothing start all o
    = record { taken = sym (append-nil o.taken); moved = refl; given = sym (append-nil o.given); asks = ([], sym (append-nil o.asks), tt) }

pub course_of : (start : EngineState) (all : Supply) (o n : Told) (seen text : List ℕ)
    → TookAndGave start all o n seen text → Course start all o n
course_of start all o n seen text kept =
    let s = since_taken start all o n seen text kept in
    record { taken = rw s kept.taken; moved = rw s kept.moved; asks = kept.asks }

-- ---- the text of more lines

step_if : (b : Bool) (a c : TalkState)
    → (more : List ℕ) × ((cond b (followed_by a c) a).text ≡ a.text ++ more)
step_if true a c = (c.text, refl)
step_if false a c = ([], sym (append-nil a.text))

step_text : (a : TalkState) (raw : List ℕ)
    → (more : List ℕ) × ((with_line a raw).text ≡ a.text ++ more)
unfolding with_line
step_text a raw = step_if (goes_on a.ending) a (after_line a.at a.left (kept_line raw))

fold_text : (a : TalkState) (ls : List (List ℕ))
    → (more : List ℕ) × ((fold with_line a ls).text ≡ a.text ++ more)
fold_text a [] = ([], sym (append-nil a.text))
fold_text a (raw ∷ ls) =
    let first = step_text a raw in
    let others = fold_text (with_line a raw) ls in
    (first.0 ++ others.0, others.1 ∙ ap (λ l. l ++ others.0) first.1 ∙ append_assoc a.text first.0 others.0)

-- the answers to the first lines come first
pub talk_text : (start : EngineState) (all : Supply) (ls more : List (List ℕ))
    → (bytes : List ℕ) × ((talk start all (ls ++ more)).text ≡ (talk start all ls).text ++ bytes)
talk_text start all ls more = let f = fold_text (talk start all ls) more in
    (f.0, ap (λ (t : TalkState). t.text) (fold-append with_line (talk_start start all) ls more) ∙ f.1)

-- the lines of a longer text begin with the whole lines of a text
pub lines-append : (s t : List ℕ) → (more : List (List ℕ)) × (lines (s ++ t) ≡ whole s ++ more)
lines-append s t =
    let w = whole-append s t in
    (w.0 ++ unless_empty (rest (s ++ t)), ap (λ l. l ++ unless_empty (rest (s ++ t))) w.1 ∙ append_assoc (whole s) w.0 (unless_empty (rest (s ++ t))))
