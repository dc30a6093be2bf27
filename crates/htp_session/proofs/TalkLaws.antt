-- A talk goes on by one line, or has ended.
use Rattle.std.proofs.Common.{◌≡◌, ℕ, false, List, [], ◌∷◌, ◌++◌, refl, ap, ◌∙◌}
use Rattle.std.proofs.lemmas.List.Sums.{fold_push, fold-append}
use Rattle.std.proofs.lemmas.List.Folds.{fold_stays}
use Rattle.htp_line.specs.Lines.{whole}
use Rattle.htp_line.specs.Splitting.{kept_line}
use Rattle.hex_engine.specs.EngineState.{EngineState}
use Rattle.hex_engine.specs.Supply.{Supply}
use Rattle.htp_session.specs.Talk.{TalkState, Going, AfterQuit, goes_on, after_line, followed_by}
use Rattle.htp_session.specs.Talk.{with_line, talk_start, talk, talk_to}

step-going : (so_far : TalkState) (raw : List ℕ) → so_far.ending ≡ Going
    → with_line so_far raw ≡ followed_by so_far (after_line so_far.at so_far.left (kept_line raw))
unfolding with_line
step-going so_far raw e = rw e refl

pub step-stays : (so_far : TalkState) (raw : List ℕ) → goes_on so_far.ending ≡ false
    → with_line so_far raw ≡ so_far
unfolding with_line
step-stays so_far raw e = rw e refl

-- one more line while the talk goes on
pub talk_more : (start : EngineState) (all : Supply) (ls : List (List ℕ)) (raw : List ℕ)
    → (talk start all ls).ending ≡ Going
    → talk start all (ls ++ raw ∷ []) ≡ followed_by (talk start all ls)
    (after_line (talk start all ls).at (talk start all ls).left (kept_line raw))
talk_more start all ls raw e = fold_push with_line (talk_start start all) ls raw
    ∙ step-going (talk start all ls) raw e

-- one line more, if the talk is this and goes on
pub talk_next : (start : EngineState) (all : Supply) (ls : List (List ℕ)) (raw : List ℕ)
    (s next : TalkState) → talk start all ls ≡ s → s.ending ≡ Going
    → after_line s.at s.left (kept_line raw) ≡ next
    → talk start all (ls ++ raw ∷ []) ≡ followed_by s next
talk_next start all ls raw s next is going says =
    talk_more start all ls raw (ap (λ (t : TalkState). t.ending) is ∙ going)
    ∙ ap (λ (t : TalkState). followed_by t (after_line t.at t.left (kept_line raw))) is
    ∙ ap (followed_by s) says

-- lines after the end of a talk change nothing
pub talk_stays : (start : EngineState) (all : Supply) (ls more : List (List ℕ))
    → goes_on (talk start all ls).ending ≡ false → talk start all (ls ++ more) ≡ talk start all ls
talk_stays start all ls more e = fold-append with_line (talk_start start all) ls more
    ∙ fold_stays with_line (talk start all ls) (λ raw. step-stays (talk start all ls) raw e) more

pub talk_quit : (start : EngineState) (all : Supply) (ls more : List (List ℕ))
    → (talk start all ls).ending ≡ AfterQuit → talk start all (ls ++ more) ≡ talk start all ls
talk_quit start all ls more e = talk_stays start all ls more (ap goes_on e)

-- before any byte nothing is said
pub talk_to-nil : (start : EngineState) (all : Supply) → talk_to start all [] ≡ talk_start start all
unfolding whole
talk_to-nil start all = refl
