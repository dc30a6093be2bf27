-- One more step, and one less, of a history.
use Rattle.std.proofs.Common.{◌≡◌, Bool, true, cond, suc, List, [], ◌∷◌, ◌++◌, length, refl, ap}
use Rattle.std.proofs.Common.{sym, ◌∙◌, subst, append-nil, append_assoc}
use Rattle.hex_board.specs.Positions.{Position}
use Rattle.hex_game.specs.Games.{is_legal_on, after_step, replay_on, replay, moved, AreLegal}
use Rattle.hex_game.specs.Kept.{IsFew, StepsLead}
use Rattle.hex_game.specs.Moves.{before_last}
use Rattle.hex_game.specs.declared.moves.Step.{Step}

-- the last board is the replay
leads_on : (start : Position) (done : List Step) (now : Position) (steps : List Step)
    (boards : List Position) (last : Position)
    → StepsLead start done now steps boards last → last ≡ replay_on start done now steps
leads_on start done now [] [] last h = h.0
leads_on start done now [] (board ∷ boards) last h = absurd h
leads_on start done now (step ∷ steps) [] last h = absurd h
leads_on start done now (step ∷ steps) (board ∷ boards) last h
    = leads_on start (done ++ step ∷ []) (after_step start done now step) steps boards last h.3

pub leads_to_replay : (start : Position) (steps : List Step) (boards : List Position)
    (last : Position) → StepsLead start [] start steps boards last → last ≡ replay start steps
unfolding replay
leads_to_replay start steps boards last h = leads_on start [] start steps boards last h

-- one more step at the end
more_on : (start : Position) (done : List Step) (now : Position) (steps : List Step)
    (boards : List Position) (last next : Position) (step : Step)
    → StepsLead start done now steps boards last
    → is_legal_on start (done ++ steps) last step ≡ true
    → next ≡ after_step start (done ++ steps) last step
    → IsFew (done ++ steps ++ step ∷ []) next
    → StepsLead start done now (steps ++ step ∷ []) (boards ++ last ∷ []) next
more_on start done now [] [] last next step h legal is_next few =
    let at_end : done ++ [] ≡ done = append-nil done in
    let is_after : next ≡ after_step start done now step =
    is_next ∙ ap (λ (d : List Step). after_step start d last step) at_end
    ∙ ap (λ (p : Position). after_step start done p step) h.0 in (
      h.0,
      h.1,
      subst (λ (p : Position). is_legal_on start done p step ≡ true) h.0
          (subst (λ (d : List Step). is_legal_on start d last step ≡ true) at_end legal),
      (is_after, subst (λ (p : Position). IsFew (done ++ step ∷ []) p) is_after (subst (λ (d : List Step). IsFew (d ++ step ∷ []) next) at_end few)),
    )
more_on start done now [] (board ∷ boards) last next step h legal is_next few = absurd h
more_on start done now (first ∷ steps) [] last next step h legal is_next few = absurd h
more_on start done now (first ∷ steps) (board ∷ boards) last next step h legal is_next few =
    let regroup : done ++ (first ∷ steps) ≡ (done ++ first ∷ []) ++ steps
    = sym (append_assoc done (first ∷ []) steps) in (
      h.0,
      h.1,
      h.2,
      more_on start (done ++ first ∷ [])
          (after_step start done now first) steps boards last next step h.3
          (subst (λ (d : List Step). is_legal_on start d last step ≡ true) regroup legal)
          (is_next ∙ ap (λ (d : List Step). after_step start d last step) regroup)
          (subst (λ (d : List Step). IsFew (d ++ step ∷ []) next) regroup few),
    )

-- the board before the last step
less_on : (start : Position) (done : List Step) (now : Position) (steps : List Step)
    (boards : List Position) (last board : Position) (step : Step)
    → StepsLead start done now (steps ++ step ∷ []) (boards ++ board ∷ []) last
    → StepsLead start done now steps boards board
less_on start done now [] [] last board step h = (h.0, h.1)
less_on start done now [] (b ∷ []) last board step h = absurd h.3
less_on start done now [] (b ∷ c ∷ boards) last board step h = absurd h.3
less_on start done now (first ∷ []) [] last board step h = absurd h.3
less_on start done now (first ∷ next ∷ steps) [] last board step h = absurd h.3
less_on start done now (first ∷ steps) (b ∷ boards) last board step h =
    (h.0, h.1, h.2, less_on start (done ++ first ∷ []) (after_step start done now first) steps boards last board step h.3)

pub one_less : (start : Position) (all steps : List Step) (old boards : List Position)
    (last board : Position) (step : Step)
    → all ≡ steps ++ step ∷ [] → old ≡ boards ++ board ∷ [] → StepsLead start [] start all old last
    → StepsLead start [] start steps boards board
one_less start all steps old boards last board step e f h =
    less_on start [] start steps boards last board step
    (subst (λ (bs : List Position). StepsLead start [] start (steps ++ step
    ∷ []) bs last) f (subst (λ (ss : List Step). StepsLead start [] start ss old last) e h))

-- a history has as many boards as steps
pub as_many_on : (start : Position) (done : List Step) (now : Position) (steps : List Step)
    (boards : List Position) (last : Position)
    → StepsLead start done now steps boards last → length boards ≡ length steps
as_many_on start done now [] [] last h = refl
as_many_on start done now [] (board ∷ boards) last h = absurd h
as_many_on start done now (step ∷ steps) [] last h = absurd h
as_many_on start done now (step ∷ steps) (board ∷ boards) last h
    = ap (λ n. suc n)
    (as_many_on start (done ++ step ∷ []) (after_step start done now step) steps boards last h.3)

-- so far each step but a swap has left one stone more
pub few_on : (start : Position) (done : List Step) (now : Position) (steps : List Step)
    (boards : List Position) (last : Position)
    → StepsLead start done now steps boards last → IsFew (done ++ steps) last
few_on start done now [] [] last h = subst (λ (d : List Step). IsFew d last) (sym (append-nil done))
    (subst (λ (p : Position). IsFew done p) (sym h.0) h.1)
few_on start done now [] (board ∷ boards) last h = absurd h
few_on start done now (step ∷ steps) [] last h = absurd h
few_on start done now (step ∷ steps) (board ∷ boards) last h =
    subst (λ (d : List Step). IsFew d last) (append_assoc done (step ∷ []) steps)
    (few_on start (done ++ step ∷ []) (after_step start done now step) steps boards last h.3)

after_legal : (b : Bool) (p q r : Position) → b ≡ true → p ≡ q → p ≡ cond b q r
after_legal b p q r e f = rw e f

pub one_more : (start : Position) (steps all : List Step) (boards old : List Position)
    (last next : Position) (step : Step)
    → StepsLead start [] start steps boards last → is_legal_on start steps last step ≡ true
    → next ≡ moved last steps step.colour step.what → IsFew all next
    → all ≡ steps ++ step ∷ [] → old ≡ boards ++ last ∷ [] → StepsLead start [] start all old next
one_more start steps all boards old last next step h legal is_next few e f =
    subst (λ (bs : List Position). StepsLead start [] start all bs next) (sym f)
    (subst (λ (ss : List Step). StepsLead start [] start ss (boards ++ last ∷ []) next) (sym e)
    (more_on start [] start steps boards last next step h legal
    (after_legal (is_legal_on start steps last step) next (moved last steps step.colour step.what) last legal is_next)
    (subst (λ (ss : List Step). IsFew ss next) e few)))

pub before_last-push : (steps : List Step) (step : Step) → before_last (steps ++ step ∷ []) ≡ steps
before_last-push [] step = refl
before_last-push (first ∷ []) step = refl
before_last-push (first ∷ next ∷ steps) step
    = ap (λ (s : List Step). first ∷ s) (before_last-push (next ∷ steps) step)

replay_on-push : (start : Position) (done : List Step) (now : Position) (steps : List Step)
    (step : Step) →
    replay_on start done now (steps ++ step ∷ []) ≡ after_step start (done ++ steps)
    (replay_on start done now steps) step
replay_on-push start done now [] step = ap (λ (d : List Step). after_step start d now step)
    (sym (append-nil done))
replay_on-push start done now (first ∷ steps) step =
    replay_on-push start (done ++ first ∷ []) (after_step start done now first) steps step
    ∙ ap (λ (d : List Step). after_step start d (replay_on start (done ++ first ∷ []) (after_step start done now first) steps) step) (append_assoc done (first
    ∷ []) steps)

-- one step more in a replay
pub replay-push : (start : Position) (steps : List Step) (step : Step)
    → replay start (steps ++ step ∷ []) ≡ after_step start steps (replay start steps) step
unfolding replay
replay-push start steps step = replay_on-push start [] start steps step

-- each step is legal where it was taken
legal_on : (start : Position) (before : List Step) (now : Position) (steps : List Step)
    (boards : List Position) (last : Position)
    → StepsLead start before now steps boards last → now ≡ replay start before
    → (done : List Step) (step : Step) (rest : List Step) → done ++ step ∷ rest ≡ steps
    → is_legal_on start (before ++ done) (replay start (before ++ done)) step ≡ true
legal_on start before now [] boards last h e [] step rest q = absurd (cc)
legal_on start before now [] boards last h e (d ∷ done) step rest q = absurd (cc)
legal_on start before now (s ∷ steps) [] last h e done step rest q = absurd h
legal_on start before now (s ∷ steps) (board ∷ boards) last h e [] step rest q =
    let same : s ≡ step = cc in
    let at_end : before ++ [] ≡ before = append-nil before in
    rw (at_end, ← e) (subst (λ (t : Step). is_legal_on start before now t ≡ true) same h.2)
legal_on start before now (s ∷ steps) (board ∷ boards) last h e (d ∷ done) step rest q =
    let same : d ≡ s = cc in
    let more : done ++ step ∷ rest ≡ steps = cc in
    let next : after_step start before now s ≡ replay start (before ++ s ∷ []) =
    ap (λ (p : Position). after_step start before p s) e ∙ sym (replay-push start before s) in
    let regroup : (before ++ s ∷ []) ++ done ≡ before ++ d ∷ done
    = append_assoc before (s ∷ []) done ∙ ap (λ (t : Step). before ++ t ∷ done) (sym same) in
    subst (λ (l : List Step). is_legal_on start l (replay start l) step ≡ true) regroup
    (legal_on start (before ++ s ∷ []) (after_step start before now s) steps boards last h.3 next done step rest more)

pub legal_steps : (start : Position) (steps : List Step) (boards : List Position) (last : Position)
    → StepsLead start [] start steps boards last → AreLegal start steps
unfolding replay
legal_steps start steps boards last h
    = λ done step rest q. legal_on start [] start steps boards last h refl done step rest q
