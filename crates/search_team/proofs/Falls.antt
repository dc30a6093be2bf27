-- Each step leaves a worker less to do.
use Rattle.std.proofs.Common.{◌≡◌, ◌≢◌, ℕ, ◌+◌, ◌-◌, ◌<◌, ◌≤◌, refl, sym, ap, arith, ⊎_elim, Some}
use Rattle.std.proofs.Common.{None, Option}
use Rattle.std.specs.Prelude.{◌||◌}
use Rattle.tree_words.specs.declared.steps.Op.{Op}
use Rattle.tree_words.specs.declared.steps.Op.TheVariants.{Draw, Claim, Note}
use Rattle.arena_rule.specs.Views.{SeatView}
use Rattle.arena_rule.specs.Fits.{FitsStep}
use Rattle.arena_rule.specs.Answers.{MayAnswer}
use Rattle.arena_rule.specs.Afters.{after, drew, looked, wrote, published, added_at, noted}
use Rattle.arena_rule.specs.Afters.{with_word}
use Rattle.arena_rule.proofs.Changes.{drew_cases, claimed_same}
use Rattle.walker.specs.declared.machine.Walker.{Walker}
use Rattle.walker.specs.declared.machine.TheConstants.{WALK_STEPS}
use Rattle.walker.specs.Measure.{steps_left}
use Rattle.search_team.specs.WorkLeft.{has_walk, is_in_hand, has_drawn, count_left, draws_left}
use Rattle.search_team.specs.WorkLeft.{work_left}
use Rattle.search_team.proofs.Numbers.{and_number, left-less, walk-none}

-- the draws that are left after a draw
draws-drawn : (v : SeatView) (x : ℕ) → FitsStep v Draw → MayAnswer v Draw x
    → draws_left (after v Draw x) < draws_left v
unfolding with_word
draws-drawn v x fits may = ⊎_elim begun gone (drew_cases v x)
  where
    number : ℕ
    number = v.shape.knobs.playouts

    begun : (x < number) × (drew v x ≡ record v { ticket = Some x })
        → draws_left (drew v x) < draws_left v
    begun t =
        let none : v.ticket ≡ None = fits.ticket in
        let here : draws_left v ≡ count_left (has_walk v.walks) number + (1 - v.ended)
        = ap (λ (o : Option ℕ). count_left (λ k. is_in_hand o k || has_walk v.walks k) number + (1 - v.ended)) none in
        let less = left-less (has_walk v.walks) x number t.0 (walk-none v.walks x may.step.new) in
        let is : draws_left (drew v x) ≡ count_left
        (and_number x (has_walk v.walks)) number + (1 - v.ended)
        = ap draws_left t.1 in
        omega (arith, here, less, is)

    gone : (number ≤ x) × (drew v x ≡ record v { ended = 1 }) → draws_left (drew v x) < draws_left v
    gone t =
        let is : draws_left (drew v x) ≡ count_left (has_drawn v) number + 0 = ap draws_left t.1 in
        let e : v.ended ≡ 0 = fits.ended in
        omega (arith, is, e)

-- another step leaves them
draws-same : (v : SeatView) (op : Op) (x : ℕ) → op ≢ Draw → FitsStep v op
    → draws_left (after v op x) ≡ draws_left v
unfolding with_word looked wrote published added_at noted
draws-same v Draw x nd fits = absurd (nd refl)
draws-same v (Claim size) x nd fits = claimed_same draws_left v size x refl refl
draws-same v (Note k value) x nd fits
    = sym (ap (λ (o : Option ℕ). draws_left (record v { ticket = o })) fits.ticket)
draws-same v op x nd fits = refl

other : (w later : Walker) (v : SeatView) (op : Op) (x : ℕ) → op ≢ Draw → FitsStep v op
    → (op ≢ Draw → steps_left later < steps_left w) → work_left later (after v op x) < work_left w v
other w later v op x nd fits fewer =
    let d = draws-same v op x nd fits in
    let f = fewer nd in
    omega (arith, d, f)

-- so a step of a walker leaves it less to do
pub falls : (w later : Walker) (v : SeatView) (op : Op) (x : ℕ) → FitsStep v op → MayAnswer v op x
    → (op ≢ Draw → steps_left later < steps_left w) → (op ≡ Draw → steps_left later ≤ WALK_STEPS)
    → work_left later (after v op x) < work_left w v
falls w later v Draw x fits may fewer bound =
    let d = draws-drawn v x fits may in
    let b = bound refl in
    omega (arith, d, b)
falls w later v op x fits may fewer bound = other w later v op x (λ e. absurd (cc)) fits fewer
