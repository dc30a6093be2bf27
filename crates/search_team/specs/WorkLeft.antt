-- What a worker has left to do. No clause of a public call cites this.
use Rattle.std.specs.Prelude.{ℕ, ◌+◌, ◌-◌, ◌*◌, ◌==◌, ◌||◌, if◌then◌else◌, zero, suc, Bool, false}
use Rattle.std.specs.Prelude.{List, [], ◌∷◌, Option, Some, None}
use Rattle.arena_rule.specs.Views.{SeatView, Walked}
use Rattle.walker.specs.Measure.{steps_left}
use Rattle.walker.specs.declared.machine.TheConstants.{WALK_STEPS}
use Rattle.walker.specs.declared.machine.Walker.{Walker}

-- a walk of the number k is recorded
abbrev pub has_walk : List Walked → ℕ → Bool
has_walk [] k = false
has_walk (w ∷ walks) k = (w.number == k) || has_walk walks k

-- the number k is in hand
abbrev pub is_in_hand : Option ℕ → ℕ → Bool
is_in_hand None k = false
is_in_hand (Some x) k = x == k

-- the view has drawn the number k
abbrev pub has_drawn : SeatView → ℕ → Bool
has_drawn v k = is_in_hand v.ticket k || has_walk v.walks k

-- how many numbers below n are not among these
abbrev pub count_left : (ℕ → Bool) → ℕ → ℕ
count_left among zero = 0
count_left among (suc n) = (if among n then 0 else 1) + count_left among n

-- the draws that a worker has left at most: one for each number that it has not drawn, and the one
-- that ends it
abbrev pub draws_left : SeatView → ℕ
draws_left v = count_left (has_drawn v) v.shape.knobs.playouts + (1 - v.ended)

-- the steps that a worker has left at most: those of its walk, and a draw and a walk for each draw
abbrev pub work_left : Walker → SeatView → ℕ
work_left w v = (1 + WALK_STEPS) * draws_left v + steps_left w
