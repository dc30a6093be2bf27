-- Boards with an empty cell.
use Rattle.std.proofs.Common.{◌≡◌, ℕ, ◌*◌, ◌↔◌, IsTrue, not, Bool, true, false, refl, sym, ◌∙◌}
use Rattle.std.proofs.Common.{arith}
use Rattle.std.proofs.lemmas.Bool.{false≢true, false_from_ne_true}
use Rattle.hex_cells.specs.Sets.{has}
use Rattle.hex_board.specs.Positions.{Position, is_empty_at}
use Rattle.hex_board.proofs.Search.{any_in, any_out}
use Rattle.hex_plan.specs.Openings.{has_room}
use Rattle.hex_board.proofs.Placed.{empty_on}

-- an empty cell makes room
pub room_of : (p : Position) (k : ℕ) → is_empty_at p k ≡ true → has_room p ≡ true
room_of p k e = any_in (is_empty_at p) 0 (p.size * p.size) k (omega arith)
    (omega (arith, empty_on p k e)) e

-- if there is room, a cell is empty
pub empty_in : (p : Position) → has_room p ≡ true → (k : ℕ) × (is_empty_at p k ≡ true)
empty_in p h = let w = any_out (is_empty_at p) 0 (p.size * p.size) h in (w.0, w.2)

-- the set of the empty cells has no cell if there is no room
pub no_room : (p : Position) (s : ℕ) (none : Bool) → ((k : ℕ) → has s k ≡ is_empty_at p k)
    → (IsTrue none ↔ ((k : ℕ) → has s k ≡ false)) → not none ≡ has_room p
no_room p s true items h
    = sym (false_from_ne_true (has_room p) (λ r. let w = empty_in p r in false≢true (sym (h.0 refl w.0) ∙ (items w.0 ∙ w.1))))
no_room p s false items h = room_by (has_room p) refl
  where
    room_by : (b : Bool) → has_room p ≡ b → true ≡ b
    room_by true e = refl
    room_by false e
        = absurd (false≢true (h.1 (λ k. items k ∙ false_from_ne_true (is_empty_at p k) (λ f. false≢true (sym e ∙ room_of p k f)))))
