-- Who is sure of joining his edges wins.
use Rattle.std.proofs.Common.{◌≡◌, ℕ, ◌==◌, ◌&&◌, not, true, false, Bool, sym, ◌∙◌, ap, subst}
use Rattle.std.proofs.Common.{inl, inr, zero, suc, arith}
use Rattle.std.proofs.lemmas.Bool.{cases_Bool, both_ways}
use Rattle.std.proofs.lemmas.Bool.Decides.{nat_tests}
use Rattle.hex_cells.specs.Sets.{has, with_cell, without_cell}
use Rattle.hex_cells.specs.Colours.{other_of}
use Rattle.hex_cells.specs.declared.colours.Colour.{Colour}
use Rattle.hex_board.specs.Joined.{Joined}
use Rattle.hex_board.specs.Positions.{AllEmpty, Position, stones_of, is_empty_at, placed}
use Rattle.hex_board.specs.Wins.{Wins}
use Rattle.hex_board.proofs.WinLaws.{joined_wins, own_wins, other_wins}
use Rattle.hex_board.proofs.Placed.{placed_leaves, placed_not_own, placed_own, placed_size}
use Rattle.conn_store.specs.Laws.{IsSubset}
use Rattle.conn_store.specs.Truth.{IsSureIn}
use Rattle.conn_store.specs.declared.entries.Kind.{Kind}
use Rattle.conn_store.specs.declared.entries.Kind.TheVariants.{Full, Semi}
use Rattle.conn_store.proofs.Sureness.{in_without, without_inside, more_stones}

-- who is to move: the opponent if the player is sure all the same
abbrev pub mover_of : Kind → Colour → Colour
mover_of Full player = other_of player
mover_of Semi player = player

-- the goal joins the player on a board with his stones, and with more
abbrev pub Joins : (ℕ → Type 0) → ℕ → Colour → ℕ → Type 0
Joins G n player s = (t : ℕ) → IsSubset s t → G t → Joined n player t

pub still : (a b : Bool) (j k : ℕ) → b ≡ (a && not (j == k)) → a ≡ true → (j ≡ k → ⊥) → b ≡ true
still a b j k e h n = grind (arith, nat_tests)

-- cells other than the one that was filled are empty still
pub still_empty : (p : Position) (player : Colour) (c k : ℕ) → AllEmpty p c → has c k ≡ false
    → AllEmpty (placed p player k) c
still_empty p player c k f n j h = still (is_empty_at p j) (is_empty_at (placed p player k) j) j k
    (placed_leaves p player k j) (f j h)
    (λ e. both_ways (has c k) n (subst (λ v. has c v ≡ true) e h))

pub rest_empty : (p : Position) (player : Colour) (c k : ℕ) → AllEmpty p c
    → AllEmpty (placed p player k) (without_cell c k)
rest_empty p player c k f j h = let a = in_without c k j h in
    still (is_empty_at p j) (is_empty_at (placed p player k) j) j k (placed_leaves p player k j)
    (f j a.0) a.1

pub sure_wins : (n : ℕ) (kind : Kind) (player : Colour) (p : Position) (G : ℕ → Type 0) (s c : ℕ)
    → stones_of p player ≡ s → AllEmpty p c → Joins G p.size player s
    → IsSureIn n kind G s c → Wins player p (mover_of kind player)
sure_wins zero kind player p G s c e f j g
    = joined_wins player p (mover_of kind player)
    (subst (λ v. Joined p.size player v) (sym e) (j s (λ k h. h) g))
sure_wins (suc n) Full player p G s c e f j (inl g)
    = joined_wins player p (other_of player)
    (subst (λ v. Joined p.size player v) (sym e) (j s (λ k h. h) g))
sure_wins (suc n) Full player p G s c e f j (inr (w, g))
    = other_wins player p w.0 (f w.0 w.1) (λ k i.
    let a : stones_of (placed p (other_of player) k) player ≡ s = placed_not_own p player k ∙ e in
    let b : Joins G (placed p (other_of player) k).size player s
    = subst (λ v. Joins G v player s) (sym (placed_size p (other_of player) k)) j in
    elim (cases_Bool (has c k)) [
      | inl h ↦ sure_wins n Semi player (placed p (other_of player) k) G s (without_cell c k) a
          (rest_empty p (other_of player) c k f) b (g k h)
      | inr h ↦ sure_wins n Semi player (placed p (other_of player) k) G s (without_cell c w.0) a
          (λ q r. still_empty p (other_of player) c k f h q (without_inside c w.0 q r)) b (g w.0 w.1)
    ])
sure_wins (suc n) Semi player p G s c e f j (inl g)
    = joined_wins player p player (subst (λ v. Joined p.size player v) (sym e) (j s (λ k h. h) g))
sure_wins (suc n) Semi player p G s c e f j (inr (k, h, g)) = own_wins player p k (f k h)
    (sure_wins n Full player (placed p player k) G (with_cell s k) (without_cell c k) (placed_own p player k
    ∙ ap (λ v. with_cell v k) e) (rest_empty p player c k f)
    (subst (λ v. Joins G v player (with_cell s k)) (sym (placed_size p player k)) (λ t i r. j t (λ q u. i q (more_stones s k q u)) r)) g)
