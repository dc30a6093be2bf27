-- The board without stones: nobody is joined there, and each cell is empty.
use Rattle.std.proofs.Common.{◌≡◌, ℕ, ◌*◌, ◌<◌, ◌&&◌, not, nat_lt, Bool, true, false, cond}
use Rattle.std.proofs.Common.{Some, None, refl, sym, ap, ◌∙◌}
use Rattle.std.proofs.lemmas.Bool.{lt-ltb}
use Rattle.hex_cells.specs.Sets.{has}
use Rattle.hex_cells.specs.declared.colours.Colour.{Colour}
use Rattle.hex_cells.specs.declared.colours.Colour.TheVariants.{Black, White}
use Rattle.hex_cells.proofs.Bits.{has_none}
use Rattle.hex_board.specs.Joined.{is_joined, winner_of}
use Rattle.hex_board.specs.Positions.{empty_board, is_empty_at}
use Rattle.hex_board.proofs.Search.{joined_out, starts_in}

nobody_joined : (n : ℕ) (player : Colour) (b : Bool) → b ≡ is_joined n player 0 → b ≡ false
nobody_joined n player false e = refl
nobody_joined n player true e =
    let path = joined_out n player 0 (sym e) in
    let stone : has 0 path.0 ≡ true = starts_in n 0 path.0 path.1 path.2 in
    let none = has_none path.0 in
    absurd (cc)

pub empty_open : (n : ℕ) → winner_of (empty_board n) ≡ None
empty_open n =
    ap (λ b. cond b (Some Black) (cond (is_joined n White 0) (Some White) None))
    (nobody_joined n Black _ refl)
    ∙ ap (λ b. cond b (Some White) None) (nobody_joined n White _ refl)

pub all_empty : (n k : ℕ) → k < n * n → is_empty_at (empty_board n) k ≡ true
all_empty n k l = all (nat_lt k (n * n)) (has 0 k) (lt-ltb k (n * n) l) (has_none k)
  where
    all : (a b : Bool) → a ≡ true → b ≡ false → (a && not b && not b) ≡ true
    all a b e f = ap (λ v. v && not b && not b) e ∙ ap (λ v. not v && not v) f
