-- Cells that are given away from the last place down.
use Rattle.std.proofs.Common.{◌≡◌, ℕ, ◌+◌, ◌-◌, ◌%◌, ◌^◌, ◌<◌, ◌≤◌, ◌||◌, true, false, Bool, List}
use Rattle.std.proofs.Common.{[], ◌∷◌, length, drop, get_or, refl, sym, ◌∙◌, ap, arith, subst}
use Rattle.std.proofs.Common.{add-one}
use Rattle.std.proofs.Math.Seq.{drop-cons}
use Rattle.std.proofs.lemmas.List.{drop_all}
use Rattle.hex_cells.specs.Sets.{has, with_cell}
use Rattle.hex_cells.specs.declared.colours.Colour.{Colour}
use Rattle.hex_cells.specs.declared.colours.Colour.TheVariants.{Black, White}
use Rattle.hex_cells.proofs.Bits.{has_or, same_set}
use Rattle.hex_board.specs.Positions.{Position, stones_of}
use Rattle.play_out.specs.Fills.{filled_by}
use Rattle.play_out.proofs.Turns.{with_turns, turns}

-- the stones are those of before and of the even places from i on; i is 0 if there is no cell, else
-- odd
pub record Dealt (before : ℕ) (cells : List ℕ) (i stones : ℕ) : Type 0 where
  pub none : i ≡ 0 → stones ≡ with_turns true before cells
  pub some : 0 < i → (i % 2 ≡ 1) × (stones ≡ with_turns false before (drop i cells))

or-turned : (a b c : Bool) → ((a || b) || c) ≡ ((a || c) || b)
or-turned true b c = refl
or-turned false true true = refl
or-turned false true false = refl
or-turned false false true = refl
or-turned false false false = refl

with-turned : (s c d : ℕ) → with_cell (with_cell s c) d ≡ with_cell (with_cell s d) c
with-turned s c d = same_set _ _ (λ k.
    (has_or (with_cell s c) (2 ^ d) k ∙ ap (λ v. v || has (2 ^ d) k) (has_or s (2 ^ c) k))
    ∙ (or-turned (has s k) (has (2 ^ c) k) (has (2 ^ d) k)
    ∙ sym (has_or (with_cell s d) (2 ^ c) k ∙ ap (λ v. v || has (2 ^ c) k) (has_or s (2 ^ d) k))))

-- a cell more before is a cell more after
with-more : (t : Bool) (s c : ℕ) (cells : List ℕ) → with_turns t (with_cell s c) cells ≡ with_cell
    (with_turns t s cells) c
unfolding with_turns
with-more t s c [] = refl
with-more true s c (x ∷ cells) = ap (λ v. with_turns false v cells) (with-turned s c x)
    ∙ with-more false (with_cell s x) c cells
with-more false s c (x ∷ cells) = with-more true s c cells

-- the cell at place i, and those after it
at-place : (cells : List ℕ) (i c : ℕ) → i < length cells
    → drop i cells ≡ get_or cells i c ∷ drop (i + 1) cells
at-place cells i c l = drop-cons cells i c l
    ∙ ap (λ v. get_or cells i c ∷ drop v cells) (sym (add-one i))

-- no cell is given away
pub dealt-odd : (before : ℕ) (cells : List ℕ) (i : ℕ) → i ≡ length cells → (i ≡ 0 → ⊥) → i % 2 ≡ 1
    → Dealt before cells i before
unfolding with_turns
dealt-odd before cells i e some odd = record {
  none = λ z. absurd (some z);
  some = λ l. (odd, sym (ap (with_turns false before) (drop_all i cells (omega arith))));
}

pub dealt-none : (before : ℕ) (cells : List ℕ) (i : ℕ) → i ≡ length cells → i ≡ 0
    → Dealt before cells i before
unfolding with_turns
dealt-none before cells i e z = record {
  none = λ y. sym (ap (with_turns true before) (drop_all 0 cells (omega arith)));
  some = λ l. absurd (omega arith);
}

-- the last cell of an even number is
pub dealt-even : (before : ℕ) (cells next : List ℕ) (i : ℕ) → i + 1 ≡ length cells
    → length next ≡ length cells → i % 2 ≡ 1 → drop (i + 1) next ≡ drop (i + 1) cells
    → Dealt before next i before
unfolding with_turns
dealt-even before cells next i e len odd later = record {
  none = λ z. absurd (omega arith);
  some = λ l. (
    odd,
    sym (ap (with_turns false before) (at-place next i 0 (omega arith))
        ∙ ap (with_turns true before) (later ∙ drop_all (i + 1) cells (omega arith))),
  );
}

-- two cells more: the player gets the one at the even place
pub dealt-two : (before : ℕ) (cells once twice : List ℕ) (i stones c : ℕ)
    → Dealt before cells i stones → 2 < i → i ≤ length cells
    → length once ≡ length cells → length twice ≡ length once
    → drop (i - 1 + 1) once ≡ drop (i - 1 + 1) cells
    → drop (i - 2 + 1) twice ≡ drop (i - 2 + 1) once
    → c ≡ get_or once (i - 1) c
    → Dealt before twice (i - 2) (with_cell stones c)
unfolding with_turns
dealt-two before cells once twice i stones c d l within len_once len_twice first second is =
    let s = d.some (omega arith) in
    let odd : (i - 2) % 2 ≡ 1 = let o = s.0 in omega (arith, o) in
    let e : i - 1 + 1 ≡ i = omega arith in
    let f : i - 2 + 1 ≡ i - 1 = omega arith in
    let one : drop (i - 1) once ≡ c ∷ drop i cells =
    at-place once (i - 1) c (omega arith)
    ∙ ((λ j. sym is j ∷ first j) ∙ ap (λ v. c ∷ drop v cells) e) in
    let two : drop (i - 2) twice ≡ get_or twice (i - 2) 0 ∷ c ∷ drop i cells =
    at-place twice (i - 2) 0 (omega arith)
    ∙ ap (λ xs. get_or twice (i - 2) 0 ∷ xs) (second ∙ (ap (λ v. drop v once) f ∙ one)) in
    record {
      none = λ z. absurd (omega arith);
      some = λ m. (
        odd,
        ap (λ v. with_cell v c) s.1
            ∙ (sym (with-more false before c (drop i cells)) ∙ sym (ap (with_turns false before) two)),
      );
    }

-- the first cell is given away last
pub dealt-all : (before : ℕ) (cells : List ℕ) (i stones c : ℕ) → Dealt before cells i stones → 0 < i
    → (2 < i → ⊥) → i ≤ length cells → c ≡ get_or cells 0 c
    → with_cell stones c ≡ with_turns true before cells
unfolding with_turns
dealt-all before cells i stones c d l m within is =
    let s = d.some l in
    let one : i ≡ 1 = let o = s.0 in omega (arith, o) in
    let all : drop 0 cells ≡ c ∷ drop 1 cells = at-place cells 0 c (omega arith)
    ∙ ap (λ v. v ∷ drop 1 cells) (sym is) in
    ap (λ v. with_cell v c) (s.1 ∙ ap (λ v. with_turns false before (drop v cells)) one)
    ∙ (sym (with-more false before c (drop 1 cells)) ∙ sym (ap (with_turns true before) all))

pub dealt-to : (p : Position) (player : Colour) (cells : List ℕ)
    → with_turns true (stones_of p player) cells ≡ stones_of (filled_by p player cells) player
dealt-to p Black cells = turns p Black Black cells
dealt-to p White cells = turns p White White cells

-- the same, told of equal values
pub same-dealt : (before : ℕ) (cells next : List ℕ) (i m stones after : ℕ) → next ≡ cells → m ≡ i
    → after ≡ stones → Dealt before cells i stones
    → Dealt before next m after
same-dealt before cells next i m stones after e f g d =
    subst (λ v. Dealt before v m after) (sym e)
    (subst (λ v. Dealt before cells v after) (sym f) (subst (λ v. Dealt before cells i v) (sym g) d))
