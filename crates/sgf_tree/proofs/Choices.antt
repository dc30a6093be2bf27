-- Choices by a test, and what the reader's tests of a byte say of each other.
use Rattle.std.proofs.Common.{◌≡◌, ◌≢◌, ℕ, Bool, true, false, cond, refl, arith, ◌==◌, List, []}
use Rattle.std.proofs.Common.{◌∷◌, ◌++◌, ap}
use Rattle.std.proofs.lemmas.Bool.Decides.{nat_tests}
use Rattle.sgf_tree.specs.Grammar.{is_white_space, is_capital}

pub cond_true : {A : Type 0} (b : Bool) (y z : A) → b ≡ true → cond b y z ≡ y
cond_true b y z e = ap (λ v. cond v y z) e

pub cond_false : {A : Type 0} (b : Bool) (y z : A) → b ≡ false → cond b y z ≡ z
cond_false b y z e = ap (λ v. cond v y z) e

-- what holds of both choices, each if it is taken, holds of the choice
pub by_cond : {A : Type 0} (Q : A → Type 0) (b : Bool) (y z : A) → (b ≡ true → Q y)
    → (b ≡ false → Q z) → Q (cond b y z)
by_cond Q true y z f g = f refl
by_cond Q false y z f g = g refl

pub not_equal : (x y : ℕ) → x ≢ y → (x == y) ≡ false
not_equal x y h = grind (arith, nat_tests)

pub capital_no_space : (x : ℕ) → is_capital x ≡ true → is_white_space x ≡ false
capital_no_space x h = grind (arith, nat_tests)

pub space_no_capital : (x : ℕ) → is_white_space x ≡ true → is_capital x ≡ false
space_no_capital x h = grind (arith, nat_tests)

pub capital_no_bracket : (x : ℕ) → is_capital x ≡ true → (x == 91) ≡ false
capital_no_bracket x h = grind (arith, nat_tests)

pub append_nil : {A : Type 0} (xs : List A) → xs ++ [] ≡ xs
append_nil [] = refl
append_nil (x ∷ xs) = ap (λ ys. x ∷ ys) (append_nil xs)

pub different : (x y : ℕ) → (x == y) ≡ false → x ≢ y
different x y h = λ e. grind (arith, nat_tests)
