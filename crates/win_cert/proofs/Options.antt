-- Answers that may be missing.
use Rattle.std.proofs.Common.{◌≡◌, Bool, true, false, cond, Option, Some}
use Rattle.std.proofs.Common.{None, refl}
use Rattle.std.specs.Option.{option_and_then, option_map}

pub some_of_test : {A : Type 0} (b : Bool) (o : Option A) (y : A) → cond b o None ≡ Some y
    → (b ≡ true) × (o ≡ Some y)
some_of_test true o y e = (refl, e)
some_of_test false o y e = cc

pub some_of_then : {A B : Type 0} (f : A → Option B) (o : Option A) (y : B)
    → option_and_then f o ≡ Some y
    → (x : A) × (o ≡ Some x) × (f x ≡ Some y)
some_of_then f (Some x) y e = (x, refl, e)
some_of_then f None y e = cc

pub some_of_map : {A B : Type 0} (f : A → B) (o : Option A) (y : B) → option_map f o ≡ Some y
    → (x : A) × (o ≡ Some x) × (f x ≡ y)
some_of_map f (Some x) y e = (x, refl, cc)
some_of_map f None y e = cc
