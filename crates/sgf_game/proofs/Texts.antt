-- A test of two texts that says when they are equal.
use Rattle.std.proofs.Common.{◌≡◌, ℕ, Bool, List, IsTrue, ◌↔◌}
use Rattle.std.specs.Str.{bytes_eq}
use Rattle.std.proofs.lemmas.Slice.Eq.{bytes_eq-Decides}
use Rattle.std.proofs.lemmas.Bool.Decides.{same_from_decides}

pub same_text : (b : Bool) (xs ys : List ℕ) → (IsTrue b ↔ (xs ≡ ys)) → b ≡ bytes_eq xs ys
same_text b xs ys e = same_from_decides b (bytes_eq xs ys) e (bytes_eq-Decides xs ys)
