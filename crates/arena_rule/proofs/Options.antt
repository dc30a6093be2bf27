-- Options, and the two truth values.
use Rattle.std.proofs.Common.{◌≡◌, true, false, Some, None}

pub none-some : {A : Type 0} {x : A} → None ≡ Some x → ⊥
none-some e = cc

pub some-eq : {A : Type 0} {x y : A} → Some x ≡ Some y → x ≡ y
some-eq e = cc

pub false-true : false ≡ true → ⊥
false-true e = cc
