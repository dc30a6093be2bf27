-- What an answer of yes or no tells.
use Rattle.std.proofs.Common.{◌≡◌, Bool, true, false, Option, Some, None, refl, subst}
use Rattle.std.specs.Prelude.{MatchBool, MatchOption}
use Rattle.tree_words.proofs.Blocks.BlockLaws.{clash}

pub if_yes : (b : Bool) (P Q : Type 0) → MatchBool b P Q → b ≡ true → P
if_yes true P Q m e = m
if_yes false P Q m e = absurd (clash false e refl)

pub if_no : (b : Bool) (P Q : Type 0) → MatchBool b P Q → b ≡ false → Q
if_no true P Q m e = absurd (clash true refl e)
if_no false P Q m e = m

pub if_some : {T : Type 0} (r : Option T) (x : T) (P : Type 0) (Q : T → Type 0) → MatchOption r P Q
    → r ≡ Some x → Q x
if_some r x P Q m e = subst (λ z. MatchOption z P Q) e m

pub match_on : (b : Bool) (P Q R S : Type 0) → (P → R) → (Q → S) → MatchBool b P Q → MatchBool b R S
match_on true P Q R S f g m = f m
match_on false P Q R S f g m = g m

pub if_none : {T : Type 0} (r : Option T) (P : Type 0) (Q : T → Type 0) → MatchOption r P Q
    → r ≡ None → P
if_none r P Q m e = subst (λ z. MatchOption z P Q) e m
