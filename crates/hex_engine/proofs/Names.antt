-- A word that is valid UTF-8, and one that isn't.
use Rattle.std.proofs.Common.{◌≡◌, ℕ, Bool, true, false, List, [], ◌∷◌, Some, None, cond, refl}
use Rattle.std.specs.Prelude.{IsUtf8}
use Rattle.std.specs.Str.{is_utf8}
use Rattle.std.proofs.lemmas.Str.{IsUtf8-from_is_utf8, is_utf8-from_IsUtf8}
use Rattle.hex_engine.specs.LoadReplies.{file_named}

named_by : (b : Bool) (word : List ℕ) → b ≡ true → cond b (Some word) None ≡ Some word
named_by true word e = refl
named_by false word e = absurd (cc)

not_named_by : (b : Bool) (word : List ℕ) → (b ≡ true → ⊥) → cond b (Some word) None ≡ None
not_named_by true word never = absurd (never refl)
not_named_by false word never = refl

pub name_is : (word : List ℕ) → IsUtf8 word → file_named (word ∷ []) ≡ Some word
name_is word u = named_by (is_utf8 word) word (is_utf8-from_IsUtf8 word u)

pub name_is_none : (word : List ℕ) → ¬ (IsUtf8 word) → file_named (word ∷ []) ≡ None
name_is_none word u = not_named_by (is_utf8 word) word (λ e. u (IsUtf8-from_is_utf8 word e))
