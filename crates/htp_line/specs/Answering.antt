-- The bytes of an answer.
use Rattle.std.specs.Prelude.{◌≡◌, ◌+◌, ◌≤◌, ℕ, List, [], ◌∷◌, ◌++◌, Option, Result}
use Rattle.std.specs.Prelude.{OnOk, Vec, vec_len, vec_capacity}
use Rattle.std.specs.declared.alloc.Global.{Global}
use Rattle.std.specs.Fmt.{decimal}
use Rattle.std.specs.Option.{option_map_or}

-- `=` or `?`, the id in its shortest form if there is one, a space, the text and two line feeds
abbrev pub answer : ℕ → Option ℕ → List ℕ → List ℕ
answer sign id text = sign ∷ option_map_or decimal id [] ++ 32 ∷ text ++ 10 ∷ 10 ∷ []

-- a success begins with `=`
abbrev pub success : Option ℕ → List ℕ → List ℕ
success = answer 61

-- a failure begins with `?`
abbrev pub failure : Option ℕ → List ℕ → List ℕ
failure = answer 63

-- what is written where these bytes are an id in its shortest form: the text of that id stands at
-- the end, unless memory ran out
abbrev pub WritesFor : {T E : Type 0} → List ℕ → (Option ℕ → List ℕ) → List ℕ → List ℕ
    → Result T E → Type 0
WritesFor bytes text old new result =
    (id : Option ℕ) → bytes ≡ option_map_or decimal id [] → OnOk result (new ≡ old ++ text id)

-- so many bytes more fit in a vector without memory
abbrev pub HasSpareRoom : Vec ℕ Global → ℕ → Type 0
HasSpareRoom out more = vec_len out + more ≤ vec_capacity out
