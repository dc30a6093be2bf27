-- What a link tells of itself, and how a read and a write change it.
use Rattle.std.specs.Prelude.{◌≡◌, ℕ, List, [], ◌∷◌, ◌++◌, length, take, None, Some, MatchResult}
use Rattle.std.specs.Prelude.{Result, ⊤}
use Rattle.std.specs.declared.option.Option.{Option}

-- the bytes still to come, those taken and those given
pub record Told : Type 0 where
  pub to_come : List ℕ
  pub taken : List ℕ
  pub given : List ℕ
  -- for each read so far that answered Ok, how many bytes were taken and given when it began
  pub asks : List (ℕ × ℕ)

-- A fact of what is told before and after. Who tells nothing owes nothing, and who tells goes on
-- telling.
abbrev pub Both : {X : Type 0} → Option X → Option X → (X → X → Type 0) → Type 0
Both None new R = ⊤
Both (Some x) None R = ⊥
Both (Some x) (Some y) R = R x y

-- two tellers as one, if both tell
abbrev pub together : {X Y : Type 0} → Option X → Option Y → Option (X × Y)
together None b = None
together (Some x) None = None
together (Some x) (Some y) = Some (x, y)

-- a read took the first n bytes of what was to come, and they stand at the start of buf
pub record TakesBytes (old new : Told) (n : ℕ) (buf : List ℕ) : Type 0 where
  pub moved : old.to_come ≡ take n buf ++ new.to_come
  pub taken : new.taken ≡ old.taken ++ take n buf
  pub given : new.given ≡ old.given
  pub asks : new.asks ≡ old.asks ++ (length old.taken, length old.given) ∷ []
  -- no byte comes only at the end
  pub at_end : n ≡ 0 → new.to_come ≡ []

-- these bytes were given, and nothing else changed
abbrev pub GivesBytes : Told → Told → List ℕ → Type 0
GivesBytes old new bytes = new ≡ record old { given = old.given ++ bytes }

-- if the link tells, nothing changed
abbrev pub Same : {X : Type 0} → Option X → Option X → Type 0
Same old new = Both old new (λ o n. n ≡ o)

-- what a read did: at a fault nothing
abbrev pub ReadsBytes : {E : Type 0} → Option Told → Option Told → Result ℕ E → List ℕ → Type 0
ReadsBytes old new result buf =
    MatchResult result (λ n. Both old new (λ o t. TakesBytes o t n buf)) (λ _. Same old new)

-- what a write did: it gave the first n bytes, or at a fault nothing
abbrev pub WritesBytes : {E : Type 0} → Option Told → Option Told → Result ℕ E → List ℕ → Type 0
WritesBytes old new result bytes =
    MatchResult result (λ n. Both old new (λ o t. GivesBytes o t (take n bytes)))
    (λ _. Same old new)
