-- The whole input of a link, up to a limit.
use Rattle.std.specs.Prelude.{◌≡◌, ◌+◌, ◌<◌, ◌≤◌, ℕ, Bool, List, [], ◌++◌, length, Result, Ok}
use Rattle.std.specs.Prelude.{Err, Vec}
use Rattle.std.specs.declared.alloc.Global.{Global}
use Rattle.std.specs.declared.option.Option.{Option}
use Rattle.hex_io.specs.Told.{Told, Both}
use Rattle.hex_devices.specs.declared.errors.AnswerError.{AnswerError}
use Rattle.hex_devices.specs.declared.errors.AnswerError.TheVariants as answer
use Rattle.hex_devices.specs.declared.errors.InputError.{InputError}
use Rattle.hex_devices.specs.declared.errors.InputError.TheVariants as input

-- these bytes were taken, and none given
pub record TookBytes (bytes : List ℕ) (old new : Told) : Type 0 where
  pub moved : old.to_come ≡ bytes ++ new.to_come
  pub taken : new.taken ≡ old.taken ++ bytes
  pub given : new.given ≡ old.given

-- at most so many bytes were taken, and none given
abbrev pub TookAtMost : ℕ → Told → Told → Type 0
TookAtMost limit old new =
    (bytes : List ℕ) × (length bytes ≤ limit) × TookBytes bytes old new

-- all bytes to come were taken, at most so many, and none given
abbrev pub TookAll : ℕ → Told → Told → Type 0
TookAll limit old new = (bytes : List ℕ) × (length bytes ≤ limit) × TookBytes bytes old new
    × (new.to_come ≡ [])

-- one byte more than the limit was taken, and none given
abbrev pub TookTooMany : ℕ → Told → Told → Type 0
TookTooMany limit old new =
    (bytes : List ℕ) × (length bytes ≡ limit + 1) × TookBytes bytes old new

-- What was taken of an input that was not taken whole: at a read fault or out of memory at most
-- the limit; the input is too long if one byte more was taken.
abbrev pub TookBefore : InputError → ℕ → Told → Told → Type 0
TookBefore input.Read = TookAtMost
TookBefore input.TooLong = TookTooMany
TookBefore input.Memory = TookAtMost

-- All bytes to come were taken, and they are the answer; or why not, and what was taken.
abbrev pub TakesAll : Option Told → Option Told → ℕ → Result (Vec ℕ Global) InputError → Type 0
TakesAll old new limit (Ok bytes) = (length bytes.items ≤ limit)
    × Both old new (λ o n. TookBytes bytes.items o n × (n.to_come ≡ []))
TakesAll old new limit (Err error) = Both old new (TookBefore error limit)

-- which text answers which bytes, and whether they are accepted
abbrev pub TextOf : Type 1
TextOf = List ℕ → List ℕ → Bool → Type 0

-- All bytes to come were taken, at most so many. This text answers them, and these bytes were
-- given.
pub record IsAnswer (Answers : TextOf) (accepted : Bool) (limit : ℕ) (old new : Told)
    (text given : List ℕ) : Type 0 where
  pub in_limit : length old.to_come ≤ limit
  pub says : Answers old.to_come text accepted
  pub taken : new.taken ≡ old.taken ++ old.to_come
  pub ended : new.to_come ≡ []
  pub gives : new.given ≡ old.given ++ given

-- the text was given
abbrev pub AnsweredAll : TextOf → Bool → ℕ → Told → Told → Type 0
AnsweredAll Answers accepted limit old new =
    (text : List ℕ) × IsAnswer Answers accepted limit old new text text

-- a prefix of the text was given that is not all of it
abbrev pub AnsweredPart : TextOf → ℕ → Told → Told → Type 0
AnsweredPart Answers limit old new = (accepted : Bool) × (front : List ℕ) × (others : List ℕ)
    × (0 < length others) × IsAnswer Answers accepted limit old new (front ++ others) front

-- The whole input was answered by its text, or a prefix of it that is not all if a write failed.
-- If it was not taken whole, nothing was given, nor if it was and memory ran out then.
abbrev pub AnswersInput : TextOf → Option Told → Option Told → ℕ → Result Bool AnswerError → Type 0
AnswersInput Answers old new limit (Ok accepted) =
    Both old new (AnsweredAll Answers accepted limit)
AnswersInput Answers old new limit (Err (answer.Input error)) =
    Both old new (TookBefore error limit)
AnswersInput Answers old new limit (Err answer.Memory) = Both old new (TookAll limit)
AnswersInput Answers old new limit (Err answer.Write) = Both old new (AnsweredPart Answers limit)
