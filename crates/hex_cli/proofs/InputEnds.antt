-- What follows of how a mode ends that takes its whole input.
use Rattle.std.proofs.Common.{Ok, Err, Result, Bool, true, false, List, ◌≡◌, ◌≢◌, ℕ, ◌+◌, ◌≤◌}
use Rattle.std.proofs.Common.{◌⊎◌, ◌++◌, length, drop, Option, refl, ap, sym, ◌∙◌, inl, inr, arith}
use Rattle.std.proofs.Common.{subst}
use Rattle.std.specs.Prelude.{◌↔◌}
use Rattle.std.proofs.Math.Seq.{drop-append_seam}
use Rattle.hex_io.specs.Told.{Told, Both}
use Rattle.hex_io.proofs.BothLaws.{Both-weaker}
use Rattle.htp_session.specs.Endings.{since}
use Rattle.hex_devices.specs.Inputs.{TextOf, TookAtMost, AnsweredAll, AnsweredPart, AnswersInput}
use Rattle.hex_devices.specs.declared.errors.AnswerError.{AnswerError}
use Rattle.hex_devices.specs.declared.errors.AnswerError.TheVariants as answer
use Rattle.hex_devices.specs.declared.errors.InputError.TheVariants as input
use Rattle.hex_devices.specs.declared.stops.Stop.TheVariants.{ReadFault, WriteFault}
use Rattle.hex_devices.specs.Statuses.{end_of_answer, status_of}
use Rattle.hex_devices.specs.declared.ends.End.{End}
use Rattle.hex_devices.specs.declared.ends.End.TheVariants.{Usage, Stopped}

taken_since : (o n : Told) (bytes : List ℕ) → n.taken ≡ o.taken ++ bytes → since o n ≡ bytes
taken_since o n bytes e = ap (drop (length o.taken)) e ∙ drop-append_seam o.taken bytes

few_since : (limit : ℕ) (o n : Told) → TookAtMost limit o n → length (since o n) ≤ limit
few_since limit o n p
    = subst (λ (l : List ℕ). length l ≤ limit) (sym (taken_since o n p.0 p.2.taken)) p.1

all_since : (Answers : TextOf) (accepted : Bool) (limit : ℕ) (o n : Told)
    → AnsweredAll Answers accepted limit o n → length (since o n) ≤ limit
all_since Answers accepted limit o n p
    = subst (λ (l : List ℕ). length l ≤ limit)
    (sym (taken_since o n o.to_come p.1.taken)) p.1.in_limit

part_since : (Answers : TextOf) (limit : ℕ) (o n : Told) → AnsweredPart Answers limit o n
    → length (since o n) ≤ limit
part_since Answers limit o n p
    = subst (λ (l : List ℕ). length l ≤ limit)
    (sym (taken_since o n o.to_come p.4.taken)) p.4.in_limit

-- ---- what is said of each end

-- too long is the end exactly if one byte more than the limit was taken
abbrev pub IsLong : ℕ → End → Told → Told → Type 0
IsLong limit end o n = (status_of end ≡ 6) ↔ (length (since o n) ≡ limit + 1)

-- within the limit the run is done, its input is rejected, or memory ran out
abbrev pub IsComplete : ℕ → End → Told → Told → Type 0
IsComplete limit end o n = length (since o n) ≤ limit
    → (status_of end ≡ 0) ⊎ (status_of end ≡ 1) ⊎ (status_of end ≡ 5)

-- ---- of a mode that takes its whole input

pub not_too_long : (limit k s : ℕ) → k ≤ limit → s ≢ 6 → (s ≡ 6) ↔ (k ≡ limit + 1)
not_too_long limit k s few other = (λ e. absurd (other e), λ e. absurd (omega (arith, e, few)))

pub input_too_long : (Answers : TextOf) (limit : ℕ) (x y : Option Told)
    (result : Result Bool AnswerError) → AnswersInput Answers x y limit result
    → Both x y (IsLong limit (end_of_answer result))
input_too_long Answers limit x y (Ok true) told
    = Both-weaker x y _ _
    (λ o n p. not_too_long limit _ 0 (all_since Answers true limit o n p)
    (λ e. omega (arith, e))) told
input_too_long Answers limit x y (Ok false) told
    = Both-weaker x y _ _
    (λ o n p. not_too_long limit _ 1 (all_since Answers false limit o n p)
    (λ e. omega (arith, e))) told
input_too_long Answers limit x y (Err (answer.Input input.Read)) told
    = Both-weaker x y _ _
    (λ o n p. not_too_long limit _ 3 (few_since limit o n p) (λ e. omega (arith, e))) told
input_too_long Answers limit x y (Err (answer.Input input.Memory)) told
    = Both-weaker x y _ _
    (λ o n p. not_too_long limit _ 5 (few_since limit o n p) (λ e. omega (arith, e))) told
input_too_long Answers limit x y (Err (answer.Input input.TooLong)) told
    = Both-weaker x y _ _
    (λ o n p. (
      λ e. subst (λ (l : List ℕ). length l ≡ limit + 1)
          (sym (taken_since o n p.0 p.2.taken)) p.1,
      λ e. refl,
    )) told
input_too_long Answers limit x y (Err answer.Memory) told
    = Both-weaker x y _ _
    (λ o n p. not_too_long limit _ 5 (few_since limit o n (p.0, p.1, p.2)) (λ e. omega (arith, e)))
    told
input_too_long Answers limit x y (Err answer.Write) told
    = Both-weaker x y _ _
    (λ o n p. not_too_long limit _ 4 (part_since Answers limit o n p) (λ e. omega (arith, e))) told

-- without a fault
pub input_complete : (Answers : TextOf) (limit : ℕ) (x y : Option Told)
    (result : Result Bool AnswerError) → AnswersInput Answers x y limit result
    → end_of_answer result ≢ Stopped ReadFault → end_of_answer result ≢ Stopped WriteFault
    → Both x y (IsComplete limit (end_of_answer result))
input_complete Answers limit x y (Ok true) told r w
    = Both-weaker x y _ _ (λ o n p few. inl refl) told
input_complete Answers limit x y (Ok false) told r w
    = Both-weaker x y _ _ (λ o n p few. inr (inl refl)) told
input_complete Answers limit x y (Err (answer.Input input.Read)) told r w = absurd (r refl)
input_complete Answers limit x y (Err (answer.Input input.Memory)) told r w
    = Both-weaker x y _ _ (λ o n p few. inr (inr refl)) told
input_complete Answers limit x y (Err (answer.Input input.TooLong)) told r w
    = Both-weaker x y _ _
    (λ o n p few. absurd (omega (
      arith,
      subst (λ (l : List ℕ). length l ≤ limit)
          (taken_since o n p.0 p.2.taken) few,
      p.1,
    ))) told
input_complete Answers limit x y (Err answer.Memory) told r w
    = Both-weaker x y _ _ (λ o n p few. inr (inr refl)) told
input_complete Answers limit x y (Err answer.Write) told r w = absurd (w refl)

-- such a mode never ends with a usage
pub input_no_usage : (result : Result Bool AnswerError) → end_of_answer result ≢ Usage
input_no_usage (Ok true) e = absurd (cc)
input_no_usage (Ok false) e = absurd (cc)
input_no_usage (Err error) e = absurd (cc)
