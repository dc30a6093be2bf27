-- A count of faults rises exactly if a fault is answered.
use Rattle.std.specs.Prelude.{◌≡◌, ℕ, ◌+◌, ◌-◌, ◌^◌, ◌≤◌, min, OnOk, OnErr, Result}

-- the count rose, or stands at the greatest value of a u64
abbrev pub Rose : ℕ → ℕ → Type 0
Rose before now = min (before + 1) (2 ^ 64 - 1) ≤ now

-- the count never falls; it rose if there was this fault, and is as before if there was none
pub record CountsFault (before now : ℕ) (Fault : Type 0) : Type 0 where
  pub later : before ≤ now
  pub rose : Fault → Rose before now
  pub kept : ¬ Fault → now ≡ before

-- the count never falls, and it changes only with a fault, with which it rose
pub record HasCause {T E : Type 0} (before now : ℕ) (result : Result T E) : Type 0 where
  pub later : before ≤ now
  pub kept : OnOk result (now ≡ before)
  pub failed : OnErr result (Rose before now)

-- the counts of faults of a link over the standard streams
pub record FaultCounts : Type 0 where
  pub reads : ℕ
  pub writes : ℕ
