-- What follows of the status of a run.
use Rattle.std.proofs.Common.{◌≡◌, ◌≢◌, ◌⊎◌, ◌∙◌, ℕ, Some, Option, Result, Ok, Err, inl, inr, refl}
use Rattle.std.proofs.Common.{sym}
use Rattle.hex_io.specs.Causes.{CountsFault}
use Rattle.hex_io.specs.Told.{Told}
use Rattle.hex_devices.specs.Statuses.{HasStopped, status_of}
use Rattle.hex_devices.specs.declared.ends.End.{End}
use Rattle.hex_devices.specs.declared.ends.End.TheVariants.{Done, Usage, Stopped}
use Rattle.hex_devices.specs.declared.stops.Stop.TheVariants.{WriteFault, Memory}
use Rattle.hex_devices.proofs.StatusLaws.{same_end}
use Rattle.match_ref.specs.MatchRuns.{IsMatchRefusal, IsMatchStatus, Referees, end_of_match}
use Rattle.match_ref.specs.declared.refusals.MatchError.{MatchError}
use Rattle.match_ref.specs.declared.refusals.MatchError.TheVariants as error
use Rattle.match_ref.specs.declared.words.MatchWords.{MatchWords}

-- what is neither a usage nor a write fault is done, or memory ran out
pub complete_at : (end : End) (status : ℕ) → status ≡ status_of end → IsMatchStatus (status_of end)
    → end ≢ Usage → end ≢ Stopped WriteFault → (status ≡ status_of Done) ⊎ HasStopped status Memory
complete_at end status e (inl done) usage fault = inl (e ∙ done)
complete_at end status e (inr (inl used)) usage fault = absurd (usage (same_end end Usage used))
complete_at end status e (inr (inr (inl failed))) usage fault
    = absurd (fault (same_end end (Stopped WriteFault) failed))
complete_at end status e (inr (inr (inr memory))) usage fault = inr (e ∙ memory)

-- a refusal is a usage, or memory ran out
pub refused_end : (end : End) (status : ℕ) → status ≡ status_of end → IsMatchRefusal status
    → (end ≡ Usage) ⊎ (end ≡ Stopped Memory)
refused_end end status e (inl used) = inl (same_end end Usage (sym e ∙ used))
refused_end end status e (inr memory) = inr (same_end end (Stopped Memory) (sym e ∙ memory))

-- with neither of them a write failed
pub no_write_fault : (end : End) → (end ≡ Usage) ⊎ (end ≡ Stopped Memory) → end ≢ Stopped WriteFault
no_write_fault end (inl used) failed = cc
no_write_fault end (inr memory) failed = cc

-- two that were asked for by the same words are one
pub same_asked : (o : Option MatchWords) (a w : MatchWords) → o ≡ Some a → o ≡ Some w → a ≡ w
same_asked o a w is other = cc

-- ---- of a match that was refereed

pub match_status : (outcome : Result (Unit {0}) MatchError)
    → IsMatchStatus (status_of (end_of_match outcome))
match_status (Ok done) = inl refl
match_status (Err error.Memory) = inr (inr (inr refl))
match_status (Err error.Write) = inr (inr (inl refl))

-- it never ends with a usage
pub match_no_usage : (outcome : Result (Unit {0}) MatchError) → end_of_match outcome ≢ Usage
match_no_usage (Ok done) e = absurd (cc)
match_no_usage (Err error.Memory) e = absurd (cc)
match_no_usage (Err error.Write) e = absurd (cc)

-- if memory ran out nothing was given
pub match_untouched : (outcome : Result (Unit {0}) MatchError) (w : MatchWords)
    (old new : Option Told) → Referees outcome w old new
    → (end_of_match outcome ≡ Usage) ⊎ (end_of_match outcome ≡ Stopped Memory) → new ≡ old
match_untouched outcome w old new r (inl used) = absurd (match_no_usage outcome used)
match_untouched (Ok done) w old new r (inr memory) = absurd (cc)
match_untouched (Err error.Memory) w old new r (inr memory) = r
match_untouched (Err error.Write) w old new r (inr memory) = absurd (cc)

-- a count that rose with a failed write rose with its stop
pub match_counts : (before now : ℕ) (outcome : Result (Unit {0}) MatchError)
    → CountsFault before now (outcome ≡ Err error.Write)
    → CountsFault before now (end_of_match outcome ≡ Stopped WriteFault)
match_counts before now (Ok done) c =
    record { later = c.later; rose = λ e. absurd (cc); kept = λ e. c.kept (λ i. cc) }
match_counts before now (Err error.Memory) c =
    record { later = c.later; rose = λ e. absurd (cc); kept = λ e. c.kept (λ i. cc) }
match_counts before now (Err error.Write) c =
    record { later = c.later; rose = λ e. c.rose refl; kept = λ e. absurd (e refl) }
