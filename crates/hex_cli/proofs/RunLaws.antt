-- What follows of how a session ended.
use Rattle.std.proofs.Common.{Ok, Err, ◌≡◌, ◌≢◌, ℕ, Option, refl, inl, inr}
use Rattle.std.proofs.Common.{arith}
use Rattle.hex_io.specs.Told.{Told, Both}
use Rattle.hex_io.proofs.BothLaws.{Both-weaker}
use Rattle.hex_engine.specs.declared.options.Options.{Options}
use Rattle.hex_engine.specs.Supply.{Supply}
use Rattle.hex_devices.specs.Devices.{ShelfAndArchive}
use Rattle.htp_session.specs.Endings.{Conversed}
use Rattle.hex_devices.specs.Devices.{Outcome}
use Rattle.hex_devices.specs.declared.stops.Stop.TheVariants.{ReadFault, WriteFault, Memory}
use Rattle.hex_devices.specs.declared.stops.Stop.TheVariants.{TooLong, ArchiveFault}
use Rattle.hex_devices.specs.Statuses.{end_of_outcome, stop_in}
use Rattle.hex_devices.specs.Devices.{stop_of}
use Rattle.hex_devices.specs.declared.ends.End.TheVariants.{Done, Usage, Stopped}
use Rattle.hex_cli.proofs.InputEnds.{IsComplete, IsLong, not_too_long}

-- a session's end is never that of a usage
pub outcome_no_usage : (outcome : Outcome) → end_of_outcome outcome ≢ Usage
outcome_no_usage (Ok done) e = absurd (cc)
outcome_no_usage (Err stop) e = absurd (cc)

-- without a fault and within the limit a session is done, or memory ran out
pub session_complete : (outcome : Outcome) (options : Options) (size limit : ℕ) (used : Supply)
    (a b : ShelfAndArchive) (x y : Option Told) → Conversed outcome options size limit used a b x y
    → end_of_outcome outcome ≢ Stopped ReadFault → end_of_outcome outcome ≢ Stopped WriteFault
    → end_of_outcome outcome ≢ Stopped ArchiveFault
    → Both x y (IsComplete limit (end_of_outcome outcome))
session_complete (Ok done) options size limit used a b x y told r w v
    = Both-weaker x y _ _ (λ o n p few. inl refl) told.outcome
session_complete (Err ReadFault) options size limit used a b x y told r w v = absurd (r refl)
session_complete (Err WriteFault) options size limit used a b x y told r w v = absurd (w refl)
session_complete (Err Memory) options size limit used a b x y told r w v
    = Both-weaker x y _ _ (λ o n p few. inr (inr refl)) told.outcome
session_complete (Err ArchiveFault) options size limit used a b x y told r w v = absurd (v refl)
session_complete (Err TooLong) options size limit used a b x y told r w v
    = Both-weaker x y _ _ (λ o n p few. absurd (omega (arith, p.ends.many, few))) told.outcome

-- too long is the end exactly if one byte more than the limit was taken
pub session_too_long : (outcome : Outcome) (options : Options) (size limit : ℕ) (used : Supply)
    (a b : ShelfAndArchive) (x y : Option Told) → Conversed outcome options size limit used a b x y
    → Both x y (IsLong limit (end_of_outcome outcome))
session_too_long (Ok done) options size limit used a b x y told
    = Both-weaker x y _ _
    (λ o n p. not_too_long limit _ 0 p.ends.in_limit (λ e. omega (arith, e))) told.outcome
session_too_long (Err ReadFault) options size limit used a b x y told
    = Both-weaker x y _ _
    (λ o n p. not_too_long limit _ 3 p.ends.in_limit (λ e. omega (arith, e))) told.outcome
session_too_long (Err WriteFault) options size limit used a b x y told
    = Both-weaker x y _ _
    (λ o n p. not_too_long limit _ 4 p.ends.in_limit (λ e. omega (arith, e))) told.outcome
session_too_long (Err Memory) options size limit used a b x y told
    = Both-weaker x y _ _
    (λ o n p. not_too_long limit _ 5 p.ends.in_limit (λ e. omega (arith, e))) told.outcome
session_too_long (Err ArchiveFault) options size limit used a b x y told
    = Both-weaker x y _ _
    (λ o n p. not_too_long limit _ 7 p.ends.in_limit (λ e. omega (arith, e))) told.outcome
session_too_long (Err TooLong) options size limit used a b x y told
    = Both-weaker x y _ _ (λ o n p. (λ e. p.ends.many, λ e. refl)) told.outcome

-- why a session stopped is why its run did
pub stop_in_end : (outcome : Outcome) → stop_in (end_of_outcome outcome) ≡ stop_of outcome
stop_in_end (Ok done) = refl
stop_in_end (Err stop) = refl

-- a run that is done had a session that is done
pub done_outcome : (outcome : Outcome) → Done ≡ end_of_outcome outcome → outcome ≡ Ok tt
done_outcome (Ok done) e = refl
done_outcome (Err stop) e = absurd (cc)
