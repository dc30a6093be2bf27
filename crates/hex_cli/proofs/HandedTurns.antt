-- What follows of how a mode ends that hands in one turn.
use Rattle.std.proofs.Common.{append-nil, Result, Ok, Err, List, [], ◌≡◌, ◌≢◌, ℕ}
use Rattle.std.proofs.Common.{length, drop, Option, refl, ap, sym, ◌∙◌, inl, inr, arith}
use Rattle.std.proofs.Math.Seq.{drop-append_seam}
use Rattle.hex_io.specs.Grew.{Gave}
use Rattle.hex_io.specs.Told.{Told, Both}
use Rattle.hex_io.proofs.BothLaws.{Both-refl, Both-weaker}
use Rattle.hex_plan.specs.Turns.{TurnData}
use Rattle.htp_session.specs.Endings.{since}
use Rattle.hex_devices.specs.Devices.{LinkAndArchive}
use Rattle.hex_devices.specs.declared.errors.OutputError.{OutputError}
use Rattle.hex_devices.specs.declared.errors.OutputError.TheVariants as output
use Rattle.hex_devices.specs.declared.stops.Stop.TheVariants.{WriteFault, ArchiveFault}
use Rattle.turn_modes.specs.HandingIn.{HandsIn}
use Rattle.hex_devices.specs.Statuses.{end_of_output, status_of}
use Rattle.hex_devices.specs.declared.ends.End.TheVariants.{Stopped, Usage}
use Rattle.hex_cli.proofs.InputEnds.{IsComplete, IsLong, not_too_long}

abbrev Answer : Type 1
Answer = TurnData → List ℕ → Type 0

-- ---- nothing was taken

abbrev TookNone : Told → Told → Type 0
TookNone o n = n.taken ≡ o.taken

none_since : (o n : Told) → TookNone o n → length (since o n) ≡ 0
none_since o n e = ap (λ (l : List ℕ). length (drop (length o.taken) l))
    (e ∙ sym (append-nil o.taken)) ∙ ap length (drop-append_seam o.taken [])

gave_none : (x y : Option Told) (text : List ℕ) → Gave x y text → Both x y TookNone
gave_none x y text gave = Both-weaker x y _ _ (λ o n e. ap (λ (t : Told). t.taken) e) gave

same_none : (x y : Option Told) → y ≡ x → Both x y TookNone
same_none x y same = rw same (Both-refl x TookNone (λ o. refl))

took_none : (IsAnswer : Answer) (a b : LinkAndArchive) (result : Result (Unit {0}) OutputError)
    → HandsIn IsAnswer a b result → Both a.0 b.0 TookNone
took_none IsAnswer a b (Ok done) h = gave_none a.0 b.0 _ h.3
took_none IsAnswer a b (Err output.Memory) h = same_none a.0 b.0 h.0
took_none IsAnswer a b (Err output.Archive) h = same_none a.0 b.0 h.0
took_none IsAnswer a b (Err output.Write) h = gave_none a.0 b.0 _ h.3.4

-- ---- so the input is never too long

not_long : (result : Result (Unit {0}) OutputError) → status_of (end_of_output result) ≢ 6
not_long (Ok done) e = absurd (omega (arith, e))
not_long (Err output.Memory) e = absurd (omega (arith, e))
not_long (Err output.Archive) e = absurd (omega (arith, e))
not_long (Err output.Write) e = absurd (omega (arith, e))

pub handed_too_long : (IsAnswer : Answer) (limit : ℕ) (a b : LinkAndArchive)
    (result : Result (Unit {0}) OutputError) → HandsIn IsAnswer a b result
    → Both a.0 b.0 (IsLong limit (end_of_output result))
handed_too_long IsAnswer limit a b result h =
    Both-weaker a.0 b.0 _ _
    (λ o n none. not_too_long limit _ _ (omega (arith, none_since o n none)) (not_long result))
    (took_none IsAnswer a b result h)

-- ---- without a fault the mode is done, or memory ran out

pub handed_complete : (IsAnswer : Answer) (limit : ℕ) (a b : LinkAndArchive)
    (result : Result (Unit {0}) OutputError) → HandsIn IsAnswer a b result
    → end_of_output result ≢ Stopped WriteFault → end_of_output result ≢ Stopped ArchiveFault
    → Both a.0 b.0 (IsComplete limit (end_of_output result))
handed_complete IsAnswer limit a b (Ok done) h w v = Both-weaker a.0 b.0 _ _ (λ o n p few. inl refl)
    (took_none IsAnswer a b (Ok done) h)
handed_complete IsAnswer limit a b (Err output.Memory) h w v = Both-weaker a.0 b.0 _ _
    (λ o n p few. inr (inr refl)) (took_none IsAnswer a b (Err output.Memory) h)
handed_complete IsAnswer limit a b (Err output.Archive) h w v = absurd (v refl)
handed_complete IsAnswer limit a b (Err output.Write) h w v = absurd (w refl)

-- such a mode never ends with a usage
pub handed_no_usage : (result : Result (Unit {0}) OutputError) → end_of_output result ≢ Usage
handed_no_usage (Ok done) e = absurd (cc)
handed_no_usage (Err error) e = absurd (cc)
