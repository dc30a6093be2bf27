use Rattle.std.proofs.Common.{◌≡◌, ℕ, ◌*◌, ◌≤◌, take, drop}
use Rattle.std.specs.Prelude.{slice_index}
use Rattle.trace_audit.specs.Traces.{bytes_of}
use Rattle.trace_audit.specs.Told.{AreWords}
use Rattle.trace_audit.proofs.parsing.read_words.Given as goal

abbrev pub invariant-words : goal.invariant-words
invariant-words l =
    (bytes_of (take l.i l.words) ≡ take (8 * l.i) (drop l.at l.bytes))
    × ((i : ℕ) → l.i ≤ i → slice_index l.words i ≡ slice_index l.initial.words i)
    × (AreWords l.initial.words → AreWords l.words)
