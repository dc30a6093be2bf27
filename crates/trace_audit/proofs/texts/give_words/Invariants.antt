use Rattle.std.proofs.Common.{◌≡◌, ◌-◌, ◌≤◌, length, take, vec_capacity}
use Rattle.hex_io.specs.Grew.{Gave}
use Rattle.trace_audit.specs.Traces.{bytes_of}
use Rattle.trace_audit.specs.declared.texts.TheConstants.{BUFFER_BYTES}
use Rattle.trace_audit.proofs.texts.give_words.Given as goal

-- the bytes of the words so far were given, and no fault was counted
abbrev pub invariant-pieces : goal.invariant-pieces
invariant-pieces g l = record {
  room : BUFFER_BYTES ≤ vec_capacity l.buffer;
  in_words : l.at ≤ length l.words;
  gave : Gave (g.W.Link.told l.fn.link) (g.W.Link.told l.link) (bytes_of (take l.at l.words));
  kept : g.W.Link.write_faults l.link ≡ g.W.Link.write_faults l.fn.link;
  reads : g.W.Link.read_faults l.link ≡ g.W.Link.read_faults l.fn.link;
}

abbrev pub decreases-pieces : goal.decreases-pieces
decreases-pieces g l = length l.words - l.at
