use Rattle.std.proofs.Common.{◌≡◌, ◌*◌, ◌≤◌, take, vec_capacity, vec_len}
use Rattle.trace_audit.specs.Traces.{bytes_of}
use Rattle.trace_audit.proofs.texts.fill.Given as goal

-- the buffer has the bytes of the words so far
abbrev pub invariant-loop-word : goal.invariant-loop-word
invariant-loop-word l = record {
  items : l.buffer.items ≡ bytes_of (take l.word-index l.words);
  long : vec_len l.buffer ≡ 8 * l.word-index;
  room : vec_capacity l.fn.buffer ≤ vec_capacity l.buffer;
}
