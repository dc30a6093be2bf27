-- A link in memory: what it tells, what it may still do, and which of its calls fail.
use Rattle.std.specs.Prelude.{ℕ, ◌+◌, ◌-◌, ◌^◌, ◌≤◌, ◌⊎◌, List, [], min, length, Contains, Result}
use Rattle.std.specs.Prelude.{Ok, Err}
use Rattle.hex_io.specs.Told.{Told}
use Rattle.hex_io.specs.declared.in_memory.Ask.{Ask}

-- what is known of a link in memory
pub record MemLinkData : Type 0 where
  pub told : Told
  -- the most bytes that one call moves
  pub piece : ℕ
  -- the most bytes that are given in all, and the most reads in all
  pub room : ℕ
  pub reads : ℕ
  -- the numbers, from 0, of the reads and writes that fail
  pub bad_reads : List ℕ
  pub bad_writes : List ℕ
  -- how many reads and writes began, so the numbers of the next ones
  pub next_read : ℕ
  pub next_write : ℕ
  pub read_faults : ℕ
  pub write_faults : ℕ

-- the next read is past the last one, or is among those that fail
abbrev pub ReadFails : MemLinkData → Type 0
ReadFails l = (l.reads ≤ l.next_read) ⊎ Contains l.bad_reads l.next_read

-- no room is left for a byte, or the next write is among those that fail
abbrev pub WriteFails : MemLinkData → Type 0
WriteFails l = (l.room ≤ length l.told.given) ⊎ Contains l.bad_writes l.next_write

-- one more, if a u64 holds it
abbrev pub one_more : ℕ → ℕ
one_more n = min (n + 1) (2 ^ 64 - 1)

-- the count of faults after an answer
abbrev pub counted : {T E : Type 0} → ℕ → Result T E → ℕ
counted faults (Ok n) = faults
counted faults (Err e) = one_more faults

-- the room that is left for bytes
abbrev pub room_left : MemLinkData → ℕ
room_left l = l.room - length l.told.given

-- as many bytes as the piece, the call and what is left allow
abbrev pub moved_of : ℕ → ℕ → ℕ → ℕ
moved_of left piece asked = min (min left piece) asked

-- the link after a read that gave this result, which tells so much
abbrev pub after_read : {T E : Type 0} → MemLinkData → Told → Result T E → MemLinkData
after_read l told r = record l {
  told = told;
  next_read = one_more l.next_read;
  read_faults = counted l.read_faults r;
}

-- the link after a write that gave this result, which tells so much
abbrev pub after_write : {T E : Type 0} → MemLinkData → Told → Result T E → MemLinkData
after_write l told r = record l {
  told = told;
  next_write = one_more l.next_write;
  write_faults = counted l.write_faults r;
}

-- the link that a program made to read these bytes, before any call
abbrev pub new_link : List ℕ → ℕ → ℕ → ℕ → List ℕ → List ℕ → MemLinkData
new_link input piece room reads bad_reads bad_writes = record {
  told = record { to_come = input; taken = []; given = []; asks = [] };
  piece = piece;
  room = room;
  reads = reads;
  bad_reads = bad_reads;
  bad_writes = bad_writes;
  next_read = 0;
  next_write = 0;
  read_faults = 0;
  write_faults = 0;
}

-- the lengths of an ask, as a pair
abbrev pub ask_pair : Ask → ℕ × ℕ
ask_pair a = (a.taken, a.given)
