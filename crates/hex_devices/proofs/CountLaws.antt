-- What one call after another did to the counts of faults.
use Rattle.std.proofs.Common.{◌≡◌, ◌∙◌, ℕ, Option, None, Some, refl, subst, arith}
use Rattle.hex_io.specs.Causes.{CountsFault}
use Rattle.hex_devices.specs.Devices.{DevicesState, CountsStop}
use Rattle.hex_devices.specs.declared.stops.Stop.{Stop}
use Rattle.hex_devices.specs.declared.stops.Stop.TheVariants.{ReadFault, WriteFault, Memory}
use Rattle.hex_devices.specs.declared.stops.Stop.TheVariants.{ArchiveFault}

-- ---- one count

pub count_same : (n : ℕ) (t : Stop) (stop : Option Stop) → (stop ≡ Some t → ⊥)
    → CountsFault n n (stop ≡ Some t)
count_same n t stop none =
    record { later = omega arith; rose = λ e. absurd (none e); kept = λ e. refl }

count_then : (a b c : ℕ) (t : Stop) (stop : Option Stop) → CountsFault a b (None ≡ Some t)
    → CountsFault b c (stop ≡ Some t) → CountsFault a c (stop ≡ Some t)
count_then a b c t stop p q =
    subst (λ n. CountsFault n c (stop ≡ Some t)) (p.kept (λ e. absurd (cc))) q

-- ---- all of them

-- a stop that is none of a fault, where nothing was read, written or handed over
pub counts_same : (d : DevicesState) (stop : Option Stop) → (stop ≡ Some ReadFault → ⊥)
    → (stop ≡ Some WriteFault → ⊥) → (stop ≡ Some ArchiveFault → ⊥) → CountsStop d d stop
counts_same d stop read write archive = record {
  reads = count_same d.read_faults ReadFault stop read;
  writes = count_same d.write_faults WriteFault stop write;
  archives = count_same d.archive_faults ArchiveFault stop archive;
  names = refl;
}

-- where nothing was read, written or handed over
pub counts_nothing : (d : DevicesState) → CountsStop d d None
counts_nothing d = counts_same d None (λ e. cc) (λ e. cc) (λ e. cc)

-- a call that did not stop, and one after it
pub counts_then : (a b c : DevicesState) (stop : Option Stop) → CountsStop a b None
    → CountsStop b c stop → CountsStop a c stop
counts_then a b c stop p q = record {
  reads = count_then a.read_faults b.read_faults c.read_faults ReadFault stop p.reads q.reads;
  writes = count_then a.write_faults b.write_faults c.write_faults WriteFault stop p.writes q.writes;
  archives = count_then a.archive_faults b.archive_faults c.archive_faults ArchiveFault stop
      p.archives q.archives;
  names = q.names ∙ p.names;
}

-- memory ran out after a call that did not stop
pub counts_memory : (a b : DevicesState) → CountsStop a b None → CountsStop a b (Some Memory)
counts_memory a b p = counts_then a b b (Some Memory) p
    (counts_same b (Some Memory) (λ e. cc) (λ e. cc) (λ e. cc))
