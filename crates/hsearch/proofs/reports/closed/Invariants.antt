use Rattle.std.proofs.Common.{ℕ, ◌≡◌, ◌+◌, ◌-◌, ◌<◌, ◌≤◌, length, map, Contains}
use Rattle.hex_board.specs.Elements.{element_count}
use Rattle.conn_store.specs.declared.entries.TheConstants.{MOST_ENTRIES}
use Rattle.conn_store.specs.Stores.{IsSound}
use Rattle.hsearch.specs.Listed.{AreListed}
use Rattle.hsearch.specs.Taken.{AreMarked, AreNearBelow, AreTaken}
use Rattle.hsearch.proofs.reports.closed.Given as goal

abbrev pub invariant-entries : goal.invariant-entries
invariant-entries l = record {
  elements : l.store.elements ≡ l.fn.store.elements;
  sound : IsSound l.store;
  near : AreNearBelow l.store (element_count l.store.elements);
  taken : AreTaken l.store l.waiting;
  marked : AreMarked l.store l.taken.items l.waiting;
  places : length l.taken.items ≤ length l.store.entries;
  listed : AreListed l.store l.taken.items (map (λ q. q.items) l.lists.items);
  within : (i : ℕ) → Contains l.waiting i → i < length l.store.entries;
}

abbrev pub decreases-entries : goal.decreases-entries
decreases-entries l = (MOST_ENTRIES - length l.store.entries) + length l.waiting
