-- What a report shows of a player's edges. Only private clauses cite this.
use Rattle.std.specs.Prelude.{◌≡◌, ℕ}
use Rattle.hex_board.specs.Elements.{PlayerBoard}
use Rattle.conn_store.specs.Laws.{IsSureOfEdges}
use Rattle.conn_store.specs.declared.entries.Entry.{Entry}
use Rattle.conn_store.specs.declared.entries.Kind.{Kind}

-- on his board the player is sure of linking his two edges inside some empty cells
abbrev pub IsSureAcross : Kind → PlayerBoard → Type 0
IsSureAcross kind e = (c : ℕ) × IsSureOfEdges kind e e.board c

-- the entry has this kind, and the elements of the edges of a player who isn't joined
abbrev pub IsAcross : Kind → Entry → Type 0
IsAcross kind a = (a.kind ≡ kind) × (a.x ≡ 0) × (a.y ≡ 1)
