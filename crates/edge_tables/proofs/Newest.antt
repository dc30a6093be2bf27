-- An entry is put where no other makes it needless.
use Rattle.std.proofs.Common.{◌≡◌, false, List, sym}
use Rattle.std.specs.List.{list_any}
use Rattle.std.proofs.lemmas.Bool.{cond-false}
use Rattle.edge_tables.specs.Entries.{makes_needless, newest_beside, with_newest}
use Rattle.edge_tables.specs.declared.entries.EdgeEntry.{EdgeEntry}

-- one that no other makes needless is put
pub put_beside : (e : EdgeEntry) (es : List EdgeEntry)
    → list_any (λ other. makes_needless other e) es ≡ false → newest_beside e es ≡ with_newest e es
put_beside e es none = sym (cond-false _ _ _ none)
