-- The entries of tables, and which of them lie inside a region.
use Rattle.std.specs.Prelude.{◌≡◌, ℕ, Bool, true, false, ◌+◌, ◌*◌, ◌^◌, ◌≤◌, ◌==◌, ◌&&◌, ◌||◌}
use Rattle.std.specs.Prelude.{◌≢◌, ◌∷◌, ◌++◌, if◌then◌else◌, not, List, [], Option, None, Some}
use Rattle.std.specs.Prelude.{nat_le, All, Contains, filter}
use Rattle.std.specs.List.{list_all, list_any}
use Rattle.std.specs.Option.{option_map_or}
use Rattle.std.specs.Global.{Vec}
use Rattle.indexmap.specs.IndexMap.{get}
use Rattle.hex_cells.specs.Sets.{has, members, without_cells}
use Rattle.hex_cells.specs.declared.board_size.TheConstants.{MOST_CELLS}
use Rattle.edge_tables.specs.declared.entries.EdgeEntry.{EdgeEntry}
use Rattle.edge_tables.specs.declared.entries.Key.{Key}
use Rattle.edge_tables.specs.contracts.entries.KeyPartialEq.TheImpl as keys
use Rattle.edge_tables.specs.declared.tables.Tables.{Tables}

-- how wide an entry is: cells count before lines
abbrev pub width : EdgeEntry → ℕ
width e = members e.carrier MOST_CELLS * 2 ^ 32 + e.lines

-- the entry's carrier lies inside the region: no cell of it is outside
abbrev pub is_inside : ℕ → EdgeEntry → Bool
is_inside region e = without_cells e.carrier region == 0

-- cell k is of the region, and of the carrier of each of the entries inside the region
abbrev pub is_common : ℕ → List EdgeEntry → ℕ → Bool
is_common region es k =
    has region k && list_all (λ (e : EdgeEntry). not (is_inside region e) || has e.carrier k) es

-- two keys are the same
abbrev pub same_key : Key → Key → Bool
same_key = (keys.ghosts).eq

-- the list of a key, if there is one
abbrev pub list_of : Tables → Key → Option (Vec EdgeEntry)
list_of tables key = get same_key tables.known key

-- the entries of a key, the newest last
abbrev pub entries_of : Tables → Key → List EdgeEntry
entries_of tables key = option_map_or (λ list. list.items) (list_of tables key) []

-- an entry of the list that lies inside the region, and none of those inside is narrower
pub record IsNarrowest (region : ℕ) (es : List EdgeEntry) (e : EdgeEntry) : Type 0 where
  pub there : Contains es e
  pub inside : is_inside region e ≡ true
  pub least : All (λ (other : EdgeEntry). is_inside region other ≡ true → width e ≤ width other) es

-- such an entry, or none exactly if none lies inside
abbrev pub IsNarrowestInside : ℕ → List EdgeEntry → Option EdgeEntry → Type 0
IsNarrowestInside region es None = All (λ (e : EdgeEntry). is_inside region e ≡ false) es
IsNarrowestInside region es (Some e) = IsNarrowest region es e

-- An entry makes the other needless: its carrier lies inside the other's, and it has at most twice
-- as many lines, or if the carriers are equal at most as many.
abbrev pub makes_needless : EdgeEntry → EdgeEntry → Bool
makes_needless e other = if e.carrier == other.carrier then nat_le e.lines other.lines
    else (is_inside other.carrier e && nat_le e.lines (2 * other.lines))

-- those of the entries that this one doesn't make needless, and it as the newest
abbrev pub newest_beside : EdgeEntry → List EdgeEntry → List EdgeEntry
newest_beside e es = filter (λ other. not (makes_needless e other)) es ++ e ∷ []

-- the same, or the entries as they are if one of them makes this one needless
abbrev pub with_newest : EdgeEntry → List EdgeEntry → List EdgeEntry
with_newest e es = if list_any (λ other. makes_needless other e) es then es else newest_beside e es

-- two tables differ at most in the entries of this key
abbrev pub AgreeBut : Key → Tables → Tables → Type 0
AgreeBut key old new = (k : Key) → k ≢ key → entries_of new k ≡ entries_of old k
