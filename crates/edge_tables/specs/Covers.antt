-- Carriers that have no cell in common, and entries by cases that have such carriers.
use Rattle.std.specs.Prelude.{◌≡◌, ◌≢◌, ℕ, ◌+◌, ◌-◌, ◌^◌, ◌<◌, Bool, true, List, length}
use Rattle.std.specs.Prelude.{map, min, slice_get, sum_by, All, IfSome, None}
use Rattle.std.specs.List.{filter_map, list_any}
use Rattle.hex_cells.specs.Sets.{has}
use Rattle.edge_tables.specs.declared.entries.EdgeEntry.{EdgeEntry}

-- the carrier at place p of the list has cell k
abbrev pub HasAt : List ℕ → ℕ → ℕ → Type 0
HasAt carriers k p = IfSome (slice_get carriers p) (λ c. has c k ≡ true)

-- no cell of the region is of the carriers at all these places
abbrev pub ShareNoCell : List ℕ → ℕ → List ℕ → Type 0
ShareNoCell carriers region places =
    (k : ℕ) → has region k ≡ true → ¬ (All (HasAt carriers k) places)

-- places of the list, whose carriers have no cell of the region in common if there are places
pub record IsCover (carriers : List ℕ) (region : ℕ) (places : List ℕ) : Type 0 where
  pub within : All (λ p. p < length carriers) places
  pub apart : 0 < length places → ShareNoCell carriers region places

-- an entry's carrier
abbrev pub carrier_of : EdgeEntry → ℕ
carrier_of e = e.carrier

-- the entries at these places of a list, as cases
abbrev pub cases_at : List EdgeEntry → List ℕ → List EdgeEntry
cases_at es places = filter_map (λ p. slice_get es p) places

-- one of the entries' carriers has cell k
abbrev pub is_covered : List EdgeEntry → ℕ → Bool
is_covered es k = list_any (λ (e : EdgeEntry). has e.carrier k) es

-- the lines of these entries together
abbrev pub line_sum : List EdgeEntry → ℕ
line_sum es = sum_by (λ (e : EdgeEntry). e.lines) es

-- the entry by these cases: it has their cells, and a line more than they have
pub record IsOfCases (cases : List EdgeEntry) (e : EdgeEntry) : Type 0 where
  pub cells : (k : ℕ) → has e.carrier k ≡ is_covered cases k
  pub lines : e.lines ≡ min (1 + line_sum cases) (2 ^ 32 - 1)
  pub by_cases : e.report ≡ None

-- the entry by those at several places of the list, which have no cell of the region in common
pub record IsByCases (region : ℕ) (es : List EdgeEntry) (e : EdgeEntry) : Type 0 where
  pub places : List ℕ
  pub some : 0 < length places
  pub several : length places ≢ 1
  pub cover : IsCover (map carrier_of es) region places
  pub of_them : IsOfCases (cases_at es places) e
