-- Schedules: lists of numbers of workers.
use Rattle.std.specs.Prelude.{ℕ, nat_le, Bool, List, Option}
use Rattle.std.specs.List.{position}
use Rattle.tree_words.specs.Settings.{Setting}

-- no worker of the shape has the number n
abbrev pub is_stray : Setting → ℕ → Bool
is_stray s n = nat_le s.knobs.workers n

-- the first place whose number no worker has
abbrev pub first_stray : Setting → List ℕ → Option ℕ
first_stray s schedule = position (is_stray s) schedule
