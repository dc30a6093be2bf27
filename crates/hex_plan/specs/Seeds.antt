-- The seed of each turn's search.
use Rattle.std.specs.Prelude.{ℕ, ◌+◌, ◌*◌, ◌%◌, ◌^◌}
use Rattle.tree_words.specs.declared.settings.Knobs.{Knobs}

-- the knobs with the seed of this turn: S + number·2^32 modulo 2^64, S being their own seed
abbrev pub turn_knobs : Knobs → ℕ → Knobs
turn_knobs knobs number =
    record knobs { seed = (knobs.seed + number * 2 ^ 32) % 2 ^ 64 }
