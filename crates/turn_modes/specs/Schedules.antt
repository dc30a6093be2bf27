-- The schedule of mode sim: which worker makes each step.
use Rattle.std.specs.Prelude.{ℕ, ◌*◌, ◌/◌, ◌^◌, List, map}
use Rattle.play_out.specs.Streams.{state_for, stream_at, words_of}

-- the worker that a word gives, among so many
abbrev pub worker_of : ℕ → ℕ → ℕ
worker_of workers word = word * workers / 2 ^ 64

-- a schedule of so many steps: a worker for each of the first words of the generator that is made
-- from the seed
unfoldable pub schedule_of : ℕ → ℕ → ℕ → List ℕ
schedule_of workers seed steps =
    map (worker_of workers) (words_of steps (stream_at (state_for seed 0)))
