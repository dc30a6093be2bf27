-- The words of a playout's generator, and the shuffle that they make.
use Rattle.std.specs.Prelude.{ℕ, ◌+◌, ◌*◌, ◌/◌, ◌%◌, ◌^◌, List, [], ◌∷◌, zero, suc}
use Rattle.std.specs.List.{swap}
use Rattle.rand_core.specs.Stream.{Stream, next_u64}
use Rattle.rand_core.specs.Steps.{stream_of, steps_u64_high}
use Rattle.rand_xoshiro.specs.SplitMix64.{splitmix_seed}
use Rattle.rand_xoshiro.specs.Xoshiro256.{of_seed, plus_plus}

-- what a Xoshiro256PlusPlus in this state answers from now on
abbrev pub stream_at : List ℕ → Stream
stream_at state = stream_of (steps_u64_high plus_plus) state

-- the state of the generator of playout k of a search with this seed: `seed_from_u64` of seed + k
-- modulo 2^64
abbrev pub state_for : ℕ → ℕ → List ℕ
state_for seed k = of_seed (splitmix_seed 32 ((seed + k) % 2 ^ 64))

-- the first n outputs of 64 bits of a stream
unfoldable pub words_of : ℕ → Stream → List ℕ
words_of zero stream = []
words_of (suc n) stream = (next_u64 stream).0 ∷ words_of n (next_u64 stream).1

-- the place that a word gives among the places 0 to i
abbrev pub place_of : ℕ → ℕ → ℕ
place_of word i = word * (i + 1) / 2 ^ 64

-- the cells after a shuffle of the places 0 to i: for each place from i down to 1 the next word
-- gives a place, and the cells at both change places
unfoldable pub shuffled : ℕ → List ℕ → List ℕ → List ℕ
shuffled zero words cells = cells
shuffled (suc i) [] cells = cells
shuffled (suc i) (word ∷ words) cells =
    shuffled i words (swap cells (suc i) (place_of word (suc i)))
