-- The workers that the words of a generator give, one by one.
use Rattle.std.proofs.Common.{◌≡◌, ℕ, suc, ◌+◌, ◌-◌, ◌%◌, ◌^◌, ◌<◌, ◌≤◌, List, [], ◌∷◌, ◌++◌}
use Rattle.std.proofs.Common.{length, map, get_or, All, Some, true, sym, ap, ◌∙◌, append_assoc}
use Rattle.std.proofs.Common.{append-nil, length-append, arith}
use Rattle.std.specs.Prelude.{nat_le}
use Rattle.std.proofs.lemmas.Bool.Decides.{nat_tests}
use Rattle.std.proofs.lemmas.List.Quantifiers.{position-Some}
use Rattle.rand_core.specs.Stream.{Stream, next_u64}
use Rattle.rand_xoshiro.specs.SplitMix64.{splitmix_seed}
use Rattle.rand_xoshiro.specs.Xoshiro256.{of_seed}
use Rattle.play_out.specs.Streams.{state_for, stream_at, words_of}
use Rattle.tree_words.specs.Settings.{Setting}
use Rattle.sim_run.specs.Schedules.{first_stray, is_stray}
use Rattle.turn_modes.specs.Schedules.{schedule_of, worker_of}

-- the workers of the words that are left of so many
abbrev pub workers_left : ℕ → ℕ → List ℕ → List ℕ → List ℕ
workers_left workers steps list state
    = map (worker_of workers) (words_of (steps - length list) (stream_at state))

pub first_step : (workers seed steps : ℕ) (list state : List ℕ) → seed < 2 ^ 64 → list ≡ []
    → state ≡ of_seed (splitmix_seed 32 seed)
    → list ++ workers_left workers steps list state ≡ schedule_of workers seed steps
unfolding schedule_of
first_step workers seed steps list state l e f =
    let alone : seed ≡ (seed + 0) % 2 ^ 64 = omega arith in
    let state' : state ≡ state_for seed 0 = f ∙ ap (λ n. of_seed (splitmix_seed 32 n)) alone in
    let all : steps - 0 ≡ steps = omega arith in
    ap (λ xs. xs ++ workers_left workers steps xs state) e
    ∙ ap (λ n. map (worker_of workers) (words_of n (stream_at state))) all
    ∙ ap (λ (s : List ℕ). map (worker_of workers) (words_of steps (stream_at s))) state'

one_word_more : (n m : ℕ) (stream : Stream) → n ≡ suc m
    → words_of n stream ≡ (next_u64 stream).0 ∷ words_of m (next_u64 stream).1
unfolding words_of
one_word_more n m stream e = ap (λ k. words_of k stream) e

pub next_step : (workers steps word worker seed : ℕ) (list next state after : List ℕ)
    → length list < steps → (word, stream_at after) ≡ next_u64 (stream_at state)
    → worker ≡ worker_of workers word → next ≡ list ++ worker ∷ []
    → list ++ workers_left workers steps list state ≡ schedule_of workers seed steps
    → next ++ workers_left workers steps next after ≡ schedule_of workers seed steps
next_step workers steps word worker seed list next state after l e f g h =
    let many : length next ≡ length list + 1 = ap length g ∙ length-append list (worker ∷ []) in
    let w : word ≡ (next_u64 (stream_at state)).0 = ap (λ (p : ℕ × Stream). p.0) e in
    let r : stream_at after ≡ (next_u64 (stream_at state)).1 = ap (λ (p : ℕ × Stream). p.1) e in
    let left : workers_left workers steps list state ≡ worker ∷ workers_left workers steps next
    after =
    ap (map (worker_of workers))
    (one_word_more (steps - length list) (steps - length next) (stream_at state) (omega arith))
    ∙ ap (λ v. worker_of workers v ∷ map (worker_of workers)
    (words_of (steps - length next) (next_u64 (stream_at state)).1)) (sym w)
    ∙ ap (λ v. v ∷ map (worker_of workers)
    (words_of (steps - length next) (next_u64 (stream_at state)).1)) (sym f)
    ∙ ap (λ (s : Stream). worker ∷ map (worker_of workers) (words_of (steps - length next) s))
    (sym r) in
    ap (λ xs. xs ++ workers_left workers steps next after) g
    ∙ append_assoc list (worker ∷ []) (workers_left workers steps next after)
    ∙ ap (λ xs. list ++ xs) (sym left) ∙ h

pub last_step : (workers steps seed : ℕ) (list state : List ℕ) → steps ≤ length list
    → list ++ workers_left workers steps list state ≡ schedule_of workers seed steps
    → list ≡ schedule_of workers seed steps
unfolding words_of
last_step workers steps seed list state l h =
    let none : steps - length list ≡ 0 = omega arith in
    sym (append-nil list) ∙ ap (λ n. list ++ map (worker_of workers) (words_of n (stream_at state)))
    (sym none) ∙ h

-- if each number is a worker's, none is a stray one
pub no_stray : (s : Setting) (schedule : List ℕ) (at : ℕ)
    → All (λ worker. worker < s.knobs.workers) schedule → first_stray s schedule ≡ Some at → ⊥
no_stray s schedule at below e =
    let p = position-Some (is_stray s) schedule at 0 e in
    clash s.knobs.workers (get_or schedule at 0) (below at 0 p.0) p.1
  where
    clash : (k x : ℕ) → x < k → nat_le k x ≡ true → ⊥
    clash k x l e = grind (arith, nat_tests)
