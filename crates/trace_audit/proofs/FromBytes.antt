-- The words that stand in bytes.
use Rattle.std.proofs.Common.{◌≡◌, ℕ, zero, suc, ◌+◌, ◌*◌, ◌<◌, ◌≤◌, ◌^◌, List, [], ◌++◌, length}
use Rattle.std.proofs.Common.{take, drop, refl, sym, ap, ◌∙◌, ⊎_elim, arith}
use Rattle.std.specs.Prelude.{slice_index}
use Rattle.std.specs.Int.{w64, to_le_bytes, from_le_bytes}
use Rattle.std.proofs.lemmas.Bool.{cases_lt}
use Rattle.std.proofs.lemmas.List.{drop-drop, drop_all, get_or-take, get_or-drop, get_or_past}
use Rattle.std.proofs.lemmas.List.{length-take, length-take-le, length-drop}
use Rattle.std.proofs.lemmas.Nat.{from_le_bytes-to_le_bytes_8, le_bytes_8}
use Rattle.std.proofs.Math.Seq.{take-add}
use Rattle.trace_audit.specs.Traces.{bytes_of}
use Rattle.trace_audit.specs.Told.{AreWords}
use Rattle.trace_audit.specs.WordLists.{words_from}

pub from_long : (n : ℕ) (bytes : List ℕ) → length (words_from n bytes) ≡ n
unfolding words_from
from_long zero bytes = refl
from_long (suc n) bytes = ap suc (from_long n (drop 8 bytes))

-- the word of number i
from_at : (n i : ℕ) (bytes : List ℕ) → i < n
    → slice_index (words_from n bytes) i ≡ from_le_bytes w64 (take 8 (drop (8 * i) bytes))
unfolding words_from
from_at zero i bytes l = absurd (omega (arith, l))
from_at (suc n) zero bytes l = refl
from_at (suc n) (suc i) bytes l =
    let next : 8 + 8 * i ≡ 8 * suc i = omega arith in
    from_at n i (drop 8 bytes) (omega (arith, l))
    ∙ ap (λ (z : List ℕ). from_le_bytes w64 (take 8 z))
    (drop-drop (8 * i) 8 bytes ∙ ap (λ (k : ℕ). drop k bytes) next)

no_bytes : from_le_bytes w64 (take 8 []) ≡ 0
no_bytes = omega arith

-- behind the bytes' end the words are 0
pub from_past : (n i : ℕ) (bytes : List ℕ) → length bytes ≤ 8 * i
    → slice_index (words_from n bytes) i ≡ 0
from_past n i bytes past = ⊎_elim
    (λ (l : i < n). from_at n i bytes l ∙ ap (λ (z : List ℕ). from_le_bytes w64 (take 8 z)) (drop_all (8 * i) bytes past) ∙ no_bytes)
    (λ (l : n ≤ i). get_or_past (words_from n bytes) i 0 (omega (arith, l, from_long n bytes)))
    (cases_lt i n)

-- a word as it is read
pub from_read : (n i w : ℕ) (bytes : List ℕ) → i < n → w < 2 ^ 64
    → to_le_bytes w64 w ≡ take 8 (drop (8 * i) bytes) → w ≡ slice_index (words_from n bytes) i
from_read n i w bytes l fits e = sym (from_le_bytes-to_le_bytes_8 w fits) ∙ ap (from_le_bytes w64) e
    ∙ sym (from_at n i bytes l)

module _ (bytes : List ℕ) (small : (k : ℕ) → slice_index bytes k < 256) where
  pub taken_small : (k n i : ℕ) → slice_index (take n (drop k bytes)) i < 256
  taken_small k n i = ⊎_elim
      (λ (l : i < n). omega (arith, get_or-take n (drop k bytes) i 0 l, get_or-drop k bytes i 0, small (k + i)))
      (λ (l : n ≤ i). omega (arith, get_or_past (take n (drop k bytes)) i 0 (omega (arith, l, length-take n (drop k bytes)))))
      (cases_lt i n)

  word_small : (k : ℕ) → from_le_bytes w64 (take 8 (drop k bytes)) < 2 ^ 64
  word_small k =
      let s = taken_small k 8 in
      omega (arith, s 0, s 1, s 2, s 3, s 4, s 5, s 6, s 7)

  -- each is a 64-bit number
  pub from_words : (n : ℕ) → AreWords (words_from n bytes)
  from_words n i = ⊎_elim
      (λ (l : i < n). omega (arith, from_at n i bytes l, word_small (8 * i)))
      (λ (l : n ≤ i). omega (arith, get_or_past (words_from n bytes) i 0 (omega (arith, l, from_long n bytes))))
      (cases_lt i n)

-- the first q words are written as the bytes are
pub from_stand : (n q : ℕ) (bytes : List ℕ) → ((k : ℕ) → slice_index bytes k < 256) → q ≤ n
    → 8 * q ≤ length bytes → bytes_of (take q (words_from n bytes)) ≡ take (8 * q) bytes
unfolding words_from
from_stand n zero bytes small l m = refl
from_stand zero (suc q) bytes small l m = absurd (omega (arith, l))
from_stand (suc n) (suc q) bytes small l m =
    let first : to_le_bytes w64 (from_le_bytes w64 (take 8 bytes)) ≡ take 8 bytes
    = le_bytes_8 (take 8 bytes) _ (length-take-le 8 bytes (omega (arith, m)))
    (taken_small bytes small 0 8) refl in
    let rest : bytes_of (take q (words_from n (drop 8 bytes))) ≡ take (8 * q) (drop 8 bytes)
    = from_stand n q (drop 8 bytes) (λ k. omega (arith, get_or-drop 8 bytes k 0, small (8 + k)))
    (omega (arith, l)) (omega (arith, m, length-drop 8 bytes)) in
    let all : 8 + 8 * q ≡ 8 * suc q = omega arith in
    (λ i. first i ++ rest i) ∙ sym (take-add 8 (8 * q) bytes) ∙ ap (λ (k : ℕ). take k bytes) all
