-- Words as bytes: read one by one, and told by their bytes.
use Rattle.std.proofs.Common.{◌≡◌, ℕ, zero, suc, ◌+◌, ◌*◌, ◌<◌, ◌^◌, List, [], ◌∷◌, ◌++◌, length}
use Rattle.std.proofs.Common.{take, drop, set, replicate, refl, sym, ap, ◌∙◌, arith, append_assoc}
use Rattle.std.proofs.Common.{length-append}
use Rattle.std.specs.Int.{w64, to_le_bytes, from_le_bytes}
use Rattle.std.proofs.Math.Seq.{take-add}
use Rattle.std.proofs.lemmas.List.{take_more_set, append-nil, drop-drop, append_cancel_left}
use Rattle.std.proofs.lemmas.List.Concat.{flat_map-append}
use Rattle.std.proofs.lemmas.Nat.{from_le_bytes-to_le_bytes_8}
use Rattle.trace_audit.specs.Traces.{bytes_of}
use Rattle.trace_audit.specs.Told.{AreWords}

-- with one word more
pub more_words : (bytes words : List ℕ) (at i w : ℕ) → i < length words
    → bytes_of (take i words) ≡ take (8 * i) (drop at bytes)
    → to_le_bytes w64 w ≡ take 8 (drop (at + 8 * i) bytes)
    → bytes_of (take (i + 1) (set words i w)) ≡ take (8 * (i + 1)) (drop at bytes)
more_words bytes words at i w l e f =
    let last : bytes_of (w ∷ []) ≡ to_le_bytes w64 w = append-nil (to_le_bytes w64 w) in
    let next : to_le_bytes w64 w ≡ take 8 (drop (8 * i) (drop at bytes)) = f
    ∙ sym (ap (take 8) (drop-drop (8 * i) at bytes)) in
    let all : 8 * i + 8 ≡ 8 * (i + 1) = omega arith in
    ap bytes_of (take_more_set words i w l)
    ∙ flat_map-append (to_le_bytes w64) (take i words) (w ∷ [])
    ∙ (λ j. e j ++ (last ∙ next) j)
    ∙ sym (take-add (8 * i) 8 (drop at bytes))
    ∙ ap (λ n. take n (drop at bytes)) all

word_long : (w : ℕ) → length (to_le_bytes w64 w) ≡ 8
word_long w = refl

pub bytes_long : (ws : List ℕ) → length (bytes_of ws) ≡ 8 * length ws
bytes_long [] = refl
bytes_long (w ∷ ws) = length-append (to_le_bytes w64 w) (bytes_of ws)
    ∙ omega (arith, bytes_long ws, word_long w)

-- the prefixes of two lists
pub take_front : (xs ys : List ℕ) → take (length xs) (xs ++ ys) ≡ xs
take_front [] ys = refl
take_front (x ∷ xs) ys = ap (λ l. x ∷ l) (take_front xs ys)

front_same : (xs ys r t : List ℕ) → length xs ≡ length ys → xs ++ r ≡ ys ++ t → xs ≡ ys
front_same xs ys r t l e = sym (take_front xs r) ∙ ap (take (length xs)) e
    ∙ (λ i. take (l i) (ys ++ t)) ∙ take_front ys t

word_same : (x y : ℕ) → x < 2 ^ 64 → y < 2 ^ 64 → to_le_bytes w64 x ≡ to_le_bytes w64 y → x ≡ y
word_same x y l m e = sym (from_le_bytes-to_le_bytes_8 x l) ∙ ap (from_le_bytes w64) e
    ∙ from_le_bytes-to_le_bytes_8 y m

-- as many words are told by their bytes
pub words_same : (xs ys r t : List ℕ) → AreWords xs → AreWords ys → length xs ≡ length ys
    → bytes_of xs ++ r ≡ bytes_of ys ++ t → xs ≡ ys
words_same [] [] r t a b l e = refl
words_same [] (y ∷ ys) r t a b l e = absurd (omega (arith, l))
words_same (x ∷ xs) [] r t a b l e = absurd (omega (arith, l))
words_same (x ∷ xs) (y ∷ ys) r t a b l e =
    let whole : to_le_bytes w64 x ++ (bytes_of xs ++ r) ≡ to_le_bytes w64 y ++ (bytes_of ys ++ t)
    = sym (append_assoc (to_le_bytes w64 x) (bytes_of xs) r) ∙ e
    ∙ append_assoc (to_le_bytes w64 y) (bytes_of ys) t in
    let first : to_le_bytes w64 x ≡ to_le_bytes w64 y
    = front_same (to_le_bytes w64 x) (to_le_bytes w64 y) (bytes_of xs ++ r) (bytes_of ys ++ t)
    (word_long x ∙ sym (word_long y)) whole in
    let rest : bytes_of xs ++ r ≡ bytes_of ys ++ t
    = append_cancel_left (to_le_bytes w64 x) (bytes_of xs ++ r) (bytes_of ys ++ t)
    (whole ∙ ap (λ l. l ++ (bytes_of ys ++ t)) (sym first)) in
    λ i. word_same x y (a 0) (b 0) first i ∷ words_same xs ys r t (λ k. a (suc k)) (λ k. b (suc k))
    (omega (arith, l)) rest i

-- and so is what follows
pub rest_same : (xs r t : List ℕ) → bytes_of xs ++ r ≡ bytes_of xs ++ t → r ≡ t
rest_same xs r t e = append_cancel_left (bytes_of xs) r t e

-- with another word in the place of one
pub set_words : (ws : List ℕ) (i w : ℕ) → AreWords ws → w < 2 ^ 64 → AreWords (set ws i w)
set_words [] i w a l k = a k
set_words (x ∷ ws) zero w a l zero = l
set_words (x ∷ ws) zero w a l (suc k) = a (suc k)
set_words (x ∷ ws) (suc i) w a l zero = a 0
set_words (x ∷ ws) (suc i) w a l (suc k) = set_words ws i w (λ j. a (suc j)) l k

pub no_words : (n : ℕ) → AreWords (replicate n 0)
no_words zero k = omega arith
no_words (suc n) zero = omega arith
no_words (suc n) (suc k) = no_words n k
