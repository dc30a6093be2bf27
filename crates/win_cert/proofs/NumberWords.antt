-- The numbers that words are.
use Rattle.std.proofs.Common.{◌≡◌, ◌≢◌, ◌⊎◌, inl, inr, ℕ, zero, suc, ◌<◌, ◌≤◌, ◌^◌, ◌&&◌, true}
use Rattle.std.proofs.Common.{cond, leb, List, [], ◌∷◌, length, get_or, Option, Some, None}
use Rattle.std.proofs.Common.{MatchOption, refl, ap, sym, ◌∙◌, subst, arith}
use Rattle.std.proofs.lemmas.Bool.{and_parts}
use Rattle.std.specs.Fmt.{decimal, digits}
use Rattle.std.proofs.Math.Nat.{pow-le-pow_right}
use Rattle.std.specs.Str.{bytes_eq}
use Rattle.std.specs.Str.Parse.{AllDigits, digits_value}
use Rattle.std.proofs.lemmas.Bool.Decides.{nat_tests}
use Rattle.std.proofs.lemmas.Fmt.{decimal-digits_value, decimal_is_IsNumeral, decimal_nonempty}
use Rattle.std.proofs.lemmas.Fmt.{first_decimal, length-decimal-le}
use Rattle.std.proofs.lemmas.Int.Digits.{digits_value-lt}
use Rattle.std.proofs.lemmas.Slice.Eq.{bytes_eq-Decides}
use Rattle.std.proofs.lemmas.Str.Parse.{numerals_by_value, tells_digits}
use Rattle.win_cert.specs.Named.{number_named}
use Rattle.win_cert.specs.declared.lines.TheConstants.{MOST_NUMBER}
use Rattle.std.proofs.lemmas.Option.{cond_some}

-- a number that is named is what its word is
pub named_means : (word : List ℕ) (i : ℕ) → number_named word ≡ Some i
    → (i ≤ MOST_NUMBER) × (word ≡ decimal i)
unfolding number_named
named_means word i e =
    let v = digits_value 10 word in
    let found = cond_some (bytes_eq word (decimal v) && leb v MOST_NUMBER) v i e in
    let both = and_parts (bytes_eq word (decimal v)) (leb v MOST_NUMBER) found.0 in
    let same : v ≡ i = found.1 in
    let low : v ≤ MOST_NUMBER = grind (arith, nat_tests) in
    (subst (λ n. n ≤ MOST_NUMBER) same low, (bytes_eq-Decides word (decimal v)).0 both.0 ∙ ap decimal same)

-- a number's decimal names it
pub named_back : (i : ℕ) → i ≤ MOST_NUMBER → number_named (decimal i) ≡ Some i
unfolding number_named
named_back i h =
    let v : digits_value 10 (decimal i) ≡ i = (decimal_is_IsNumeral i (omega arith)).1 in
    let low : leb i MOST_NUMBER ≡ true = grind (arith, nat_tests) in
    let same : bytes_eq (decimal i) (decimal i) ≡ true
    = (bytes_eq-Decides (decimal i) (decimal i)).1 refl in
    ap (λ n. cond (bytes_eq (decimal i) (decimal n) && leb n MOST_NUMBER) (Some n) None) v
    ∙ ap (λ b. cond (b && leb i MOST_NUMBER) (Some i) None) same
    ∙ ap (λ b. cond b (Some i) None) low

none_or_some : (word : List ℕ) (o : Option ℕ) → number_named word ≡ o
    → ((i : ℕ) → i ≤ MOST_NUMBER → word ≢ decimal i) → number_named word ≡ None
none_or_some word None e h = e
none_or_some word (Some i) e h =
    let m = named_means word i e in absurd (h i m.0 m.1)

-- a word that is no number's decimal names none
pub named_none : (word : List ℕ) → ((i : ℕ) → i ≤ MOST_NUMBER → word ≢ decimal i)
    → number_named word ≡ None
named_none word h = none_or_some word (number_named word) refl h

-- a word of no byte, or of more than six, names no number
pub named_none_by_length : (word : List ℕ) → ((length word ≡ 0) ⊎ (6 < length word))
    → number_named word ≡ None
named_none_by_length word (inl z) = named_none word
    (λ i h e. let some = decimal_nonempty i (omega arith) in let l = ap length e in omega (arith, some, l, z))
named_none_by_length word (inr m) = named_none word
    (λ i h e. let few = length-decimal-le 6 i (omega arith) (omega arith) (omega arith) in let l = ap length e in omega (arith, few, l, m))

zero_first : (i : ℕ) → i ≤ MOST_NUMBER → get_or (decimal i) 0 0 ≡ 48 → i ≡ 0
zero_first zero h e = refl
zero_first (suc i) h e = let f = first_decimal (suc i) (omega arith) (omega arith) in
    absurd (omega (arith, f, e))

-- a word with a leading zero names none
pub named_none_by_zero : (word : List ℕ) → get_or word 0 0 ≡ 48 → length word ≢ 1
    → number_named word ≡ None
unfolding digits
named_none_by_zero word first long = named_none word (λ i h e.
    let zero_is : i ≡ 0 = zero_first i h (ap (λ w. get_or w 0 0) (sym e) ∙ first) in
    long (ap length e ∙ ap (λ n. length (decimal n)) zero_is))

-- a word with another byte names none
pub named_none_by_byte : (word : List ℕ) → ¬ (AllDigits 10 word) → number_named word ≡ None
named_none_by_byte word other = named_none word
    (λ i h e. other (subst (AllDigits 10) (sym e) (decimal_is_IsNumeral i (omega arith)).0.1))

-- at most six digits without leading zero name their value
pub named_digits : (word : List ℕ) → AllDigits 10 word → 0 < length word → length word ≤ 6
    → (get_or word 0 0 ≡ 48 → length word ≡ 1) → number_named word ≡ Some (digits_value 10 word)
named_digits word digits some few first =
    let v = digits_value 10 word in
    let below : v < 10 ^ length word = digits_value-lt 10 word digits in
    let power : 10 ^ length word ≤ 10 ^ 6 = pow-le-pow_right (omega arith) few in
    let small : v ≤ MOST_NUMBER = omega (arith, below, power) in
    let own = numerals_by_value (AllDigits 10) tells_digits in
    ap number_named (sym (decimal-digits_value own word digits some first (omega arith)))
    ∙ named_back v small

zero_word : (word : List ℕ) → get_or word 0 0 ≡ 48 → length word ≡ 1 → word ≡ 48 ∷ []
zero_word [] first one = absurd (omega (arith, one))
zero_word (x ∷ []) first one = ap (λ y. y ∷ []) first
zero_word (x ∷ y ∷ word) first one = absurd (omega (arith, one))

-- the digit 0 names 0
pub named_zero : (word : List ℕ) → get_or word 0 0 ≡ 48 → length word ≡ 1
    → number_named word ≡ Some 0
unfolding digits
named_zero word first one = ap number_named (zero_word word first one) ∙ named_back 0 (omega arith)

-- at most six digits, the first of which is not 0, name their value, and another word names none
pub named_value : (word : List ℕ) → length word ≢ 0 → length word ≤ 6 → get_or word 0 0 ≢ 48
    → (value : Option ℕ)
    → MatchOption value (¬ (AllDigits 10 word))
    (λ i. AllDigits 10 word × (i ≡ digits_value 10 word))
    → value ≡ number_named word
named_value word some few first None other = sym (named_none_by_byte word other)
named_value word some few first (Some i) is =
    ap Some is.1 ∙ sym (named_digits word is.0 (omega (arith, some)) few (λ e. absurd (first e)))
