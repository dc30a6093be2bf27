-- Digits and numbers.
use Rattle.std.proofs.Common.{◌≡◌, ◌≤◌, ℕ, true, List, [], ◌∷◌, Option, Some, None, arith, refl}
use Rattle.std.specs.List.{list_all}
use Rattle.std.specs.Char.{is_ascii_digit}
use Rattle.std.specs.Str.Parse.{AllDigits}
use Rattle.std.proofs.lemmas.Bool.Decides.{nat_tests}
use Rattle.std.proofs.lemmas.Str.Parse.{digit_from_value}
use Rattle.option_words.specs.Values.{IsNumberFrom, TextBytes}

is_digit : (c : ℕ) → 48 ≤ c → c ≤ 57 → is_ascii_digit c ≡ true
is_digit c low high = grind (arith, nat_tests)

pub digits_pass : (ds : List ℕ) → AllDigits 10 ds → list_all is_ascii_digit ds ≡ true
digits_pass [] h = refl
digits_pass (c ∷ cs) h =
    let range = digit_from_value c h.0 in rw (is_digit c range.0 range.1) (digits_pass cs h.1)

pub number_at_most : (least most n : ℕ) (text : Option TextBytes)
    → IsNumberFrom least most text n → n ≤ most
number_at_most least most n None h = absurd h
number_at_most least most n (Some text) h = h.4

pub number_in_range : (least most n : ℕ) (text : Option TextBytes) → IsNumberFrom least most text n
    → (least ≤ n) × (n ≤ most)
number_in_range least most n None h = absurd h
number_in_range least most n (Some text) h = (h.3, h.4)
