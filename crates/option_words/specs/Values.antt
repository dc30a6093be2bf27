-- What the texts of options' values say.
use Rattle.std.specs.Prelude.{◌≡◌, ◌≤◌, ◌<◌, ◌^◌, ℕ, Bool, true, false, List, Option, Some, None}
use Rattle.std.specs.Prelude.{length, codes}
use Rattle.std.specs.Str.Parse.{IsNumeral, digits_value}

abbrev pub TextBytes : Type 0
TextBytes = List ℕ

-- There is a text, it is one to twenty decimal digits, they write n, and n is from `least` to
-- `most`.
abbrev pub IsNumberFrom : ℕ → ℕ → Option TextBytes → ℕ → Type 0
IsNumberFrom least most None n = ⊥
IsNumberFrom least most (Some text) n =
    IsNumeral 10 text × (length text ≤ 20) × (digits_value 10 text ≡ n) × (least ≤ n) × (n ≤ most)

-- one to twenty decimal digits, whose number fits 64 bits
abbrev pub IsShortNumeral : TextBytes → Type 0
IsShortNumeral text =
    IsNumeral 10 text × (length text ≤ 20) × (digits_value 10 text < 2 ^ 64)

-- the word that turns a thing on or off
abbrev pub switch_word : Bool → TextBytes
switch_word true = codes "on"
switch_word false = codes "off"

-- the word that is one hyphen alone
abbrev pub lone_hyphen : TextBytes
lone_hyphen = codes "-"
