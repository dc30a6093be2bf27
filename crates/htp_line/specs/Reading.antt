-- What a raw line asks, by filters of the whole line.
use Rattle.std.specs.Prelude.{ℕ, ◌==◌, ◌&&◌, ◌||◌, not, Bool, List, [], ◌∷◌, length, map, filter}
use Rattle.std.specs.Prelude.{Option, Some, None, nat_le, nat_lt, if◌then◌else◌, take_while}
use Rattle.std.specs.List.{slice_split, list_all}
use Rattle.std.specs.Option.{option_map_or}
use Rattle.std.specs.Str.Parse.{digits_value}
use Rattle.htp_line.specs.declared.request.Parsed.{Parsed}
use Rattle.htp_line.specs.declared.request.Parsed.TheVariants.{Blank, Bare, Request}

-- a byte that stays: no control byte (0 to 31, 127) but the tab
abbrev pub is_kept : ℕ → Bool
is_kept b = (nat_le 32 b && not (b == 127)) || (b == 9)

-- the line without control bytes and comment, which begins with a hash sign (35), each tab (9) a
-- space (32)
abbrev pub cleaned : List ℕ → List ℕ
cleaned raw =
    map (λ b. if b == 9 then 32 else b) (take_while (λ b. not (b == 35)) (filter is_kept raw))

-- a space
abbrev pub is_space : ℕ → Bool
is_space b = b == 32

-- the words between spaces: the parts that are not empty
unfoldable pub words : List ℕ → List (List ℕ)
words text = filter (λ part. nat_lt 0 (length part)) (slice_split is_space text)

-- a decimal digit
abbrev pub is_digit : ℕ → Bool
is_digit b = nat_le 48 b && nat_le b 57

-- an id: one to ten digits with a value of at most 2,147,483,647
abbrev pub is_number : List ℕ → Bool
is_number word =
    nat_le 1 (length word)
    && (nat_le (length word) 10
    && (list_all is_digit word && nat_le (digits_value 10 word) 2147483647))

-- the id that a word is
abbrev pub number_of : List ℕ → Option ℕ
number_of word = if is_number word then Some (digits_value 10 word) else None

-- the words behind an id
abbrev pub with_id : ℕ → List (List ℕ) → Parsed
with_id id [] = Bare id
with_id id (name ∷ args) = Request (record { id = Some id; name = name; args = args })

-- what the words of a line ask, of which the first may be an id
abbrev pub reading_of_words : List (List ℕ) → Parsed
reading_of_words [] = Blank
reading_of_words (first ∷ others) = option_map_or (λ id. with_id id others) (number_of first)
    (Request (record { id = None; name = first; args = others }))

-- what a raw line asks
abbrev pub reading : List ℕ → Parsed
reading raw = reading_of_words (words (cleaned raw))
