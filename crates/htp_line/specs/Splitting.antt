-- What a splitter holds of a stream.
use Rattle.std.specs.Prelude.{◌≡◌, ℕ, Bool, true, false, List, [], ◌∷◌, ◌++◌, length, Option, Some}
use Rattle.std.specs.Prelude.{None, if◌then◌else◌, nat_le, is_some}
use Rattle.std.specs.List.{before_first, position}
use Rattle.htp_line.specs.Lines.{is_feed, whole, rest}
use Rattle.htp_line.specs.declared.splitter.TheConstants.{LINE_LIMIT}

-- a line as far as it is kept: all of it, or nothing where it has more than LINE_LIMIT bytes
abbrev pub kept_line : List ℕ → Option (List ℕ)
kept_line raw = if nat_le (length raw) LINE_LIMIT then Some raw else None

-- what is kept of a line with more bytes at its end
abbrev pub grown : Option (List ℕ) → List ℕ → Option (List ℕ)
grown None more = None
grown (Some raw) more = kept_line (raw ++ more)

-- the line in hand as far as it is kept, and whether it ended
pub record SplitterData : Type 0 where
  pub line : Option (List ℕ)
  pub ended : Bool

-- what is kept of the line in hand
abbrev pub so_far : SplitterData → Option (List ℕ)
so_far h = if h.ended then Some [] else h.line

-- after a piece, up to and with its first line feed
abbrev pub after_piece : SplitterData → List ℕ → SplitterData
after_piece h piece =
    record {
      line = grown (so_far h) (before_first is_feed piece);
      ended = is_some
          (position is_feed piece);
    }

-- a line with a byte in it
abbrev pub is_some_byte : Option (List ℕ) → Bool
is_some_byte None = true
is_some_byte (Some []) = false
is_some_byte (Some (b ∷ bs)) = true

-- after the end of the input
abbrev pub after_end : SplitterData → SplitterData
after_end h = record { line = so_far h; ended = is_some_byte (so_far h) }

-- the splitter holds what stands after the last line feed of this text
abbrev pub StandsAfter : SplitterData → List ℕ → Type 0
StandsAfter h text = so_far h ≡ kept_line (rest text)

-- where a line ended, it is the one more
abbrev pub Ends : Bool → Option (List ℕ) → List (List ℕ) → List (List ℕ) → Type 0
Ends false line old new = new ≡ old
Ends true line old new = (raw : List ℕ) × (new ≡ old ++ raw ∷ []) × (line ≡ kept_line raw)

-- from a text on to the same with these bytes at its end
pub record Advances (h : SplitterData) (seen front : List ℕ) : Type 0 where
  pub stands : StandsAfter h (seen ++ front)
  pub ended : Ends h.ended h.line (whole seen) (whole (seen ++ front))
