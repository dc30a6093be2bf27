-- Words that are text, and are no hyphen alone.
use Rattle.std.proofs.Common.{◌≢◌, ℕ, ◌≤◌, List, length, take, subst, All, Contains, ◌∙◌}
use Rattle.std.specs.Str.{IsUtf8}
use Rattle.std.proofs.lemmas.List.{get_or_default, take_all}
use Rattle.option_words.specs.Values.{TextBytes, lone_hyphen}

abbrev pub IsOther : TextBytes → Type 0
IsOther word = IsUtf8 word × (word ≢ lone_hyphen)

pub all_seen : (words : List TextBytes) (n : ℕ) → length words ≤ n → All IsOther (take n words)
    → All IsOther words
all_seen words n past h = subst (λ (ws : List TextBytes). All IsOther ws) (take_all n words past) h

pub all_text : (words : List TextBytes) → All IsOther words → All IsUtf8 words
all_text words h k d lt = (h k d lt).0

pub all_other : (words : List TextBytes) → All IsUtf8 words → (Contains words lone_hyphen → ⊥)
    → All IsOther words
all_other words text none k d lt
    = (text k d lt, λ e. none (k, lt, get_or_default words k lone_hyphen d lt ∙ e))
