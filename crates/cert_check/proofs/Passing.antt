-- One number more of a list: the entries named by those that are left.
use Rattle.std.proofs.Common.{◌≡◌, ℕ, ◌+◌, ◌<◌, List, ◌∷◌, ap, sym, ◌∙◌, drop, length, get_or}
use Rattle.std.proofs.Common.{Option, Some, None}
use Rattle.std.proofs.lemmas.List.{drop_more}
use Rattle.std.specs.List.{cons_option}
use Rattle.std.specs.Option.{option_map}
use Rattle.win_cert.specs.Entries.{Context, entries_at, entry_at}
use Rattle.cert_check.specs.Keeping.{entry_of}
use Rattle.cert_check.specs.declared.given.Given.{Given}

passed : (c : Context) (xs : List ℕ) (i : ℕ) → i < length xs
    → entries_at c (drop i xs) ≡ cons_option (entry_at c (get_or xs i 0))
    (entries_at c (drop (i + 1) xs))
passed c xs i l = ap (entries_at c) (drop_more xs i 0 l)

-- the next number names no entry
pub passed_none : (c : Context) (xs : List ℕ) (i : ℕ) (o : Option Given) → i < length xs
    → option_map entry_of o ≡ entry_at c (get_or xs i 0) → o ≡ None
    → entries_at c (drop i xs) ≡ entries_at c (drop (i + 1) xs)
passed_none c xs i o l e h = passed c xs i l
    ∙ ap (λ p. cons_option p (entries_at c (drop (i + 1) xs))) (sym e ∙ ap (option_map entry_of) h)

-- the next number names an entry
pub passed_some : (c : Context) (xs : List ℕ) (i : ℕ) (o : Option Given) (g : Given) → i < length xs
    → option_map entry_of o ≡ entry_at c (get_or xs i 0) → o ≡ Some g
    → entries_at c (drop i xs) ≡ entry_of g ∷ entries_at c (drop (i + 1) xs)
passed_some c xs i o g l e h = passed c xs i l
    ∙ ap (λ p. cons_option p (entries_at c (drop (i + 1) xs))) (sym e ∙ ap (option_map entry_of) h)
