-- The version that lines need.
use Rattle.std.proofs.Common.{◌≡◌, ℕ, ◌||◌, false, List, [], ◌∷◌, refl, ◌∙◌, ap, cond, arith}
use Rattle.std.specs.List.{All, list_any}
use Rattle.std.proofs.lemmas.List.Elements.{All-tail}
use Rattle.win_cert.specs.Versions.{is_lift, is_or_many, version_for}
use Rattle.win_cert.specs.Writable.{IsLineOf}
use Rattle.win_cert.specs.declared.certs.TheConstants.{LATEST_VERSION, SECOND_VERSION}
use Rattle.win_cert.specs.declared.certs.TheConstants.{THIRD_VERSION}
use Rattle.win_cert.specs.declared.lines.Line.{Line}
use Rattle.win_cert.specs.declared.lines.Line.TheVariants.{Adj, And, Key, Or2, Or3, Put, Done, Move}
use Rattle.win_cert.specs.declared.lines.Line.TheVariants.{Cases, Lift, OrMany}

not_many : (n : ℕ) (line : Line) → IsLineOf SECOND_VERSION n line → is_or_many line ≡ false
not_many n (OrMany numbers) is = let e = is.0 in absurd (omega (arith, e))
not_many n (Adj x y) is = refl
not_many n (And i j) is = refl
not_many n (Key i j) is = refl
not_many n (Or2 i j) is = refl
not_many n (Or3 i j k) is = refl
not_many n (Put cells) is = refl
not_many n Done is = refl
not_many n (Move k i) is = refl
not_many n (Cases numbers) is = refl
not_many n (Lift i) is = refl

not_lift : (n : ℕ) (line : Line) → IsLineOf SECOND_VERSION n line → is_lift line ≡ false
not_lift n (Lift i) is = let e = is.0 in absurd (omega (arith, e))
not_lift n (OrMany numbers) is = refl
not_lift n (Adj x y) is = refl
not_lift n (And i j) is = refl
not_lift n (Key i j) is = refl
not_lift n (Or2 i j) is = refl
not_lift n (Or3 i j k) is = refl
not_lift n (Put cells) is = refl
not_lift n Done is = refl
not_lift n (Move k i) is = refl
not_lift n (Cases numbers) is = refl

none_many : (n : ℕ) (lines : List Line) → All (IsLineOf SECOND_VERSION n) lines
    → list_any is_or_many lines ≡ false
none_many n [] good = refl
none_many n (line ∷ lines) good =
    ap (λ b. b || list_any is_or_many lines) (not_many n line (good 0 line (omega arith)))
    ∙ none_many n lines (All-tail (IsLineOf SECOND_VERSION n) line lines good)

none_lift : (n : ℕ) (lines : List Line) → All (IsLineOf SECOND_VERSION n) lines
    → list_any is_lift lines ≡ false
none_lift n [] good = refl
none_lift n (line ∷ lines) good =
    ap (λ b. b || list_any is_lift lines) (not_lift n line (good 0 line (omega arith)))
    ∙ none_lift n lines (All-tail (IsLineOf SECOND_VERSION n) line lines good)

-- lines of version 2 need no later one
pub second_suffices : (n : ℕ) (lines : List Line) → All (IsLineOf SECOND_VERSION n) lines
    → version_for lines ≡ SECOND_VERSION
second_suffices n lines good
    = ap (λ b. cond b LATEST_VERSION (cond (list_any is_or_many lines) THIRD_VERSION SECOND_VERSION)) (none_lift n lines good)
    ∙ ap (λ b. cond b THIRD_VERSION SECOND_VERSION) (none_many n lines good)
