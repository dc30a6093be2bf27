-- Texts and wins of a list of games, from its parts.
use Rattle.std.proofs.Common.{◌≡◌, ◌∙◌, ℕ, ◌+◌, Bool, List, [], ◌∷◌, ◌++◌, length, sym, ap}
use Rattle.std.proofs.Common.{append_assoc, append-nil, arith}
use Rattle.std.specs.Prelude.{if◌then◌else◌}
use Rattle.match_ref.specs.MatchTexts.{game_text, games_text, has_won, wins_of}
use Rattle.match_ref.specs.declared.played.Played.{Played}
use Rattle.match_ref.specs.declared.words.MatchWords.{MatchWords}

pub games_text-append : (w : MatchWords) (i : ℕ) (xs ys : List Played)
    → games_text w i (xs ++ ys) ≡ games_text w i xs ++ games_text w (i + length xs) ys
games_text-append w i [] ys = ap (λ n. games_text w n ys) (omega arith)
games_text-append w i (x ∷ xs) ys =
    ap (λ rest. game_text w i x ++ rest)
    (games_text-append w (i + 1) xs ys ∙ ap (λ n. games_text w (i + 1) xs ++ games_text w n ys)
    (omega arith))
    ∙ sym (append_assoc (game_text w i x) (games_text w (i + 1) xs)
    (games_text w (i + length (x ∷ xs)) ys))

pub one_text : (w : MatchWords) (i : ℕ) (x : Played) → games_text w i (x ∷ []) ≡ game_text w i x
one_text w i x = append-nil (game_text w i x)

pub wins-append : (is_a : Bool) (i : ℕ) (xs ys : List Played)
    → wins_of is_a i (xs ++ ys) ≡ wins_of is_a i xs + wins_of is_a (i + length xs) ys
wins-append is_a i [] ys =
    let same : wins_of is_a i ys ≡ wins_of is_a (i + 0) ys
    = ap (λ n. wins_of is_a n ys) (omega arith) in omega (arith, same)
wins-append is_a i (x ∷ xs) ys =
    let here : ℕ = if has_won is_a i x.winner then 1 else 0 in
    let rest : wins_of is_a (i + 1) (xs ++ ys) ≡ wins_of is_a (i + 1) xs + wins_of is_a
    (i + length (x ∷ xs)) ys =
    wins-append is_a (i + 1) xs ys ∙ ap (λ n. wins_of is_a (i + 1) xs + wins_of is_a n ys)
    (omega arith) in
    ap (λ n. here + n) rest ∙ omega arith

-- one game more
pub games_more : (w : MatchWords) (n : ℕ) (before more : List Played) (x : Played)
    → more ≡ before ++ x ∷ [] → length before ≡ n
    → games_text w 0 more ≡ games_text w 0 before ++ game_text w n x
games_more w n before more x is many =
    ap (games_text w 0) is ∙ games_text-append w 0 before (x ∷ [])
    ∙ ap (λ ys. games_text w 0 before ++ ys)
    (one_text w (0 + length before) x ∙ ap (λ k. game_text w k x) (omega (arith, many)))

abbrev pub win : Bool → ℕ → Played → ℕ
win is_a n x = if has_won is_a n x.winner then 1 else 0

pub wins_more : (is_a : Bool) (n : ℕ) (before more : List Played) (x : Played)
    → more ≡ before ++ x ∷ [] → length before ≡ n
    → wins_of is_a 0 more ≡ wins_of is_a 0 before + win is_a n x
wins_more is_a n before more x is many =
    let at : win is_a (0 + length before) x ≡ win is_a n x
    = ap (λ k. win is_a k x) (omega (arith, many)) in
    let all : wins_of is_a 0 more ≡ wins_of is_a 0 before + (win is_a (0 + length before) x + 0)
    = ap (wins_of is_a 0) is ∙ wins-append is_a 0 before (x ∷ []) in
    omega (arith, at, all)
