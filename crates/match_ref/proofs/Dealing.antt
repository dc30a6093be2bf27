-- Games that were dealt out in two halves, and are dealt in turn again.
use Rattle.std.proofs.Common.{◌≡◌, ◌∙◌, ℕ, ◌+◌, ◌<◌, ◌≤◌, List, [], ◌∷◌, ◌++◌, Some, length, sym}
use Rattle.std.proofs.Common.{subst, zero, suc, arith, append_assoc, append-nil}
use Rattle.std.specs.List.{slice_get}
use Rattle.match_ref.specs.declared.settings.Match.{Match}
use Rattle.match_ref.specs.declared.played.Played.{Played}
use Rattle.match_ref.specs.Matches.{IsMatchGame}
use Rattle.match_ref.specs.Dealt.{AreGamesBy, DealsNext, dealt_in_turn}

-- there is none if the number is past the last game
none_more : (m : Match) (i j k step : ℕ) (xs : List Played) → m.games ≤ i → i ≤ j
    → AreGamesBy m j step xs → AreGamesBy m i k (dealt_in_turn xs [])
none_more m i j k step [] past le h = past
none_more m i j k step (x ∷ xs) past le h = absurd (omega (arith, past, le, h.0))

pub dealt : (m : Match) (i k : ℕ) (xs ys : List Played) → AreGamesBy m i (k + k) xs
    → AreGamesBy m (i + k) (k + k) ys → AreGamesBy m i k (dealt_in_turn xs ys)
dealt m i k [] ys h g = h
dealt m i k (x ∷ xs) [] h g
    = (h.0, h.1, none_more m (i + k) (i + (k + k)) k (k + k) xs g (omega arith) h.2)
dealt m i k (x ∷ xs) (y ∷ ys) h g = (
  h.0,
  h.1,
  (
    g.0,
    g.1,
    dealt m (i + k + k) k xs ys
        (subst (λ n. AreGamesBy m n (k + k) xs) (omega arith) h.2)
        (subst (λ n. AreGamesBy m n (k + k) ys) (omega arith) g.2),
  ),
)

-- item j of the games from number i on is game i + j
pub game_at : (m : Match) (i j : ℕ) (ps : List Played) (p : Played) → AreGamesBy m i 1 ps
    → slice_get ps j ≡ Some p → IsMatchGame m (i + j) p
game_at m i j [] p h e = cc
game_at m i zero (q ∷ ps) p h e = let same : q ≡ p = cc in
    subst (λ n. IsMatchGame m n p) (omega arith) (subst (λ r. IsMatchGame m i r) same h.1)
game_at m i (suc j) (q ∷ ps) p h e
    = subst (λ n. IsMatchGame m n p) (omega arith) (game_at m (i + 1) j ps p h.2 e)

-- how many games there are from number i on
pub game_count : (m : Match) (i : ℕ) (ps : List Played) → i ≤ m.games → AreGamesBy m i 1 ps
    → i + length ps ≡ m.games
game_count m i [] le h = omega (arith, le, h)
game_count m i (p ∷ ps) le h = let rest = game_count m (i + 1) ps (omega (arith, h.0)) h.2 in
    omega (arith, rest)

-- one turn of dealing: a game, and the next of the others
pub turn : (all xs ys all_now ys_now : List Played) (game : Played)
    → DealsNext (all ++ game ∷ []) ys all_now ys_now
    → all_now ++ dealt_in_turn xs ys_now ≡ all ++ dealt_in_turn (game ∷ xs) ys
turn all xs [] all_now ys_now game h
    = rw (h.0, h.1) (append_assoc all (game ∷ []) (dealt_in_turn xs []))
turn all xs (y ∷ ys) all_now ys_now game h =
    rw (h.0, h.1)
    (append_assoc (all ++ game ∷ []) (y ∷ []) (dealt_in_turn xs ys) ∙ append_assoc all (game ∷ [])
    (y ∷ dealt_in_turn xs ys))

-- what was played so far, with what follows from number i on, are the games from `first` on
abbrev pub GoesOn : Match → ℕ → ℕ → ℕ → List Played → Type 0
GoesOn m first step i games = (rest : List Played) → AreGamesBy m i step rest
    → AreGamesBy m first step (games ++ rest)

pub one_more : (m : Match) (first step i : ℕ) (games : List Played) (p : Played)
    → GoesOn m first step i games → i < m.games → IsMatchGame m i p
    → GoesOn m first step (i + step) (games ++ p ∷ [])
one_more m first step i games p goes below is rest more =
    subst (AreGamesBy m first step) (sym (append_assoc games (p ∷ []) rest))
    (goes (p ∷ rest) (below, is, more))

pub all_played : (m : Match) (first step i : ℕ) (games : List Played) → GoesOn m first step i games
    → m.games ≤ i → AreGamesBy m first step games
all_played m first step i games goes past = subst (AreGamesBy m first step) (append-nil games)
    (goes [] past)
