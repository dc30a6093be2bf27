-- The cell of a turn makes a legal step.
use Rattle.std.proofs.Common.{◌≡◌, ℕ, ◌+◌, true, false, List, [], ◌∷◌, ◌++◌, refl, ap, sym, ◌∙◌}
use Rattle.std.proofs.Common.{subst, append_assoc, append-nil, ◌*◌, ◌/◌, ◌%◌, ◌<◌, Option, Some, None}
use Rattle.std.proofs.Common.{length, zero, suc}
use Rattle.std.specs.Prelude.{All, not, ◌&&◌}
use Rattle.std.specs.List.{slice_get}
use Rattle.std.proofs.lemmas.List.Elements.{All-cons, All-head, All-nil, All-tail}
use Rattle.match_ref.specs.Dealt.{AreGamesBy}
use Rattle.hex_cells.specs.declared.colours.Colour.{Colour}
use Rattle.hex_cells.specs.declared.colours.Colour.TheVariants.{Black}
use Rattle.hex_board.specs.Positions.{Position, empty_board, is_empty_at}
use Rattle.hex_cells.specs.Colours.{other_of}
use Rattle.hex_game.specs.declared.moves.Step.{Step}
use Rattle.hex_plan.specs.Openings.{may_move}
use Rattle.match_ref.specs.declared.settings.Match.{Match}
use Rattle.hex_board.specs.Joined.{winner_of}
use Rattle.hex_board.proofs.EmptyBoards.{all_empty, empty_open}
use Rattle.hex_game.specs.Moves.{step_of}
use Rattle.hex_game.specs.Games.{AreLegal, GameData, IsOnBoard, board_of, is_legal, is_over}
use Rattle.hex_game.specs.Games.{new_game, replay, with_step}
use Rattle.hex_game.specs.declared.moves.Move.TheVariants.{Stone}
use Rattle.hex_game.proofs.Over.{not_over}
use Rattle.tree_words.specs.declared.settings.Knobs.{Knobs}
use Rattle.hex_plan.specs.declared.settings.Means.{Means}
use Rattle.match_ref.specs.declared.played.Played.{Played}
use Rattle.match_ref.specs.Matches.{IsMatch, IsMatchGame, IsTurnCell, PlaysOn, first_side}
use Rattle.match_ref.specs.Matches.{first_steps, game_with, opened_game, opening_of, side_knobs}
use Rattle.match_ref.specs.Matches.{side_means, side_of, turns_made}
use Rattle.match_ref.proofs.ListLaws.{IsOn}

pub turn_is_legal : (knobs : Knobs) (means : Means) (game : GameData) (mover : Colour) (turns cell : ℕ)
    → IsTurnCell knobs means (board_of game) mover turns cell
    → is_legal game (step_of mover (Stone cell)) ≡ true
turn_is_legal knobs means game mover turns cell h =
    let now : Position = board_of game in
    let empty : is_empty_at now cell ≡ true
    = subst (λ (p : Position). is_empty_at p cell ≡ true) h.owed.board
    (subst (λ k. is_empty_at h.turn.board k ≡ true) h.cell_is h.owed.good.empty) in
    let going : is_over now ≡ false = ap is_over (sym h.owed.board)
    ∙ not_over h.turn.board h.owed.good.nobody in
    ap (λ o. not o && is_empty_at now cell) going ∙ empty

-- ---- a game that goes on

-- what the sides played so far, with what follows of the game from here on, is what they play in
-- match game i
abbrev pub SidesGoOn : Match → ℕ → GameData → Colour → List Step → Type 0
SidesGoOn m i game mover sides = (rest : List Step) → PlaysOn m i game mover rest
    → PlaysOn m i (opened_game m i) (first_side (opening_of m i)) (sides ++ rest)

-- the steps so far are the opening's and those of the sides
pub record StepsGoOn (m : Match) (i : ℕ) (game : GameData) (mover : Colour) : Type 0 where
  pub start : game.start ≡ empty_board m.size
  pub sides : List Step
  pub opens : game.steps ≡ first_steps (opening_of m i) ++ sides
  pub plays : SidesGoOn m i game mover sides

-- the sides have played nothing yet
pub opened : (m : Match) (i : ℕ) (game : GameData) (mover : Colour) → game ≡ opened_game m i
    → mover ≡ first_side (opening_of m i) → StepsGoOn m i game mover
opened m i game mover is first = record {
  start = ap (λ g. g.start) is;
  sides = [];
  opens = ap (λ g. g.steps) is ∙ sym (append-nil (first_steps (opening_of m i)));
  plays = λ rest more. subst (λ p. PlaysOn m i (opened_game m i) p rest) first
      (subst (λ g. PlaysOn m i g mover rest) is more);
}

pub step_more : (m : Match) (i : ℕ) (game : GameData) (mover : Colour) (cell : ℕ)
    → StepsGoOn m i game mover → may_move (board_of game) ≡ true
    → IsTurnCell (side_knobs m i mover) (side_means (side_of m i mover)) (board_of game) mover
    (turns_made (opening_of m i) game) cell
    → StepsGoOn m i (with_step game (step_of mover (Stone cell))) (other_of mover)
step_more m i game mover cell goes may turn =
    let opening = opening_of m i in
    let step : Step = step_of mover (Stone cell) in
    record {
      start = goes.start;
      sides = goes.sides ++ step ∷ [];
      opens = ap (λ s. s ++ step ∷ []) goes.opens
          ∙ append_assoc (first_steps opening) goes.sides (step ∷ []);
      plays = λ rest more. subst (PlaysOn m i (opened_game m i) (first_side opening))
          (sym (append_assoc goes.sides (step ∷ []) rest))
          (goes.plays (step ∷ rest) (may, cell, refl, turn, more));
    }

-- a game that ended is match game i
pub ended : (m : Match) (i : ℕ) (game : GameData) (mover : Colour) (p : Played)
    → StepsGoOn m i game mover → may_move (board_of game) ≡ false
    → p.steps ≡ game.steps → p.winner ≡ winner_of (board_of game) → IsMatchGame m i p
ended m i game mover p goes over steps winner =
    let same : game ≡ game_with m game.steps
    = λ k. record { start = goes.start k; steps = game.steps } in
    let opening = opening_of m i in
    record {
      sides = goes.sides;
      opens = steps ∙ goes.opens;
      plays = subst (PlaysOn m i (opened_game m i) (first_side opening)) (append-nil goes.sides)
          (goes.plays [] over);
      winner = winner
          ∙ (ap (λ g. winner_of (board_of g)) same ∙ ap (λ s. winner_of (board_of (game_with m s)))
          (sym steps));
    }

-- ---- each step is legal

legal_in : (m : Match) (i : ℕ) (game : GameData) (mover : Colour) (ps done : List Step)
    (step : Step) (rest : List Step) → PlaysOn m i game mover ps → done ++ (step ∷ rest) ≡ ps
    → is_legal (record { start = game.start; steps = game.steps ++ done }) step ≡ true
legal_in m i game mover [] [] step rest h e = cc
legal_in m i game mover [] (d ∷ done) step rest h e = cc
legal_in m i game mover (p ∷ ps) [] step rest h e =
    let same : step ≡ p = cc in
    let here : is_legal game p ≡ true
    = subst (λ s. is_legal game s ≡ true) (sym h.2)
    (turn_is_legal (side_knobs m i mover) (side_means (side_of m i mover)) game mover
    (turns_made (opening_of m i) game) h.1 h.3) in
    subst (λ s. is_legal (record { start = game.start; steps = game.steps ++ [] }) s ≡ true)
    (sym same)
    (subst (λ l. is_legal (record { start = game.start; steps = l }) p ≡ true)
    (sym (append-nil game.steps)) here)
legal_in m i game mover (p ∷ ps) (d ∷ done) step rest h e =
    let first : d ≡ p = cc in
    let more : done ++ (step ∷ rest) ≡ ps = cc in
    let next = legal_in m i (with_step game p) (other_of mover) ps done step rest h.4 more in
    subst (λ l. is_legal (record { start = game.start; steps = l }) step ≡ true)
    (append_assoc game.steps (p ∷ []) done ∙ ap (λ x. game.steps ++ (x ∷ done)) (sym first)) next

-- ---- the opening's step is legal too

-- a stone on the empty board
pub first_is_legal : (n cell : ℕ) (player : Colour) → cell < n * n
    → is_legal (new_game (empty_board n)) (step_of player (Stone cell)) ≡ true
unfolding replay
first_is_legal n cell player on =
    ap (λ o. not o && is_empty_at (empty_board n) cell) (not_over (empty_board n) (empty_open n))
    ∙ all_empty n cell on

pub first_on_board : (n cell : ℕ) → cell < n * n
    → IsOnBoard (board_of (new_game (empty_board n))) (Stone cell)
unfolding replay
first_on_board n cell on = on

pub opening_on : (m : Match) (i : ℕ) → IsMatch m → IsOn m.size (opening_of m i)
opening_on m i is = item_on m.openings (i / 2 % length m.openings) is.on_board
  where
    item_on : (cells : List ℕ) (j : ℕ) → All (λ cell. cell < m.size * m.size) cells
        → IsOn m.size (slice_get cells j)
    item_on [] j on = tt
    item_on (c ∷ cells) zero on = All-head (λ cell. cell < m.size * m.size) c cells on
    item_on (c ∷ cells) (suc j) on
        = item_on cells j (All-tail (λ cell. cell < m.size * m.size) c cells on)

legal_after : (m : Match) (i : ℕ) (opening : Option ℕ) (mover : Colour) (sides : List Step)
    → IsOn m.size opening → PlaysOn m i (game_with m (first_steps opening)) mover sides
    → AreLegal (empty_board m.size) (first_steps opening ++ sides)
legal_after m i None mover sides on h = λ done step rest e.
    legal_in m i (game_with m []) mover sides done step rest h e
legal_after m i (Some cell) mover sides on h = λ done step rest e. first_or_later done step rest e
  where
    first_or_later : (done : List Step) (step : Step) (rest : List Step)
        → done ++ step ∷ rest ≡ step_of Black (Stone cell) ∷ sides
        → is_legal (record { start = empty_board m.size; steps = done }) step ≡ true
    first_or_later [] step rest e =
        let same : step ≡ step_of Black (Stone cell) = cc in
        subst (λ s. is_legal (new_game (empty_board m.size)) s ≡ true) (sym same)
        (first_is_legal m.size cell Black on)
    first_or_later (d ∷ done) step rest e =
        let same : d ≡ step_of Black (Stone cell) = cc in
        let later : done ++ step ∷ rest ≡ sides = cc in
        subst (λ s. is_legal (record { start = empty_board m.size; steps = s ∷ done }) step ≡ true)
        (sym same) (legal_in m i (game_with m (step_of Black (Stone cell) ∷ [])) mover sides done step
        rest h later)

pub steps_legal : (m : Match) (i : ℕ) (p : Played) → IsMatch m → IsMatchGame m i p
    → AreLegal (empty_board m.size) p.steps
steps_legal m i p is h =
    subst (AreLegal (empty_board m.size)) (sym h.opens)
    (legal_after m i (opening_of m i) (first_side (opening_of m i)) h.sides (opening_on m i is)
    h.plays)

pub all_legal : (m : Match) (i step : ℕ) (ps : List Played) → IsMatch m → AreGamesBy m i step ps
    → All (λ p. AreLegal (empty_board m.size) p.steps) ps
all_legal m i step [] is h = All-nil (λ (p : Played). AreLegal (empty_board m.size) p.steps)
all_legal m i step (p ∷ ps) is h =
    All-cons (λ (q : Played). AreLegal (empty_board m.size) q.steps) p ps
    (steps_legal m i p is h.1) (all_legal m (i + step) step ps is h.2)
