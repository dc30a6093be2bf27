-- A match and a number determine the match game.
use Rattle.std.proofs.Common.{◌≡◌, ℕ, Bool, true, false, List, [], ◌∷◌, ◌++◌, refl, sym, ap, ◌∙◌, subst}
use Rattle.std.proofs.Common.{true≢false}
use Rattle.std.specs.Prelude.{◌||◌, if◌then◌else◌, nat_lt}
use Rattle.hex_cells.specs.Colours.{other_of}
use Rattle.hex_cells.specs.declared.colours.Colour.{Colour}
use Rattle.hex_board.specs.Joined.{winner_of}
use Rattle.hex_game.specs.Games.{GameData, board_of, with_step}
use Rattle.hex_game.specs.Moves.{step_of}
use Rattle.hex_game.specs.declared.moves.Move.TheVariants.{Stone}
use Rattle.hex_game.specs.declared.moves.Step.{Step}
use Rattle.hex_board.specs.Positions.{Position}
use Rattle.tree_words.specs.declared.settings.Knobs.{Knobs}
use Rattle.hex_plan.specs.declared.settings.Means.{Means}
use Rattle.hex_plan.proofs.Same.{same_turn}
use Rattle.match_ref.specs.declared.settings.Match.{Match}
use Rattle.match_ref.specs.declared.settings.Side.{Side}
use Rattle.match_ref.specs.declared.played.Played.{Played}
use Rattle.match_ref.specs.Matches.{IsMatchGame, IsTurnCell, PlaysOn, SearchAlone, first_side}
use Rattle.match_ref.specs.Matches.{first_steps, game_with, is_side_a, opened_game, opening_of}
use Rattle.match_ref.specs.Matches.{side_knobs, side_means, side_of, turns_made}

-- a side that asks no solver and looks not ahead looks for no connections
bare_side : (s : Side) → (s.solve ≡ 0) × (s.look ≡ 0) → (side_means s).hsearch ≡ false
bare_side s (a, b) = ap (λ n. nat_lt 0 n || nat_lt 0 s.look) a ∙ ap (nat_lt 0) b

bare_sides : (m : Match) (i : ℕ) (player : Colour) → SearchAlone m
    → (side_means (side_of m i player)).hsearch ≡ false
bare_sides m i player h = either (is_side_a i player)
  where
    either : (is_a : Bool) → (side_means (if is_a then m.a else m.b)).hsearch ≡ false
    either true = bare_side m.a h.a
    either false = bare_side m.b h.b

-- one worker without connections has one cell
same_cell : (knobs : Knobs) (means : Means) (now : Position) (mover : Colour) (turns x y : ℕ)
    → knobs.workers ≡ 1 → means.hsearch ≡ false → IsTurnCell knobs means now mover turns x
    → IsTurnCell knobs means now mover turns y → x ≡ y
same_cell knobs means now mover turns x y one off h g =
    sym h.cell_is
    ∙ ((same_turn knobs means h.turn g.turn one off h.owed.good g.owed.good
    (h.owed.board ∙ sym g.owed.board) (h.owed.player ∙ sym g.owed.player)
    (h.owed.number ∙ sym g.owed.number)).0 ∙ g.cell_is)

same_steps : (m : Match) (i : ℕ) (game : GameData) (mover : Colour) (ps qs : List Step)
    → SearchAlone m → PlaysOn m i game mover ps → PlaysOn m i game mover qs → ps ≡ qs
same_steps m i game mover [] [] alone h g = refl
same_steps m i game mover [] (q ∷ qs) alone h g = absurd (true≢false (sym g.0 ∙ h))
same_steps m i game mover (p ∷ ps) [] alone h g = absurd (true≢false (sym h.0 ∙ g))
same_steps m i game mover (p ∷ ps) (q ∷ qs) alone h g =
    let cells : h.1 ≡ g.1 = same_cell (side_knobs m i mover) (side_means (side_of m i mover))
    (board_of game) mover (turns_made (opening_of m i) game) h.1 g.1 refl (bare_sides m i mover alone) h.3 g.3 in
    let step : p ≡ q = h.2 ∙ (ap (λ c. step_of mover (Stone c)) cells ∙ sym g.2) in
    let rest : ps ≡ qs = same_steps m i (with_step game q) (other_of mover) ps qs alone
    (subst (λ s. PlaysOn m i (with_step game s) (other_of mover) ps) step h.4) g.4 in
    λ k. step k ∷ rest k

pub same_game : (m : Match) (i : ℕ) (p q : Played) → SearchAlone m → IsMatchGame m i p
    → IsMatchGame m i q → p ≡ q
same_game m i p q alone h g =
    let opening = opening_of m i in
    let sides : h.sides ≡ g.sides
    = same_steps m i (opened_game m i) (first_side opening) h.sides g.sides alone h.plays g.plays in
    let steps : p.steps ≡ q.steps
    = h.opens ∙ (ap (λ s. first_steps opening ++ s) sides ∙ sym g.opens) in
    let winner : p.winner ≡ q.winner = h.winner
    ∙ (ap (λ s. winner_of (board_of (game_with m s))) steps ∙ sym g.winner) in
    λ k. record { steps = steps k; winner = winner k }
