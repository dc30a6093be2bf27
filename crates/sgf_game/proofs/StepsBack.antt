-- The steps of a record are read back, and so is the game.
use Rattle.std.proofs.Common.{◌≡◌, ℕ, ◌*◌, ◌<◌, ◌≤◌, ◌==◌, ◌&&◌, ◌||◌, nat_lt, not, Bool, true}
use Rattle.std.proofs.Common.{false, cond, List, [], ◌∷◌, ◌++◌, Some, None, Ok, map, flat_map}
use Rattle.std.proofs.Common.{length, take, drop, get_or, refl, sym, ap, ◌∙◌, subst, arith, zero}
use Rattle.std.proofs.Common.{suc, append-nil, append_assoc}
use Rattle.std.specs.Prelude.{Result, slice_get}
use Rattle.std.specs.List.{list_any, take-map}
use Rattle.std.proofs.lemmas.Bool.Decides.{nat_tests}
use Rattle.std.proofs.lemmas.List.{length-map}
use Rattle.hex_cells.specs.declared.colours.Colour.{Colour}
use Rattle.hex_cells.specs.declared.colours.Colour.TheVariants.{Black, White}
use Rattle.hex_board.specs.Positions.{Position, Within, Apart}
use Rattle.hex_game.specs.Games.{GameData, AreLegal, is_legal, is_over, replay}
use Rattle.hex_game.specs.declared.moves.Move.{Move}
use Rattle.hex_game.specs.declared.moves.Move.TheVariants.{Stone, Swap}
use Rattle.hex_game.specs.declared.moves.Step.{Step}
use Rattle.sgf_tree.specs.declared.lists.Node.{Node}
use Rattle.sgf_game.specs.declared.error.GameError.{GameError}
use Rattle.sgf_game.specs.declared.turns.MoveMeaning.TheVariants.{Plays}
use Rattle.sgf_game.specs.declared.turns.Turn.{Turn}
use Rattle.sgf_game.specs.Lines.{Entry, entry, entries_if, entries_in, has_end, is_last, up_to_end}
use Rattle.sgf_game.specs.Lines.{line_of}
use Rattle.sgf_game.specs.Turns.{turn_of, turns_in, turns_of, steps_of, is_refused, is_refused_next}
use Rattle.sgf_game.specs.Turns.{first_refused, game_after, game_unless, game_of_turns}
use Rattle.sgf_game.specs.Setup.{changes, is_bad_setup, start_of}
use Rattle.sgf_game.specs.GameOf.{game_of, game_of_line, game_of_size}
use Rattle.sgf_game.specs.Record.{letter_of, text_of, prop_of, node_of_step, root_of, record_of}
use Rattle.sgf_game.specs.Playing.{IsMoveOn}
use Rattle.sgf_game.proofs.Refusals.{replay_size, first_none}
use Rattle.sgf_game.proofs.Spelled.{trim_text, no_end_text, said_text, size_read}
use Rattle.sgf_game.proofs.SetUpBack.{root_entries, root_removes_none, root_well_placed}
use Rattle.sgf_game.proofs.SetUpBack.{start_again}

-- ---- legal stones lie on the board

abbrev pub AreOn : ℕ → List Step → Type 0
AreOn n [] = Unit {0}
AreOn n (step ∷ steps) = IsMoveOn n step.what × AreOn n steps

fit_below : (over a b c : Bool) (k m : ℕ) → (not over && (nat_lt k m && a && b)) ≡ true → k < m
fit_below over a b c k m e = grind (arith, nat_tests)

legal_move_on : (start : Position) (done : List Step) (colour : Colour) (what : Move)
    → is_legal (record { start = start; steps = done })
    (record { colour = colour; what = what }) ≡ true → IsMoveOn start.size what
legal_move_on start done colour Swap e = tt
legal_move_on start done colour (Stone k) e =
    let size : (replay start done).size ≡ start.size = replay_size start done in
    subst (λ n. k < n * n) size
    (fit_below (is_over (replay start done)) _ _ true k ((replay start done).size * (replay start done).size) e)

legal_from : (start : Position) (done steps : List Step) → AreLegal start (done ++ steps)
    → AreOn start.size steps
legal_from start done [] h = tt
legal_from start done (step ∷ steps) h = (
  legal_move_on start done step.colour step.what (h done step steps refl),
  legal_from start (done ++ step ∷ []) steps
      (subst (AreLegal start) (sym (append_assoc done (step ∷ []) steps)) h),
)

pub legal_on_board : (start : Position) (steps : List Step) → AreLegal start steps
    → AreOn start.size steps
legal_on_board start steps h = legal_from start [] steps h

pub step_on : (n : ℕ) (steps : List Step) (i : ℕ) (step : Step) → AreOn n steps → i < length steps
    → step ≡ get_or steps i step → IsMoveOn n step.what
step_on n [] i step h l e = absurd (omega arith)
step_on n (s ∷ steps) zero step h l e = subst (λ (t : Step). IsMoveOn n t.what) (sym e) h.0
step_on n (s ∷ steps) (suc i) step h l e = step_on n steps i step h.1 (omega arith) e

-- ---- the node of a step

abbrev turn_for : Step → Turn
turn_for step = record { colour = step.colour; said = Some (Plays step.what) }

one_entry : (colour : Colour) (text : List ℕ)
    → flat_map entries_if (prop_of (letter_of colour) (text ∷ []) ∷ []) ≡ entry colour text ∷ []
one_entry Black text = refl
one_entry White text = refl

node_entries : (n : ℕ) (step : Step) → n ≤ 11 → IsMoveOn n step.what
    → entries_in
    (node_of_step n step) ≡ record { colour = step.colour; text = text_of n step.what } ∷ []
node_entries n step h o =
    one_entry step.colour (text_of n step.what)
    ∙ ap (λ (text : List ℕ). record { colour = step.colour; text = text } ∷ [])
    (trim_text n step.what h o)

node_turns : (n : ℕ) (step : Step) → n ≤ 11 → IsMoveOn n step.what
    → turns_in n (node_of_step n step) ≡ turn_for step ∷ []
node_turns n step h o =
    ap (λ (es : List Entry). map (turn_of n (length es == 1)) es) (node_entries n step h o)
    ∙ ap (λ said. record { colour = step.colour; said = said } ∷ []) (said_text n step.what h o)

node_goes_on : (n : ℕ) (step : Step) → n ≤ 11 → IsMoveOn n step.what
    → is_last (node_of_step n step) ≡ false
node_goes_on n step h o = ap has_end (node_entries n step h o)
    ∙ rw (no_end_text n step.what h o) refl

node_changes_none : (n : ℕ) (step : Step) → changes (node_of_step n step) ≡ false
node_changes_none n step = none step.colour
  where
    none : (colour : Colour)
        → changes (record { props = prop_of (letter_of colour) (text_of n step.what ∷ []) ∷ [] }) ≡ false
    none Black = refl
    none White = refl

-- ---- the nodes of all steps

all_read : (n : ℕ) (steps : List Step) → n ≤ 11 → AreOn n steps
    → up_to_end (map (node_of_step n) steps) ≡ map (node_of_step n) steps
all_read n [] h o = refl
all_read n (step ∷ steps) h o
    = rw (node_goes_on n step h o.0)
    (ap (λ nodes. node_of_step n step ∷ nodes) (all_read n steps h o.1))

turns_again : (n : ℕ) (steps : List Step) → n ≤ 11 → AreOn n steps
    → turns_of n (map (node_of_step n) steps) ≡ map turn_for steps
turns_again n [] h o = refl
turns_again n (step ∷ steps) h o =
    ap (λ turns. turns ++ turns_of n (map (node_of_step n) steps)) (node_turns n step h o.0)
    ∙ ap (λ turns. turn_for step ∷ turns) (turns_again n steps h o.1)

changes_none : (n : ℕ) (steps : List Step) → list_any changes (map (node_of_step n) steps) ≡ false
changes_none n [] = refl
changes_none n (step ∷ steps) = rw (node_changes_none n step) (changes_none n steps)

steps_again : (steps : List Step) → steps_of (map turn_for steps) ≡ steps
steps_again [] = refl
steps_again (step ∷ steps) = ap (λ ss. step ∷ ss) (steps_again steps)

-- ---- none of them is refused

-- a list at one of its places
record At (steps : List Step) (i : ℕ) : Type 0 where
  step : Step
  whole : take i steps ++ step ∷ drop (suc i) steps ≡ steps
  turn : slice_get (map turn_for steps) i ≡ Some (turn_for step)

at_place : (steps : List Step) (i : ℕ) → i < length steps → At steps i
at_place [] i h = absurd (omega arith)
at_place (s ∷ steps) zero h = record { step = s; whole = refl; turn = refl }
at_place (s ∷ steps) (suc i) h = let rest = at_place steps i (omega arith) in
    record { step = rest.step; whole = ap (λ ss. s ∷ ss) rest.whole; turn = rest.turn }

not_refused : (start : Position) (steps : List Step) (i : ℕ) → AreLegal start steps
    → i < length steps → is_refused start (map turn_for steps) i ≡ false
not_refused start steps i h l =
    let here = at_place steps i l in
    let before : steps_of (take i (map turn_for steps)) ≡ take i steps
    = ap steps_of (take-map turn_for i steps) ∙ steps_again (take i steps) in
    let legal : is_legal (record { start = start; steps = take i steps }) here.step ≡ true
    = h (take i steps) here.step (drop (suc i) steps) here.whole in
    ap (is_refused_next (game_after start (take i (map turn_for steps)))) here.turn
    ∙ ap (λ ss. not (is_legal (record { start = start; steps = ss }) here.step)) before
    ∙ ap not legal

turns_played : (start : Position) (steps : List Step) → AreLegal start steps
    → game_of_turns start (map turn_for steps) ≡ Ok (record { start = start; steps = steps })
turns_played start steps h =
    let none : first_refused start (map turn_for steps) ≡ None =
    first_none start (map turn_for steps)
    (λ j l. not_refused start steps j h (subst (λ m. j < m) (length-map steps turn_for) l)) in
    ap (λ o. game_unless o (game_after start (map turn_for steps))) none
    ∙ ap (λ ss. Ok (record { start = start; steps = ss })) (steps_again steps)

-- ---- the whole record

root_goes_on : (start : Position) → is_last (root_of start) ≡ false
root_goes_on start = ap has_end (root_entries start)

line_again : (game : GameData) → game.start.size ≤ 11 → AreOn game.start.size game.steps
    → line_of (record_of game) ≡ root_of game.start ∷ map (node_of_step game.start.size) game.steps
line_again game h o =
    let nodes : List Node = map (node_of_step game.start.size) game.steps in
    ap (λ (more : List Node). up_to_end (root_of game.start ∷ more)) (append-nil nodes)
    ∙ rw (root_goes_on game.start)
    (ap (λ (more : List Node). root_of game.start ∷ more) (all_read game.start.size game.steps h o))

well_set_up : (start : Position) (steps : List Step) → start.size ≤ 11
    → Within start.size start.black → Within start.size start.white → Apart start.black start.white
    → is_bad_setup start.size (root_of start) (map (node_of_step start.size) steps) ≡ false
well_set_up start steps h b w a
    = parts _ _ _ (changes_none start.size steps) (root_removes_none start)
    (root_well_placed start h b w a)
  where
    parts : (x y z : Bool) → x ≡ false → y ≡ false → z ≡ false → ((x || y) || z) ≡ false
    parts x y z e f g = rw (e, f, g) refl

root_turns : (start : Position) (steps : List Step) → start.size ≤ 11 → AreOn start.size steps
    → turns_of start.size (root_of start ∷ map (node_of_step start.size) steps) ≡ map turn_for steps
root_turns start steps h o =
    ap (λ (es : List Entry). map (turn_of start.size (length es == 1)) es ++ turns_of start.size (map (node_of_step start.size) steps)) (root_entries start)
    ∙ turns_again start.size steps h o

sized : (b : Bool) (r s : Result GameData GameError) → b ≡ false → cond b r s ≡ s
sized b r s e = rw e refl

-- the game of a game's record is the game
pub game_again : (game : GameData) → 1 ≤ game.start.size → game.start.size ≤ 11
    → Within game.start.size game.start.black → Within game.start.size game.start.white
    → Apart game.start.black game.start.white → AreLegal game.start game.steps
    → game_of (record_of game) ≡ Ok game
game_again game l h b w a legal =
    let start = game.start in
    let steps = game.steps in
    let nodes : List Node = map (node_of_step start.size) steps in
    let o : AreOn start.size steps = legal_on_board start steps legal in
    ap game_of_line (line_again game h o)
    ∙ ap (λ n. game_of_size n (root_of start) nodes) (size_read start.size l h)
    ∙ sized (is_bad_setup start.size (root_of start) nodes) _
    (game_of_turns (start_of start.size (root_of start)) (turns_of start.size (root_of start ∷ nodes))) (well_set_up start steps h b w a)
    ∙ ap (λ s. game_of_turns s (turns_of start.size (root_of start ∷ nodes)))
    (start_again start h b w)
    ∙ ap (game_of_turns start) (root_turns start steps h o)
    ∙ turns_played start steps legal
