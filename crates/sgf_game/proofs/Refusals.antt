-- The turns of a line: none follows one that ends it, each stone lies on the board, and so the
-- first that is refused stands behind few steps.
use Rattle.hex_board.proofs.Placed.{placed_size}
use Rattle.hex_cells.proofs.Ranges.{find_none, find_first}
use Rattle.std.proofs.Common.{◌≡◌, ℕ, ◌+◌, ◌<◌, ◌==◌, Bool, true, false, not, cond, List, [], ◌∷◌}
use Rattle.std.proofs.Common.{◌++◌, Some, None, map, length, take, get_or, refl, sym, ap, ◌∙◌}
use Rattle.std.proofs.Common.{subst, arith, zero, suc, append-nil, length-append}
use Rattle.std.specs.Prelude.{Option, slice_get, option_map}
use Rattle.std.proofs.lemmas.Bool.{or_parts, not-false}
use Rattle.std.proofs.lemmas.Grind.{flat_map-append}
use Rattle.std.proofs.lemmas.List.{take_more}
use Rattle.hex_cells.specs.Vertices.{vertex_cell}
use Rattle.hex_cells.specs.declared.colours.Colour.{Colour}
use Rattle.hex_board.specs.Positions.{Position}
use Rattle.hex_game.specs.Moves.{lone_black_stone}
use Rattle.hex_game.specs.Games.{GameData, is_legal_on, moved, swapped, after_step, replay_on}
use Rattle.hex_game.specs.Games.{replay, IsOnBoard}
use Rattle.hex_game.specs.declared.moves.Move.{Move}
use Rattle.hex_game.specs.declared.moves.Move.TheVariants.{Stone, Swap}
use Rattle.hex_game.specs.declared.moves.Step.{Step}
use Rattle.sgf_tree.specs.declared.lists.Node.{Node}
use Rattle.sgf_game.specs.declared.turns.MoveMeaning.{MoveMeaning}
use Rattle.sgf_game.specs.declared.turns.MoveMeaning.TheVariants.{Plays, Ends}
use Rattle.sgf_game.specs.declared.turns.Turn.{Turn}
use Rattle.sgf_game.specs.Lines.{Entry, entries_in, ends, has_end, is_last, up_to_end}
use Rattle.sgf_game.specs.Turns.{said_by, turn_of, turns_in, turns_of, step_said, steps_of}
use Rattle.sgf_game.specs.Turns.{is_refused_said, is_refused_next, is_refused, first_refused}
use Rattle.sgf_game.specs.Turns.{game_after}
use Rattle.sgf_game.specs.Playing.{IsSaidOn, AreSaidOn, EndsLast}
use Rattle.sgf_game.proofs.Placing.{vertex_on_board, IsCellOf}

-- ---- the board keeps its size

swapped_size : (now : Position) (cell : Option ℕ) → (swapped now cell).size ≡ now.size
swapped_size now None = refl
swapped_size now (Some k) = refl

moved_size : (now : Position) (steps : List Step) (colour : Colour) (what : Move)
    → (moved now steps colour what).size ≡ now.size
moved_size now steps colour (Stone k) = placed_size now colour k
moved_size now steps colour Swap = swapped_size now (lone_black_stone steps)

either_size : (b : Bool) (p q : Position) (n : ℕ) → p.size ≡ n → q.size ≡ n → (cond b p q).size ≡ n
either_size true p q n e f = e
either_size false p q n e f = f

replay_on_size : (start : Position) (before : List Step) (now : Position) (steps : List Step)
    → (replay_on start before now steps).size ≡ now.size
replay_on_size start before now [] = refl
replay_on_size start before now (step ∷ steps) =
    replay_on_size start (before ++ step ∷ []) (after_step start before now step) steps
    ∙ either_size (is_legal_on start before now step)
    (moved now before step.colour step.what) now now.size
    (moved_size now before step.colour step.what) refl

pub replay_size : (start : Position) (steps : List Step) → (replay start steps).size ≡ start.size
unfolding replay
replay_size start steps = replay_on_size start [] start steps

-- ---- stones lie on the board

stone_on : (n : ℕ) (cell : Option ℕ) → IsCellOf n cell
    → IsSaidOn n (option_map (λ k. Plays (Stone k)) cell)
stone_on n None h = tt
stone_on n (Some k) h = h

said_cases : (n : ℕ) (swap end : Bool) (said : Option MoveMeaning) → IsSaidOn n said
    → IsSaidOn n (cond swap (Some (Plays Swap)) (cond end (Some Ends) said))
said_cases n true end said h = tt
said_cases n false true said h = tt
said_cases n false false said h = h

said_on : (n : ℕ) (text : List ℕ) → IsSaidOn n (said_by n text)
said_on n text = said_cases n _ (ends text) (option_map (λ k. Plays (Stone k)) (vertex_cell n text))
    (stone_on n (vertex_cell n text) (vertex_on_board n text))

turn_on : (n : ℕ) (alone : Bool) (e : Entry) → IsSaidOn n (turn_of n alone e).said
turn_on n true e = said_on n e.text
turn_on n false e = tt

on_append : (n : ℕ) (xs ys : List Turn) → AreSaidOn n xs → AreSaidOn n ys → AreSaidOn n (xs ++ ys)
on_append n [] ys h k = k
on_append n (x ∷ xs) ys h k = (h.0, on_append n xs ys h.1 k)

entries_on : (n : ℕ) (alone : Bool) (es : List Entry) → AreSaidOn n (map (turn_of n alone) es)
entries_on n alone [] = tt
entries_on n alone (e ∷ es) = (turn_on n alone e, entries_on n alone es)

pub turns_on : (n : ℕ) (line : List Node) → AreSaidOn n (turns_of n line)
turns_on n [] = tt
turns_on n (node ∷ line) = on_append n (turns_in n node) (turns_of n line)
    (entries_on n (length (entries_in node) == 1) (entries_in node)) (turns_on n line)

-- ---- no turn follows one that ends the line

abbrev EndsNowhere : List Turn → Type 0
EndsNowhere [] = Unit {0}
EndsNowhere (turn ∷ turns) = (turn.said ≡ Some Ends → ⊥) × EndsNowhere turns

ends_behind : (xs ys : List Turn) → EndsNowhere xs → EndsLast ys → EndsLast (xs ++ ys)
ends_behind [] ys h k = k
ends_behind (x ∷ xs) ys h k = ((λ e. absurd (h.0 e)), ends_behind xs ys h.1 k)

no_end_at_stone : (cell : Option ℕ) → option_map (λ k. Plays (Stone k)) cell ≡ Some Ends → ⊥
no_end_at_stone None e = cc
no_end_at_stone (Some k) e = cc

no_end_said : (swap end : Bool) (cell : Option ℕ) → end ≡ false
    → cond swap (Some (Plays Swap))
    (cond end (Some Ends) (option_map (λ k. Plays (Stone k)) cell)) ≡ Some Ends → ⊥
no_end_said true end cell f e = cc
no_end_said false true cell f e = cc
no_end_said false false cell f e = no_end_at_stone cell e

no_end : (n : ℕ) (alone : Bool) (e : Entry) → ends e.text ≡ false
    → (turn_of n alone e).said ≡ Some Ends → ⊥
no_end n true e f q = no_end_said _ (ends e.text) (vertex_cell n e.text) f q
no_end n false e f q = cc

nowhere : (n : ℕ) (alone : Bool) (es : List Entry) → has_end es ≡ false
    → EndsNowhere (map (turn_of n alone) es)
nowhere n alone [] h = tt
nowhere n alone (e ∷ es) h = let t = or_parts (ends e.text) (has_end es) h in
    (no_end n alone e t.0, nowhere n alone es t.1)

nothing_said : (n : ℕ) (es : List Entry) → EndsLast (map (turn_of n false) es)
nothing_said n [] = tt
nothing_said n (e ∷ es) = ((λ q. absurd (cc)), nothing_said n es)

one_entry : (n : ℕ) (alone : Bool) (es : List Entry) → alone ≡ (length es == 1)
    → EndsLast (map (turn_of n alone) es)
one_entry n true [] h = tt
one_entry n true (e ∷ []) h = ((λ q. refl), tt)
one_entry n true (e ∷ f ∷ es) h = absurd (grind arith)
one_entry n false es h = nothing_said n es

behind_last : (n : ℕ) (b : Bool) (node : Node) (rest : List Node) → b ≡ is_last node
    → EndsLast (turns_of n rest) → EndsLast (turns_in n node ++ turns_of n (cond b [] rest))
behind_last n true node rest e h = subst EndsLast (sym (append-nil (turns_in n node)))
    (one_entry n (length (entries_in node) == 1) (entries_in node) refl)
behind_last n false node rest e h = ends_behind (turns_in n node) (turns_of n rest)
    (nowhere n (length (entries_in node) == 1) (entries_in node) (sym e)) h

pub ends_last : (n : ℕ) (nodes : List Node) → EndsLast (turns_of n (up_to_end nodes))
ends_last n [] = tt
ends_last n (node ∷ nodes) = behind_last n (is_last node) node (up_to_end nodes) refl
    (ends_last n nodes)

-- ---- the first that is refused

pub first_is : (start : Position) (turns : List Turn) (i : ℕ) → i < length turns
    → is_refused start turns i ≡ true → ((j : ℕ) → j < i → is_refused start turns j ≡ false)
    → first_refused start turns ≡ Some i
first_is start turns i h e f = find_first (is_refused start turns) 0 (length turns) i (omega arith)
    (omega arith) e (λ j u v. f j v)

pub first_none : (start : Position) (turns : List Turn)
    → ((j : ℕ) → j < length turns → is_refused start turns j ≡ false)
    → first_refused start turns ≡ None
first_none start turns f = find_none (is_refused start turns) 0 (length turns)
    (λ j u v. f j (omega arith))

-- ---- each turn before the last makes a step

abbrev pub speaks : Option MoveMeaning → Bool
speaks None = false
speaks (Some said) = true

abbrev pub says : Option Turn → Bool
says None = true
says (Some turn) = speaks turn.said

refused_or_speaks : (game : GameData) (colour : Colour) (said : Option MoveMeaning)
    → is_refused_said game colour said ≡ false → speaks said ≡ true
refused_or_speaks game colour None e = absurd (cc)
refused_or_speaks game colour (Some said) e = refl

refused_or_says : (game : GameData) (turn : Option Turn) → is_refused_next game turn ≡ false
    → says turn ≡ true
refused_or_says game None e = refl
refused_or_says game (Some turn) e = refused_or_speaks game turn.colour turn.said e

one_step : (colour : Colour) (said : Option MoveMeaning) → speaks said ≡ true
    → (said ≡ Some Ends → ⊥) → length (step_said colour said) ≡ 1
one_step colour None e n = absurd (cc)
one_step colour (Some Ends) e n = absurd (n refl)
one_step colour (Some (Plays what)) e n = refl

not_last : (said : Option MoveMeaning) (turns : List Turn) (i : ℕ) → (said ≡ Some Ends → turns ≡ [])
    → i < length turns → said ≡ Some Ends → ⊥
not_last said turns i f h e = let t : length turns ≡ 0 = ap length (f e) in omega arith

as_many_steps : (turns : List Turn) (i : ℕ) → EndsLast turns → i < length turns
    → ((j : ℕ) → j < i → says (slice_get turns j) ≡ true) → length (steps_of (take i turns)) ≡ i
as_many_steps turns zero h l f = refl
as_many_steps [] (suc i) h l f = absurd (omega arith)
as_many_steps (turn ∷ turns) (suc i) h l f =
    let first : length (step_said turn.colour turn.said) ≡ 1
    = one_step turn.colour turn.said (f 0 (omega arith))
    (not_last turn.said turns i h.0 (omega arith)) in
    let rest : length (steps_of (take i turns)) ≡ i
    = as_many_steps turns i h.1 (omega arith) (λ j k. f (suc j) (omega arith)) in
    rw length-append (omega (arith, first, rest))

pub few_turns : (start : Position) (turns : List Turn) (i : ℕ) → EndsLast turns → i < length turns
    → ((j : ℕ) → j < i → is_refused start turns j ≡ false) → length (steps_of (take i turns)) ≡ i
few_turns start turns i h l f
    = as_many_steps turns i h l
    (λ j k. refused_or_says (game_after start (take j turns)) (slice_get turns j) (f j k))

-- ---- a turn at its place

pub said_on_board : (start : Position) (steps : List Step) (said : Option MoveMeaning) (what : Move)
    → IsSaidOn start.size said → said ≡ Some (Plays what) → IsOnBoard (replay start steps) what
said_on_board start steps said what h e = on what (subst (IsSaidOn start.size) e h)
  where
    on : (what : Move) → IsSaidOn start.size (Some (Plays what))
        → IsOnBoard (replay start steps) what
    on (Stone k) h = rw replay_size h
    on Swap h = tt

pub said_at : (n : ℕ) (turns : List Turn) (i : ℕ) (turn : Turn) → AreSaidOn n turns
    → i < length turns → turn ≡ get_or turns i turn → IsSaidOn n turn.said
said_at n [] i turn h l e = absurd (omega arith)
said_at n (t ∷ turns) zero turn h l e = subst (λ (u : Turn). IsSaidOn n u.said) (sym e) h.0
said_at n (t ∷ turns) (suc i) turn h l e = said_at n turns i turn h.1 (omega arith) e

pub turn_at : (turns : List Turn) (i : ℕ) (turn : Turn) → i < length turns
    → turn ≡ get_or turns i turn → slice_get turns i ≡ Some turn
turn_at [] i turn l e = absurd (omega arith)
turn_at (t ∷ turns) zero turn l e = ap Some (sym e)
turn_at (t ∷ turns) (suc i) turn l e = turn_at turns i turn (omega arith) e

refusal_at : (start : Position) (turns : List Turn) (i : ℕ) (turn : Turn) (game : GameData)
    → i < length turns → turn ≡ get_or turns i turn → game ≡ game_after start (take i turns)
    → is_refused start turns i ≡ is_refused_said game turn.colour turn.said
refusal_at start turns i turn game l e g =
    ap (is_refused_next (game_after start (take i turns))) (turn_at turns i turn l e)
    ∙ ap (λ (h : GameData). is_refused_said h turn.colour turn.said) (sym g)

not_false : (b : Bool) → true ≡ not b → b ≡ false
not_false true e = absurd (cc)
not_false false e = refl

pub refused_at : (start : Position) (turns : List Turn) (i : ℕ) (turn : Turn) (game : GameData)
    → i < length turns → turn ≡ get_or turns i turn → game ≡ game_after start (take i turns)
    → false ≡ not (is_refused_said game turn.colour turn.said) → is_refused start turns i ≡ true
refused_at start turns i turn game l e g h = refusal_at start turns i turn game l e g
    ∙ not-false (is_refused_said game turn.colour turn.said) (sym h)

pub taken_at : (start : Position) (turns : List Turn) (i : ℕ) (turn : Turn) (game : GameData)
    → i < length turns → turn ≡ get_or turns i turn → game ≡ game_after start (take i turns)
    → true ≡ not (is_refused_said game turn.colour turn.said) → is_refused start turns i ≡ false
taken_at start turns i turn game l e g h = refusal_at start turns i turn game l e g
    ∙ not_false (is_refused_said game turn.colour turn.said) h

-- the game after one turn more
pub game_more : (start : Position) (turns : List Turn) (i : ℕ) (turn : Turn) (game : GameData)
    → i < length turns → turn ≡ get_or turns i turn → game ≡ game_after start (take i turns)
    → record game { steps = game.steps ++ step_said turn.colour turn.said } ≡ game_after start
    (take (i + 1) turns)
game_more start turns i turn game l e g =
    let said : List Step = step_said turn.colour turn.said in
    let more : take (i + 1) turns ≡ take i turns ++ turn ∷ [] = take_more turns i turn l
    ∙ ap (λ (t : Turn). take i turns ++ t ∷ []) (sym e) in
    let steps : steps_of (take (i + 1) turns) ≡ steps_of (take i turns) ++ said =
    ap steps_of more ∙ flat_map-append (λ (t : Turn). step_said t.colour t.said) (take i turns)
    (turn ∷ []) ∙ ap (λ ss. steps_of (take i turns) ++ ss) (append-nil said) in
    ap (λ (h : GameData). record h { steps = h.steps ++ said }) g
    ∙ ap (λ ss. record { start = start; steps = ss }) (sym steps)
