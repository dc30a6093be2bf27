-- With one worker a request is answered the same whatever good turns are left: those that are next
-- are played and reported alike.
use Rattle.std.proofs.Common.{◌≡◌, ℕ, ◌+◌, Bool, true, false, cond, List, [], ◌∷◌, Option, Some}
use Rattle.std.proofs.Common.{None, Result, Ok, Err, refl, sym, ap, ◌∙◌, subst}
use Rattle.std.specs.Str.{bytes_eq}
use Rattle.std.proofs.lemmas.Bool.{and_parts, eqb-true}
use Rattle.std.proofs.lemmas.Slice.Eq.{bytes_eq-Decides}
use Rattle.htp_line.specs.declared.request.Request.{Request}
use Rattle.hex_cells.specs.declared.colours.Colour.{Colour}
use Rattle.hex_cells.specs.Vertices.{vertex_of}
use Rattle.hex_cells.proofs.ColourLaws.{same_colour}
use Rattle.hex_game.specs.Games.{board_of, with_step}
use Rattle.hex_game.specs.Moves.{step_of}
use Rattle.hex_game.specs.declared.moves.Move.TheVariants.{Stone}
use Rattle.hex_engine.specs.declared.options.Options.{Options}
use Rattle.hex_plan.specs.Good.{IsGood}
use Rattle.hex_plan.specs.Openings.{may_move}
use Rattle.hex_plan.specs.Turns.{TurnData}
use Rattle.hex_plan.proofs.Same.{same_turn}
use Rattle.hex_engine.specs.Commands.{command_named}
use Rattle.hex_engine.specs.Supply.{Supply, Load}
use Rattle.hex_engine.specs.declared.loadsgf.Loaded.{Loaded}
use Rattle.hex_engine.specs.EngineState.{EngineState}
use Rattle.hex_engine.specs.Uses.{AreGood, HasOneWorker}
use Rattle.hex_engine.specs.Replies.{Reaction, Turned, Missing, Done, NoLoad, NoTurn, Failed}
use Rattle.hex_engine.specs.Replies.{unused, unchanged}
use Rattle.hex_engine.specs.LoadReplies.{loaded, file_named, loading_next, loading_by}
use Rattle.hex_engine.specs.MoveReplies.{is_next, turned, moving_next, moving_by, lone_colour}
use Rattle.hex_engine.specs.Requests.{obeyed, reaction_by, reaction}
use Rattle.hex_engine.specs.declared.answers.Fail.TheVariants.{Over}
use Rattle.hex_engine.specs.declared.commands.Command.{Command}
use Rattle.hex_engine.specs.declared.commands.Command.TheVariants as command
use Rattle.hex_engine.specs.declared.commands.Using.TheVariants as using
use Rattle.hex_engine.proofs.Legal.{next_board}
use Rattle.htp_session.proofs.OneWorkerLoads.{SameLoads}

-- ---- one turn

-- two good turns that are a conversation's next are played and reported alike
same_move : (options : Options) (at : EngineState) (colour : Colour) (t u : TurnData)
    → HasOneWorker options → IsGood options.knobs options.means t
    → IsGood options.knobs options.means u → is_next at colour t ≡ true
    → is_next at colour u ≡ true
    → turned at colour u ≡ turned at colour t
same_move options at colour t u one g h e f =
    let p = and_parts _ _ e in
    let q = and_parts _ _ f in
    let p' = and_parts _ _ p.1 in
    let q' = and_parts _ _ q.1 in
    let board : t.board ≡ u.board = next_board at colour t e ∙ sym (next_board at colour u f) in
    let player : t.player ≡ u.player = same_colour t.player colour p'.0
    ∙ sym (same_colour u.player colour q'.0) in
    let number : t.number ≡ u.number = eqb-true t.number at.turns p'.1
    ∙ sym (eqb-true u.number at.turns q'.1) in
    let same = same_turn options.knobs options.means t u one.workers one.no_connections g h board player number in
    sym (λ i. record {
      reply = Done (vertex_of (board_of at.game).size (same.0 i));
      after = record at { game = with_step at.game (step_of colour (Stone (same.0 i))); turns = at.turns + 1; last = Some (same.2 i) };
    })

-- ---- one request

-- of one name the same came in the loads of both, and the turns of both are good
pub record Alike (options : Options) (a b : Supply) : Type 0 where
  pub loads : SameLoads a.loads b.loads
  pub good : AreGood options a.turns
  pub other : AreGood options b.turns

-- where nothing is missing, both are the same but for what is left
abbrev pub Agree : Options → Result Turned Missing → Result Turned Missing → Type 0
Agree options (Ok t) (Ok u) = (u ≡ record t { left = u.left }) × Alike options t.left u.left
Agree options (Ok t) (Err missing) = Unit {0}
Agree options (Err missing) other = Unit {0}

missing_agree : (options : Options) (r : Result Turned Missing) (missing : Missing)
    → Agree options r (Err missing)
missing_agree options (Ok t) missing = tt
missing_agree options (Err other) missing = tt

-- of one name the same came of both next loads
load_agree : (options : Options) (at : EngineState) (a b : Supply) (load other : Load)
    (name : List ℕ) → (load.name ≡ other.name → load.what ≡ other.what) → Alike options a b
    → Agree options (cond (bytes_eq load.name name) (unused a (loaded at load.what)) (Err NoLoad))
    (cond (bytes_eq other.name name) (unused b (loaded at other.what)) (Err NoLoad))
load_agree options at a b load other name same h
    = by (bytes_eq load.name name) (bytes_eq other.name name) refl refl
  where
    by : (x y : Bool) → bytes_eq load.name name ≡ x → bytes_eq other.name name ≡ y
        → Agree options (cond x (unused a (loaded at load.what)) (Err NoLoad))
        (cond y (unused b (loaded at other.what)) (Err NoLoad))
    by true true p q =
        let what : load.what ≡ other.what
        = same ((bytes_eq-Decides load.name name).0 p ∙ sym ((bytes_eq-Decides other.name name).0 q)) in
        (ap (λ (w : Loaded). record { reply = (loaded at w).reply; after = (loaded at w).after; left = b }) (sym what), h)
    by true false p q = tt
    by false y p q = tt

loads_agree : (options : Options) (at : EngineState) (a b : Supply) (loads others : List Load)
    (name : List ℕ) → SameLoads loads others → AreGood options a.turns → AreGood options b.turns
    → Agree options (loading_next at a loads name) (loading_next at b others name)
loads_agree options at a b [] others name same g h = tt
loads_agree options at a b (load ∷ loads) [] name same g h
    = missing_agree options (loading_next at a (load ∷ loads) name) NoLoad
loads_agree options at a b (load ∷ loads) (other ∷ others) name same g h =
    load_agree options at (record a { loads = loads })
    (record b { loads = others }) load other name same.0
    (record { loads = same.1; good = g; other = h })

loading_agree : (options : Options) (at : EngineState) (a b : Supply) (name : Option (List ℕ))
    → Alike options a b → Agree options (loading_by at a name) (loading_by at b name)
loading_agree options at a b None h = (refl, h)
loading_agree options at a b (Some name) h
    = loads_agree options at a b a.loads b.loads name h.loads h.good h.other

moves_agree : (options : Options) (at : EngineState) (a b : Supply) (turns others : List TurnData)
    (colour : Colour) → HasOneWorker options → SameLoads a.loads b.loads → AreGood options turns
    → AreGood options others
    → Agree options (moving_next at a turns colour) (moving_next at b others colour)
moves_agree options at a b [] others colour one e g h = tt
moves_agree options at a b (t ∷ turns) [] colour one e g h
    = missing_agree options (moving_next at a (t ∷ turns) colour) NoTurn
moves_agree options at a b (t ∷ turns) (u ∷ others) colour one e g h
    = by (is_next at colour t) (is_next at colour u) refl refl
  where
    by : (x y : Bool) → is_next at colour t ≡ x → is_next at colour u ≡ y
        → Agree options
        (cond x (unused (record a { turns = turns }) (turned at colour t)) (Err NoTurn))
        (cond y (unused (record b { turns = others }) (turned at colour u)) (Err NoTurn))
    by true true p q
        = (
          ap (λ (r : Reaction). record { reply = r.reply; after = r.after; left = record b { turns = others } })
              (same_move options at colour t u one g.0 h.0 p q),
          record { loads = e; good = g.1; other = h.1 },
        )
    by true false p q = tt
    by false y p q = tt

moving_agree : (options : Options) (at : EngineState) (a b : Supply) (colour : Option Colour)
    → HasOneWorker options → Alike options a b
    → Agree options (moving_by at a colour) (moving_by at b colour)
moving_agree options at a b None one h = (refl, h)
moving_agree options at a b (Some colour) one h = by (may_move (board_of at.game))
  where
    by : (x : Bool)
        → Agree options
        (cond x (moving_next at a a.turns colour) (unused a (unchanged at (Failed Over))))
        (cond x (moving_next at b b.turns colour) (unused b (unchanged at (Failed Over))))
    by true = moves_agree options at a b a.turns b.turns colour one h.loads h.good h.other
    by false = (refl, h)

obeyed_agree : (options : Options) (at : EngineState) (a b : Supply) (what : Command)
    (args : List (List ℕ)) → HasOneWorker options → Alike options a b
    → Agree options (obeyed at a what args) (obeyed at b what args)
obeyed_agree options at a b (command.Using using.GenMove) args one h
    = moving_agree options at a b (lone_colour args) one h
obeyed_agree options at a b (command.Using using.LoadSgf) args one h
    = loading_agree options at a b (file_named args) h
obeyed_agree options at a b (command.Quiet quiet) args one h = (refl, h)

by_agree : (options : Options) (at : EngineState) (a b : Supply) (what : Option Command)
    (args : List (List ℕ)) → HasOneWorker options → Alike options a b
    → Agree options (reaction_by at a what args) (reaction_by at b what args)
by_agree options at a b None args one h = (refl, h)
by_agree options at a b (Some what) args one h = obeyed_agree options at a b what args one h

-- a request is answered the same by both
pub reactions_agree : (options : Options) (at : EngineState) (a b : Supply) (asked : Request)
    → HasOneWorker options → Alike options a b
    → Agree options (reaction at a asked) (reaction at b asked)
unfolding reaction
reactions_agree options at a b asked one h
    = by_agree options at a b (command_named asked.name) asked.args one h
