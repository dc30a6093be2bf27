-- What a fetch uses up, and what uses nothing up.
use Rattle.std.proofs.Common.{◌≡◌, ◌≤◌, ℕ, length, arith, Bool, true, false, cond, List, [], ◌∷◌}
use Rattle.std.proofs.Common.{◌++◌, Option, Some, Ok, refl, sym, ap, ◌∙◌, subst, append-nil}
use Rattle.hex_io.specs.Shelves.{Shelved, Fetched, is_failed, Tries, Fetches as FetchesOne}
use Rattle.hex_io.proofs.BothLaws.{Both-weaker, Both-refl}
use Rattle.hex_plan.specs.Turns.{TurnData}
use Rattle.hex_engine.specs.declared.options.Options.{Options}
use Rattle.hex_engine.specs.declared.answers.Fail.TheVariants.{Over}
use Rattle.hex_engine.specs.EngineState.{EngineState}
use Rattle.hex_engine.specs.Supply.{Supply, nothing_left, loads_only, turns_only, and_then}
use Rattle.hex_engine.specs.declared.loadsgf.Loaded.{Loaded}
use Rattle.hex_engine.specs.Uses.{IsLoadOf, FetchesLoads, Loading, Moving}
use Rattle.hex_engine.specs.Replies.{Failed as FailedReply, Reaction, NoLoad, NoTurn, unchanged}
use Rattle.hex_engine.specs.Replies.{unused}
use Rattle.hex_engine.specs.LoadReplies.{loaded, loading, loading_by, file_named}
use Rattle.hex_engine.specs.MoveReplies.{lone_colour, is_next, turned, moving, moving_by}
use Rattle.hex_engine.specs.MoveReplies.{moving_next}
use Rattle.hex_engine.specs.Requests.{Reacts, replied}
use Rattle.hex_engine.specs.declared.answers.Answer.{Answer}
use Rattle.hex_cells.specs.declared.colours.Colour.{Colour}
use Rattle.hex_game.specs.Games.{board_of}
use Rattle.hex_plan.specs.Openings.{may_move}
use Rattle.std.specs.Prelude.{IfOk, Result, Err}
use Rattle.std.proofs.lemmas.Slice.Eq.{bytes_eq-Decides}

pub unfetched : (t : Option Shelved) → Loading t t nothing_left []
unfetched t = Both-refl t (λ o n. FetchesLoads o n [] [])
    (λ x. record { tries = []; tried = ap (λ l. record x { tries = l }) (sym (append-nil x.tries)); came = tt })

pub nothing_moved : (options : Options) (t : Option (List TurnData))
    → Moving options t t nothing_left
nothing_moved options t
    = record { took = Both-refl t (λ o n. n ≡ o ++ []) (λ x. sym (append-nil x)); good = tt }

fetched_as : (o n : Shelved) (name : List ℕ) (f : Fetched) (what : Loaded) → IsLoadOf f what
    → Tries o n name f
    → FetchesLoads o n (loads_only (record { name = name; what = what } ∷ [])).loads []
fetched_as o n name f what load t
    = record { tries = is_failed f ∷ []; tried = t.tried; came = (subst (λ u. IsLoadOf u what) t.is load, tt) }

-- a fetch of which this came, and what came of its file
pub fetched_one : (old new : Option Shelved) (name : List ℕ) (said : Option Fetched) (f : Fetched)
    (what : Loaded) → FetchesOne old new name said → said ≡ Some f → IsLoadOf f what
    → Loading old new (loads_only (record { name = name; what = what } ∷ [])) []
fetched_one old new name said f what h e load =
    Both-weaker old new (λ o n. Tries o n name f)
    (λ o n. FetchesLoads o n (loads_only (record { name = name; what = what } ∷ [])).loads [])
    (λ o n. fetched_as o n name f what load) (subst (FetchesOne old new name) e h)

vain_as : (o n : Shelved) (name : List ℕ) (f : Fetched) → Tries o n name f
    → FetchesLoads o n [] (is_failed f ∷ [])
vain_as o n name f t = record { tries = []; tried = t.tried; came = tt }

-- a fetch that came to nothing else
pub fetched_in_vain : (old new : Option Shelved) (name : List ℕ) (said : Option Fetched)
    (f : Fetched) → FetchesOne old new name said → said ≡ Some f
    → (tries : List Bool) × (length tries ≤ 1) × Loading old new nothing_left tries
fetched_in_vain old new name said f h e = (
  is_failed f ∷ [],
  omega arith,
  Both-weaker old new (λ o n. Tries o n name f)
      (λ o n. FetchesLoads o n [] (is_failed f ∷ [])) (λ o n. vain_as o n name f) (subst (FetchesOne old new name) e h),
)

pub if_ok : {T E : Type 0} (r : Result T E) (P Q : T → Type 0) → ((x : T) → P x → Q x)
    → IfOk r P → IfOk r Q
if_ok (Ok x) P Q go h = go x h
if_ok (Err e) P Q go h = tt

-- a file of this name came to this
pub loads_reply : (s : EngineState) (name : List ℕ) (what : Loaded) (args : List (List ℕ))
    → file_named args ≡ Some name
    → (later : Supply)
    → loading s (and_then (loads_only (record { name = name; what = what } ∷ [])) later) args ≡ unused later (loaded s what)
loads_reply s name what args e later =
    ap (loading_by s (and_then (loads_only (record { name = name; what = what } ∷ [])) later)) e
    ∙ ap (λ b. cond b (unused later (loaded s what)) (Err NoLoad))
    ((bytes_eq-Decides name name).1 refl)

pub over_reply : (s : EngineState) (colour : Colour) (args : List (List ℕ))
    → lone_colour args ≡ Some colour → may_move (board_of s.game) ≡ false
    → (later : Supply) → moving s later args ≡ unused later (unchanged s (FailedReply Over))
over_reply s colour args e f later =
    ap (moving_by s later) e
    ∙ ap (λ b. cond b (moving_next s later later.turns colour) (unused later (unchanged s (FailedReply Over)))) f

pub moved_reply : (s : EngineState) (colour : Colour) (turn : TurnData) (args : List (List ℕ))
    → lone_colour args ≡ Some colour → may_move (board_of s.game) ≡ true
    → is_next s colour turn ≡ true
    → (later : Supply) → moving s (and_then (turns_only (turn ∷ [])) later) args ≡ unused later
    (turned s colour turn)
moved_reply s colour turn args e f n later =
    let left : Supply = and_then (turns_only (turn ∷ [])) later in
    ap (moving_by s left) e
    ∙ ap (λ b. cond b (moving_next s left left.turns colour) (unused left (unchanged s (FailedReply Over)))) f
    ∙ ap (λ b. cond b (unused later (turned s colour turn)) (Err NoTurn)) n

-- the reaction that this answer gives
pub reacts_reply : (r : Reaction) (answer : Answer) (after : EngineState) (later : Supply)
    → Reacts r answer after
    → unused later r ≡ Ok (record { reply = replied answer; after = after; left = later })
reacts_reply r answer after later e = ap (unused later) (sym e)
