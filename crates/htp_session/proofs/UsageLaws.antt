-- What is used up by one call after another.
use Rattle.std.proofs.Common.{◌≡◌, ℕ, Bool, List, [], ◌∷◌, ◌++◌, refl, ap, sym, ◌∙◌, subst}
use Rattle.std.proofs.Common.{append-nil, append_assoc, arith}
use Rattle.hex_io.specs.declared.files.File.{File}
use Rattle.hex_io.specs.Shelves.{Shelved}
use Rattle.hex_io.proofs.BothLaws.{Both-then, Both-refl}
use Rattle.hex_engine.specs.declared.options.Options.{Options}
use Rattle.hex_plan.specs.Turns.{TurnData}
use Rattle.hex_engine.specs.EngineState.{EngineState}
use Rattle.hex_engine.specs.Supply.{Supply, Load, nothing_left, and_then}
use Rattle.hex_engine.specs.Uses.{CameOf, FetchesLoads, AreGood}
use Rattle.htp_session.specs.Talk.{TalkState, ending_if}
use Rattle.htp_session.specs.Usage.{UsesUp, UsesUpNothing, AnswersWith}
use Rattle.hex_devices.specs.Devices.{ShelfAndArchive}

-- ---- what is left

pub and_then_nothing : (a : Supply) → and_then a nothing_left ≡ a
and_then_nothing a = let l = append-nil a.loads in let t = append-nil a.turns in rw (l, t) refl

-- ---- uses

came_then : (files : List File) (s t : List Bool) (k l : List Load) → CameOf files s k
    → CameOf files t l → CameOf files (s ++ t) (k ++ l)
came_then files [] t [] l c d = d
came_then files [] t (load ∷ loads) l c d = absurd c
came_then files (failed ∷ tries) t [] l c d = absurd c
came_then files (failed ∷ tries) t (load ∷ loads) l c d
    = (c.0, came_then files tries t loads l c.1 d)

fetches_then : (x y z : Shelved) (k l : List Load) (in_vain : List Bool) → FetchesLoads x y k []
    → FetchesLoads y z l in_vain → FetchesLoads x z (k ++ l) in_vain
fetches_then x y z k l in_vain p q =
    let first : y ≡ record x { tries = x.tries ++ p.tries } = p.tried
    ∙ ap (λ t. record x { tries = x.tries ++ t }) (append-nil p.tries) in
    let came : CameOf x.files q.tries l
    = subst (λ (s : Shelved). CameOf s.files q.tries l) first q.came in
    let then : z ≡ record x { tries = (x.tries ++ p.tries) ++ (q.tries ++ in_vain) }
    = subst (λ (s : Shelved). z ≡ record s { tries = s.tries ++ (q.tries ++ in_vain) }) first q.tried in
    let same : (x.tries ++ p.tries) ++ (q.tries ++ in_vain) ≡ x.tries ++ ((p.tries ++ q.tries) ++ in_vain) =
    append_assoc x.tries p.tries (q.tries ++ in_vain)
    ∙ ap (λ t. x.tries ++ t) (sym (append_assoc p.tries q.tries in_vain)) in
    record {
      tries = p.tries ++ q.tries;
      tried = then ∙ ap (λ t. record x { tries = t }) same;
      came = came_then x.files p.tries q.tries k l p.came came;
    }

good_then : (options : Options) (s t : List TurnData) → AreGood options s → AreGood options t
    → AreGood options (s ++ t)
good_then options [] t p q = q
good_then options (turn ∷ turns) t p q = (p.0, good_then options turns t p.1 q)

pub uses_then : (options : Options) (a b c : ShelfAndArchive) (u v : Supply) (in_vain : List Bool)
    → UsesUp options a b u [] → UsesUp options b c v in_vain
    → UsesUp options a c (and_then u v) in_vain
uses_then options a b c u v in_vain p q = record {
  loading = Both-then a.0 b.0 c.0 _ _ _
      (λ x y z s t. fetches_then x y z u.loads v.loads in_vain s t) p.loading q.loading;
  moving = record {
    took = Both-then a.1 b.1 c.1 _ _ _
        (λ x y z s t. t ∙ ap (λ l. l ++ v.turns) s ∙ append_assoc x u.turns v.turns) p.moving.took q.moving.took;
    good = good_then options u.turns v.turns p.moving.good q.moving.good;
  };
}

pub uses_nothing : (options : Options) (a : ShelfAndArchive) → UsesUp options a a nothing_left []
uses_nothing options a = record {
  loading = Both-refl a.0 (λ x y. FetchesLoads x y [] [])
      (λ x. record { tries = []; tried = let e = append-nil x.tries in rw e refl; came = tt });
  moving = record { took = Both-refl a.1 (λ x y. y ≡ x ++ []) (λ x. sym (append-nil x)); good = tt };
}

-- an answer that uses nothing up
pub says_nothing_used : (options : Options) (a : ShelfAndArchive) (says : Supply → TalkState)
    (text : List ℕ) (at : EngineState) (quit : Bool)
    → ((later : Supply) → says later ≡ record { text = text; at = at; left = later; ending = ending_if quit }) → AnswersWith options a a says text at quit
says_nothing_used options a says text at quit is
    = record { used = nothing_left; uses = uses_nothing options a; is = is }

pub nothing_used : (options : Options) (a : ShelfAndArchive) → UsesUpNothing options a a
nothing_used options a = record { in_vain = []; few = omega arith; uses = uses_nothing options a }
