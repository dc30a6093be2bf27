use Rattle.std.proofs.Common.{Ok, [], ◌∷◌, sym, ap, ◌∙◌, subst}
use Rattle.hex_engine.specs.Supply.{loads_only}
use Rattle.hex_engine.specs.declared.loadsgf.Loaded.TheVariants.{Unread, Refused, Loads}
use Rattle.hex_engine.specs.Uses.{Loading}
use Rattle.hex_engine.specs.LoadReplies.{loading_by}
use Rattle.hex_engine.proofs.UsedUp.{unfetched, loads_reply}
use Rattle.hex_engine.proofs.state.Engine.load.Goals as goal

pub returns-in_default-clause-reply : goal.returns-in_default-clause-reply
returns-in_default-clause-reply g c
    = ([], unfetched _, λ later. ap (loading_by c.args.self.now later) (sym c.in_default.ensures))

pub returns-in-Unread-clause-reply : goal.returns-in-Unread-clause-reply
returns-in-Unread-clause-reply g c = (
  record { name = c.in-Some.name.now; what = Unread } ∷ [],
  subst (λ f. Loading (g.F.Shelf.told c.args.shelf.now) (g.F.Shelf.told c.load_game.new.shelf)
      (loads_only (record { name = c.in-Some.name.now; what = f } ∷ [])) []) c.in-Unread.is c.in_ok-load_game.ensures.came,
  λ later. loads_reply c.args.self.now _ Unread _ (sym c.in-Some.ensures) later,
)

pub returns-in-Refused-clause-reply : goal.returns-in-Refused-clause-reply
returns-in-Refused-clause-reply g c = (
  record { name = c.in-Some.name.now; what = Refused } ∷ [],
  subst (λ f. Loading (g.F.Shelf.told c.args.shelf.now) (g.F.Shelf.told c.load_game.new.shelf)
      (loads_only (record { name = c.in-Some.name.now; what = f } ∷ [])) []) c.in-Refused.is c.in_ok-load_game.ensures.came,
  λ later. loads_reply c.args.self.now _ Refused _ (sym c.in-Some.ensures) later,
)

pub returns-in-Loads-clause-reply : goal.returns-in-Loads-clause-reply
returns-in-Loads-clause-reply g c = (
  record { name = c.in-Some.name.now; what = Loads c.in-Loads.game } ∷ [],
  subst (λ f. Loading (g.F.Shelf.told c.args.shelf.now) (g.F.Shelf.told c.load_game.new.shelf)
      (loads_only (record { name = c.in-Some.name.now; what = f } ∷ [])) []) c.in-Loads.is c.in_ok-load_game.ensures.came,
  λ later.
      loads_reply c.args.self.now _ (Loads c.in-Loads.game) _ (sym c.in-Some.ensures) later
      ∙ (λ i. Ok (record { reply = sym c.empty_answer.ensures.tells.0 i; after = record (sym c.self.view_is i) { game = c.in-Loads.game }; left = later })),
)
