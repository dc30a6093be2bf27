-- The tree is one of the turn's board and player.
use Rattle.std.proofs.Common.{◌≡◌, Option, Some, None, IfSome, option_map, sym, subst}
use Rattle.std.specs.Option.{ForSome}
use Rattle.tree_words.specs.Closing.{ClosedTree}
use Rattle.hex_plan.specs.Turns.{TurnData}
use Rattle.hex_plan.proofs.PlanLaws.{tree_of_turn}
use Rattle.hex_plan.proofs.turns.Turn.closed.Goals as goal

-- what holds of the value that is lent, if one is
lent : {A B : Type 0} (o : Option A) (p : Option B) (f : A → B) (P : B → Type 0)
    → option_map f o ≡ p → ForSome p P → IfSome o (λ x. P (f x))
lent None p f P e h = tt
lent (Some x) p f P e h = h (f x) (sym e)

pub returns-clause-board : goal.returns-clause-board
returns-clause-board c =
    subst (λ (t : TurnData). IfSome c.as_ref.result (λ closed. closed.now.shape.board ≡ t.board)) c.self.view_is
    (lent c.as_ref.result _ (λ closed. closed.now) (λ (tree : ClosedTree). tree.shape.board ≡ c.self.inside.board) c.as_ref.ensures.value
    (λ tree e. (tree_of_turn _ _ c.self.invariant.decided tree e).0))

pub returns-clause-player : goal.returns-clause-player
returns-clause-player c =
    subst (λ (t : TurnData). IfSome c.as_ref.result (λ closed. closed.now.shape.player ≡ t.player)) c.self.view_is
    (lent c.as_ref.result _ (λ closed. closed.now) (λ (tree : ClosedTree). tree.shape.player ≡ c.self.inside.colour) c.as_ref.ensures.value
    (λ tree e. (tree_of_turn _ _ c.self.invariant.decided tree e).1))
