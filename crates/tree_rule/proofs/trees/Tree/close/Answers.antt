-- The tree is closed, and has what the last seat's view tells.
use Rattle.std.proofs.Common.{ap, sym, ◌∙◌, subst}
use Rattle.tree_words.specs.Closing.{IsClosed}
use Rattle.tree_rule.proofs.Ends.{EndsSo, end-told}
use Rattle.tree_rule.proofs.trees.Tree.close.Goals as goal

told : (c : goal.After-end) → EndsSo c.args.self.shape c.args.seat.view c.end.result.items
told c =
    let shape = ap (λ t. t.shape) c.self.view_is in
    let view = ap (λ s. s.view) c.seat.view_is in
    end-told c.self.inside.table.shared.key c.args.self.shape c.seat.inside.seat.id
    c.seat.inside.seat.me.0.view c.args.seat.view c.end.result.items c.end.ensures
    (c.self.invariant.0 ∙ shape) view c.requires.all c.requires.ended

pub of-requires : goal.of-requires
of-requires c = subst (λ s. IsClosed s c.end.result.items) (sym (ap (λ t. t.shape) c.self.view_is))
    (told c).closed

-- of the words of the answer
told-of : (c : goal.After-of) → EndsSo c.args.self.shape c.args.seat.view c.of.result.words
told-of c = subst (λ words. EndsSo c.args.self.shape c.args.seat.view words)
    (sym (ap (λ t. t.words) c.of.ensures)) (told c.before)

pub returns-clause-known : goal.returns-clause-known
returns-clause-known c = (told-of c).known

pub returns-clause-walks : goal.returns-clause-walks
returns-clause-walks c = (told-of c).walks

pub returns-clause-records : goal.returns-clause-records
returns-clause-records c = (told-of c).records

pub returns-clause-whole : goal.returns-clause-whole
returns-clause-whole c = (told-of c).whole
