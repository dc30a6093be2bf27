-- A turn without a tree gives nothing.
use Rattle.std.proofs.Common.{◌≡◌, Option, None, sym, ap, ◌∙◌, subst}
use Rattle.std.specs.Prelude.{option_map}
use Rattle.hex_io.specs.Grew.{Gave}
use Rattle.hex_io.proofs.GaveLaws.{Gave-nothing}
use Rattle.tree_words.specs.Closing.{ClosedTree}
use Rattle.trace_audit.specs.Traces.{text_if}
use Rattle.trace_audit.proofs.archives.TraceArchive.give.Goals as goal

pub returns-in_default-clause-all : goal.returns-in_default-clause-all
returns-in_default-clause-all g c =
    let told = g.W.Link.told c.args.self.now in
    let none : c.args.turn.now.closed ≡ None = sym c.closed.ensures.value
    ∙ ap (option_map (λ tree. tree.now)) c.in_default.is in
    subst (λ (o : Option ClosedTree). Gave told told (text_if o)) (sym none) (Gave-nothing told)
