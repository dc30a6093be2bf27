-- `retain` keeps those that the test keeps.
use Rattle.std.proofs.Common.{List, [], ◌∷◌, ◌++◌, ◌∙◌, ap, not, rules}
use Rattle.std.proofs.lemmas.Fn.{filter_same}
use Rattle.edge_tables.specs.Entries.{makes_needless}
use Rattle.edge_tables.specs.declared.entries.EdgeEntry.{EdgeEntry}
use Rattle.edge_tables.proofs.entries.add_last.Goals as goal

pub returns : goal.returns
returns c =
    let entry = c.args.entry.now in
    c.in_ok-push.ensures.items ∙ ap (λ (l : List EdgeEntry). l ++ entry ∷ [])
    (filter_same _ (λ old. not (makes_needless entry old)) _ (λ x b f' k. search rules) _ _ c.retain.ensures.filtered)
