use Rattle.std.proofs.Common.{◌∙◌, ap, sym, subst}
use Rattle.std.proofs.Common.{set}
use Rattle.seq_search.specs.Searching.{Searched}
use Rattle.seq_search.proofs.Searches.{searched-opening}
use Rattle.seq_search.proofs.search.make_walks.Goals as goal

pub loop-k-init : goal.loop-k-init
loop-k-init g c = subst (λ n. Searched c.args.shape.now (set c.args.words.now 1 n) 0)
    (sym (c.from.ensures ∙ ap (λ k. k.playouts) c.knobs.ensures.value))
    (searched-opening c.args.shape.now c.args.words.now c.keeps.ensures.setting c.requires)
