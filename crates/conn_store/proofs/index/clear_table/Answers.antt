use Rattle.std.proofs.Common.{[], replicate, ap, sym, ◌∙◌, arith}
use Rattle.conn_store.specs.Stores.{held_of}
use Rattle.conn_store.proofs.Tables.{refilled}
use Rattle.conn_store.proofs.index.clear_table.Goals as goal

pub returns : goal.returns
returns c =
    refilled c.args.pairs c.fill.new.self.len (held_of []) c.fill.new.self.items c.resize.new.self.items
    (c.fill.ensures.items (λ y h. h) ∙ ap (λ n. replicate n (held_of [])) (sym c.fill.ensures.len))
    (omega (arith, c.fill.ensures.len, c.truncate.ensures.len)) c.in_ok-resize.ensures.items
