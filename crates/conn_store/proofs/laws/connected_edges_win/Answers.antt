use Rattle.std.proofs.Common.{true, false, refl, sym, subst}
use Rattle.hex_cells.specs.Sets.{members}
use Rattle.hex_board.specs.Elements.{PlayerBoard, edge_element}
use Rattle.hex_board.specs.Joined.{Joined}
use Rattle.hex_board.specs.Positions.{Position, stones_of}
use Rattle.conn_store.specs.Laws.{IsLater}
use Rattle.conn_store.specs.Links.{StonesLink}
use Rattle.conn_store.specs.declared.entries.Kind.TheVariants.{Full, Semi}
use Rattle.conn_store.proofs.Edges.{linked_joins}
use Rattle.conn_store.proofs.Winning.{Joins, sure_wins}
use Rattle.conn_store.proofs.laws.connected_edges_win.Goals as goal

edges_join : (e : PlayerBoard) (p : Position) → IsLater e p
    → Joins (StonesLink e (edge_element e false) (edge_element e true)) p.size e.player
    (stones_of p e.player)
edges_join e p l t i h
    = subst (λ n. Joined n e.player t) (sym l.size)
    (linked_joins e t l.on_board (λ k g. i k (l.stones k g)) h)

pub returns-clause-full : goal.returns-clause-full
returns-clause-full c = λ e p d w.
    sure_wins (members d 121) Full e.player p
    (StonesLink e (edge_element e false) (edge_element e true))
    (stones_of p e.player) d refl w.empty (edges_join e p w.later) w.sure

pub returns-clause-semi : goal.returns-clause-semi
returns-clause-semi c = λ e p d w.
    sure_wins (members d 121) Semi e.player p
    (StonesLink e (edge_element e false) (edge_element e true))
    (stones_of p e.player) d refl w.empty (edges_join e p w.later) w.sure
