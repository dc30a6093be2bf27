-- The nodes of a new block that are still to be written.
use Rattle.std.specs.Prelude.{◌≡◌, ◌≢◌, ℕ, ◌+◌, ◌*◌, List, [], ◌∷◌, drop, Option, MatchOption}
use Rattle.std.specs.List.{filter, range_with_len}
use Rattle.hex_cells.specs.Sets.{has as has_cell}
use Rattle.hex_cells.specs.declared.board_size.TheConstants.{MOST_CELLS}
use Rattle.play_out.specs.Fills.{empties_of}
use Rattle.tree_words.specs.declared.layout.TheConstants.{HEADER_WORDS, NODE_WORDS, LINK_WORD}
use Rattle.walker.specs.declared.stages.Stage.TheVariants.{Publishing, Writing}
use Rattle.walker.specs.declared.machine.Walker.{Walker}

-- the first word of the next node, its place, and the cells of it and of the later ones
pub record NewNodesData : Type 0 where
  pub at : ℕ
  pub place : ℕ
  pub cells : List ℕ

-- the cells of a set, by rising numbers
unfoldable pub cells_by_number : ℕ → List ℕ
cells_by_number set = filter (has_cell set) (range_with_len 0 MOST_CELLS)

-- the nodes after the next
abbrev pub nodes_after : NewNodesData → NewNodesData
nodes_after d = record { at = d.at + NODE_WORDS; place = d.place + 1; cells = drop 1 d.cells }

-- they are the nodes of the walker's block from their place on
pub record AreNodesOf (w : Walker) (d : NewNodesData) : Type 0 where
  pub at : d.at ≡ w.start + HEADER_WORDS + NODE_WORDS * d.place
  pub cells : d.cells ≡ drop d.place (empties_of w.board)

-- all nodes of the held block, exactly if the walker has written its header and none of them
abbrev pub LendsNewNodes : Walker → Option NewNodesData → Type 0
LendsNewNodes w nodes = MatchOption nodes (w.stage ≡ Writing → w.at ≢ w.start + HEADER_WORDS)
    (λ d. (w.stage ≡ Writing) × (w.at ≡ d.at) × (d.place ≡ 0) × AreNodesOf w d)

-- these nodes are left to write: after the last of them the link is next
abbrev pub with_nodes_at : List ℕ → ℕ → Walker → Walker
with_nodes_at [] at w = record w { stage = Publishing; at = w.node + LINK_WORD }
with_nodes_at (c ∷ cells) at w = record w { at = at }

abbrev pub with_nodes : Walker → NewNodesData → Walker
with_nodes w d = with_nodes_at d.cells d.at w
