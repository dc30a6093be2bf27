-- The block of each site, and the site of each block.
use Rattle.std.proofs.Common.{◌≡◌, ℕ, ◌+◌, ◌-◌, ◌*◌, ◌<◌, true, List, length, slice_index, sym, ap}
use Rattle.std.proofs.Common.{◌∙◌, arith}
use Rattle.std.specs.Prelude.{slice_index_or}
use Rattle.hex_board.specs.Positions.{is_empty_at}
use Rattle.tree_words.specs.Settings.{Setting, IsSetting}
use Rattle.tree_words.specs.Words.{end_of, next_in, nodes_in, cell_in, node_at}
use Rattle.tree_words.specs.Blocks.{LinkedBlock, has_node, In, cell_at}
use Rattle.trace_audit.specs.declared.sites.Site.{Site}
use Rattle.trace_audit.specs.declared.sites.Table.{Table}
use Rattle.trace_audit.specs.Tables.{IsLinked}
use Rattle.trace_audit.specs.Points.{EachSite, HasCells, LiesWithin}
use Rattle.trace_audit.proofs.Cells.{IsMove, move_is}
use Rattle.trace_audit.proofs.LinkedLaws.{count_word, lies_in, node_move, site_block}

module _ (s : Setting) (words : List ℕ) (t : Table) (bs : List LinkedBlock) (h : IsSetting s)
    (long : length words ≡ end_of s) (lk : IsLinked s words t bs) where
  pub sites_within : EachSite t (LiesWithin words)
  sites_within k d l =
      let f = site_block s words t bs h lk k d l in
      let b : LinkedBlock = f.0 in
      let lies = lies_in s words t bs h lk b f.1 in
      let count = ap (λ (y : ℕ). slice_index words (y + 3)) (sym f.2)
      ∙ count_word s words t bs h lk b f.1 in
      omega (arith, count, f.2, lies, long)

  -- the block of a site, and its nodes
  pub place_few : (k : ℕ) (d : Site) (l : k < length t.sites.items) (j : ℕ)
      → j < nodes_in words (slice_index_or t.sites.items k d).start
      → j < length (site_block s words t bs h lk k d l).0.cells
  place_few k d l j m =
      let f = site_block s words t bs h lk k d l in
      omega (arith, m, ap (λ (y : ℕ). slice_index words (y + 3)) (sym f.2), count_word s words t bs h lk f.0 f.1)

  pub site_move : (k : ℕ) (d : Site) (l : k < length t.sites.items) (j : ℕ)
      → j < nodes_in words (slice_index_or t.sites.items k d).start
      → IsMove s words bs (site_block s words t bs h lk k d l).0 j
  site_move k d l j m =
      let f = site_block s words t bs h lk k d l in
      move_is s words (next_in words) bs f.0 j h lk.linked.order lk.linked.complete f.1
      (λ i q e. lk.linked.shows.blocks f.0 i f.1 q e) (place_few k d l j m)

  pub site_node : (k : ℕ) (d : Site) (l : k < length t.sites.items) (j : ℕ)
      → j < nodes_in words (slice_index_or t.sites.items k d).start
      → has_node (site_block s words t bs h lk k d l).0
      (node_at (slice_index_or t.sites.items k d).start j) ≡ true
  site_node k d l j m =
      let f = site_block s words t bs h lk k d l in
      ap (λ (z : ℕ). has_node f.0 (z + 4 + 4 * j)) (sym f.2) ∙ (site_move k d l j m).node

  pub sites_cells : EachSite t (HasCells words)
  sites_cells k d l j m =
      let f = site_block s words t bs h lk k d l in
      let mv = site_move k d l j m in
      let cell : cell_in
      (slice_index words (node_at (slice_index_or t.sites.items k d).start j)) ≡ cell_at f.0 j
      = ap (λ (z : ℕ). cell_in (slice_index words (z + 4 + 4 * j))) (sym f.2) ∙ mv.cell in
      (omega (arith, cell, mv.small), (λ i. is_empty_at (f.3 i).board (cell i)) ∙ mv.empty)

  -- the site of a block, and the place of its node
  pub block_site : (b : LinkedBlock) (x : ℕ) → In b bs → has_node b x ≡ true
      → (k : ℕ) × (k < length t.sites.items)
      × ((d : Site) → (slice_index_or t.sites.items k d).start ≡ b.start)
      × ((j : ℕ) × (j < nodes_in words b.start) × (x ≡ node_at b.start j))
  block_site b x i n =
      let e = lk.entered b i in
      let few = λ (d : Site). lk.table.index b.start d e in
      let m = node_move s words t bs h lk b x i n in
      let first = few (record { start = 0; board = s.board; player = s.player }) in
      (slice_index t.index b.start - 1, omega (arith, first.0, e), (λ d. (few d).1), (m.0, omega (arith, m.1, count_word s words t bs h lk b i), m.2))
