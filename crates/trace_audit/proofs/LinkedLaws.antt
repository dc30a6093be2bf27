-- The linked blocks and their table: where a node's block is found, and its board.
use Rattle.std.proofs.Common.{◌≡◌, ℕ, ◌+◌, ◌-◌, ◌*◌, ◌/◌, ◌<◌, ◌≤◌, true, List, length, sym, ap}
use Rattle.std.proofs.Common.{◌∙◌, arith}
use Rattle.std.specs.Prelude.{slice_index, slice_index_or}
use Rattle.hex_board.specs.Positions.{is_empty_at}
use Rattle.tree_words.specs.Settings.{Setting, IsSetting}
use Rattle.tree_words.specs.Words.{root_at, area_at, end_of, cell_in}
use Rattle.tree_words.specs.Blocks.{LinkedBlock, size, has_node, In, link_of, cell_at}
use Rattle.tree_words.specs.Paths.{state_after, node_state}
use Rattle.tree_words.proofs.Blocks.BlockLaws.{has-here}
use Rattle.tree_words.proofs.Blocks.Members.{in-turned, names-in}
use Rattle.tree_words.proofs.Blocks.Orders.{link-names}
use Rattle.trace_audit.specs.declared.sites.Site.{Site}
use Rattle.trace_audit.specs.declared.sites.Table.{Table}
use Rattle.trace_audit.specs.Tables.{site_state, IsSite, IsLinked}
use Rattle.trace_audit.proofs.Cells.{IsMove}
use Rattle.trace_audit.proofs.Placed.{count_is, lies, most_of, move_of, parent_is, place_of}

module _ (s : Setting) (words : List ℕ) (t : Table) (bs : List LinkedBlock) (h : IsSetting s)
    (lk : IsLinked s words t bs) where
  pub lies_in : (b : LinkedBlock) → In b bs → (area_at s ≤ b.start) × (b.start + size b ≤ end_of s)
  lies_in b i = lies s words bs h lk.linked b i

  pub parent_word : (b : LinkedBlock) → In b bs → slice_index words b.start ≡ b.parent
  parent_word b i = parent_is s words bs h lk.linked b i

  pub count_word : (b : LinkedBlock) → In b bs → slice_index words (b.start + 3) ≡ length b.cells
  count_word b i = count_is s words bs h lk.linked b i

  pub node_move : (b : LinkedBlock) (x : ℕ) → In b bs → has_node b x ≡ true
      → (k : ℕ) × (k < length b.cells) × (x ≡ b.start + 4 + 4 * k) × IsMove s words bs b k
  node_move b x i n = move_of s words bs h lk.linked b x i n

  pub place_word : (b : LinkedBlock) (x : ℕ) → In b bs → has_node b x ≡ true
      → (x ≡ b.start + 4 + 4 * (slice_index words x / 256))
      × (slice_index words x / 256 < length b.cells)
  place_word b x i n = place_of s words bs h lk.linked b x i n

  pub node_most : (b : LinkedBlock) (x : ℕ) → In b bs → has_node b x ≡ true
      → (area_at s ≤ x) × (x + 4 ≤ end_of s)
  node_most b x i n = most_of s words bs h lk.linked b x i n

  -- the block of a node is entered
  pub block_entry : (b : LinkedBlock) → In b bs → 0 < slice_index t.index b.start
  block_entry b i = lk.entered b i

  -- a site of the table is that of a linked block
  pub site_block : (k : ℕ) (d : Site) → k < length t.sites.items → (b : LinkedBlock) × In b bs
      × (b.start ≡ (slice_index_or t.sites.items k d).start)
      × (site_state (slice_index_or t.sites.items k d) ≡ node_state s bs b.parent)
  site_block k d l =
      let site : Site = slice_index_or t.sites.items k d in
      let is : IsSite s words bs site = lk.table.sites k d l in
      let inside = is.inside in
      let x : ℕ = slice_index words site.start in
      let to : link_of bs x ≡ site.start = sym (lk.linked.shows.links x is.node) ∙ is.link in
      let named = link-names (root_at s) bs x lk.linked.order (omega (arith, to, inside)) in
      let at = names-in _ x named.0 named.1 in
      (named.0, in-turned named.0 bs at.0, named.2 ∙ to, is.state ∙ ap (node_state s bs) (sym at.1))

  -- where the index has an entry, a block begins
  pub entry_block : (a : ℕ) → 0 < slice_index t.index a → (b : LinkedBlock) × In b bs
      × (b.start ≡ a)
  entry_block a l =
      let d : Site = record { start = 0; board = s.board; player = s.player } in
      let k = lk.table.index a d l in
      let f = site_block (slice_index t.index a - 1) d (omega (arith, k.0, l)) in
      (f.0, f.1, f.2 ∙ k.1)

  pub block_found : (x p : ℕ) → p ≡ slice_index words x / 256 → 4 + 4 * p ≤ x
      → 0 < slice_index t.index (x - (4 + 4 * p)) → p < slice_index words (x - (4 + 4 * p) + 3)
      → (b : LinkedBlock) × In b bs × (b.start ≡ x - (4 + 4 * p)) × (has_node b x ≡ true)
  block_found x p e l m n =
      let f = entry_block (x - (4 + 4 * p)) m in
      let few : p < length f.0.cells
      = omega (arith, n, ap (λ (y : ℕ). slice_index words (y + 3)) f.2, count_word f.0 f.1) in
      let at : f.0.start + (4 + 4 * p) ≡ x = omega (arith, f.2, l) in
      (f.0, f.1, f.2, sym (ap (has_node f.0) at) ∙ has-here f.0 p few)

  -- the site of a block
  module _ (b : LinkedBlock) (i : In b bs) (a n : ℕ) (at : b.start ≡ a)
      (index : n ≡ slice_index t.index a) where
    entry_inside : a < length t.index
    entry_inside = let l = lies_in b i in let long = lk.table.long in omega (arith, at, l, long)

    entry_is : n ≡ slice_index t.index a
    entry_is = index

    pub entry_least : (0 < n) × (n - 1 < length t.sites.items) × (a < length t.index)
    entry_least =
        let some : 0 < slice_index t.index a
        = omega (arith, ap (slice_index t.index) at, lk.entered b i) in
        let k = lk.table.index a (record { start = 0; board = s.board; player = s.player }) some in
        (omega (arith, entry_is, some), omega (arith, k.0, entry_is, some), entry_inside)

    pub entry_state : (site : Site) → site ≡ slice_index_or t.sites.items (n - 1) site
        → site_state site ≡ node_state s bs b.parent
    entry_state site found =
        let some : 0 < slice_index t.index a
        = omega (arith, ap (slice_index t.index) at, lk.entered b i) in
        let k = lk.table.index a site some in
        let is : IsSite s words bs (slice_index_or t.sites.items (n - 1) site)
        = lk.table.sites (n - 1) site entry_least.1 in
        let start : (slice_index_or t.sites.items (n - 1) site).start ≡ b.start
        = ap (λ (m : ℕ). (slice_index_or t.sites.items (m - 1) site).start) entry_is
        ∙ k.1 ∙ sym at in
        ap site_state found ∙ is.state
        ∙ ap (node_state s bs) (ap (slice_index words) start ∙ parent_word b i)

    module _ (x c : ℕ) (nd : has_node b x ≡ true) (cell : c ≡ cell_in (slice_index words x))
        (site : Site) (found : site ≡ slice_index_or t.sites.items (n - 1) site) where
      cell_is : c ≡ cell_at b (node_move b x i nd).0
      cell_is = let m = node_move b x i nd in cell
          ∙ ap (λ (y : ℕ). cell_in (slice_index words y)) m.2 ∙ m.3.cell

      pub cell_small : c < 121
      cell_small = let m = node_move b x i nd in omega (arith, cell_is, m.3.small)

      pub cell_empty : is_empty_at site.board c ≡ true
      cell_empty = let m = node_move b x i nd in
          (λ j. is_empty_at (entry_state site found j).board (cell_is j)) ∙ m.3.empty

      pub cell_state : (after : Site) → site_state after ≡ state_after (site_state site) c
          → site_state after ≡ node_state s bs x
      cell_state after e =
          let m = node_move b x i nd in
          e ∙ (λ j. state_after (entry_state site found j) (cell_is j)) ∙ sym m.3.state
          ∙ ap (node_state s bs) (sym m.2)
