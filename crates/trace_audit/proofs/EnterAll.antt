-- The nodes of the block that was found last, one by one.
use Rattle.std.proofs.Common.{◌≡◌, ℕ, ◌+◌, ◌-◌, ◌*◌, ◌<◌, true, List, ◌∷◌, length, refl, sym, ap}
use Rattle.std.proofs.Common.{◌∙◌, inl, inr, arith}
use Rattle.std.specs.Prelude.{slice_index, slice_index_or}
use Rattle.hex_board.specs.Positions.{is_empty_at}
use Rattle.tree_words.specs.Settings.{Setting}
use Rattle.tree_words.specs.Words.{root_at, next_in, cell_in}
use Rattle.tree_words.specs.Blocks.{LinkedBlock, size, has_node, is_node, cell_at}
use Rattle.tree_words.specs.Paths.{state_after, node_state}
use Rattle.tree_words.proofs.Blocks.GameLaws.{in-node}
use Rattle.trace_audit.specs.declared.sites.Site.{Site}
use Rattle.trace_audit.specs.declared.sites.Table.{Table}
use Rattle.trace_audit.specs.Tables.{site_state, IsSite, IsEntered, IsInLastBlock, Scanned}
use Rattle.trace_audit.proofs.Cells.{IsMove, move_is}
use Rattle.trace_audit.proofs.Scanning.{advance}

module _ (s : Setting) (words : List ℕ) (t : Table) (done at end : ℕ) (b : LinkedBlock)
    (bs : List LinkedBlock) (e : IsEntered s words t done at end b bs) where
  names_parent : slice_index words at ≡ b.parent
  names_parent =
      let none : at ≡ b.start + 0 = omega (arith, e.start) in
      ap (slice_index words) none ∙ e.scanned.shown b (inl refl) 0 (omega arith) refl

  is_entry : 0 < slice_index t.index at
  is_entry = omega (arith, e.scanned.entered b (inl refl), ap (slice_index t.index) e.start)

  at_inside : at < length t.index
  at_inside =
      let inside = (e.scanned.complete).0.inside in
      let long = e.scanned.table.long in
      omega (arith, inside, long, e.start)

  pub entry_is : (n : ℕ) → n ≡ slice_index t.index at → n ≡ slice_index t.index at
  entry_is n h = h

  pub entry_least : (n : ℕ) → n ≡ slice_index t.index at → (0 < n) × (n - 1 < length t.sites.items)
  entry_least n h =
      let same = entry_is n h in
      let d : Site → (0 < n) × (n - 1 < length t.sites.items)
      = λ d. let k = e.scanned.table.index at d is_entry in
      (omega (arith, same, is_entry), omega (arith, k.0, same, is_entry)) in
      d (record { start = 0; board = s.board; player = s.player })

  -- the site of the block
  pub site_is : (n : ℕ) (site : Site) → n ≡ slice_index t.index at
      → site ≡ slice_index_or t.sites.items (n - 1) site
      → site_state site ≡ node_state s (b ∷ bs) b.parent
  site_is n site h g =
      let same = entry_is n h in
      let k = e.scanned.table.index at site is_entry in
      let found : Site = slice_index_or t.sites.items (slice_index t.index at - 1) site in
      let is : IsSite s words (b ∷ bs) found
      = e.scanned.table.sites (slice_index t.index at - 1) site (omega (arith, k.0, is_entry)) in
      let all : site ≡ found = g ∙ ap (λ m. slice_index_or t.sites.items (m - 1) site) same in
      ap site_state all ∙ is.state
      ∙ ap (node_state s (b ∷ bs)) (ap (slice_index words) k.1 ∙ names_parent)

  -- the node of place k
  pub node_is : (k x : ℕ) → x ≡ at + 4 + 4 * k → x < end → IsMove s words (b ∷ bs) b k
      × (x ≡ b.start + 4 + 4 * k)
  node_is k x h l =
      let ends = e.ends in
      let start = e.start in (
        move_is s words (next_in words) (b ∷ bs) b k e.setting e.scanned.order e.scanned.complete (inl refl)
            (e.scanned.shown b (inl refl)) (omega (arith, h, l, ends)),
        omega (arith, h, start),
      )

  pub node_in : (k x : ℕ) → x ≡ at + 4 + 4 * k → x < end → is_node (root_at s) (b ∷ bs) x ≡ true
  node_in k x h l = let m = node_is k x h l in in-node (root_at s) (b ∷ bs) b x (inl refl)
      (ap (has_node b) m.1 ∙ m.0.node)

  pub node_last : (k x : ℕ) → x ≡ at + 4 + 4 * k → x < end → IsInLastBlock s end (b ∷ bs) x
  node_last k x h l = let m = node_is k x h l in
      inr (b, inl refl, ap (has_node b) m.1 ∙ m.0.node, e.ends ∙ ap (λ n. n + size b) (sym e.start))

  module _ (k x n : ℕ) (site : Site) (hx : x ≡ at + 4 + 4 * k) (l : x < end)
      (board : site_state site ≡ node_state s (b ∷ bs) b.parent)
      (cell : n ≡ cell_in (slice_index words x)) where
    cell_is : n ≡ cell_at b k
    cell_is = let m = node_is k x hx l in cell
        ∙ ap (λ y. cell_in (slice_index words y)) m.1 ∙ m.0.cell

    pub cell_small : n < 121
    cell_small = let m = node_is k x hx l in omega (arith, cell_is, m.0.small)

    pub cell_empty : is_empty_at site.board n ≡ true
    cell_empty = let m = node_is k x hx l in
        (λ i. is_empty_at (board i).board (cell_is i)) ∙ m.0.empty

    pub cell_state : (after : Site) → site_state after ≡ state_after (site_state site) n
        → site_state after ≡ node_state s (b ∷ bs) x
    cell_state after h =
        let m = node_is k x hx l in
        h ∙ (λ i. state_after (board i) (cell_is i)) ∙ sym m.0.state
        ∙ ap (node_state s (b ∷ bs)) (sym m.1)

-- if one more node is followed
pub entered_more : (s : Setting) (words : List ℕ) (t u : Table) (at end x : ℕ) (b : LinkedBlock)
    (bs : List LinkedBlock) → IsEntered s words t x at end b bs
    → is_node (root_at s) (b ∷ bs) x ≡ true
    → Scanned s words u (x + 1) end (b ∷ bs) → IsEntered s words u (x + 4) at end b bs
entered_more s words t u at end x b bs e n sc = record {
  setting = e.setting;
  long = e.long;
  start = e.start;
  ends = e.ends;
  scanned = advance s words e.setting u x end (b ∷ bs) sc n;
}
