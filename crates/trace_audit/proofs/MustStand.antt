-- Where an entered block begins: it stands there, alone, or the words are linked by no blocks.
use Rattle.std.proofs.Common.{◌≡◌, ℕ, ◌+◌, ◌-◌, ◌<◌, ◌≤◌, true, List, sym, ap, ◌∙◌, subst, ⊎_elim}
use Rattle.std.proofs.Common.{arith}
use Rattle.std.proofs.lemmas.Bool.{cases_lt}
use Rattle.std.specs.Prelude.{slice_index, slice_index_or}
use Rattle.tree_words.specs.Settings.{Setting, IsSetting}
use Rattle.tree_words.specs.Words.{root_at, next_in, link_in}
use Rattle.tree_words.specs.Blocks.{LinkedBlock, size, is_node, In}
use Rattle.tree_words.specs.Complete.{Linked}
use Rattle.tree_words.specs.Told.{told_block}
use Rattle.tree_words.proofs.Blocks.BlockLaws.{covers_if}
use Rattle.tree_words.proofs.Blocks.GameLaws.{IsWhole}
use Rattle.trace_audit.specs.declared.sites.Site.{Site}
use Rattle.trace_audit.specs.declared.sites.Table.{Table}
use Rattle.trace_audit.specs.Tables.{AreUnlinked, StandsInArea, IsSite, Scanned}
use Rattle.trace_audit.proofs.LinkedBlocks.{link_real, link_whole}
use Rattle.tree_words.proofs.Blocks.NodeLaws.{covers-one}

-- a block that begins at p
module _ (s : Setting) (words : List ℕ) (h : IsSetting s) (t : Table) (p : ℕ)
    (bs : List LinkedBlock) (sc : Scanned s words t p p bs) (x : ℕ)
    (n : is_node (root_at s) bs x ≡ true)
    (parent : slice_index words p ≡ x) (link : link_in words x ≡ p) where
  abbrev block : LinkedBlock
  block = told_block s bs x p

  some : 0 < p
  some = let area = sc.area in omega (arith, area)

  -- it is among the linked blocks, wherever blocks are linked
  pub block_real : (cs : List LinkedBlock) → Linked s words cs → In block cs
  block_real cs lk
      = subst (λ z. In (told_block s bs x z) cs) link
      (link_real s words h bs cs x lk (sc.known cs lk) n (omega (arith, link, some)))

  pub block_whole : (cs : List LinkedBlock) → Linked s words cs → IsWhole s (next_in words) cs block
  block_whole cs lk = subst (λ z. IsWhole s (next_in words) cs (told_block s bs x z)) link
      (link_whole s words h bs cs x lk (sc.known cs lk) n (omega (arith, link, some)))

  -- so it stands there
  pub block_stands : (cs : List LinkedBlock) → Linked s words cs → StandsInArea s words block
  block_stands cs lk =
      let w = block_whole cs lk in
      record { inside = w.inside.1; claimed = w.claimed; shown = λ i l m. lk.shows.blocks block i (block_real cs lk) l m }

  -- and no other block begins within it
  pub block_alone : (j : ℕ) (d : Site) → p < j → j < p + size block → 0 < slice_index t.index j
      → AreUnlinked s words
  block_alone j d l m e cs lk =
      let k = sc.table.index j d e in
      let q : ℕ = slice_index t.index j - 1 in
      let site : Site = slice_index_or t.sites.items q d in
      let is : IsSite s words bs site = sc.table.sites q d (omega (arith, e, k.0)) in
      let y : ℕ = slice_index words site.start in
      let to : link_in words y ≡ j = is.link ∙ k.1 in
      let real : In (told_block s bs y (link_in words y)) cs
      = link_real s words h bs cs y lk (sc.known cs lk) is.node (omega (arith, to, l)) in
      let other : LinkedBlock = told_block s bs y (link_in words y) in
      let same : block ≡ other = covers-one (root_at s) cs block other j lk.order
      (block_real cs lk) real (covers_if j block (omega (arith, l)) m)
      (covers_if j other (omega (arith, to)) (omega (arith, to))) in
      let start : p ≡ link_in words y = ap (λ z. z.start) same in
      omega (arith, start, to, l)

-- two blocks that begin so near to each other share a word
pub two_close : (s : Setting) (words : List ℕ) (h : IsSetting s) (t : Table) (x p : ℕ)
    (bs : List LinkedBlock) → Scanned s words t x p bs → is_node (root_at s) bs x ≡ true
    → (start : ℕ) → link_in words x ≡ start → p ≤ start
    → (j : ℕ) (d : Site) → (j ≡ start → ⊥) → j < start + 4 → start < j + 4
    → 0 < slice_index t.index j → AreUnlinked s words
two_close s words h t x p bs sc n start link free j d apart near far e cs lk =
    let k = sc.table.index j d e in
    let q : ℕ = slice_index t.index j - 1 in
    let site : Site = slice_index_or t.sites.items q d in
    let is : IsSite s words bs site = sc.table.sites q d (omega (arith, e, k.0)) in
    let y : ℕ = slice_index words site.start in
    let to : link_in words y ≡ j = is.link ∙ k.1 in
    let inside = is.inside in
    let area = sc.area in
    let here : LinkedBlock = told_block s bs x (link_in words x) in
    let there : LinkedBlock = told_block s bs y (link_in words y) in
    let real : In here cs = link_real s words h bs cs x lk (sc.known cs lk) n
    (omega (arith, link, free, area)) in
    let other : In there cs = link_real s words h bs cs y lk (sc.known cs lk) is.node
    (omega (arith, to, k.1, inside)) in
    ⊎_elim
    (λ (l : j < start).
    let same : here ≡ there = covers-one (root_at s) cs here there start lk.order real other
    (covers_if start here (omega (arith, link)) (omega (arith, link)))
    (covers_if start there (omega (arith, to, l)) (omega (arith, to, far))) in
    let starts : link_in words x ≡ link_in words y = ap (λ z. z.start) same in
    apart (sym to ∙ sym starts ∙ link))
    (λ (l : start ≤ j).
    let same : here ≡ there = covers-one (root_at s) cs here there j lk.order real other
    (covers_if j here (omega (arith, link, l)) (omega (arith, link, near)))
    (covers_if j there (omega (arith, to)) (omega (arith, to))) in
    let starts : link_in words x ≡ link_in words y = ap (λ z. z.start) same in
    apart (sym to ∙ sym starts ∙ link))
    (cases_lt j start)
