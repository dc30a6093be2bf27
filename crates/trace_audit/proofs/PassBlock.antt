-- The block at a word where one was entered.
use Rattle.std.proofs.Common.{◌≡◌, ℕ, ◌+◌, ◌-◌, ◌<◌, ◌≤◌, true, List, ◌∷◌, length, refl, sym, ap}
use Rattle.std.proofs.Common.{◌∙◌, subst, ⊎_elim, arith}
use Rattle.std.specs.Prelude.{slice_index, slice_index_or}
use Rattle.std.proofs.lemmas.Bool.{cases_eq}
use Rattle.hex_board.specs.Positions.{Position}
use Rattle.tree_words.specs.Settings.{Setting, IsSetting}
use Rattle.tree_words.specs.Words.{root_at, end_of, link_in}
use Rattle.tree_words.specs.Blocks.{LinkedBlock, size, is_node}
use Rattle.tree_words.specs.Paths.{NodeState, node_state, node_board}
use Rattle.tree_words.specs.Growth.{other_words}
use Rattle.tree_words.specs.Told.{told_block}
use Rattle.tree_words.proofs.Blocks.Turned.{other-root, other-more}
use Rattle.tree_words.proofs.Walks.Asking.{spot-size}
use Rattle.trace_audit.specs.declared.sites.Site.{Site}
use Rattle.trace_audit.specs.declared.sites.Table.{Table}
use Rattle.trace_audit.specs.Tables.{AreUnlinked, block_at, StandsInArea, site_state, IsSite}
use Rattle.trace_audit.specs.Tables.{IsEntered, Scanned}
use Rattle.trace_audit.proofs.MustStand.{block_alone, block_stands}
use Rattle.trace_audit.proofs.Passing.{put}

module _ (s : Setting) (words : List ℕ) (h : IsSetting s) (t : Table) (p : ℕ)
    (bs : List LinkedBlock) (sc : Scanned s words t p p bs) (n : ℕ) (inside : p < length t.index)
    (entry : 0 < slice_index t.index p)
    (index : n ≡ slice_index t.index p) where
  is_number : n ≡ slice_index t.index p
  is_number = index

  pub number_least : (0 < n) × (n - 1 < length t.sites.items)
  number_least =
      let k = sc.table.index p (record { start = 0; board = s.board; player = s.player }) entry in
      (omega (arith, is_number, entry), omega (arith, k.0, is_number, entry))

  module _ (site : Site) (found : site ≡ slice_index_or t.sites.items (n - 1) site) (x : ℕ)
      (is : x ≡ slice_index words p) where
    at_start : site.start ≡ p
    at_start =
        let k = sc.table.index p site entry in
        ap (λ (z : Site). z.start)
        (found ∙ ap (λ (m : ℕ). slice_index_or t.sites.items (m - 1) site) is_number) ∙ k.1

    site_of : IsSite s words bs site
    site_of = subst (IsSite s words bs) (sym found) (sc.table.sites (n - 1) site number_least.1)

    is_x : slice_index words site.start ≡ x
    is_x = ap (slice_index words) at_start ∙ sym is

    node : is_node (root_at s) bs x ≡ true
    node = sym (ap (is_node (root_at s) bs) is_x) ∙ site_of.node

    link : link_in words x ≡ p
    link = sym (ap (link_in words) is_x) ∙ site_of.link ∙ at_start

    state : site_state site ≡ node_state s bs x
    state = site_of.state ∙ ap (node_state s bs) is_x

    board : site.board ≡ node_board s bs x
    board = ap (λ (q : NodeState). q.board) state

    pub board_size : site.board.size ≡ s.board.size
    board_size = ap (λ (q : Position). q.size) board ∙ spot-size s bs x

    is_block : block_at s site.board x p ≡ told_block s bs x p
    is_block = ap (λ (q : Position). block_at s q x p) board

    -- it stands wherever blocks are linked
    pub must_stand : (StandsInArea s words (block_at s site.board x p) → ⊥) → AreUnlinked s words
    must_stand not-so cs lk
        = not-so (subst (StandsInArea s words) (sym is_block) (block_stands s words h t p bs sc x node (sym is) link cs lk))

    -- and no other block is entered within it
    pub must_be_alone : (end : ℕ) → end ≡ p + size (block_at s site.board x p) → (i : ℕ) → p + 1 ≤ i
        → i < end → 0 < slice_index t.index i → AreUnlinked s words
    must_be_alone end e i l m k = block_alone s words h t p bs sc x node (sym is) link i site
        (omega (arith, l)) (omega (arith, m, e, ap size is_block)) k

    -- so it is passed
    pub is_passed : (u : Table) (end more : ℕ) → length words ≡ end_of s → u.index ≡ t.index
        → u.sites.items ≡ t.sites.items → u.others ≡ t.others + more
        → StandsInArea s words (block_at s site.board x p)
        → end ≡ p + size (block_at s site.board x p)
        → ((i : ℕ) → p + 1 ≤ i → i < end → slice_index t.index i ≡ 0)
        → (x ≡ root_at s → more ≡ 0) → ((x ≡ root_at s → ⊥) → more ≡ end - p)
        → IsEntered s words u (p + 4) p end (told_block s bs x p) bs
    is_passed u end more long index' sites' others' st e free root other =
        let b : LinkedBlock = told_block s bs x p in
        let ends : end ≡ p + size b = omega (arith, e, ap size is_block) in
        let sum : u.others ≡ other_words s (b ∷ bs) = ⊎_elim
        (λ (r : x ≡ root_at s). omega (arith, others', root r, sc.others, other-root s b bs r))
        (λ (r : x ≡ root_at s → ⊥). omega (arith, others', other r, sc.others, other-more s b bs r, ends))
        (cases_eq x (root_at s)) in
        let few = sc.few in
        let most : more ≤ end - p = ⊎_elim (λ (r : x ≡ root_at s). omega (arith, root r))
        (λ (r : x ≡ root_at s → ⊥). omega (arith, other r)) (cases_eq x (root_at s)) in
        let all : Scanned s words u (p + 4) (p + size b) (b ∷ bs)
        = put s words h t p bs sc x node (sym is) link u index' sites' sum
        (omega (arith, others', few, most, ends)) entry
        (subst (StandsInArea s words) is_block st)
        (λ i l m. free i l (omega (arith, m, ends))) in
        record {
          setting = h;
          long = long;
          start = refl;
          ends = ends;
          scanned = subst (λ (q : ℕ). Scanned s words u (p + 4) q (b ∷ bs)) (sym ends) all;
        }
