-- The steps of handing up a block's sums, in the words of the code.
use Rattle.std.proofs.Common.{◌≡◌, ℕ, ◌+◌, ◌-◌, ◌*◌, ◌/◌, ◌<◌, ◌≤◌, ◌^◌, true, List, length, set}
use Rattle.std.proofs.Common.{slice_index, sym, ap, ◌∙◌, subst, ⊎_elim, arith}
use Rattle.tree_words.specs.Settings.{Setting, IsSetting}
use Rattle.tree_words.specs.Words.{end_of, nodes_in, root_at}
use Rattle.tree_words.specs.Blocks.{LinkedBlock, In, block_size, has_node}
use Rattle.tree_words.specs.Complete.{Linked}
use Rattle.tree_words.proofs.Blocks.GameLaws.{in-parent}
use Rattle.tree_words.proofs.Blocks.Members.{node-in}
use Rattle.trace_audit.specs.Gains.{AreCells, AreUnseen, GainsBlock, HasGiftRoom, IsNodeOf}
use Rattle.trace_audit.specs.Gains.{rest_gift, turned_word}
use Rattle.trace_audit.specs.Sums.{AreHanded}
use Rattle.trace_audit.proofs.Gained.{block_cells, block_within, node_of}
use Rattle.trace_audit.proofs.HandedUp.{block_handed, gift_room, root_handed, root_room, tally_room}
use Rattle.trace_audit.proofs.HandedUp.{total_room}
use Rattle.trace_audit.proofs.Placed.{lies, most_of, parent_is, place_of}

module _ (s : Setting) (words : List ℕ) (bs : List LinkedBlock) (h : IsSetting s)
    (lk : Linked s words bs) (sums : List ℕ) (d : LinkedBlock) (i : In d bs) (at : ℕ)
    (e : d.start ≡ at) (a : AreHanded s bs words sums (at + 1))
    (long : length words ≡ end_of s) where
  own : AreHanded s bs words sums (d.start + 1)
  own = subst (λ (q : ℕ). AreHanded s bs words sums (q + 1)) (sym e) a

  pub at_inside : (at < length sums) × (at < length words) × (end_of s < 2 ^ 32)
  at_inside =
      let l = lies s words bs h lk d i in
      let all = a.counts.long in
      let r = h.ranges in
      (omega (arith, l, e, all), omega (arith, l, e, long), omega (arith, r.playouts, r.words))

  pub parent_word : slice_index words at ≡ d.parent
  parent_word = ap (slice_index words) (sym e) ∙ parent_is s words bs h lk d i

  pub at_within : at + block_size (nodes_in words at) ≤ length words
  at_within = subst (λ (q : ℕ). q + block_size (nodes_in words q) ≤ length words) e
      (block_within s words bs h lk d i long)

  pub at_cells : AreCells words at
  at_cells = subst (AreCells words) e (block_cells s words bs h lk d i)

  module _ (p amount : ℕ) (parent : p ≡ slice_index words at)
      (is : amount ≡ turned_word (slice_index sums at)) where
    parent_is_d : p ≡ d.parent
    parent_is_d = parent ∙ parent_word

    amount_d : amount ≡ turned_word (slice_index sums d.start)
    amount_d = is ∙ ap (λ (q : ℕ). turned_word (slice_index sums q)) (sym e)

    module _ (top : p ≡ root_at s) where
      top_d : d.parent ≡ root_at s
      top_d = sym parent_is_d ∙ top

      pub root_fits : slice_index sums (p + 2) + amount < 2 ^ 64
      root_fits = let w = root_room s words bs h lk sums d i own top_d in
          omega (arith, ap (λ (q : ℕ). slice_index sums (q + 2)) top, amount_d, w)

      pub root_done : (after : List ℕ)
          → after ≡ set sums (p + 2) (slice_index sums (p + 2) + amount)
          → AreHanded s bs words after at
      root_done after f =
          let same : after ≡ set sums (root_at s + 2)
          (slice_index sums (root_at s + 2) + turned_word (slice_index sums d.start)) = f
          ∙ (λ j. set sums (top j + 2) (slice_index sums (top j + 2) + amount_d j)) in
          subst (λ (l : List ℕ). AreHanded s bs words l at) (sym same)
          (subst (λ (q : ℕ). AreHanded s bs words (set sums (root_at s + 2) (slice_index sums (root_at s + 2) + turned_word (slice_index sums d.start))) q) e
          (root_handed s words bs h lk sums d i own top_d))

    module _ (inner : p ≡ root_at s → ⊥) where
      block : (b : LinkedBlock) × In b bs × (has_node b d.parent ≡ true)
      block = ⊎_elim
          (λ (q : d.parent ≡ root_at s). absurd (inner (parent_is_d ∙ q)))
          (λ (q : (b : LinkedBlock) × In b bs × (has_node b d.parent ≡ true)). q)
          (node-in (root_at s) bs d.parent (in-parent (root_at s) bs d lk.order i))

      pub parent_inside : p + 4 ≤ length words
      parent_inside = let m = most_of s words bs h lk block.0 d.parent block.1 block.2 in
          omega (arith, parent_is_d, m, long)

      module _ (w : ℕ) (word : w ≡ slice_index words p) where
        spot : (p ≡ block.0.start + 4 + 4 * (w / 256))
        spot = let f = place_of s words bs h lk block.0 d.parent block.1 block.2 in
            let same : w ≡ slice_index words d.parent = word ∙ ap (slice_index words) parent_is_d in
            omega (arith, parent_is_d, f.0, same)

        pub place_fits : (4 ≤ p) × (4 * (w / 256) ≤ p - 4)
        place_fits = (omega (arith, spot), omega (arith, spot))

        start : block.0.start ≡ p - 4 - 4 * (w / 256)
        start = omega (arith, spot)

        pub in_words : p - 4 - 4 * (w / 256) + block_size
            (nodes_in words (p - 4 - 4 * (w / 256))) ≤ length words
        in_words = subst (λ (q : ℕ). q + block_size (nodes_in words q) ≤ length words) start
            (block_within s words bs h lk block.0 block.1 long)

        pub in_cells : AreCells words (p - 4 - 4 * (w / 256))
        in_cells = subst (AreCells words) start (block_cells s words bs h lk block.0 block.1)

        pub in_node : IsNodeOf words (p - 4 - 4 * (w / 256)) p
        in_node = subst (λ (q : ℕ). IsNodeOf words q p) start
            (subst (IsNodeOf words block.0.start) (sym parent_is_d) (node_of s words bs h lk block.0 d.parent block.1 block.2))

        pub tally_fits : slice_index sums (p + 2) + amount < 2 ^ 64
        tally_fits = let f = tally_room s words bs h lk sums d i own block.0 block.1 block.2 in
            omega (arith, ap (λ (q : ℕ). slice_index sums (q + 2)) parent_is_d, amount_d, f)

        pub total_fits : slice_index sums (p - 4 - 4 * (w / 256)) + amount < 2 ^ 64
        total_fits = let f = total_room s words bs h lk sums d i own block.0 block.1 block.2 in
            omega (arith, ap (slice_index sums) start, amount_d, f)

        module _ (unseen : List ℕ) (u : AreUnseen words sums at (nodes_in words at) unseen) where
          unseen_d : AreUnseen words sums d.start (nodes_in words d.start) unseen
          unseen_d = subst (λ (q : ℕ). AreUnseen words sums q (nodes_in words q) unseen) (sym e) u

          pub gifts_fit : HasGiftRoom words sums (p - 4 - 4 * (w / 256)) amount unseen
          gifts_fit = subst (λ (q : ℕ). HasGiftRoom words sums q amount unseen) start
              (subst (λ (m : ℕ). HasGiftRoom words sums block.0.start m unseen) (sym amount_d)
              (gift_room s words bs h lk sums d i own block.0 block.1 block.2 unseen unseen_d))

          pub block_done : (after : List ℕ) → GainsBlock words (p - 4 - 4 * (w / 256)) p amount
              (rest_gift amount unseen) sums after → AreHanded s bs words after at
          block_done after g
              = subst (AreHanded s bs words after) e
              (block_handed s words bs h lk sums d i own block.0 block.1 block.2 unseen unseen_d after
              (subst (λ (m : ℕ). GainsBlock words block.0.start d.parent m (rest_gift m unseen) sums after) amount_d
              (subst (λ (q : ℕ). GainsBlock words block.0.start q amount (rest_gift amount unseen) sums after) parent_is_d
              (subst (λ (q : ℕ). GainsBlock words q p amount (rest_gift amount unseen) sums after) (sym start) g))))
