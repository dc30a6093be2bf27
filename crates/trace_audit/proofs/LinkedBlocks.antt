-- Blocks that links name: they are among the linked ones.
use Rattle.std.proofs.Common.{◌≡◌, ℕ, ◌+◌, ◌<◌, ◌≤◌, true, List, [], refl, ap, ◌∙◌}
use Rattle.std.proofs.Common.{⊎_elim, arith}
use Rattle.std.specs.Prelude.{slice_index}
use Rattle.tree_words.specs.Settings.{Setting, IsSetting}
use Rattle.tree_words.specs.Words.{root_at, area_at, end_of, next_in, link_in}
use Rattle.tree_words.specs.Blocks.{LinkedBlock, is_node, In}
use Rattle.tree_words.specs.Complete.{Linked, AreComplete}
use Rattle.tree_words.specs.Told.{told_block, Knows}
use Rattle.tree_words.proofs.Blocks.GameLaws.{IsWhole, whole-in}
use Rattle.tree_words.proofs.Blocks.NodeLaws.{node-lies}
use Rattle.tree_words.proofs.Blocks.Within.{told-real}

module _ (s : Setting) (words : List ℕ) (h : IsSetting s) where
  -- if a node links a block, that block is among the linked ones, wherever blocks are linked
  pub link_real : (bs cs : List LinkedBlock) (x : ℕ) → Linked s words cs → Knows (root_at s) cs bs
      → is_node (root_at s) bs x ≡ true → 0 < link_in words x
      → In (told_block s bs x (link_in words x)) cs
  link_real bs cs x lk k n l
      = told-real s words cs bs x (link_in words x) lk k n h.position.most refl l

  -- and so it is whole
  pub link_whole : (bs cs : List LinkedBlock) (x : ℕ) → Linked s words cs → Knows (root_at s) cs bs
      → is_node (root_at s) bs x ≡ true → 0 < link_in words x
      → IsWhole s (next_in words) cs (told_block s bs x (link_in words x))
  link_whole bs cs x lk k n l
      = whole-in s (next_in words) cs (told_block s bs x (link_in words x)) lk.order lk.complete
      (link_real bs cs x lk k n l)

  -- the first word of a linked block names its parent
  pub first_word : (cs : List LinkedBlock) (c : LinkedBlock) → Linked s words cs → In c cs
      → slice_index words c.start ≡ c.parent
  first_word cs c lk i =
      let none : c.start ≡ c.start + 0 = omega arith in
      ap (slice_index words) none ∙ lk.shows.blocks c 0 i (omega arith) refl

  -- where a node lies, of those found so far
  pub node_below : (p : ℕ) (bs : List LinkedBlock) (y : ℕ) → area_at s ≤ p → AreComplete s p bs
      → is_node (root_at s) bs y ≡ true → y + 4 ≤ p
  node_below p bs y a c n = ⊎_elim
      (λ (e : y ≡ root_at s). omega (arith, e, a))
      (λ (e : (area_at s ≤ y) × (y + 4 ≤ p) × (y + 4 ≤ end_of s)). omega (arith, e.1))
      (node-lies s p bs y c n)
