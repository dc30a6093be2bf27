-- The way of a walk to a leaf that has got its block before.
use Rattle.std.proofs.Common.{◌≡◌, ℕ, ◌+◌, ◌<◌, ◌≤◌, true, false, List, length, get_or, sym, ap}
use Rattle.std.proofs.Common.{◌∙◌, ⊎_elim, arith}
use Rattle.tree_words.specs.Settings.{Setting, IsSetting}
use Rattle.tree_words.specs.Words.{Count, count_in, root_at, area_at, end_of, next_in, tally_in}
use Rattle.tree_words.specs.Words.{seen_in}
use Rattle.tree_words.specs.Blocks.{LinkedBlock, link_of}
use Rattle.tree_words.specs.Paths.{NodeState, root_state}
use Rattle.tree_words.specs.Sequence.{gets_block, search_game}
use Rattle.tree_words.specs.Trees.{oldest_first}
use Rattle.tree_words.specs.Descents.{leaf_at, state_at, steps_at}
use Rattle.seq_search.specs.Steps.{Holds}
use Rattle.seq_search.specs.Writing.{Grows}
use Rattle.seq_search.specs.Descending.{Descended, spot_in}
use Rattle.seq_search.specs.Searching.{Reached}
use Rattle.seq_search.specs.declared.descending.Descent.{Descent}
use Rattle.tree_words.proofs.Blocks.NodeLaws.{node-lies}
use Rattle.seq_search.proofs.Growing.{made-block, no-block}

-- a walk that has come to a leaf is there also if only NEXT changes
descended-same : (s : Setting) (bs : List LinkedBlock) (before after : List ℕ) (d : Descent)
    → ((i : ℕ) → 1 ≤ i → get_or after i 0 ≡ get_or before i 0) → Descended s bs before d
    → Descended s bs after d
descended-same s bs before after d same w =
    let tally : tally_in after ≡ tally_in before
    = λ i (x : ℕ). count_in (same (x + 2) (omega arith) i) in
    let seen : seen_in after ≡ seen_in before
    = λ i (x : ℕ). count_in (same (x + 3) (omega arith) i) in
    record {
      node = w.node;
      spot = w.spot;
      leaf = (λ i. leaf_at (search_game s) (tally i) (seen i) (oldest_first bs) (root_at s)) ∙ w.leaf;
      state = (λ i. state_at (search_game s) (tally i) (seen i) (oldest_first bs) (root_at s) (root_state s)) ∙ w.state
          ∙ (λ i. (sym tally i d.node, spot_in d));
      steps = (λ i. steps_at (search_game s) (tally i) (seen i) (oldest_first bs) (root_at s)) ∙ w.steps;
      bare = same (d.node + 1) (omega arith) ∙ w.bare;
      few = w.few;
      long = w.long;
    }

-- if the walk asks for its leaf's block, the words have room
pub leaf-within : (s : Setting) (bs : List LinkedBlock) (words : List ℕ) (k : ℕ) (d : Descent)
    → Holds s bs words k → Descended s bs words d → d.node + 4 ≤ length words
leaf-within s bs words k d h w = ⊎_elim
    (λ (q : d.node ≡ root_at s). omega (arith, h.long))
    (λ (q : (area_at s ≤ d.node) × (d.node + 4 ≤ next_in words) × (d.node + 4 ≤ end_of s)). omega (arith, h.long, q.2))
    (node-lies s (next_in words) bs d.node h.linked.complete w.node)

-- the leaf has got its block, and the walk goes down again
pub reached-made : (s : Setting) (bs : List LinkedBlock) (before after : List ℕ) (k : ℕ)
    (d e : Descent) → IsSetting s → Holds s bs before k → 0 < link_of bs (root_at s)
    → Descended s bs before d → Grows s d.node (spot_in d) before after
    → gets_block s (next_in before) (tally_in before d.node) (spot_in d) ≡ true
    → ((cs : List LinkedBlock) → Holds s cs after k → Descended s cs after e)
    → Reached s bs k before after e
reached-made s bs before after k d e set h rooted w grows t again =
    let m = made-block s bs before after k d.node (spot_in d) set h rooted (sym w.leaf)
    (ap (λ (z : Count × NodeState). z.1) (sym w.state)) grows t in
    record { blocks = m.0; holds = m.1; widened = m.2; keeps = m.3; descended = again m.0 m.1 }

-- the words before a second way down hold a tree
pub holds-made : (s : Setting) (bs : List LinkedBlock) (before after : List ℕ) (k : ℕ) (d : Descent)
    → IsSetting s → Holds s bs before k → 0 < link_of bs (root_at s)
    → Descended s bs before d → Grows s d.node (spot_in d) before after
    → gets_block s (next_in before) (tally_in before d.node) (spot_in d) ≡ true
    → (cs : List LinkedBlock) × Holds s cs after k
holds-made s bs before after k d set h rooted w grows t =
    let m = made-block s bs before after k d.node (spot_in d) set h rooted (sym w.leaf)
    (ap (λ (z : Count × NodeState). z.1) (sym w.state)) grows t in
    (m.0, m.1)

-- the leaf has got none
pub reached-none : (s : Setting) (bs : List LinkedBlock) (before after : List ℕ) (k : ℕ)
    (d : Descent) → IsSetting s → Holds s bs before k
    → Descended s bs before d → Grows s d.node (spot_in d) before after
    → gets_block s (next_in before) (tally_in before d.node) (spot_in d) ≡ false
    → Reached s bs k before after d
reached-none s bs before after k d set h w grows t =
    let m = no-block s bs before after k d.node (spot_in d) set h (sym w.leaf)
    (ap (λ (z : Count × NodeState). z.1) (sym w.state)) grows t in
    record { blocks = bs; holds = m.0; widened = m.1; keeps = m.2; descended = descended-same s bs before after d (grows.none t).1 w }
