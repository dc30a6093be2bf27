-- What the opening words show: the root's block, and the first tree.
use Rattle.std.proofs.Common.{◌≡◌, ◌⊎◌, ℕ, ◌+◌, ◌-◌, ◌*◌, ◌<◌, ◌≤◌, Bool, true, cond, List}
use Rattle.std.proofs.Common.{[], ◌∷◌, length, get_or, refl, sym, ap, ◌∙◌, subst, ⊎_elim, inl}
use Rattle.std.proofs.Common.{arith}
use Rattle.std.specs.Prelude.{◌==◌, ◌&&◌}
use Rattle.std.proofs.lemmas.Bool.{cases_lt, eqb-true, eq-eqb, ne_eqb, or_cases, or_left}
use Rattle.std.proofs.lemmas.Bool.{false_from_ne_true}
use Rattle.std.proofs.lemmas.List.{get_or_past}
use Rattle.hex_cells.specs.Sets.{has as has_cell}
use Rattle.play_out.specs.Fills.{empties_of}
use Rattle.tree_words.specs.Settings.{Setting, IsSetting}
use Rattle.tree_words.specs.Words.{Count, count_in, root_at, area_at, end_of, next_in, tally_in}
use Rattle.tree_words.specs.Words.{seen_in}
use Rattle.tree_words.specs.Blocks.{LinkedBlock, size, covers, has_node, is_node, header_or_move}
use Rattle.tree_words.specs.Blocks.{is_header_or_move, Follows, In, HaveBlocks}
use Rattle.tree_words.specs.Complete.{HasEmpties, IsComplete, allowed_cells, Linked, HaveNodes}
use Rattle.tree_words.specs.Opening.{root_block, opening_next, opening_word}
use Rattle.tree_words.specs.Walks.{nothing, Tree, node, done, fresh}
use Rattle.tree_words.specs.Sequence.{first_tree}
use Rattle.tree_words.specs.Trees.{row_of, tree_leaf, tree_inner}
use Rattle.tree_words.specs.Descents.{tree_in, config_of}
use Rattle.tree_words.proofs.Blocks.BlockLaws.{covers_of, covers_if, has-at}
use Rattle.tree_words.proofs.Walks.Down.{child-has, down-here}
use Rattle.tree_words.proofs.Boards.RootLaws.{filter_some}
use Rattle.tree_words.proofs.Blocks.NodeLaws.{stays-not}
use Rattle.tree_words.proofs.NewBlocks.Openings.{root-fits}
use Rattle.hex_board.proofs.Placed.{empty_on}
use Rattle.tree_words.proofs.Walks.Expands.{row-fresh}

pub some-allowed : (s : Setting) → IsSetting s → 0 < length (allowed_cells s)
unfolding allowed_cells
some-allowed s h =
    let many = h.any in
    filter_some (has_cell s.allowed) 0 (s.board.size * s.board.size) many.0 many.1 (omega arith)
    (omega (arith, empty_on s.board many.0 (h.empty many.0 many.1)))

-- The words are the opening words, whatever TICKET is.
module _ (s : Setting) (words : List ℕ) (e : ℕ) (set : IsSetting s) (empties : HasEmpties e s.board)
    (long : length words ≡ end_of s)
    (each : (i : ℕ) → i < end_of s → (i ≡ 1 → ⊥) → get_or words i 0 ≡ opening_word s e i) where
  pub next-is : next_in words ≡ opening_next s
  next-is = each 0 (omega (arith, set.ranges.words.0)) (λ z. omega arith)

  -- a word that is neither NEXT nor TICKET nor the root's link
  other : (i : ℕ) → i < end_of s → 2 ≤ i → (i ≡ root_at s + 1 → ⊥)
      → get_or words i 0 ≡ cond (covers i (root_block s e) && is_header_or_move (i - (root_block s e).start))
      (header_or_move (root_block s e) (i - (root_block s e).start)) 0
  other i l m d =
      let c : LinkedBlock = root_block s e in
      let rest : ℕ = cond (covers i c && is_header_or_move (i - c.start))
      (header_or_move c (i - c.start)) 0 in
      each i l (λ z. omega arith)
      ∙ ap (λ (t : Bool). cond t (c.start + size c) (cond (i == root_at s + 1) c.start rest))
      (ne_eqb i 0 (λ z. omega arith))
      ∙ ap (λ (t : Bool). cond t c.start rest) (ne_eqb i (root_at s + 1) d)

  pub link-is : get_or words (root_at s + 1) 0 ≡ area_at s
  link-is =
      let i : ℕ = root_at s + 1 in
      let c : LinkedBlock = root_block s e in
      let rest : ℕ = cond (covers i c && is_header_or_move (i - c.start))
      (header_or_move c (i - c.start)) 0 in
      each i (omega (arith, set.ranges.words.0)) (λ z. omega (arith, set.ranges.playouts.0))
      ∙ ap (λ (t : Bool). cond t (c.start + size c) (cond (i == root_at s + 1) c.start rest))
      (ne_eqb i 0 (λ z. omega arith))
      ∙ ap (λ (t : Bool). cond t c.start rest) (eq-eqb i (root_at s + 1) refl)

  -- a word of no block
  pub clear : (i : ℕ) → 2 ≤ i → (i ≡ root_at s + 1 → ⊥) → ((i < area_at s) ⊎ (opening_next s ≤ i))
      → get_or words i 0 ≡ 0
  clear i m d o = ⊎_elim
      (λ (l : i < end_of s).
      other i l m d
      ∙ ap (λ (t : Bool). cond (t && is_header_or_move (i - area_at s)) (header_or_move (root_block s e) (i - area_at s)) 0)
      (false_from_ne_true (covers i (root_block s e)) (λ t. let u = covers_of i (root_block s e) t in
      ⊎_elim (λ (q : i < area_at s). omega (arith, u.0))
      (λ (q : opening_next s ≤ i). omega (arith, u.1)) o)))
      (λ (l : end_of s ≤ i). get_or_past words i 0 (omega (arith, long)))
      (cases_lt i (end_of s))

  pub inside : (i : ℕ) → i < size (root_block s e)
      → get_or words (area_at s + i) 0 ≡ cond (is_header_or_move i)
      (header_or_move (root_block s e) i) 0
  inside i l =
      let fit = root-fits s set in
      let at : area_at s + i - area_at s ≡ i = omega arith in
      other (area_at s + i) (omega arith) (omega arith) (λ z. omega arith)
      ∙ ap (λ (t : Bool). cond (t && is_header_or_move (area_at s + i - area_at s)) (header_or_move (root_block s e) (area_at s
      + i - area_at s)) 0) (covers_if (area_at s + i) (root_block s e) (omega arith) (omega (arith, l)))
      ∙ ap (λ (j : ℕ). cond (is_header_or_move j) (header_or_move (root_block s e) j) 0) at

  pub node-word : (x j : ℕ) → has_node (root_block s e) x ≡ true → 1 ≤ j → j < 4
      → get_or words (x + j) 0 ≡ 0
  node-word x j t lj mj =
      let q = has-at (root_block s e) x t in
      let at : x + j ≡ area_at s + (4 + 4 * q.0 + j) = omega (arith, q.2) in
      ap (λ (z : ℕ). get_or words z 0) at ∙ inside (4 + 4 * q.0 + j) (omega (arith, q.1))
      ∙ ap (λ (u : Bool). cond u (header_or_move (root_block s e) (4 + 4 * q.0 + j)) 0)
      (stays-not q.0 j lj mj)

  pub root-word : (j : ℕ) → j < 4 → (j ≡ 1 → ⊥) → get_or words (root_at s + j) 0 ≡ 0
  root-word j l d = clear (root_at s + j) (omega arith) (λ z. d (omega arith)) (inl (omega arith))

  pub no-counts : (x : ℕ) → is_node (root_at s) (root_block s e ∷ []) x ≡ true
      → (tally_in words x ≡ nothing) × (seen_in words x ≡ nothing)
  no-counts x n = ⊎_elim
      (λ (t : has_node (root_block s e) x ≡ true). (
        ap count_in (node-word x 2 t (omega arith) (omega arith)),
        ap count_in (node-word x 3 t (omega arith) (omega arith)),
      ))
      (λ (t : (x == root_at s) ≡ true). let q = eqb-true x (root_at s) t in (
        ap count_in (ap (λ (z : ℕ). get_or words (z + 2) 0) q ∙ root-word 2 (omega arith) (λ z. omega arith)),
        ap count_in (ap (λ (z : ℕ). get_or words (z + 3) 0) q ∙ root-word 3 (omega arith) (λ z. omega arith)),
      ))
      (or_cases (has_node (root_block s e) x) (x == root_at s) n)

  -- they link the root's block, which is complete
  pub opening-linked : Linked s words (root_block s e ∷ [])
  opening-linked =
      let c : LinkedBlock = root_block s e in
      let r : ℕ = root_at s in
      let fit = root-fits s set in
      let follows : Follows r c [] = record {
        parent = eq-eqb r r refl;
        vacant = refl;
        above = omega arith;
        clear = λ i t. refl;
        root = omega arith;
      } in
      let complete : IsComplete s (next_in words) [] c = record {
        claimed = omega (arith, next-is);
        inside = (omega arith, omega (arith, fit));
        empties = empties;
        cells = sym (ap (λ (t : Bool). cond t (allowed_cells s) (empties_of s.board)) (eq-eqb r r refl));
      } in
      let shows : HaveBlocks r (c ∷ []) words = record {
        blocks = λ d i m l t. ⊎_elim
            (λ (q : d ≡ c). subst (λ (z : LinkedBlock). get_or words (z.start + i) 0 ≡ header_or_move z i) (sym q)
            (inside i (subst (λ (z : LinkedBlock). i < size z) q l) ∙ ap (λ (u : Bool). cond u (header_or_move c i) 0) t))
            (λ (q : In d []). absurd q) m;
        links = λ x m. ⊎_elim
            (λ (t : has_node c x ≡ true).
            let q = has-at c x t in
            node-word x 1 t (omega arith) (omega arith)
            ∙ sym (ap (λ (u : Bool). cond u c.start 0) (ne_eqb r x (λ z. omega (arith, z, q.2)))))
            (λ (t : (x == r) ≡ true).
            let q = eqb-true x r t in
            ap (λ (z : ℕ). get_or words (z + 1) 0) q ∙ link-is
            ∙ sym (ap (λ (u : Bool). cond u c.start 0) (eq-eqb r x (sym q))))
            (or_cases (has_node c x) (x == r) m);
      } in
      record { order = (follows, tt); shows = shows; complete = (complete, tt) }

  pub opening-nodes : HaveNodes (root_block s e ∷ [])
  opening-nodes = (some-allowed s set, tt)

  pub opening-tree : (tree_in (root_at s) (config_of (root_block s e ∷ []) words), next_in words) ≡ first_tree s
  opening-tree =
      let c : LinkedBlock = root_block s e in
      let r : ℕ = root_at s in
      let p : ℕ → Count = tally_in words in
      let q : ℕ → Count = seen_in words in
      let row : row_of (λ y d. node d (p y) (q y) done) (c.start + 4) c.cells ≡ fresh c.cells
      = row-fresh p q (c.start + 4) c.cells
      (λ k y l i. no-counts y (or_left (has_node c y) (y == r) (ap (has_node c) i ∙ child-has c k l))) in
      let root : p r ≡ nothing = ap count_in (root-word 2 (omega arith) (λ z. omega arith)) in
      let tree : tree_in r (config_of (c ∷ []) words) ≡ node 0 nothing nothing (fresh c.cells)
      = ap (λ (f : ℕ → Count → Tree). f 0 nothing)
      (down-here (tree_leaf p) (tree_inner p q) c [] r (eq-eqb r r refl))
      ∙ (λ i. node 0 (root i) nothing (row i)) in
      λ i. (tree i, next-is i)
