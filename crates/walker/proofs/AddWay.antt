-- The adds of a walk, level by level of its way.
use Rattle.std.proofs.Common.{◌≡◌, ℕ, ◌+◌, ◌<◌, true, List, [], ◌∷◌, ◌++◌}
use Rattle.std.proofs.Common.{length, drop, get_or, Some, sym, ap, ◌∙◌, arith, length-drop}
use Rattle.std.specs.Prelude.{slice_get}
use Rattle.std.proofs.lemmas.Option.{slice_get-get_or}
use Rattle.std.proofs.lemmas.List.{get_or-drop}
use Rattle.hex_cells.specs.Colours.{other_of, is_same}
use Rattle.hex_cells.specs.declared.colours.Colour.{Colour}
use Rattle.hex_board.specs.Positions.{stones_of}
use Rattle.play_out.specs.declared.playouts.Ending.{Ending}
use Rattle.tree_words.specs.Settings.{Setting}
use Rattle.tree_words.specs.Words.{root_at}
use Rattle.tree_words.specs.Blocks.{LinkedBlock, In, InOrder, has_node, place, cell_at}
use Rattle.tree_words.specs.Paths.{NodeState, root_state, state_after, node_state}
use Rattle.tree_words.proofs.Blocks.GameLaws.{up-in}
use Rattle.tree_words.proofs.Boards.EmptyLaws.{up-root}
use Rattle.arena_rule.specs.Adds.{CountAdd, Gathered, seen_adds, root_adds, node_adds, adds_up}
use Rattle.arena_rule.proofs.AddLaws.{adds-state}
use Rattle.hex_cells.proofs.ColourLaws.{other_back}

module _ (s : Setting) (o : Ending) where
  -- at the root: its tally
  pub adds-root : (bs : List LinkedBlock) (x : ℕ) (p : Colour) → InOrder (root_at s) bs
      → x ≡ root_at s → p ≡ (node_state s bs x).player
      → (adds_up s o bs x).adds ≡ record { word = x + 2; won = is_same o.winner (other_of p) } ∷ []
  adds-root bs x p g e t =
      let state : node_state s bs x ≡ root_state s = ap (node_state s bs) e
      ∙ up-root (root_state s) (λ b y above. state_after above (cell_at b (place b y)))
      (root_at s) bs g in
      let player : s.player ≡ p = sym (t ∙ ap (λ (q : NodeState). q.player) state) in
      ap (λ (z : ℕ). (adds_up s o bs z).adds) e
      ∙ ap (λ (a : Gathered). a.adds) (up-root (root_adds s o) (node_adds o) (root_at s) bs g)
      ∙ (λ i. record { word = sym e i + 2; won = is_same o.winner (other_of (player i)) } ∷ [])

  -- at a node of a block: its tally, the seen words of the block, and the adds from the parent on
  pub adds-level : (bs : List LinkedBlock) (b : LinkedBlock) (x : ℕ) (p : Colour)
      → InOrder (root_at s) bs → In b bs → has_node b x ≡ true → p ≡ (node_state s bs x).player
      → (adds_up s o bs x).adds ≡ record { word = x + 2; won = is_same o.winner (other_of p) }
      ∷ (seen_adds (stones_of o.full (other_of p)) (is_same o.winner (other_of p)) (b.start + 4) b.cells ++ (adds_up s o bs b.parent).adds)
  adds-level bs b x p g i h t =
      let above : Gathered = adds_up s o bs b.parent in
      let mover : above.state.player ≡ other_of p = player-above bs b x p g i h t in
      ap (λ (a : Gathered). a.adds) (up-in (root_adds s o) (node_adds o) (root_at s) bs b x g i h)
      ∙ ap (λ (q : Colour). record { word = x + 2; won = is_same o.winner q }
      ∷ (seen_adds (stones_of o.full q) (is_same o.winner q) (b.start + 4) b.cells ++ above.adds)) mover
    where
      player-above : (bs : List LinkedBlock) (b : LinkedBlock) (x : ℕ) (p : Colour)
          → InOrder (root_at s) bs → In b bs → has_node b x ≡ true → p ≡ (node_state s bs x).player
          → (adds_up s o bs b.parent).state.player ≡ other_of p
      player-above bs b x p g i h t =
          let up : node_state s bs x ≡ state_after (node_state s bs b.parent)
          (cell_at b (place b x))
          = up-in (root_state s) (λ c y above. state_after above (cell_at c (place c y)))
          (root_at s) bs b x g i h in
          ap (λ (q : NodeState). q.player) (adds-state s o bs b.parent)
          ∙ sym (other_back (node_state s bs b.parent).player)
          ∙ ap other_of (sym (t ∙ ap (λ (q : NodeState). q.player) up))

-- the first of the adds that are left is the next
pub next-add : (xs : List CountAdd) (n : ℕ) (a : CountAdd) (rest : List CountAdd)
    → a ∷ rest ≡ drop n xs → slice_get xs n ≡ Some a
next-add xs n a rest e =
    let more : n < length xs = omega (arith, ap length e, length-drop n xs) in
    slice_get-get_or xs n a more
    ∙ ap Some (ap (λ (k : ℕ). get_or xs k a) (plus n) ∙ sym (get_or-drop n xs 0 a) ∙ ap (λ (ys : List CountAdd). get_or ys 0 a) (sym e))
  where
    plus : (n : ℕ) → n ≡ n + 0
    plus n = omega arith
