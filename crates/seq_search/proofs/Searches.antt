-- A search from its opening words to its end.
use Rattle.std.proofs.Common.{◌≡◌, ℕ, ◌+◌, ◌*◌, ◌<◌, add-one, List, [], ◌∷◌, length, set, get_or}
use Rattle.std.proofs.Common.{get_or-set_same, get_or-set_other, refl, sym, ap, ◌∙◌, arith}
use Rattle.std.proofs.Math.ListN.{length-set}
use Rattle.hex_cells.specs.declared.colours.Colour.{Colour}
use Rattle.hex_cells.specs.declared.colours.Colour.TheVariants.{White}
use Rattle.hex_cells.specs.Colours.{is_same}
use Rattle.hex_board.specs.Positions.{Position}
use Rattle.play_out.specs.Fills.{filled, playout_of}
use Rattle.tree_words.specs.Settings.{Setting, IsSetting}
use Rattle.tree_words.specs.Words.{Count, root_at, end_of, next_in, tally_in}
use Rattle.tree_words.specs.Blocks.{LinkedBlock, one_if}
use Rattle.tree_words.specs.Paths.{NodeState, root_state}
use Rattle.tree_words.specs.Opening.{root_block, opening_word, AreOpening}
use Rattle.tree_words.specs.Closing.{IsClosed}
use Rattle.tree_words.specs.Walks.{Tree, Game, walk, walks}
use Rattle.play_out.specs.declared.playouts.Ending.{Ending}
use Rattle.tree_words.specs.Sequence.{outcome_of, search_game, first_tree}
use Rattle.tree_words.specs.Descents.{tree_in, walk_end, Added, config_of}
use Rattle.tree_words.proofs.Blocks.GameLaws.{fair_game}
use Rattle.tree_words.proofs.Walks.WalkLaws.{walk-tree}
use Rattle.seq_search.specs.Steps.{Holds, Records}
use Rattle.seq_search.specs.Descending.{spot_in}
use Rattle.seq_search.specs.Searching.{Searched, Reached}
use Rattle.seq_search.specs.declared.descending.Descent.{Descent}
use Rattle.seq_search.proofs.Standings.{standing-opening, closed-of}
use Rattle.seq_search.proofs.Turns.{record-reads, standing-walked}
use Rattle.seq_search.proofs.Growing.{fine-of}
use Rattle.tree_words.proofs.NewBlocks.OpeningLaws.{opening-tree}
use Rattle.seq_search.proofs.Openers.{opening-holds}

-- what a playout gave
pub outcome-is : (s : Setting) (k : ℕ) (p : NodeState) (winner : Colour) (full : Position)
    → winner ≡ playout_of p.board p.player s.knobs.seed k
    → full ≡ filled p.board p.player s.knobs.seed k
    → (record { winner = winner; full = full }) ≡ outcome_of s k p
unfolding outcome_of
outcome-is s k p winner full e f = λ i. record { winner = e i; full = f i }

-- with TICKET the opening words are those of a search without walks
pub searched-opening : (s : Setting) (words : List ℕ) → IsSetting s → AreOpening s words
    → Searched s (set words 1 s.knobs.playouts) 0
searched-opening s words h o =
    let after : List ℕ = set words 1 s.knobs.playouts in
    let b : LinkedBlock = root_block s o.empties in
    let long : length after ≡ end_of s = length-set words 1 s.knobs.playouts ∙ o.long in
    let each : (i : ℕ) → i < end_of s → (i ≡ 1 → ⊥) → get_or after i 0 ≡ opening_word s o.empties i
    = λ i l d. get_or-set_other words 1 i s.knobs.playouts 0 d ∙ o.each i l in
    let holds : Holds s (b ∷ []) after 0 = opening-holds s after o.empties h o.set long each in
    let tree : (tree_in (root_at s) (config_of (b ∷ []) after), next_in after) ≡ first_tree s
    = opening-tree s after o.empties h o.set long each in
    record {
      blocks = b ∷ [];
      holds = holds;
      standing = standing-opening s b after refl refl (ap (λ (t : Tree × ℕ). t.1) tree) holds;
      tree = tree;
      ticket = get_or-set_same words 1 s.knobs.playouts 0 (omega (arith, o.long));
    }

-- one walk more
pub searched-more : (s : Setting) (words middle after : List ℕ) (k : ℕ) (d : Descent) (o : Ending)
    → IsSetting s → k < s.knobs.playouts → (w : Searched s words k)
    → (r : Reached s w.blocks k words middle d)
    → o ≡ outcome_of s k (spot_in d) → Holds s r.blocks after (k + 1)
    → Added (search_game s) (root_state s) (root_at s) o (config_of r.blocks middle)
    (config_of r.blocks after)
    → Records s k (2 * d.node + one_if (is_same o.winner White)) middle after
    → Searched s after (k + 1)
searched-more s words middle after k d o h l w r played holds added records =
    let g : Game NodeState Ending = search_game s in
    let state : walk_end g (root_state s) (root_at s)
    (config_of r.blocks middle) ≡ (tally_in middle d.node, spot_in d) = r.descended.state in
    let made : o ≡ outcome_of s k
    (walk_end g (root_state s) (root_at s) (config_of r.blocks middle)).1 = played
    ∙ ap (λ (z : Count × NodeState). outcome_of s k z.1) (sym state) in
    let reads = record-reads d.node (2 * d.node + one_if (is_same o.winner White)) o.winner refl in
    let tree : (tree_in (root_at s) (config_of r.blocks after), next_in after) ≡ walk g
    (root_state s) k (tree_in (root_at s) (config_of w.blocks words), next_in words)
    = walk-tree g (fair_game s) (root_state s) (root_at s) k o (config_of w.blocks words)
    (config_of r.blocks middle) (config_of r.blocks after)
    (fine-of s w.blocks words k w.holds) r.widened added made in
    record {
      blocks = r.blocks;
      holds = holds;
      standing = standing-walked s w.blocks r.blocks words middle after k
          (2 * d.node + one_if (is_same o.winner White)) o h l w.holds w.standing r.holds r.widened r.keeps made added records
          (reads.0 ∙ sym r.descended.leaf) reads.1;
      tree = tree ∙ ap (walk g (root_state s) k) w.tree
          ∙ ap (walks g (root_state s) (first_tree s)) (sym (add-one k));
      ticket = records.others 1 (omega arith) (omega arith) (λ z. omega arith)
          ∙ r.keeps 1 (omega arith) (omega arith) ∙ w.ticket;
    }

-- after all walks the words are a closed tree
pub searched-closed : (s : Setting) (words : List ℕ) → IsSetting s
    → Searched s words s.knobs.playouts → IsClosed s words
searched-closed s words h w = closed-of s w.blocks words h w.holds w.standing
    (omega (arith, w.ticket)) (omega (arith, w.ticket))
