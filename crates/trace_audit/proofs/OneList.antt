-- Two lists of blocks that the words link: what holds of one holds of the other.
use Rattle.std.proofs.Common.{◌≡◌, ℕ, Bool, true, false, cond, List, [], ◌∷◌, refl, sym, ap, ◌∙◌}
use Rattle.std.proofs.Common.{⊎_elim}
use Rattle.std.specs.Prelude.{◌||◌, ◌&&◌, ◌==◌}
use Rattle.std.specs.List.{list_any}
use Rattle.std.proofs.lemmas.Bool.{cases_Bool, or_left}
use Rattle.hex_cells.specs.Colours.{is_same}
use Rattle.hex_cells.specs.Sets.{has as has_cell}
use Rattle.hex_board.specs.Positions.{stones_of}
use Rattle.tree_words.specs.Settings.{Setting, IsSetting}
use Rattle.tree_words.specs.Words.{root_at}
use Rattle.tree_words.specs.Blocks.{LinkedBlock, has_node, is_node, up, place, cell_at}
use Rattle.tree_words.specs.Paths.{NodeState, root_state, state_after, mover_at, node_state}
use Rattle.tree_words.specs.Paths.{path_of}
use Rattle.tree_words.specs.Complete.{Linked}
use Rattle.tree_words.specs.Records.{Recorded, leaf_of}
use Rattle.tree_words.specs.Counts.{Exact, count_below}
use Rattle.tree_words.specs.Sequence.{outcome_of}
use Rattle.tree_words.proofs.Blocks.BlockLaws.{clash}
use Rattle.tree_words.proofs.Blocks.OneTree.{one-knows, one-blocks}
use Rattle.tree_words.proofs.Blocks.Within.{within-node, within-up}
use Rattle.hex_cells.proofs.Beside.{same_test}

-- what is no node is gathered from the root's part alone
up_out : {A : Type 0} (root : A) (step : LinkedBlock → ℕ → A → A) (r : ℕ) (bs : List LinkedBlock)
    (x : ℕ) → is_node r bs x ≡ false → up root step bs x ≡ root
up_out root step r [] x n = refl
up_out root step r (b ∷ bs) x n = ⊎_elim
    (λ (h : has_node b x ≡ true). absurd (clash (has_node b x || is_node r bs x) (or_left (has_node b x) (is_node r bs x) h) n))
    (λ (h : has_node b x ≡ false).
    ap (λ (t : Bool). cond t (step b x (up root step bs b.parent)) (up root step bs x)) h
    ∙ up_out root step r bs x (sym (ap (λ (t : Bool). t || is_node r bs x) h) ∙ n))
    (cases_Bool (has_node b x))

module _ (s : Setting) (words : List ℕ) (bs cs : List LinkedBlock) (h : IsSetting s)
    (p : Linked s words bs) (q : Linked s words cs) where
  abbrev r : ℕ
  r = root_at s

  pub node_same : (x : ℕ) → is_node r bs x ≡ is_node r cs x
  node_same x = same_test (is_node r bs x) (is_node r cs x)
      (within-node r cs bs x (one-knows s words bs cs h.position.most p q))
      (within-node r bs cs x (one-knows s words cs bs h.position.most q p))

  pub up_both : {A : Type 0} (root : A) (step : LinkedBlock → ℕ → A → A) (x : ℕ)
      → up root step bs x ≡ up root step cs x
  up_both root step x = ⊎_elim
      (λ (n : is_node r bs x ≡ true). within-up root step r cs bs x q.order (one-knows s words bs cs h.position.most p q) n)
      (λ (n : is_node r bs x ≡ false). up_out root step r bs x n ∙ sym (up_out root step r cs x (sym (node_same x) ∙ n)))
      (cases_Bool (is_node r bs x))

  pub state_same : (x : ℕ) → node_state s bs x ≡ node_state s cs x
  state_same x = up_both (root_state s) (λ b y above. state_after above (cell_at b (place b y))) x

  pub path_same : (x : ℕ) → path_of s bs x ≡ path_of s cs x
  path_same x = up_both (r ∷ []) (λ b y rest. y ∷ rest) x

  pub recorded_same : Recorded s bs words → Recorded s cs words
  recorded_same rec k l =
      let is = rec k l in
      record {
        node = sym (node_same (leaf_of words k)) ∙ is.node;
        below = is.below;
        result = is.result ∙ ap (λ (z : NodeState). (outcome_of s k z).winner)
            (state_same (leaf_of words k));
      }

  pub exact_same : Exact s bs words → Exact s cs words
  exact_same e = record {
    tallies = λ x n. e.tallies x (node_same x ∙ n) ∙ (λ i. record {
      visits = count_below s.knobs.playouts
          (λ k. list_any (λ z. z == x) (path_same (leaf_of words k) i));
      wins = count_below s.knobs.playouts
          (λ k. list_any (λ z. z == x) (path_same (leaf_of words k) i)
          && is_same (outcome_of s k (state_same (leaf_of words k) i)).winner
          (mover_at (state_same x i)));
    });
    seen = λ b y i n. e.seen b y (one-blocks s words cs bs h.position.most q p b i) n
        ∙ (λ j. record {
          visits = count_below s.knobs.playouts
              (λ k. list_any (λ z. has_node b z) (path_same (leaf_of words k) j)
              && has_cell (stones_of (outcome_of s k (state_same (leaf_of words k) j)).full (mover_at (state_same y j))) (cell_at b (place b y)));
          wins = count_below s.knobs.playouts
              (λ k. (list_any (λ z. has_node b z) (path_same (leaf_of words k) j)
              && has_cell (stones_of (outcome_of s k (state_same (leaf_of words k) j)).full (mover_at (state_same y j))) (cell_at b (place b y)))
              && is_same (outcome_of s k (state_same (leaf_of words k) j)).winner
              (mover_at (state_same y j)));
        });
  }
