-- What the tests of all sites say of the blocks.
use Rattle.std.proofs.Common.{◌≡◌, ℕ, ◌+◌, ◌*◌, ◌<◌, ◌≤◌, true, List, length, slice_index, sym, ap}
use Rattle.std.proofs.Common.{◌∙◌, subst, ⊎_elim, arith}
use Rattle.std.specs.Prelude.{slice_index_or, ◌==◌}
use Rattle.std.proofs.lemmas.Bool.{ne_eqb}
use Rattle.hex_board.specs.Positions.{Position, is_empty_at, placed}
use Rattle.tree_words.specs.Settings.{Setting, IsSetting}
use Rattle.tree_words.specs.Words.{count_in, root_at, end_of, next_in, nodes_in, tally_in, cell_in}
use Rattle.tree_words.specs.Words.{node_at}
use Rattle.tree_words.specs.Blocks.{LinkedBlock, has_node, In, cell_at}
use Rattle.tree_words.specs.Paths.{NodeState, state_after, node_board}
use Rattle.tree_words.specs.Records.{Recorded, leaf_of}
use Rattle.tree_words.specs.Counts.{Exact}
use Rattle.tree_words.specs.Growth.{Grown, ends_at, other_words, root_end}
use Rattle.tree_words.proofs.Blocks.BlockLaws.{root_node}
use Rattle.tree_words.proofs.Blocks.GameLaws.{in-node}
use Rattle.tree_words.proofs.Blocks.Members.{node-in}
use Rattle.tree_words.proofs.Walks.Tallies.{count-none}
use Rattle.trace_audit.specs.declared.sites.Site.{Site}
use Rattle.trace_audit.specs.declared.sites.Table.{Table}
use Rattle.trace_audit.specs.Tables.{IsLinked}
use Rattle.trace_audit.specs.Sums.{AreSums}
use Rattle.trace_audit.specs.Points.{AreFrugal, AreSame, EachSite, IsNextBounded, HasSums, IsFirst}
use Rattle.trace_audit.specs.Points.{SomeSite}
use Rattle.trace_audit.proofs.InBlock.{count_one}
use Rattle.trace_audit.proofs.LinkedLaws.{site_block}
use Rattle.trace_audit.proofs.SiteLaws.{block_site, site_move, site_node}

module _ (s : Setting) (words : List ℕ) (t : Table) (bs : List LinkedBlock) (h : IsSetting s)
    (long : length words ≡ end_of s) (lk : IsLinked s words t bs) where
  module _ (sums : List ℕ) (a : AreSums s bs words sums s.knobs.playouts) where
    pub exact_of : slice_index words (root_at s + 2) ≡ slice_index sums (root_at s + 2)
        → EachSite t (HasSums words sums) → Exact s bs words
    exact_of top each =
        let same : (b : LinkedBlock) (x : ℕ) → In b bs → has_node b x ≡ true → AreSame words sums x
        = λ b x i n.
        let f = block_site s words t bs h long lk b x i n in
        let d : Site = record { start = 0; board = s.board; player = s.player } in
        let start = f.2 d in
        let got = each f.0 d f.1 f.3.0 (omega (arith, f.3.1, ap (nodes_in words) start)) in
        subst (AreSame words sums) (ap (λ (z : ℕ). node_at z f.3.0) start ∙ sym f.3.2) got in
        record {
          tallies = λ x n. ⊎_elim
              (λ (e : x ≡ root_at s). ap (tally_in words) e ∙ ap count_in top ∙ sym (ap (tally_in sums) e) ∙ a.tallies x n)
              (λ (e : (b : LinkedBlock) × In b bs × (has_node b x ≡ true)). (same e.0 x e.1 e.2).0 ∙ a.tallies x n)
              (node-in (root_at s) bs x n);
          seen = λ b y i n. (same b y i n).1 ∙ a.seen b y i n;
        }

    pub top_of : Exact s bs words → slice_index words (root_at s + 2) ≡ slice_index sums
        (root_at s + 2)
    top_of e = let n = root_node (root_at s) bs in
        count_one _ _ (e.tallies (root_at s) n ∙ sym (a.tallies (root_at s) n))

    pub not_exact : SomeSite t (λ p. HasSums words sums p → ⊥) → Exact s bs words → ⊥
    not_exact some e =
        let f = site_block s words t bs h lk some.0 some.1 some.2 in
        some.3 (λ j m.
        let x : ℕ = node_at (slice_index_or t.sites.items some.0 some.1).start j in
        let n = site_node s words t bs h long lk some.0 some.1 some.2 j m in
        let node = in-node (root_at s) bs f.0 x f.1 n in
        (e.tallies x node ∙ sym (a.tallies x node), e.seen f.0 x f.1 n ∙ sym (a.seen f.0 x f.1 n)))

    -- growth
    pub not_first : SomeSite t (λ p. IsFirst words s.knobs.workers p.start → ⊥)
        → Grown s bs words → ⊥
    not_first some g =
        let f = site_block s words t bs h lk some.0 some.1 some.2 in
        some.3 (λ i j l m e. g.first f.0 _ _ f.1 (site_node s words t bs h long lk some.0 some.1 some.2 i l)
        (site_node s words t bs h long lk some.0 some.1 some.2 j m) e)

    frugal_board : (k : ℕ) (d : Site) (l : k < length t.sites.items) (j : ℕ)
        → j < nodes_in words (slice_index_or t.sites.items k d).start
        → node_board s bs (node_at (slice_index_or t.sites.items k d).start j)
        ≡ placed (slice_index_or t.sites.items k d).board (slice_index_or t.sites.items k d).player
        (cell_in (slice_index words (node_at (slice_index_or t.sites.items k d).start j)))
    frugal_board k d l j m =
        let f = site_block s words t bs h lk k d l in
        let mv = site_move s words t bs h long lk k d l j m in
        let cell : cell_in
        (slice_index words (node_at (slice_index_or t.sites.items k d).start j)) ≡ cell_at f.0 j
        = ap (λ (z : ℕ). cell_in (slice_index words (z + 4 + 4 * j))) (sym f.2) ∙ mv.cell in
        ap (λ (z : ℕ). node_board s bs (z + 4 + 4 * j)) (sym f.2)
        ∙ ap (λ (p : NodeState). p.board) mv.state
        ∙ sym (λ i. (state_after (f.3 i) (cell i)).board)

    pub not_frugal : next_in words ≤ end_of s
        → SomeSite t (λ p. AreFrugal words sums (s.knobs.workers * s.knobs.expand) p → ⊥)
        → Grown s bs words → ⊥
    not_frugal room some g =
        let f = site_block s words t bs h lk some.0 some.1 some.2 in
        some.3 (λ j m c e.
        let x : ℕ = node_at (slice_index_or t.sites.items some.0 some.1).start j in
        let node = in-node (root_at s) bs f.0 x f.1
        (site_node s words t bs h long lk some.0 some.1 some.2 j m) in
        omega (arith, a.leaves x node, g.leaves room x c node (ap (λ (p : Position). is_empty_at p c) (frugal_board some.0 some.1 some.2 j m) ∙ e)))

    pub grown_of : Recorded s bs words → EachSite t (λ p. IsFirst words s.knobs.workers p.start)
        → (next_in words ≤ end_of s → EachSite t (AreFrugal words sums (s.knobs.workers * s.knobs.expand))) → IsNextBounded s words t.others
        → Grown s bs words
    grown_of rec first frugal room = record {
      first = λ b x y i n m e.
          let f = block_site s words t bs h long lk b x i n in
          let g = block_site s words t bs h long lk b y i m in
          let d : Site = record { start = 0; board = s.board; player = s.player } in
          let start = f.2 d in
          let at = λ (j z : ℕ) (q : z ≡ node_at b.start j). ap (λ (u : ℕ). (tally_in words (node_at u j)).visits) start
          ∙ ap (λ (v : ℕ). (tally_in words v).visits) (sym q) in
          omega (
            arith,
            first f.0 d f.1 f.3.0 g.3.0 (omega (arith, f.3.1, ap (nodes_in words) start))
                (omega (arith, g.3.1, ap (nodes_in words) start)) (at g.3.0 y g.3.2 ∙ e),
            at f.3.0 x f.3.2,
          );
      leaves = λ l x c n e. ⊎_elim
          (λ (r : x ≡ root_at s).
          let none : ends_at words s.knobs.playouts x ≡ 0
          = count-none s.knobs.playouts (λ k. leaf_of words k == x)
          (λ k l. ne_eqb (leaf_of words k) x (λ q. (rec k l).below (q ∙ r))) in
          omega (arith, none))
          (λ (r : (b : LinkedBlock) × In b bs × (has_node b x ≡ true)).
          let f = block_site s words t bs h long lk r.0 x r.1 r.2 in
          let d : Site = record { start = 0; board = s.board; player = s.player } in
          let start = f.2 d in
          let few = omega-few f.3.1 start in
          let at : x ≡ node_at (slice_index_or t.sites.items f.0 d).start f.3.0 = f.3.2
          ∙ sym (ap (λ (z : ℕ). node_at z f.3.0) start) in
          let got = frugal l f.0 d f.1 f.3.0 few c
          (sym (ap (λ (p : Position). is_empty_at p c) (frugal_board f.0 d f.1 f.3.0 few)) ∙ sym (ap (λ (z : ℕ). is_empty_at (node_board s bs z) c) at)
          ∙ e) in
          omega (arith, got, ap (slice_index sums) at, a.leaves x n))
          (node-in (root_at s) bs x n);
      room = omega-room;
    }
      where
        omega-few : {j b q : ℕ} → j < nodes_in words b → q ≡ b → j < nodes_in words q
        omega-few {j} {b} {q} l e = omega (arith, l, ap (nodes_in words) e)

        omega-room : next_in words ≤ root_end s words + s.knobs.workers * other_words s bs + 488 * s.knobs.workers
        omega-room = subst (λ (n : ℕ). IsNextBounded s words n) lk.others room

    pub room_of : Grown s bs words → IsNextBounded s words t.others
    room_of g = subst (λ (n : ℕ). IsNextBounded s words n) (sym lk.others) g.room
