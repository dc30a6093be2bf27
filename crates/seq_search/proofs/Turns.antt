-- What stands after one whole walk.
use Rattle.std.proofs.Common.{◌≡◌, ℕ, ◌+◌, ◌*◌, ◌%◌, ◌<◌, Bool, false, cond, List, ap, arith}
use Rattle.hex_cells.specs.declared.colours.Colour.{Colour}
use Rattle.hex_cells.specs.declared.colours.Colour.TheVariants.{Black, White}
use Rattle.hex_cells.specs.Colours.{is_same}
use Rattle.tree_words.specs.Settings.{Setting, IsSetting}
use Rattle.tree_words.specs.Words.{root_at, next_in, leaf_in, winner_in, tally_in, seen_in}
use Rattle.tree_words.specs.Blocks.{LinkedBlock, one_if}
use Rattle.tree_words.specs.Paths.{root_state}
use Rattle.play_out.specs.declared.playouts.Ending.{Ending}
use Rattle.tree_words.specs.Sequence.{outcome_of, asks, search_game}
use Rattle.tree_words.specs.Trees.{oldest_first}
use Rattle.tree_words.specs.Descents.{walk_end, Widened, Added, leaf_at, config_of}
use Rattle.std.proofs.lemmas.Bool.{eq-eqb, ne_eqb}
use Rattle.seq_search.specs.Steps.{Holds, KeepsRecords, Records}
use Rattle.seq_search.specs.IsSearched.{IsSearched}
use Rattle.tree_words.proofs.Walks.Leaves.{Whole, root-out, sprouts-of}
use Rattle.tree_words.proofs.Walks.Asking.{widened-asks}
use Rattle.seq_search.proofs.Standings.{standing-widened, standing-added}

-- the leaf and the winner are read off the record
pub record-reads : (leaf n : ℕ) (c : Colour) → n ≡ 2 * leaf + one_if (is_same c White)
    → (leaf_in n ≡ leaf) × (winner_in n ≡ c)
record-reads leaf n Black e = let even : n % 2 ≡ 0 = omega arith in
    (omega arith, ap (λ (t : Bool). cond t Black White) (eq-eqb (n % 2) 0 even))
record-reads leaf n White e = let odd : n % 2 ≡ 1 = omega arith in
    (omega arith, ap (λ (t : Bool). cond t Black White) (ne_eqb (n % 2) 0 (λ z. omega (arith, odd, z))))

-- if the leaf has got its block, or none, it asks for none
pub standing-asks : (s : Setting) (bs after_bs : List LinkedBlock) (words after : List ℕ) (k : ℕ)
    → IsSetting s → Holds s after_bs after k
    → Widened (search_game s) (root_state s) (root_at s) (config_of bs words)
    (config_of after_bs after)
    → asks s (next_in after)
    (walk_end (search_game s) (root_state s) (root_at s) (config_of after_bs after)).0
    (walk_end (search_game s) (root_state s) (root_at s) (config_of after_bs after)).1 ≡ false
standing-asks s bs after_bs words after k set h w =
    let r : ℕ = root_at s in
    let whole : Whole r after_bs = record { order = h.linked.order; filled = h.filled } in
    let some = set.ranges.expand.0 in
    widened-asks s r (config_of bs words) (config_of after_bs after) (omega arith)
    (sprouts-of r after_bs whole) (root-out r after_bs h.linked.order) w

-- One walk: the leaf gets its block, or none, and the walk adds.
pub standing-walked : (s : Setting) (bs after_bs : List LinkedBlock) (words middle after : List ℕ)
    (k n : ℕ) (o : Ending) → IsSetting s → k < s.knobs.playouts
    → Holds s bs words k → IsSearched s bs words k
    → Holds s after_bs middle k → Widened (search_game s) (root_state s) (root_at s)
    (config_of bs words) (config_of after_bs middle) → KeepsRecords s words middle
    → o ≡ outcome_of s k
    (walk_end (search_game s) (root_state s) (root_at s) (config_of after_bs middle)).1
    → Added (search_game s) (root_state s) (root_at s) o (config_of after_bs middle)
    (config_of after_bs after)
    → Records s k n middle after → leaf_in n ≡ leaf_at (search_game s) (tally_in middle)
    (seen_in middle) (oldest_first after_bs) (root_at s) → winner_in n ≡ o.winner
    → IsSearched s after_bs after (k + 1)
standing-walked s bs after_bs words middle after k n o set l h st h' w keeps played a rec at won =
    standing-added s after_bs middle after k n o l h' (standing-widened s bs after_bs words middle k set (omega arith) h st h' w keeps)
    played (standing-asks s bs after_bs words middle k set h' w) a rec at won
