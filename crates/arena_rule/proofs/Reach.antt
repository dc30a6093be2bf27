-- The words below the root, which only Draw, Claim and Note change: NEXT, TICKET and the records.
use Rattle.std.proofs.Common.{◌≡◌, ℕ, ◌<◌, ◌≤◌, List, set, ap, arith, get_or-set_other}
use Rattle.std.specs.Prelude.{slice_index}
use Rattle.std.proofs.lemmas.List.{set-get_or}
use Rattle.tree_words.specs.Words.{root_at}
use Rattle.tree_words.specs.Blocks.{LinkedBlock}
use Rattle.tree_words.specs.declared.steps.Op.{Op}
use Rattle.tree_words.specs.declared.steps.Op.TheVariants.{Draw, Look, Claim, Write, Publish, Add}
use Rattle.tree_words.specs.declared.steps.Op.TheVariants.{Note, Done}
use Rattle.arena_rule.specs.Views.{SeatView}
use Rattle.arena_rule.specs.Fits.{FitsStep}
use Rattle.arena_rule.specs.Afters.{put}
use Rattle.arena_rule.specs.Rule.{words_after}
use Rattle.arena_rule.proofs.Before.{Before}
use Rattle.arena_rule.proofs.Frames.{write-high, publish-high, add-high}

-- the step changes no word below the root
abbrev pub IsHigh : Op → Type 0
IsHigh Draw = ⊥
IsHigh (Look i) = Unit {0}
IsHigh (Claim size) = ⊥
IsHigh (Write i value) = Unit {0}
IsHigh (Publish l b) = Unit {0}
IsHigh (Add i won) = Unit {0}
IsHigh (Note k value) = ⊥
IsHigh Done = Unit {0}

module _ (bs : List LinkedBlock) (words : List ℕ) (views : List SeatView) (id : ℕ) (v : SeatView)
    (b : Before bs words views id v) where
  other : (i j n : ℕ) → root_at v.shape ≤ i → j < root_at v.shape
      → slice_index (set words i n) j ≡ slice_index words j
  other i j n low high = get_or-set_other words i j n 0 (λ e. omega arith)

  pub low-same : (op : Op) → IsHigh op → FitsStep v op → (j : ℕ) → j < root_at v.shape
      → slice_index (words_after words op) j ≡ slice_index words j
  low-same Draw high fits j l = absurd high
  low-same (Look i) high fits j l = ap (λ (ws : List ℕ). slice_index ws j) (set-get_or words i 0)
  low-same (Claim size) high fits j l = absurd high
  low-same (Write i value) high fits j l
      = other i j value (write-high bs words views id v b i fits) l
  low-same (Publish p c) high fits j l = other p j (put (Publish p c) (slice_index words p))
      (publish-high bs words views id v b p c fits) l
  low-same (Add i won) high fits j l = other i j (put (Add i won) (slice_index words i))
      (add-high bs words views id v b (record { word = i; won = won }) fits) l
  low-same (Note k value) high fits j l = absurd high
  low-same Done high fits j l = ap (λ (ws : List ℕ). slice_index ws j) (set-get_or words 0 0)
