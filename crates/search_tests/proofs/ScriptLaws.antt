-- What the steps of a script ask, of views that are known whole.
use Rattle.std.proofs.Common.{◌≡◌, ℕ, ◌+◌, ◌<◌, List, [], ◌∷◌, ◌++◌, length, Option, Some, None, sym, ap, ◌∙◌, subst}
use Rattle.std.specs.Prelude.{slice_get}
use Rattle.tree_words.specs.Settings.{Setting}
use Rattle.tree_words.specs.Blocks.{LinkedBlock}
use Rattle.tree_words.specs.Paths.{node_state}
use Rattle.tree_words.specs.Sequence.{outcome_of}
use Rattle.arena_rule.specs.Views.{SeatView, HeldBlock, Flight}
use Rattle.arena_rule.specs.Adds.{CountAdd, walk_adds}
use Rattle.arena_rule.specs.Lookups.{record_word}
use Rattle.search_tests.specs.Scripts.{ScriptLine, TwoViews, AllFit, after_script_line, after_script}
use Rattle.arena_rule.specs.Fits.{FitsDraw, FitsWrite, FitsAdd, FitsNote, IsNext}

-- two scripts, one after the other
pub fit-append : (t : TwoViews) (a b : List ScriptLine) → AllFit t a → AllFit (after_script t a) b → AllFit t (a ++ b)
fit-append t [] b h k = k
fit-append t (l ∷ a) b h k = (h.0, h.1, fit-append (after_script_line t l) a b h.2 k)

pub draw-fits : (v : SeatView) → v.width ≡ 1 → v.ended ≡ 0 → v.ticket ≡ None → v.held ≡ None → FitsDraw v
draw-fits v w e t h = record { width = w; ended = e; ticket = t; held = h }

pub write-fits : (v : SeatView) (b : HeldBlock) (i : ℕ) → v.held ≡ Some b → length b.written < b.size → i ≡ b.start + length b.written → FitsWrite v i
write-fits v b i h l n = record { block = b; held = h; left = l; next = n }

-- the walk of playout k to a leaf, over these known blocks
module _ (v : SeatView) (s : Setting) (known : List LinkedBlock) (k leaf : ℕ) where
  pub next-add : (n : ℕ) (a : CountAdd) (adds : List CountAdd) → v.shape ≡ s → v.known ≡ known → v.ticket ≡ Some k
      → v.held ≡ None → v.adds ≡ Some (record { leaf = leaf; made = n })
      → walk_adds s known k leaf ≡ adds → slice_get adds n ≡ Some a → FitsAdd v a
  next-add n a adds shape blocks t h f e is = record {
    number = k;
    ticket = t;
    held = h;
    next = subst (λ (o : Option Flight). IsNext v k o a) (sym f) ((λ i. slice_get (walk_adds (shape i) (blocks i) k leaf) n) ∙ (λ i. slice_get (e i) n) ∙ is);
  }

  pub note-fits : (value : ℕ) (adds : List CountAdd) → v.shape ≡ s → v.known ≡ known → v.ticket ≡ Some k → v.adds ≡ Some
      (record { leaf = leaf; made = length adds })
      → walk_adds s known k leaf ≡ adds → record_word leaf (outcome_of s k (node_state s known leaf)).winner ≡ value → FitsNote v k value
  note-fits value adds shape blocks t f e is = record {
    ticket = t;
    flight = record { leaf = leaf; made = length adds };
    adds = f;
    all = sym ((λ i. length (walk_adds (shape i) (blocks i) k leaf)) ∙ ap length e);
    value = sym ((λ i. record_word leaf (outcome_of (shape i) k (node_state (shape i) (blocks i) leaf)).winner) ∙ is);
  }
