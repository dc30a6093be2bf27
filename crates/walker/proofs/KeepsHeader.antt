-- The looks at a header keep Belongs.
use Rattle.std.proofs.Common.{◌≡◌, ◌≢◌, ℕ, ◌+◌, ◌-◌, ◌%◌, ◌<◌, ◌≤◌, Bool, true, cond, length, refl}
use Rattle.std.proofs.Common.{sym, ap, ◌∙◌, subst, arith, ⊎_elim, inl, inr}
use Rattle.std.specs.Prelude.{◌==◌, ◌||◌}
use Rattle.std.proofs.lemmas.Bool.{eq-eqb, ne_eqb, cases_lt, cases_eq, lt-ltb}
use Rattle.play_out.specs.Fills.{empties_of}
use Rattle.tree_words.specs.Settings.{Setting}
use Rattle.tree_words.specs.Words.{root_at}
use Rattle.tree_words.specs.Blocks.{In, InOrder, is_header_or_move}
use Rattle.tree_words.specs.Paths.{node_board}
use Rattle.tree_words.specs.Complete.{allowed_cells, cells_below}
use Rattle.tree_words.specs.declared.steps.Op.TheVariants.{Look}
use Rattle.tree_words.proofs.Blocks.NodeLaws.{stays-clear}
use Rattle.tree_words.proofs.NewBlocks.OpeningLaws.{some-allowed}
use Rattle.arena_rule.specs.Views.{SeatView}
use Rattle.arena_rule.specs.Lookups.{is_known}
use Rattle.arena_rule.specs.Answers.{MayAnswer}
use Rattle.arena_rule.specs.Afters.{after, looked, with_word}
use Rattle.arena_rule.specs.IsView.{IsView}
use Rattle.walker.specs.declared.stages.Stage.{Stage}
use Rattle.walker.specs.declared.stages.Stage.TheVariants.{Heading, Scanning}
use Rattle.walker.specs.declared.machine.Walker.{Walker}
use Rattle.walker.specs.Scans.{scan_of}
use Rattle.walker.specs.Machine.{cells_in, at_leaf, headed}
use Rattle.walker.specs.Belongs.{Belongs, Stands, Down, AtHeader, AtChild, AtTally}
use Rattle.walker.proofs.KnownLaws.{one-order}
use Rattle.walker.proofs.Going.{look-goes}
use Rattle.walker.proofs.LeafLaws.{cells-is, leaf-stands, leaf-belongs}
use Rattle.walker.proofs.Cases.{headed-next, headed-leaf, headed-scan}
use Rattle.walker.proofs.KeepsDown.{look-down}

module _ (w : Walker) (v : SeatView) (b : Belongs w v) (x : ℕ) where
  order : InOrder (root_at v.shape) v.known
  order = one-order v b.view b.width

  -- a header word of the block below
  module _ (a : AtHeader w v) (may : MayAnswer v (Look w.at) x)
      (iu : IsView (after v (Look w.at) x)) where
    header-stays : (i : ℕ) → i < 4 → is_header_or_move i ≡ true
    header-stays i l = ap (λ (t : Bool). t || (i % 4 == 0)) (lt-ltb i 4 l)

    head-clear : (y j : ℕ) → is_known v y ≡ true → 2 ≤ j → j < 4 → w.at ≢ y + j
    head-clear y j n l m e = stays-clear (root_at v.shape) v.known a.block
        (w.at - w.start) y j order a.below.known
        (omega (arith, a.at)) (header-stays (w.at - w.start) (omega (arith, a.at))) n
        (omega arith) m (omega (arith, a.below.start, a.at, e))

    head-down : Down w (after v (Look w.at) x)
    head-down = look-down w v b x w.at a.down iu head-clear

    head-known : In a.block (after v (Look w.at) x).known
    head-known = (look-goes v w.at x b.width iu).known a.block a.below.known

    horder : InOrder (root_at (after v (Look w.at) x).shape) (after v (Look w.at) x).known
    unfolding with_word looked
    horder = one-order (after v (Look w.at) x) iu b.width

    head-cells : cells_in w ≡ cells_below v.shape (after v (Look w.at) x).known w.node
    unfolding with_word looked
    head-cells = cells-is w (after v (Look w.at) x) b.shape horder iu.known head-down

    head-next : w.at + 1 < w.start + 4
        → AtHeader (record w { at = w.at + 1 }) (after v (Look w.at) x)
    unfolding with_word looked
    head-next l = record {
      down = head-down;
      held = a.held;
      block = a.block;
      below = record { known = head-known; start = a.below.start; parent = a.below.parent; cells = a.below.cells };
      at = (omega (arith, a.at), l);
    }

    head-below : length (cells_in w) ≡ 0 → w.node ≢ root_at v.shape
    head-below e r =
        let some = some-allowed v.shape b.view.setting in
        let all : cells_in w ≡ allowed_cells v.shape = head-cells
        ∙ ap (λ (t : Bool). cond t (allowed_cells v.shape) (empties_of (node_board v.shape (after v (Look w.at) x).known w.node)))
        (eq-eqb w.node (root_at v.shape) r) in
        omega (arith, some, ap length all, e)

    head-leaf : length (cells_in w) ≡ 0 → AtTally (at_leaf w) (after v (Look w.at) x)
    unfolding with_word looked
    head-leaf e =
        let ne = head-below e in
        let empties : cells_in w ≡ empties_of
        (node_board v.shape (after v (Look w.at) x).known w.node)
        = head-cells
        ∙ ap (λ (t : Bool). cond t (allowed_cells v.shape) (empties_of (node_board v.shape (after v (Look w.at) x).known w.node)))
        (ne_eqb w.node (root_at v.shape) ne) in
        leaf-stands w (after v (Look w.at) x) b.shape horder iu.known head-down a.held ne
        (inr (sym (ap length empties) ∙ e)) (inr (inl (sym (ap length empties) ∙ e)))

    head-scan : 0 < length (cells_in w)
        → AtChild (record w { stage = Scanning; scan = scan_of w.start (length (cells_in w)) w.visits w.shape.knobs.weight }) (after v (Look w.at) x)
    unfolding with_word looked
    head-scan l = record {
      down = head-down;
      held = a.held;
      block = a.block;
      below = record { known = head-known; start = a.below.start; parent = a.below.parent; cells = a.below.cells };
      scan = record {
        parent = refl;
        weight = ap (λ (s : Setting). s.knobs.weight) (sym b.shape);
        count = ap length (sym a.below.cells);
        place = l;
        stands = omega (arith, a.below.start);
        tallies = λ i m. absurd (omega arith);
        seen = λ i m. absurd (omega arith);
        few = omega arith;
        keeps = (refl, refl, refl, refl);
      };
    }

    pub keeps-header : w.stage ≡ Heading → Belongs (headed w) (after v (Look w.at) x)
    unfolding with_word looked
    keeps-header stage =
        let u : SeatView = after v (Look w.at) x in
        let goal : Walker → Type 0 = λ z. Belongs z u in
        ⊎_elim
        (λ (l : w.at + 1 < w.start + 4). subst goal (sym (headed-next w l))
        (record {
          shape = b.shape;
          view = iu;
          width = b.width;
          full = b.full;
          stands = subst (λ (t : Stage). Stands t (record w { at = w.at + 1 }) u) (sym stage) (head-next l);
        }))
        (λ (l : w.start + 4 ≤ w.at + 1). ⊎_elim
        (λ (e : length (cells_in w) ≡ 0). subst goal (sym (headed-leaf w l e)) (leaf-belongs w u b.shape iu b.width b.full (head-leaf e)))
        (λ (ne : length (cells_in w) ≢ 0). let m : 0 < length (cells_in w) = omega arith in subst goal (sym (headed-scan w l m))
        (record { shape = b.shape; view = iu; width = b.width; full = b.full; stands = head-scan m }))
        (cases_eq (length (cells_in w)) 0))
        (cases_lt (w.at + 1) (w.start + 4))
