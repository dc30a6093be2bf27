-- What the words have of the last seat's view, if its workers have ended.
use Rattle.std.proofs.Common.{◌≡◌, ℕ, ◌≤◌, Bool, cond, List, [], length, get_or, Some, refl, sym}
use Rattle.std.proofs.Common.{ap, ◌∙◌, subst, inr, arith}
use Rattle.std.proofs.lemmas.Bool.{eq-eqb}
use mathlib.Core.Option.{some}
use lib.ListN.{get_elem?}
use Rattle.play_out.specs.Fills.{empties_of}
use Rattle.tree_words.specs.Settings.{Setting}
use Rattle.tree_words.specs.Words.{root_at, area_at, next_in}
use Rattle.tree_words.specs.Blocks.{LinkedBlock}
use Rattle.tree_words.specs.Paths.{node_board}
use Rattle.tree_words.specs.Complete.{allowed_cells}
use Rattle.tree_words.specs.Opening.{AreOpening, opening_next, opening_words}
use Rattle.tree_words.specs.Told.{told_block}
use Rattle.tree_words.specs.Closing.{IsClosed}
use Rattle.tree_words.proofs.Blocks.GameLaws.{whole-in}
use Rattle.tree_words.proofs.Blocks.BlockLaws.{root_node}
use Rattle.tree_words.proofs.Blocks.Within.{told-real}
use Rattle.tree_words.proofs.NewBlocks.OpeningLaws.{clear}
use Rattle.tree_words.proofs.NewBlocks.OpeningTold.{opening-are}
use Rattle.arena_rule.specs.Views.{SeatView, HasEnded}
use Rattle.arena_rule.specs.Rule.{Rule, IsState}
use Rattle.arena_rule.specs.Closed.{IsLast, HasAllWalks}
use Rattle.arena_rule.proofs.Law.{closes, closes-walks}
use Rattle.arena_rule.proofs.Before.{Before}
use Rattle.arena_rule.proofs.AnswersBlocks.{known_shown}
use Rattle.arena_rule.proofs.LastSeat.{value}
use Rattle.arena_rule.specs.Owing.{Debtor, OwingRule, view_of, views_of}
use Rattle.arena_rule.proofs.OwingSeats.{rule-last}
use Rattle.atomic_table.proofs.Lists.{at_map}
use Rattle.tree_rule.specs.Ends.{AreShown, AreRecords, IsSameBehind, EndsWith}

-- with one seat left, which stands for all workers, of whom all have ended, and owes nothing, the
-- arena rule holds of the words themselves
pub last-rule : (s : Setting) (words : List ℕ) (seats : List Debtor) → OwingRule s words seats
    → (id : ℕ) (d : Debtor) → get_elem? seats id ≡ some d → d.owed ≡ []
    → d.view.width ≡ s.knobs.workers → HasEnded d.view → Rule s words (views_of seats)
last-rule s words seats r id d at free width ended =
    let many = r.rule.state.setting.ranges.workers.0 in
    rule-last s words seats r id d at free
    (record {
      seat = record { at = at_map view_of seats id d at; live = omega (arith, width, many) };
      width = width;
      ended = ended;
    })

-- NEXT never lies before the end of the root's block
next-behind : (s : Setting) (bs : List LinkedBlock) (words : List ℕ) (views : List SeatView)
    → IsState s bs words views → opening_next s ≤ next_in words
next-behind s bs words views st =
    let r : ℕ = root_at s in
    let here = told-real s words bs [] r (area_at s) st.linked.blocks tt
    (root_node r []) st.setting.position.most st.linked.link (omega arith) in
    let whole = whole-in s (next_in words) bs
    (told_block s [] r (area_at s)) st.linked.blocks.order st.linked.blocks.complete here in
    let cells = ap (λ (t : Bool). length (cond t (allowed_cells s) (empties_of (node_board s [] r)))) (eq-eqb r r refl) in
    omega (arith, whole.claimed, cells)

module _ (s : Setting) (words : List ℕ) (views : List SeatView) (r : Rule s words views) where
  -- from NEXT on the words are 0, as the opening words are
  pub beyond : IsSameBehind words (opening_words s)
  beyond i past l =
      let a : AreOpening s (opening_words s) = opening-are s r.state.setting in
      let low = next-behind s r.blocks words views r.state in
      let zero : get_or (opening_words s) i 0 ≡ 0
      = clear s (opening_words s) a.empties r.state.setting a.set a.long (λ j m d. a.each j m) i
      (omega (arith, low)) (λ e. omega (arith, e, low)) (inr (omega (arith, low))) in
      r.state.fresh i (omega (arith, low)) past (omega (arith, a.long)) ∙ sym zero

  module _ (id : ℕ) (v : SeatView) (last : IsLast s views id v) where
    shape : v.shape ≡ s
    shape = (r.state.widths.each id v last.seat.at).shape

    before : Before r.blocks words views id v
    before = record { state = subst (λ (t : Setting). IsState t r.blocks words views) (sym shape) r.state; at = last.seat.at; live = last.seat.live }

    pub shown : AreShown words v.known
    shown b n = let h = known_shown s r.blocks words views r.state id v b last.seat.at n in
        record { link = h.0; block = h.1 }

    pub records : AreRecords s words v
    records k l =
        value r.blocks words views id v before
        (last.width ∙ sym (ap (λ (t : Setting). t.knobs.workers) shape)) last.ended k
        (omega (arith, l, ap (λ (t : Setting). t.knobs.playouts) shape))

    pub whole-is : (copy : List ℕ) → v.whole ≡ Some copy → words ≡ copy
    whole-is copy e = (r.state.sole id v copy last.seat.at e).0

-- all that is said of the words at the end, of the shape t and of the view u of the last seat
pub record EndsSo (t : Setting) (u : SeatView) (words : List ℕ) : Type 0 where
  pub closed : IsClosed t words
  pub known : AreShown words u.known
  pub walks : HasAllWalks t u
  pub records : AreRecords t words u
  pub whole : (copy : List ℕ) → u.whole ≡ Some copy → words ≡ copy

pub end-told : (s t : Setting) (id : ℕ) (v u : SeatView) (words : List ℕ) → EndsWith s id v words
    → s ≡ t → v ≡ u → u.width ≡ t.knobs.workers → HasEnded u → EndsSo t u words
end-told s t id v u words e st vu width ended =
    let rule : Rule t words e.views = subst (λ (z : Setting). Rule z words e.views) st e.rule in
    let at : get_elem? e.views id ≡ some u = e.at ∙ ap some vu in
    let many = rule.state.setting.ranges.workers.0 in
    let last : IsLast t e.views id u
    = record { seat = record { at = at; live = omega (arith, width, many) }; width = width; ended = ended } in
    record {
      closed = closes t words e.views rule id u last;
      known = shown t words e.views rule id u last;
      walks = closes-walks t words e.views rule id u last;
      records = records t words e.views rule id u last;
      whole = whole-is t words e.views rule id u last;
    }
