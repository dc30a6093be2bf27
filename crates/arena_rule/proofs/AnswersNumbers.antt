-- What a Draw answers, and the answers of a view with a copy of the words.
use Rattle.std.proofs.Common.{◌≡◌, ℕ, List, length, refl, sym, ap, ◌∙◌, arith}
use Rattle.std.specs.Prelude.{slice_index}
use Rattle.std.proofs.lemmas.List.{get_or_past}
use Rattle.tree_words.specs.Words.{ticket_in, record_in}
use Rattle.tree_words.specs.Blocks.{LinkedBlock}
use Rattle.tree_words.specs.declared.steps.Op.{Op}
use Rattle.tree_words.specs.declared.steps.Op.TheVariants.{Draw, Look, Claim, Write, Publish, Add}
use Rattle.tree_words.specs.declared.steps.Op.TheVariants.{Note, Done}
use Rattle.arena_rule.specs.Views.{SeatView}
use Rattle.arena_rule.specs.Fits.{FitsStep, FitsWrite, FitsNote}
use Rattle.arena_rule.specs.Afters.{word_of, answer_of}
use Rattle.arena_rule.specs.Answers.{AnswersDraw, AgreesWithWhole}
use Rattle.arena_rule.specs.Parts.{width_of, ended_of, value_noted}
use Rattle.arena_rule.proofs.Before.{Before}
use Rattle.arena_rule.proofs.Totals.{total_le, total_none}
use Rattle.arena_rule.proofs.Numbers.{value-none}
use Rattle.arena_rule.proofs.Tickets.{hand-alone}

module _ (bs : List LinkedBlock) (words : List ℕ) (views : List SeatView) (id : ℕ) (v : SeatView)
    (b : Before bs words views id v) where
  pub answers-draw : AnswersDraw v (ticket_in words)
  answers-draw = record {
    most = omega (arith, b.state.widths.ticket, b.state.widths.sum, total_le ended_of width_of views (λ j u e. (b.state.widths.each j u e).ended));
    new = λ w c q. let l = (b.state.in_hand id v b.at).walks w c in omega (arith, l.0, q);
  }

  -- an unwritten word of the held block is 0
  write-zero : (i : ℕ) → FitsWrite v i → slice_index words i ≡ 0
  write-zero i fits =
      let h = b.state.held id v b.at fits.block fits.held in
      ap (slice_index words) fits.next ∙ h.each (length fits.block.written) fits.left
      ∙ get_or_past fits.block.written (length fits.block.written) 0 (omega arith)

  -- the record of a number in hand is 0
  note-zero : (k n : ℕ) → FitsNote v k n → record_in words k ≡ 0
  note-zero k n fits =
      b.state.tickets.records k ((b.state.in_hand id v b.at).ticket k fits.ticket).1
      ∙ total_none (value_noted k) views
      (λ j x e. value-none k x.walks (hand-alone bs words views id v b k fits.ticket j x e))

  found : (op : Op) → FitsStep v op
      → answer_of op (slice_index words (word_of op)) ≡ slice_index words (word_of op)
  found Draw fits = refl
  found (Look i) fits = refl
  found (Claim size) fits = refl
  found (Write i n) fits = sym (write-zero i fits)
  found (Publish l c) fits = refl
  found (Add i won) fits = refl
  found (Note k n) fits = sym (note-zero k n fits)
  found Done fits = refl

  -- if the view has a copy of the words, the answer is the value there
  pub answers-whole : (op : Op) → FitsStep v op
      → AgreesWithWhole v (word_of op) (answer_of op (slice_index words (word_of op)))
  answers-whole op fits copy e = found op fits ∙ ap (λ (ws : List ℕ). slice_index ws (word_of op))
      (b.state.sole id v copy b.at e).0
