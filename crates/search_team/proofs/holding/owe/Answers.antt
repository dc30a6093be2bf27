-- An add more is owed to the word.
use Rattle.std.proofs.Common.{refl, sym, ap, ◌∙◌, subst, arith, List, ℕ}
use Rattle.std.specs.Prelude.{slice_index}
use Rattle.tree_words.specs.declared.steps.Op.TheVariants.{Add}
use Rattle.arena_rule.specs.Views.{SeatView}
use Rattle.arena_rule.specs.Afters.{after}
use Rattle.arena_rule.specs.Answers.{MayAnswer}
use Rattle.arena_rule.specs.Fits.{FitsStep}
use Rattle.arena_rule.specs.Owing.{IsSeenWord}
use Rattle.tree_rule.specs.Seats.{debtor_of}
use Rattle.tree_rule.proofs.Moves.{won-added}
use Rattle.search_team.proofs.Debts.{holds-owed, may-owe}
use Rattle.search_team.proofs.holding.owe.Goals as goal

pub owe-requires-clause-can : goal.owe-requires-clause-can
owe-requires-clause-can c =
    let same = sym c.make_room.ensures.view in
    record {
      fits = subst (λ (v : SeatView). FitsStep v (Add c.args.word c.args.won)) same c.requires.fits;
      seen = subst (λ (v : SeatView). IsSeenWord v c.args.word) same c.requires.seen;
      few = may-owe c.args.tree.now.shape c.make_room.new.sums (debtor_of c.make_room.new.seat) c.slot-i.result
          c.args.word (sym c.make_room.ensures.own.shape) c.make_room.ensures.debts (sym c.slot-i.ensures.is) c.make_room.ensures.low;
      alone = ap (λ (v : SeatView). v.whole) (sym same) ∙ c.requires.lone;
    }

pub returns-clause-debts : goal.returns-clause-debts
returns-clause-debts c =
    holds-owed c.args.tree.now.shape c.make_room.new.sums _ c.make_room.new.seat.owed c.owe.new.self.owed c.slot-i.result _ c.args.word c.args.won
    c.slot-i.ensures.inside c.make_room.ensures.debts (sym c.slot-i.ensures.is)
    (ap (λ (l : List ℕ). slice_index l c.slot-i.result) c.make_room.ensures.words ∙ ap (slice_index c.args.sums.now.words) c.slot-i.ensures.is ∙ c.requires.has)
    c.make_room.ensures.low (omega (arith, won-added c.from.result c.args.won c.from.ensures)) refl refl refl c.owe.ensures.owed

pub returns-clause-answer : goal.returns-clause-answer
returns-clause-answer c = subst (λ (v : SeatView). MayAnswer v (Add c.args.word c.args.won) 0)
    c.make_room.ensures.view c.owe.ensures.answer

pub returns-clause-view : goal.returns-clause-view
returns-clause-view c = c.owe.ensures.view
    ∙ ap (λ (v : SeatView). after v (Add c.args.word c.args.won) 0) c.make_room.ensures.view
