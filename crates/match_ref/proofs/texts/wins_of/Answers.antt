use Rattle.std.proofs.Common.{◌≡◌, ◌+◌, ◌++◌, ◌∷◌, ◌∙◌, [], length, take, sym, refl, arith}
use Rattle.std.proofs.lemmas.Grind.{common_steps}
use Rattle.match_ref.specs.MatchTexts.{has_won}
use Rattle.match_ref.proofs.TextLaws.{win, wins_more}
use Rattle.match_ref.proofs.texts.wins_of.Goals.{then-has_won, else-has_won}
use Rattle.match_ref.proofs.texts.wins_of.Goals as goal

pub loop-number-preserved : goal.loop-number-preserved
loop-number-preserved c =
    let games = c.args.games.now in
    let n = c.loop-number.number in
    let game = c.index-games-number.result in
    let more : take (n + 1) games ≡ take n games ++ game ∷ [] = grind (arith, common_steps) in
    let many : length (take n games) ≡ n = grind (arith, common_steps) in
    let next = wins_more c.args.is_a n (take n games) (take (n + 1) games) game more many in
    let before = c.loop-number.invariant.wins in
    let few = c.loop-number.invariant.few in
    let won : has_won c.args.is_a n game.winner ≡ c.has_won.result = sym c.has_won.ensures in
    elim c.if-has_won.branch [
      | then-has_won w ↦ let is : win c.args.is_a n game ≡ 1 = rw (won ∙ w.if-has_won.true) refl in
          let now = w.wins-is in
          record { wins = omega (arith, next, before, is, now); few = omega (arith, few, now) }
      | else-has_won w ↦ let is : win c.args.is_a n game ≡ 0 = rw (won ∙ w.if-has_won.false) refl in
          let now = w.wins-is in
          record { wins = omega (arith, next, before, is, now); few = omega (arith, few, now) }
    ]
