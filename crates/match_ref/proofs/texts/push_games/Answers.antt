use Rattle.std.proofs.Common.{◌≡◌, ◌+◌, ◌++◌, ◌∷◌, ◌∙◌, [], length, take, ap, sym, append_assoc}
use Rattle.std.proofs.Common.{arith}
use Rattle.std.proofs.lemmas.Grind.{common_steps}
use Rattle.match_ref.specs.MatchTexts.{game_text, games_text}
use Rattle.match_ref.proofs.TextLaws.{games_more}
use Rattle.match_ref.proofs.texts.push_games.Goals as goal

pub loop-number-preserved : goal.loop-number-preserved
loop-number-preserved c =
    let games = c.args.games.now in
    let n = c.loop-number.number in
    let game = c.index-games-number.result in
    let w = c.args.asked.now in
    let more : take (n + 1) games ≡ take n games ++ game ∷ [] = grind (arith, common_steps) in
    let many : length (take n games) ≡ n = grind (arith, common_steps) in
    c.in_ok-push_game.ensures ∙ ap (λ text. text ++ game_text w n game) c.loop-number.invariant
    ∙ append_assoc c.args.text.now.items (games_text w 0 (take n games)) (game_text w n game)
    ∙ ap (λ text. c.args.text.now.items ++ text)
    (sym (games_more w n (take n games) (take (n + 1) games) game more many))
