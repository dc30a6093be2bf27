use Rattle.std.proofs.Common.{◌≡◌, ◌+◌, ◌++◌, ◌∷◌, ◌∙◌, true, [], take, drop, ap, sym, subst}
use Rattle.std.proofs.Common.{append_assoc, arith}
use Rattle.std.proofs.lemmas.Grind.{common_steps}
use Rattle.std.proofs.lemmas.List.{take-append-drop}
use Rattle.hex_game.specs.Games.{GameData, is_legal}
use Rattle.match_ref.proofs.records.game_again.Goals as goal

pub take_step-requires : goal.take_step-requires
take_step-requires c =
    let steps = c.args.played.now.steps in
    let i = c.loop-step.step-index in
    let step = c.step-item.result in
    let more : take (i + 1) steps ≡ take i steps ++ step ∷ [] = grind (arith, common_steps) in
    let all : take i steps ++ step ∷ drop (i + 1) steps ≡ steps =
    sym (append_assoc (take i steps) (step ∷ []) (drop (i + 1) steps))
    ∙ ap (λ front. front ++ drop (i + 1) steps) (sym more) ∙ take-append-drop (i + 1) steps in
    subst (λ (g : GameData). is_legal g step ≡ true) (sym c.loop-step.invariant)
    (c.requires (take i steps) step (drop (i + 1) steps) all)
