-- The record of the game that was played again, and a line feed.
use Rattle.std.proofs.Common.{◌≡◌, ◌++◌, ℕ, List, ap, ◌∙◌, append_assoc}
use Rattle.std.specs.Prelude.{codes}
use Rattle.hex_game.specs.Games.{GameData}
use Rattle.sgf_game.specs.Record.{record_of}
use Rattle.sgf_tree.specs.Printing.{trees_print}
use Rattle.match_ref.specs.Matches.{game_with}
use Rattle.match_ref.proofs.records.push_record.Goals as goal

two_pieces : (old piece text middle new line : List ℕ) → piece ≡ text → middle ≡ old ++ piece
    → new ≡ middle ++ line → new ≡ old ++ (text ++ line)
two_pieces old piece text middle new line is first second =
    second ∙ (ap (λ xs. xs ++ line) (first ∙ ap (λ xs. old ++ xs) is) ∙ append_assoc old text line)

pub returns : goal.returns
returns c =
    let text : List ℕ
    = trees_print (record_of (game_with c.args.setup.now c.args.played.now.steps)) in
    let printed : c.in_ok-record.record ≡ text = c.in_ok-record.ensures.text
    ∙ ap (λ (game : GameData). trees_print (record_of game)) c.in_ok-game.ensures in
    two_pieces c.args.text.now.items c.as_slice.result.now text c.extend_from_slice.new.self.items
    c.extend_from_slice-2.new.self.items (codes "\n")
    (c.as_slice.ensures ∙ printed) c.in_ok-extend_from_slice.ensures.items
    c.in_ok-extend_from_slice-2.ensures.items
