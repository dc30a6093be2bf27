use Rattle.std.proofs.Common.{◌≡◌, ◌++◌, ◌∷◌, flat_map, take}
use Rattle.hex_engine.specs.Commands.{name_of}
use Rattle.hex_engine.proofs.commands.push_lines.Given as goal

abbrev pub invariant-loop-command : goal.invariant-loop-command
invariant-loop-command l = l.text.items ≡ l.initial.text.items
    ++ flat_map (λ c. 10 ∷ name_of c) (take l.command-index l.commands)
