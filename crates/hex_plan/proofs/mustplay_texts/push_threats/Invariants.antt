use Rattle.std.proofs.Common.{◌≡◌, ◌++◌, drop}
use Rattle.std.specs.List.{flat_map}
use Rattle.hex_plan.specs.TurnTexts.{threat_line}
use Rattle.hex_plan.proofs.mustplay_texts.push_threats.Given as goal

abbrev pub invariant-threats : goal.invariant-threats
invariant-threats l
    = l.text.items ++ flat_map (threat_line l.size)
    (drop l.threat-index l.threats) ≡ l.fn.text.items ++ flat_map (threat_line l.size) l.threats
