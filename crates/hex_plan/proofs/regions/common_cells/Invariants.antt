use Rattle.std.proofs.Common.{◌≡◌, ◌<◌, ◌↔◌, ℕ, true, get_or}
use Rattle.hex_cells.specs.Sets.{has}
use Rattle.hex_board.specs.Positions.{is_empty_at}
use Rattle.hex_plan.specs.declared.threats.Threat.{Threat}
use Rattle.hex_plan.proofs.regions.common_cells.Given as goal

abbrev pub invariant-threats : goal.invariant-threats
invariant-threats l = (k : ℕ) → (has l.cells k ≡ true)
    ↔ ((is_empty_at l.fn.board k ≡ true) × ((j : ℕ) (d : Threat) → j < l.threat-index → has (get_or l.fn.threats j d).carrier k ≡ true))
