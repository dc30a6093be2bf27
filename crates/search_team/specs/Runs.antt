-- A run of a walker over its view. No clause of a public call cites this.
use Rattle.std.specs.Prelude.{◌≡◌, ◌<◌, ◌≤◌, None}
use Rattle.arena_rule.specs.Views.{SeatView}
use Rattle.walker.specs.Belongs.{Belongs}
use Rattle.walker.specs.declared.machine.Walker.{Walker}
use Rattle.search_team.specs.WorkLeft.{work_left}

-- The walker w over its view v has made some steps, or none, and is `later` over `view`: these
-- belong together, and leave it no more to do; and a view without a copy of the words has none
-- later.
pub record HasRun (w : Walker) (v : SeatView) (later : Walker) (view : SeatView) : Type 0 where
  pub belongs : Belongs later view
  pub left : work_left later view ≤ work_left w v
  pub lone : v.whole ≡ None → view.whole ≡ None

-- and the steps are some: they leave it less to do
pub record HasGone (w : Walker) (v : SeatView) (later : Walker) (view : SeatView) : Type 0 where
  pub run : HasRun w v later view
  pub fewer : work_left later view < work_left w v
