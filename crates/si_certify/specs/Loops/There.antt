-- What a reason shows is there to be told.
use Rattle.std.specs.Prelude.{◌≡◌, ℕ, ◌<◌, ◌≤◌, List, length}
use Rattle.si_audit.specs.Loops.FaultSignals.{AreAmong}
use Rattle.si_audit.specs.Loops.Within.{IsWithin}
use Rattle.si_base.specs.declared.graph.Signal.{Signal}
use Rattle.si_finder.specs.declared.not_found.Difference.{Difference}
use Rattle.si_finder.specs.declared.not_found.Difference.TheVariants as differs
use Rattle.si_finder.specs.declared.not_found.NotFound.{NotFound}
use Rattle.si_finder.specs.declared.not_found.NotFound.TheVariants as none
use Rattle.si_finder.specs.declared.not_found.Obstacle.{Obstacle}
use Rattle.si_finder.specs.declared.not_found.Obstacle.TheVariants as obstacle
use Rattle.si_insert.specs.Lineage.{History}

-- the state is one of the lineage's current graph, and events are of these signals
abbrev pub ObstacleIsThere : List Signal → History → Obstacle → Type 0
ObstacleIsThere signals l obstacle.NeverUp = Unit {0}
ObstacleIsThere signals l obstacle.NeverDown = Unit {0}
ObstacleIsThere signals l (obstacle.Both s) = s < l.current.coded.graph.states
ObstacleIsThere signals l (obstacle.Classes s) = Unit {0}
ObstacleIsThere signals l (obstacle.Refused why) =
    IsWithin l.current.coded.graph why × AreAmong signals why

abbrev pub DifferenceIsThere : History → Difference → Type 0
DifferenceIsThere l (differs.Start sig) = Unit {0}
DifferenceIsThere l (differs.Gate sig s) = s < l.current.coded.graph.states

-- so many states have a name, and so many signals are the graph's
abbrev pub IsThere : (states given : ℕ) → List Signal → NotFound → Type 0
IsThere states given signals none.NoMemory = Unit {0}
IsThere states given signals none.TooMany = Unit {0}
IsThere states given signals (none.Astray at sig) =
    (at.state < states) × (given ≤ length signals)
IsThere states given signals (none.Hindered l why) =
    (states ≡ l.given.graph.states) × ObstacleIsThere signals l why
IsThere states given signals (none.Unbuilt l why) =
    (states ≡ l.given.graph.states) × DifferenceIsThere l why
