use Rattle.std.proofs.Common.{◌≡◌, ◌++◌, map, length}
use Rattle.std.specs.Prelude.{flat_map}
use Rattle.si_base.specs.Faults.{first_in}
use Rattle.si_system.specs.ScheduleText.{line_fault, schedule_fault, schedule_of, words}
use Rattle.si_words.specs.Events.{event_of}
use Rattle.si_system.proofs.schedule.read_lines.Given as goal

abbrev pub invariant-loop-line : goal.invariant-loop-line
invariant-loop-line l = record {
  fault : first_in (line_fault l.names) l.lines ≡ schedule_fault l.names l.text;
  value : l.events.items ++ map (event_of l.names) (flat_map words l.lines) ≡ schedule_of l.names l.text;
}

abbrev pub decreases-loop-line : goal.decreases-loop-line
decreases-loop-line l = length l.lines
