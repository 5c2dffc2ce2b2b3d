-- (law) What laws say of waves.
use Rattle.std.specs.Prelude.{◌≡◌, ℕ, ◌<◌, ◌≤◌, List, None, length, take}
use Rattle.si_base.specs.declared.ids.Event.{Event}
use Rattle.si_base.specs.Bits.{bit}
use Rattle.si_base.specs.GivenGraph.{Sg}
use Rattle.si_base.specs.Graph.{StateGraph, names_in}
use Rattle.si_base.specs.Netlist.{Netlist}
use Rattle.si_base.specs.System.{State, Runs, start}
use Rattle.si_netlist_reader.specs.NetlistFault.{netlist_fault}
use Rattle.si_netlist_reader.specs.NetlistValue.{netlist_of}
use Rattle.si_sg.specs.GivenGraph.{IsGivenBy}
use Rattle.si_system.specs.ScheduleText.{schedule_fault, schedule_of}
use Rattle.si_wave.specs.Reading.{shown_value}
use Rattle.si_wave.specs.Wave.{wave_of, wave_text, wire_code}

-- the output is the wave of the events; and at each time up to the last of them, the system of the
-- graph and the netlist has run so many events from its start, to the values that are shown
pub record ShowsRun (graph : StateGraph) (netlist : Netlist) (events : List Event)
    (output : List ℕ) : Type 0 where
  pub output_is : output ≡ wave_text netlist events
  pub shows : (time : ℕ) → time ≤ length events → (x : State)
      × Runs graph netlist (start graph netlist) (take time events) x
      × ((sig : ℕ) → sig < length netlist.signals
      → shown_value (wave_of netlist events) time (wire_code sig) ≡ bit x.values sig)

-- the same of the graph, the netlist and the schedule that texts give
pub record ShowsReplay (graph netlist schedule output : List ℕ) : Type 0 where
  pub given : Sg
  pub is_given : IsGivenBy graph given
  pub no_fault : netlist_fault netlist ≡ None
  pub sound : schedule_fault (names_in (netlist_of netlist).signals) schedule ≡ None
  pub run : ShowsRun given.graph (netlist_of netlist)
      (schedule_of (names_in (netlist_of netlist).signals) schedule) output
