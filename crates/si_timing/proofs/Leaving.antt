-- The text leaves no loop.
use Rattle.std.proofs.Common.{ℕ, List}
use Rattle.si_base.specs.Netlist.{Netlist}
use Rattle.si_genlib.specs.Ports.{PortedLibrary}
use Rattle.si_timing.specs.Meaning.{IsOver, LeavesNoLoop}
use Rattle.si_timing.specs.TimingText.{IsTimingText, disabled_arcs, timing_text}
use Rattle.si_timing.proofs.NoLoops.{closes_loop, no_loop}

pub leaves_no_loop : (library : PortedLibrary) (n : Netlist) (text : List ℕ) → IsOver library n
    → IsTimingText library n text → LeavesNoLoop library n text
unfolding timing_text
leaves_no_loop library n text over is = record {
  arcs = disabled_arcs library n is.cut;
  spelled = is.text_is;
  no_loop = no_loop library n is.kept is.cut over is.split;
  needed = closes_loop library n is.kept is.cut over is.split;
}
