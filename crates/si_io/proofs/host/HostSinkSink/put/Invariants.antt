use Rattle.std.proofs.Common.{◌≡◌, ℕ, List, ◌++◌, length}
use Rattle.std.specs.Io.KnownBytes.{Appends}
use Rattle.si_io.specs.Host.{AreWritten}
use Rattle.si_io.proofs.host.HostSinkSink.put.Given as goal

abbrev pub invariant-loop-rest : goal.invariant-loop-rest
invariant-loop-rest g l = record {
  faults : l.self.faults ≡ l.initial.self.faults;
  done : List ℕ;
  parts : l.initial.rest ≡ done ++ l.rest;
  written : Appends (g.W.Outlet.contents l.initial.self.writer) (g.W.Outlet.contents l.self.writer) done;
  counts : List ℕ;
  calls : AreWritten g.W.Outlet.writes counts l.initial.rest l.rest l.initial.self.writer l.self.writer;
}

abbrev pub decreases-loop-rest : goal.decreases-loop-rest
decreases-loop-rest g l = length l.rest
