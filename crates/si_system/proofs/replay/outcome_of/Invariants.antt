use Rattle.std.proofs.Common.{◌≡◌, take, IsSome}
use Rattle.si_system.specs.Outcome.{Passes}
use Rattle.si_system.proofs.replay.outcome_of.Given as goal

abbrev pub invariant-loop-k : goal.invariant-loop-k
invariant-loop-k l = record {
  coded : l.system.coded ≡ l.fn.system.coded;
  netlist : l.system.netlist ≡ l.fn.system.netlist;
  place : IsSome l.system.state.place;
  passes : Passes l.fn.system.coded.graph l.fn.system.netlist l.fn.system.state (take l.k l.schedule.items)
      l.system.state;
}
