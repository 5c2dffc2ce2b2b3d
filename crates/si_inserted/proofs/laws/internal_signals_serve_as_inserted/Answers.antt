use Rattle.si_inserted.proofs.InternalGraphGates.{same_netlist}
use Rattle.si_inserted.proofs.InternalGraphLemmas.{internal_is_coded, internal_is_distinct, internal_is_proper}
use Rattle.si_inserted.proofs.laws.internal_signals_serve_as_inserted.Goals as goal

pub returns : goal.returns
returns c = record {
  proper = λ g coded proper. (internal_is_coded g coded, internal_is_proper g.graph proper);
  distinct = internal_is_distinct;
  gates = same_netlist;
}
