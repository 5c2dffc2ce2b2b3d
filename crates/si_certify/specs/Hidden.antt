-- (field) A netlist whose signals behind those of a graph are hidden ones.
use Rattle.std.specs.Prelude.{ℕ, List, [], ◌∷◌, ◌++◌, map, flat_map, take, drop, codes}
use Rattle.std.specs.Prelude.{if◌then◌else◌}
use Rattle.si_base.specs.declared.graph.SigKind.{SigKind}
use Rattle.si_base.specs.declared.graph.SigKind.TheVariants.{Input, Output, Internal, Inserted}
use Rattle.si_base.specs.declared.graph.Signal.{Signal}
use Rattle.si_base.specs.Netlist.{Insertion, Netlist}
use Rattle.si_base.specs.System.{is_inserted}

-- an internal signal that the graph doesn't have counts as an inserted one
abbrev pub hidden_kind : SigKind → SigKind
hidden_kind Input = Input
hidden_kind Output = Output
hidden_kind Internal = Inserted
hidden_kind Inserted = Inserted

abbrev pub hidden_signal : Signal → Signal
hidden_signal x = record { name = x.name; kind = hidden_kind x.kind }

-- the signals, of which so many in front are the graph's
abbrev pub hide : ℕ → List Signal → List Signal
hide given signals = take given signals ++ map hidden_signal (drop given signals)

-- an insertion of which it isn't said where the signal rises and falls
abbrev pub unknown : List ℕ → Insertion
unknown name = record { name = name; up = codes "?" ∷ []; down = codes "?" ∷ [] }

abbrev pub unknown_of : Signal → List Insertion
unknown_of x = if is_inserted x.kind then unknown x.name ∷ [] else []

-- the netlist with those signals hidden, whatever its lines of insertions say
abbrev pub hiding : ℕ → Netlist → Netlist
hiding given n = record {
  model = n.model;
  signals = hide given n.signals;
  start = n.start;
  inserts = flat_map unknown_of (hide given n.signals);
  gates = n.gates;
}
