-- How many start values are tried, computed.
use Rattle.std.proofs.Common.{◌≡◌, ℕ, List, [], ◌∷◌, codes, refl}
use Rattle.si_base.specs.declared.graph.SigKind.{SigKind}
use Rattle.si_base.specs.declared.graph.SigKind.TheVariants.{Input, Inserted}
use Rattle.si_base.specs.declared.graph.Signal.{Signal}
use Rattle.si_base.specs.Codes.{CodedGraph}
use Rattle.si_base.specs.Netlist.{Netlist}
use Rattle.si_certify_equations.specs.Starts.{started_on, starts}

abbrev signal : List ℕ → SigKind → Signal
signal name kind = record { name = name; kind = kind }

abbrev given : CodedGraph
given = record {
  graph = record { signals = signal (codes "r") Input ∷ []; states = 1; edges = []; start = 0 };
  codes = 1 ∷ [];
}

-- `r`, which starts with 1, and two hidden signals
abbrev three : Netlist
three = record {
  model = codes "m";
  signals = signal (codes "r") Input ∷ signal (codes "x") Inserted ∷ signal (codes "y") Inserted ∷ [];
  start = 1;
  inserts = [];
  gates = [];
}

four_starts : starts given three ≡ 4
four_starts = refl

-- with the number 2 the second hidden signal starts with 1
second_starts_with_1 : (started_on given three 2).start ≡ 5
second_starts_with_1 = refl
