-- (law) What laws say of joined netlists.
use Rattle.std.specs.Prelude.{ℕ, List, Ok, map}
use Rattle.si_base.specs.Behaviour.{Implements}
use Rattle.si_base.specs.GivenGraph.{Sg}
use Rattle.si_joins.specs.Join.{join}
use Rattle.si_netlist_reader.specs.NetlistValue.{netlist_of}
use Rattle.si_sg.specs.GivenGraph.{IsGivenBy}
use Rattle.si_stages.specs.Meaning.{audit}
use Rattle.si_systems.specs.Compose.{compose}
use Rattle.si_works.specs.System.{two_by_two}

-- the first of each two
abbrev pub graphs_among : List (List ℕ) → List (List ℕ)
graphs_among ws = map (λ p. p.0) (two_by_two ws)

-- the graphs of the files, composed, come to a text, for which the audit of the netlist comes to an
-- output, whatever the names of their files: so the netlist implements the composed graph
pub record PassesAudit (files texts : List (List ℕ)) (netlist : List ℕ) : Type 0 where
  pub composed : List ℕ
  pub composed_is : compose (graphs_among files) (graphs_among texts) (Ok composed)
  pub output : List ℕ
  pub passes : (graph_file netlist_file : List ℕ)
      → audit graph_file composed netlist_file netlist (Ok output)
  pub whole : Sg
  pub is_given : IsGivenBy composed whole
  pub implements : Implements (netlist_of netlist) whole.graph

-- such is what `join` comes to
abbrev pub JoinedPass : Type 0
JoinedPass = (files texts : List (List ℕ)) (netlist : List ℕ)
    → join files texts (Ok netlist) → PassesAudit files texts netlist
