-- (command) Pairs of texts: a graph, and a netlist that is certified for it.
use Rattle.std.specs.Prelude.{◌≡◌, ℕ, List, zip, Ok, Err}
use Rattle.si_base.specs.Codes.{CodedGraph}
use Rattle.si_base.specs.GivenGraph.{Sg}
use Rattle.si_base.specs.Netlist.{Netlist}
use Rattle.si_readings.specs.Checks.{proper}
use Rattle.si_readings.specs.Readings.{audit_readings}
use Rattle.si_refusals.specs.Refusal.{TextRefusal, Rejected, Uncertified}
use Rattle.si_refusals.specs.Stages.{Stage, ◌>>=◌, gives, each}
use Rattle.si_stages.specs.Meaning.{audit}
use Rattle.si_works.specs.System.{two_by_two}

-- a given graph, the same with its codes, and a netlist for it
pub record AuditedPart : Type 0 where
  pub given : Sg
  pub coded : CodedGraph
  pub netlist : Netlist

-- a refusal of an audit, where it is one of several: that a netlist isn't certified is told with its
-- file
abbrev pub of_several : (netlist : List ℕ) → TextRefusal → TextRefusal
of_several netlist (Rejected reason) = Uncertified netlist reason
of_several netlist refusal = refusal

-- the netlist is certified for the graph
abbrev pub certified : (graph graph_text netlist netlist_text : List ℕ)
    → Stage TextRefusal (List ℕ)
certified graph graph_text netlist netlist_text (Ok output) =
    audit graph graph_text netlist netlist_text (Ok output)
certified graph graph_text netlist netlist_text (Err refusal) =
    (alone : TextRefusal) × audit graph graph_text netlist netlist_text (Err alone)
    × (refusal ≡ of_several netlist alone)

-- the part that two texts give
abbrev pub audited_part : (graph graph_text netlist netlist_text : List ℕ)
    → Stage TextRefusal AuditedPart
audited_part graph graph_text netlist netlist_text = do
  _ ← certified graph graph_text netlist netlist_text
  readings ← audit_readings graph graph_text netlist netlist_text
  coded ← proper readings.given.graph readings.given.states
  gives (record { given = readings.given; coded = coded; netlist = readings.netlist })

-- the parts that texts give, each two files with their texts
abbrev pub audited_parts : (files texts : List (List ℕ)) → Stage TextRefusal (List AuditedPart)
audited_parts files texts = each (λ p. audited_part p.0.0 p.1.0 p.0.1 p.1.1)
    (zip (two_by_two files) (two_by_two texts))
