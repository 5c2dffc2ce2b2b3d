-- (command) One netlist of all gates of netlists that are certified each for its own graph, for the
-- graph of all the graphs side by side.
use Rattle.std.specs.Prelude.{ℕ, List, [], map}
use Rattle.si_base.specs.Codes.{CodedGraph}
use Rattle.si_base.specs.GivenGraph.{Sg}
use Rattle.si_base.specs.Netlist.{Netlist}
use Rattle.si_base.specs.NetlistText.{netlist_text}
use Rattle.si_insert.specs.Lineage.{given_history}
use Rattle.si_joins.specs.Gates.{joined_netlist}
use Rattle.si_joins.specs.Steps.{with_parts}
use Rattle.si_readings.specs.Checks.{proper}
use Rattle.si_refusals.specs.Refusal.{TextRefusal}
use Rattle.si_refusals.specs.Stages.{Stage, ◌>>=◌, gives}
use Rattle.si_sg.specs.CanonicalText.{sg_text}
use Rattle.si_stages.specs.Meaning.{audit}
use Rattle.si_systems.specs.Compose.{ComposedSg, composed}
use Rattle.si_works.specs.Audited.{audited_parts}
use Rattle.si_works.specs.Works.{graphs}

-- the text of a netlist that passes its audit for the graph of the other text
abbrev pub passing : (graph netlist : List ℕ) → Stage TextRefusal (List ℕ)
passing graph netlist = do
  _ ← audit [] graph [] netlist
  gives netlist

-- the netlist of these netlists for given graphs, whose composed graph has these codes, where all
-- their insertions are insertions of it
abbrev pub joined_over : List Sg → List Netlist → ComposedSg → CodedGraph
    → Stage TextRefusal (List ℕ)
joined_over given netlists whole coded = do
  lineage ← with_parts whole.sg.states whole.tuples (given_history coded) given netlists
  passing (sg_text whole.sg)
      (netlist_text (joined_netlist whole.sg.model whole.sg.states netlists lineage))

-- the netlist of these netlists for the composed graph of given graphs, which have these codes
abbrev pub joined : List Sg → List CodedGraph → List Netlist → Stage TextRefusal (List ℕ)
joined given parts netlists = do
  whole ← composed given parts
  coded ← proper whole.sg.graph whole.sg.states
  joined_over given netlists whole coded

-- each two files with their texts: a graph, and a netlist for it
abbrev pub join : (files texts : List (List ℕ)) → Stage TextRefusal (List ℕ)
join files texts = do
  parts ← audited_parts files texts
  joined (map (λ p. p.given) parts) (graphs parts) (map (λ p. p.netlist) parts)
