-- (law) The laws of netlists whose insertions their gates tell, one word each.
use Rattle.std.specs.Prelude.{◌≡◌, ℕ, List, length, Ok, None}
use Rattle.si_base.specs.Codes.{CodedGraph}
use Rattle.si_base.specs.GivenGraph.{Sg}
use Rattle.si_base.specs.NetlistText.{netlist_text}
use Rattle.si_base.specs.Netlist.{Netlist}
use Rattle.si_certified.specs.Bare.{with_lines}
use Rattle.si_circuit.specs.Spelling.{insertions_of}
use Rattle.si_found.specs.Found.{Fits}
use Rattle.si_insert.specs.Lineage.{History}
use Rattle.si_netlist_reader.specs.NetlistFault.{netlist_fault}
use Rattle.si_netlist_reader.specs.NetlistValue.{netlist_of}
use Rattle.si_readings.specs.Checks.{IsSound}
use Rattle.si_sg.specs.GivenGraph.{IsGivenBy}
use Rattle.si_stages.specs.AuditLaws.{IsCertifiedBy}
use Rattle.si_stages.specs.Meaning.{audit}
use Rattle.si_base.specs.System.{IsFor}
use Rattle.si_certify.specs.Certify.{certify}
use Rattle.si_certify.specs.Hidden.{hiding}

-- the netlist of a text, with its further signals hidden, for a graph of so many signals
abbrev pub hidden_netlist : ℕ → (netlist : List ℕ) → Netlist
hidden_netlist given netlist = hiding given (netlist_of netlist)

-- the output is the text of the netlist with the lines of the lineage that fits it, and the lineage
-- certifies that text
pub record IsCertifiedText (text netlist output : List ℕ) : Type 0 where
  pub no_fault : netlist_fault netlist ≡ None
  pub given : Sg
  pub lineage : History
  pub output_is : output ≡ netlist_text (with_lines (insertions_of given.states lineage)
      (hidden_netlist (length given.graph.signals) netlist))
  pub certified : IsCertifiedBy text output given lineage

-- such is what `certify` comes to: it passes its audit
abbrev pub CertifiedTextsPass : Type 0
CertifiedTextsPass = (file text netlist_file netlist output : List ℕ)
    → certify file text netlist_file netlist (Ok output) → IsCertifiedText text netlist output

-- where a lineage fits, its lines are written
abbrev pub FittingAreWritten : Type 0
FittingAreWritten = (file text netlist_file netlist : List ℕ) (given : Sg) (coded : CodedGraph)
    (lineage : History) → IsGivenBy text given → netlist_fault netlist ≡ None
    → IsSound given.graph coded → IsFor coded (hidden_netlist (length given.graph.signals) netlist)
    → Fits coded (hidden_netlist (length given.graph.signals) netlist) lineage
    → certify file text netlist_file netlist (Ok (netlist_text
    (with_lines (insertions_of given.states lineage)
    (hidden_netlist (length given.graph.signals) netlist))))

-- a netlist that passes its audit comes back with the lines that spell its lineage, whatever its
-- own lines were
abbrev pub AuditedComeBack : Type 0
AuditedComeBack = (file text netlist_file netlist output : List ℕ)
    → audit file text netlist_file netlist (Ok output)
    → certify file text netlist_file netlist (Ok (netlist_text (netlist_of netlist)))
