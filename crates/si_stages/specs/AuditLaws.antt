-- (law) What laws say of audits of netlists that are written.
use Rattle.std.specs.Prelude.{◌≡◌, ℕ, List, Ok}
use Rattle.si_audit.specs.Audit.{Certifies}
use Rattle.si_base.specs.GivenGraph.{Sg}
use Rattle.si_cell.specs.Library.{Library}
use Rattle.si_circuit.specs.declared.style.Style.{Style}
use Rattle.si_insert.specs.Lineage.{History}
use Rattle.si_netlist_reader.specs.NetlistValue.{netlist_of}
use Rattle.si_readings.specs.declared.library_format.LibraryFormat.{LibraryFormat}
use Rattle.si_sg.specs.GivenGraph.{IsGivenBy}
use Rattle.si_stages.specs.Audited.{audit_text}
use Rattle.si_stages.specs.Mapping.{IsMapping}
use Rattle.si_stages.specs.Meaning.{audit, mapping, synth}
use Rattle.si_stages.specs.Resolving.{resolution}
use Rattle.si_stages.specs.Synthesis.{IsSynthesis}

-- the lineage certifies the netlist of the one text for the graph that the other gives, and no
-- other does: their audit comes to the output that tells of it, whatever the names of their files
pub record IsCertifiedBy (text netlist : List ℕ) (given : Sg) (l : History) : Type 0 where
  pub is_given : IsGivenBy text given
  pub certifies : Certifies given.states l.given (netlist_of netlist) l
  pub alone : (m : History) → Certifies given.states l.given (netlist_of netlist) m → m ≡ l
  pub passes : (file netlist_file : List ℕ)
      → audit file text netlist_file netlist (Ok (audit_text l (netlist_of netlist)))

-- the output is synthesised for the graph of the text over a lineage, which certifies it
pub record IsCertifiedSynthesis (style : Style) (text output : List ℕ) : Type 0 where
  pub given : Sg
  pub lineage : History
  pub resolves : resolution given.graph given.states (Ok lineage)
  pub made : IsSynthesis style given lineage output
  pub certified : IsCertifiedBy text output given lineage

-- such is what is synthesised for a graph: it passes its audit
abbrev pub SynthesisedPass : Type 0
SynthesisedPass = (style : Style) (file text output : List ℕ) → synth style file text (Ok output)
    → IsCertifiedSynthesis style text output

-- the graph of the text is mapped to the output: the lineage over which it is written certifies it
pub record IsCertifiedMapping (text output : List ℕ) : Type 0 where
  pub given : Sg
  pub library : Library
  pub resolved : History
  pub resolves : resolution given.graph given.states (Ok resolved)
  pub made : IsMapping library given resolved output
  pub certified : IsCertifiedBy text output given made.lineage

-- and so does what a graph is mapped to
abbrev pub MappedPass : Type 0
MappedPass = (format : LibraryFormat) (file text library cells output : List ℕ)
    → mapping format file text library cells (Ok output) → IsCertifiedMapping text output
