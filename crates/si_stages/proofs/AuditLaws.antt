-- What is written for a graph passes the audit for that graph: its lineage certifies it.
use Rattle.std.proofs.Common.{◌≡◌, ℕ, List, None, Ok, refl, sym, ap, subst, ◌∙◌}
use Rattle.si_audit.specs.Audit.{Certifies, TakesAll}
use Rattle.si_audit.specs.Laws.{CanBeAudited}
use Rattle.si_audit.proofs.AuditBuiltLineages.{built_are_certified}
use Rattle.si_audit.proofs.OneCertificate.{one_certificate}
use Rattle.si_base.specs.Behaviour.{Implements}
use Rattle.si_base.specs.Codes.{CodedGraph}
use Rattle.si_base.specs.GivenGraph.{Sg}
use Rattle.si_base.specs.Netlist.{Netlist}
use Rattle.si_base.specs.NetlistText.{Version2, netlist_text}
use Rattle.si_base.specs.System.{IsFor}
use Rattle.si_base.specs.WellFormed.{IsNetlist}
use Rattle.si_cell.specs.Library.{Library}
use Rattle.si_circuit.specs.Cells.{cell_gate}
use Rattle.si_circuit.specs.Gates.{gate_of}
use Rattle.si_circuit.specs.Spelling.{insertions_of}
use Rattle.si_circuit.specs.declared.style.Style.{Style}
use Rattle.si_insert.specs.Lineage.{History, IsLineage, given_history}
use Rattle.si_inserted.specs.Current.{current_sg}
use Rattle.si_netlist_reader.specs.NetlistFault.{netlist_fault}
use Rattle.si_netlist_reader.specs.NetlistValue.{netlist_of}
use Rattle.si_netlist_reader.proofs.WriteLaw.{written_reads}
use Rattle.si_readings.specs.Readings.{AuditReadings}
use Rattle.si_refusals.specs.Stages.{Passes}
use Rattle.si_sg.specs.CanonicalText.{sg_text}
use Rattle.si_sg.specs.GivenGraph.{IsGivenBy}
use Rattle.si_stages.specs.Inserted.{insert}
use Rattle.si_stages.specs.InsertedLaws.{MappedAreInserted, SynthesisedAreInserted}
use Rattle.si_stages.specs.AuditLaws.{IsCertifiedBy, MappedPass, SynthesisedPass}
use Rattle.si_stages.specs.Audited.{IsCertified, audit_text}
use Rattle.si_readings.specs.Checks.{IsSound}
use Rattle.si_stages.specs.Mapping.{IsMapping}
use Rattle.si_stages.specs.Resolving.{resolution}
use Rattle.si_stages.specs.Synthesis.{IsSynthesis}
use Rattle.si_stages.specs.Written.{IsWritten}
use Rattle.si_stages.proofs.AuditLemmas.{can_be_audited, certified_output}
use Rattle.si_stages.proofs.GivenLineages.{given_lineage}
use Rattle.si_stages.proofs.MappingLemmas.{mapped_lineage}
use Rattle.si_readings.proofs.ReadingLemmas.{mapping_readings_are}
use Rattle.si_stages.proofs.ResolutionLemmas.{resolution_is}
use Rattle.si_readings.proofs.StageLemmas.{passed}
use Rattle.si_stages.proofs.WrittenLemmas.{has_insertions}

pub reads_back : (n : Netlist) → IsNetlist n
    → (netlist_fault (netlist_text n) ≡ None) × (netlist_of (netlist_text n) ≡ n)
unfolding netlist_text
reads_back n is = (let read = written_reads Version2 n is is.few in (read.1, read.2))

-- the output was written for the graph that the text gives, over the lineage, with its insertions
record IsWrittenOver (text output : List ℕ) (sg : Sg) (l : History) : Type 0 where
  is_given : IsGivenBy text sg
  sound : IsSound sg.graph l.given
  line : IsLineage l.given l.trace l.current
  written : IsWritten sg l output
  inserts : written.netlist.inserts ≡ insertions_of sg.states l

-- a lineage of the given graph certifies the netlist that is written over it
module _ (text output : List ℕ) (sg : Sg) (l : History) (over : IsWrittenOver text output sg l) where
  abbrev w : IsWritten sg l output
  w = over.written

  read : netlist_of output ≡ w.netlist
  read = ap netlist_of w.text_is ∙ (reads_back w.netlist w.is_netlist).1

  certifies : Certifies sg.states l.given w.netlist l
  certifies = built_are_certified sg.states l w.netlist over.line w.circuit.built over.inserts

  is_certified : IsCertified text output (audit_text l (netlist_of output))
  is_certified =
      let back : w.netlist ≡ netlist_of output = sym read in
      record {
        given = sg;
        is_given = over.is_given;
        no_fault = ap netlist_fault w.text_is ∙ (reads_back w.netlist w.is_netlist).0;
        coded = l.given;
        sound = over.sound;
        is_for = subst (λ (n : Netlist). IsFor l.given n) back w.is_for;
        lineage = l;
        certifies = subst (λ (n : Netlist). Certifies sg.states l.given n l) back certifies;
        implements = subst (λ (n : Netlist). Implements n sg.graph) back w.implements;
        output_is = refl;
      }

  -- its insertions make the text of the lineage's current graph
  inserts_again : (g n : List ℕ) → insert g text n output (Ok (sg_text (current_sg sg.model sg.states l)))
  inserts_again g n =
      let circuit : Netlist = netlist_of output in
      let back : w.netlist ≡ circuit = sym read in
      let fits = subst (λ (m : Netlist). IsFor l.given m) back w.is_for in
      let all = subst (λ (m : Netlist). TakesAll sg.states (given_history l.given) m.inserts l) back certifies.taken in
      let readings : AuditReadings = record { given = sg; netlist = circuit } in
      let reads = Passes sg over.is_given (Passes circuit (is_certified.no_fault, refl) refl) in
      Passes readings reads (Passes l.given over.sound (Passes tt fits (Passes l all refl)))

  -- and no other does
  can : CanBeAudited sg.states l.given (netlist_of output)
  unfolding is_certified
  can = can_be_audited text output sg l.given over.is_given is_certified.no_fault over.sound is_certified.is_for

  certified_by : IsCertifiedBy text output sg l
  unfolding is_certified
  certified_by = record {
    is_given = over.is_given;
    certifies = is_certified.certifies;
    alone = λ m other. one_certificate sg.states l.given (netlist_of output) m l can other is_certified.certifies;
    passes = λ g n. certified_output g text n output (audit_text l (netlist_of output)) is_certified;
  }

-- ---- what is synthesised, and what a graph is mapped to

over_synthesis : (style : Style) (text output : List ℕ) (sg : Sg) (l : History) → IsGivenBy text sg
    → resolution sg.graph sg.states (Ok l) → IsSynthesis style sg l output → IsWrittenOver text output sg l
over_synthesis style text output sg l given resolved s =
    let is = resolution_is sg.graph sg.states l resolved in
    record {
      is_given = given;
      sound = is.sound;
      line = (given_lineage text sg l given is).line;
      written = s.written;
      inserts = ap (λ (n : Netlist). n.inserts) s.gates_are
          ∙ has_insertions (gate_of style l.current.coded) sg l;
    }

over_mapping : (library : Library) (text output : List ℕ) (sg : Sg) (l : History) → IsGivenBy text sg
    → resolution sg.graph sg.states (Ok l) → (s : IsMapping library sg l output)
    → IsWrittenOver text output sg s.lineage
over_mapping library text output sg l given resolved s =
    let is = resolution_is sg.graph sg.states l resolved in
    let m = s.lineage in
    let first = given_lineage text sg l given is in
    record {
      is_given = given;
      sound = subst (λ (c : CodedGraph). IsSound sg.graph c) (sym s.maps.goes.given_stays) is.sound;
      line = (mapped_lineage library sg l m s.maps.trace first s.maps.goes s.maps.maps.goes).line;
      written = s.written;
      inserts = ap (λ (n : Netlist). n.inserts) s.gates_are
          ∙ has_insertions (cell_gate m.current.coded library) sg m;
    }

-- ---- both pass
pub synthesised_pass : SynthesisedPass
synthesised_pass style file text output made =
    let given = passed _ _ output made in
    let resolved = passed _ _ output given.2 in
    let over = over_synthesis style text output given.0 resolved.0 given.1 resolved.1 resolved.2 in
    record {
      given = given.0;
      lineage = resolved.0;
      resolves = resolved.1;
      made = resolved.2;
      certified = certified_by text output given.0 resolved.0 over;
    }

pub mapped_pass : MappedPass
mapped_pass format file text library cells output made =
    let read = passed _ _ output made in
    let given = (mapping_readings_are format file text library cells read.0 read.1).given in
    let resolved = passed _ _ output read.2 in
    let over = over_mapping read.0.library text output read.0.given resolved.0 given resolved.1 resolved.2 in
    record {
      given = read.0.given;
      library = read.0.library;
      resolved = resolved.0;
      resolves = resolved.1;
      made = resolved.2;
      certified = certified_by text output read.0.given resolved.2.lineage over;
    }

-- ---- and their insertions can be taken
pub synthesised_inserted : SynthesisedAreInserted
synthesised_inserted style file text output made =
    let given = passed _ _ output made in
    let resolved = passed _ _ output given.2 in
    let sg = given.0 in
    let l = resolved.0 in
    let over = over_synthesis style text output sg l given.1 resolved.1 resolved.2 in (
      sg_text (current_sg sg.model sg.states l),
      Passes sg given.1 (Passes l resolved.1 refl),
      inserts_again text output sg l over,
    )

pub mapped_inserted : MappedAreInserted
mapped_inserted format file text library cells output made =
    let read = passed _ _ output made in
    let given = (mapping_readings_are format file text library cells read.0 read.1).given in
    let resolved = passed _ _ output read.2 in
    let sg = read.0.given in
    let m = resolved.2.lineage in
    let over = over_mapping read.0.library text output sg resolved.0 given resolved.1 resolved.2 in (
      sg_text (current_sg sg.model sg.states m),
      inserts_again text output sg m over,
    )
