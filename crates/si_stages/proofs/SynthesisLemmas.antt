-- Synthesis as a stage: what it gives is the netlist of a style for the given graph, and it has one result.
use Rattle.std.proofs.Common.{◌≡◌, ℕ, List, refl, sym, ap, ◌∙◌}
use Rattle.si_base.specs.GivenGraph.{Sg}
use Rattle.si_base.specs.Netlist.{Netlist}
use Rattle.si_base.specs.NetlistText.{netlist_text}
use Rattle.si_circuit.specs.declared.style.Style.{Style}
use Rattle.si_circuit.specs.Circuits.{circuit_of}
use Rattle.si_circuit.specs.Gates.{gate_of}
use Rattle.si_circuit.specs.Spelling.{insertions_of}
use Rattle.si_circuit.proofs.GateLemmas.{chosen_is_netlist}
use Rattle.si_circuit.proofs.CoveredGates.{chosen_are_prime, chosen_give}
use Rattle.si_insert.specs.Lineage.{History, given_current}
use Rattle.si_insert.proofs.InsertionKeeps.{keeps}
use Rattle.si_sg.specs.GivenGraph.{IsGivenBy}
use Rattle.si_readings.specs.Laws.{AtMostOne, HasResult}
use Rattle.si_stages.specs.Synthesis.{IsSynthesis, synthesis}
use Rattle.si_stages.proofs.GivenLineages.{given_lineage}
use Rattle.si_stages.proofs.ResolutionLemmas.{IsResolution}
use Rattle.si_stages.proofs.ResolvingLemmas.{none_needed}
use Rattle.si_readings.proofs.StageLemmas.{shows_one, shows_some}
use Rattle.si_stages.proofs.WrittenLemmas.{is_written, no_insertion}

pub is_synthesis : (style : Style) (text : List ℕ) (sg : Sg) (l : History) (output : List ℕ) → IsGivenBy text sg
    → IsResolution sg.graph l → output ≡ netlist_text (circuit_of style sg.model sg.states l)
    → IsSynthesis style sg l output
is_synthesis style text sg l output given is output_is =
    let c = l.current.coded in
    let gate = gate_of style c in
    let inserts = insertions_of sg.states l in
    let line = given_lineage text sg l given is in
    let coded = (keeps l.given l.trace l.current line.line).coded in
    let done = is.resolves.done in
    let gives = chosen_give style c sg.model inserts coded done in
    let forms = chosen_is_netlist style c sg.model inserts coded line.spelled in
    record {
      written = is_written gate sg l output line gives forms output_is;
      gates_are = refl;
      prime = chosen_are_prime style c sg.model inserts coded done;
      none_inserted = λ free.
          no_insertion gate sg l (none_needed (given_current l.given) l.trace l.current free is.resolves.goes);
    }

same_output : (style : Style) (sg : Sg) (l : History) (a b : List ℕ) → IsSynthesis style sg l a
    → IsSynthesis style sg l b → a ≡ b
same_output style sg l a b one other =
    one.written.text_is ∙ ap (λ (n : Netlist). netlist_text n) (one.gates_are ∙ sym other.gates_are)
    ∙ sym other.written.text_is

pub synthesis_one : (style : Style) (sg : Sg) (l : History) → AtMostOne (synthesis style sg l)
synthesis_one style sg l = shows_one (IsSynthesis style sg l) (same_output style sg l)

pub synthesis_some : (style : Style) (text : List ℕ) (sg : Sg) (l : History) → IsGivenBy text sg
    → IsResolution sg.graph l → HasResult (synthesis style sg l)
synthesis_some style text sg l given is =
    shows_some (IsSynthesis style sg l) (_, is_synthesis style text sg l _ given is refl)
