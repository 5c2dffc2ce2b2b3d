-- The text of a netlist comes to one answer: its equations, or its first fault.
use Rattle.std.proofs.Common.{◌≡◌, ℕ, List, None, Ok, sym, subst}
use Rattle.si_equations.specs.Meaning.{MeansNetlist}
use Rattle.si_equations.specs.Written.{equations_text}
use Rattle.si_equations.proofs.MeansLemmas.{text_means}
use Rattle.si_netlist_reader.specs.NetlistFault.{netlist_fault}
use Rattle.si_netlist_reader.specs.NetlistValue.{netlist_of}
use Rattle.si_netlist_reader.proofs.ReadLaw.{read_is_netlist}
use Rattle.si_readings.specs.Laws.{AtMostOne, HasResult}
use Rattle.si_readings.proofs.SpelledOutputs.{one_answer, some_answer, output_is_written, written_is_output}
use Rattle.si_exports.specs.Equations.{AreItsEquations, equations}

pub equations_one : (file text : List ℕ) → AtMostOne (equations file text)
equations_one file text = one_answer file (netlist_fault text) (netlist_of text) equations_text

pub equations_some : (file text : List ℕ) → HasResult (equations file text)
equations_some file text = some_answer file (netlist_fault text) (netlist_of text) equations_text

-- ---- an output is the equations of the netlist that the text spells

are_its_equations : (text output : List ℕ) → netlist_fault text ≡ None → output ≡ equations_text (netlist_of text)
    → AreItsEquations text output
are_its_equations text output sound is = record {
  sound = sound;
  output_is = is;
  means = subst (λ (t : List ℕ). MeansNetlist t (netlist_of text)) (sym is)
      (text_means (netlist_of text) (read_is_netlist text sound));
}

pub output_is_equations : (file text output : List ℕ) → equations file text (Ok output)
    → AreItsEquations text output
output_is_equations file text output is =
    let are = output_is_written file (netlist_fault text) (netlist_of text) equations_text output is in
    are_its_equations text output are.0 are.1

pub equations_are_output : (file text output : List ℕ) → AreItsEquations text output
    → equations file text (Ok output)
equations_are_output file text output is =
    written_is_output file (netlist_fault text) (netlist_of text) equations_text output is.sound is.output_is
