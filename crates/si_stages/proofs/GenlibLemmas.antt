-- A text of genlib comes to one answer: its library, or its first fault; and mapping to it is mapping to that library.
use Rattle.std.proofs.Common.{◌≡◌, ℕ, List, None, Ok, refl, sym, ap, ◌∙◌}
use Rattle.si_cell.specs.Library.{with_pins}
use Rattle.si_cell.specs.LibraryText.{library_fault, library_of}
use Rattle.si_cell.specs.declared.pins.Pins.{Pins}
use Rattle.si_cell.specs.declared.pins.Pins.TheVariants.{Any}
use Rattle.si_genlib.specs.GenlibText.{genlib_fault}
use Rattle.si_genlib.specs.GenlibText as gates
use Rattle.si_genlib.specs.Written.{library_text}
use Rattle.si_genlib.proofs.LibraryLemmas.{is_library}
use Rattle.si_genlib.proofs.WrittenLaw.{text_reads_back}
use Rattle.si_refusals.specs.Refusal.{TextRefusal}
use Rattle.si_refusals.specs.Stages.{Stage, Then, Refuses, Passes}
use Rattle.si_stages.specs.Genlib.{IsItsLibrary, genlib}
use Rattle.si_readings.specs.Laws.{AtMostOne, HasResult}
use Rattle.si_stages.specs.Meaning.{mapping}
use Rattle.si_readings.specs.Readings.{MappingReadings, library_from, mapping_readings}
use Rattle.si_readings.specs.declared.library_format.LibraryFormat.TheVariants.{Own, Genlib}
use Rattle.si_readings.proofs.ReadingLemmas.{mapping_readings_are}
use Rattle.si_readings.proofs.SpelledOutputs.{one_answer, some_answer, output_is_written, written_is_output}

pub genlib_one : (file text : List ℕ) → AtMostOne (genlib file text)
genlib_one file text = one_answer file (genlib_fault text) (library_from (Genlib Any) text) library_text

pub genlib_some : (file text : List ℕ) → HasResult (genlib file text)
genlib_some file text = some_answer file (genlib_fault text) (library_from (Genlib Any) text) library_text

-- ---- an output is the library that the text spells

-- its pins may have any literals
any_pins : (text : List ℕ) → library_from (Genlib Any) text ≡ gates.library_of text
unfolding gates.library_of
any_pins text = refl

is_its_library : (text output : List ℕ) → genlib_fault text ≡ None → output ≡ library_text (gates.library_of text)
    → IsItsLibrary text output
is_its_library text output sound is =
    let back = text_reads_back (gates.library_of text) (is_library text) in
    record {
      sound = sound;
      output_is = is;
      back_sound = ap library_fault is ∙ back.0;
      back = ap library_of is ∙ back.1 ∙ any_pins text;
    }

pub output_is_library : (file text output : List ℕ) → genlib file text (Ok output) → IsItsLibrary text output
output_is_library file text output is =
    let are = output_is_written file (genlib_fault text) (library_from (Genlib Any) text) library_text output is in
    is_its_library text output are.0 (are.1 ∙ ap library_text (any_pins text))

pub library_is_output : (file text output : List ℕ) → IsItsLibrary text output → genlib file text (Ok output)
library_is_output file text output is =
    written_is_output file (genlib_fault text) (library_from (Genlib Any) text) library_text output is.sound
    (is.output_is ∙ ap library_text (sym (any_pins text)))

-- ---- one library, read in either format

-- where the readings of one list of texts are those of another, what comes of them does too
other_readings : {B : Type 0} (one other : Stage TextRefusal MappingReadings)
    (next : MappingReadings → Stage TextRefusal B) (output : B)
    → ((r : MappingReadings) → one (Ok r) → other (Ok r)) → Then TextRefusal MappingReadings B one next (Ok output)
    → Then TextRefusal MappingReadings B other next (Ok output)
other_readings one other next output same (Refuses r refused is) = cc
other_readings one other next output same (Passes readings read then) = Passes readings (same readings read) then

readings_from : (pins : Pins) (g a n b m written : List ℕ) (made : IsItsLibrary b written) (r : MappingReadings)
    → mapping_readings (Genlib pins) g a n b (Ok r) → mapping_readings (Own pins) g a m written (Ok r)
readings_from pins g a n b m written made r read =
    let are = mapping_readings_are (Genlib pins) g a n b r read in
    let library : r.library ≡ library_from (Own pins) written = are.library ∙ ap (with_pins pins) (sym made.back) in
    Passes r.given are.given (Passes r.library (made.back_sound, library) refl)

readings_back : (pins : Pins) (g a n b m written : List ℕ) (made : IsItsLibrary b written) (r : MappingReadings)
    → mapping_readings (Own pins) g a m written (Ok r) → mapping_readings (Genlib pins) g a n b (Ok r)
readings_back pins g a n b m written made r read =
    let are = mapping_readings_are (Own pins) g a m written r read in
    let library : r.library ≡ library_from (Genlib pins) b = are.library ∙ ap (with_pins pins) made.back in
    Passes r.given are.given (Passes r.library (made.sound, library) refl)

pub gates_serve_cells : (pins : Pins) (g a n b m written output : List ℕ) → genlib n b (Ok written)
    → mapping (Genlib pins) g a n b (Ok output) → mapping (Own pins) g a m written (Ok output)
gates_serve_cells pins g a n b m written output made mapped =
    other_readings _ _ _ output (readings_from pins g a n b m written (output_is_library n b written made)) mapped

pub cells_serve_gates : (pins : Pins) (g a n b m written output : List ℕ) → genlib n b (Ok written)
    → mapping (Own pins) g a m written (Ok output) → mapping (Genlib pins) g a n b (Ok output)
cells_serve_gates pins g a n b m written output made mapped =
    other_readings _ _ _ output (readings_back pins g a n b m written (output_is_library n b written made)) mapped
