use Rattle.si_cell.specs.declared.pins.Pins.TheVariants.{Any}
use Rattle.si_genlib.specs.GenlibText.{genlib_fault}
use Rattle.si_genlib.specs.Written.{library_text}
use Rattle.si_readings.specs.Readings.{library_from}
use Rattle.si_readings.specs.declared.library_format.LibraryFormat.TheVariants.{Genlib}
use Rattle.si_stages.proofs.GenlibLemmas.{output_is_library, library_is_output}
use Rattle.si_readings.proofs.SpelledOutputs.{refusal_is_fault, fault_is_refusal}
use Rattle.si_stages.proofs.genlib.genlib_texts_become_libraries.Goals as goal

pub returns : goal.returns
returns c = record {
  output = λ file text output. (output_is_library file text output, library_is_output file text output);
  refusal = λ file text refusal. (
    refusal_is_fault file (genlib_fault text) (library_from (Genlib Any) text) library_text refusal,
    fault_is_refusal file (genlib_fault text) (library_from (Genlib Any) text) library_text refusal,
  );
}
