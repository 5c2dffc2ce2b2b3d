-- (command) What `genlib` means over the text of its file: its library, in the tool's own format.
use Rattle.std.specs.Prelude.{◌≡◌, ℕ, List, None}
use Rattle.si_cell.specs.LibraryText.{library_fault, library_of}
use Rattle.si_cell.specs.declared.pins.Pins.TheVariants.{Any}
use Rattle.si_genlib.specs.GenlibText.{genlib_fault}
use Rattle.si_genlib.specs.GenlibText as gates
use Rattle.si_genlib.specs.Written.{library_text}
use Rattle.si_refusals.specs.Refusal.{TextRefusal}
use Rattle.si_refusals.specs.Stages.{Stage, ◌>>=◌, gives}
use Rattle.si_readings.specs.Readings.{library_in}
use Rattle.si_readings.specs.declared.library_format.LibraryFormat.TheVariants.{Genlib}

abbrev pub genlib : (file text : List ℕ) → Stage TextRefusal (List ℕ)
genlib file text = do
  cells ← library_in (Genlib Any) file text
  gives (library_text cells)

-- the text of gates has no fault, and the output is its library as a text of cells, which is read
-- back as the same library
pub record IsItsLibrary (text output : List ℕ) : Type 0 where
  pub sound : genlib_fault text ≡ None
  pub output_is : output ≡ library_text (gates.library_of text)
  pub back_sound : library_fault output ≡ None
  pub back : library_of output ≡ gates.library_of text
