-- The texts of each command come to one answer.
use Rattle.std.proofs.Common.{ℕ, List, [], Ok, refl}
use Rattle.si_base.specs.Codes.{CodedGraph, IsCoded}
use Rattle.si_base.specs.GivenGraph.{Sg}
use Rattle.si_base.specs.NetlistText.{netlist_text}
use Rattle.si_base.specs.Proper.{HasNoConflict}
use Rattle.si_circuit.specs.Cells.{mapped_netlist}
use Rattle.si_circuit.specs.Circuits.{circuit_of}
use Rattle.si_circuit.specs.declared.style.Style.{Style}
use Rattle.si_insert.specs.Lineage.{ExtendsBy, History, given_history}
use Rattle.si_insert.proofs.InsertionKeeps.{keeps}
use Rattle.si_refusals.specs.Stages.{Passes}
use Rattle.si_readings.specs.Checks.{IsSound}
use Rattle.si_readings.specs.Laws.{AtMostOne, HasResult}
use Rattle.si_stages.specs.Laws.{FreeGraphsAreMapped, FreeGraphsAreSynthesised}
use Rattle.si_stages.specs.Mapping.{EndsInCells}
use Rattle.si_stages.specs.Meaning.{synth, mapping}
use Rattle.si_readings.specs.Readings.{MappingReadings, library_from, mapping_readings}
use Rattle.si_stages.specs.Resolving.{resolution}
use Rattle.si_readings.specs.declared.library_format.LibraryFormat.{LibraryFormat}
use Rattle.si_readings.proofs.CheckLemmas.{graph_one}
use Rattle.si_stages.proofs.GivenLineages.{given_lineage}
use Rattle.si_stages.proofs.MappingLemmas.{cells_text_one, cells_text_some, is_mapping}
use Rattle.si_readings.proofs.LibraryReadings.{is_library}
use Rattle.si_readings.proofs.ReadingLemmas.{mapping_readings_are, mapping_readings_one, mapping_readings_some}
use Rattle.si_stages.proofs.ResolutionLemmas.{IsResolution, resolution_is, resolution_of}
use Rattle.si_stages.proofs.ResolutionLemmas.{resolution_one, resolution_some}
use Rattle.si_readings.proofs.ReadingsExist.{graph_some}
use Rattle.si_readings.proofs.StageLemmas.{then_one, then_some}
use Rattle.si_stages.proofs.SynthesisLemmas.{is_synthesis, synthesis_one, synthesis_some}

-- ---- to one answer at most
pub synth_one : (style : Style) (file text : List ℕ) → AtMostOne (synth style file text)
synth_one style file text = then_one _ _ (graph_one file text) (λ given is.
    then_one _ _ (resolution_one given.graph given.states) (λ l resolves. synthesis_one style given l))

pub mapping_one : (format : LibraryFormat) (g a n b : List ℕ) → AtMostOne (mapping format g a n b)
mapping_one format g a n b = then_one _ _ (mapping_readings_one format g a n b)
    (λ readings read. then_one _ _ (resolution_one readings.given.graph readings.given.states)
    (λ l resolves. cells_text_one readings.library readings.given l (last_coded readings read l resolves)))
  where
    last_coded : (readings : MappingReadings) → mapping_readings format g a n b (Ok readings)
        → (l : History) → resolution readings.given.graph readings.given.states (Ok l)
        → IsCoded l.current.coded
    last_coded readings read l resolves =
        let given = (mapping_readings_are format g a n b readings read).given in
        let is = resolution_is readings.given.graph readings.given.states l resolves in
        (keeps l.given l.trace l.current (given_lineage a readings.given l given is).line).coded

-- ---- and to some answer
pub synth_some : (style : Style) (file text : List ℕ) → HasResult (synth style file text)
synth_some style file text = then_some _ _ (graph_some file text) (λ given is.
    then_some _ _ (resolution_some text given is)
    (λ l resolves. synthesis_some style text given l is (resolution_is given.graph given.states l resolves)))

pub mapping_some : (format : LibraryFormat) (g a n b : List ℕ) → HasResult (mapping format g a n b)
mapping_some format g a n b = then_some _ _ (mapping_readings_some format g a n b)
    (λ readings read. let are = mapping_readings_are format g a n b readings read in
    then_some _ _ (resolution_some a readings.given are.given)
    (λ l resolves. let good = is_library format b readings.library are.no_fault are.library in
    let is = resolution_is readings.given.graph readings.given.states l resolves in
    cells_text_some readings.library a readings.given l good are.given is))

-- ---- a graph without conflicts is its own lineage
pub own_resolution : (given : Sg) (coded : CodedGraph) → IsSound given.graph coded → HasNoConflict coded
    → IsResolution given.graph (given_history coded)
own_resolution given coded sound free = record { sound = sound; resolves = record { goes = refl; done = free } }

pub free_synthesised : FreeGraphsAreSynthesised
free_synthesised style file text given coded is sound free =
    let own = given_history coded in
    let resolves = own_resolution given coded sound free in
    let output = netlist_text (circuit_of style given.model given.states own) in
    let made = is_synthesis style text given own output is resolves refl in
    (output, Passes given is (Passes own (resolution_of given.graph given.states own resolves) made))

pub free_mapped : FreeGraphsAreMapped
free_mapped format file text library cells given coded is none sound free fit =
    let own = given_history coded in
    let resolves = own_resolution given coded sound free in
    let spelled = library_from format cells in
    let readings : MappingReadings = record { given = given; library = spelled } in
    let goes : ExtendsBy own [] own = record { given_stays = refl; trace_grows = refl } in
    let maps : EndsInCells spelled own own =
    record { trace = []; goes = goes; maps = record { goes = refl; done = fit } } in
    let output = netlist_text (mapped_netlist spelled given.model given.states own) in
    let good = is_library format cells spelled none refl in
    let made = is_mapping spelled text given own own output good is resolves maps refl in
    let read = Passes given is (Passes spelled (none, refl) refl) in
    (output, Passes readings read (Passes own (resolution_of given.graph given.states own resolves) made))
