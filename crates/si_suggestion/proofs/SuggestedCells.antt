-- The netlist of cells over suggested insertions, and that there is one or a signal that fits none.
use Rattle.std.proofs.Common.{◌≡◌, ℕ, List, ◌++◌, ◌⊎◌, inl, inr, Ok, Err, refl}
use Rattle.si_base.specs.GivenGraph.{Sg}
use Rattle.si_base.specs.NetlistText.{netlist_text}
use Rattle.si_base.specs.Proper.{HasNoConflict}
use Rattle.si_cell.specs.Library.{Library, IsLibrary}
use Rattle.si_circuit.proofs.CellLemmas.{cells_give, cells_are_netlist}
use Rattle.si_circuit.proofs.WireLemmas.{cells_are_wired}
use Rattle.si_circuit.specs.Cells.{cell_gate, mapped_netlist}
use Rattle.si_circuit.specs.Spelling.{insertions_of}
use Rattle.si_divisor.proofs.DivisorsExist.{some_divisors}
use Rattle.si_divisor.proofs.PartitionExists.{partitions_exist}
use Rattle.si_insert.proofs.InsertionKeeps.{keeps}
use Rattle.si_insert.specs.declared.lineage.TraceStep.{TraceStep}
use Rattle.si_insert.specs.Lineage.{Current, ExtendsBy, History, Keeps}
use Rattle.si_map.proofs.EndsExist.{mapping_ends}
use Rattle.si_map.specs.Trace.{EndsMapped, EndsUnmapped}
use Rattle.si_readings.specs.Laws.{HasResult}
use Rattle.si_refusals.specs.Ending.{Answered, Ending, MayStop}
use Rattle.si_refusals.specs.Ending as ending
use Rattle.si_refusals.specs.Refusal.{TextRefused}
use Rattle.si_stages.proofs.GivenLineages.{IsGivenLineage}
use Rattle.si_stages.proofs.MappingLemmas.{mapped_lineage}
use Rattle.si_stages.proofs.WrittenLemmas.{is_written}
use Rattle.si_stages.specs.Mapping.{EndsInCells, EndsUnfit, shows_unfit, unfit_refusal}
use Rattle.si_suggestion.specs.Suggested.{IsSuggestedMapping, suggested_cells}

module _ (library : Library) (sg : Sg) (l : History) (good : IsLibrary library) (own : IsGivenLineage sg l) where
  pub is_suggested_mapping : (m : History) (output : List ℕ) → EndsInCells library l m
      → output ≡ netlist_text (mapped_netlist library sg.model sg.states m) → IsSuggestedMapping library sg l output
  is_suggested_mapping m output ends output_is =
      let c = m.current.coded in
      let gate = cell_gate c library in
      let inserts = insertions_of sg.states m in
      let fit = ends.maps.done in
      let line = mapped_lineage library sg l m ends.trace own ends.goes ends.maps.goes in
      let coded = (keeps m.given m.trace m.current line.line).coded in
      let gives = cells_give c library sg.model inserts coded good fit in
      let forms = cells_are_netlist c library sg.model inserts coded good fit line.spelled in
      record {
        lineage = m;
        maps = ends;
        written = is_written gate sg m output line gives forms output_is;
        gates_are = refl;
        wired = cells_are_wired c library sg.model inserts coded good fit;
      }

  pub suggested_cells_some : HasNoConflict l.current.coded → HasResult (suggested_cells library sg l)
  suggested_cells_some free =
      go (mapping_ends some_divisors partitions_exist library l.current kept.coded kept.proper free)
    where
      kept : Keeps l.given l.current
      kept = keeps l.given l.trace l.current own.line

      go : (trace : List TraceStep) × (w : Current)
          × (EndsMapped library l.current trace w ⊎ ((z : ℕ) × EndsUnmapped library l.current trace w z))
          → HasResult (suggested_cells library sg l)
      go (trace, w, inl ends) =
          let m : History = record { given = l.given; trace = l.trace ++ trace; current = w } in
          let goes : ExtendsBy l trace m = record { given_stays = refl; trace_grows = refl } in
          let maps : EndsInCells library l m = record { trace = trace; goes = goes; maps = ends } in
          (Ok _, is_suggested_mapping m _ maps refl)
      go (trace, w, inr (z, ends)) =
          let m : History = record { given = l.given; trace = l.trace ++ trace; current = w } in
          let goes : ExtendsBy l trace m = record { given_stays = refl; trace_grows = refl } in
          let unfit : EndsUnfit library l m z = record { trace = trace; goes = goes; ends = ends } in
          (Err (unfit_refusal sg.states m z), (m, z, unfit, refl))

-- where a call may stop that maps a lineage
pub suggested_stop : (library : Library) (sg : Sg) (l : History) (e : Ending)
    → MayStop (shows_unfit library sg.states l) e → MayStop (suggested_cells library sg l) e
suggested_stop library sg l ending.NoMemory may = tt
suggested_stop library sg l (Answered (TextRefused r)) may = may
suggested_stop library sg l e may = absurd may
