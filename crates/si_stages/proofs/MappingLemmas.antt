-- Mapping as a stage: what it gives is a netlist of cells for the given graph, and it has one result.
use Rattle.std.proofs.Common.{◌≡◌, ℕ, ◌≤◌, ◌⊎◌, List, [], ◌∷◌, ◌++◌, length, Ok, Err, None, codes}
use Rattle.std.proofs.Common.{refl, sym, ap, ap₂, subst, ◌∙◌, arith, inl, inr}
use Rattle.si_base.specs.Codes.{CodedGraph, IsCoded}
use Rattle.si_base.specs.GivenGraph.{Sg}
use Rattle.si_base.specs.Limits.{max_signals}
use Rattle.si_base.specs.Netlist.{Netlist}
use Rattle.si_base.specs.NetlistText.{netlist_text}
use Rattle.si_base.specs.Proper.{HasNoConflict}
use Rattle.si_cell.specs.Library.{Library, IsLibrary}
use Rattle.si_circuit.proofs.CellLemmas.{cells_give, cells_are_netlist}
use Rattle.si_circuit.proofs.WireLemmas.{cells_are_wired}
use Rattle.si_circuit.specs.Cells.{AllFit, cell_gate, mapped_netlist}
use Rattle.si_circuit.specs.Circuits.{AreStateNames}
use Rattle.si_circuit.specs.Spelling.{insertions_of}
use Rattle.si_insert.proofs.InsertionKeeps.{keeps}
use Rattle.si_insert.specs.declared.lineage.TraceStep.{TraceStep}
use Rattle.si_insert.specs.Lineage.{Current, ExtendsBy, History, IsLineage, Keeps, given_current}
use Rattle.si_insert.proofs.LineageTraceLength.{AreNamed, named_after}
use Rattle.si_map.specs.Trace.{IsMappingTrace, EndsMapped, EndsUnmapped}
use Rattle.si_map.proofs.TraceLemmas.{fitted_is_mapped, mapped_is_unique, unmapped_is_unique}
use Rattle.si_map.proofs.TraceLemmas.{ends_exclude, traces_are_lineages}
use Rattle.si_divisor.proofs.DivisorsExist.{some_divisors}
use Rattle.si_divisor.proofs.PartitionExists.{partitions_exist}
use Rattle.si_map.proofs.EndsExist.{mapping_ends}
use Rattle.si_map.proofs.OneBest.{one_best}
use Rattle.si_map.specs.declared.map.MapStuck.{MapStuck}
use Rattle.si_map.specs.declared.map.MapStuck.TheVariants.{NoMemory, Signal}
use Rattle.si_map.specs.Ends.{ShowsStuck}
use Rattle.si_resolve.specs.Trace.{IsResolvingTrace, EndsResolved}
use Rattle.si_refusals.specs.Ending.{Ending, Answered, MayStop}
use Rattle.si_refusals.specs.Ending as ending
use Rattle.si_refusals.specs.Refusal.{TextRefused}
use Rattle.si_sg.specs.GivenGraph.{IsGivenBy}
use Rattle.si_audit.proofs.OneAudit.{same_history}
use Rattle.si_readings.specs.Laws.{AtMostOne, HasResult}
use Rattle.si_stages.specs.Mapping.{EndsInCells, EndsUnfit, IsMapping, TellsStuck}
use Rattle.si_stages.specs.Mapping.{cells_text, shows_unfit, unfit_refusal}
use Rattle.si_stages.proofs.GivenLineages.{IsGivenLineage, given_lineage}
use Rattle.si_stages.proofs.ResolutionLemmas.{IsResolution}
use Rattle.si_stages.proofs.ResolvingLemmas.{fresh_named, none_needed}
use Rattle.si_stages.proofs.WrittenLemmas.{is_written, no_insertion}

-- ---- what insertions of mapping keep
pub mapped_names : (library : Library) (v : Current) (trace : List TraceStep) (w : Current)
    → IsMappingTrace library v trace w → AreNamed v → AreNamed w
mapped_names library v [] w same named = subst (λ (x : Current). AreNamed x) same named
mapped_names library v (p ∷ trace) w (u, step, rest) named =
    let few : length v.coded.graph.signals ≤ max_signals = omega (arith, step.inserts.accepted.few_signals) in
    mapped_names library u trace w rest
    (named_after v p u step.inserts (fresh_named v.coded.graph.signals (codes "map") p.name refl few step.name) named)

-- a lineage of the given graph that goes on by mapping is one
pub mapped_lineage : (library : Library) (sg : Sg) (l m : History) (trace : List TraceStep) → IsGivenLineage sg l
    → ExtendsBy l trace m → IsMappingTrace library l.current trace m.current → IsGivenLineage sg m
mapped_lineage library sg l m trace is goes maps =
    let given : l.given ≡ m.given = sym goes.given_stays in
    let Steps : List TraceStep → Type 0 = λ steps. IsLineage l.given steps m.current in
    let grown = traces_are_lineages library l.given l.trace trace l.current m.current is.line maps in
    let line : IsLineage l.given m.trace m.current = subst Steps (sym goes.trace_grows) grown in
    record {
      line = subst (λ (c : CodedGraph). IsLineage c m.trace m.current) given line;
      graph_is = ap (λ (c : CodedGraph). c.graph) goes.given_stays ∙ is.graph_is;
      spelled = record {
        model_name = is.spelled.model_name;
        names = mapped_names library l.current trace m.current maps is.spelled.names;
      };
      names = subst (λ (c : CodedGraph). AreStateNames c.graph sg.states) given is.names;
    }

nothing_inserted : (library : Library) (l m : History) (trace : List TraceStep)
    → EndsResolved (given_current l.given) l.trace l.current → ExtendsBy l trace m
    → IsMappingTrace library l.current trace m.current → HasNoConflict l.given → AllFit l.given library → m.trace ≡ []
nothing_inserted library l m trace resolves goes maps free fit =
    let start = given_current l.given in
    let none : l.trace ≡ [] = none_needed start l.trace l.current free resolves.goes in
    let Same : List TraceStep → Type 0 = λ steps. IsResolvingTrace start steps l.current in
    let same : start ≡ l.current = subst Same none resolves.goes in
    let fitted : AllFit l.current.coded library = subst (λ (v : Current). AllFit v.coded library) same fit in
    goes.trace_grows
    ∙ ap₂ (λ (a b : List TraceStep). a ++ b) none (fitted_is_mapped library l.current trace m.current fitted maps)

pub is_mapping : (library : Library) (text : List ℕ) (sg : Sg) (l m : History) (output : List ℕ) → IsLibrary library
    → IsGivenBy text sg → IsResolution sg.graph l → EndsInCells library l m
    → output ≡ netlist_text (mapped_netlist library sg.model sg.states m) → IsMapping library sg l output
is_mapping library text sg l m output good given is ends output_is =
    let c = m.current.coded in
    let gate = cell_gate c library in
    let inserts = insertions_of sg.states m in
    let fit = ends.maps.done in
    let first = given_lineage text sg l given is in
    let line = mapped_lineage library sg l m ends.trace first ends.goes ends.maps.goes in
    let coded = (keeps m.given m.trace m.current line.line).coded in
    let gives = cells_give c library sg.model inserts coded good fit in
    let forms = cells_are_netlist c library sg.model inserts coded good fit line.spelled in
    record {
      lineage = m;
      maps = ends;
      written = is_written gate sg m output line gives forms output_is;
      gates_are = refl;
      wired = cells_are_wired c library sg.model inserts coded good fit;
      none_inserted = λ free all.
          no_insertion gate sg m
          (nothing_inserted library l m ends.trace is.resolves ends.goes ends.maps.goes free all);
    }

-- ---- one result
one_lineage : (l m n : History) (xs ys : List TraceStep) → ExtendsBy l xs m → ExtendsBy l ys n → xs ≡ ys
    → m.current ≡ n.current → m ≡ n
one_lineage l m n xs ys one other traces currents =
    same_history m n (one.given_stays ∙ sym other.given_stays)
    (one.trace_grows ∙ ap (λ (steps : List TraceStep). l.trace ++ steps) traces ∙ sym other.trace_grows) currents

one_ending : (library : Library) (l m n : History) → IsCoded l.current.coded → EndsInCells library l m
    → EndsInCells library l n → m ≡ n
one_ending library l m n is one other =
    let same = mapped_is_unique one_best library l.current one.trace other.trace m.current n.current is one.maps
    other.maps in
    one_lineage l m n one.trace other.trace one.goes other.goes same.0 same.1

never_both : (library : Library) (l m n : History) (z : ℕ) → IsCoded l.current.coded → EndsInCells library l m
    → EndsUnfit library l n z → ⊥
never_both library l m n z is one other =
    ends_exclude one_best library l.current one.trace other.trace m.current n.current z is one.maps other.ends

pub cells_text_one : (library : Library) (given : Sg) (l : History) → IsCoded l.current.coded
    → AtMostOne (cells_text library given l)
cells_text_one library given l is (Ok a) (Ok b) one other =
    let same = one_ending library l one.lineage other.lineage is one.maps other.maps in
    let netlists = ap (mapped_netlist library given.model given.states) same in
    let texts = one.gates_are ∙ netlists ∙ sym other.gates_are in
    ap Ok (one.written.text_is ∙ ap (λ (n : Netlist). netlist_text n) texts ∙ sym other.written.text_is)
cells_text_one library given l is (Ok a) (Err r) one (n, z, other, at) =
    absurd (never_both library l one.lineage n z is one.maps other)
cells_text_one library given l is (Err r) (Ok b) (m, z, one, at) other =
    absurd (never_both library l other.lineage m z is other.maps one)
cells_text_one library given l is (Err r) (Err q) (m, y, one, at) (n, z, other, by) =
    let same = unmapped_is_unique one_best library l.current one.trace other.trace m.current n.current y z is one.ends
    other.ends in
    let lineages = one_lineage l m n one.trace other.trace one.goes other.goes same.0 same.1 in
    ap Err (at ∙ ap₂ (unfit_refusal given.states) lineages same.2 ∙ sym by)

-- the lineage with the insertions of a trace
abbrev grown_by : History → List TraceStep → Current → History
grown_by l trace w = record { given = l.given; trace = l.trace ++ trace; current = w }

pub cells_text_some : (library : Library) (text : List ℕ) (sg : Sg) (l : History) → IsLibrary library
    → IsGivenBy text sg → IsResolution sg.graph l → HasResult (cells_text library sg l)
cells_text_some library text sg l good given is =
    go (mapping_ends some_divisors partitions_exist library l.current kept.coded kept.proper is.resolves.done)
  where
    kept : Keeps l.given l.current
    kept = keeps l.given l.trace l.current (given_lineage text sg l given is).line

    go : (trace : List TraceStep) × (w : Current)
        × (EndsMapped library l.current trace w ⊎ ((z : ℕ) × EndsUnmapped library l.current trace w z))
        → HasResult (cells_text library sg l)
    go (trace, w, inl ends) =
        let m : History = grown_by l trace w in
        let goes : ExtendsBy l trace m = record { given_stays = refl; trace_grows = refl } in
        let maps : EndsInCells library l m = record { trace = trace; goes = goes; maps = ends } in
        (Ok _, is_mapping library text sg l m _ good given is maps refl)
    go (trace, w, inr (z, ends)) =
        let m : History = grown_by l trace w in
        let goes : ExtendsBy l trace m = record { given_stays = refl; trace_grows = refl } in
        let unfit : EndsUnfit library l m z = record { trace = trace; goes = goes; ends = ends } in
        (Err (unfit_refusal sg.states m z), (m, z, unfit, refl))

-- where a call may stop that maps a lineage
pub cells_stop : (library : Library) (sg : Sg) (l : History) (e : Ending)
    → MayStop (shows_unfit library sg.states l) e → MayStop (cells_text library sg l) e
cells_stop library sg l ending.NoMemory may = tt
cells_stop library sg l (Answered (TextRefused r)) may = may
cells_stop library sg l e may = absurd may

pub stuck_told : (library : Library) (states : List (List ℕ)) (l m : History) (cause : MapStuck) (e : Ending)
    → ((trace : List TraceStep) × ExtendsBy l trace m × IsMappingTrace library l.current trace m.current
    × ShowsStuck library m.current cause)
    → TellsStuck states m cause e → MayStop (shows_unfit library states l) e
stuck_told library states l m NoMemory e shown told = absurd told
stuck_told library states l m (Signal z) e (trace, goes, maps, stuck) told =
    let ends : EndsUnmapped library l.current trace m.current z = record { goes = maps; stuck = stuck } in
    let unfit : EndsUnfit library l m z = record { trace = trace; goes = goes; ends = ends } in
    subst (MayStop (shows_unfit library states l)) (sym told) (m, z, unfit, refl)
