use Rattle.std.proofs.Common.{ℕ, List, map, vec_items, length, arith, ap, subst, sym, ◌∙◌}
use Rattle.std.proofs.lemmas.List.{length-map}
use Rattle.si_base.specs.Codes.{CodedGraph}
use Rattle.si_groups.specs.Together.{ShowsMisfit, WorkTogether}
use Rattle.si_readings.proofs.ReadingRefusals.{stops}
use Rattle.si_readings.proofs.StageLemmas.{stop_first, stop_next}
use Rattle.si_refusals.specs.Ending.{ending_of}
use Rattle.si_refusals.specs.Stages.{Passes}
use Rattle.si_words.specs.Loops.Reads.{words_now}
use Rattle.si_works.specs.declared.audited.AuditedPart.{AuditedPart as PartMade}
use Rattle.si_works.specs.Loops.Parts.{part_now, parts_now}
use Rattle.si_works.specs.Loops.Places.{ShowsMisfitSo, ShowsPlaced}
use Rattle.si_works.specs.Works as meaning
use Rattle.si_works.specs.Works.{graphs, works, works_text}
use Rattle.si_works.proofs.PairLemmas.{pairs_of}
use Rattle.si_works.proofs.PlaceLemmas.{all_named, misfit_placed}
use Rattle.si_works.proofs.ShownLemmas.{misfit_stops, parts_many}
use Rattle.si_works.proofs.WorksLemmas.{all_coded}
use Rattle.si_works.proofs.works.works_texts.Goals as goal

pub returns-in_err-parts-clause-err : goal.returns-in_err-parts-clause-err
returns-in_err-parts-clause-err c =
    stops (works (words_now c.args.files.now) (map vec_items c.args.texts.now)) c.from_residual-in_err-parts.result _
    c.from_residual-in_err-parts.ensures.1 (stop_first _ _ _ c.in_err-parts.ensures.err)

pub work_together-requires : goal.work_together-requires
work_together-requires c =
    let parts = c.in_ok-parts.parts.items in
    let counts = parts_many c.args.files.now c.args.texts.now parts c.requires.texts c.in_ok-parts.ensures.ok in
    let same = ap (λ (cs : List CodedGraph). length cs) (c.deref-2.ensures.value ∙ c.in_ok-graphs.ensures
    ∙ ap (λ (ps : List PartMade). graphs (parts_now ps)) c.deref.ensures.value) in
    omega (arith, counts.0, counts.1, same, c.requires.few)

pub works_text-requires : goal.works_text-requires
works_text-requires c =
    let parts = c.in_ok-parts.parts.items in
    let counts = parts_many c.args.files.now c.args.texts.now parts c.requires.texts c.in_ok-parts.ensures.ok in
    let same = ap (λ (ps : List PartMade). length ps) c.deref-in-Ok.ensures.value in
    omega (arith, counts.0, same, c.requires.few)

pub returns-in-Ok-clause-ok : goal.returns-in-Ok-clause-ok
returns-in-Ok-clause-ok c =
    let parts = c.in_ok-parts.parts.items in
    let found = c.in-Ok.found in
    let same = c.deref-2.ensures.value ∙ c.in_ok-graphs.ensures
    ∙ ap (λ (ps : List PartMade). graphs (parts_now ps)) c.deref.ensures.value in
    Passes (parts_now parts) c.in_ok-parts.ensures.ok (record {
      signals = found.signals;
      groups = found.groups;
      work = subst (λ (cs : List CodedGraph). WorkTogether cs found.signals found.groups) same c.in-Ok.ensures.ok;
      output_is = c.in_ok-works_text-in-Ok.ensures
          ∙ ap (λ (ps : List PartMade). works_text (length ps) found.groups found.signals
          (meaning.gate_count (parts_now ps))) c.deref-in-Ok.ensures.value
          ∙ ap (λ (n : ℕ). works_text n found.groups found.signals (meaning.gate_count (parts_now parts)))
          (sym (length-map parts part_now));
    })

pub shown-requires-clause-files : goal.shown-requires-clause-files
shown-requires-clause-files c =
    let parts = c.in_ok-parts.parts.items in
    let counts = parts_many c.args.files.now c.args.texts.now parts c.requires.texts c.in_ok-parts.ensures.ok in
    let same = ap (λ (ps : List PartMade). length ps) c.deref-in-Err.ensures.value in
    omega (arith, counts.0, same)

pub shown-requires-clause-placed : goal.shown-requires-clause-placed
shown-requires-clause-placed c =
    let parts = c.in_ok-parts.parts.items in
    let pairs = pairs_of c.args.files.now c.args.texts.now in
    let same = c.deref-2.ensures.value ∙ c.in_ok-graphs.ensures
    ∙ ap (λ (ps : List PartMade). graphs (parts_now ps)) c.deref.ensures.value in
    let shows = subst (λ (cs : List CodedGraph). ShowsMisfit cs c.in-Err.misfit) same c.in-Err.ensures.err in
    subst (λ (ps : List PartMade). ShowsPlaced (parts_now ps) c.in-Err.misfit) (sym c.deref-in-Err.ensures.value)
    (misfit_placed (parts_now parts) (all_coded pairs (parts_now parts) c.in_ok-parts.ensures.ok)
    (all_named pairs (parts_now parts) c.in_ok-parts.ensures.ok) c.in-Err.misfit shows)

pub returns-clause-err : goal.returns-clause-err
returns-clause-err c =
    let parts = c.in_ok-parts.parts.items in
    let same = c.deref-2.ensures.value ∙ c.in_ok-graphs.ensures
    ∙ ap (λ (ps : List PartMade). graphs (parts_now ps)) c.deref.ensures.value in
    let shows = subst (λ (cs : List CodedGraph). ShowsMisfit cs c.in-Err.misfit) same c.in-Err.ensures.err in
    let so = subst (λ (ps : List PartMade). ShowsMisfitSo (words_now c.args.files.now) (parts_now ps) c.in-Err.misfit
    (ending_of c.shown.result)) c.deref-in-Err.ensures.value c.shown.ensures in
    stop_next _ _ (parts_now parts) (ending_of c.shown.result) c.in_ok-parts.ensures.ok
    (misfit_stops (words_now c.args.files.now) (parts_now parts) c.in-Err.misfit (ending_of c.shown.result) shows so)
