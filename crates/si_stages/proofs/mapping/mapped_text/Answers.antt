use Rattle.std.proofs.Common.{ℕ, List, Ok}
use Rattle.std.proofs.lemmas.Result.{IfOk-weaker}
use Rattle.si_readings.proofs.ReadingRefusals.{err_map, stops}
use Rattle.si_readings.proofs.StageLemmas.{stop_first, stop_next}
use Rattle.si_refusals.specs.Ending.{MayStop}
use Rattle.si_refusals.specs.Stages.{Passes}
use Rattle.si_sg.specs.GivenGraph.{sg_now}
use Rattle.si_stages.proofs.GivenLineages.{given_lineage, given_signals}
use Rattle.si_stages.proofs.MappingLemmas.{cells_stop, is_mapping}
use Rattle.si_stages.proofs.ResolutionLemmas.{resolution_is}
use Rattle.si_stages.specs.Mapping.{IsCellsText, shows_unfit}
use Rattle.si_stages.specs.Meaning.{mapped_text}
use Rattle.si_stages.proofs.mapping.mapped_text.Goals as goal

-- ---- where resolving refuses
pub returns-in_err-resolved-clause-err : goal.returns-in_err-resolved-clause-err
returns-in_err-resolved-clause-err c =
    let a = c.args in
    stops (mapped_text a.cells.now (sg_now a.given)) c.from_residual.result _ c.from_residual.ensures.1
    (stop_first _ _ _ c.in_err-resolved.ensures.err)

-- ---- what the calls ask for
pub resolution-requires-clause-given : goal.resolution-requires-clause-given
resolution-requires-clause-given c =
    given_signals c.requires.given.0 (sg_now c.args.given) c.requires.given.1

pub cells_text-requires-clause-spelled : goal.cells_text-requires-clause-spelled
cells_text-requires-clause-spelled c =
    let given = sg_now c.args.given in
    let l = c.in_ok-resolved.resolved in
    let is = resolution_is given.graph given.states l c.in_ok-resolved.ensures.ok in
    (given_lineage c.requires.given.0 given l c.requires.given.1 is).spelled

pub cells_text-requires-clause-states : goal.cells_text-requires-clause-states
cells_text-requires-clause-states c =
    let given = sg_now c.args.given in
    let l = c.in_ok-resolved.resolved in
    let is = resolution_is given.graph given.states l c.in_ok-resolved.ensures.ok in
    (given_lineage c.requires.given.0 given l c.requires.given.1 is).names

-- ---- the netlist of cells
pub returns-clause-ok : goal.returns-clause-ok
returns-clause-ok c =
    let library = c.args.cells.now in
    let given = sg_now c.args.given in
    let l = c.in_ok-resolved.resolved in
    let resolves = c.in_ok-resolved.ensures.ok in
    let is = resolution_is given.graph given.states l resolves in
    IfOk-weaker c.cells_text.result
    (λ (text : List ℕ). IsCellsText library given.model given.states l text)
    (λ (text : List ℕ). mapped_text library given (Ok text))
    (λ output text. Passes l resolves
    (is_mapping library c.requires.given.0 given l text.lineage output c.requires.library c.requires.given.1 is
    text.maps text.text_is))
    c.cells_text.ensures.ok

pub returns-clause-err : goal.returns-clause-err
returns-clause-err c =
    let library = c.args.cells.now in
    let given = sg_now c.args.given in
    let l = c.in_ok-resolved.resolved in
    err_map c.cells_text.result (MayStop (shows_unfit library given.states l))
    (MayStop (mapped_text library given))
    (λ e may. stop_next _ _ l e c.in_ok-resolved.ensures.ok (cells_stop library given l e may))
    c.cells_text.ensures.err
