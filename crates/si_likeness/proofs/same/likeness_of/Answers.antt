use Rattle.std.proofs.Common.{◌∙◌, Ok, ap, sym}
use Rattle.si_base.specs.Graph.{StateGraph}
use Rattle.si_refusals.specs.Ending.{MayStop}
use Rattle.si_refusals.specs.Stages.{Passes}
use Rattle.si_readings.proofs.CheckLemmas.{graphs_over, start_alike_over}
use Rattle.std.proofs.lemmas.Result.{IfOk-weaker}
use Rattle.si_readings.proofs.ReadingRefusals.{err_map, stops}
use Rattle.si_readings.proofs.StageLemmas.{stop_first, stop_next}
use Rattle.si_likeness.specs.Same.{likeness, likeness_of}
use Rattle.si_likeness.proofs.same.likeness_of.Goals as goal

pub returns-in_err-f-clause-err : goal.returns-in_err-f-clause-err
returns-in_err-f-clause-err c =
    let a = c.args in
    stops (likeness_of a.one_file.now a.one a.one_states.now a.other_file.now a.other a.other_states.now)
    c.from_residual.result _ c.from_residual.ensures.1 (stop_first _ _ _ c.in_err-f.ensures.err)

pub returns-in_err-g-clause-err : goal.returns-in_err-g-clause-err
returns-in_err-g-clause-err c =
    let a = c.args in
    stops (likeness_of a.one_file.now a.one a.one_states.now a.other_file.now a.other a.other_states.now)
    c.from_residual-in_err-g.result _ c.from_residual-in_err-g.ensures.1
    (stop_next _ _ c.in_ok-f.f _ c.in_ok-f.ensures.ok (stop_first _ _ _ c.in_err-g.ensures.err))

pub returns-in_err-match_graphs-clause-err : goal.returns-in_err-match_graphs-clause-err
returns-in_err-match_graphs-clause-err c =
    let a = c.args in
    let may = graphs_over a.other_file.now _ _ _ _ _ c.coded.ensures.same c.coded-2.ensures.same
    c.in_err-match_graphs.ensures.err in
    stops (likeness_of a.one_file.now a.one a.one_states.now a.other_file.now a.other a.other_states.now)
    c.from_residual-in_err-match_graphs.result _ c.from_residual-in_err-match_graphs.ensures.1
    (stop_next _ _ c.in_ok-f.f _ c.in_ok-f.ensures.ok (stop_next _ _ c.in_ok-g.g _ c.in_ok-g.ensures.ok
    (stop_first _ _ _ may)))

pub likeness-requires-clause-one_named : goal.likeness-requires-clause-one_named
likeness-requires-clause-one_named c =
    c.requires.one.names ∙ ap (λ (h : StateGraph). h.states) (sym c.in_ok-f.ensures.ok.same_graph)

pub likeness-requires-clause-other_named : goal.likeness-requires-clause-other_named
likeness-requires-clause-other_named c =
    c.requires.other.names ∙ ap (λ (h : StateGraph). h.states) (sym c.in_ok-g.ensures.ok.same_graph)

pub likeness-requires-clause-lists : goal.likeness-requires-clause-lists
likeness-requires-clause-lists c =
    start_alike_over _ _ _ _ c.coded.ensures.same c.coded-2.ensures.same c.in_ok-match_graphs.ensures.ok

pub returns-clause-ok : goal.returns-clause-ok
returns-clause-ok c =
    let a = c.args in
    let f = c.in_ok-f.f in
    let g = c.in_ok-g.g in
    let same = start_alike_over _ _ _ _ c.coded.ensures.same c.coded-2.ensures.same c.in_ok-match_graphs.ensures.ok in
    IfOk-weaker c.likeness.result
    (λ text. likeness a.one_file.now a.other_file.now a.one_states.now a.other_states.now f g (Ok text))
    (λ text. likeness_of a.one_file.now a.one a.one_states.now a.other_file.now a.other a.other_states.now (Ok text))
    (λ text told. Passes f c.in_ok-f.ensures.ok (Passes g c.in_ok-g.ensures.ok (Passes tt same told)))
    c.likeness.ensures.ok

pub returns-clause-err : goal.returns-clause-err
returns-clause-err c =
    let a = c.args in
    let f = c.in_ok-f.f in
    let g = c.in_ok-g.g in
    let same = start_alike_over _ _ _ _ c.coded.ensures.same c.coded-2.ensures.same c.in_ok-match_graphs.ensures.ok in
    err_map c.likeness.result
    (MayStop (likeness a.one_file.now a.other_file.now a.one_states.now a.other_states.now f g))
    (MayStop (likeness_of a.one_file.now a.one a.one_states.now a.other_file.now a.other a.other_states.now))
    (λ e may. stop_next _ _ f e c.in_ok-f.ensures.ok (stop_next _ _ g e c.in_ok-g.ensures.ok
    (stop_next _ _ tt e same may)))
    c.likeness.ensures.err
