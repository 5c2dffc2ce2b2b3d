use Rattle.std.proofs.Common.{Ok}
use Rattle.std.proofs.lemmas.Result.{IfOk-weaker}
use Rattle.si_refusals.specs.Ending.{MayStop}
use Rattle.si_reports.specs.Loops.Outcomes.{TellsEnd, TellsDifference}
use Rattle.si_reports.specs.Replayed.{replay_end}
use Rattle.si_system.proofs.UniqueOutcome.{for_not_different}
use Rattle.si_readings.proofs.ReadingRefusals.{err_map}
use Rattle.si_reports.proofs.ReplayLemmas.{has_name, told_end, told_departure}
use Rattle.si_reports.proofs.replayed.replay_end.Goals as goal

-- a netlist that is for the graph has no first place at which it isn't
pub unreachable-requires : goal.unreachable-requires
unreachable-requires c =
    for_not_different c.args.graph.now c.args.netlist.now c.in-Err.field-0.place c.requires.fits c.in-Err.ensures.same

pub outcome_text-requires-clause-state : goal.outcome_text-requires-clause-state
outcome_text-requires-clause-state c =
    has_name c.args.graph.now.graph c.args.states.now c.args.netlist.now c.args.events.now.items c.in-Ok.outcome
    c.graph-graph.ensures.coded.graph_is c.requires.names c.in-Ok.ensures.outcome

pub returns-clause-ok : goal.returns-clause-ok
returns-clause-ok c =
    let what = c.args.what in
    let graph = c.args.graph.now.graph in
    let states = c.args.states.now in
    let net = c.args.netlist.now in
    let events = c.args.events.now.items in
    IfOk-weaker c.outcome_text.result (TellsEnd what net events states c.in-Ok.outcome)
    (λ text. replay_end what graph states net events (Ok text))
    (λ text tells. told_end what graph states net events c.in-Ok.outcome text c.in-Ok.ensures.outcome tells)
    c.outcome_text.ensures.ok

pub returns-clause-err : goal.returns-clause-err
returns-clause-err c =
    let what = c.args.what in
    let graph = c.args.graph.now.graph in
    let states = c.args.states.now in
    let net = c.args.netlist.now in
    let events = c.args.events.now.items in
    err_map c.outcome_text.result (TellsDifference net.signals c.in-Ok.outcome)
    (MayStop (replay_end what graph states net events))
    (λ e tells. told_departure what graph states net events c.in-Ok.outcome e c.in-Ok.ensures.outcome tells)
    c.outcome_text.ensures.err
