use Rattle.std.proofs.Common.{Ok, sym, subst}
use Rattle.std.proofs.lemmas.Result.{IfOk-weaker}
use Rattle.si_base.specs.Graph.{StateGraph}
use Rattle.si_insert.specs.Lineage.{AllGiven}
use Rattle.si_refusals.specs.Ending.{MayStop}
use Rattle.si_refusals.specs.Stages.{Passes}
use Rattle.si_stages.specs.Resolving.{lineage_of, resolution}
use Rattle.si_readings.proofs.ReadingRefusals.{err_map, stops}
use Rattle.si_readings.proofs.StageLemmas.{stop_first, stop_next}
use Rattle.si_stages.proofs.resolving.resolution.Goals as goal

pub returns-in_err-proper-clause-err : goal.returns-in_err-proper-clause-err
returns-in_err-proper-clause-err c =
    stops (resolution c.args.graph c.args.states.now) c.from_residual.result _ c.from_residual.ensures.1
    (stop_first _ _ _ c.in_err-proper.ensures.err)

pub lineage_of-requires-clause-given : goal.lineage_of-requires-clause-given
lineage_of-requires-clause-given c =
    subst (λ (g : StateGraph). AllGiven g.signals) (sym c.in_ok-proper.ensures.ok.same_graph) c.requires.given

pub returns-clause-ok : goal.returns-clause-ok
returns-clause-ok c =
    let coded = c.in_ok-proper.proper in
    IfOk-weaker c.lineage_of.result (λ l. lineage_of coded c.args.states.now (Ok l))
    (λ l. resolution c.args.graph c.args.states.now (Ok l))
    (λ l ends. Passes coded c.in_ok-proper.ensures.ok ends) c.lineage_of.ensures.ok

pub returns-clause-err : goal.returns-clause-err
returns-clause-err c =
    let coded = c.in_ok-proper.proper in
    err_map c.lineage_of.result (MayStop (lineage_of coded c.args.states.now))
    (MayStop (resolution c.args.graph c.args.states.now))
    (λ e may. stop_next _ _ coded e c.in_ok-proper.ensures.ok may) c.lineage_of.ensures.err
