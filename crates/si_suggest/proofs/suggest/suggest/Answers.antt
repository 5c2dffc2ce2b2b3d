use Rattle.std.proofs.Common.{subst}
use Rattle.si_base.specs.Codes.{CodedGraph, IsCoded}
use Rattle.si_suggest.proofs.OfferLemmas.{light_if_stuck}
use Rattle.si_suggest.proofs.suggest.suggest.Goals as goal

pub returns-in-Some-2-clause-suggested : goal.returns-in-Some-2-clause-suggested
returns-in-Some-2-clause-suggested c =
    let given = c.args.given.now in
    let shown = rw c.in-Stuck.is at c.in_ok-first.ensures in
    let coded = subst (λ (k : CodedGraph). IsCoded k) c.coded.ensures.same c.graph-graph.ensures.coded in
    record {
      offered = rw c.in-Some-2.is at c.in_ok-found-in-Stuck.ensures.offered;
      light = light_if_stuck given c.args.style c.args.model.now c.args.states.now c.in-Stuck.lineage
          (c.in-Stuck.p, c.in-Stuck.q) c.in-Some-2.found.netlist coded shown.1;
    }

pub returns-clause-unsuggested : goal.returns-clause-unsuggested
returns-clause-unsuggested c =
    let shown = rw c.in-Stuck.is at c.in_ok-first.ensures in
    record {
      may_be = rw (c.in_default.is, c.coded-2.ensures.same) at c.in_ok-p.ensures;
      given_is = shown.0;
      ends = shown.1;
    }
