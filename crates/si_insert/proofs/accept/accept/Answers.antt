use Rattle.si_insert.proofs.AcceptAnswers.{delay_is, none_delayed, loss_is, none_lost, one_way}
use Rattle.si_insert.proofs.accept.accept.Goals as goal

pub returns-in-Some-clause-fault : goal.returns-in-Some-clause-fault
returns-in-Some-clause-fault c =
    delay_is c.args.graph.now c.coded.result.now c.graph-g.result.now c.args.partition c.classes.result.now c.in-Some.a
    (record {
      same = c.coded.ensures.same;
      graph = c.graph-g.ensures.same;
      classes = c.classes.ensures;
      coded = c.graph-g.ensures.coded;
      proper = c.coded.ensures.proper;
      lawful = c.requires;
    }) c.in-Some.ensures

pub broken_arc-requires-clause-one : goal.broken_arc-requires-clause-one
broken_arc-requires-clause-one c =
    one_way c.coded.result.now c.graph-g.result.now c.graph-g.ensures.same c.graph-g.ensures.coded

pub returns-in-Some-broken_arc-clause-fault : goal.returns-in-Some-broken_arc-clause-fault
returns-in-Some-broken_arc-clause-fault c = (
  none_delayed c.args.graph.now c.coded.result.now c.graph-g.result.now c.args.partition c.classes.result.now
      (record {
        same = c.coded.ensures.same;
        graph = c.graph-g.ensures.same;
        classes = c.classes.ensures;
        coded = c.graph-g.ensures.coded;
        proper = c.coded.ensures.proper;
        lawful = c.requires;
      }) c.in_default.ensures,
  loss_is c.args.graph.now c.coded.result.now c.graph-g.result.now c.args.partition c.classes-2.result.now
      c.in-Some-broken_arc.r.a c.in-Some-broken_arc.r.b
      (record {
        same = c.coded.ensures.same;
        graph = c.graph-g.ensures.same;
        classes = c.classes-2.ensures;
        coded = c.graph-g.ensures.coded;
        proper = c.coded.ensures.proper;
        lawful = c.requires;
      })
      c.in-Some-broken_arc.ensures.arc c.in-Some-broken_arc.ensures.by,
)

pub accept_by_size-requires-clause-proper : goal.accept_by_size-requires-clause-proper
accept_by_size-requires-clause-proper c =
    none_lost c.args.graph.now c.coded.result.now c.graph-g.result.now c.args.partition c.classes-2.result.now
    (record {
      same = c.coded.ensures.same;
      graph = c.graph-g.ensures.same;
      classes = c.classes-2.ensures;
      coded = c.graph-g.ensures.coded;
      proper = c.coded.ensures.proper;
      lawful = c.requires;
    })
    c.in_default-broken_arc.ensures.none

pub accept_by_size-requires-clause-inputs : goal.accept_by_size-requires-clause-inputs
accept_by_size-requires-clause-inputs c =
    none_delayed c.args.graph.now c.coded.result.now c.graph-g.result.now c.args.partition c.classes.result.now
    (record {
      same = c.coded.ensures.same;
      graph = c.graph-g.ensures.same;
      classes = c.classes.ensures;
      coded = c.graph-g.ensures.coded;
      proper = c.coded.ensures.proper;
      lawful = c.requires;
    })
    c.in_default.ensures
