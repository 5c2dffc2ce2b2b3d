use Rattle.std.proofs.Common.{◌≡◌, length, ap, ◌∙◌, arith}
use Rattle.si_base.specs.declared.graph.Signal.{Signal}
use Rattle.si_base.specs.Graph.{StateGraph}
use Rattle.si_base.specs.Codes.{CodedGraph}
use Rattle.si_insert.specs.Accepted.{copy_count}
use Rattle.si_insert.proofs.AcceptAnswers.{few_classes}
use Rattle.si_insert.proofs.accept.accept_by_size.Goals as goal

pub count_copies-states-requires : goal.count_copies-states-requires
count_copies-states-requires c =
    few_classes c.args.graph.now c.coded.result.now c.graph-g.result.now c.args.partition c.classes.result.now
    (record {
      same = c.coded.ensures.same;
      graph = c.graph-g.ensures.same;
      classes = c.classes.ensures;
      coded = c.graph-g.ensures.coded;
      proper = c.coded.ensures.proper;
      lawful = c.requires.lawful;
    })

pub returns-then-states-gt-MAX_STATES-clause-fault : goal.returns-then-states-gt-MAX_STATES-clause-fault
returns-then-states-gt-MAX_STATES-clause-fault c = (
  c.requires.inputs,
  c.requires.proper,
  c.count_copies-states.ensures ∙ ap copy_count c.classes.ensures,
  c.if-states-gt-MAX_STATES.true,
)

pub returns-then-signals-ge-MAX_SIGNALS-clause-fault : goal.returns-then-signals-ge-MAX_SIGNALS-clause-fault
returns-then-signals-ge-MAX_SIGNALS-clause-fault c =
    let count : c.count_copies-states.result ≡ copy_count c.args.partition =
    c.count_copies-states.ensures ∙ ap copy_count c.classes.ensures in
    let signals : c.signals.result.now ≡ c.args.graph.now.graph.signals =
    c.signals.ensures ∙ ap (λ (g : StateGraph). g.signals)
    (c.graph-g.ensures.same ∙ ap (λ (k : CodedGraph). k.graph) c.coded.ensures.same) in
    let size = ap (length {A = Signal}) signals in (
      c.requires.inputs,
      c.requires.proper,
      omega (arith, count, c.if-states-gt-MAX_STATES.false),
      omega (arith, size, c.if-signals-ge-MAX_SIGNALS.true),
    )

pub returns-clause-accepted : goal.returns-clause-accepted
returns-clause-accepted c =
    let count : c.count_copies-states.result ≡ copy_count c.args.partition =
    c.count_copies-states.ensures ∙ ap copy_count c.classes.ensures in
    let signals : c.signals.result.now ≡ c.args.graph.now.graph.signals =
    c.signals.ensures ∙ ap (λ (g : StateGraph). g.signals)
    (c.graph-g.ensures.same ∙ ap (λ (k : CodedGraph). k.graph) c.coded.ensures.same) in
    let size = ap (length {A = Signal}) signals in
    record {
      lawful = c.requires.lawful;
      proper = c.requires.proper;
      inputs = c.requires.inputs;
      few_states = omega (arith, count, c.if-states-gt-MAX_STATES.false);
      few_signals = omega (arith, size, c.if-signals-ge-MAX_SIGNALS.false);
    }
