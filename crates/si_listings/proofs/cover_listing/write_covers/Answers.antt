use Rattle.std.proofs.Common.{◌≡◌, ◌<◌, ◌∙◌, List, ℕ, ◌++◌, ap, length, subst, refl, arith}
use Rattle.si_base.specs.Codes.{CodedGraph, IsCoded}
use Rattle.si_base.specs.Graph.{StateGraph, IsNonInput}
use Rattle.si_checks.specs.Loops.Lent.{coded_of}
use Rattle.si_listings.proofs.CoverLemmas.{signal_skip, signal_more, signals_written, some_components}
use Rattle.si_listings.proofs.cover_listing.write_covers.Goals as goal

pub loop-i-preserved-then-not-is_driven : goal.loop-i-preserved-then-not-is_driven
loop-i-preserved-then-not-is_driven c = λ xs are.
    let k = coded_of c.args.graph in
    let graph_is : c.graph-known.result.now ≡ k.graph = c.graph-known.ensures.same
    ∙ ap (λ (d : CodedGraph). d.graph) (c.coded-coded.ensures.same ∙ c.proper.ensures.same) in
    let signals : c.signals-i-end.result.now ≡ k.graph.signals =
    c.signals-i-end.ensures ∙ ap (λ (g : StateGraph). g.signals) graph_is in
    let within : c.loop-i.i < length k.graph.signals = rw signals at c.loop-i-test.true in
    let input = rw graph_is at c.if-not-is_driven.ensures.1 in
    ap (λ (rest : List ℕ). c.loop-i.text ++ rest) (signal_skip k c.args.states.now xs c.loop-i.i within input)
    ∙ c.loop-i.invariant xs are

pub loop-i-preserved : goal.loop-i-preserved
loop-i-preserved c = λ xs are.
    let k = coded_of c.args.graph in
    let graph_is : c.graph-known.result.now ≡ k.graph = c.graph-known.ensures.same
    ∙ ap (λ (d : CodedGraph). d.graph) (c.coded-coded.ensures.same ∙ c.proper.ensures.same) in
    let signals : c.signals-i-end.result.now ≡ k.graph.signals =
    c.signals-i-end.ensures ∙ ap (λ (g : StateGraph). g.signals) graph_is in
    let within : c.loop-i.i < length k.graph.signals = rw signals at c.loop-i-test.true in
    let driven : IsNonInput k.graph.signals c.loop-i.i = (rw graph_is at c.if-not-is_driven.ensures.0) refl in
    signal_more k c.args.states.now xs c.loop-i.i _ c.loop-i.text c.add_signal.new.text within driven
    (c.loop-i.invariant xs are) (c.in_ok-add_signal.ensures xs are)

pub returns : goal.returns
returns c =
    let k = coded_of c.args.graph in
    let coded_is = c.coded-coded.ensures.same ∙ c.proper.ensures.same in
    let graph_is : c.graph-known.result.now ≡ k.graph = c.graph-known.ensures.same
    ∙ ap (λ (d : CodedGraph). d.graph) coded_is in
    let signals : c.signals-i-end.result.now ≡ k.graph.signals =
    c.signals-i-end.ensures ∙ ap (λ (g : StateGraph). g.signals) graph_is in
    let size = ap (λ l. length l) signals in
    let some = some_components k (subst IsCoded coded_is c.graph-known.ensures.coded) in
    record {
      distinct = c.proper.ensures.distinct;
      components = some.0;
      are = some.1;
      text_is = signals_written k c.args.states.now some.0 c.loop-i.i c.loop-i.text
          (omega (arith, size, c.loop-i-test.false)) (c.loop-i.invariant some.0 some.1);
    }
