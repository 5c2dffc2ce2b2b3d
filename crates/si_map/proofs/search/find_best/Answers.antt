use Rattle.std.proofs.Common.{◌≡◌, ◌∙◌, length, ap, subst, arith}
use Rattle.si_base.specs.Graph.{StateGraph}
use Rattle.si_base.specs.Codes.{CodedGraph}
use Rattle.si_cell.specs.Library.{Library}
use Rattle.si_match.specs.Weight.{weight_of}
use Rattle.si_checks.specs.Loops.Lent.{coded_of}
use Rattle.si_bounds.specs.Loops.Bounds.{AreBounds}
use Rattle.si_bounds.specs.Loops.Fitted.{AreFitted}
use Rattle.si_map.specs.Loops.Progress.{IsSearching}
use Rattle.si_map.proofs.SearchLemmas.{none_yet}
use Rattle.si_map.proofs.SearchSignals.{found, pass_input_by}
use Rattle.si_map.proofs.search.find_best.Goals as goal

pub loop-i-init : goal.loop-i-init
loop-i-init c =
    let Starts : CodedGraph → Type 0 =
    λ d. (library : Library) → c.in_ok-weight.weight ≡ weight_of d library → AreFitted d library c.args.fitted
    → AreBounds d library c.in_ok-bounds.bounds → IsSearching d library 0 0 c.in_ok-search.search in
    let starts : Starts (coded_of c.args.graph) = subst Starts c.proper.ensures.same c.in_ok-search.ensures in
    record {
      searching = starts c.args.library.now (c.in_ok-weight.ensures c.args.library.now c.requires) c.requires
          c.in_ok-bounds.ensures;
      known = record {
        spent = none_yet (coded_of c.args.graph) c.args.library.now c.in_ok-search.search.bar
            c.new-functions.result.tried c.new-functions.ensures.tried;
        sets = record {
          few = omega (arith, c.new-functions.ensures.next);
          each = λ k d inside. absurd (omega (arith, inside, c.new-functions.ensures.next));
        };
      };
    }

pub loop-i-preserved-then-not-is_driven : goal.loop-i-preserved-then-not-is_driven
loop-i-preserved-then-not-is_driven c =
    let known = c.graph-known.ensures.same ∙ ap (λ (d : CodedGraph). d.graph)
    (c.coded.ensures.same ∙ c.proper-2.ensures.same) in
    record {
      searching = pass_input_by (coded_of c.args.graph) c.args.library.now c.loop-i.i c.loop-i.search
          c.graph-known.result.now c.is_driven.result known c.is_driven.ensures c.if-not-is_driven.true
          c.loop-i.invariant.searching;
      known = c.loop-i.invariant.known;
    }

pub returns : goal.returns
returns c =
    let d = coded_of c.args.graph in
    let known = c.graph-known.ensures.same ∙ ap (λ (d : CodedGraph). d.graph)
    (c.coded.ensures.same ∙ c.proper-2.ensures.same) in
    let count = ap length (c.signals-i-end.ensures ∙ ap (λ (g : StateGraph). g.signals) known) in
    let all : c.loop-i.i ≡ length d.graph.signals =
    omega (arith, c.loop-i-test.false, c.loop-i.auto.i-end, count) in
    found d c.args.library.now c.loop-i.search
    (subst (λ k. IsSearching d c.args.library.now k 0 c.loop-i.search) all c.loop-i.invariant.searching)

pub loop-i-preserved : goal.loop-i-preserved
loop-i-preserved c = record {
  searching = c.in_ok-try_signal.ensures.after;
  known = c.in_ok-try_signal.ensures.known;
}
