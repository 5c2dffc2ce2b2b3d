use Rattle.std.proofs.Common.{◌∙◌, List, [], length, ap, sym, arith}
use Rattle.si_base.specs.declared.graph.Signal.{Signal}
use Rattle.si_carried.specs.Lint.{IsUnused}
use Rattle.si_told.specs.All.{number_place}
use Rattle.si_told.proofs.Alls.{below_none, below_more, below_all}
use Rattle.si_lint.proofs.UnusedLemmas.{small_signals, unused_order, unused_here, unused_pass}
use Rattle.si_lint.proofs.unused.unused.Goals as goal
use Rattle.si_lint.proofs.unused.unused.Goals.{then-not-get+in_ok-push, else-not-get}

pub switched-switched-requires : goal.switched-switched-requires
switched-switched-requires c = small_signals c.args.graph.now c.arcs-arcs.result.now c.arcs-arcs.ensures.graph
    c.arcs-arcs.ensures.arcs

pub overflow_cast-count : goal.overflow_cast-count
overflow_cast-count c =
    omega (arith, ap (λ (l : List Signal). length l) c.signals.ensures, c.arcs-arcs.ensures.graph.few_signals)

pub get-requires : goal.get-requires
get-requires c = omega (
  arith,
  c.loop-k-test.true,
  ap (λ (l : List Signal). length l) c.signals.ensures,
  c.arcs-arcs.ensures.graph.few_signals,
)

pub loop-k-init : goal.loop-k-init
loop-k-init c = rw c.new-found.ensures.items
    (below_none number_place (IsUnused c.args.graph.now) (λ a. a) (unused_order c.args.graph.now) [])

pub loop-k-preserved : goal.loop-k-preserved
loop-k-preserved c =
    let g = c.args.graph.now in
    let arcs = c.arcs-arcs.result.now in
    let k = c.loop-k.k in
    let told = c.switched-switched.ensures k in
    let old = c.loop-k.found.items in
    let more = below_more number_place (IsUnused g) (λ a. a) (unused_order g) k [] old in
    let size = ap (λ (l : List Signal). length l) c.signals.ensures in
    elim c.if-not-get.branch [
      | then-not-get+in_ok-push w ↦ more _ c.loop-k.invariant (unused_here g arcs c.arcs-arcs.ensures.arcs
          c.switched-switched.result k told old _ (omega (arith, c.loop-k-test.true, size))
          (sym c.get.ensures ∙ w.if-not-get.true) (ap (λ v. v.items) w.found-is ∙ w.in_ok-push.ensures.items))
      | else-not-get w ↦ rw w.found-is (more old c.loop-k.invariant (unused_pass g arcs c.arcs-arcs.ensures.arcs
          c.switched-switched.result k told old (sym c.get.ensures ∙ w.if-not-get.false)))
    ]

pub returns : goal.returns
returns c =
    let g = c.args.graph.now in
    let size = ap (λ (l : List Signal). length l) c.signals.ensures in
    below_all number_place (IsUnused g) (λ a. a) (unused_order g) c.loop-k.k c.loop-k.found.items
    (λ a is. (let within = is.within in omega (arith, c.loop-k-test.false, size))) c.loop-k.invariant
