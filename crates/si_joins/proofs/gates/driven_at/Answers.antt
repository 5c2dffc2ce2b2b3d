use Rattle.std.proofs.Common.{◌≡◌, ◌<◌, ◌∙◌, ℕ, get_or, length, ap, sym, arith}
use Rattle.std.proofs.lemmas.List.{get_or_default}
use Rattle.si_base.specs.declared.graph.Signal.{Signal}
use Rattle.si_base.specs.Graph.{is_driven}
use Rattle.si_joins.specs.Gates.{driven_at}
use Rattle.si_joins.proofs.PlaceLemmas.{stands_as_input, stands_elsewhere}
use Rattle.si_joins.proofs.gates.driven_at.Goals as goal
use Rattle.si_joins.proofs.gates.driven_at.Goals.{else-is_driven-via-then-is_driven+else-to-z}
use Rattle.si_joins.proofs.gates.driven_at.Goals.{else-is_driven-via-else-is_driven}

pub loop-z-preserved : goal.loop-z-preserved
loop-z-preserved c =
    let signals = c.args.signals.now in
    let to = c.args.to.now in
    let z = c.loop-z.z in
    let k = c.args.k in
    let all = driven_at k 0 signals to in
    let below : z < length signals = c.loop-z-test.true in
    let inside : z < length to = omega (arith, below, c.requires) in
    let seen = ap (λ (x : Signal). is_driven x.kind) c.index-signals-z.is ∙ sym c.is_driven.ensures in
    let p : ℕ = get_or to z 0 in
    let at_p : p ≡ get_or to z p = get_or_default to z 0 p inside in
    elim c.else-is_driven.branch [
      | else-is_driven-via-then-is_driven+else-to-z w ↦ stands_elsewhere k z signals to all c.loop-z.invariant
          c.index-signals-z.result p below inside c.index-signals-z.is at_p
          (seen ∙ w.if-is_driven.true) w.if-to-z.false
      | else-is_driven-via-else-is_driven w ↦ stands_as_input k z signals to all c.loop-z.invariant
          c.index-signals-z.result p below inside c.index-signals-z.is at_p
          (seen ∙ w.if-is_driven.false)
    ]
