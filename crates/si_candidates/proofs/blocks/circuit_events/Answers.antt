use Rattle.std.proofs.Common.{◌≡◌, ◌++◌, ◌∷◌, [], ◌∙◌, sym, ap}
use Rattle.si_base.specs.declared.graph.Signal.{Signal}
use Rattle.si_base.specs.Graph.{rise, fall, is_driven}
use Rattle.si_candidates.proofs.BlockLists.{driven_more, driven_pass}
use Rattle.si_candidates.proofs.blocks.circuit_events.Goals as goal
use Rattle.si_candidates.proofs.blocks.circuit_events.Goals.{then-is_driven+in_ok-push+in_ok-push-2, else-is_driven}

pub loop-z-preserved : goal.loop-z-preserved
loop-z-preserved c =
    let signals = c.args.signals.now in
    let z = c.loop-z.z in
    let x = c.index-signals-z.result in
    let old = c.loop-z.events.items in
    let kind = c.is_driven.ensures ∙ ap (λ (y : Signal). is_driven y.kind) (sym c.index-signals-z.is) in
    elim c.if-is_driven.branch [
      | then-is_driven+in_ok-push+in_ok-push-2 w ↦ (
          let pushed : c.if-is_driven.events.items ≡ (old ++ rise z ∷ []) ++ fall z ∷ [] =
          ap (λ v. v.items) w.events-is ∙ w.in_ok-push-2.ensures.items
          ∙ ap (λ es. es ++ fall z ∷ []) w.in_ok-push.ensures.items in
          pushed ∙ driven_more signals z x c.loop-z-test.true c.index-signals-z.is old
          (sym kind ∙ w.if-is_driven.true) c.loop-z.invariant)
      | else-is_driven w ↦ ap (λ v. v.items) w.events-is
          ∙ driven_pass signals z x c.loop-z-test.true c.index-signals-z.is old
          (sym kind ∙ w.if-is_driven.false) c.loop-z.invariant
    ]
