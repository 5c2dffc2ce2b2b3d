use Rattle.std.proofs.Common.{◌≡◌, ◌+◌, ℕ, Bool, List, sym, ap, subst₂, ◌∙◌, arith}
use Rattle.std.proofs.lemmas.Bool.{true≢false}
use Rattle.si_base.specs.Codes.{CodedGraph}
use Rattle.si_base.specs.Graph.{StateGraph}
use Rattle.si_audit.proofs.StateWords.{HasStateNames}
use Rattle.si_audit.proofs.NamedReading.{IsReadTo, some_left, word_passed, word_taken}
use Rattle.si_audit.proofs.named.named_states.Goals as goal
use Rattle.si_audit.proofs.named.named_states.Goals.{then-is_next, else-is_next}

pub overflow_add-taken : goal.overflow_add-taken
overflow_add-taken c = omega (arith, c.loop-s.invariant.1, c.loop-s-test.true)

pub loop-s-preserved : goal.loop-s-preserved
loop-s-preserved c =
    let states = c.args.states.now in
    let l = c.args.lineage.now in
    let words = c.args.words.now in
    let size = c.states-size.result in
    let spelled : HasStateNames states l =
    record { lineage = c.trace-trace.ensures.made; count = c.requires; apart = c.len-count.ensures.distinct } in
    let size_is : size ≡ l.current.coded.graph.states =
    c.states-size.ensures
    ∙ ap (λ (g : StateGraph). g.states) (c.graph.ensures.same
    ∙ ap (λ (d : CodedGraph). d.graph) (c.coded.ensures.same ∙ c.current.ensures.same)) in
    elim c.if-is_next.branch [
      | then-is_next w ↦ (
        word_taken states l words size c.loop-s.s c.loop-s.taken c.loop-s.set spelled size_is c.loop-s-test.true
            c.loop-s.invariant.0 c.if-is_next.taken c.if-is_next.set (c.is_next.ensures.0 w.if-is_next.true)
            w.taken-is (w.set-is ∙ w.add.ensures),
        omega (arith, c.loop-s.invariant.1, w.taken-is),
      )
      | else-is_next w ↦ (
          let P : ℕ → List Bool → Type 0 = λ k set. IsReadTo states l words size (c.loop-s.s + 1) k set in (
            subst₂ P (sym w.taken-is) (sym w.set-is)
                (word_passed states l words size c.loop-s.s c.loop-s.taken c.loop-s.set spelled size_is
                c.loop-s-test.true c.loop-s.invariant.0
                (λ e. true≢false (sym (c.is_next.ensures.1 e) ∙ w.if-is_next.false))),
            omega (arith, c.loop-s.invariant.1, w.taken-is),
          ))
    ]

pub returns-else-taken-len : goal.returns-else-taken-len
returns-else-taken-len c =
    some_left c.args.states.now c.args.lineage.now c.args.words.now c.states-size.result c.loop-s.s c.loop-s.taken
    c.loop-s.set (omega arith) (λ e. c.if-taken-len.false (e ∙ sym c.len.ensures)) c.loop-s.invariant.0
