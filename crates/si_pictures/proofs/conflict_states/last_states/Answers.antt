use Rattle.std.proofs.Common.{◌<◌, ◌∙◌, ℕ, Option, ap, arith, sym}
use Rattle.std.specs.BTreeMap.{get}
use Rattle.std.specs.Ordering.{nat_cmp}
use Rattle.si_base.specs.Graph.{StateGraph}
use Rattle.si_checks.proofs.ConflictLemmas.{other_key}
use Rattle.si_pictures.proofs.InConflictMarks.{by_code_more}
use Rattle.si_pictures.proofs.conflict_states.last_states.Goals as goal

pub loop-k-preserved : goal.loop-k-preserved
loop-k-preserved c =
    let d = c.args.graph.now in
    let k = c.loop-k.k in
    let states = c.states-k-end.ensures ∙ ap (λ (g : StateGraph). g.states) c.graph.ensures.same in
    let within : k < d.graph.states = omega (arith, c.loop-k-test.true, states) in
    let old : ℕ → Option ℕ = λ n. get nat_cmp c.loop-k.lasts n in
    let new : ℕ → Option ℕ = λ n. get nat_cmp c.insert.new.self n in
    by_code_more d k old new within c.loop-k.invariant
    (ap new (sym c.code.ensures) ∙ c.in_ok-insert.ensures.updates.1)
    (λ n apart. c.in_ok-insert.ensures.updates.2 n (other_key c.code.result n (λ same. apart (same ∙ c.code.ensures))))
