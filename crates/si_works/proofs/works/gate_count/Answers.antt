use Rattle.std.proofs.Common.{ℕ, suc, ◌+◌, ◌≡◌, ◌∙◌, ap, take, arith}
use Rattle.si_works.specs.Loops.Parts.{parts_now}
use Rattle.si_works.specs.Works as meaning
use Rattle.si_works.proofs.ShownLemmas.{gates_more}
use Rattle.si_works.proofs.works.gate_count.Goals as goal

pub loop-part-preserved : goal.loop-part-preserved
loop-part-preserved c =
    let k = c.loop-part.part-index in
    let parts = c.args.parts.now in
    let more = gates_more parts k c.part-item.result c.loop-part-test.true c.part-item.is in
    let so_far = c.loop-part.invariant.0 in
    let few = c.loop-part.invariant.1 in
    let next : suc k ≡ k + 1 = omega arith in (
      omega (arith, more, so_far, c.few_gates-count.ensures.count)
          ∙ ap (λ (n : ℕ). meaning.gate_count (parts_now (take n parts))) next,
      omega (arith, few, c.few_gates-count.ensures.few),
    )
