use Rattle.std.proofs.Common.{List, ℕ, Bor, Some, sym, ap, ◌∙◌}
use Rattle.si_words.specs.Loops.Reads.{words_now}
use Rattle.si_tokens.proofs.LinePartLemmas.{with_fault, with_value}
use Rattle.si_netlist_reader.specs.GateParts.{cube_part}
use Rattle.si_netlist_reader.proofs.gate_reader.read_sum.Goals as goal
use Rattle.si_netlist_reader.proofs.gate_reader.read_sum.Goals.{in-Err, in-Ok+in_ok-push-in-Ok}

pub loop-part-preserved : goal.loop-part-preserved
loop-part-preserved c =
    let now : Bor (List (Bor (List ℕ))) → List (List ℕ) = λ p. words_now p.now in
    let read = sym c.in-Some.ensures in
    elim c.match-cube.branch [
      | in-Err w ↦ rw (w.cubes-is, w.fault-is, w.or-fault.ensures)
          (sym (with_fault (λ before. cube_part c.args.signals.now) now c.loop-part.cubes.items c.loop-part.fault
          c.deref-part-items.result.now c.loop-part.part-index _ c.loop-part-test.true w.in-Err.kind
          (read ∙ ap (λ r. Some r) w.in-Err.is)) ∙ c.loop-part.invariant)
      | in-Ok+in_ok-push-in-Ok w ↦ rw (w.cubes-is, w.fault-is, w.in_ok-push-in-Ok.ensures.items)
          (sym (with_value (λ before. cube_part c.args.signals.now) now c.loop-part.cubes.items c.loop-part.fault
          c.deref-part-items.result.now c.loop-part.part-index _ c.loop-part-test.true w.in-Ok.cube
          (read ∙ ap (λ r. Some r) w.in-Ok.is)) ∙ c.loop-part.invariant)
    ]
