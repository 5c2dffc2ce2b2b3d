use Rattle.std.proofs.Common.{List, ℕ, Bor, Some, sym, ap, ◌∙◌}
use Rattle.si_tokens.specs.SumParts.{literal_part}
use Rattle.si_tokens.proofs.LinePartLemmas.{with_fault, with_value}
use Rattle.si_netlist_reader.proofs.gate_reader.read_literals.Goals as goal
use Rattle.si_netlist_reader.proofs.gate_reader.read_literals.Goals.{in-Err, in-Ok+in_ok-push-in-Ok}

pub loop-word-preserved : goal.loop-word-preserved
loop-word-preserved c =
    let now : Bor (List ℕ) → List ℕ = λ w. w.now in
    let read = sym c.in-Some.ensures.read in
    elim c.match-literal.branch [
      | in-Err w ↦ rw (w.literals-is, w.fault-is, w.or-fault.ensures)
          (sym (with_fault (λ before. literal_part c.args.signals.now) now c.loop-word.literals.items c.loop-word.fault
          c.args.words.now c.loop-word.word-index _ c.loop-word-test.true w.in-Err.kind
          (read ∙ ap (λ r. Some r) w.in-Err.is)) ∙ c.loop-word.invariant)
      | in-Ok+in_ok-push-in-Ok w ↦ rw (w.literals-is, w.fault-is, w.in_ok-push-in-Ok.ensures.items)
          (sym (with_value (λ before. literal_part c.args.signals.now) now c.loop-word.literals.items c.loop-word.fault
          c.args.words.now c.loop-word.word-index _ c.loop-word-test.true w.in-Ok.literal
          (read ∙ ap (λ r. Some r) w.in-Ok.is)) ∙ c.loop-word.invariant)
    ]
