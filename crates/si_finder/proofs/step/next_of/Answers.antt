use Rattle.std.proofs.lemmas.Result.{IfOk-weaker}
use Rattle.si_finder.specs.declared.next.Next.{Next}
use Rattle.si_finder.specs.Loops.Next.{IsDecided, IsNextFor}
use Rattle.si_finder.proofs.StepLemmas.{decided_next}
use Rattle.si_finder.proofs.step.next_of.Goals as goal

pub returns : goal.returns
returns c =
    let l = c.args.lineage.now in
    let n = c.args.netlist.now in
    let plus = c.in_ok-sets.sets.plus in
    let minus = c.in_ok-sets.sets.minus in
    let d = c.current.result.now in
    IfOk-weaker c.decided.result (λ (x : Next). IsDecided d.graph plus minus x)
    (λ (x : Next). IsNextFor l.given.graph n l.current x)
    (λ x decided. decided_next l.given.graph n l.current plus minus d x c.in_ok-sets.ensures c.current.ensures.same
    decided)
    c.decided.ensures
