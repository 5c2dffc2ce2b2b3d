use Rattle.std.proofs.lemmas.Result.{IfOk-weaker}
use Rattle.si_finder.specs.declared.next.Next.{Next}
use Rattle.si_finder.specs.Loops.Next.{IsDecided, IsTorn}
use Rattle.si_finder.proofs.StepLemmas.{judged_decides, torn_decides}
use Rattle.si_finder.proofs.next.decided.Goals as goal

pub returns-in-Ok : goal.returns-in-Ok
returns-in-Ok c = judged_decides c.args.graph.now.graph c.args.sets.now.plus c.args.sets.now.minus c.in-Ok.partition
    c.judged.result c.in_default.ensures c.in-Ok.ensures.classes c.judged.ensures

pub returns-in-Err : goal.returns-in-Err
returns-in-Err c =
    let g = c.args.graph.now.graph in
    let plus = c.args.sets.now.plus in
    let minus = c.args.sets.now.minus in
    IfOk-weaker c.torn.result (λ (x : Next). IsTorn c.in-Err.fault x) (λ (x : Next). IsDecided g plus minus x)
    (λ x torn. torn_decides g plus minus c.in-Err.fault x c.in_default.ensures c.in-Err.ensures.fault torn)
    c.torn.ensures
