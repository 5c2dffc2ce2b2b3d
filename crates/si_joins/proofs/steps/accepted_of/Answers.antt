use Rattle.std.proofs.Common.{◌+◌, ◌∙◌, List, length, refl, sym, ap, subst}
use Rattle.si_insert.specs.declared.partition.Class.{Class}
use Rattle.si_joins.specs.Steps.{accepted, told}
use Rattle.si_joins.proofs.ReasonLemmas.{shows_within}
use Rattle.si_refusals.specs.Ending.{Answered, MayStop}
use Rattle.si_refusals.specs.Refusal.{TextRefused}
use Rattle.si_joins.proofs.steps.accepted_of.Goals as goal

pub told-requires-clause-within : goal.told-requires-clause-within
told-requires-clause-within c =
    let kept = c.current.ensures.kept in
    let shows = rw c.current.ensures.same at c.in-Err.ensures.fault in
    shows_within c.args.lineage.now.current.coded c.args.partition kept.coded kept.proper c.requires.lawful c.in-Err.why
    shows

pub returns-in_ok-refusal-in-Err-clause-err : goal.returns-in_ok-refusal-in-Err-clause-err
returns-in_ok-refusal-in-Err-clause-err c =
    let states = c.args.states.now in
    let l = c.args.lineage.now in
    let own = c.args.own.now in
    let k = length l.trace + 1 in
    let shows = rw c.current.ensures.same at c.in-Err.ensures.fault in
    let classes = c.classes.ensures ∙ c.in-Err.ensures.back in
    subst (MayStop (accepted states l k own c.args.partition)) (sym (c.in_ok-refusal-in-Err.ensures
    ∙ ap (λ (cs : List Class). Answered (TextRefused (told states l k own cs c.in-Err.why))) classes))
    (c.in-Err.why, shows, refl)
