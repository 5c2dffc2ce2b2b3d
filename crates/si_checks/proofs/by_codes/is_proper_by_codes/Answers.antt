use Rattle.std.proofs.Common.{refl}
use Rattle.std.proofs.lemmas.Result.{IfOk-weaker}
use Rattle.si_checks.proofs.ByCodesLemmas.{proper_by_codes}
use Rattle.si_checks.proofs.by_codes.is_proper_by_codes.Goals as goal

pub returns-clause-by_codes : goal.returns-clause-by_codes
returns-clause-by_codes c =
    let persistent = c.if-not-is_persistent.ensures.persistent.0 refl in
    IfOk-weaker c.has_unique_codes.result _ _
    (λ is unique. (
      λ yes_unique. record { persistent = persistent; unique = unique.0 yes_unique },
      λ by. unique.1 by.unique,
    ))
    c.has_unique_codes.ensures

pub returns-clause-proper : goal.returns-clause-proper
returns-clause-proper c =
    let persistent = c.if-not-is_persistent.ensures.persistent.0 refl in
    let coded = c.if-not-is_persistent.ensures.coded in
    IfOk-weaker c.has_unique_codes.result _ _
    (λ is unique yes_unique. proper_by_codes c.args.coded.now coded
    (record { persistent = persistent; unique = unique.0 yes_unique }))
    c.has_unique_codes.ensures
