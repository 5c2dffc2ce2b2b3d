use Rattle.std.proofs.Common.{◌∙◌, sym}
use Rattle.si_suggest.proofs.NeverLemmas.{of_found}
use Rattle.si_suggest.proofs.never.first_never.Goals as goal

pub returns-then-is_some : goal.returns-then-is_some
returns-then-is_some c =
    of_found c.args.coded.now c.in_ok-twins.twins c.first_twin_conflict.result c.in_ok-twins.ensures
    (sym c.is_some.ensures ∙ c.if-is_some.true) c.first_twin_conflict.ensures
