use Rattle.si_certify_equations.proofs.StartsLemmas.{refused}
use Rattle.si_certify_equations.proofs.starts.spelled_first.Goals as goal

-- ---- with 0 none fits
pub spelled_later-requires-clause-none : goal.spelled_later-requires-clause-none
spelled_later-requires-clause-none c =
    refused c.in_ok-text.field-0 c.in-Err.reason c.in-Err.is c.in_ok-text.ensures.unfit
