use Rattle.std.proofs.Common.{subst}
use Rattle.si_match.specs.Functions.{AreFunctions}
use Rattle.si_match.proofs.functions.LibraryFunctions.tables.Goals as goal

pub returns-clause-tables : goal.returns-clause-tables
returns-clause-tables c =
    rw c.as_slice.ensures.value (subst (λ l. AreFunctions l c.self.inside.tables.items) c.self.view_is
    c.self.invariant.0)
