use Rattle.std.proofs.Common.{ℕ, ◌↔◌, List, Contains, subst}
use Rattle.si_match.proofs.functions.LibraryFunctions.of.Goals as goal

pub invariant_of-result : goal.invariant_of-result
invariant_of-result c = (
  subst (λ (ts : List ℕ). (t : ℕ) → Contains c.each_once-tables.result.items t ↔ Contains ts t)
      c.in_ok-all.ensures.tables c.each_once-tables.ensures,
  c.in_ok-all.ensures.library,
)
