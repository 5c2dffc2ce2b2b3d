-- What the rule comes to, before a search.
use Rattle.std.specs.Prelude.{◌≡◌, ℕ, List}
use Rattle.si_base.specs.Codes.{CodedGraph}
use Rattle.si_circuit.specs.declared.style.Style.{Style}
use Rattle.si_insert.specs.Lineage.{given_current}
use Rattle.si_resolve.specs.Trace.{EndsUnresolved}
use Rattle.si_suggest.specs.Suggested.{IsSuggested}
use Rattle.si_suggest.specs.declared.suggest.ByRule.{ByRule}
use Rattle.si_suggest.specs.declared.suggest.ByRule.TheVariants.{Done, Stuck}

-- a circuit that may be suggested, or the end of the rule at a conflict
abbrev pub ShowsByRule : CodedGraph → Style → List ℕ → List (List ℕ) → ByRule → Type 0
ShowsByRule given style model states (Done circuit) = IsSuggested given style model states circuit
ShowsByRule given style model states (Stuck l p q) =
    (l.given ≡ given) × EndsUnresolved (given_current given) l.trace l.current (p, q)
