-- States that settle are those that are reached through holding states.
use Rattle.std.proofs.Common.{◌≡◌, ℕ, ◌<◌, Bool, false, List, length, get_or, sym, ◌∙◌, arith}
use Rattle.si_base.specs.declared.ids.Event.{Event}
use Rattle.si_base.specs.Graph.{StateGraph, Step, IsGraph}
use Rattle.si_base.proofs.StepCodes.{step_within}
use Rattle.si_base.specs.Sets.{IsIn}
use Rattle.si_graph.specs.declared.closure.Along.TheVariants.{Out}
use Rattle.si_graph.specs.Closure.{IsClosure}
use Rattle.si_graph.proofs.ClosureLemmas.{closure_is_least}
use Rattle.si_graph.proofs.SearchLemmas.{in_below}
use Rattle.si_divisor.specs.Targets.{IsLeast, Settles, holds}

pub closure_settles : (g : StateGraph) (forced : Bool → ℕ → Bool) (b : Bool) (held seeds found : List Bool)
    → IsGraph g
    → length seeds ≡ g.states → ((s : ℕ) → s < g.states → get_or held s false ≡ holds forced s)
    → ((s : ℕ) → s < g.states → get_or seeds s false ≡ forced b s)
    → IsClosure g Out held seeds found → IsLeast g.states (Settles g forced b) found
closure_settles g forced b held seeds found graph size held_are seeds_are is = record {
  size = is.size;
  meets = record {
    begins = λ s below there. is.seeds_in s (seeds_are s below ∙ there);
    goes_on = λ s e t step there hold. is.closed s t there ((e, step), held_are t (target_below s e t step) ∙ hold);
  };
  least = λ other same rules. closure_is_least g Out held seeds found (IsIn other) is
      (λ s i. (let below : s < g.states = omega (arith, in_below seeds s i, size) in
      rules.begins s below (sym (seeds_are s below) ∙ i)))
      (λ s t here next. rules.goes_on s next.0.0 t next.0.1 here
      (sym (held_are t (target_below s next.0.0 t next.0.1)) ∙ next.1));
}
  where
    target_below : (s : ℕ) (e : Event) (t : ℕ) → Step g s e t → t < g.states
    target_below s e t step = (step_within g s e t graph step).2
