-- (command) The product of graphs.
use Rattle.std.specs.Prelude.{◌≡◌, List, Ok, Err, ℕ}
use Rattle.si_base.specs.Codes.{IsDeterministic}
use Rattle.si_base.specs.GivenGraph.{Sg}
use Rattle.si_base.specs.Graph.{StateGraph}
use Rattle.si_base.specs.Order.{IsFirst}
use Rattle.si_base.specs.Proper.{Split, Splits, split_place}
use Rattle.si_product.specs.Causes.{ShowsNoProduct}
use Rattle.si_product.specs.Product.{IsProduct}
use Rattle.si_product.specs.declared.product.NoProduct.{NoProduct}
use Rattle.si_product.specs.declared.product.NoProduct.TheVariants as cause
use Rattle.si_refusals.specs.Refusal.{TextRefusal, Improper}
use Rattle.si_refusals.specs.Refusal as answer
use Rattle.si_refusals.specs.Stages.{Stage, ◌>>=◌, each}
use Rattle.si_refusals.specs.declared.breach.NamedBreach.{NamedBreach}
use Rattle.si_refusals.specs.declared.breach.NamedBreach.TheVariants.{Nondeterministic}
use Rattle.si_refusals.specs.declared.uncomposed.NamedCause.{NamedCause}
use Rattle.si_refusals.specs.declared.uncomposed.NamedCause.TheVariants as named
use Rattle.si_sg.specs.CanonicalText.{event_word, sg_text, state_at}
use Rattle.si_systems.specs.Compose.{graphs_in}
use Rattle.si_systems.specs.Names.{composed_sg}

-- two arcs of one state and one event, by the names of states and the word of the event
abbrev pub split_name : StateGraph → (states : List (List ℕ)) → Split → NamedBreach
split_name graph states b = Nondeterministic (state_at states b.s) (event_word graph.signals b.e)
    (state_at states b.t) (state_at states b.u)

-- the first of these is shown
abbrev pub ShowsFirstSplit : StateGraph → (states : List (List ℕ)) → NamedBreach → Type 0
ShowsFirstSplit graph states shown = (b : Split) × IsFirst split_place (Splits graph) b
    × (shown ≡ split_name graph states b)

-- the graph, where it is deterministic: else its first two arcs of one state and one event
abbrev pub deterministic : StateGraph → (states : List (List ℕ)) → Stage TextRefusal StateGraph
deterministic graph states (Ok part) = IsDeterministic graph × (part ≡ graph)
deterministic graph states (Err refusal) = (shown : NamedBreach)
    × ShowsFirstSplit graph states shown × (refusal ≡ Improper shown)

-- these graphs, where each is deterministic
abbrev pub all_deterministic : List Sg → Stage TextRefusal (List StateGraph)
all_deterministic given = each (λ g. deterministic g.graph g.states) given

-- a cause against a product; want of memory has no name
abbrev pub IsCauseNamed : NoProduct → NamedCause → Type 0
IsCauseNamed cause.NoMemory shown = ⊥
IsCauseNamed (cause.Driven name) shown = shown ≡ named.Driven name
IsCauseNamed (cause.TooMany count) shown = shown ≡ named.Signals count
IsCauseNamed cause.States shown = shown ≡ named.States
IsCauseNamed cause.Arcs shown = shown ≡ named.Arcs

-- the parts have a product, and the output is its text
pub record TellsProduct (given : List Sg) (parts : List StateGraph) (output : List ℕ) : Type 0 where
  pub tuples : List (List ℕ)
  pub whole : StateGraph
  pub is_product : IsProduct parts tuples whole
  pub output_is : output ≡ sg_text (composed_sg given tuples whole)

-- the refusal shows the first cause against it
pub record TellsNoProduct (parts : List StateGraph) (refusal : TextRefusal) : Type 0 where
  pub cause : NoProduct
  pub first : ShowsNoProduct parts cause
  pub shown : NamedCause
  pub named : IsCauseNamed cause shown
  pub refusal_is : refusal ≡ answer.Uncomposed shown

-- the product of the given graphs, of which these are the parts
abbrev pub production : List Sg → List StateGraph → Stage TextRefusal (List ℕ)
production given parts (Ok output) = TellsProduct given parts output
production given parts (Err refusal) = TellsNoProduct parts refusal

-- each file with its text
abbrev pub product : (files texts : List (List ℕ)) → Stage TextRefusal (List ℕ)
product files texts = do
  given ← graphs_in files texts
  parts ← all_deterministic given
  production given parts
