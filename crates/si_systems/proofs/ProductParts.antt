-- The parts of a product: the graphs that texts give, each of which is deterministic.
use Rattle.std.proofs.Common.{◌≡◌, ℕ, zero, suc, ◌<◌, List, [], ◌∷◌, length, All, Contains, Ok, refl, sym, ap, subst}
use Rattle.std.proofs.Common.{◌∙◌, arith, inl, inr, slice_index}
use Rattle.si_base.specs.declared.ids.Event.{Event}
use Rattle.si_base.specs.declared.graph.Signal.{Signal}
use Rattle.si_base.specs.Codes.{IsDeterministic}
use Rattle.si_base.specs.GivenGraph.{Sg}
use Rattle.si_base.specs.Graph.{StateGraph, IsGraph}
use Rattle.si_base.proofs.StepCodes.{step_within}
use Rattle.si_composing.proofs.TupleLemmas.{is_there, there_is}
use Rattle.si_product.specs.Loops.System as system
use Rattle.si_product.specs.Parts.{part_at, product_signals}
use Rattle.si_product.specs.Product.{IsProduct, IsReached, MoveTogether, TupleWalk, starts}
use Rattle.si_product.proofs.PartLemmas.{distinct_at, event_or_not, graph_at}
use Rattle.si_product.proofs.TupleWalks.{reached_width, start_at}
use Rattle.si_readings.proofs.CheckNames.{given_named_states}
use Rattle.si_readings.proofs.StageLemmas.{one_value, passed}
use Rattle.si_systems.specs.Loops.Deterministic.{AreParts}
use Rattle.si_systems.specs.Loops.Parts.{AreGiven, AreTuplesOf}
use Rattle.si_systems.specs.Names.{IsTupleOf}
use Rattle.si_systems.specs.Product.{all_deterministic}
use Rattle.si_systems.specs.ProductLaws.{graphs_of}

-- ---- what the stages give
pub are_parts : (given : List Sg) (parts : List StateGraph) → all_deterministic given (Ok parts) → AreParts given parts
are_parts [] parts none = subst (AreParts []) (sym (one_value (Ok parts) parts [] refl none)) tt
are_parts (g ∷ gs) parts all =
    let first = passed _ _ parts all in
    let rest = passed (all_deterministic gs) _ parts first.2 in
    subst (AreParts (g ∷ gs)) (sym (one_value (Ok parts) parts (first.0 ∷ rest.0) refl rest.2))
    (first.1, are_parts gs rest.0 rest.1)

pub as_many : (given : List Sg) (parts : List StateGraph) → AreParts given parts → length given ≡ length parts
as_many [] [] are = refl
as_many [] (p ∷ ps) are = absurd are
as_many (g ∷ gs) [] are = absurd are
as_many (g ∷ gs) (p ∷ ps) are = ap suc (as_many gs ps are.1)

pub same_graphs : (given : List Sg) (parts : List StateGraph) → AreParts given parts → parts ≡ graphs_of given
same_graphs [] [] are = refl
same_graphs [] (p ∷ ps) are = absurd are
same_graphs (g ∷ gs) [] are = absurd are
same_graphs (g ∷ gs) (p ∷ ps) are =
    ap (λ (x : StateGraph). x ∷ ps) are.0.1
    ∙ ap (λ (xs : List StateGraph). g.graph ∷ xs) (same_graphs gs ps are.1)

pub all_are_deterministic : (given : List Sg) (parts : List StateGraph) → AreParts given parts
    → All IsDeterministic parts
all_are_deterministic given [] are k d below = absurd (omega (arith, below))
all_are_deterministic [] (p ∷ ps) are k d below = absurd are
all_are_deterministic (g ∷ gs) (p ∷ ps) are zero d below = subst IsDeterministic (sym are.0.1) are.0.0
all_are_deterministic (g ∷ gs) (p ∷ ps) are (suc k) d below =
    all_are_deterministic gs ps are.1 k d (omega (arith, below))

pub all_graphs : (given : List Sg) → AreGiven given → All IsGraph (graphs_of given)
all_graphs [] are k d below = absurd (omega (arith, below))
all_graphs (g ∷ gs) are zero d below = (given_named_states are.0.0 g are.0.1).is_graph
all_graphs (g ∷ gs) are (suc k) d below = all_graphs gs are.1 k d (omega (arith, below))

-- they have a product, or a cause against it
pub parts_are : (given : List Sg) (parts : List StateGraph) → AreGiven given → AreParts given parts
    → system.AreParts parts
parts_are given parts are of = record {
  graphs = subst (λ (ps : List StateGraph). All IsGraph ps) (sym (same_graphs given parts of)) (all_graphs given are);
  deterministic = all_are_deterministic given parts of;
}

-- ---- reached tuples are tuples of states
module _ (parts : List StateGraph) (whole : List Signal) (graphs : All IsGraph parts) where
  abbrev AreWithin : List ℕ → Type 0
  AreWithin xs = (i : ℕ) → i < length parts → slice_index xs i < (part_at parts i).states

  move_within : (xs : List ℕ) (e : Event) (ys : List ℕ) → AreWithin xs → MoveTogether parts whole xs e ys
      → AreWithin ys
  move_within xs e ys within move i below =
      let g = part_at parts i in
      let moves = move.moves i below in
      elim (event_or_not whole e g (distinct_at parts graphs i below)) [
        | inl own ↦ (step_within g (slice_index xs i) own.0 (slice_index ys i) (graph_at parts graphs i below)
            (moves.steps own.0 own.1)).2
        | inr none ↦ subst (λ (s : ℕ). s < (part_at parts i).states) (sym (moves.stays none)) (within i below)
      ]

  walk_within : (xs : List ℕ) (es : List Event) (ys : List ℕ) → AreWithin xs → TupleWalk parts whole xs es ys
      → AreWithin ys
  walk_within xs [] ys within walk = subst AreWithin walk within
  walk_within xs (e ∷ es) ys within walk =
      walk_within walk.0 es ys (move_within xs e walk.0 within walk.1) walk.2

  reached_within : (xs : List ℕ) → IsReached parts whole xs → AreWithin xs
  reached_within xs reached = walk_within (starts parts) reached.0 xs
      (λ i below. subst (λ (s : ℕ). s < (part_at parts i).states) (sym (start_at parts i below))
      (graph_at parts graphs i below).starts) reached.1

is_tuple : (given : List Sg) (xs : List ℕ) → AreGiven given → length xs ≡ length (graphs_of given)
    → ((i : ℕ) → i < length (graphs_of given) → slice_index xs i < (part_at (graphs_of given) i).states)
    → IsTupleOf given xs
is_tuple [] [] are width within = tt
is_tuple [] (x ∷ xs) are width within = absurd (omega (arith, width))
is_tuple (g ∷ gs) [] are width within = absurd (omega (arith, width))
is_tuple (g ∷ gs) (x ∷ xs) are width within =
    let names : length g.states ≡ g.graph.states = (given_named_states are.0.0 g are.0.1).names in
    let first : x < g.graph.states = within 0 (omega arith) in (
      omega (arith, first, names),
      is_tuple gs xs are.1 (omega (arith, width)) (λ i below. within (suc i) (omega (arith, below))),
    )

module _ (given : List Sg) (are : AreGiven given) where
  each_tuple : (tuples : List (List ℕ)) → ((xs : List ℕ) → Contains tuples xs → IsTupleOf given xs)
      → AreTuplesOf given tuples
  each_tuple [] all = tt
  each_tuple (xs ∷ tuples) all = (
    all xs (is_there (xs ∷ tuples) xs 0 refl),
    each_tuple tuples (λ ys there. (
        let p = there_is tuples ys there in all ys (is_there (xs ∷ tuples) ys (suc p.0) p.2))),
  )

  pub graph_tuples : (tuples : List (List ℕ)) (whole : StateGraph) → IsProduct (graphs_of given) tuples whole
      → AreTuplesOf given tuples
  graph_tuples tuples whole is = each_tuple tuples (λ xs there. (
      let graphs = graphs_of given in
      let signals = product_signals graphs in
      let reached = (is.reached.all xs).0 there in
      is_tuple given xs are (reached_width graphs signals xs reached)
      (reached_within graphs signals (all_graphs given are) xs reached)))

pub product_tuples : (given : List Sg) (parts : List StateGraph) (tuples : List (List ℕ)) (whole : StateGraph)
    → AreGiven given → AreParts given parts → IsProduct parts tuples whole → AreTuplesOf given tuples
product_tuples given parts tuples whole are of is = graph_tuples given are tuples whole
    (subst (λ (ps : List StateGraph). IsProduct ps tuples whole) (same_graphs given parts of) is)
