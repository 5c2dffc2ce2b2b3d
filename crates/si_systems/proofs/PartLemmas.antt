-- Graphs that texts give, the parts that they are, and tuples of their states.
use Rattle.std.proofs.Common.{◌≡◌, ℕ, ◌<◌, List, [], ◌∷◌, length, Ok, slice_index, refl, sym, ap, subst}
use Rattle.std.proofs.Common.{zero, suc, get_or, inl, inr, arith, All, Contains}
use Rattle.si_base.specs.declared.ids.Event.{Event}
use Rattle.si_base.specs.declared.graph.Signal.{Signal}
use Rattle.si_base.specs.Codes.{CodedGraph, IsCoded}
use Rattle.si_base.specs.GivenGraph.{Sg}
use Rattle.si_base.specs.Graph.{StateGraph, IsGraph}
use Rattle.si_base.proofs.StepCodes.{step_within}
use Rattle.si_compose.specs.Composed.{own_event}
use Rattle.si_compose.proofs.SameSignals.{has_or_not}
use Rattle.si_composing.specs.Causes.{ShowsUncomposed}
use Rattle.si_composing.specs.JoinedSignals.{graph_of, joined_signals}
use Rattle.si_composing.specs.SideBySide.{IsSideBySide}
use Rattle.si_composing.specs.Tuples.{MoveTogether, TupleWalk, IsReached, starts}
use Rattle.si_composing.specs.declared.compose.Uncomposed.{Uncomposed}
use Rattle.si_composing.specs.declared.compose.Uncomposed.TheVariants as cause
use Rattle.si_composing.proofs.OneAnswer.{all_there}
use Rattle.si_composing.proofs.TupleLemmas.{is_there, reached_width, start_at, there_is}
use Rattle.si_readings.specs.Checks.{IsNamed}
use Rattle.si_readings.specs.Readings.{graph_in}
use Rattle.si_readings.proofs.CheckNames.{given_named_states}
use Rattle.si_readings.proofs.StageLemmas.{one_value, passed}
use Rattle.si_refusals.specs.Stages.{each}
use Rattle.si_sg.specs.GivenGraph.{IsGivenBy}
use Rattle.si_systems.specs.Compose.{parts_of}
use Rattle.si_systems.specs.Laws.{AreSound}
use Rattle.si_systems.specs.Loops.Parts.{AreGiven, AreTuplesOf, ShowsTupleOf}
use Rattle.si_systems.specs.Names.{IsTupleOf}

-- ---- what the stages give
pub are_given : (files : List (List ℕ × List ℕ)) (given : List Sg)
    → each (λ f. graph_in f.0 f.1) files (Ok given) → AreGiven given
are_given [] given none =
    subst AreGiven (sym (one_value (Ok given) given [] refl none)) tt
are_given (f ∷ files) given all =
    let first = passed (graph_in f.0 f.1) _ given all in
    let rest = passed (each (λ f. graph_in f.0 f.1) files) _ given first.2 in
    subst AreGiven (sym (one_value (Ok given) given (first.0 ∷ rest.0) refl rest.2))
    ((f.1, first.1), are_given files rest.0 rest.1)

pub are_sound : (given : List Sg) (parts : List CodedGraph) → parts_of given (Ok parts) → AreSound given parts
are_sound [] parts none = subst (AreSound []) (sym (one_value (Ok parts) parts [] refl none)) tt
are_sound (g ∷ gs) parts all =
    let first = passed _ _ parts all in
    let rest = passed (parts_of gs) _ parts first.2 in
    subst (AreSound (g ∷ gs)) (sym (one_value (Ok parts) parts (first.0 ∷ rest.0) refl rest.2))
    (first.1, are_sound gs rest.0 rest.1)

pub given_at : (given : List Sg) (k : ℕ) (d : Sg) → AreGiven given → k < length given
    → (text : List ℕ) × IsGivenBy text (get_or given k d)
given_at [] k d are below = absurd (omega (arith, below))
given_at (g ∷ gs) zero d are below = are.0
given_at (g ∷ gs) (suc k) d are below = given_at gs k d are.1 (omega (arith, below))

pub named_at : (given : List Sg) (k : ℕ) (d : Sg) → AreGiven given → k < length given
    → IsNamed (get_or given k d).graph (get_or given k d).states
named_at given k d are below = (let found = given_at given k d are below in given_named_states found.0 _ found.1)

pub as_many : (given : List Sg) (parts : List CodedGraph) → AreSound given parts → length given ≡ length parts
as_many [] [] sound = refl
as_many [] (c ∷ cs) sound = absurd sound
as_many (g ∷ gs) [] sound = absurd sound
as_many (g ∷ gs) (c ∷ cs) sound = ap suc (as_many gs cs sound.1)

graphs_at : (given : List Sg) (parts : List CodedGraph) → AreSound given parts → (i : ℕ) → i < length parts
    → IsGraph (graph_of parts i)
graphs_at given [] sound i below = absurd (omega (arith, below))
graphs_at [] (c ∷ cs) sound i below = absurd sound
graphs_at (g ∷ gs) (c ∷ cs) sound zero below = sound.0.coded_is.graph_is
graphs_at (g ∷ gs) (c ∷ cs) sound (suc i) below = graphs_at gs cs sound.1 i (omega (arith, below))

pub all_coded : (given : List Sg) (parts : List CodedGraph) → AreSound given parts → All IsCoded parts
all_coded given [] sound k d below = absurd (omega (arith, below))
all_coded [] (c ∷ cs) sound k d below = absurd sound
all_coded (g ∷ gs) (c ∷ cs) sound zero d below = sound.0.coded_is
all_coded (g ∷ gs) (c ∷ cs) sound (suc k) d below = all_coded gs cs sound.1 k d (omega (arith, below))

-- ---- reached tuples are tuples of states
module _ (parts : List CodedGraph) (whole : List Signal)
    (graphs : (i : ℕ) → i < length parts → IsGraph (graph_of parts i)) where
  abbrev AreWithin : List ℕ → Type 0
  AreWithin xs = (i : ℕ) → i < length parts → slice_index xs i < (graph_of parts i).states

  move_within : (xs : List ℕ) (e : Event) (ys : List ℕ) → AreWithin xs → MoveTogether parts whole xs e ys
      → AreWithin ys
  move_within xs e ys within move i below = elim (has_or_not whole e.sig (graph_of parts i).signals) [
    | inl has ↦ (step_within (graph_of parts i) (slice_index xs i) (own_event e has.0) (slice_index ys i)
        (graphs i below) ((move.moves i below).steps has.0 has.1)).2
    | inr none ↦ subst (λ (s : ℕ). s < (graph_of parts i).states) (sym ((move.moves i below).stays none))
        (within i below)
  ]

  walk_within : (xs : List ℕ) (es : List Event) (ys : List ℕ) → AreWithin xs → TupleWalk parts whole xs es ys
      → AreWithin ys
  walk_within xs [] ys within walk = subst AreWithin walk within
  walk_within xs (e ∷ es) ys within walk =
      walk_within walk.0 es ys (move_within xs e walk.0 within walk.1) walk.2

  pub reached_within : (xs : List ℕ) → IsReached parts whole xs → AreWithin xs
  reached_within xs reached = walk_within (starts parts) reached.0 xs
      (λ i below. subst (λ (s : ℕ). s < (graph_of parts i).states) (sym (start_at parts i below))
      (graphs i below).starts) reached.1

is_tuple : (given : List Sg) (parts : List CodedGraph) (xs : List ℕ) → AreGiven given → AreSound given parts
    → length xs ≡ length parts → ((i : ℕ) → i < length parts → slice_index xs i < (graph_of parts i).states)
    → IsTupleOf given xs
is_tuple [] [] [] are sound width within = tt
is_tuple [] [] (x ∷ xs) are sound width within = absurd (omega (arith, width))
is_tuple [] (c ∷ cs) xs are sound width within = absurd sound
is_tuple (g ∷ gs) [] xs are sound width within = absurd sound
is_tuple (g ∷ gs) (c ∷ cs) [] are sound width within = absurd (omega (arith, width))
is_tuple (g ∷ gs) (c ∷ cs) (x ∷ xs) are sound width within =
    let names : length g.states ≡ g.graph.states = (given_named_states are.0.0 g are.0.1).names in
    let states : c.graph.states ≡ g.graph.states = ap (λ (h : StateGraph). h.states) sound.0.same_graph in
    let first : x < c.graph.states = within 0 (omega arith) in (
      omega (arith, first, names, states),
      is_tuple gs cs xs are.1 sound.1 (omega (arith, width)) (λ i below. within (suc i) (omega (arith, below))),
    )

module _ (given : List Sg) (parts : List CodedGraph) (are : AreGiven given) (sound : AreSound given parts) where
  pub reached_tuple : (xs : List ℕ) → IsReached parts (joined_signals parts) xs → IsTupleOf given xs
  reached_tuple xs reached = is_tuple given parts xs are sound (reached_width parts (joined_signals parts) xs reached)
      (reached_within parts (joined_signals parts) (graphs_at given parts sound) xs reached)

  each_tuple : (tuples : List (List ℕ)) → ((xs : List ℕ) → Contains tuples xs → IsTupleOf given xs)
      → AreTuplesOf given tuples
  each_tuple [] all = tt
  each_tuple (xs ∷ tuples) all = (
    all xs (is_there (xs ∷ tuples) xs 0 refl),
    each_tuple tuples (λ ys there. all ys (contains_more xs tuples ys there)),
  )
    where
      contains_more : (x : List ℕ) (ts : List (List ℕ)) (y : List ℕ) → Contains ts y → Contains (x ∷ ts) y
      contains_more x ts y there = (let p = there_is ts y there in is_there (x ∷ ts) y (suc p.0) p.2)

  pub composed_tuples : (tuples : List (List ℕ)) (whole : StateGraph) → IsSideBySide parts tuples whole
      → AreTuplesOf given tuples
  composed_tuples tuples whole is =
      each_tuple tuples (λ xs there. reached_tuple xs (((all_there parts tuples whole is).all xs).0 there))

  pub shown_tuple : (e : Uncomposed) → ShowsUncomposed parts e → ShowsTupleOf given e
  shown_tuple cause.NoMemory shown = tt
  shown_tuple (cause.Signal clash name) shown = tt
  shown_tuple (cause.TooMany count) shown = tt
  shown_tuple cause.States shown = tt
  shown_tuple (cause.Interferes at name up) shown = reached_tuple at shown.1.1.reached
  shown_tuple cause.Arcs shown = tt
  shown_tuple (cause.Constant name) shown = tt
