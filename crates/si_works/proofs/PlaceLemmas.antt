-- An interference shows parts and their states.
use Rattle.std.proofs.Common.{◌≡◌, ℕ, zero, suc, ◌<◌, ◌⊎◌, List, [], ◌∷◌, length, All, slice_index, Ok, refl, sym, ap, subst, ◌∙◌, arith, inl, inr}
use Rattle.std.proofs.lemmas.List.{length-map}
use Rattle.si_base.specs.Codes.{CodedGraph, IsCoded}
use Rattle.si_base.specs.Graph.{StateGraph, IsGraph}
use Rattle.si_base.specs.declared.ids.Event.{Event}
use Rattle.si_base.specs.declared.graph.Signal.{Signal}
use Rattle.si_base.proofs.StepCodes.{step_within}
use Rattle.si_compose.specs.Composed.{own_event}
use Rattle.si_compose.proofs.SameSignals.{has_or_not}
use Rattle.si_composing.specs.JoinedSignals.{graph_of, joined_signals}
use Rattle.si_composing.proofs.Composing.{coded_at}
use Rattle.si_composing.specs.Tuples.{IsReached, MoveTogether, TupleWalk, starts}
use Rattle.si_composing.proofs.TupleLemmas.{reached_width, start_at}
use Rattle.si_groups.specs.Groups.{group_of, members}
use Rattle.si_groups.specs.Loops.Between.{IsGroup}
use Rattle.si_groups.specs.Together.{IsShownIn, ShowsMisfit}
use Rattle.si_groups.specs.declared.misfit.Interference.{Interference}
use Rattle.si_groups.specs.declared.misfit.Misfit.{Misfit}
use Rattle.si_groups.specs.declared.misfit.Misfit.TheVariants as misfit
use Rattle.si_groups.proofs.AloneJoined.{graph_same, members_coded, number_within, size}
use Rattle.si_groups.proofs.GroupLemmas.{group_is}
use Rattle.si_readings.proofs.CheckNames.{given_named_states}
use Rattle.si_readings.proofs.StageLemmas.{one_value, passed}
use Rattle.si_refusals.specs.Stages.{each}
use Rattle.si_works.specs.Audited.{AuditedPart, audited_part}
use Rattle.si_works.specs.Loops.Places.{ArePlaces, IsPlaced, ShowsPlaced}
use Rattle.si_works.specs.Works.{graphs, states_of}
use Rattle.si_works.proofs.AuditedLemmas.{part_is}

-- ---- reached tuples are tuples of states
module _ (parts : List CodedGraph) (whole : List Signal)
    (graphs : (i : ℕ) → i < length parts → IsGraph (graph_of parts i)) where
  abbrev AreWithin : List ℕ → Type 0
  AreWithin xs = (i : ℕ) → i < length parts → slice_index xs i < (graph_of parts i).states

  move_within : (xs : List ℕ) (e : Event) (ys : List ℕ) → AreWithin xs → MoveTogether parts whole xs e ys
      → AreWithin ys
  move_within xs e ys within move i below = elim (has_or_not whole e.sig (graph_of parts i).signals) [
    | inl has ↦ (step_within (graph_of parts i) (slice_index xs i) (own_event e has.0) (slice_index ys i)
        (graphs i below) ((move.moves i below).steps has.0 has.1)).2
    | inr none ↦ subst (λ (s : ℕ). s < (graph_of parts i).states) (sym ((move.moves i below).stays none))
        (within i below)
  ]

  walk_within : (xs : List ℕ) (es : List Event) (ys : List ℕ) → AreWithin xs → TupleWalk parts whole xs es ys
      → AreWithin ys
  walk_within xs [] ys within walk = subst AreWithin walk within
  walk_within xs (e ∷ es) ys within walk =
      walk_within walk.0 es ys (move_within xs e walk.0 within walk.1) walk.2

  reached_within : (xs : List ℕ) → IsReached parts whole xs → AreWithin xs
  reached_within xs reached = walk_within (starts parts) reached.0 xs
      (λ i below. subst (λ (s : ℕ). s < (graph_of parts i).states) (sym (start_at parts i below))
      (graphs i below).starts) reached.1

module _ (parts : List AuditedPart) where
  -- each state of a part has a name
  abbrev pub AreNamed : Type 0
  AreNamed = (k : ℕ) → k < length parts → (graph_of (graphs parts) k).states ≡ length (states_of parts k)

  are_places : (group at : List ℕ) → length at ≡ length group
      → ((a : ℕ) → a < length group → slice_index group a < length parts)
      → ((a : ℕ) → a < length group → slice_index at a < length (states_of parts (slice_index group a)))
      → ArePlaces parts group at
  are_places [] [] width within states = tt
  are_places [] (s ∷ at) width within states = absurd (omega (arith, width))
  are_places (k ∷ group) [] width within states = absurd (omega (arith, width))
  are_places (k ∷ group) (s ∷ at) width within states = (
    within 0 (omega arith),
    states 0 (omega arith),
    are_places group at (omega (arith, width)) (λ a below. within (suc a) (omega (arith, below)))
        (λ a below. states (suc a) (omega (arith, below))),
  )

  module _ (coded : All IsCoded (graphs parts)) (named : AreNamed) where
    as_many : length (graphs parts) ≡ length parts
    as_many = length-map parts (λ (p : AuditedPart). p.coded)

    shown_placed : (group : List ℕ) → IsGroup (graphs parts) group → (i j : ℕ) → i < j → j < length (graphs parts)
        → (x : Interference) → IsShownIn (members (graphs parts) group) group i j x → IsPlaced parts x
    shown_placed group is i j less within x shown =
        let those = members (graphs parts) group in
        let reached = shown.first.reached in
        let many = size (graphs parts) group is in
        let width = reached_width those (joined_signals those) x.at reached in
        let states = reached_within those (joined_signals those)
        (λ a below. (coded_at those (members_coded (graphs parts) group is coded) a below).graph_is) x.at reached in
        record {
          places = subst (λ (g : List ℕ). ArePlaces parts g x.at) (sym shown.group_is)
              (are_places group x.at (width ∙ many)
              (λ a below. (let inside = number_within (graphs parts) group is a below in omega (arith, inside, as_many)))
              (λ a below. (
              let inside = number_within (graphs parts) group is a below in
              let state = states a (omega (arith, below, many)) in
              let same = ap (λ (g : StateGraph). g.states) (graph_same (graphs parts) group is a below) in
              let names = named (slice_index group a) (omega (arith, inside, as_many)) in
              omega (arith, state, same, names))));
          driver = elim (first_of shown.first.these) [
            | inl same ↦ omega (arith, same, less, within, as_many)
            | inr same ↦ omega (arith, same, within, as_many)
          ];
          refuser = elim (second_of shown.first.these) [
            | inl same ↦ omega (arith, same, within, as_many)
            | inr same ↦ omega (arith, same, less, within, as_many)
          ];
        }
      where
        first_of : ((x.driver ≡ i) × (x.refuser ≡ j)) ⊎ ((x.driver ≡ j) × (x.refuser ≡ i))
            → (x.driver ≡ i) ⊎ (x.driver ≡ j)
        first_of (inl these) = inl these.0
        first_of (inr these) = inr these.0

        second_of : ((x.driver ≡ i) × (x.refuser ≡ j)) ⊎ ((x.driver ≡ j) × (x.refuser ≡ i))
            → (x.refuser ≡ j) ⊎ (x.refuser ≡ i)
        second_of (inl these) = inl these.1
        second_of (inr these) = inr these.1

    pub misfit_placed : (e : Misfit) → ShowsMisfit (graphs parts) e → ShowsPlaced parts e
    misfit_placed misfit.NoMemory x = tt
    misfit_placed (misfit.Signal clash name) x = tt
    misfit_placed (misfit.TooMany count) x = tt
    misfit_placed misfit.States x = tt
    misfit_placed (misfit.Interferes y) x =
        let m = x.1 in
        shown_placed (group_of (graphs parts) m.i m.j m.stops.0)
        (group_is (graphs parts) m.i m.j m.looked_at.0 m.within m.stops.0) m.i m.j m.looked_at.0 m.within y m.stops.2.1

-- ---- parts that texts give have names for their states
named_more : (p : AuditedPart) (parts : List AuditedPart) → p.coded.graph.states ≡ length p.given.states
    → AreNamed parts → AreNamed (p ∷ parts)
named_more p parts one others zero below = one
named_more p parts one others (suc k) below = others k (omega (arith, below))

pub all_named : (pairs : List ((List ℕ × List ℕ) × (List ℕ × List ℕ))) (parts : List AuditedPart)
    → each (λ p. audited_part p.0.0 p.1.0 p.0.1 p.1.1) pairs (Ok parts) → AreNamed parts
all_named [] parts all = subst AreNamed (sym (one_value (Ok parts) parts [] refl all))
    (λ k below. absurd (omega (arith, below)))
all_named (p ∷ pairs) parts all =
    let first = passed _ _ parts all in
    let rest = passed (each (λ q. audited_part q.0.0 q.1.0 q.0.1 q.1.1) pairs) _ parts first.2 in
    let is = part_is p.0.0 p.1.0 p.0.1 p.1.1 first.0 first.1 in
    subst AreNamed (sym (one_value (Ok parts) parts (first.0 ∷ rest.0) refl rest.2))
    (named_more first.0 rest.0
    (ap (λ (g : StateGraph). g.states) is.sound.same_graph ∙ sym (given_named_states p.1.0 first.0.given is.is_given).names)
    (all_named pairs rest.0 rest.1))
