-- A connected graph is proper, or has a first breach.
use Rattle.std.proofs.Common.{◌≡◌, ◌≢◌, ℕ, ◌<◌, false, List, Contains, Option, Some, None, refl, sym, ap₂, subst, ◌∙◌}
use Rattle.std.proofs.Common.{inl, inr}
use Rattle.std.proofs.lemmas.Bool.{cases_eq, cases_order, true≢false, false_from_ne_true}
use Rattle.si_base.specs.declared.ids.Event.{Event}
use Rattle.si_base.specs.declared.graph.Edge.{Edge}
use Rattle.si_base.specs.Graph.{StateGraph, Step, IsGraph, IsNonInput, arc, enables, event_place}
use Rattle.si_base.specs.Codes.{IsConnected, IsConsistent, IsDeterministic}
use Rattle.si_base.specs.Proper.{IsCommutative, Split, Splits, split_place, Fork, Forks, fork_place, Loss, Loses}
use Rattle.si_base.specs.Proper.{loss_place}
use Rattle.si_base.proofs.GraphSteps.{enables-step, step_from_enables}
use Rattle.si_checks.specs.Laws.{ProperOrBreach, AllHold, HasSplit, HasNoValues, HasFork, HasLoss}
use Rattle.si_checks.specs.Loops.Searches.{IsFirstOrNone}
use Rattle.si_checks.proofs.SearchDecisions as decide
use Rattle.si_checks.proofs.SearchDecisions.{Decided, pairs, in_pairs, of_pairs, first_candidate}
use Rattle.si_checks.proofs.ForkLemmas.{no_fork_commutes}
use Rattle.si_checks.proofs.LossLemmas.{no_loss_persists}
use Rattle.si_checks.proofs.ValuesDecided.{consistent_or_first}

module _ (g : StateGraph) where
  -- an arc between the same states by the same event
  moved : (x : Edge) (s : ℕ) (e : Event) → Contains g.edges x → x.from ≡ s → x.event ≡ e → Step g s e x.to
  moved x s e there from event =
      subst (λ (y : Edge). Contains g.edges y) (ap₂ (λ (n : ℕ) (f : Event). arc n f x.to) from event) there

  -- ---- splits
  abbrev split_of : Edge × Edge → Split
  split_of p = record { s = p.0.from; e = p.0.event; t = p.0.to; u = p.1.to }

  -- two arcs of one state and event, the first to the lower state
  abbrev AreSplit : Edge × Edge → Type 0
  AreSplit p = (p.1.from ≡ p.0.from) × ((p.1.event ≡ p.0.event) × (p.0.to < p.1.to))

  are_split : (p : Edge × Edge) → Decided (AreSplit p)
  are_split p =
      decide.both (cases_eq p.1.from p.0.from)
      (decide.both (decide.equal_events p.1.event p.0.event) (decide.less p.0.to p.1.to))

  split_from : (p : Edge × Edge) → Contains (pairs g.edges g.edges) p → AreSplit p → Splits g (split_of p)
  split_from p there is =
      let arcs = of_pairs g.edges g.edges p there in
      record { one = arcs.0; other = moved p.1 p.0.from p.0.event arcs.1 is.0 is.1.0; apart = is.1.1 }

  split_found : (b : Split) → Splits g b
      → (p : Edge × Edge) × Contains (pairs g.edges g.edges) p × AreSplit p × (split_of p ≡ b)
  split_found b is =
      let one = arc b.s b.e b.t in
      let other = arc b.s b.e b.u in
      ((one, other), in_pairs g.edges g.edges one other is.one is.other, (refl, (refl, is.apart)), refl)

  pub first_split : (found : Option Split) × IsFirstOrNone split_place (Splits g) found
  first_split =
      first_candidate split_place (Splits g) split_of AreSplit are_split (pairs g.edges g.edges) split_from split_found

  no_split : ((b : Split) → Splits g b → ⊥) → IsDeterministic g
  no_split none s e t u one other = elim (cases_order t u) [
    | inl same ↦ same
    | inr (inl less) ↦ absurd (none (record { s = s; e = e; t = t; u = u })
        (record { one = one; other = other; apart = less }))
    | inr (inr more) ↦ absurd (none (record { s = s; e = e; t = u; u = t })
        (record { one = other; other = one; apart = more }))
  ]

  -- ---- forks
  -- the arcs of a fork: those of the one order, and those of the other
  abbrev Square : Type 0
  Square = (Edge × Edge) × (Edge × Edge)

  abbrev fork_of : Square → Fork
  fork_of k = record { s = k.0.0.from; a = k.0.0.event; c = k.1.0.event; w = k.0.1.to; w2 = k.1.1.to }

  -- the two orders begin at one state, and end in different ones
  record AreFork (k : Square) : Type 0 where
    from : k.1.0.from ≡ k.0.0.from
    order : event_place k.0.0.event < event_place k.1.0.event
    one_from : k.0.1.from ≡ k.0.0.to
    one_event : k.0.1.event ≡ k.1.0.event
    other_from : k.1.1.from ≡ k.1.0.to
    other_event : k.1.1.event ≡ k.0.0.event
    apart : k.0.1.to ≢ k.1.1.to

  -- the same in two parts: the first two arcs, and the last two
  abbrev Begin : Square → Type 0
  Begin k = (k.1.0.from ≡ k.0.0.from) × (event_place k.0.0.event < event_place k.1.0.event)

  abbrev Follow : Edge → Edge → Event → Type 0
  Follow x y e = (y.from ≡ x.to) × (y.event ≡ e)

  follow : (x y : Edge) (e : Event) → Decided (Follow x y e)
  follow x y e = decide.both (cases_eq y.from x.to) (decide.equal_events y.event e)

  are_fork : (k : Square) → Decided (AreFork k)
  are_fork k =
      let begin : Decided (Begin k) = decide.both (cases_eq k.1.0.from k.0.0.from)
      (decide.less (event_place k.0.0.event) (event_place k.1.0.event)) in
      let one = follow k.0.0 k.0.1 k.1.0.event in
      let other = follow k.1.0 k.1.1 k.0.0.event in
      let apart : Decided (k.0.1.to ≢ k.1.1.to) = decide.not (cases_eq k.0.1.to k.1.1.to) in
      elim (decide.both begin (decide.both one (decide.both other apart))) [
        | inl is ↦ inl (record {
          from = is.0.0;
          order = is.0.1;
          one_from = is.1.0.0;
          one_event = is.1.0.1;
          other_from = is.1.1.0.0;
          other_event = is.1.1.0.1;
          apart = is.1.1.1;
        })
        | inr is_not ↦ inr (λ is. is_not
            ((is.from, is.order), ((is.one_from, is.one_event), ((is.other_from, is.other_event), is.apart))))
      ]

  abbrev ways : List (Edge × Edge)
  ways = pairs g.edges g.edges

  fork_from : (k : Square) → Contains (pairs ways ways) k → AreFork k → Forks g (fork_of k)
  fork_from k there is =
      let two = of_pairs ways ways k there in
      let one = of_pairs g.edges g.edges k.0 two.0 in
      let other = of_pairs g.edges g.edges k.1 two.1 in
      record {
        order = is.order;
        one = (k.0.0.to, one.0, moved k.0.1 k.0.0.to k.1.0.event one.1 is.one_from is.one_event);
        other = (
          k.1.0.to,
          moved k.1.0 k.0.0.from k.1.0.event other.0 is.from refl,
          moved k.1.1 k.1.0.to k.0.0.event other.1 is.other_from is.other_event,
        );
        apart = is.apart;
      }

  fork_found : (b : Fork) → Forks g b → (k : Square) × Contains (pairs ways ways) k × AreFork k × (fork_of k ≡ b)
  fork_found b is =
      let x = arc b.s b.a is.one.0 in
      let y = arc is.one.0 b.c b.w in
      let z = arc b.s b.c is.other.0 in
      let q = arc is.other.0 b.a b.w2 in
      let one = in_pairs g.edges g.edges x y is.one.1 is.one.2 in
      let other = in_pairs g.edges g.edges z q is.other.1 is.other.2 in (
        ((x, y), (z, q)),
        in_pairs ways ways (x, y) (z, q) one other,
        record {
          from = refl;
          order = is.order;
          one_from = refl;
          one_event = refl;
          other_from = refl;
          other_event = refl;
          apart = is.apart;
        },
        refl,
      )

  pub first_fork : (found : Option Fork) × IsFirstOrNone fork_place (Forks g) found
  first_fork = first_candidate fork_place (Forks g) fork_of AreFork are_fork (pairs ways ways) fork_from fork_found

  -- ---- losses
  abbrev loss_of : Edge × Edge → Loss
  loss_of p = record { s = p.0.from; lost = p.0.event; by = p.1.event }

  -- the first arc has a non-input event that is not enabled after the second
  record AreLoss (p : Edge × Edge) : Type 0 where
    from : p.1.from ≡ p.0.from
    non_input : IsNonInput g.signals p.0.event.sig
    by_another : p.0.event ≢ p.1.event
    gone : enables g p.1.to p.0.event ≡ false

  are_loss : (p : Edge × Edge) → Decided (AreLoss p)
  are_loss p =
      let from = cases_eq p.1.from p.0.from in
      let non_input = decide.driven g.signals p.0.event.sig in
      let by_another : Decided (p.0.event ≢ p.1.event) = decide.not (decide.equal_events p.0.event p.1.event) in
      let gone = decide.same_value (enables g p.1.to p.0.event) false in
      elim (decide.both from (decide.both non_input (decide.both by_another gone))) [
        | inl is ↦ inl (record { from = is.0; non_input = is.1.0; by_another = is.1.1.0; gone = is.1.1.1 })
        | inr is_not ↦ inr (λ is. is_not (is.from, (is.non_input, (is.by_another, is.gone))))
      ]

  loss_from : (p : Edge × Edge) → Contains (pairs g.edges g.edges) p → AreLoss p → Loses g (loss_of p)
  loss_from p there is =
      let arcs = of_pairs g.edges g.edges p there in
      let step = moved p.1 p.0.from p.1.event arcs.1 is.from refl in
      record {
        non_input = is.non_input;
        enabled = enables-step g p.0.from p.0.event p.0.to arcs.0;
        by_another = is.by_another;
        after = (p.1.to, step, λ still. true≢false (sym still ∙ is.gone));
      }

  loss_found : (b : Loss) → Loses g b
      → (p : Edge × Edge) × Contains (pairs g.edges g.edges) p × AreLoss p × (loss_of p ≡ b)
  loss_found b is =
      let to = step_from_enables g b.s b.lost is.enabled in
      let x = arc b.s b.lost to.0 in
      let y = arc b.s b.by is.after.0 in (
        (x, y),
        in_pairs g.edges g.edges x y to.1 is.after.1,
        record {
          from = refl;
          non_input = is.non_input;
          by_another = is.by_another;
          gone = false_from_ne_true (enables g is.after.0 b.lost) is.after.2;
        },
        refl,
      )

  pub first_loss : (found : Option Loss) × IsFirstOrNone loss_place (Loses g) found
  first_loss =
      first_candidate loss_place (Loses g) loss_of AreLoss are_loss (pairs g.edges g.edges) loss_from loss_found

-- ---- all four
module _ (g : StateGraph) (is : IsGraph g) (connected : IsConnected g) where
  after_forks : IsDeterministic g → IsConsistent g → IsCommutative g → (found : Option Loss)
      → IsFirstOrNone loss_place (Loses g) found → ProperOrBreach g
  after_forks deterministic consistent commutative (Some b) first =
      HasLoss deterministic consistent commutative b first
  after_forks deterministic consistent commutative None none = AllHold (record {
    deterministic = deterministic;
    consistent = consistent;
    commutative = commutative;
    persistent = no_loss_persists g none;
  })

  after_values : IsDeterministic g → IsConsistent g → (found : Option Fork)
      → IsFirstOrNone fork_place (Forks g) found → ProperOrBreach g
  after_values deterministic consistent (Some b) first = HasFork deterministic consistent b first
  after_values deterministic consistent None none =
      let loss = first_loss g in
      after_forks deterministic consistent (no_fork_commutes g deterministic none) loss.0 loss.1

  after_splits : (found : Option Split) → IsFirstOrNone split_place (Splits g) found → ProperOrBreach g
  after_splits (Some b) first = HasSplit b first
  after_splits None none = elim (consistent_or_first g is connected) [
    | inr first ↦ HasNoValues (no_split g none) first.0 first.1
    | inl consistent ↦ let fork = first_fork g in after_values (no_split g none) consistent fork.0 fork.1
  ]

  pub proper_or_breach : ProperOrBreach g
  proper_or_breach = let split = first_split g in after_splits split.0 split.1
