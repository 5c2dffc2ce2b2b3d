-- Parts that are free of interference in a group that is found alone are so in a composed graph of
-- the group.
use Rattle.std.proofs.Common.{◌≡◌, ℕ, ◌<◌, List, [], ◌∷◌, length, slice_get, Some, All, IsTrue, sym, ap, subst, ◌∙◌}
use Rattle.std.proofs.Common.{arith, slice_index}
use Rattle.std.proofs.lemmas.List.{length-map}
use Rattle.si_base.specs.declared.ids.Event.{Event}
use Rattle.si_base.specs.declared.graph.Signal.{Signal}
use Rattle.si_base.specs.Codes.{CodedGraph, IsCoded}
use Rattle.si_base.specs.Graph.{StateGraph, IsReachable, Step, Walk, enables}
use Rattle.si_compose.specs.Composed.{Interferes, IsComposed, Moves, own_event}
use Rattle.si_compose.specs.Groups.{FreeGroup}
use Rattle.si_compose.specs.Joined.{Drives, IsSame}
use Rattle.si_compose.proofs.ComposedExists.{composed_exist}
use Rattle.si_composing.specs.JoinedSignals.{graph_of, joined_signals}
use Rattle.si_composing.specs.Tuples.{IsReached, MoveTogether, bare, starts}
use Rattle.si_composing.proofs.Composing.{coded_at}
use Rattle.si_composing.proofs.TupleLemmas.{at-listed, length-listed, listed, moves_at, moves_in, reached_on, same_tuples}
use Rattle.si_composing.proofs.TupleLemmas.{start_at, starts_reached}
use Rattle.si_groups.specs.Groups.{IsReachedAlone, IsRefusedBy}
use Rattle.si_groups.specs.Loops.Between.{IsGroup}
use Rattle.si_groups.specs.Together.{CanBeJoined}
use Rattle.si_groups.proofs.AloneJoined.{graph_same, joined_alone, number, number_within, size, those}

module _ (parts : List CodedGraph) (group : List ℕ) (is : IsGroup parts group) where
  abbrev members : List CodedGraph
  members = those parts group is

  abbrev whole : List Signal
  whole = joined_signals members

  abbrev own : ℕ → StateGraph
  own a = graph_of parts (number parts group is a)

  inside_of : (a : ℕ) → a < length members → a < length group
  inside_of a below = omega (arith, below, size parts group is)

  module _ (at : ℕ → ℕ → ℕ) (h : StateGraph) (composed : IsComposed (length group) own at h)
      (same : h.signals ≡ whole) where
    tuple : ℕ → List ℕ
    tuple s = listed (length group) (λ a. at a s)

    tuple_at : (s a : ℕ) → a < length group → slice_index (tuple s) a ≡ at a s
    unfolding tuple
    tuple_at s a below = at-listed (length group) (λ b. at b s) a below

    tuple_width : (s : ℕ) → length (tuple s) ≡ length group
    unfolding tuple
    tuple_width s = length-listed (length group) (λ a. at a s)

    member_moves : (s : ℕ) (e : Event) (t : ℕ) → Step h s e t → (a : ℕ) → a < length group
        → Moves (bare whole) (graph_of members a) (slice_index (tuple s) a) e (slice_index (tuple t) a)
    member_moves s e t step a below =
        let moves : Moves (bare whole) (own a) (at a s) e (at a t) =
        moves_in h (bare whole) (own a) (at a s) e (at a t) same (composed.moves s e t step a below) in
        subst (λ (g : StateGraph). Moves (bare whole) g (slice_index (tuple s) a) e (slice_index (tuple t) a))
        (sym (graph_same parts group is a below))
        (moves_at (bare whole) (own a) (at a s) (slice_index (tuple s) a) e (at a t) (slice_index (tuple t) a)
        (sym (tuple_at s a below)) (sym (tuple_at t a below)) moves)

    step_together : (s : ℕ) (e : Event) (t : ℕ) → Step h s e t → MoveTogether members whole (tuple s) e (tuple t)
    step_together s e t step = record {
      known = subst (λ (ws : List Signal). e.sig < length ws) same (composed.known s e t step);
      width = tuple_width t ∙ sym (size parts group is);
      moves = λ a below. member_moves s e t step a (inside_of a below);
    }

    walk_together : (s : ℕ) (es : List Event) (t : ℕ) → IsReached members whole (tuple s) → Walk h s es t
        → IsReached members whole (tuple t)
    walk_together s [] t reached walk = subst (λ (u : ℕ). IsReached members whole (tuple u)) walk reached
    walk_together s (e ∷ es) t reached walk = walk_together walk.0 es t
        (reached_on members whole (tuple s) e (tuple walk.0) reached (step_together s e walk.0 walk.1)) walk.2

    start_together : tuple h.start ≡ starts members
    start_together = same_tuples (length group) (tuple h.start) (starts members) (tuple_width h.start)
        (length-map members (λ (c : CodedGraph). c.graph.start) ∙ size parts group is)
        (λ a below. tuple_at h.start a below ∙ composed.start a below
        ∙ ap (λ (g : StateGraph). g.start) (sym (graph_same parts group is a below))
        ∙ sym (start_at members a (omega (arith, below, size parts group is))))

    reached_together : (s : ℕ) → IsReachable h s → IsReached members whole (tuple s)
    reached_together s reachable = walk_together h.start reachable.0 s
        (subst (IsReached members whole) (sym start_together) (starts_reached members whole)) reachable.1

    -- what a composed graph shows is shown by the tuple
    enabled_in : (a s : ℕ) → a < length group → (e : Event) (z : ℕ)
        → IsTrue (enables (own a) (at a s) (own_event e z))
        → IsTrue (enables (graph_of members a) (slice_index (tuple s) a) (own_event e z))
    enabled_in a s below e z does =
        subst (λ (g : StateGraph). IsTrue (enables g (slice_index (tuple s) a) (own_event e z)))
        (sym (graph_same parts group is a below))
        (subst (λ (v : ℕ). IsTrue (enables (own a) v (own_event e z))) (sym (tuple_at s a below)) does)

    enabled_out : (a s : ℕ) → a < length group → (e : Event) (z : ℕ)
        → IsTrue (enables (graph_of members a) (slice_index (tuple s) a) (own_event e z))
        → IsTrue (enables (own a) (at a s) (own_event e z))
    enabled_out a s below e z does =
        subst (λ (v : ℕ). IsTrue (enables (own a) v (own_event e z))) (tuple_at s a below)
        (subst (λ (g : StateGraph). IsTrue (enables g (slice_index (tuple s) a) (own_event e z)))
        (graph_same parts group is a below) does)

    refused_together : (a b s : ℕ) (e : Event) → a < length group → b < length group → Interferes own at h a b s e
        → (i j : ℕ) → slice_get group a ≡ Some i → slice_get group b ≡ Some j
        → IsRefusedBy members group i j (tuple s) e
    refused_together a b s e in_a in_b bad i j at_a at_b = (
      record {
        driving = a;
        driving_within = omega (arith, in_a, size parts group is);
        driver = bad.driver;
        drives = subst (λ (g : StateGraph). Drives whole e.sig g.signals bad.driver)
            (sym (graph_same parts group is a in_a))
            (subst (λ (ws : List Signal). Drives ws e.sig (own a).signals bad.driver) same bad.drives);
        enabled = enabled_in a s in_a e bad.driver bad.enabled;
        refusing = b;
        refusing_within = omega (arith, in_b, size parts group is);
        other = bad.other;
        has = subst (λ (g : StateGraph). IsSame whole e.sig g.signals bad.other)
            (sym (graph_same parts group is b in_b))
            (subst (λ (ws : List Signal). IsSame ws e.sig (own b).signals bad.other) same bad.has);
        refused = λ does. bad.refused (enabled_out b s in_b e bad.other does);
      },
      at_a,
      at_b,
    )

  pub free_group : All IsCoded parts → CanBeJoined parts → (i j a b : ℕ) → a < length group → b < length group
      → number parts group is a ≡ i → number parts group is b ≡ j → slice_get group a ≡ Some i
      → slice_get group b ≡ Some j
      → ((xs : List ℕ) (e : Event) → IsReachedAlone members xs → IsRefusedBy members group i j xs e → ⊥)
      → FreeGroup (length parts) (graph_of parts) i j
  free_group coded joined i j a b in_a in_b a_is b_is at_a at_b none =
      let e = composed_exist (length group) own whole
      (λ c below. (coded_at parts coded (number parts group is c) (number_within parts group is c below)).graph_is)
      (joined_alone parts group is coded joined) in
      record {
        size = length group;
        members = number parts group is;
        within = number_within parts group is;
        graph = e.1;
        at = e.0;
        composed = e.2;
        one = a;
        other = b;
        one_within = in_a;
        other_within = in_b;
        one_is = a_is;
        other_is = b_is;
        free = λ s d bad. none (tuple e.0 e.1 e.2 e.3 s) d (reached_together e.0 e.1 e.2 e.3 s bad.reachable)
            (refused_together e.0 e.1 e.2 e.3 a b s d in_a in_b bad i j at_a at_b);
      }
