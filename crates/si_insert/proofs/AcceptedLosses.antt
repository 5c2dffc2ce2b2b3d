-- Which excitations the inserted graph loses: the local tests are exact.
use Rattle.std.proofs.Common.{◌≡◌, ◌≢◌, ℕ, zero, suc, ◌⊎◌, ◌↔◌, Bool, true, not, List, [], ◌∷◌, ◌++◌, length, slice_get}
use Rattle.std.proofs.Common.{Some, IsTrue, refl, sym, ap, subst, ◌∙◌, arith, inl, inr}
use Rattle.std.proofs.lemmas.Bool.{true≢false, cases_eq, cases_Bool}
use Rattle.si_base.specs.declared.ids.Event.{Event}
use Rattle.si_base.specs.declared.graph.Signal.{Signal}
use Rattle.si_base.specs.declared.graph.SigKind.TheVariants.{Inserted}
use Rattle.si_base.specs.Order.{IsFirst}
use Rattle.si_base.specs.Graph.{StateGraph, Step, IsGraph, IsNonInput, enables}
use Rattle.si_base.specs.Codes.{CodedGraph, IsCoded, IsDeterministic}
use Rattle.si_base.specs.Proper.{IsProper, IsPersistent, Loss, Loses}
use Rattle.si_base.proofs.RightGateLemmas.{step_within}
use Rattle.si_base.proofs.GraphSteps.{enables-step, step_from_enables}
use Rattle.si_checks.proofs.LossLemmas.{no_loss_persists}
use Rattle.si_insert.specs.declared.partition.Class.{Class}
use Rattle.si_insert.specs.Partition.{class_of, IsLawful}
use Rattle.si_insert.specs.Insertion.{Copy, IsCopy, IsCopied, Moves, waits, IsInsertedGraph}
use Rattle.si_insert.specs.Accepted.{DelaysNoInput, StaysProper, Delay, Delays, IsDriven, LosesAtCopy}
use Rattle.si_insert.specs.Loops.Tests.{InputWaits, WaitsAfter}
use Rattle.si_insert.proofs.PartitionClasses.{waits_switching, switching_there}
use Rattle.si_insert.proofs.InsertionCopies.{copy, is_copy, placed, given_copied, old_is_given, moves_to_copy}
use Rattle.si_insert.proofs.InsertionCopies.{new_stays}
use Rattle.si_insert.proofs.InsertionCopies.{new_disables_none}
use Rattle.si_insert.proofs.InsertionProper.{from_copy, leads, goes_on, deterministic, commutative}
use Rattle.si_insert.proofs.InsertionCodes.{consistent}

-- an arc waits or goes
pub goes_or_waits : (g : StateGraph) (classes : List Class) (x : Copy) (e : Event) (t : ℕ) → Step g x.state e t
    → IsCopied g classes x e (copy t x.value) ⊎ (waits (class_of classes x.state) (class_of classes t) x.value ≡ true)
goes_or_waits g classes x e t step = elim (cases_Bool (waits (class_of classes x.state) (class_of classes t) x.value)) [
  | inl late ↦ inr late
  | inr goes ↦ inl (record { step = step; keeps = refl; goes = goes })
]

-- where the arc waits, the event isn't enabled at the copy
pub none_moves : (g : StateGraph) (classes : List Class) (x : Copy) (e : Event) (t : ℕ) (y : Copy) → IsGraph g
    → IsDeterministic g → Step g x.state e t → waits (class_of classes x.state) (class_of classes t) x.value ≡ true
    → Moves g classes x e y → ⊥
none_moves g classes x e t y graph one step late moves =
    let parts = step_within g x.state e t graph step in
    let copied = given_copied g classes x e y (λ new. omega (arith, parts.1, new)) moves in
    let same : y.state ≡ t = one x.state e y.state t copied.step step in
    true≢false (sym late ∙ sym (ap (λ (s : ℕ). waits (class_of classes x.state) (class_of classes s) x.value) same)
    ∙ copied.goes)

-- ---- inputs that wait
pub delays_if_held : (g : StateGraph) (classes : List Class) (d : Delay) → IsGraph g → IsDeterministic g
    → InputWaits g classes d → Delays g classes d
delays_if_held g classes d graph one h =
    let parts = step_within g d.s d.e h.to graph h.step in
    record {
      input = h.input;
      enabled = enables-step g d.s d.e h.to h.step;
      copy = copy d.s h.value;
      at = refl;
      is_copy =
          record {
            within = parts.0;
            there = rw (waits_switching (class_of classes d.s) (class_of classes h.to) h.value h.late)
                (switching_there (not h.value) h.value);
          };
      lost = λ y _ moves. none_moves g classes (copy d.s h.value) d.e h.to y graph one h.step h.late moves;
    }

pub held_if_delays : (g : StateGraph) (classes : List Class) (d : Delay) → IsGraph g → IsLawful g classes
    → Delays g classes d → InputWaits g classes d
held_if_delays g classes d graph lawful h =
    let P : ℕ → Type 0 = λ s. IsTrue (enables g s d.e) in
    let found = step_from_enables g h.copy.state d.e (subst P (sym h.at) h.enabled) in
    let Q : ℕ → Type 0 = λ s. Step g s d.e found.0 in
    elim (goes_or_waits g classes h.copy d.e found.0 found.1) [
      | inl copied ↦
          absurd
          (h.lost (copy found.0 h.copy.value) (moves_to_copy g classes h.copy d.e (copy found.0 h.copy.value) graph
          lawful h.is_copy (inl copied)) (inl copied))
      | inr late ↦ record {
        input = h.input;
        to = found.0;
        step = subst Q h.at found.1;
        value = h.copy.value;
        late = ap (λ (s : ℕ). waits (class_of classes s) (class_of classes found.0) h.copy.value) (sym h.at) ∙ late;
      }
    ]

pub no_delay : (g : StateGraph) (classes : List Class) → IsGraph g → IsLawful g classes
    → ((d : Delay) → InputWaits g classes d → ⊥) → DelaysNoInput g classes
no_delay g classes graph lawful none x e there input enabled =
    let found = step_from_enables g x.state e enabled in
    elim (goes_or_waits g classes x e found.0 found.1) [
      | inl copied ↦ (
        copy found.0 x.value,
        moves_to_copy g classes x e (copy found.0 x.value) graph lawful there (inl copied),
        inl copied,
      )
      | inr late ↦
          absurd
          (none (record { s = x.state; e = e }) (record {
            input = input;
            to = found.0;
            step = found.1;
            value = x.value;
            late = late;
          }))
    ]

pub delay_refutes : (g : StateGraph) (classes : List Class) (d : Delay) → Delays g classes d → DelaysNoInput g classes
    → ⊥
delay_refutes g classes d h none =
    let P : ℕ → Type 0 = λ s. IsTrue (enables g s d.e) in
    let y = none h.copy d.e h.is_copy h.input (subst P (sym h.at) h.enabled) in
    h.lost y.0 y.1 y.2

-- ---- the one breach of persistency
pub loses_if_breaks : (g : StateGraph) (classes : List Class) (b : Loss) → IsGraph g → IsDeterministic g
    → IsLawful g classes → WaitsAfter g classes b → LosesAtCopy g classes b
loses_if_breaks g classes b graph one lawful h =
    let parts = step_within g b.s b.lost h.t graph h.first in
    let x : Copy = copy b.s h.value in
    let there : IsCopy g classes x = record { within = parts.0; there = h.has } in
    let to_t : Moves g classes x b.lost (copy h.t h.value) =
    inl (record { step = h.first; keeps = refl; goes = h.first_goes }) in
    let to_u : Moves g classes x b.by (copy h.u h.value) =
    inl (record { step = h.other; keeps = refl; goes = h.other_goes }) in
    record {
      non_input = inl h.non_input;
      apart = h.apart;
      copy = x;
      at = refl;
      is_copy = there;
      enabled = (copy h.t h.value, moves_to_copy g classes x b.lost (copy h.t h.value) graph lawful there to_t, to_t);
      after = copy h.u h.value;
      after_copy = moves_to_copy g classes x b.by (copy h.u h.value) graph lawful there to_u;
      leads = to_u;
      lost = λ y _ moves. none_moves g classes (copy h.u h.value) b.lost h.w y graph one h.next h.late moves;
    }

-- of two moves with different events the second loses the first only where that waits after it
pub lost_cases : (g : StateGraph) (classes : List Class) (x : Copy) (e : Event) (y : Copy) (f : Event) (z : Copy)
    → IsGraph g → IsPersistent g → IsLawful g classes → IsDriven g e.sig → IsCopy g classes x → IsCopy g classes z
    → e ≢ f
    → Moves g classes x e y → Moves g classes x f z → ((v : Copy) → IsCopy g classes v → Moves g classes z e v → ⊥)
    → (w : WaitsAfter g classes (record { s = x.state; lost = e; by = f })) × (w.value ≡ x.value)
lost_cases g classes x e y f z graph stays lawful driven x_is z_is apart (inr switch) to_z lost =
    let v = new_stays g classes x e y f z switch to_z apart in
    absurd (lost v.0 (moves_to_copy g classes z e v.0 graph lawful z_is (inr v.1)) (inr v.1))
lost_cases g classes x e y f z graph stays lawful driven x_is z_is apart (inl copied) (inr switch) lost =
    let v : Copy = copy y.state z.value in
    let move : Moves g classes z e v = inl (new_disables_none g classes x e y f z copied switch) in
    absurd (lost v (moves_to_copy g classes z e v graph lawful z_is move) move)
lost_cases g classes x e y f z graph stays lawful (inr new) x_is z_is apart (inl copied) (inl other) lost =
    absurd (old_is_given g classes x e y graph copied new)
lost_cases g classes x e y f z graph stays lawful (inl non_input) x_is z_is apart (inl copied) (inl other) lost =
    let found =
    step_from_enables g z.state e (stays x.state e f z.state non_input
    (enables-step g x.state e y.state copied.step) other.step apart) in
    elim (goes_or_waits g classes z e found.0 found.1) [
      | inl goes ↦
          absurd
          (lost (copy found.0 z.value) (moves_to_copy g classes z e (copy found.0 z.value) graph lawful z_is (inl goes))
          (inl goes))
      | inr late ↦ (
        record {
          non_input = non_input;
          apart = apart;
          value = x.value;
          has = x_is.there;
          t = y.state;
          first = copied.step;
          first_goes = copied.goes;
          u = z.state;
          other = other.step;
          other_goes = other.goes;
          w = found.0;
          next = found.1;
          late =
              ap (λ (b : Bool). waits (class_of classes z.state) (class_of classes found.0) b) (sym other.keeps) ∙ late;
        },
        refl,
      )
    ]

pub breaks_if_loses : (g : StateGraph) (classes : List Class) (b : Loss) → IsGraph g → IsPersistent g
    → IsLawful g classes → LosesAtCopy g classes b → WaitsAfter g classes b
breaks_if_loses g classes b graph stays lawful h =
    let P : ℕ → Type 0 = λ s. WaitsAfter g classes (record { s = s; lost = b.lost; by = b.by }) in
    subst P h.at (lost_cases g classes h.copy b.lost h.enabled.0 b.by h.after graph stays lawful h.non_input h.is_copy
    h.after_copy h.apart h.enabled.2 h.leads h.lost).0

-- ---- the same at the places of the inserted graph
pub front : {X : Type 0} (xs : List X) (y : X) (a : ℕ) (x : X) → slice_get (xs ++ y ∷ []) a ≡ Some x
    → (a ≡ length xs → ⊥) → slice_get xs a ≡ Some x
front [] y zero x h ne = absurd (ne refl)
front [] y (suc a) x h ne = h
front (z ∷ xs) y zero x h ne = h
front (z ∷ xs) y (suc a) x h ne = front xs y a x h (λ e. ne (omega (arith, e)))

pub in_front : {X : Type 0} (xs : List X) (y : X) (a : ℕ) (x : X) → slice_get xs a ≡ Some x
    → slice_get (xs ++ y ∷ []) a ≡ Some x
in_front [] y a x h = cc
in_front (z ∷ xs) y zero x h = h
in_front (z ∷ xs) y (suc a) x h = in_front xs y a x h

pub at_last : {X : Type 0} (xs : List X) (y : X) → slice_get (xs ++ y ∷ []) (length xs) ≡ Some y
at_last [] y = refl
at_last (z ∷ xs) y = at_last xs y

pub driven_before : (g : StateGraph) (new : Signal) (a : ℕ) → IsNonInput (g.signals ++ new ∷ []) a → IsDriven g a
driven_before g new a h = elim (cases_eq a (length g.signals)) [
  | inl same ↦ inr same
  | inr other ↦ inl (h.0, front g.signals new a h.0 h.1 other, h.2)
]

pub driven_after : (g : StateGraph) (new : Signal) (a : ℕ) → new.kind ≡ Inserted → IsDriven g a
    → IsNonInput (g.signals ++ new ∷ []) a
driven_after g new a kind (inl h) = (h.0, in_front g.signals new a h.0 h.1, h.2)
driven_after g new a kind (inr same) = (new, rw same (at_last g.signals new), rw kind refl)

-- a loss at a place is one at its copy
pub lost_at_copy : (g : StateGraph) (classes : List Class) (new : Signal) (copies : List Copy) (h : StateGraph)
    (b : Loss) → IsGraph g → IsLawful g classes → IsInsertedGraph g classes new copies h → Loses h b
    → (x : Copy) × (slice_get copies b.s ≡ Some x) × LosesAtCopy g classes
    (record { s = x.state; lost = b.lost; by = b.by })
lost_at_copy g classes new copies h b graph lawful is loss =
    let z = from_copy g classes new copies h b.s b.by loss.after.0 is loss.after.1 in
    let found = step_from_enables h b.s b.lost loss.enabled in
    let y = leads g classes new copies h b.s b.lost found.0 z.0 is found.1 z.1 in
    let P : List Signal → Type 0 = λ signals. IsNonInput signals b.lost.sig in (
      z.0,
      z.1,
      record {
        non_input = driven_before g new b.lost.sig (subst P is.signals loss.non_input);
        apart = loss.by_another;
        copy = z.0;
        at = refl;
        is_copy = is_copy g classes new copies h b.s z.0 is z.1;
        enabled = (y.0, is_copy g classes new copies h found.0 y.0 is y.1, y.2);
        after = z.2;
        after_copy = is_copy g classes new copies h loss.after.0 z.2 is z.3;
        leads = z.4;
        lost =
            λ v v_is moves. (let on = goes_on g classes new copies h loss.after.0 b.lost z.2 v graph lawful is z.3
            moves in loss.after.2 (enables-step h loss.after.0 b.lost on.0 on.2));
      },
    )

-- a loss at a copy is one at its place
pub lost_at_place : (g : StateGraph) (classes : List Class) (new : Signal) (copies : List Copy) (h : StateGraph)
    (b : Loss) → IsGraph g → IsLawful g classes → IsInsertedGraph g classes new copies h → LosesAtCopy g classes b
    → (k : ℕ) × Loses h (record { s = k; lost = b.lost; by = b.by })
lost_at_place g classes new copies h b graph lawful is loss =
    let k = placed g classes new copies h loss.copy is loss.is_copy in
    let y = goes_on g classes new copies h k.0 b.lost loss.copy loss.enabled.0 graph lawful is k.2 loss.enabled.2 in
    let z = goes_on g classes new copies h k.0 b.by loss.copy loss.after graph lawful is k.2 loss.leads in
    let P : List Signal → Type 0 = λ signals. IsNonInput signals b.lost.sig in (
      k.0,
      record {
        non_input = subst P (sym is.signals) (driven_after g new b.lost.sig is.kind loss.non_input);
        enabled = enables-step h k.0 b.lost y.0 y.2;
        by_another = loss.apart;
        after = (
          z.0,
          z.2,
          λ still. (let found = step_from_enables h z.0 b.lost still in
              let v = leads g classes new copies h z.0 b.lost found.0 loss.after is found.1 z.1 in
              loss.lost v.0 (is_copy g classes new copies h found.0 v.0 is v.1) v.2),
        );
      },
    )

none_if_persistent : (h : StateGraph) (b : Loss) → IsPersistent h → Loses h b → ⊥
none_if_persistent h b stays loss =
    loss.after.2 (stays b.s b.lost b.by loss.after.0 loss.non_input loss.enabled loss.after.1 loss.by_another)

-- the inserted graph is proper if no test finds a breach
pub proper_if_none : (c : CodedGraph) (classes : List Class) → IsCoded c → IsProper c.graph → IsLawful c.graph classes
    → ((b : Loss) → WaitsAfter c.graph classes b → ⊥) → StaysProper c.graph classes
proper_if_none c classes is proper lawful none new copies h inserted = record {
  deterministic = deterministic c.graph classes new copies h is.graph_is is.deterministic inserted;
  consistent = consistent c classes new copies h is lawful inserted;
  commutative = commutative c.graph classes new copies h is.graph_is is.deterministic proper.commutative inserted;
  persistent =
      no_loss_persists h
      (λ b loss. (let at = lost_at_copy c.graph classes new copies h b is.graph_is lawful inserted loss in
      none (record { s = at.0.state; lost = b.lost; by = b.by })
      (breaks_if_loses c.graph classes (record { s = at.0.state; lost = b.lost; by = b.by }) is.graph_is
      proper.persistent lawful at.2)));
}

-- and only then
pub breach_refutes : (c : CodedGraph) (classes : List Class) (new : Signal) (copies : List Copy) (h : StateGraph)
    (b : Loss) → IsCoded c → IsLawful c.graph classes → IsInsertedGraph c.graph classes new copies h
    → WaitsAfter c.graph classes b → IsProper h → ⊥
breach_refutes c classes new copies h b is lawful inserted breach proper =
    let at =
    lost_at_place c.graph classes new copies h b is.graph_is lawful inserted
    (loses_if_breaks c.graph classes b is.graph_is is.deterministic lawful breach) in
    none_if_persistent h (record { s = at.0; lost = b.lost; by = b.by }) proper.persistent at.1

-- what is first of the one kind is first of the other
pub same_first : {A : Type 0} (place : A → List ℕ) (P Q : A → Type 0) (x : A) → ((y : A) → P y ↔ Q y)
    → IsFirst place P x → IsFirst place Q x
same_first place P Q x same first =
    record { holds = (same x).0 first.holds; none_before = λ y q before. first.none_before y ((same y).1 q) before }
