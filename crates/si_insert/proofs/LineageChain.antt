-- The chain theorem: right gates for the current graph of a lineage implement its given graph.
use Rattle.std.proofs.Common.{◌≡◌, ℕ, ◌<◌, ◌≤◌, not, true, false, List, [], ◌∷◌, refl, sym, ap, subst, subst₂}
use Rattle.std.proofs.Common.{◌∙◌, IsTrue, arith, length, slice_get, Option, Some, None, IsSome, inl, inr}
use Rattle.std.proofs.lemmas.Bool.{true≢false, cases_lt}
use Rattle.std.proofs.lemmas.Option.{slice_get_within, slice_get_cases}
use Rattle.std.proofs.lemmas.List.Elements.{All-from_recursion, recursion_from_All}
use Rattle.std.specs.List.{AllByRecursion}
use Rattle.si_base.specs.declared.ids.Event.{Event}
use Rattle.si_base.specs.declared.graph.Signal.{Signal}
use Rattle.si_base.specs.declared.graph.SigKind.{SigKind}
use Rattle.si_base.specs.declared.graph.SigKind.TheVariants.{Input, Output, Internal, Inserted}
use Rattle.si_base.specs.Bits.{bit, flip}
use Rattle.si_base.specs.Graph.{StateGraph, Step, enables, is_driven, IsNonInput}
use Rattle.si_base.specs.Codes.{CodedGraph, code, IsCoded, IsDeterministic}
use Rattle.si_base.specs.Proper.{IsProper}
use Rattle.si_base.specs.RightGates.{IsRight}
use Rattle.si_base.specs.Netlist.{Netlist, IsExcited}
use Rattle.si_base.specs.System.{State, Fires, Runs, IsReached, start, IsLeastTarget, Follows, May, is_inserted}
use Rattle.si_base.specs.Behaviour.{IsBisimilar, IsInputEvent, IsHidden, LosesNoExcitation, HasNoSilentCycle}
use Rattle.si_base.specs.Behaviour.{Implements}
use Rattle.si_base.proofs.RightGateLemmas.{step_within, code_of_step, old_value, excited_enables, enabled_excites}
use Rattle.si_base.proofs.GraphSteps.{enables-step, step_from_enables}
use Rattle.si_base.proofs.Booleans.{twice_not}
use Rattle.si_insert.specs.Accepted.{IsInput}
use Rattle.si_insert.specs.declared.lineage.TraceStep.{TraceStep}
use Rattle.si_insert.specs.Lineage.{Current, given_current, origin, IsLineage, Silently, Keeps, AllGiven}
use Rattle.si_insert.specs.Built.{IsBuilt}
use Rattle.si_insert.proofs.InsertionKeeps.{keeps, some_same}

-- ---- the tie: the values are the code of a current state, and the place is its origin
pub record Stands (v : Current) (x : State) (k : ℕ) : Type 0 where
  pub there : k < v.coded.graph.states
  pub place : x.place ≡ Some (origin v k)
  pub values : x.values ≡ code v.coded k

-- a lineage with a built netlist
pub record IsCircuit (given : CodedGraph) (v : Current) (n : Netlist) : Type 0 where
  pub is : IsCoded given
  pub none_inserted : AllGiven given.graph.signals
  pub kept : Keeps given v
  pub built : IsBuilt v n

named_now : (given : CodedGraph) (v : Current) (n : Netlist) (a : ℕ) (x : Signal) → IsCircuit given v n
    → slice_get n.signals a ≡ Some x → slice_get v.coded.graph.signals a ≡ Some x
named_now given v n a x c named =
    let P : List Signal → Type 0 = λ signals. slice_get signals a ≡ Some x in subst P c.built.signals named

-- a signal that isn't inserted is one of the given graph
given_signal : (given : CodedGraph) (v : Current) (n : Netlist) (a : ℕ) (x : Signal) → IsCircuit given v n
    → slice_get n.signals a ≡ Some x → is_inserted x.kind ≡ false → a < length given.graph.signals
given_signal given v n a x c named other = elim (cases_lt a (length given.graph.signals)) [
  | inl small ↦ small
  | inr above ↦
      absurd
      (true≢false (sym (ap is_inserted (c.kept.new_signals a x above (named_now given v n a x c named))) ∙ other))
]

given_named : (given : CodedGraph) (v : Current) (n : Netlist) (a : ℕ) (x : Signal) → IsCircuit given v n
    → slice_get n.signals a ≡ Some x → a < length given.graph.signals → slice_get given.graph.signals a ≡ Some x
given_named given v n a x c named small = sym (c.kept.given_signals a small) ∙ named_now given v n a x c named

new_signal : (given : CodedGraph) (v : Current) (n : Netlist) (a : ℕ) (x : Signal) → IsCircuit given v n
    → slice_get n.signals a ≡ Some x → is_inserted x.kind ≡ true → length given.graph.signals ≤ a
new_signal given v n a x c named inserted = elim (cases_lt a (length given.graph.signals)) [
  | inl small ↦ absurd (true≢false (sym inserted ∙ c.none_inserted a x (given_named given v n a x c named small)))
  | inr above ↦ above
]

follows_lands : (g : StateGraph) (s : ℕ) (e : Event) (place : Option ℕ) (t : ℕ) → IsDeterministic g
    → Follows g s e place → Step g s e t → place ≡ Some t
follows_lands g s e (Some u) t one follows step = ap Some (one s e u t follows.step step)
follows_lands g s e None t one follows step = absurd (follows (enables-step g s e t step))

-- where the current graph steps by a given event, the given graph follows to the origin
given_lands : (given : CodedGraph) (v : Current) (n : Netlist) (k : ℕ) (e : Event) (place : Option ℕ)
    → IsCircuit given v n → e.sig < length given.graph.signals → enables v.coded.graph k e ≡ true
    → Follows given.graph (origin v k) e place
    → (m : ℕ) × Step v.coded.graph k e m × (place ≡ Some (origin v m))
given_lands given v n k e place c small enabled follows =
    let found = step_from_enables v.coded.graph k e enabled in (
      found.0,
      found.1,
      follows_lands given.graph (origin v k) e place (origin v found.0) c.is.deterministic follows
          (c.kept.given_arcs k e found.0 found.1 small),
    )

lands : (given : CodedGraph) (v : Current) (n : Netlist) (k : ℕ) (e : Event) (place : Option ℕ) (x : Signal)
    (kind : SigKind) → IsCircuit given v n → k < v.coded.graph.states → slice_get n.signals e.sig ≡ Some x
    → x.kind ≡ kind → bit (code v.coded k) e.sig ≡ not e.up
    → May kind given.graph n (code v.coded k) (origin v k) e place
    → (m : ℕ) × Step v.coded.graph k e m × (place ≡ Some (origin v m))
lands given v n k e place x Input c there named kind old may =
    let small = given_signal given v n e.sig x c named (ap is_inserted kind) in
    let input : IsInput given.graph.signals e.sig = (x, given_named given v n e.sig x c named small, kind) in
    given_lands given v n k e place c small ((c.kept.inputs k e there input).1 may.0) may.1
lands given v n k e place x Output c there named kind old may =
    given_lands given v n k e place c (given_signal given v n e.sig x c named (ap is_inserted kind))
    (excited_enables v.coded n k e.sig e.up c.built.gives there may.0 old) may.1
lands given v n k e place x Internal c there named kind old may =
    given_lands given v n k e place c (given_signal given v n e.sig x c named (ap is_inserted kind))
    (excited_enables v.coded n k e.sig e.up c.built.gives there may.0 old) may.1
lands given v n k e place x Inserted c there named kind old may =
    let above = new_signal given v n e.sig x c named (ap is_inserted kind) in
    let found =
    step_from_enables v.coded.graph k e (excited_enables v.coded n k e.sig e.up c.built.gives there may.0 old) in
    (found.0, found.1, may.1 ∙ ap Some (sym (c.kept.inserted_arcs k e found.0 found.1 above)))

-- a step of the system is a step of the current graph
pub fires_step : (given : CodedGraph) (v : Current) (n : Netlist) (x : State) (e : Event) (y : State) (k : ℕ)
    → IsCircuit given v n → Stands v x k → Fires given.graph n x e y → (m : ℕ) × Step v.coded.graph k e m × Stands v y m
fires_step given v n x e y k c stands fires =
    let place : x.place ≡ Some (origin v k) = stands.place in
    let same_place : fires.at ≡ origin v k = cc in
    let P : ℕ → ℕ → Type 0 = λ w a. May fires.signal.kind given.graph n w a e y.place in
    let Q : ℕ → Type 0 = λ w. bit w e.sig ≡ not e.up in
    let r =
    lands given v n k e y.place fires.signal fires.signal.kind c stands.there fires.named refl
    (subst Q stands.values fires.old_value) (subst₂ P stands.values same_place fires.may) in
    let parts = step_within v.coded.graph k e r.0 c.kept.coded.graph_is r.1 in (
      r.0,
      r.1,
      record {
        there = parts.2;
        place = r.2;
        values =
            fires.new_values ∙ ap (λ (w : ℕ). flip w e.sig) stands.values
            ∙ sym (code_of_step v.coded k e r.0 c.kept.coded r.1);
      },
    )

runs_stand : (given : CodedGraph) (v : Current) (n : Netlist) (a : State) (k : ℕ) (es : List Event) (x : State)
    → IsCircuit given v n → Stands v a k → Runs given.graph n a es x → (m : ℕ) × Stands v x m
runs_stand given v n a k [] x c stands runs = let P : State → Type 0 = λ y. Stands v y k in (k, subst P runs stands)
runs_stand given v n a k (e ∷ es) x c stands runs =
    let next = fires_step given v n a e runs.0 k c stands runs.1 in
    runs_stand given v n runs.0 next.0 es x c next.2 runs.2

-- each reached state is tied to one of the current graph
pub reached_stands : (given : CodedGraph) (v : Current) (n : Netlist) (x : State) → IsCircuit given v n
    → IsReached given.graph n x → (k : ℕ) × Stands v x k
reached_stands given v n x c reached =
    runs_stand given v n (start given.graph n) v.coded.graph.start reached.0 x c
    (record { there = c.kept.coded.graph_is.starts; place = ap Some (sym c.kept.start); values = c.built.start })
    reached.1

-- ---- no lost excitation
pub loses_none : (given : CodedGraph) (v : Current) (n : Netlist) → IsCircuit given v n
    → LosesNoExcitation given.graph n
loses_none given v n c x y e z reached fires other excited =
    let before = reached_stands given v n x c reached in
    let s = before.0 in
    let after = fires_step given v n x e y s c before.1 fires in
    let t = after.0 in
    let Excited : ℕ → Type 0 = λ w. IsExcited n w z in
    let at_s = subst Excited before.1.values excited in
    let event : Event = record { sig = z; up = not (bit (code v.coded s) z) } in
    let enabled = excited_enables v.coded n s z event.up c.built.gives before.1.there at_s (twice_not _) in
    let InGraph : List Signal → Type 0 = λ signals. IsNonInput signals z in
    let non_input = subst InGraph c.built.signals excited.gate in
    let within = slice_get_within v.coded.graph.signals z non_input.0 non_input.1 in
    let still =
    c.kept.proper.persistent s event e t non_input enabled after.1
    (λ same. other (sym (ap (λ (f : Event). f.sig) same))) in
    subst Excited (sym after.2.values) (enabled_excites v.coded n t z event.up c.kept.coded c.built.gives after.2.there
    excited.gate within still)

-- ---- weakly bisimilar
may_step : (given : CodedGraph) (v : Current) (n : Netlist) (k : ℕ) (e : Event) (m : ℕ) (x : Signal) (kind : SigKind)
    → IsCircuit given v n → Step v.coded.graph k e m → slice_get n.signals e.sig ≡ Some x → x.kind ≡ kind
    → (IsTrue (is_driven kind) → IsExcited n (code v.coded k) e.sig)
    → May kind given.graph n (code v.coded k) (origin v k) e (Some (origin v m))
may_step given v n k e m x Input c step named kind excited =
    let below = c.kept.given_arcs k e m step (given_signal given v n e.sig x c named (ap is_inserted kind)) in (
      enables-step given.graph (origin v k) e (origin v m) below,
      least_target given.graph (origin v k) e (origin v m) c.is.deterministic below,
    )
  where
    least_target : (g : StateGraph) (s : ℕ) (e : Event) (t : ℕ) → IsDeterministic g → Step g s e t
        → IsLeastTarget g s e t
    least_target g s e t one step =
        record { step = step; least = λ u other. (let same = one s e t u step other in omega arith) }
may_step given v n k e m x Output c step named kind excited =
    let below = c.kept.given_arcs k e m step (given_signal given v n e.sig x c named (ap is_inserted kind)) in (
      excited refl,
      record {
        step = below;
        least = λ u other. (let same = c.is.deterministic (origin v k) e (origin v m) u below other in omega arith);
      },
    )
may_step given v n k e m x Internal c step named kind excited =
    let below = c.kept.given_arcs k e m step (given_signal given v n e.sig x c named (ap is_inserted kind)) in (
      excited refl,
      record {
        step = below;
        least = λ u other. (let same = c.is.deterministic (origin v k) e (origin v m) u below other in omega arith);
      },
    )
may_step given v n k e m x Inserted c step named kind excited = (
  excited refl,
  ap Some (c.kept.inserted_arcs k e m step (new_signal given v n e.sig x c named (ap is_inserted kind))),
)

-- a step of the current graph is a step of the system
pub step_fires : (given : CodedGraph) (v : Current) (n : Netlist) (x : State) (k : ℕ) (e : Event) (m : ℕ)
    → IsCircuit given v n → Stands v x k → Step v.coded.graph k e m
    → (y : State) × Fires given.graph n x e y × Stands v y m
step_fires given v n x k e m c stands step =
    let parts = step_within v.coded.graph k e m c.kept.coded.graph_is step in
    let AtN : List Signal → Type 0 = λ signals. e.sig < length signals in
    let within_n = subst AtN (sym c.built.signals) parts.1 in
    let y : State = record { values = flip x.values e.sig; place = Some (origin v m) } in
    elim (slice_get_cases n.signals e.sig).1 [
      | inl found ↦ (
          let signal = found.0 in
          let enabled = enables-step v.coded.graph k e m step in
          let excited : IsTrue (is_driven signal.kind) → IsExcited n (code v.coded k) e.sig =
          λ driven. enabled_excites v.coded n k e.sig e.up c.kept.coded c.built.gives stands.there
          (signal, found.2, driven) parts.1 enabled in
          let may = may_step given v n k e m signal signal.kind c step found.2 refl excited in
          let P : ℕ → Type 0 = λ w. May signal.kind given.graph n w (origin v k) e (Some (origin v m)) in
          let Q : ℕ → Type 0 = λ w. bit w e.sig ≡ not e.up in (
            y,
            record {
              at = origin v k;
              not_astray = stands.place;
              signal = signal;
              named = found.2;
              old_value =
                  subst Q (sym stands.values) (old_value v.coded.graph e.sig (λ a. bit (code v.coded a) e.sig) k m e.up
                  (c.kept.coded.values e.sig parts.1) step);
              new_values = refl;
              may = subst P (sym stands.values) may;
            },
            record {
              there = parts.2;
              place = refl;
              values = ap (λ (w : ℕ). flip w e.sig) stands.values
                  ∙ sym (code_of_step v.coded k e m c.kept.coded step);
            },
          ))
      | inr past ↦ absurd (omega arith)
    ]

-- an event from the given signals' number on is hidden
hidden_if_new : (given : CodedGraph) (v : Current) (n : Netlist) (k : ℕ) (e : Event) (m : ℕ) → IsCircuit given v n
    → length given.graph.signals ≤ e.sig → Step v.coded.graph k e m → IsHidden n e
hidden_if_new given v n k e m c above step =
    let parts = step_within v.coded.graph k e m c.kept.coded.graph_is step in
    let AtN : List Signal → Type 0 = λ signals. e.sig < length signals in
    let within_n = subst AtN (sym c.built.signals) parts.1 in
    elim (slice_get_cases n.signals e.sig).1 [
      | inl found ↦
          (found.0, found.2, c.kept.new_signals e.sig found.0 above (named_now given v n e.sig found.0 c found.2))
      | inr past ↦ absurd (omega arith)
    ]

new_if_hidden : (given : CodedGraph) (v : Current) (n : Netlist) (e : Event) → IsCircuit given v n → IsHidden n e
    → length given.graph.signals ≤ e.sig
new_if_hidden given v n e c hidden = new_signal given v n e.sig hidden.0 c hidden.1 (ap is_inserted hidden.2)

silent_runs : (given : CodedGraph) (v : Current) (n : Netlist) (x : State) (k : ℕ) (es : List Event) (m : ℕ)
    → IsCircuit given v n → Stands v x k → Silently (length given.graph.signals) v.coded.graph k es m
    → AllByRecursion (IsHidden n) es × ((y : State) × Runs given.graph n x es y × Stands v y m)
silent_runs given v n x k [] m c stands walk =
    let P : ℕ → Type 0 = λ i. Stands v x i in (tt, (x, refl, subst P walk stands))
silent_runs given v n x k (e ∷ es) m c stands walk =
    let next = step_fires given v n x k e walk.0 c stands walk.2 in
    let rest = silent_runs given v n next.0 walk.0 es m c next.2 walk.3 in
    ((hidden_if_new given v n k e walk.0 c walk.1 walk.2, rest.0), (rest.1.0, (next.0, next.1, rest.1.1), rest.1.2))

runs_silent : (given : CodedGraph) (v : Current) (n : Netlist) (x : State) (k : ℕ) (es : List Event) (y : State)
    → IsCircuit given v n → Stands v x k → AllByRecursion (IsHidden n) es → Runs given.graph n x es y
    → (m : ℕ) × Silently (length given.graph.signals) v.coded.graph k es m × Stands v y m
runs_silent given v n x k [] y c stands hidden runs =
    let P : State → Type 0 = λ z. Stands v z k in (k, refl, subst P runs stands)
runs_silent given v n x k (e ∷ es) y c stands hidden runs =
    let next = fires_step given v n x e runs.0 k c stands runs.1 in
    let rest = runs_silent given v n runs.0 next.0 es y c next.2 hidden.1 runs.2 in
    (rest.0, (next.0, new_if_hidden given v n e c hidden.0, next.1, rest.1), rest.2)

place_is : (x : State) (s : ℕ) → x.place ≡ Some s → IsSome x.place
place_is x s h = rw h refl

not_hidden_given : (given : CodedGraph) (v : Current) (n : Netlist) (k : ℕ) (e : Event) (m : ℕ) → IsCircuit given v n
    → Step v.coded.graph k e m → (IsHidden n e → ⊥) → e.sig < length given.graph.signals
not_hidden_given given v n k e m c step other = elim (cases_lt e.sig (length given.graph.signals)) [
  | inl small ↦ small
  | inr above ↦ absurd (other (hidden_if_new given v n k e m c above step))
]

input_event : (given : CodedGraph) (v : Current) (n : Netlist) (e : Event) → IsCircuit given v n → IsInputEvent n e
    → IsInput given.graph.signals e.sig
input_event given v n e c input =
    let small = given_signal given v n e.sig input.0 c input.1 (ap is_inserted input.2) in
    (input.0, given_named given v n e.sig input.0 c input.1 small, input.2)

pub bisimilar : (given : CodedGraph) (v : Current) (n : Netlist) → IsCircuit given v n → IsBisimilar given.graph n
bisimilar given v n c = record {
  never_astray = λ x reached. (let at = reached_stands given v n x c reached in place_is x (origin v at.0) at.1.place);
  same_step = λ x y e s reached fires place other.
      (let before = reached_stands given v n x c reached in
      let after = fires_step given v n x e y before.0 c before.1 fires in
      let same = some_same (origin v before.0) s x.place before.1.place place in
      let P : ℕ → Type 0 = λ i. Step given.graph i e (origin v after.0) in (
        origin v after.0,
        after.2.place,
        subst P same (c.kept.given_arcs before.0 e after.0 after.1
            (not_hidden_given given v n before.0 e after.0 c after.1 other)),
      ));
  hidden_stays = λ x y e reached fires hidden.
      (let before = reached_stands given v n x c reached in
      let after = fires_step given v n x e y before.0 c before.1 fires in
      after.2.place ∙ ap Some (c.kept.inserted_arcs before.0 e after.0 after.1 (new_if_hidden given v n e c hidden))
      ∙ sym before.1.place);
  can_follow = λ x s t e reached place step.
      (let before = reached_stands given v n x c reached in
      let same = some_same (origin v before.0) s x.place before.1.place place in
      let P : ℕ → Type 0 = λ i. Step given.graph i e t in
      let f = c.kept.can_make before.0 e t before.1.there (subst P (sym same) step) in
      let quiet = silent_runs given v n x before.0 f.0.silent f.0.at c before.1 f.0.walk in
      let last = step_fires given v n quiet.1.0 f.0.at e f.0.end c quiet.1.2 f.0.step in (
        f.0.silent,
        All-from_recursion (IsHidden n) f.0.silent quiet.0,
        (λ input. f.1 (input_event given v n e c input)),
        quiet.1.0,
        quiet.1.1,
        last.0,
        last.1,
        last.2.place ∙ ap Some f.0.origin_is,
      ));
}

-- ---- no silent cycle
pub no_silent_cycle : (given : CodedGraph) (v : Current) (n : Netlist) → IsCircuit given v n
    → HasNoSilentCycle given.graph n
no_silent_cycle given v n c x es reached hidden runs =
    let before = reached_stands given v n x c reached in
    let quiet = runs_silent given v n x before.0 es x c before.1 (recursion_from_All (IsHidden n) es hidden) runs in
    let codes : code v.coded before.0 ≡ code v.coded quiet.0 = sym before.1.values ∙ quiet.2.values in
    let same : before.0 ≡ quiet.0 = c.kept.determined before.0 quiet.0 before.1.there quiet.2.there
    (some_same (origin v before.0) (origin v quiet.0) x.place before.1.place quiet.2.place)
    (λ a _. ap (λ (w : ℕ). bit w a) codes) in
    let P : ℕ → Type 0 = λ i. Silently (length given.graph.signals) v.coded.graph before.0 es i in
    c.kept.no_circle before.0 es (subst P (sym same) quiet.1)

-- the chain theorem
pub kept_implements : (given : CodedGraph) (v : Current) (n : Netlist) → IsCoded given → AllGiven given.graph.signals
    → Keeps given v → IsBuilt v n → Implements n given.graph
kept_implements given v n is none kept built =
    let c : IsCircuit given v n = record { is = is; none_inserted = none; kept = kept; built = built } in
    record {
      speed_independent = loses_none given v n c;
      bisimilar = bisimilar given v n c;
      no_silent_cycle = no_silent_cycle given v n c;
    }

pub implements : (given : CodedGraph) (trace : List TraceStep) (v : Current) (n : Netlist) → IsLineage given trace v
    → IsBuilt v n → Implements n given.graph
implements given trace v n lineage built =
    kept_implements given v n lineage.coded lineage.none_inserted (keeps given trace v lineage) built

-- without insertions
pub right_implement : (c : CodedGraph) (n : Netlist) → IsCoded c → IsProper c.graph → IsRight c n → Implements n c.graph
right_implement c n is proper right =
    let none : AllGiven c.graph.signals = subst AllGiven right.signals right.none_inserted in
    implements c [] (given_current c) n (record { coded = is; proper = proper; none_inserted = none; grown = refl })
    (record { signals = right.signals; start = right.start; gives = right.gives })
