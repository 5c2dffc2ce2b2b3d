-- Steps and lost excitations.
use Rattle.std.proofs.Common.{◌≡◌, ℕ, ◌+◌, ◌<◌, ◌↔◌, Bool, true, false, not, List, length, get_or, refl, sym, ap, subst}
use Rattle.std.proofs.Common.{subst₂, ◌∙◌, slice_get, Option, Some, IsTrue, below_more}
use Rattle.std.proofs.lemmas.Bool.{true≢false}
use Rattle.std.proofs.lemmas.Option.{slice_get_within, slice_get-get_or}
use Rattle.si_base.specs.declared.ids.Event.{Event}
use Rattle.si_base.specs.declared.graph.Signal.{Signal}
use Rattle.si_base.specs.Bits.{bit, flip}
use Rattle.si_base.specs.Graph.{StateGraph}
use Rattle.si_base.specs.Netlist.{Netlist}
use Rattle.si_base.specs.System.{State, Fires, May}
use Rattle.si_system.specs.Verdict.{System, IsStep, Loses}

pub lost_within : (n : Netlist) (before after fired z : ℕ) → Loses n before after fired z → z < length n.signals
lost_within n before after fired z lost = slice_get_within n.signals z lost.was_excited.gate.0 lost.was_excited.gate.1

pub none_lost_more : (n : Netlist) (before after fired k : ℕ) (found : Bool)
    → (IsTrue found ↔ Loses n before after fired k) → found ≡ false
    → ((u : ℕ) → u < k → Loses n before after fired u → ⊥) → (u : ℕ) → u < k + 1 → Loses n before after fired u → ⊥
none_lost_more n before after fired k found both isnt none =
    below_more _ _ none (λ lost. true≢false (sym (both.1 lost) ∙ isnt))

-- what is read of a system at x: the graph, the netlist, the values and the state, and the signal of an event
pub record IsReadAt (g : StateGraph) (n : Netlist) (x : State) (e : Event) (h : StateGraph) (m : Netlist) (values s : ℕ)
    (signal : Signal) : Type 0 where
  pub graph_is : h ≡ g
  pub netlist_is : m ≡ n
  pub values_are : values ≡ x.values
  pub stands : x.place ≡ Some s
  pub named : slice_get n.signals e.sig ≡ Some signal

named_at : (xs ys : List Signal) (i j : ℕ) (d : Signal) → xs ≡ ys → i ≡ j → j < length ys
    → slice_get ys j ≡ Some (get_or xs i d)
named_at xs ys i j d same at within = rw (same, at) (slice_get-get_or ys j d within)

pub read_of : (y : System) (e : Event) (h : StateGraph) (m : Netlist) (values s : ℕ) (xs : List Signal) (i : ℕ)
    (d : Signal) → h ≡ y.coded.graph → m ≡ y.netlist → values ≡ y.state.values
    → y.state.place ≡ Some s → xs ≡ m.signals → i ≡ e.sig → e.sig < length y.netlist.signals
    → IsReadAt y.coded.graph y.netlist y.state e h m values s (get_or xs i d)
read_of y e h m values s xs i d graph netlist same stands signals at within = record {
  graph_is = graph;
  netlist_is = netlist;
  values_are = same;
  stands = stands;
  named = named_at xs y.netlist.signals i e.sig d (signals ∙ ap (λ (n : Netlist). n.signals) netlist) at within;
}

may_at : (g : StateGraph) (n : Netlist) (x : State) (e : Event) (h : StateGraph) (m : Netlist) (values s : ℕ)
    (signal : Signal) (place : Option ℕ) → IsReadAt g n x e h m values s signal
    → May signal.kind h m values s e place → May signal.kind g n x.values s e place
may_at g n x e h m values s signal place read may =
    subst (λ (k : ℕ). May signal.kind g n k s e place) read.values_are
    (subst (λ (k : Netlist). May signal.kind g k values s e place) read.netlist_is
    (subst (λ (k : StateGraph). May signal.kind k m values s e place) read.graph_is may))

may_read : (g : StateGraph) (n : Netlist) (x : State) (e : Event) (h : StateGraph) (m : Netlist) (values s : ℕ)
    (signal : Signal) (place : Option ℕ) → IsReadAt g n x e h m values s signal
    → May signal.kind g n x.values s e place → May signal.kind h m values s e place
may_read g n x e h m values s signal place read may =
    subst (λ (k : StateGraph). May signal.kind k m values s e place) (sym read.graph_is)
    (subst (λ (k : Netlist). May signal.kind g k values s e place) (sym read.netlist_is)
    (subst (λ (k : ℕ). May signal.kind g n k s e place) (sym read.values_are) may))

-- a signal that may not switch makes no step
pub no_step : (g : StateGraph) (n : Netlist) (x : State) (e : Event) (h : StateGraph) (m : Netlist) (values s : ℕ)
    (signal : Signal) → IsReadAt g n x e h m values s signal
    → ((place : Option ℕ) → May signal.kind h m values s e place → ⊥) → IsStep g n x e → ⊥
no_step g n x e h m values s signal read none step =
    let y = step.0 in
    let fires = step.1 in
    let same_at : fires.at ≡ s = cc (fires.not_astray, read.stands) in
    let same_signal : fires.signal ≡ signal = cc (fires.named, read.named) in
    let may = subst₂ (λ (z : Signal) (t : ℕ). May z.kind g n x.values t e y.place) same_signal same_at fires.may in
    none y.place (may_read g n x e h m values s signal y.place read may)

-- a signal that may switch makes a step
pub step_taken : (g : StateGraph) (n : Netlist) (x : State) (e : Event) (h : StateGraph) (m : Netlist) (values s : ℕ)
    (signal : Signal) (new : ℕ) (place : Option ℕ)
    → IsReadAt g n x e h m values s signal → bit values e.sig ≡ not e.up → new ≡ flip values e.sig
    → May signal.kind h m values s e place
    → Fires g n x e (record { values = new; place = place })
step_taken g n x e h m values s signal new place read old made may = record {
  at = s;
  not_astray = read.stands;
  signal = signal;
  named = read.named;
  old_value = ap (λ (k : ℕ). bit k e.sig) (sym read.values_are) ∙ old;
  new_values = made ∙ ap (λ (k : ℕ). flip k e.sig) read.values_are;
  may = may_at g n x e h m values s signal place read may;
}

pub not_from_differs : (b up : Bool) → (b ≡ up → ⊥) → b ≡ not up
not_from_differs true true h = absurd (h refl)
not_from_differs true false h = refl
not_from_differs false true h = refl
not_from_differs false false h = absurd (h refl)
