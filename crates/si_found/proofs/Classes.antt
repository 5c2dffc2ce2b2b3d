-- The partitions of a lineage that fits a netlist are told by its gates.
use Rattle.std.proofs.Common.{◌≡◌, ℕ, ◌<◌, ◌≤◌, ◌↔◌, Bool, true, false, not, List, [], ◌∷◌, refl, sym, ap, subst, ◌∙◌}
use Rattle.std.proofs.Common.{length, Option, Some, get_or}
use Rattle.std.proofs.lemmas.Option.{slice_get-get_or}
use Rattle.si_base.specs.declared.ids.Event.{Event}
use Rattle.si_base.specs.declared.graph.Signal.{Signal}
use Rattle.si_base.specs.declared.graph.SigKind.TheVariants.{Inserted}
use Rattle.si_base.specs.Bits.{bit}
use Rattle.si_base.specs.Graph.{Step, IsNonInput, is_driven}
use Rattle.si_base.specs.Codes.{CodedGraph, code, IsCoded}
use Rattle.si_base.specs.Netlist.{Netlist, IsExcited}
use Rattle.si_base.specs.System.{State}
use Rattle.si_base.proofs.RightGateLemmas.{step_within, old_value, excited_enables, enabled_excites}
use Rattle.si_base.proofs.GraphSteps.{enables-step, step_from_enables}
use Rattle.si_insert.specs.declared.lineage.TraceStep.{TraceStep}
use Rattle.si_insert.specs.Partition.{class_of}
use Rattle.si_insert.specs.Insertion.{switching}
use Rattle.si_insert.specs.Lineage.{Current, History, Keeps, Grows, origin, given_current}
use Rattle.si_insert.proofs.InsertionKeeps.{keeps_first, keeps_next}
use Rattle.si_insert.proofs.LineageChain.{IsCircuit, Stands, reached_stands}
use Rattle.si_found.specs.Found.{Fits, StandsOver, Switches, HasInsertion}
use Rattle.si_found.proofs.Twins.{state_reached}
use Rattle.si_found.proofs.Over.{Over, switch_above, switch_below}
use Rattle.si_found.proofs.OneLineage.{circuit}

kept_along : (given : CodedGraph) (v : Current) (trace : List TraceStep) (u : Current) → IsCoded given → Keeps given v
    → Grows v trace u → Keeps given u
kept_along given v [] u is kept grows = let P : Current → Type 0 = λ w. Keeps given w in subst P grows kept
kept_along given v (p ∷ trace) u is kept grows =
    kept_along given grows.0 trace u is (keeps_next given v p grows.0 is kept grows.1) grows.2

-- the graph before an insertion of a lineage that fits
kept_there : (c : CodedGraph) (n : Netlist) (l : History) (v : Current) (p : TraceStep) → Fits c n l → HasInsertion l v p
    → Keeps c v
kept_there c n l v p fits has =
    let P : CodedGraph → Type 0 = λ d. Keeps d v in
    subst P fits.given_is (kept_along l.given (given_current l.given) has.before v fits.lineage.coded
    (keeps_first l.given fits.lineage.coded fits.lineage.proper) has.grown)

some_same : {X : Type 0} (a b : X) (o : Option X) → o ≡ Some a → o ≡ Some b → a ≡ b
some_same a b o p q = cc

stands_over : (v u : Current) (x : State) (s k : ℕ) → Over v u s k → Stands u x k → StandsOver v x s
stands_over v u x s k over stands = record {
  there = over.there;
  place = stands.place ∙ ap Some over.origins;
  values = λ i small. ap (λ (c : ℕ). bit c i) stands.values ∙ over.values i small;
}

over_of : (v u : Current) (x : State) (s k : ℕ) → StandsOver v x s → Stands u x k → Over v u s k
over_of v u x s k over stands = record {
  there = over.there;
  inside = stands.there;
  origins = some_same (origin u k) (origin v s) x.place stands.place over.place;
  values = λ i small. sym (ap (λ (c : ℕ). bit c i) stands.values) ∙ over.values i small;
}

-- the new signal has its number in the last graph, and is driven
new_non_input : (c : CodedGraph) (n : Netlist) (l : History) (v : Current) (e : Event) (k m : ℕ) → IsCircuit c l.current n
    → length c.graph.signals ≤ e.sig → Step l.current.coded.graph k e m → IsNonInput n.signals e.sig
new_non_input c n l v e k m circ above step =
    let parts = step_within l.current.coded.graph k e m circ.kept.coded.graph_is step in
    let P : List Signal → Type 0 = λ signals. IsNonInput signals e.sig in
    let found = slice_get-get_or l.current.coded.graph.signals e.sig none parts.1 in
    let x : Signal = get_or l.current.coded.graph.signals e.sig none in
    let kind : x.kind ≡ Inserted = circ.kept.new_signals e.sig x above found in
    subst P (sym circ.built.signals) (x, found, ap is_driven kind)
  where
    none : Signal
    none = record { name = []; kind = Inserted }

pub classes_of_gates : (c : CodedGraph) (n : Netlist) (l : History) (v : Current) (p : TraceStep) (s : ℕ) (up : Bool)
    → Fits c n l → HasInsertion l v p → s < v.coded.graph.states
    → (class_of p.partition s ≡ switching up) ↔ Switches c.graph n v s up
classes_of_gates c n l v p s up fits has there = (to, from)
  where
    circ : IsCircuit c l.current n
    circ = circuit c n l fits

    kept : Keeps c v
    kept = kept_there c n l v p fits has

    u : Current
    u = l.current

    e : Event
    e = record { sig = length v.coded.graph.signals; up = up }

    to : class_of p.partition s ≡ switching up → Switches c.graph n v s up
    to class =
        let r = switch_above c v p has.next has.after u s up circ.is kept has.inserts has.rest there class in
        let x = state_reached c u n r.0 circ r.2.inside in
        let parts = step_within u.coded.graph r.0 e r.1 circ.kept.coded.graph_is r.3 in
        let gate = new_non_input c n l v e r.0 r.1 circ kept.more r.3 in
        let enabled = enables-step u.coded.graph r.0 e r.1 r.3 in
        let excited = enabled_excites u.coded n r.0 e.sig up circ.kept.coded circ.built.gives r.2.inside gate parts.1 enabled in
        let old =
        old_value u.coded.graph e.sig (λ a. bit (code u.coded a) e.sig) r.0 r.1 up (circ.kept.coded.values e.sig parts.1) r.3 in
        let Excited : ℕ → Type 0 = λ w. IsExcited n w e.sig in
        let Old : ℕ → Type 0 = λ w. bit w e.sig ≡ not up in
        record {
          state = x.0;
          reached = x.1;
          over = stands_over v u x.0 s r.0 r.2 x.2;
          old = subst Old (sym x.2.values) old;
          excited = subst Excited (sym x.2.values) excited;
        }

    from : Switches c.graph n v s up → class_of p.partition s ≡ switching up
    from h =
        let k = reached_stands c u n h.state circ h.reached in
        let over = over_of v u h.state s k.0 h.over k.1 in
        let Excited : ℕ → Type 0 = λ w. IsExcited n w e.sig in
        let Old : ℕ → Type 0 = λ w. bit w e.sig ≡ not up in
        let enabled =
        excited_enables u.coded n k.0 e.sig up circ.built.gives k.1.there (subst Excited k.1.values h.excited)
        (subst Old k.1.values h.old) in
        let step = step_from_enables u.coded.graph k.0 e enabled in
        switch_below c v p has.next has.after u s k.0 e step.0 circ.is kept has.inserts has.rest over refl step.1
