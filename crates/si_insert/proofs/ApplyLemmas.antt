-- What `apply` hands on meets the conditions of `Graph::make`.
use Rattle.std.proofs.Common.{◌≡◌, ◌≢◌, ℕ, ◌+◌, ◌^◌, ◌<◌, ◌≤◌, List, [], ◌∷◌, ◌++◌, length, get_or}
use Rattle.std.proofs.Common.{All, Contains, map, refl, sym, ap, subst, subst₂, ◌∙◌, arith, inl, inr}
use Rattle.std.proofs.lemmas.List.{length_push, get_or_default}
use Rattle.std.proofs.lemmas.List.Elements.{Contains-get_or}
use Rattle.std.proofs.lemmas.List.Quantifiers.{all_pairs_push}
use Rattle.std.proofs.lemmas.Option.{slice_get_within}
use Rattle.si_base.specs.declared.graph.Edge.{Edge}
use Rattle.si_base.specs.declared.graph.Signal.{Signal}
use Rattle.si_base.specs.declared.graph.SigKind.{SigKind}
use Rattle.si_base.specs.declared.graph.SigKind.TheVariants.{Input, Output, Internal, Inserted}
use Rattle.si_base.specs.Graph.{StateGraph, IsGraph, IsMadeOf, kind_place}
use Rattle.si_base.specs.Codes.{CodedGraph, IsCoded}
use Rattle.si_base.proofs.RightGateLemmas.{step_within}
use Rattle.si_insert.specs.declared.partition.Class.{Class}
use Rattle.si_insert.specs.Partition.{IsLawful}
use Rattle.si_insert.specs.Insertion.{IsInsertedGraph}
use Rattle.si_insert.specs.Accepted.{IsAccepted, copy_count}
use Rattle.si_insert.specs.GraphOfCopies.{CanBeMade, copies_of, new_edges, new_start}
use Rattle.si_insert.proofs.ApplyInserts.{new_edge_joins, made_is_insertion, is_insertion}
use Rattle.si_insert.specs.Insertion.{Copy, copy_code, new_signal}
use Rattle.si_insert.specs.Loops.Applied.{IsApplied}
use Rattle.si_insert.specs.Fresh.{IsTaken}
use Rattle.si_insert.proofs.InsertionCodes.{is_coded as new_coded}
use Rattle.si_insert.proofs.AcceptAnswers.{Handed, is_coded, graph_is}
use Rattle.si_insert.proofs.StateCopyPlaces.{copies_within}
use Rattle.si_insert.proofs.InsertionLimits.{few_arcs}
use Rattle.si_insert.proofs.CopyArcs.{from_on, filtered_few, few_from}

few_edges : (c : CodedGraph) (classes : List Class) → IsCoded c → length classes ≡ c.graph.states
    → length (new_edges c.graph classes) < 2 ^ 32
few_edges c classes is count =
    let few = few_arcs c is in
    let states = is.graph_is.few_states in
    let most = few_from c.graph classes 0 classes in
    let some = filtered_few (λ (a : Edge). from_on 0 a) c.graph.edges in
    omega (arith, few, states, count, most, some)

inside : (c : CodedGraph) (classes : List Class) (new : Signal) → IsCoded c → IsLawful c.graph classes
    → new.kind ≡ Inserted → (a : Edge) → Contains (new_edges c.graph classes) a
    → (a.from < copy_count classes) × (a.event.sig < length (c.graph.signals ++ new ∷ [])) × (a.to < copy_count classes)
inside c classes new is lawful kind a there =
    let g = c.graph in
    let j = new_edge_joins g classes a.from a.event a.to is.graph_is lawful there in
    let h = made_is_insertion g classes new is.graph_is lawful kind in
    let size = h.count in
    let from = slice_get_within (copies_of classes) a.from j.from j.from_is in
    let to = slice_get_within (copies_of classes) a.to j.to j.to_is in
    let more = length_push g.signals new in
    let sig : a.event.sig < length g.signals + 1 = elim j.moves [
      | inl copied ↦ (let parts = step_within g j.from.state a.event j.to.state is.graph_is copied.step in
          omega (arith, parts.1))
      | inr switch ↦ omega (arith, switch.new)
    ] in
    (omega (arith, from, size), omega (arith, sig, more), omega (arith, to, size))

kind_below : (k : SigKind) → kind_place k ≤ kind_place Inserted
kind_below Input = omega arith
kind_below Output = omega arith
kind_below Internal = omega arith
kind_below Inserted = omega arith

pub can_be_made : (c : CodedGraph) (classes : List Class) (new : Signal) → IsCoded c → IsAccepted c.graph classes
    → new.kind ≡ Inserted → All (λ x. x.name ≢ new.name) c.graph.signals
    → CanBeMade (c.graph.signals ++ new ∷ []) (copy_count classes) (new_edges c.graph classes)
    (new_start c.graph classes)
can_be_made c classes new is accepted kind other =
    let g = c.graph in
    let h = made_is_insertion g classes new is.graph_is accepted.lawful kind in
    let start = slice_get_within (copies_of classes) (new_start g classes) _ h.starts in
    record {
      some_state = omega (arith, start, h.count);
      few_states = accepted.few_states;
      few_edges = few_edges c classes is accepted.lawful.count;
      few_signals = omega (arith, length_push g.signals new, accepted.few_signals);
      names = all_pairs_push (λ x y. x.name ≢ y.name) g.signals new is.graph_is.names other;
      kinds = all_pairs_push (λ x y. kind_place x.kind ≤ kind_place y.kind) g.signals new is.graph_is.kinds
          (λ k d below. (let P : SigKind → Type 0 = λ s. kind_place (get_or g.signals k d).kind ≤ kind_place s in
          subst P (sym kind) (kind_below (get_or g.signals k d).kind)));
      within =
          λ k d below. inside c classes new is accepted.lawful kind (get_or (new_edges g classes) k d)
          (Contains-get_or (new_edges g classes) k d below);
      start_in = omega (arith, start, h.count);
    }

-- and what `Graph::make` answers is the inserted graph
pub applied : (c : CodedGraph) (classes : List Class) (new : Signal) (h : StateGraph) → IsCoded c
    → IsLawful c.graph classes → new.kind ≡ Inserted → IsMadeOf (c.graph.signals ++ new ∷ []) (copy_count classes)
    (new_edges c.graph classes) (new_start c.graph classes) h
    → IsInsertedGraph c.graph classes new (copies_of classes) h × IsGraph h
applied c classes new h is lawful kind m =
    (is_insertion c.graph classes new h is.graph_is lawful kind m.signals_are m.states_are m.start_is m.arcs, m.graph)

-- ---- what the body puts together, over the copies of its arguments that its calls hand out
pub conditions : (m k : CodedGraph) (g : StateGraph) (p xs : List Class) (name : List ℕ) → Handed m k g p xs
    → IsAccepted m.graph p → ¬ IsTaken m.graph.signals name
    → CanBeMade (g.signals ++ new_signal name ∷ []) (copy_count xs) (new_edges g xs) (new_start g xs)
conditions m k g p xs name h accepted free =
    let other : All (λ x. x.name ≢ name) m.graph.signals =
    λ i d below same. free (
      i,
      get_or m.graph.signals i d,
      below,
      get_or_default m.graph.signals i (get_or m.graph.signals i d) d below,
      same,
    ) in
    let P : StateGraph → List Class → Type 0 =
    λ j ys. CanBeMade (j.signals ++ new_signal name ∷ []) (copy_count ys) (new_edges j ys) (new_start j ys) in
    subst₂ P (sym (graph_is m k g p xs h)) (sym h.classes)
    (can_be_made m p (new_signal name) (is_coded m k g p xs h) accepted refl other)

pub put_together : (m k : CodedGraph) (g : StateGraph) (p xs : List Class) (name : List ℕ) (h : StateGraph)
    (codes : List ℕ) (copies : List Copy) → Handed m k g p xs → IsAccepted m.graph p
    → IsMadeOf (g.signals ++ new_signal name ∷ []) (copy_count xs) (new_edges g xs) (new_start g xs) h
    → codes ≡ map (copy_code k) copies → copies ≡ copies_of xs
    → IsApplied m p name (record { graph = h; codes = codes })
put_together m k g p xs name h codes copies handed accepted made codes_are copies_are =
    let P : StateGraph → List Class → Type 0 =
    λ j ys. IsMadeOf (j.signals ++ new_signal name ∷ []) (copy_count ys) (new_edges j ys) (new_start j ys) h in
    let r =
    applied m p (new_signal name) h (is_coded m k g p xs handed) handed.lawful refl
    (subst₂ P (graph_is m k g p xs handed) handed.classes made) in
    let all : codes ≡ map (copy_code m) (copies_of p) =
    codes_are ∙ ap (λ (c : CodedGraph). map (copy_code c) copies) handed.same
    ∙ ap (map (copy_code m)) (copies_are ∙ ap copies_of handed.classes) in
    let Q : List ℕ → Type 0 = λ ns. IsCoded (record { graph = h; codes = ns }) in
    record {
      insertion = r.0;
      codes = all;
      coded =
          subst Q (sym all) (new_coded m p (new_signal name) (copies_of p) h (is_coded m k g p xs handed) handed.lawful
          r.0 r.1);
      proper = accepted.proper (new_signal name) (copies_of p) h r.0;
    }

pub arcs_within : (states k : ℕ) (xs ys : List Edge) (signals more : List Signal) → xs ≡ ys → k ≡ states
    → more ≡ signals → All (λ a. (a.from < states) × (a.event.sig < length signals) × (a.to < states)) ys
    → All (λ a. (a.from < k) × (a.event.sig < length more) × (a.to < k)) xs
arcs_within states k xs ys signals more same count also all =
    let P : ℕ → List Signal → Type 0 =
    λ n names. All (λ a. (a.from < n) × (a.event.sig < length names) × (a.to < n)) ys in
    let Q : List Edge → Type 0 = λ arcs. All (λ a. (a.from < k) × (a.event.sig < length more) × (a.to < k)) arcs in
    subst Q (sym same) (subst₂ P (sym count) (sym also) all)

pub copies_inside : (m k : CodedGraph) (g : StateGraph) (p xs : List Class) (copies : List Copy) → Handed m k g p xs
    → copies ≡ copies_of xs → All (λ x. x.state < k.graph.states) copies
copies_inside m k g p xs copies h are =
    let P : List Class → Type 0 = λ ys. copies ≡ copies_of ys in
    let Q : List Copy → Type 0 = λ ys. All (λ x. x.state < k.graph.states) ys in
    let count : length p ≡ k.graph.states = h.lawful.count ∙ ap (λ (c : CodedGraph). c.graph.states) (sym h.same) in
    subst Q (sym (subst P h.classes are)) (copies_within p k.graph.states count)
