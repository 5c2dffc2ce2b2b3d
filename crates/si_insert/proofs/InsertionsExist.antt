-- An accepted partition can be inserted under a free name.
use Rattle.std.proofs.Common.{◌≡◌, ◌≢◌, ℕ, ◌<◌, List, [], ◌∷◌, ◌++◌, length, get_or, All, refl, arith}
use Rattle.std.proofs.lemmas.List.{get_or_default}
use Rattle.std.proofs.lemmas.List.Elements.{All-contains, Contains-get_or}
use Rattle.si_base.specs.declared.graph.Edge.{Edge}
use Rattle.si_base.specs.declared.graph.Signal.{Signal}
use Rattle.si_base.specs.Codes.{CodedGraph, IsCoded}
use Rattle.si_base.specs.Graph.{StateGraph, IsGraph, IsMadeOf}
use Rattle.si_base.specs.Proper.{IsProper}
use Rattle.si_graph.proofs.ArcsInOrder.{arcs_in_order}
use Rattle.si_insert.specs.declared.lineage.TraceStep.{TraceStep}
use Rattle.si_insert.specs.declared.partition.Class.{Class}
use Rattle.si_insert.specs.Accepted.{IsAccepted, copy_count}
use Rattle.si_insert.specs.Fresh.{IsTaken, IsFresh}
use Rattle.si_insert.specs.Insertion.{IsInsertedGraph, new_signal}
use Rattle.si_insert.specs.Lineage.{Current, Inserts, next_current}
use Rattle.si_insert.specs.GraphOfCopies.{CanBeMade, copies_of, new_edges, new_start}
use Rattle.si_insert.proofs.ApplyLemmas.{can_be_made, applied}
use Rattle.si_insert.proofs.OneFreshName.{some_fresh}
use Rattle.si_insert.proofs.LineageTraces.{coded_next}

-- ---- the inserted graph
module _ (c : CodedGraph) (classes : List Class) (name : List ℕ) (coded : IsCoded c)
    (accepted : IsAccepted c.graph classes) (free : IsTaken c.graph.signals name → ⊥) where
  other_names : All (λ x. x.name ≢ name) c.graph.signals
  other_names i d below same =
      let x : Signal = get_or c.graph.signals i d in
      free (i, x, below, get_or_default c.graph.signals i x d below, same)

  can_be : CanBeMade (c.graph.signals ++ new_signal name ∷ []) (copy_count classes) (new_edges c.graph classes)
      (new_start c.graph classes)
  can_be = can_be_made c classes (new_signal name) coded accepted refl other_names

  pub some_insertion : (h : StateGraph) × IsInsertedGraph c.graph classes (new_signal name) (copies_of classes) h
      × IsGraph h
  some_insertion =
      let arcs : List Edge = new_edges c.graph classes in
      let o = arcs_in_order arcs in
      let ordered : List Edge = o.0 in
      let h : StateGraph = record {
        signals = c.graph.signals ++ new_signal name ∷ [];
        states = copy_count classes;
        edges = ordered;
        start = new_start c.graph classes;
      } in
      let Inside : Edge → Type 0 = λ a. (a.from < h.states) × (a.event.sig < length h.signals) × (a.to < h.states) in
      let graph : IsGraph h = record {
        few_states = can_be.few_states;
        few_signals = can_be.few_signals;
        few_edges = omega (arith, o.1.no_longer, can_be.few_edges);
        within = λ k d below.
            let a = get_or ordered k d in
            All-contains Inside arcs a can_be.within ((o.1.same a).0 (Contains-get_or ordered k d below));
        starts = can_be.start_in;
        kinds = can_be.kinds;
        names = can_be.names;
        ordered = o.1.sorted;
      } in
      let made : IsMadeOf h.signals h.states arcs h.start h = record {
        signals_are = refl;
        states_are = refl;
        start_is = refl;
        graph = graph;
        arcs = o.1.same;
      } in
      let is = applied c classes (new_signal name) h coded accepted.lawful refl made in
      (h, is.0, is.1)

-- ---- one insertion more
pub record IsNext (v : Current) (p : TraceStep) (u : Current) : Type 0 where
  pub inserts : Inserts v p u
  pub proper : IsProper u.coded.graph

pub some_next : (v : Current) (p : TraceStep) → IsCoded v.coded → IsAccepted v.coded.graph p.partition
    → (IsTaken v.coded.graph.signals p.name → ⊥) → (u : Current) × IsNext v p u
some_next v p coded accepted free =
    let made = some_insertion v.coded p.partition p.name coded accepted free in
    let copies = copies_of p.partition in (
      next_current v copies made.0,
      record {
        inserts = record {
          accepted = accepted;
          copies = copies;
          graph = made.0;
          insertion = made.1;
          limits = made.2;
          makes = refl;
        };
        proper = accepted.proper (new_signal p.name) copies made.0 made.1;
      },
    )

-- of that partition, by the fresh name of the stem
pub record IsNextOf (v : Current) (stem : List ℕ) (classes : List Class) (p : TraceStep) (u : Current)
    : Type 0 where
  pub classes_are : p.partition ≡ classes
  pub name : IsFresh v.coded.graph.signals stem p.name
  pub inserts : Inserts v p u
  pub coded : IsCoded u.coded
  pub proper : IsProper u.coded.graph

pub next_of : (v : Current) (stem : List ℕ) (classes : List Class) → IsCoded v.coded
    → IsAccepted v.coded.graph classes → (p : TraceStep) × (u : Current) × IsNextOf v stem classes p u
next_of v stem classes coded accepted =
    let (name, fresh) = some_fresh v.coded.graph.signals stem coded.graph_is.few_signals in
    let p : TraceStep = record { name = name; partition = classes } in
    let (u, next) = some_next v p coded accepted fresh.free in (
      p,
      u,
      record {
        classes_are = refl;
        name = fresh;
        inserts = next.inserts;
        coded = coded_next v p u coded next.inserts;
        proper = next.proper;
      },
    )
