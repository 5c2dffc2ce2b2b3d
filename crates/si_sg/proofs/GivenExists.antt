-- A text without fault gives a graph.
use Rattle.std.proofs.Common.{◌≡◌, ◌<◌, ℕ, List, [], ◌∷◌, map, length, get_or, All}
use Rattle.std.proofs.Common.{refl, arith, inl, inr, None, Contains, ◌⊎◌, sym, subst}
use Rattle.std.specs.List.{slice_index_or}
use Rattle.std.proofs.lemmas.Bool.{cases_Bool, cases_eq}
use Rattle.std.proofs.lemmas.List.{length-map}
use Rattle.std.proofs.lemmas.List.Elements.{All-contains, Contains-get_or}
use Rattle.si_base.specs.declared.graph.Edge.{Edge}
use Rattle.si_base.specs.declared.graph.Signal.{Signal}
use Rattle.si_base.specs.Graph.{StateGraph}
use Rattle.si_base.specs.Lines.{Line, numbered}
use Rattle.si_base.specs.GivenGraph.{Sg as SgValue}
use Rattle.si_graph.proofs.ArcsInOrder.{arcs_in_order}
use Rattle.si_graph.proofs.CutExists.{some_cut}
use Rattle.si_graph.proofs.ListMembers.{Contains-nil, Contains-here, Contains-there, Contains-cons_cases}
use Rattle.si_sg.specs.Dropped.{IsDroppedBy}
use Rattle.si_sg.proofs.OtherLemmas.{some_others, ascending}
use Rattle.si_sg.specs.Header.{Header, no_header, declared, is_state_graph}
use Rattle.si_sg.specs.Section.{Section, no_section}
use Rattle.si_sg.specs.GivenGraph.{IsGivenBy, IsSpelled, edge_of, model_in, signals_in, start_in}
use Rattle.si_words.specs.Ends.{after_last}
use Rattle.si_words.proofs.FaultLemmas.{line_none}
use Rattle.si_sg.specs.GraphText.{words, graph_fault, header_of, section_of, header_line_fault}
use Rattle.si_sg.specs.GraphText.{header_line_with, header_lines_fault, section_lines_fault, header_says}
use Rattle.si_sg.specs.GraphText.{after_header}
use Rattle.si_sg.specs.Loops.Reads.{AreSignals, IsWholeSection}
use Rattle.si_sg.proofs.GivenApart.{apart_pairs}
use Rattle.si_sg.proofs.HeaderLemmas.{signals_kept}
use Rattle.si_sg.proofs.BuildLemmas.{edges_within, section_read}
use Rattle.si_sg.proofs.SignalLemmas.{as_many, kinds_in_order, names_apart}

-- what holds of the header of lines without fault: the section behind it has none, and its signals are distinct and
-- few
pub record IsHeaderOf (last : ℕ) (h : Header) (after : List Line) : Type 0 where
  pub section : section_lines_fault last (declared h) no_section after ≡ None
  pub signals : AreSignals (declared h)

pub header_good : (last : ℕ) (h : Header) (lines : List Line) → AreSignals (declared h)
    → header_lines_fault last h lines ≡ None → IsHeaderOf last (header_says h lines) (after_header lines)
header_good last h [] are none = cc
header_good last h (line ∷ lines) are none =
    let parts = line_none line.0 (header_line_fault h line.1) _ none in
    let next : AreSignals (declared (header_line_with h line)) = signals_kept h line parts.0 are in
    elim (cases_Bool (is_state_graph (words line.1))) [
      | inl end ↦ rw end (record { section = rw end at parts.1; signals = next })
      | inr more ↦
          let rest = header_good last (header_line_with h line) lines next (rw more at parts.1) in
          rw more (record { section = rest.section; signals = rest.signals })
    ]

-- ---- the graph that a header and a section spell
module _ (h : Header) (x : Section) (are : AreSignals (declared h))
    (section : IsWholeSection (length (signals_in h)) x) where
  abbrev Inside : Edge → Type 0
  Inside a = (a.from < length x.states) × (a.event.sig < length (signals_in h)) × (a.to < length x.states)

  some_graph : (g : StateGraph) × IsSpelled (signals_in h) x g
  some_graph =
      let signals : List Signal = signals_in h in
      let arcs : List Edge = map edge_of x.arcs in
      let ordered = arcs_in_order arcs in
      let once = ordered.1 in
      let inside : All Inside arcs = edges_within (length signals) (length x.states) x.arcs section.section.within in
      let g : StateGraph = record {
        signals = signals;
        states = length x.states;
        edges = ordered.0;
        start = start_in x.states x.marks;
      } in (
        g,
        record {
          signals_are = refl;
          states_are = refl;
          start_is = refl;
          graph = record {
            few_states = omega (arith, section.section.few_states);
            few_signals = omega (arith, are.few, as_many h.inputs h.outputs h.internals signals refl);
            few_edges = omega (arith, once.no_longer, length-map x.arcs edge_of, section.section.few_arcs);
            within = λ k d within. All-contains Inside arcs (get_or ordered.0 k d) inside
                ((once.same (get_or ordered.0 k d)).0 (Contains-get_or ordered.0 k d within));
            starts = section.start;
            kinds = kinds_in_order h.inputs h.outputs h.internals signals refl;
            names = names_apart h.inputs h.outputs h.internals signals refl (apart_pairs (declared h) are.apart);
            ordered = once.sorted;
          };
          arcs = once.same;
        },
      )

some_whole : (text : List ℕ) → graph_fault text ≡ None
    → (g : StateGraph) × IsSpelled (signals_in (header_of text)) (section_of text) g
some_whole text none =
    let nothing : AreSignals (declared no_header) = record { apart = tt; few = omega arith } in
    let header = header_good (after_last text) no_header (numbered text) nothing none in
    let h : Header = header_of text in
    let x : Section = section_of text in
    let section : IsWholeSection (length (signals_in h)) x =
    section_read (after_last text) h (declared h) (signals_in h)
    (after_header (numbered text)) x refl refl header.section refl in
    some_graph h x header.signals section

pub some_given : (text : List ℕ) → graph_fault text ≡ None → (sg : SgValue) × IsGivenBy text sg
some_given text none =
    let h : Header = header_of text in
    let x : Section = section_of text in
    let whole = some_whole text none in
    let cut = some_cut whole.0 whole.1.graph in
    let names : List (List ℕ) = map (λ s. slice_index_or x.states s []) cut.0 in (
      record { model = model_in h.models; graph = cut.1; states = names },
      record {
        no_fault = none;
        is = record {
          whole = whole.0;
          spelled = whole.1;
          given = record { kept = cut.0; cut = cut.2; model_is = refl; states_are = refl };
        };
      },
    )

-- ---- the states that it hasn't
among : (xs : List ℕ) (s : ℕ) → Contains xs s ⊎ (Contains xs s → ⊥)
among [] s = inr (Contains-nil s)
among (x ∷ xs) s = elim (cases_eq s x) [
  | inl same ↦ inl (subst (Contains (x ∷ xs)) (sym same) (Contains-here x xs))
  | inr other ↦ elim (among xs s) [
    | inl there ↦ inl (Contains-there x xs s there)
    | inr none ↦ inr (λ there. elim (Contains-cons_cases x xs s there) [
      | inl same ↦ other (sym same)
      | inr later ↦ none later
    ])
  ]
]

pub some_dropped : (text : List ℕ) → graph_fault text ≡ None → (names : List (List ℕ)) × IsDroppedBy text names
some_dropped text none =
    let whole = some_whole text none in
    let cut = some_cut whole.0 whole.1.graph in
    let others = some_others (Contains cut.0) (among cut.0) whole.0.states in (
      map (λ s. slice_index_or (section_of text).states s []) others.0,
      record {
        whole = whole.0;
        spelled = whole.1;
        states = others.0;
        are = record {
          exactly = λ s. (
            (λ there. let is = (others.1.exactly s).0 there in
                (is.0, λ reached. is.1 ((cut.2.reachable s).1 reached))),
            (λ is. (others.1.exactly s).1 (is.0, λ kept. is.1 ((cut.2.reachable s).0 kept))),
          );
          in_order = ascending others.0 others.1.in_order;
        };
        named = refl;
      },
    )
