-- The arcs between classes of alike states make the folded graph.
use Rattle.std.proofs.Common.{◌≡◌, ℕ, ◌<◌, ◌≤◌, List, length, map, get_or, All, Contains, sym, ap, subst, ◌∙◌}
use Rattle.std.proofs.Common.{arith}
use Rattle.std.specs.Prelude.{AllPairs}
use Rattle.std.proofs.lemmas.List.Elements.{Contains-get_or, All-contains}
use Rattle.std.proofs.lemmas.Option.{slice_get_within}
use Rattle.si_base.specs.declared.ids.Event.{Event}
use Rattle.si_base.specs.declared.graph.Edge.{Edge}
use Rattle.si_base.specs.declared.graph.Signal.{Signal}
use Rattle.si_base.specs.Graph.{StateGraph, Step, IsMadeOf, arc, kind_place}
use Rattle.si_base.specs.Codes.{CodedGraph, IsCoded, code}
use Rattle.si_graph.specs.Loops.Renaming.{renamed}
use Rattle.si_graph.proofs.CutLemmas.{place_read}
use Rattle.si_graph.proofs.ListMembers.{Contains-map, Contains-from_map}
use Rattle.si_fold.specs.Folded.{AreClasses, IsFolded}

-- the arcs are among so many states and signals
abbrev pub AreAmong : ℕ → List Signal → List Edge → Type 0
AreAmong states signals arcs = All (λ a. (a.from < states) × (a.event.sig < length signals) × (a.to < states)) arcs

pub kept_within : (c : CodedGraph) (kept class : List ℕ) → AreClasses c kept class → All (λ s. s < c.graph.states) kept
kept_within c kept class are k d below =
    ((are.members (get_or kept k d)).0 (Contains-get_or kept k d below)).1.alike.other_within

module _ (c : CodedGraph) (is : IsCoded c) (kept class : List ℕ) (are : AreClasses c kept class) where
  class_inside : (s : ℕ) → s < c.graph.states → get_or class s 0 < length kept
  class_inside s within = (let own = are.each s within in slice_get_within kept (get_or class s 0) own.0 own.2)

  -- ---- the start
  start_is : (at place : ℕ) → at ≡ c.graph.start → place ≡ get_or class at place
      → place ≡ get_or class c.graph.start 0
  start_is at place at_is read =
      let starts = is.graph_is.starts in
      let count = are.count in
      place_read class at c.graph.start place at_is (omega (arith, starts, count)) read

  pub start_inside : (place : ℕ) → place ≡ get_or class c.graph.start 0 → place < length kept
  start_inside place is_place = (
      let inside = class_inside c.graph.start is.graph_is.starts in omega (arith, inside, is_place))

  pub some_kept : 0 < length kept
  some_kept = (let inside = class_inside c.graph.start is.graph_is.starts in omega (arith, inside))

  -- ---- the arcs
  pub arcs_inside : (arcs : List Edge) → arcs ≡ map (renamed class) c.graph.edges
      → AreAmong (length kept) c.graph.signals arcs
  arcs_inside arcs arcs_are k d within =
      let b = get_or arcs k d in
      let there = subst (λ (xs : List Edge). Contains xs b) arcs_are (Contains-get_or arcs k d within) in
      let x = Contains-from_map (renamed class) c.graph.edges b there in
      let Among : ℕ → Edge → Type 0 =
      λ states a. (a.from < states) × (a.event.sig < length c.graph.signals) × (a.to < states) in
      let was = All-contains (Among c.graph.states) c.graph.edges x.0 is.graph_is.within x.1 in
      subst (Among (length kept)) x.2 (class_inside x.0.from was.0, was.1, class_inside x.0.to was.2)

  -- ---- the graph
  pub made_is_folded : (arcs : List Edge) (codes : List ℕ) (start : ℕ) (g : StateGraph)
      → arcs ≡ map (renamed class) c.graph.edges → codes ≡ map (code c) kept → start ≡ get_or class c.graph.start 0
      → IsMadeOf c.graph.signals (length kept) arcs start g
      → IsFolded c kept class (record { graph = g; codes = codes })
  made_is_folded arcs codes start g arcs_are codes_are start_is made = record {
    classes = are;
    signals_stay = made.signals_are;
    count = made.states_are;
    start_is = made.start_is ∙ start_is;
    arcs = λ i e j. (
      λ step. (
          let there = subst (λ (xs : List Edge). Contains xs (arc i e j)) arcs_are ((made.arcs (arc i e j)).0 step) in
          let x = Contains-from_map (renamed class) c.graph.edges (arc i e j) there in
          let event : x.0.event ≡ e = ap (λ (a : Edge). a.event) x.2 in
          let own : Step c.graph x.0.from e x.0.to =
          subst (λ (f : Event). Step c.graph x.0.from f x.0.to) event x.1 in
          record {
            source = x.0.from;
            target = x.0.to;
            step = own;
            source_in = ap (λ (a : Edge). a.from) x.2;
            target_in = ap (λ (a : Edge). a.to) x.2;
          }),
      λ leads. (
          let x : Edge = arc leads.source e leads.target in
          let from = leads.source_in in
          let to = leads.target_in in
          let whole : renamed class x ≡ arc i e j = λ k. record { from = from k; event = e; to = to k } in
          let there = subst (λ (b : Edge). Contains (map (renamed class) c.graph.edges) b) whole
          (Contains-map (renamed class) c.graph.edges x leads.step) in
          (made.arcs (arc i e j)).1 (subst (λ (xs : List Edge). Contains xs (arc i e j)) (sym arcs_are) there)),
    );
    graph = made.graph;
    codes = codes_are;
  }

  -- ---- the same over a copy of the graph
  module _ (g : StateGraph) (same : g ≡ c.graph) where
    own_signals : (signals : List Signal) → signals ≡ g.signals → signals ≡ c.graph.signals
    own_signals signals are_signals = are_signals ∙ ap (λ (x : StateGraph). x.signals) same

    own_arcs : (arcs : List Edge) → arcs ≡ map (renamed class) g.edges → arcs ≡ map (renamed class) c.graph.edges
    own_arcs arcs are_arcs = are_arcs ∙ ap (λ (x : StateGraph). map (renamed class) x.edges) same

    own_start : (at place : ℕ) → at ≡ g.start → place ≡ get_or class at place → place ≡ get_or class c.graph.start 0
    own_start at place at_is read = start_is at place (at_is ∙ ap (λ (x : StateGraph). x.start) same) read

    pub copied_kinds : (signals : List Signal) → signals ≡ g.signals
        → AllPairs (λ x y. kind_place x.kind ≤ kind_place y.kind) signals
    copied_kinds signals are_signals =
        let InOrder : List Signal → Type 0 = λ xs. AllPairs (λ x y. kind_place x.kind ≤ kind_place y.kind) xs in
        subst InOrder (sym (own_signals signals are_signals)) is.graph_is.kinds

    pub copied_arcs : (signals : List Signal) (arcs : List Edge) → signals ≡ g.signals
        → arcs ≡ map (renamed class) g.edges → AreAmong (length kept) signals arcs
    copied_arcs signals arcs are_signals are_arcs =
        subst (λ (xs : List Signal). AreAmong (length kept) xs arcs) (sym (own_signals signals are_signals))
        (arcs_inside arcs (own_arcs arcs are_arcs))

    pub copied_start : (at place : ℕ) → at ≡ g.start → place ≡ get_or class at place → place < length kept
    copied_start at place at_is read = start_inside place (own_start at place at_is read)

    pub copied_folded : (signals : List Signal) (arcs : List Edge) (at place : ℕ) (h : StateGraph) (codes : List ℕ)
        → signals ≡ g.signals → arcs ≡ map (renamed class) g.edges → at ≡ g.start → place ≡ get_or class at place
        → IsMadeOf signals (length kept) arcs place h → codes ≡ map (code c) kept
        → IsFolded c kept class (record { graph = h; codes = codes })
    copied_folded signals arcs at place h codes are_signals are_arcs at_is read made codes_are =
        made_is_folded arcs codes place h (own_arcs arcs are_arcs) codes_are (own_start at place at_is read)
        (subst (λ (xs : List Signal). IsMadeOf xs (length kept) arcs place h) (own_signals signals are_signals) made)
