-- A graph whose inserted signals become internal ones: what it keeps.
use Rattle.std.proofs.Common.{◌≡◌, ◌≢◌, ℕ, ◌<◌, ◌≤◌, ◌^◌, List, [], ◌∷◌, length, map, get_or, All, AllPairs, Contains}
use Rattle.std.proofs.Common.{slice_get, Option, Some, None, Bool, IsTrue, refl, sym, ap, subst, ◌∙◌, arith}
use Rattle.std.specs.Option.{option_map}
use Rattle.std.proofs.lemmas.List.{get_or-map, length-map}
use Rattle.std.proofs.lemmas.Option.{slice_get-map}
use Rattle.si_base.specs.declared.graph.Signal.{Signal}
use Rattle.si_base.specs.declared.graph.Edge.{Edge}
use Rattle.si_base.specs.declared.graph.SigKind.{SigKind}
use Rattle.si_base.specs.declared.graph.SigKind.TheVariants.{Input, Output, Internal, Inserted}
use Rattle.si_base.specs.declared.ids.Event.{Event}
use Rattle.si_base.specs.Bits.{bit}
use Rattle.si_base.specs.Codes.{AreValues, CodedGraph, HasValues, IsCoded, code}
use Rattle.si_base.specs.Graph.{IsGraph, IsMadeOf, IsNonInput, StateGraph, Walk, is_driven, kind_place}
use Rattle.si_base.specs.Limits.{max_signals}
use Rattle.si_base.specs.Proper.{HasNoConflict, IsProper}
use Rattle.si_base.proofs.GivenGraphUnique.{same_edges, same_graph}
use Rattle.si_inserted.specs.Current.{given_kind, given_signal, internal_coded, internal_graph}

-- ---- kinds
pub same_drive : (kind : SigKind) → is_driven (given_kind kind) ≡ is_driven kind
same_drive Input = refl
same_drive Output = refl
same_drive Internal = refl
same_drive Inserted = refl

pub none_inserted : (kind : SigKind) → given_kind kind ≢ Inserted
none_inserted Input same = cc
none_inserted Output same = cc
none_inserted Internal same = cc
none_inserted Inserted same = cc

no_later : (kind : SigKind) → kind_place (given_kind kind) ≤ kind_place kind
no_later Input = omega arith
no_later Output = omega arith
no_later Internal = omega arith
no_later Inserted = omega arith

at_most_internal : (kind : SigKind) → kind_place (given_kind kind) ≤ 2
at_most_internal Input = omega arith
at_most_internal Output = omega arith
at_most_internal Internal = omega arith
at_most_internal Inserted = omega arith

order_stays : (a b : SigKind) → kind_place a ≤ kind_place b → kind_place (given_kind a) ≤ kind_place (given_kind b)
order_stays a Input low = omega (arith, no_later a, low)
order_stays a Output low = omega (arith, no_later a, low)
order_stays a Internal low = at_most_internal a
order_stays a Inserted low = at_most_internal a

-- ---- signals
pub pairs_stay : (R : Signal → Signal → Type 0) (xs : List Signal)
    → AllPairs (λ x y. R (given_signal x) (given_signal y)) xs → AllPairs R (map given_signal xs)
pairs_stay R xs are i j d before within =
    let second : j < length xs = omega (arith, within, length-map xs given_signal) in
    let first : i < length xs = omega (arith, before, second) in
    let one = get_or-map given_signal xs i d d first in
    let other = get_or-map given_signal xs j d d second in
    rw (one, other) (are i j d before second)

in_order : (xs : List Signal) → AllPairs (λ x y. kind_place x.kind ≤ kind_place y.kind) xs
    → AllPairs (λ x y. kind_place x.kind ≤ kind_place y.kind) (map given_signal xs)
in_order xs ordered = pairs_stay (λ x y. kind_place x.kind ≤ kind_place y.kind) xs
    (λ i j d before within. order_stays (get_or xs i d).kind (get_or xs j d).kind (ordered i j d before within))

names_apart : (xs : List Signal) → AllPairs (λ x y. x.name ≡ y.name → ⊥) xs
    → AllPairs (λ x y. x.name ≡ y.name → ⊥) (map given_signal xs)
names_apart xs apart = pairs_stay (λ x y. x.name ≡ y.name → ⊥) xs apart

given_at : (z : ℕ) (x : Signal) (found : Option Signal) → option_map given_signal found ≡ Some x
    → IsTrue (is_driven x.kind) → (y : Signal) × (found ≡ Some y) × IsTrue (is_driven y.kind)
given_at z x None at driven = cc
given_at z x (Some y) at driven =
    let same : given_signal y ≡ x = cc in
    let kind : is_driven (given_kind y.kind) ≡ is_driven x.kind = ap (λ (w : Signal). is_driven w.kind) same in
    (y, refl, sym (same_drive y.kind) ∙ kind ∙ driven)

-- what the circuit drives stays
pub driven_before : (xs : List Signal) (z : ℕ) → IsNonInput (map given_signal xs) z → IsNonInput xs z
driven_before xs z (x, at, driven) =
    given_at z x (slice_get xs z) (sym (slice_get-map given_signal xs z) ∙ at) driven

-- ---- the graph
pub internal_is_graph : (g : StateGraph) → IsGraph g → IsGraph (internal_graph g)
internal_is_graph g is =
    let count = length-map g.signals given_signal in
    record {
      few_states = is.few_states;
      few_signals = subst (λ (n : ℕ). n ≤ max_signals) (sym count) is.few_signals;
      few_edges = is.few_edges;
      within = subst (λ (n : ℕ). All (λ (a : Edge). (a.from < g.states) × (a.event.sig < n) × (a.to < g.states))
          g.edges) (sym count) is.within;
      starts = is.starts;
      kinds = in_order g.signals is.kinds;
      names = names_apart g.signals is.names;
      ordered = is.ordered;
    }

-- what is made of these parts is that graph
pub made_internal : (g h : StateGraph) (signals : List Signal) (states : ℕ) (edges : List Edge) (start : ℕ) → IsGraph g
    → signals ≡ map given_signal g.signals → states ≡ g.states → edges ≡ g.edges → start ≡ g.start
    → IsMadeOf signals states edges start h → h ≡ internal_graph g
made_internal g h signals states edges start is signals_are states_are edges_are start_is made =
    same_graph h (internal_graph g) (made.signals_are ∙ signals_are) (made.states_are ∙ states_are)
    (same_edges h.edges g.edges made.graph.ordered is.ordered
    (λ a there. subst (λ (es : List Edge). Contains es a) edges_are ((made.arcs a).0 there))
    (λ a there. (made.arcs a).1 (subst (λ (es : List Edge). Contains es a) (sym edges_are) there)))
    (made.start_is ∙ start_is)

same_walk : (g : StateGraph) (s : ℕ) (es : List Event) (t : ℕ) → Walk g s es t → Walk (internal_graph g) s es t
same_walk g s [] t walk = walk
same_walk g s (e ∷ es) t (u, step, walk) = (u, step, same_walk g u es t walk)

same_values : (g : StateGraph) (a : ℕ) (v : ℕ → Bool) → AreValues g a v → AreValues (internal_graph g) a v
same_values g a v are = record { rises = are.rises; falls = are.falls; keeps = are.keeps; idle = are.idle }

pub internal_is_coded : (c : CodedGraph) → IsCoded c → IsCoded (internal_coded c)
internal_is_coded c is =
    let count = length-map c.graph.signals given_signal in
    record {
      graph_is = internal_is_graph c.graph is.graph_is;
      connected = λ s within. (let walk = is.connected s within in
          (walk.0, same_walk c.graph c.graph.start walk.0 s walk.1));
      deterministic = is.deterministic;
      count = is.count;
      values = λ a within. same_values c.graph a (λ s. bit (code c s) a) (is.values a (omega (arith, within, count)));
      no_more = subst (λ (n : ℕ). All (λ k. k < 2 ^ n) c.codes) (sym count) is.no_more;
    }

pub internal_is_proper : (g : StateGraph) → IsProper g → IsProper (internal_graph g)
internal_is_proper g is =
    let count = length-map g.signals given_signal in
    record {
      deterministic = is.deterministic;
      consistent = λ a within. (let have : HasValues g a = is.consistent a (omega (arith, within, count)) in
          (have.0, same_values g a have.0 have.1));
      commutative = is.commutative;
      persistent = λ s e f t driven. is.persistent s e f t (driven_before g.signals e.sig driven);
    }

pub internal_is_distinct : (c : CodedGraph) → HasNoConflict c → HasNoConflict (internal_coded c)
internal_is_distinct c none pair conflict = none pair (record {
  order = conflict.order;
  within = conflict.within;
  same_code = conflict.same_code;
  event = conflict.event;
  non_input = driven_before c.graph.signals conflict.event.sig conflict.non_input;
  differ = conflict.differ;
})
