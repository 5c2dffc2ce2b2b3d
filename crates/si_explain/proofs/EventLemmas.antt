-- The lines of events.
use Rattle.std.proofs.Common.{◌≡◌, ℕ, suc, ◌+◌, ◌<◌, ◌≤◌, ◌==◌, ◌++◌, List, [], ◌∷◌, map, filter, take, drop, length}
use Rattle.std.proofs.Common.{get_or, Contains, refl, sym, ap, ap₂, ◌∙◌, add-one, append_assoc, codes, subst, eq-eqb}
use Rattle.std.proofs.Common.{eqb-true}
use Rattle.std.specs.List.{All}
use Rattle.std.proofs.Math.Seq.{drop-cons}
use Rattle.std.proofs.lemmas.List.{take_more, take_all, map-append, get_or_default}
use Rattle.std.proofs.lemmas.List.Elements.{All-from_recursion}
use Rattle.std.proofs.lemmas.List.Kept.{IsStrictlySortedBy-filter}
use Rattle.std.specs.List.{AllByRecursion}
use Rattle.si_base.specs.declared.ids.Event.{Event}
use Rattle.si_base.specs.declared.graph.Edge.{Edge}
use Rattle.si_base.specs.declared.graph.Signal.{Signal}
use Rattle.si_base.specs.Codes.{CodedGraph, IsCoded}
use Rattle.si_base.specs.EdgeOrder.{edge_cmp}
use Rattle.si_base.specs.Graph.{StateGraph, IsGraph}
use Rattle.si_base.specs.NetlistText.{bits_from, word_if_any}
use Rattle.si_base.specs.Words.{line}
use Rattle.si_base.proofs.StepCodes.{step_within}
use Rattle.si_base.proofs.GivenGraphUnique.{same_edges}
use Rattle.si_graph.specs.Loops.Arcs.{AreOut}
use Rattle.si_graph.proofs.ListMembers.{Contains-filter, Contains-from_filter, Contains-from_map}
use Rattle.si_words.specs.Loops.Writing.{spaced}
use Rattle.si_words.proofs.WritingLemmas.{whole_line, grouped, grouped_two}
use Rattle.si_sg.specs.CanonicalText.{state_at, event_word}
use Rattle.si_walks.specs.declared.arcs.Arcs.{Arcs}
use Rattle.si_walks.specs.declared.arcs.Arcs.TheVariants.{All as AllArcs}
use Rattle.si_walks.specs.Walks.{WalkAlong, LeadsAlong}
use Rattle.si_walks.proofs.FirstWalks.{along_all}
use Rattle.si_explain.specs.ExplainText.{enabled_events, events_words, events_line, inputs_line}

-- ---- the events that a state enables
abbrev pub event_of : Edge → Event
event_of a = a.event

-- the arcs out of s are those of the graph with this source
out_is : (g : StateGraph) (s : ℕ) (arcs : List Edge) → AreOut g s arcs → arcs ≡ filter (λ a. a.from == s) g.edges
out_is g s arcs out =
    same_edges arcs (filter (λ a. a.from == s) g.edges) out.ordered
    (IsStrictlySortedBy-filter edge_cmp (λ a. a.from == s) g.edges out.graph.ordered)
    (λ a there. (let is = (out.exactly a).0 there in
    Contains-filter (λ x. x.from == s) g.edges a is.0 (eq-eqb a.from s is.1)))
    (λ a there. (let is = Contains-from_filter (λ x. x.from == s) g.edges a there in
    (out.exactly a).1 (is.0, eqb-true a.from s is.1)))

pub events_all : (g : StateGraph) (s : ℕ) (arcs : List Edge) (events : List Event) (n : ℕ) → AreOut g s arcs
    → length arcs ≤ n → events ≡ map event_of (take n arcs) → events ≡ enabled_events g s
events_all g s arcs events n out all is =
    is ∙ ap (map event_of) (take_all n arcs all ∙ out_is g s arcs out)

pub event_pushed : (arcs : List Edge) (n : ℕ) (a : Edge) (events new : List Event) → n < length arcs
    → a ≡ get_or arcs n a → events ≡ map event_of (take n arcs) → new ≡ events ++ a.event ∷ []
    → new ≡ map event_of (take (n + 1) arcs)
event_pushed arcs n a events new within at so_far is =
    let one : take n arcs ++ a ∷ [] ≡ take (n + 1) arcs =
    ap (λ (x : Edge). take n arcs ++ x ∷ []) at ∙ sym (take_more arcs n a within) in
    is ∙ ap (λ (l : List Event). l ++ a.event ∷ []) so_far ∙ sym (map-append event_of (take n arcs) (a ∷ []))
    ∙ ap (map event_of) one

pub events_signals : (g : StateGraph) (s : ℕ) → IsGraph g → All (λ e. e.sig < length g.signals) (enabled_events g s)
events_signals g s is k d within =
    let e : Event = get_or (enabled_events g s) k d in
    let there : Contains (enabled_events g s) e = (k, within, get_or_default (enabled_events g s) k e d within) in
    let from = Contains-from_map event_of (filter (λ a. a.from == s) g.edges) e there in
    let a : Edge = from.0 in
    let arc = Contains-from_filter (λ x. x.from == s) g.edges a from.1 in
    subst (λ (x : Event). x.sig < length g.signals) from.2 (step_within g a.from a.event a.to is arc.0).1

-- each state is reached from the start
pub start_leads : (c : CodedGraph) (s : ℕ) → IsCoded c → s < c.graph.states → LeadsAlong c.graph AllArcs c.graph.start s
start_leads c s is within =
    let way = is.connected s within in (way.0, along_all c.graph c.graph.start way.0 s way.1)

-- the events of walks are of signals
walk_small : (g : StateGraph) (arcs : Arcs) (s : ℕ) (es : List Event) (t : ℕ) → IsGraph g → WalkAlong g arcs s es t
    → AllByRecursion (λ e. e.sig < length g.signals) es
walk_small g arcs s [] t is walk = tt
walk_small g arcs s (e ∷ es) t is (u, takes, step, walk) =
    ((step_within g s e u is step).1, walk_small g arcs u es t is walk)

pub walk_signals : (g : StateGraph) (arcs : Arcs) (s : ℕ) (es : List Event) (t : ℕ) → IsGraph g
    → WalkAlong g arcs s es t → All (λ e. e.sig < length g.signals) es
walk_signals g arcs s es t is walk =
    All-from_recursion (λ (e : Event). e.sig < length g.signals) es (walk_small g arcs s es t is walk)

-- ---- the words of events, from the i-th on
abbrev pub events_from : List Signal → List Event → ℕ → List ℕ
events_from signals es i = spaced (events_words signals (drop i es))

pub event_more : (signals : List Signal) (es : List Event) (i : ℕ) (e : Event) (name mark old text named new : List ℕ)
    → i < length es → e ≡ get_or es i e → text ++ events_from signals es i ≡ old → name ++ mark ≡ event_word signals e
    → named ≡ text ++ 32 ∷ name → new ≡ named ++ mark
    → new ++ events_from signals es (i + 1) ≡ old
event_more signals es i e name mark old text named new within at so_far word is_named is =
    let rest = events_from signals es (i + 1) in
    let left : events_from signals es i ≡ (32 ∷ event_word signals e) ++ rest =
    ap (λ (l : List Event). spaced (events_words signals l)) (drop-cons es i e within)
    ∙ ap (λ (x : Event). (32 ∷ event_word signals x) ++ events_from signals es (suc i)) (sym at)
    ∙ rw add-one refl in
    let whole : new ≡ text ++ 32 ∷ event_word signals e =
    is ∙ ap (λ (l : List ℕ). l ++ mark) is_named ∙ append_assoc text (32 ∷ name) mark
    ∙ ap (λ (w : List ℕ). text ++ 32 ∷ w) word in
    ap (λ (l : List ℕ). l ++ rest) whole ∙ append_assoc text (32 ∷ event_word signals e) rest
    ∙ ap (λ (l : List ℕ). text ++ l) (sym left) ∙ so_far

-- ---- a line by its calls
pub events_line_by_calls : (text word : List ℕ) (signals : List Signal) (states : List (List ℕ)) (s : ℕ)
    (es : List Event) (name first second third : List ℕ) → name ≡ state_at states s → first ≡ text ++ word
    → second ≡ first ++ 32 ∷ name → third ≡ second ++ spaced (events_words signals es)
    → third ++ 10 ∷ [] ≡ text ++ line (events_line word signals states s es)
events_line_by_calls text word signals states s es name first second third e0 e1 e2 e3 =
    rw (e3, e2, e1, e0) (grouped text word (state_at states s) (spaced (events_words signals es))
    ∙ whole_line text word (state_at states s ∷ events_words signals es))

pub inputs_line_by_calls : (text : List ℕ) (signals : List Signal) (states : List (List ℕ)) (s t : ℕ) (es : List Event)
    (one other first second third fourth : List ℕ) → one ≡ state_at states s → other ≡ state_at states t
    → first ≡ text ++ codes "inputs" → second ≡ first ++ 32 ∷ one → third ≡ second ++ 32 ∷ other
    → fourth ≡ third ++ spaced (events_words signals es)
    → fourth ++ 10 ∷ [] ≡ text ++ line (inputs_line signals states s t es)
inputs_line_by_calls text signals states s t es one other first second third fourth d0 d1 e1 e2 e3 e4 =
    rw (e4, e3, e2, e1, d0, d1) (grouped_two text (codes "inputs") (state_at states s) (state_at states t)
    (spaced (events_words signals es))
    ∙ whole_line text (codes "inputs") (state_at states s ∷ state_at states t ∷ events_words signals es))

-- ---- the same lines by other words for the signals and the events
pub events_line_as : (word : List ℕ) (known signals : List Signal) (states : List (List ℕ)) (s : ℕ) (es fs : List Event)
    (old new : List ℕ) → known ≡ signals → es ≡ fs → new ≡ old ++ line (events_line word known states s es)
    → new ≡ old ++ line (events_line word signals states s fs)
events_line_as word known signals states s es fs old new one other is =
    is ∙ ap₂ (λ (l : List Signal) (xs : List Event). old ++ line (events_line word l states s xs)) one other

pub inputs_line_as : (known signals : List Signal) (states : List (List ℕ)) (s t : ℕ) (es fs : List Event)
    (old new : List ℕ) → known ≡ signals → es ≡ fs → new ≡ old ++ line (inputs_line known states s t es)
    → new ≡ old ++ line (inputs_line signals states s t fs)
inputs_line_as known signals states s t es fs old new one other is =
    is ∙ ap₂ (λ (l : List Signal) (xs : List Event). old ++ line (inputs_line l states s t xs)) one other

pub code_line_as : (known signals : List Signal) (k m : ℕ) (old new : List ℕ) → known ≡ signals → k ≡ m
    → new ≡ old ++ line (codes "code" ∷ word_if_any (bits_from 0 known k))
    → new ≡ old ++ line (codes "code" ∷ word_if_any (bits_from 0 signals m))
code_line_as known signals k m old new one other is =
    is ∙ ap₂ (λ (l : List Signal) (n : ℕ). old ++ line (codes "code" ∷ word_if_any (bits_from 0 l n))) one other
