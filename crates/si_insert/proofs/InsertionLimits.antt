-- A coded graph has few arcs; so the inserted graph meets the limits of a graph.
use Rattle.std.proofs.Common.{◌≡◌, ℕ, zero, suc, ◌+◌, ◌*◌, ◌<◌, ◌≤◌, ◌==◌, Bool, true, false, length, get_or, Contains}
use Rattle.std.proofs.Common.{refl, sym, subst, ◌∙◌, arith, inl, inr, Less, Equal, Greater, nat_lt, le-ltb, eq-eqb}
use Rattle.std.proofs.Common.{ne_eqb}
use Rattle.std.proofs.lemmas.Bool.{true≢false, cases_order, cases_lt}
use Rattle.std.proofs.lemmas.List.Elements.{Contains-get_or}
use Rattle.si_base.specs.declared.graph.Edge.{Edge}
use Rattle.si_base.specs.EdgeOrder.{edge_cmp}
use Rattle.si_base.specs.Graph.{Step, arc, rise, fall}
use Rattle.si_base.specs.Codes.{CodedGraph, IsCoded}
use Rattle.si_base.proofs.OrderAscending.{sorted_at, nat_same, bool_same}

-- ---- what comes before in the order of arcs
pub not_less_from : (a b : Edge) → b.from < a.from → edge_cmp a b ≡ Less → ⊥
not_less_from a b after less =
    let low : nat_lt a.from b.from ≡ false = le-ltb a.from b.from (omega arith) in
    let other : (a.from == b.from) ≡ false = ne_eqb a.from b.from (λ same. omega arith) in
    let e : Greater ≡ Less = rw (low, other) at less in cc

pub not_less_sig : (a b : Edge) → a.from ≡ b.from → b.event.sig < a.event.sig → edge_cmp a b ≡ Less → ⊥
not_less_sig a b same after less =
    let low : nat_lt a.from b.from ≡ false = le-ltb a.from b.from (omega arith) in
    let equal : (a.from == b.from) ≡ true = eq-eqb a.from b.from same in
    let low_sig : nat_lt a.event.sig b.event.sig ≡ false = le-ltb a.event.sig b.event.sig (omega arith) in
    let other : (a.event.sig == b.event.sig) ≡ false = ne_eqb a.event.sig b.event.sig (λ same. omega arith) in
    let e : Greater ≡ Less = rw (low, equal, low_sig, other) at less in cc

pub itself : (a : Edge) → edge_cmp a a ≡ Less → ⊥
itself a less =
    let e : Equal ≡ Less = rw (nat_same a.from, nat_same a.event.sig, bool_same a.event.up, nat_same a.to) at less in cc

-- a state of a coded graph has one arc for a signal
one_arc : (c : CodedGraph) (s a : ℕ) (up down : Bool) (t u : ℕ) → IsCoded c → a < length c.graph.signals
    → Step c.graph s (record { sig = a; up = up }) t → Step c.graph s (record { sig = a; up = down }) u
    → (up ≡ down) × (t ≡ u)
one_arc c s a true true t u is small first second = (refl, is.deterministic s (rise a) t u first second)
one_arc c s a false false t u is small first second = (refl, is.deterministic s (fall a) t u first second)
one_arc c s a true false t u is small first second =
    absurd (true≢false (sym ((is.values a small).falls s u second).0 ∙ ((is.values a small).rises s t first).0))
one_arc c s a false true t u is small first second =
    absurd (true≢false (sym ((is.values a small).falls s t first).0 ∙ ((is.values a small).rises s u second).0))

-- the number of an arc by state and signal
abbrev number : Edge → ℕ
number a = a.from * 128 + a.event.sig

above : (c : CodedGraph) (a b : Edge) → IsCoded c → Contains c.graph.edges a → Contains c.graph.edges b
    → a.event.sig < length c.graph.signals → b.event.sig < length c.graph.signals → edge_cmp a b ≡ Less
    → number a < number b
above c a b is has_a has_b small_a small_b less = elim (cases_order a.from b.from) [
  | inr (inl before) ↦ (let few = is.graph_is.few_signals in omega (arith, few))
  | inr (inr after) ↦ absurd (not_less_from a b after less)
  | inl same ↦ elim (cases_order a.event.sig b.event.sig) [
    | inr (inl before) ↦ omega arith
    | inr (inr after) ↦ absurd (not_less_sig a b same after less)
    | inl also ↦
        (let P : ℕ → ℕ → Type 0 = λ s i. Step c.graph s (record { sig = i; up = b.event.up }) b.to in
        let Q : ℕ → Type 0 = λ s. Step c.graph s (record { sig = a.event.sig; up = b.event.up }) b.to in
        let R : ℕ → Type 0 = λ i. Step c.graph b.from (record { sig = i; up = b.event.up }) b.to in
        let moved : Step c.graph a.from (record { sig = a.event.sig; up = b.event.up }) b.to = subst Q (sym same)
        (subst R (sym also) has_b) in
        let r = one_arc c a.from a.event.sig a.event.up b.event.up a.to b.to is small_a has_a moved in
        let make : ℕ → ℕ → Bool → ℕ → Edge = λ s i up t. arc s (record { sig = i; up = up }) t in
        let up : a.event.up ≡ b.event.up = r.0 in
        let to : a.to ≡ b.to = r.1 in
        let is_b : make a.from a.event.sig a.event.up a.to ≡ make b.from b.event.sig b.event.up b.to = cc in
        let S : Edge → Type 0 = λ d. edge_cmp a d ≡ Less in
        absurd (itself a (subst S (sym is_b) less)))
  ]
]

at_least : (c : CodedGraph) (k : ℕ) → IsCoded c → k < length c.graph.edges
    → k ≤ number (get_or c.graph.edges k (arc 0 (fall 0) 0))
at_least c zero is within = omega arith
at_least c (suc k) is within =
    let d = arc 0 (fall 0) 0 in
    let before = at_least c k is (omega arith) in
    let a : Edge = get_or c.graph.edges k d in
    let b : Edge = get_or c.graph.edges (suc k) d in
    let has_a : Contains c.graph.edges a = Contains-get_or c.graph.edges k d (omega arith) in
    let has_b : Contains c.graph.edges b = Contains-get_or c.graph.edges (suc k) d within in
    let less = sorted_at edge_cmp c.graph.edges is.graph_is.ordered k (suc k) d (omega arith) within in
    let more =
    above c a b is has_a has_b (is.graph_is.within k d (omega arith)).1 (is.graph_is.within (suc k) d within).1
    less in
    omega (arith, before, more)

-- at most one arc for each state and signal
pub few_arcs : (c : CodedGraph) → IsCoded c → length c.graph.edges ≤ 33554432
few_arcs c is = elim (cases_lt 0 (length c.graph.edges)) [
  | inr none ↦ omega arith
  | inl some ↦ last (length c.graph.edges) refl some
]
  where
    last : (n : ℕ) → n ≡ length c.graph.edges → 0 < length c.graph.edges → length c.graph.edges ≤ 33554432
    last zero size some = absurd (omega arith)
    last (suc k) size some =
        let d = arc 0 (fall 0) 0 in
        let within : k < length c.graph.edges = omega arith in
        let low = at_least c k is within in
        let parts = is.graph_is.within k d within in
        let states = is.graph_is.few_states in
        let signals = is.graph_is.few_signals in
        omega (arith, low, parts.0, parts.1, states, signals, size)
