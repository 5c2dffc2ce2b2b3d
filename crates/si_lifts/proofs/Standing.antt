-- How the composed graph stands while insertions of parts are told of it: its current graph is composed
-- of the current graphs of the parts, whose inserted signals have the names that they have in the whole.
use Rattle.std.proofs.Common.{◌≡◌, ◌≢◌, ℕ, suc, ◌<◌, ◌==◌, List, [], ◌∷◌, ◌++◌, All, length, map}
use Rattle.std.proofs.Common.{slice_get, Some, refl, sym, ap, subst, ◌∙◌, arith, inl, inr}
use Rattle.std.proofs.Common.{eq-eqb, ne_eqb, if◌then◌else◌, option_map}
use Rattle.std.proofs.lemmas.Bool.{cases_eq}
use Rattle.std.proofs.lemmas.List.Elements.{All-append, All-cons, All-nil}
use Rattle.std.proofs.lemmas.List.Kept.{AllPairs-cons}
use Rattle.std.proofs.lemmas.Option.{get_or_from_slice_get, slice_get-map, slice_get_within}
use mathlib.Core.Path.{fun_ext}
use Rattle.si_base.specs.Bits.{bit}
use Rattle.si_base.specs.declared.graph.Signal.{Signal}
use Rattle.si_base.specs.Codes.{CodedGraph, IsCoded, code}
use Rattle.si_base.specs.Graph.{IsGraph, StateGraph}
use Rattle.si_base.specs.Proper.{IsProper}
use Rattle.si_insert.specs.Accepted.{IsAccepted}
use Rattle.si_insert.specs.Insertion.{Copy, IsInsertedGraph, new_signal}
use Rattle.si_insert.specs.Lineage.{Current, next_current, origin}
use Rattle.si_insert.specs.declared.lineage.TraceStep.{TraceStep}
use Rattle.si_insert.specs.declared.partition.Class.{Class}
use Rattle.si_insert.proofs.InsertionCodes.{is_coded}
use Rattle.si_insert.proofs.InsertionCopies.{copy_at}
use Rattle.si_insert.proofs.InsertionProper.{code_at, new_bit, old_bit}
use Rattle.si_compose.specs.Composed.{IsComposed, IsFree}
use Rattle.si_compose.specs.Glued.{AreGlued}
use Rattle.si_compose.specs.Joined.{AreDistinct, IsSame}
use Rattle.si_compose.specs.Lifted.{IsComposedAfter, lifted_classes, with_part}
use Rattle.si_compose.proofs.ComposedProper.{within_part}
use Rattle.si_compose.proofs.LiftedInsertions.{composed_after, last, or_last, there}
use Rattle.si_compose.proofs.LiftedSteps.{classes_lifted}
use Rattle.si_compose.proofs.SameSignals.{one_place, some_same}
use Rattle.si_composing.specs.Tuples.{state_in}
use Rattle.si_lifts.proofs.RenamedGraphs.{AreAlike, alike_many, alike_more, renamed, renamed_accepted, renamed_coded}
use Rattle.si_lifts.proofs.RenamedGraphs.{renamed_graph, renamed_insertion, renamed_is_coded, renamed_proper}

-- part i with the signals that it has in the whole
abbrev pub as_named : (signals : ℕ → List Signal) → (parts : ℕ → Current) → ℕ → CodedGraph
as_named signals parts i = renamed_coded (signals i) (parts i).coded

pub record Stands (count : ℕ) (tuples : List (List ℕ)) (v : Current) (signals : ℕ → List Signal) (parts : ℕ → Current)
    (at : ℕ → ℕ → ℕ) : Type 0 where
  pub alike : (i : ℕ) → i < count → AreAlike (signals i) (parts i).coded.graph.signals
  pub part_coded : (i : ℕ) → i < count → IsCoded (parts i).coded
  pub part_proper : (i : ℕ) → i < count → IsProper (parts i).coded.graph
  pub coded : IsCoded v.coded
  pub proper : IsProper v.coded.graph
  pub composed : IsComposed count (λ i. (as_named signals parts i).graph) at v.coded.graph
  pub free : IsFree count (λ i. (as_named signals parts i).graph) at v.coded.graph
  pub glued : AreGlued count (as_named signals parts) at v.coded
  pub origins : (i s : ℕ) → i < count → s < v.coded.graph.states
      → state_in tuples i (origin v s) ≡ origin (parts i) (at i s)

-- ---- lists
distinct_more : (xs : List Signal) (x : Signal) → AreDistinct xs
    → ((k : ℕ) (y : Signal) → slice_get xs k ≡ Some y → y.name ≢ x.name) → AreDistinct (xs ++ x ∷ [])
distinct_more [] x distinct apart = λ i j d order below. absurd (omega arith)
distinct_more (y ∷ ys) x distinct apart =
    let R : Signal → Signal → Type 0 = λ a b. a.name ≢ b.name in
    let later : All (R y) ys = λ k d below. distinct 0 (suc k) d (omega arith) (omega (arith, below)) in
    AllPairs-cons R y (ys ++ x ∷ [])
    (All-append (R y) ys (x ∷ []) later (All-cons (R y) x [] (apart 0 y refl) (All-nil (R y))))
    (distinct_more ys x (λ i j d order below. distinct (suc i) (suc j) d (omega (arith, order)) (omega (arith, below)))
    (λ k z is. apart (suc k) z is))

-- one of a family, exchanged
abbrev pub exchanged : {X : Type 0} → ℕ → X → (ℕ → X) → ℕ → X
exchanged i x family j = if j == i then x else family j

pub exchanged_there : {X : Type 0} (i : ℕ) (x : X) (family : ℕ → X) → exchanged i x family i ≡ x
exchanged_there i x family = rw (eq-eqb i i refl) refl

pub exchanged_other : {X : Type 0} (i : ℕ) (x : X) (family : ℕ → X) (j : ℕ) → (j ≡ i → ⊥)
    → exchanged i x family j ≡ family j
exchanged_other i x family j apart = rw (ne_eqb j i apart) refl

-- a copy comes from where its state comes
pub copied_origin : (v : Current) (copies : List Copy) (graph : StateGraph) (s : ℕ) (x : Copy)
    → slice_get copies s ≡ Some x
    → origin (next_current v copies graph) s ≡ origin v x.state
copied_origin v copies graph s x is =
    let from : Copy → ℕ = λ y. origin v y.state in
    get_or_from_slice_get (map from copies) s (from x) 0
    (slice_get-map from copies s ∙ ap (option_map from) is)

-- ---- facts of a part that stands so
module _ (count : ℕ) (tuples : List (List ℕ)) (v : Current) (signals : ℕ → List Signal) (parts : ℕ → Current)
    (at : ℕ → ℕ → ℕ) (stands : Stands count tuples v signals parts at) where
  abbrev K : ℕ → CodedGraph
  K = as_named signals parts

  pub named_distinct : (i : ℕ) → i < count → AreDistinct (signals i)
  named_distinct i inside = stands.composed.signals.part_distinct i inside

  pub named_coded : (i : ℕ) → i < count → IsCoded (K i)
  named_coded i inside = renamed_is_coded (signals i) (parts i).coded (stands.alike i inside)
      (stands.part_coded i inside)
      (named_distinct i inside)

  pub named_proper : (i : ℕ) → i < count → IsProper (K i).graph
  named_proper i inside = renamed_proper (signals i) (parts i).coded.graph (stands.alike i inside)
      (stands.part_proper i inside)

  pub named_accepted : (i : ℕ) (classes : List Class) → i < count → IsAccepted (parts i).coded.graph classes
      → IsAccepted (K i).graph classes
  named_accepted i classes inside = renamed_accepted (signals i) (parts i).coded (stands.alike i inside) classes
      (stands.part_coded i inside) (stands.part_proper i inside) (named_distinct i inside)

  pub named_within : (i s : ℕ) → i < count → s < v.coded.graph.states → at i s < (parts i).coded.graph.states
  named_within i s inside within =
      within_part count K at v.coded (λ j below. named_coded j below) stands.composed stands.coded s i inside within

  -- ---- one more insertion of part i
  module _ (i : ℕ) (inside : i < count) (p : TraceStep) (own_copies : List Copy) (own_graph : StateGraph)
      (own_accepted : IsAccepted (parts i).coded.graph p.partition)
      (own_insertion : IsInsertedGraph (parts i).coded.graph p.partition (new_signal p.name) own_copies own_graph)
      (own_limits : IsGraph own_graph) (name : List ℕ) (copies : List Copy) (graph : StateGraph)
      (accepted : IsAccepted v.coded.graph (lifted_classes at i p.partition v.coded.graph.states))
      (insertion : IsInsertedGraph v.coded.graph (lifted_classes at i p.partition v.coded.graph.states)
      (new_signal name)
      copies graph) (limits : IsGraph graph) where
    abbrev h : StateGraph
    h = v.coded.graph

    abbrev whole : List Class
    whole = lifted_classes at i p.partition h.states

    abbrev new : Signal
    new = new_signal name

    abbrev u : Current
    u = next_current v copies graph

    abbrev own : Current
    own = next_current (parts i) own_copies own_graph

    abbrev signals2 : ℕ → List Signal
    signals2 = exchanged i (signals i ++ new ∷ []) signals

    abbrev parts2 : ℕ → Current
    parts2 = exchanged i own parts

    abbrev g2 : StateGraph
    g2 = renamed (signals i ++ new ∷ []) own_graph

    -- ---- the new signal
    new_behind : slice_get graph.signals (length h.signals) ≡ Some new
    new_behind = subst (λ (xs : List Signal). slice_get xs (length h.signals) ≡ Some new) (sym insertion.signals)
        (last h.signals new)

    fresh : (k : ℕ) (x : Signal) → slice_get h.signals k ≡ Some x → x.name ≢ name
    fresh k x named same =
        let small = slice_get_within h.signals k x named in
        let before : slice_get graph.signals k ≡ Some x =
        subst (λ (xs : List Signal). slice_get xs k ≡ Some x) (sym insertion.signals) (there h.signals new k x named) in
        let one : k ≡ length h.signals =
        one_place graph.signals k (length h.signals) x new limits.names before new_behind same in
        omega (arith, small, one)

    own_fresh : (j z : ℕ) (x : Signal) → j < count → slice_get (signals j) z ≡ Some x → x.name ≢ name
    own_fresh j z x below is same =
        let found = stands.composed.signals.each j z below (slice_get_within (signals j) z x is) in
        let one : found.1.own ≡ x = some_same found.1.own x (sym found.1.own_is ∙ is) in
        fresh found.0 found.1.signal found.1.signal_is
        (sym found.1.name ∙ ap (λ (y : Signal). y.name) one ∙ same)

    distinct2 : AreDistinct (signals i ++ new ∷ [])
    distinct2 = distinct_more (signals i) new (named_distinct i inside) (λ k y is. own_fresh i k y inside is)

    alike2 : AreAlike (signals i ++ new ∷ []) own_graph.signals
    alike2 = subst (AreAlike (signals i ++ new ∷ [])) (sym own_insertion.signals)
        (alike_more (signals i) (parts i).coded.graph.signals new (new_signal p.name) (stands.alike i inside) refl)

    -- ---- composed of the parts, part i with its insertion
    pub after : IsComposedAfter count (λ j. (K j).graph) at h i p.partition copies own_copies g2 graph
    after =
        composed_after count (λ j. (K j).graph) at h i p.partition whole new copies own_copies graph g2 inside
        stands.composed stands.coded.graph_is stands.coded.connected (named_coded i inside).graph_is accepted.lawful
        (classes_lifted at h i p.partition) (λ s within. named_within i s inside within) insertion
        (renamed_insertion (signals i) (parts i).coded.graph (stands.alike i inside) p.partition p.name name own_copies
        own_graph own_insertion) limits (renamed_graph (signals i ++ new ∷ []) own_graph alike2 own_limits distinct2)

    same_parts : with_part i g2 (λ j. (K j).graph) ≡ (λ j. (as_named signals2 parts2 j).graph)
    same_parts = fun_ext (λ j. elim (cases_eq j i) [
      | inl same ↦ rw (eq-eqb j i same) refl
      | inr other ↦ rw (ne_eqb j i other) refl
    ])

    other_part : (j : ℕ) → (j ≡ i → ⊥) → as_named signals2 parts2 j ≡ K j
    other_part j apart = rw (ne_eqb j i apart) refl

    this_part : as_named signals2 parts2 i ≡ renamed_coded (signals i ++ new ∷ []) own.coded
    this_part = rw (eq-eqb i i refl) refl

    -- ---- copies
    copy_of : (s : ℕ) → s < graph.states → (x : Copy) × (slice_get copies s ≡ Some x) × (x.state < h.states)
    copy_of s within =
        let found = copy_at h whole new copies graph s insertion within in (found.0, found.1, found.2.within)

    own_copy_of : (s : ℕ) (x : Copy) → slice_get copies s ≡ Some x
        → slice_get own_copies (after.after i s) ≡ Some (record { state = at i x.state; value = x.value })
    own_copy_of s x is = after.part s x is

    -- ---- codes
    old_whole : (s k : ℕ) (x : Copy) → slice_get copies s ≡ Some x → (k ≡ length h.signals → ⊥)
        → bit (code u.coded s) k ≡ bit (code v.coded x.state) k
    old_whole s k x is old = ap (λ (c : ℕ). bit c k) (code_at v.coded copies graph s x is) ∙ old_bit v.coded x k old

    old_own : (s z : ℕ) (x : Copy) → slice_get copies s ≡ Some x
        → (z ≡ length (parts i).coded.graph.signals → ⊥)
        → bit (code own.coded (after.after i s)) z ≡ bit (code (parts i).coded (at i x.state)) z
    old_own s z x is old =
        let y : Copy = record { state = at i x.state; value = x.value } in
        ap (λ (c : ℕ). bit c z) (code_at (parts i).coded own_copies own_graph (after.after i s) y (own_copy_of s x is))
        ∙ old_bit (parts i).coded y z old

    new_bits : (s : ℕ) (x : Copy) → slice_get copies s ≡ Some x → x.state < h.states
        → bit (code u.coded s) (length h.signals)
        ≡ bit (code own.coded (after.after i s)) (length (parts i).coded.graph.signals)
    new_bits s x is within =
        let y : Copy = record { state = at i x.state; value = x.value } in
        let n = length (parts i).coded.graph.signals in
        ap (λ (c : ℕ). bit c (length h.signals)) (code_at v.coded copies graph s x is)
        ∙ new_bit v.coded x stands.coded within
        ∙ sym (new_bit (parts i).coded y (stands.part_coded i inside) (named_within i x.state inside within))
        ∙ sym (ap (λ (c : ℕ). bit c n)
        (code_at (parts i).coded own_copies own_graph (after.after i s) y (own_copy_of s x is)))

    -- a signal that the part has stood in the whole before
    old_same : (j k z : ℕ) (x y : Signal) → j < count → slice_get graph.signals k ≡ Some x
        → slice_get (signals j) z ≡ Some y → y.name ≡ x.name → IsSame h.signals k (signals j) z
    old_same j k z x y below x_is y_is names =
        let is : slice_get (h.signals ++ new ∷ []) k ≡ Some x =
        subst (λ (xs : List Signal). slice_get xs k ≡ Some x) insertion.signals x_is in
        elim (or_last h.signals new k x is) [
          | inl before ↦ record { signal = x; own = y; signal_is = before; own_is = y_is; name = names }
          | inr behind ↦ absurd (own_fresh j z y below y_is (names ∙ ap (λ (w : Signal). w.name) behind.1))
        ]

    glued_old : (j k z s : ℕ) (x : Copy) → j < count → slice_get copies s ≡ Some x → x.state < h.states
        → IsSame h.signals k (signals j) z → bit (code u.coded s) k ≡ bit (code (K j) (at j x.state)) z
    glued_old j k z s x below is within same =
        let small = slice_get_within h.signals k same.signal same.signal_is in
        old_whole s k x is (λ last. omega (arith, small, last))
        ∙ stands.glued j k z x.state below within same

    glued_other : (j k z s : ℕ) → j < count → (j ≡ i → ⊥) → s < graph.states → IsSame graph.signals k (signals j) z
        → bit (code u.coded s) k ≡ bit (code (K j) (after.after j s)) z
    glued_other j k z s below apart within same =
        let x = copy_of s within in
        glued_old j k z s x.0 below x.1 x.2
        (old_same j k z same.signal same.own below same.signal_is same.own_is same.name)
        ∙ ap (λ (t : ℕ). bit (code (K j) t) z) (sym (after.others j s x.0 apart x.1))

    glued_this : (k z s : ℕ) → s < graph.states → IsSame graph.signals k (signals i ++ new ∷ []) z
        → bit (code u.coded s) k ≡ bit (code own.coded (after.after i s)) z
    glued_this k z s within same =
        let x = copy_of s within in
        let many = alike_many (signals i) (parts i).coded.graph.signals (stands.alike i inside) in
        elim (or_last (signals i) new z same.own same.own_is) [
          | inl before ↦ (
              let small = slice_get_within (signals i) z same.own before in
              glued_old i k z s x.0 inside x.1 x.2
              (old_same i k z same.signal same.own inside same.signal_is before same.name)
              ∙ sym (old_own s z x.0 x.1 (λ last. omega (arith, small, last, many))))
          | inr behind ↦ (
              let place : k ≡ length h.signals =
              one_place graph.signals k (length h.signals) same.signal new limits.names same.signal_is new_behind
              (sym same.name ∙ ap (λ (w : Signal). w.name) behind.1) in
              ap (λ (l : ℕ). bit (code u.coded s) l) place ∙ new_bits s x.0 x.1 x.2
              ∙ ap (λ (l : ℕ). bit (code own.coded (after.after i s)) l) (sym many ∙ sym behind.0))
        ]

    glued2 : AreGlued count (as_named signals2 parts2) after.after u.coded
    glued2 j k z s below within same = elim (cases_eq j i) [
      | inl this ↦ subst (λ (l : ℕ). bit (code u.coded s) k ≡ bit (code (as_named signals2 parts2 l) (after.after l s))
          z)
          (sym this) (subst (λ (c : CodedGraph). bit (code u.coded s) k ≡ bit (code c (after.after i s)) z)
          (sym this_part) (glued_this k z s within (at_part this same)))
      | inr other ↦ subst (λ (c : CodedGraph). bit (code u.coded s) k ≡ bit (code c (after.after j s)) z)
          (sym (other_part j other)) (glued_other j k z s below other within
          (subst (λ (c : CodedGraph). IsSame graph.signals k c.graph.signals z) (other_part j other) same))
    ]
      where
        at_part : j ≡ i → IsSame graph.signals k (as_named signals2 parts2 j).graph.signals z
            → IsSame graph.signals k (signals i ++ new ∷ []) z
        at_part this is = subst (λ (c : CodedGraph). IsSame graph.signals k c.graph.signals z) this_part
            (subst (λ (l : ℕ). IsSame graph.signals k (as_named signals2 parts2 l).graph.signals z) this is)

    -- ---- origins
    whole_origin : (s : ℕ) (x : Copy) → slice_get copies s ≡ Some x → origin u s ≡ origin v x.state
    whole_origin s x is = copied_origin v copies graph s x is

    origins2 : (j s : ℕ) → j < count → s < graph.states
        → state_in tuples j (origin u s) ≡ origin (parts2 j) (after.after j s)
    origins2 j s below within =
        let x = copy_of s within in
        ap (state_in tuples j) (whole_origin s x.0 x.1) ∙ stands.origins j x.0.state below x.2
        ∙ elim (cases_eq j i) [
          | inl this ↦ subst (λ (l : ℕ). origin (parts l) (at l x.0.state) ≡ origin (parts2 l) (after.after l s))
              (sym this) (sym (ap (λ (w : Current). origin w (after.after i s)) (exchanged_there i own parts)
              ∙ copied_origin (parts i) own_copies own_graph (after.after i s)
              (record { state = at i x.0.state; value = x.0.value }) (own_copy_of s x.0 x.1)))
          | inr other ↦ ap (origin (parts j)) (sym (after.others j s x.0 other x.1))
              ∙ ap (λ (w : Current). origin w (after.after j s)) (sym (exchanged_other i own parts j other))
        ]

    -- ---- so the whole stands after the insertion
    own_coded : IsCoded own.coded
    own_coded = is_coded (parts i).coded p.partition (new_signal p.name) own_copies own_graph
        (stands.part_coded i inside)
        own_accepted.lawful own_insertion own_limits

    each_part : (P : List Signal → Current → Type 0) → ((j : ℕ) → j < count → P (signals j) (parts j))
        → P (signals i ++ new ∷ []) own → (j : ℕ) → j < count → P (signals2 j) (parts2 j)
    each_part P old this j below = elim (cases_eq j i) [
      | inl same ↦ rw (eq-eqb j i same) this
      | inr other ↦ rw (ne_eqb j i other) (old j below)
    ]

    pub stands_after : Stands count tuples u signals2 parts2 after.after
    stands_after = record {
      alike = each_part (λ xs w. AreAlike xs w.coded.graph.signals) stands.alike alike2;
      part_coded = each_part (λ xs w. IsCoded w.coded) stands.part_coded own_coded;
      part_proper = each_part (λ xs w. IsProper w.coded.graph) stands.part_proper
          (own_accepted.proper (new_signal p.name) own_copies own_graph own_insertion);
      coded = is_coded v.coded whole new copies graph stands.coded accepted.lawful insertion limits;
      proper = accepted.proper new copies graph insertion;
      composed = subst (λ (f : ℕ → StateGraph). IsComposed count f after.after graph) same_parts after.composed;
      free = subst (λ (f : ℕ → StateGraph). IsFree count f after.after graph) same_parts
          (after.free stands.free (named_accepted i p.partition inside own_accepted).inputs);
      glued = glued2;
      origins = origins2;
    }
