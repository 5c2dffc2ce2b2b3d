-- The codes of the inserted graph: a copy has the code of its state, and its own value as the last bit.
use Rattle.std.proofs.Common.{◌≡◌, ℕ, suc, ◌<◌, ◌^◌, true, false, List, length, get_or, refl, sym, ap, subst, ◌∙◌}
use Rattle.std.proofs.Common.{arith, inl, inr}
use Rattle.std.proofs.lemmas.Bool.{cases_eq}
use Rattle.std.proofs.lemmas.Option.{get_or_from_slice_get}
use Rattle.std.proofs.lemmas.List.{length-map, length_push}
use Rattle.std.proofs.lemmas.List.Elements.{All-map}
use Rattle.si_base.specs.declared.ids.Event.{Event}
use Rattle.si_base.specs.declared.graph.Signal.{Signal}
use Rattle.si_base.specs.Bits.{bit}
use Rattle.si_base.specs.Graph.{StateGraph, Step, IsGraph, rise, fall}
use Rattle.si_base.specs.Codes.{CodedGraph, code, IsCoded, AreValues, IsIdle, IsConsistent}
use Rattle.si_base.proofs.RightGateLemmas.{step_within}
use Rattle.si_insert.specs.declared.partition.Class.{Class}
use Rattle.si_insert.specs.Partition.{class_of, IsLawful}
use Rattle.si_insert.specs.Insertion.{Copy, IsCopy, IsCopied, IsSwitch, Moves, entry, IsInsertedGraph, copy_code, coded}
use Rattle.si_insert.proofs.PartitionClasses.{leaves, enters}
use Rattle.si_insert.proofs.InsertionCopies.{copy, copy_at, is_copy, placed}
use Rattle.si_insert.proofs.InsertionProper.{from_copy, goes_on, deterministic, connected, code_at, old_bit, new_bit}
use Rattle.si_insert.proofs.InsertionProper.{fits}

-- the bits of copies along a move
given_bit : (c : CodedGraph) (classes : List Class) (x : Copy) (e : Event) (y : Copy) (a : ℕ) → IsCoded c
    → IsCopied c.graph classes x e y → a < length c.graph.signals
    → (bit (copy_code c x) a ≡ bit (code c x.state) a) × (bit (copy_code c y) a ≡ bit (code c y.state) a)
given_bit c classes x e y a is copied small = (old_bit c x a (λ same. omega arith), old_bit c y a (λ same. omega arith))

rising_bits : (c : CodedGraph) (classes : List Class) (x : Copy) (y : Copy) (a : ℕ) → IsCoded c
    → IsCopy c.graph classes x → IsCopy c.graph classes y → Moves c.graph classes x (rise a) y
    → (bit (copy_code c x) a ≡ false) × (bit (copy_code c y) a ≡ true)
rising_bits c classes x y a is x_is y_is (inl copied) =
    let parts = step_within c.graph x.state (rise a) y.state is.graph_is copied.step in
    let values = (is.values a parts.1).rises x.state y.state copied.step in
    let bits = given_bit c classes x (rise a) y a is copied parts.1 in
    (bits.0 ∙ values.0, bits.1 ∙ values.1)
rising_bits c classes x y a is x_is y_is (inr switch) = (
  rw (switch.new) (new_bit c x is x_is.within ∙ switch.from),
  rw (switch.new) (new_bit c y is y_is.within ∙ switch.to),
)

falling_bits : (c : CodedGraph) (classes : List Class) (x : Copy) (y : Copy) (a : ℕ) → IsCoded c
    → IsCopy c.graph classes x → IsCopy c.graph classes y → Moves c.graph classes x (fall a) y
    → (bit (copy_code c x) a ≡ true) × (bit (copy_code c y) a ≡ false)
falling_bits c classes x y a is x_is y_is (inl copied) =
    let parts = step_within c.graph x.state (fall a) y.state is.graph_is copied.step in
    let values = (is.values a parts.1).falls x.state y.state copied.step in
    let bits = given_bit c classes x (fall a) y a is copied parts.1 in
    (bits.0 ∙ values.0, bits.1 ∙ values.1)
falling_bits c classes x y a is x_is y_is (inr switch) = (
  rw (switch.new) (new_bit c x is x_is.within ∙ switch.from),
  rw (switch.new) (new_bit c y is y_is.within ∙ switch.to),
)

kept_bits : (c : CodedGraph) (classes : List Class) (x : Copy) (e : Event) (y : Copy) (a : ℕ) → IsCoded c
    → IsCopy c.graph classes x → IsCopy c.graph classes y → (e.sig ≡ a → ⊥) → a < suc (length c.graph.signals)
    → Moves c.graph classes x e y → bit (copy_code c y) a ≡ bit (copy_code c x) a
kept_bits c classes x e y a is x_is y_is other small (inl copied) = elim (cases_eq a (length c.graph.signals)) [
  | inl new ↦ rw new (new_bit c y is y_is.within ∙ copied.keeps ∙ sym (new_bit c x is x_is.within))
  | inr old ↦ old_bit c y a old ∙ (is.values a (omega (arith, small, old))).keeps x.state y.state e other copied.step
      ∙ sym (old_bit c x a old)
]
kept_bits c classes x e y a is x_is y_is other small (inr switch) =
    let old : a ≡ length c.graph.signals → ⊥ = λ same. other (switch.new ∙ sym same) in
    old_bit c y a old ∙ ap (λ (s : ℕ). bit (code c s) a) switch.stays ∙ sym (old_bit c x a old)

-- each arc of the graph has a copy
pub some_copy : (g : StateGraph) (classes : List Class) (new : Signal) (copies : List Copy) (h : StateGraph) (s : ℕ)
    (e : Event) (t : ℕ) → IsGraph g → IsLawful g classes → IsInsertedGraph g classes new copies h → Step g s e t
    → (k : ℕ) × (m : ℕ) × Step h k e m
some_copy g classes new copies h s e t graph lawful is step =
    let b = entry (class_of classes t) in
    let parts = step_within g s e t graph step in
    let law = lawful.arcs s e t step in
    let x_at =
    placed g classes new copies h (copy s b) is (record {
      within = parts.0;
      there = leaves (class_of classes s) (class_of classes t) law;
    }) in
    let move : IsCopied g classes (copy s b) e (copy t b) =
    record { step = step; keeps = refl; goes = enters (class_of classes s) (class_of classes t) law } in
    let y = goes_on g classes new copies h x_at.0 e (copy s b) (copy t b) graph lawful is x_at.2 (inl move) in
    (x_at.0, y.0, y.2)

-- the new signal switches somewhere
some_switch : (g : StateGraph) (classes : List Class) (new : Signal) (copies : List Copy) (h : StateGraph) → IsGraph g
    → IsLawful g classes → IsInsertedGraph g classes new copies h → (k : ℕ) × (m : ℕ)
    × Step h k (rise (length g.signals)) m
some_switch g classes new copies h graph lawful is =
    let s = lawful.rises.0 in
    let x_at =
    placed g classes new copies h (copy s false) is
    (record { within = lawful.rises.1; there = rw (lawful.rises.2) refl }) in
    let move : IsSwitch g classes (copy s false) (rise (length g.signals)) (copy s true) =
    record { new = refl; stays = refl; from = refl; to = refl; class = lawful.rises.2 } in
    let y =
    goes_on g classes new copies h x_at.0 (rise (length g.signals)) (copy s false) (copy s true) graph lawful is
    x_at.2 (inr move) in
    (x_at.0, y.0, y.2)

idle_bit : (c : CodedGraph) (classes : List Class) (new : Signal) (copies : List Copy) (h : StateGraph) (a : ℕ)
    (x : Copy) → IsCoded c → IsLawful c.graph classes → IsInsertedGraph c.graph classes new copies h
    → a < suc (length c.graph.signals) → IsIdle h a → IsCopy c.graph classes x → bit (copy_code c x) a ≡ false
idle_bit c classes new copies h a x is lawful inserted small idle x_is = elim (cases_eq a (length c.graph.signals)) [
  | inl same ↦ (let s = some_switch c.graph classes new copies h is.graph_is lawful inserted in
      absurd (idle s.0 (rise (length c.graph.signals)) s.1 s.2 (sym same)))
  | inr old ↦
      (let quiet : IsIdle c.graph a =
      λ s e t step same. (let r = some_copy c.graph classes new copies h s e t is.graph_is lawful inserted step in
      idle r.0 e r.1 r.2 same) in
      old_bit c x a old ∙ (is.values a (omega (arith, small, old))).idle quiet x.state x_is.within)
]

pub values : (c : CodedGraph) (classes : List Class) (new : Signal) (copies : List Copy) (h : StateGraph) (a : ℕ)
    → IsCoded c → IsLawful c.graph classes → IsInsertedGraph c.graph classes new copies h → a < length h.signals
    → AreValues h a (λ k. bit (code (coded c copies h) k) a)
values c classes new copies h a is lawful inserted below = record {
  rises = λ s t step. (let j = from_copy c.graph classes new copies h s (rise a) t inserted step in
      let r =
      rising_bits c classes j.0 j.2 a is (is_copy c.graph classes new copies h s j.0 inserted j.1)
      (is_copy c.graph classes new copies h t j.2 inserted j.3) j.4 in (
        ap (λ (k : ℕ). bit k a) (code_at c copies h s j.0 j.1) ∙ r.0,
        ap (λ (k : ℕ). bit k a) (code_at c copies h t j.2 j.3) ∙ r.1,
      ));
  falls = λ s t step. (let j = from_copy c.graph classes new copies h s (fall a) t inserted step in
      let r =
      falling_bits c classes j.0 j.2 a is (is_copy c.graph classes new copies h s j.0 inserted j.1)
      (is_copy c.graph classes new copies h t j.2 inserted j.3) j.4 in (
        ap (λ (k : ℕ). bit k a) (code_at c copies h s j.0 j.1) ∙ r.0,
        ap (λ (k : ℕ). bit k a) (code_at c copies h t j.2 j.3) ∙ r.1,
      ));
  keeps = λ s t e other step. (let j = from_copy c.graph classes new copies h s e t inserted step in
      let r =
      kept_bits c classes j.0 e j.2 a is (is_copy c.graph classes new copies h s j.0 inserted j.1)
      (is_copy c.graph classes new copies h t j.2 inserted j.3) other small j.4 in
      ap (λ (k : ℕ). bit k a) (code_at c copies h t j.2 j.3) ∙ r
      ∙ sym (ap (λ (k : ℕ). bit k a) (code_at c copies h s j.0 j.1)));
  idle = λ quiet s there. (let x = copy_at c.graph classes new copies h s inserted there in
      ap (λ (k : ℕ). bit k a) (code_at c copies h s x.0 x.1)
      ∙ idle_bit c classes new copies h a x.0 is lawful inserted small quiet x.2);
}
  where
    small : a < suc (length c.graph.signals)
    small = omega (arith, below, ap (length {A = Signal}) inserted.signals, length_push c.graph.signals new)

pub consistent : (c : CodedGraph) (classes : List Class) (new : Signal) (copies : List Copy) (h : StateGraph)
    → IsCoded c → IsLawful c.graph classes → IsInsertedGraph c.graph classes new copies h → IsConsistent h
consistent c classes new copies h is lawful inserted a below =
    ((λ k. bit (code (coded c copies h) k) a), values c classes new copies h a is lawful inserted below)

-- the inserted graph with these codes is a coded graph
pub is_coded : (c : CodedGraph) (classes : List Class) (new : Signal) (copies : List Copy) (h : StateGraph) → IsCoded c
    → IsLawful c.graph classes → IsInsertedGraph c.graph classes new copies h → IsGraph h → IsCoded (coded c copies h)
is_coded c classes new copies h is lawful inserted graph = record {
  graph_is = graph;
  connected = connected c.graph classes new copies h is.graph_is is.connected lawful inserted;
  deterministic = deterministic c.graph classes new copies h is.graph_is is.deterministic inserted;
  count = length-map copies (copy_code c) ∙ sym inserted.count;
  values = λ a below. values c classes new copies h a is lawful inserted below;
  no_more = All-map (λ k. k < 2 ^ length h.signals) (copy_code c) copies (λ k d below.
      (let there : k < h.states = omega (arith, below, inserted.count) in
      let x = copy_at c.graph classes new copies h k inserted there in
      let at : get_or copies k d ≡ x.0 = get_or_from_slice_get copies k x.0 d x.1 in
      let size : suc (length c.graph.signals) ≡ length h.signals =
      omega (arith, ap (length {A = Signal}) inserted.signals, length_push c.graph.signals new) in
      let P : ℕ → Type 0 = λ n. copy_code c x.0 < 2 ^ n in
      let Q : Copy → Type 0 = λ y. copy_code c y < 2 ^ length h.signals in
      subst Q (sym at) (subst P size (fits c x.0 is x.2.within))));
}
