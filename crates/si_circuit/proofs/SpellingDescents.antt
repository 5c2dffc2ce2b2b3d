-- Descents along a trace are the origins and the values of the inserted signals.
use Rattle.std.proofs.Common.{◌≡◌, ℕ, ◌+◌, ◌<◌, ◌≤◌, ◌==◌, not, Bool, true, false, List, [], ◌∷◌, length, map, get_or}
use Rattle.std.proofs.Common.{slice_get, Some, All, if◌then◌else◌, refl, sym, ap, subst, ◌∙◌, arith, inl, inr}
use Rattle.std.proofs.lemmas.Bool.{cases_eq}
use Rattle.std.proofs.lemmas.List.{get_or-map, get_or_default, length-map, length_push}
use Rattle.std.proofs.lemmas.List.Elements.{Contains-get_or}
use Rattle.std.proofs.lemmas.List.FromFn.{get_or-range_with_len, length-range_with_len}
use Rattle.std.proofs.lemmas.Nat.Bits.{bit_at-zero}
use Rattle.std.proofs.lemmas.Option.{slice_get-get_or}
use Rattle.std.specs.List.{range_with_len}
use Rattle.si_base.specs.declared.graph.Signal.{Signal}
use Rattle.si_base.specs.Bits.{bit, flip}
use Rattle.si_base.specs.Limits.{code_width, max_states}
use Rattle.si_base.specs.Codes.{CodedGraph, code, IsCoded}
use Rattle.si_base.proofs.BitFacts.{flip-same, flip-other}
use Rattle.si_base.proofs.StepCodes.{code_fits, no_bit}
use Rattle.si_insert.specs.declared.lineage.TraceStep.{TraceStep}
use Rattle.si_insert.specs.Insertion.{Copy, new_signal}
use Rattle.si_insert.specs.GraphOfCopies.{copies_of}
use Rattle.si_insert.specs.Lineage.{Current, Inserts, Grows, IsLineage, Keeps, given_current, next_current}
use Rattle.si_insert.proofs.InsertionKeeps.{keeps_next, keeps_first, origin_at}
use Rattle.si_insert.proofs.ApplyInserts.{made_is_insertion}
use Rattle.si_insert.proofs.OneInsertion.{same_copies}
use Rattle.si_insert.proofs.InsertionProper.{code_at}
use Rattle.si_circuit.specs.declared.spelling.Descent.{Descent}
use Rattle.si_circuit.specs.Spelling.{AreDescents, descent, copy_descent, descents_after, descents_along}
use Rattle.si_circuit.specs.Spelling.{given_descents}

-- ---- one more insertion
-- the copies of an insertion are those of its classes, in order
copies_are : (v : Current) (p : TraceStep) (u : Current) → IsCoded v.coded → (ins : Inserts v p u)
    → ins.copies ≡ copies_of p.partition
copies_are v p u is ins =
    let new = new_signal p.name in
    let made = made_is_insertion v.coded.graph p.partition new is.graph_is ins.accepted.lawful refl in
    same_copies v.coded.graph p.partition new ins.copies (copies_of p.partition) ins.graph _ ins.insertion made

-- bit j of a copy's bits is bit n + j of its code
copied_bit : (n k j bits value : ℕ) (b : Bool) → ((i : ℕ) → bit bits i ≡ bit value (n + i))
    → bit (if b then flip bits k else bits) j ≡ bit (if b then flip value (n + k) else value) (n + j)
copied_bit n k j bits value false same = same j
copied_bit n k j bits value true same = elim (cases_eq j k) [
  | inl here ↦ rw here (flip-same bits k ∙ ap not (same k) ∙ sym (flip-same value (n + k)))
  | inr other ↦ flip-other bits k j other ∙ same j
      ∙ sym (flip-other value (n + k) (n + j) (λ e. other (omega (arith, e))))
]

-- the state of which the copy at that place is one
record IsCopyAt (v : Current) (copies : List Copy) (s : ℕ) : Type 0 where
  copy : Copy
  at : slice_get copies s ≡ Some copy
  item : (d : Copy) → get_or copies s d ≡ copy
  within : copy.state < v.coded.graph.states

copy_there : (v : Current) (p : TraceStep) (u : Current) (ins : Inserts v p u) (s : ℕ) → s < ins.graph.states
    → IsCopyAt v ins.copies s
copy_there v p u ins s small =
    let d : Copy = record { state = 0; value = false } in
    let inside : s < length ins.copies = omega (arith, small, ins.insertion.count) in
    record {
      copy = get_or ins.copies s d;
      at = slice_get-get_or ins.copies s d inside;
      item = λ e. get_or_default ins.copies s e d inside;
      within = ((ins.insertion.exactly (get_or ins.copies s d)).0 (Contains-get_or ins.copies s d inside)).within;
    }

-- the descent of a copy
descent_at : (v : Current) (copies : List Copy) (k s : ℕ) (ds : List Descent) (x : IsCopyAt v copies s)
    → s < length copies → descent (map (copy_descent k ds) copies) s ≡ copy_descent k ds x.copy
descent_at v copies k s ds x inside =
    get_or-map (copy_descent k ds) copies s x.copy _ inside ∙ ap (copy_descent k ds) (x.item x.copy)

copied_descents : (given : CodedGraph) (v : Current) (p : TraceStep) (u : Current) (k : ℕ) (ds : List Descent)
    → length v.coded.graph.signals ≡ length given.graph.signals + k → (ins : Inserts v p u) → AreDescents given v ds
    → AreDescents given (next_current v ins.copies ins.graph) (map (copy_descent k ds) ins.copies)
copied_descents given v p u k ds size ins are = record {
  count = length-map ins.copies (copy_descent k ds) ∙ sym ins.insertion.count;
  origins = λ s small.
      (let x = copy_there v p u ins s small in
      let inside : s < length ins.copies = omega (arith, small, ins.insertion.count) in
      ap (λ (d : Descent). d.origin) (descent_at v ins.copies k s ds x inside) ∙ are.origins x.copy.state x.within
      ∙ sym (origin_at v ins.copies ins.graph s x.copy x.at));
  values = λ s j small.
      (let x = copy_there v p u ins s small in
      let inside : s < length ins.copies = omega (arith, small, ins.insertion.count) in
      let n = length given.graph.signals in
      let new : ℕ → ℕ = λ m. if x.copy.value then flip (code v.coded x.copy.state) m else code v.coded x.copy.state in
      ap (λ (d : Descent). bit d.bits j) (descent_at v ins.copies k s ds x inside)
      ∙ copied_bit n k j (descent ds x.copy.state).bits (code v.coded x.copy.state) x.copy.value
      (λ i. are.values x.copy.state i x.within)
      ∙ ap (λ (m : ℕ). bit (new m) (n + j)) (sym size)
      ∙ ap (λ (c : ℕ). bit c (n + j)) (sym (code_at v.coded ins.copies ins.graph s x.copy x.at)));
}

pub next_descents : (given : CodedGraph) (v : Current) (p : TraceStep) (u : Current) (k : ℕ) (ds : List Descent)
    → Keeps given v → length v.coded.graph.signals ≡ length given.graph.signals + k → Inserts v p u
    → AreDescents given v ds → AreDescents given u (descents_after k p.partition ds)
next_descents given v p u k ds keeps size ins are =
    let P : Current → List Copy → Type 0 = λ w xs. AreDescents given w (map (copy_descent k ds) xs) in
    let copied_are : P (next_current v ins.copies ins.graph) ins.copies =
    copied_descents given v p u k ds size ins are in
    subst (P u) (copies_are v p u keeps.coded ins) (subst (λ w. P w ins.copies) (sym ins.makes) copied_are)

-- ---- along a trace
-- after k insertions, with the rest of the trace to come, and v at its end
pub record At (given : CodedGraph) (rest : List TraceStep) (v : Current) (k : ℕ) (ds : List Descent) : Type 0 where
  pub is : IsCoded given
  pub now : Current
  pub keeps : Keeps given now
  pub size : length now.coded.graph.signals ≡ length given.graph.signals + k
  pub grows : Grows now rest v
  pub descents : AreDescents given now ds

pub given_are : (given : CodedGraph) → IsCoded given
    → AreDescents given (given_current given) (given_descents given.graph.states)
given_are given is = record {
  count = length-map (range_with_len 0 given.graph.states) own ∙ length-range_with_len 0 given.graph.states;
  origins = λ s small.
      (ap (λ (d : Descent). d.origin) (own_at s small) ∙ sym (get_or-range_with_len 0 given.graph.states s 0 small));
  values = λ s k small.
      (let n = length given.graph.signals in
      ap (λ (d : Descent). bit d.bits k) (own_at s small) ∙ ap (λ (b : ℕ). b == 1) (bit_at-zero k)
      ∙ sym (no_bit (code given s) n (n + k) (code_fits given s is small) (omega arith)));
}
  where
    own : ℕ → Descent
    own s = record { origin = s; bits = 0 }

    own_at : (s : ℕ) → s < given.graph.states → descent (given_descents given.graph.states) s ≡ own (0 + s)
    own_at s small =
        get_or-map own (range_with_len 0 given.graph.states) s 0 _
        (omega (arith, small, length-range_with_len 0 given.graph.states))
        ∙ ap own (get_or-range_with_len 0 given.graph.states s 0 small)

pub at_start : (given : CodedGraph) (trace : List TraceStep) (v : Current) → IsLineage given trace v
    → At given trace v 0 (given_descents given.graph.states)
at_start given trace v lineage = record {
  is = lineage.coded;
  now = given_current given;
  keeps = keeps_first given lineage.coded lineage.proper;
  size = omega arith;
  grows = lineage.grown;
  descents = given_are given lineage.coded;
}

-- the graph that an insertion makes has one signal more
pub one_more : (v : Current) (p : TraceStep) (u : Current) → Inserts v p u
    → length u.coded.graph.signals ≡ length v.coded.graph.signals + 1
one_more v p u ins =
    ap (λ (w : Current). length w.coded.graph.signals) ins.makes
    ∙ ap (length {A = Signal}) ins.insertion.signals ∙ length_push v.coded.graph.signals (new_signal p.name)

pub at_next : (given : CodedGraph) (p : TraceStep) (rest : List TraceStep) (v : Current) (k : ℕ) (ds : List Descent)
    → At given (p ∷ rest) v k ds → At given rest v (k + 1) (descents_after k p.partition ds)
at_next given p rest v k ds at =
    let u = at.grows.0 in
    let more = one_more at.now p u at.grows.1 in
    record {
      is = at.is;
      now = u;
      keeps = keeps_next given at.now p u at.is at.keeps at.grows.1;
      size = omega (arith, more, at.size);
      grows = at.grows.2;
      descents = next_descents given at.now p u k ds at.keeps at.size at.grows.1 at.descents;
    }

pub along : (given : CodedGraph) (rest : List TraceStep) (v : Current) (k : ℕ) (ds : List Descent)
    → At given rest v k ds → AreDescents given v (descents_along k rest ds)
along given [] v k ds at = subst (λ w. AreDescents given w ds) at.grows at.descents
along given (p ∷ rest) v k ds at = along given rest v (k + 1) (descents_after k p.partition ds)
    (at_next given p rest v k ds at)

pub descents_are : (given : CodedGraph) (trace : List TraceStep) (v : Current) → IsLineage given trace v
    → AreDescents given v (descents_along 0 trace (given_descents given.graph.states))
descents_are given trace v lineage =
    along given trace v 0 (given_descents given.graph.states) (at_start given trace v lineage)

-- ---- what the code asks of a step
pub record StepFits (given : CodedGraph) (p : TraceStep) (k : ℕ) (ds : List Descent) : Type 0 where
  pub room : k < code_width
  pub few : length p.partition ≤ max_states
  pub count : length ds ≡ length p.partition
  pub within : All (λ d. d.origin < given.graph.states) ds

pub step_fits : (given : CodedGraph) (p : TraceStep) (rest : List TraceStep) (v : Current) (k : ℕ) (ds : List Descent)
    → At given (p ∷ rest) v k ds → StepFits given p k ds
step_fits given p rest v k ds at =
    let ins = at.grows.1 in
    let more : length ins.graph.signals ≡ length at.now.coded.graph.signals + 1 =
    ap (length {A = Signal}) ins.insertion.signals ∙ length_push at.now.coded.graph.signals (new_signal p.name) in
    let classes = ins.accepted.lawful.count in
    record {
      room = omega (arith, more, at.size, ins.limits.few_signals);
      few = omega (arith, classes, at.keeps.coded.graph_is.few_states);
      count = at.descents.count ∙ sym classes;
      within = λ i d small.
          (let there : i < at.now.coded.graph.states = omega (arith, small, at.descents.count) in
          let own = at.descents.origins i there in
          let same = ap (λ (e : Descent). e.origin) (get_or_default ds i d (record { origin = 0; bits = 0 }) small) in
          omega (arith, same, own, at.keeps.within i there));
    }
