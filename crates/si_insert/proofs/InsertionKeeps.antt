-- What an accepted insertion keeps.
use Rattle.std.proofs.Common.{◌≡◌, ℕ, ◌+◌, ◌<◌, ◌≤◌, ◌⊎◌, ◌↔◌, Bool, true, false, not, List, [], ◌∷◌, ◌++◌, length}
use Rattle.std.proofs.Common.{slice_get, map, Some, IsTrue, refl, sym, ap, subst, subst₂, ◌∙◌, arith, inl, inr, Option}
use Rattle.std.proofs.lemmas.Bool.{true≢false, cases_eq}
use Rattle.std.proofs.lemmas.Option.{slice_get_within, slice_get_cases, get_or_from_slice_get, slice_get-map}
use Rattle.std.proofs.lemmas.List.{length_push, length-map}
use Rattle.std.proofs.lemmas.List.FromFn.{get_or-range_with_len, length-range_with_len}
use Rattle.std.specs.Option.{option_map}
use Rattle.si_base.specs.declared.ids.Event.{Event}
use Rattle.si_base.specs.declared.graph.Signal.{Signal}
use Rattle.si_base.specs.declared.graph.SigKind.TheVariants.{Input, Output, Internal, Inserted}
use Rattle.si_base.specs.declared.graph.SigKind.{SigKind}
use Rattle.si_base.specs.Bits.{bit}
use Rattle.si_base.specs.Graph.{StateGraph, Step, IsGraph, enables}
use Rattle.si_base.specs.Codes.{CodedGraph, code, IsCoded}
use Rattle.si_base.specs.Proper.{IsProper}
use Rattle.si_base.proofs.RightGateLemmas.{step_within, code_fits}
use Rattle.si_base.proofs.GraphSteps.{enables-step, step_from_enables}
use Rattle.si_base.proofs.Booleans.{not_itself}
use Rattle.si_base.proofs.StepCodes.{no_bit}
use Rattle.si_insert.specs.declared.partition.Class.{Class}
use Rattle.si_insert.specs.Partition.{class_of, IsLawful}
use Rattle.si_insert.specs.Insertion.{Copy, IsCopied, IsSwitch, Moves, entry, switching, IsInsertedGraph, copy_code}
use Rattle.si_insert.specs.Insertion.{coded}
use Rattle.si_insert.specs.Insertion as insertion
use Rattle.si_insert.specs.Accepted.{IsInput, IsAccepted}
use Rattle.si_insert.specs.declared.lineage.TraceStep.{TraceStep}
use Rattle.si_insert.specs.Lineage.{Current, origin, given_current, next_current, Inserts, Grows, IsLineage, Silently}
use Rattle.si_insert.specs.Lineage.{CanMake}
use Rattle.si_insert.specs.Lineage.{Keeps}
use Rattle.si_insert.proofs.PartitionClasses.{waits_switching, goes_after}
use Rattle.si_insert.proofs.InsertionCopies.{copy, same_copy, one_place, copy_at}
use Rattle.si_insert.proofs.InsertionProper.{leads, from_copy, goes_on, code_at, old_bit, new_bit}
use Rattle.si_insert.proofs.InsertionCodes.{is_coded}
use Rattle.si_insert.proofs.AcceptedLosses.{goes_or_waits, front, in_front, at_last}

pub some_same : {X : Type 0} (a b : X) (o : Option X) → o ≡ Some a → o ≡ Some b → a ≡ b
some_same a b o p q = cc

pub origin_at : (v : Current) (copies : List Copy) (h : StateGraph) (k : ℕ) (x : Copy) → slice_get copies k ≡ Some x
    → origin (next_current v copies h) k ≡ origin v x.state
origin_at v copies h k x at =
    get_or_from_slice_get (map (λ (x : Copy). origin v x.state) copies) k (origin v x.state) 0
    (slice_get-map (λ (x : Copy). origin v x.state) copies k ∙ ap (option_map (λ (x : Copy). origin v x.state)) at)

-- ---- silent walks
pub join : (n : ℕ) (h : StateGraph) (k : ℕ) (es : List Event) (m : ℕ) (fs : List Event) (l : ℕ) → Silently n h k es m
    → Silently n h m fs l → Silently n h k (es ++ fs) l
join n h k [] m fs l first second = let P : ℕ → Type 0 = λ i. Silently n h i fs l in subst P (sym first) second
join n h k (e ∷ es) m fs l first second = (first.0, first.1, first.2, join n h first.0 es m fs l first.3 second)

-- copies led on by the new signal alone
abbrev SwitchWalk : StateGraph → List Class → Copy → List Event → Copy → Type 0
SwitchWalk g classes x [] y = x ≡ y
SwitchWalk g classes x (e ∷ es) y = (z : Copy) × IsSwitch g classes x e z × SwitchWalk g classes z es y

apart_classes : (a b c : Bool) → c ≡ a → c ≡ not b → switching a ≡ switching b → ⊥
apart_classes true true c p q same = absurd (true≢false (sym p ∙ q))
apart_classes true false c p q same = cc
apart_classes false true c p q same = cc
apart_classes false false c p q same = absurd (true≢false (sym q ∙ p))

-- the new signal switches at most once at a state
once : (g : StateGraph) (classes : List Class) (x : Copy) (es : List Event) (y : Copy) → SwitchWalk g classes x es y
    → (es ≡ []) ⊎ (y.value ≡ not x.value)
once g classes x [] y walk = inl refl
once g classes x (e ∷ []) y walk =
    inr (ap (λ (c : Copy). c.value) (sym walk.2) ∙ walk.1.to ∙ back e.up ∙ ap not (sym walk.1.from))
  where
    back : (b : Bool) → b ≡ not (not b)
    back true = refl
    back false = refl
once g classes x (e ∷ f ∷ es) y walk =
    let first = walk.1 in
    let second = walk.2.1 in
    absurd (apart_classes e.up f.up walk.0.value first.to second.from
    (sym first.class ∙ ap (class_of classes) (sym first.stays) ∙ second.class))

-- a silent walk of the inserted graph is one of the graph, with the new signal's events left out
project : (n : ℕ) (g : StateGraph) (classes : List Class) (new : Signal) (copies : List Copy) (h : StateGraph) (k : ℕ)
    (es : List Event) (m : ℕ) (x y : Copy) → IsInsertedGraph g classes new copies h → Silently n h k es m
    → slice_get copies k ≡ Some x → slice_get copies m ≡ Some y
    → (fs : List Event) × Silently n g x.state fs y.state × (fs ≡ [] → SwitchWalk g classes x es y)
project n g classes new copies h k [] m x y is walk at_k at_m =
    let P : ℕ → Type 0 = λ i. slice_get copies i ≡ Some y in
    let same : x ≡ y = some_same x y (slice_get copies k) at_k (subst P (sym walk) at_m) in
    ([], ap (λ (c : Copy). c.state) same, λ _. same)
project n g classes new copies h k (e ∷ es) m x y is walk at_k at_m =
    let z = leads g classes new copies h k e walk.0 x is walk.2 at_k in
    let rest = project n g classes new copies h walk.0 es m z.0 y is walk.3 z.1 at_m in
    elim z.2 [
      | inl copied ↦ (e ∷ rest.0, (z.0.state, walk.1, copied.step, rest.1), λ none. cc)
      | inr switch ↦ (let P : ℕ → Type 0 = λ i. Silently n g i rest.0 y.state in
          (rest.0, subst P switch.stays rest.1, λ none. (z.0, switch, rest.2 none)))
    ]

-- an arc of the graph can be made from each copy of its source, after at most one switch
record Lifted (n : ℕ) (copies : List Copy) (h : StateGraph) (k : ℕ) (e : Event) (t : ℕ) : Type 0 where
  silent : List Event
  at : ℕ
  walk : Silently n h k silent at
  end : ℕ
  step : Step h at e end
  to : Copy
  to_is : slice_get copies end ≡ Some to
  state : to.state ≡ t

lift : (n : ℕ) (g : StateGraph) (classes : List Class) (new : Signal) (copies : List Copy) (h : StateGraph) (k : ℕ)
    (x : Copy) (e : Event) (t : ℕ) → IsGraph g → IsLawful g classes → IsInsertedGraph g classes new copies h
    → n ≤ length g.signals → slice_get copies k ≡ Some x → Step g x.state e t → Lifted n copies h k e t
lift n g classes new copies h k x e t graph lawful is more at step = elim (goes_or_waits g classes x e t step) [
  | inl copied ↦
      (let y = goes_on g classes new copies h k e x (copy t x.value) graph lawful is at (inl copied) in
      record {
        silent = [];
        at = k;
        walk = refl;
        end = y.0;
        step = y.2;
        to = copy t x.value;
        to_is = y.1;
        state = refl;
      })
  | inr late ↦
      (let b = not x.value in
      let s : Event = record { sig = length g.signals; up = b } in
      let z : Copy = copy x.state b in
      let switch : IsSwitch g classes x s z =
      record {
        new = refl;
        stays = refl;
        from = twice x.value;
        to = refl;
        class = waits_switching (class_of classes x.state) (class_of classes t) x.value late;
      } in
      let z_at = goes_on g classes new copies h k s x z graph lawful is at (inr switch) in
      let copied : IsCopied g classes z e (copy t b) =
      record {
        step = step;
        keeps = refl;
        goes = goes_after (class_of classes x.state) (class_of classes t) x.value
            late;
      } in
      let y = goes_on g classes new copies h z_at.0 e z (copy t b) graph lawful is z_at.1 (inl copied) in
      record {
        silent = s ∷ [];
        at = z_at.0;
        walk = (z_at.0, more, z_at.2, refl);
        end = y.0;
        step = y.2;
        to = copy t b;
        to_is = y.1;
        state = refl;
      })
]
  where
    twice : (b : Bool) → b ≡ not (not b)
    twice true = refl
    twice false = refl

lift_walk : (n : ℕ) (g : StateGraph) (classes : List Class) (new : Signal) (copies : List Copy) (h : StateGraph) (k : ℕ)
    (x : Copy) (es : List Event) (t : ℕ) → IsGraph g → IsLawful g classes → IsInsertedGraph g classes new copies h
    → n ≤ length g.signals → slice_get copies k ≡ Some x → Silently n g x.state es t
    → (fs : List Event) × (m : ℕ) × Silently n h k fs m × (y : Copy) × (slice_get copies m ≡ Some y) × (y.state ≡ t)
lift_walk n g classes new copies h k x [] t graph lawful is more at walk = ([], k, refl, x, at, walk)
lift_walk n g classes new copies h k x (e ∷ es) t graph lawful is more at walk =
    let first = lift n g classes new copies h k x e walk.0 graph lawful is more at walk.2 in
    let P : ℕ → Type 0 = λ i. Silently n g i es t in
    let rest =
    lift_walk n g classes new copies h first.end first.to es t graph lawful is more first.to_is
    (subst P (sym first.state) walk.3) in (
      first.silent ++ e ∷ rest.0,
      rest.1,
      join n h k first.silent first.at (e ∷ rest.0) rest.1 first.walk
          (first.end, walk.1, first.step, rest.2),
      rest.3,
      rest.4,
      rest.5,
    )

-- ---- one insertion
abbrev new_signal : TraceStep → Signal
new_signal p = insertion.new_signal p.name

given_kept : (given : CodedGraph) (v : Current) (a : ℕ) (x : Signal) → Keeps given v
    → slice_get given.graph.signals a ≡ Some x → slice_get v.coded.graph.signals a ≡ Some x
given_kept given v a x keeps at = keeps.given_signals a (slice_get_within given.graph.signals a x at) ∙ at

pub input_kept : (given : CodedGraph) (v : Current) (a : ℕ) → Keeps given v → IsInput given.graph.signals a
    → IsInput v.coded.graph.signals a
input_kept given v a keeps input = (input.0, given_kept given v a input.0 keeps input.1, input.2)

-- the place in the list with one more signal
same_front : {X : Type 0} (xs : List X) (y : X) (a : ℕ) → a < length xs → slice_get (xs ++ y ∷ []) a ≡ slice_get xs a
same_front xs y a small = elim (slice_get_cases xs a).1 [
  | inl found ↦ in_front xs y a found.0 found.2 ∙ sym found.2
  | inr past ↦ absurd (omega arith)
]

record Setting (given : CodedGraph) (v : Current) (p : TraceStep) (copies : List Copy) (h : StateGraph) : Type 0 where
  keeps : Keeps given v
  accepted : IsAccepted v.coded.graph p.partition
  insertion : IsInsertedGraph v.coded.graph p.partition (new_signal p) copies h
  limits : IsGraph h

signals_next : (given : CodedGraph) (v : Current) (p : TraceStep) (copies : List Copy) (h : StateGraph)
    → Setting given v p copies h
    → (length given.graph.signals ≤ length h.signals) × ((a : ℕ) → a < length given.graph.signals
    → slice_get h.signals a ≡ slice_get given.graph.signals a)
    × ((a : ℕ) (x : Signal) → length given.graph.signals ≤ a → slice_get h.signals a ≡ Some x → x.kind ≡ Inserted)
signals_next given v p copies h set = (
  omega (arith, size, set.keeps.more),
  λ a small. ap (λ (xs : List Signal). slice_get xs a) set.insertion.signals
      ∙ same_front v.coded.graph.signals (new_signal p) a (omega (arith, small, set.keeps.more))
      ∙ set.keeps.given_signals a small,
  λ a x above at. kind_of a x above (sym (ap (λ (xs : List Signal). slice_get xs a) set.insertion.signals) ∙ at)
      (cases_eq a (length v.coded.graph.signals)),
)
  where
    size : length h.signals ≡ length v.coded.graph.signals + 1
    size = ap (length {A = Signal}) set.insertion.signals ∙ length_push v.coded.graph.signals (new_signal p)

    kind_of : (a : ℕ) (x : Signal) → length given.graph.signals ≤ a
        → slice_get (v.coded.graph.signals ++ new_signal p ∷ []) a ≡ Some x
        → ((a ≡ length v.coded.graph.signals) ⊎ (a ≡ length v.coded.graph.signals → ⊥)) → x.kind ≡ Inserted
    kind_of a x above at (inr other) =
        set.keeps.new_signals a x above (front v.coded.graph.signals (new_signal p) a x at other)
    kind_of a x above at (inl same) =
        let P : ℕ → Type 0 = λ i. slice_get (v.coded.graph.signals ++ new_signal p ∷ []) i ≡ Some x in
        let is : new_signal p ≡ x =
        some_same (new_signal p) x (slice_get (v.coded.graph.signals ++ new_signal p ∷ [])
        (length v.coded.graph.signals)) (at_last v.coded.graph.signals (new_signal p)) (subst P same at) in
        ap (λ (s : Signal). s.kind) (sym is)

values_next : (given : CodedGraph) (v : Current) (p : TraceStep) (copies : List Copy) (h : StateGraph)
    → Setting given v p copies h → (k a : ℕ) → k < h.states → a < length given.graph.signals
    → bit (code (coded v.coded copies h) k) a ≡ bit (code given (origin (next_current v copies h) k)) a
values_next given v p copies h set k a there small =
    let x = copy_at v.coded.graph p.partition (new_signal p) copies h k set.insertion there in
    let old : a ≡ length v.coded.graph.signals → ⊥ = λ same. omega (arith, same, small, set.keeps.more) in
    ap (λ (i : ℕ). bit i a) (code_at v.coded copies h k x.0 x.1) ∙ old_bit v.coded x.0 a old
    ∙ set.keeps.values x.0.state a x.2.within small
    ∙ ap (λ (s : ℕ). bit (code given s) a) (sym (origin_at v copies h k x.0 x.1))

determined_next : (given : CodedGraph) (v : Current) (p : TraceStep) (copies : List Copy) (h : StateGraph)
    → Setting given v p copies h → (k m : ℕ) → k < h.states → m < h.states
    → origin (next_current v copies h) k ≡ origin (next_current v copies h) m
    → ((a : ℕ) → length given.graph.signals ≤ a → bit (code (coded v.coded copies h) k) a ≡ bit
    (code (coded v.coded copies h) m) a) → k ≡ m
determined_next given v p copies h set k m k_there m_there same_origin same_bits =
    let x = copy_at v.coded.graph p.partition (new_signal p) copies h k set.insertion k_there in
    let y = copy_at v.coded.graph p.partition (new_signal p) copies h m set.insertion m_there in
    let n = length v.coded.graph.signals in
    let is = set.keeps.coded in
    let copy_bits : (a : ℕ) → length given.graph.signals ≤ a
    → bit (copy_code v.coded x.0) a ≡ bit (copy_code v.coded y.0) a =
    λ a above. sym (ap (λ (i : ℕ). bit i a) (code_at v.coded copies h k x.0 x.1)) ∙ same_bits a above
    ∙ ap (λ (i : ℕ). bit i a) (code_at v.coded copies h m y.0 y.1) in
    let value : x.0.value ≡ y.0.value =
    sym (new_bit v.coded x.0 is x.2.within) ∙ copy_bits n set.keeps.more ∙ new_bit v.coded y.0 is y.2.within in
    let bits : (a : ℕ) → length given.graph.signals ≤ a
    → bit (code v.coded x.0.state) a ≡ bit (code v.coded y.0.state) a =
    λ a above. bits_at a above x.0 y.0 x.2.within y.2.within (copy_bits a above) (cases_eq a n) in
    let states : x.0.state ≡ y.0.state = set.keeps.determined x.0.state y.0.state x.2.within y.2.within
    (sym (origin_at v copies h k x.0 x.1) ∙ same_origin ∙ origin_at v copies h m y.0 y.1) bits in
    one_place copies k m x.0 set.insertion.in_order x.1 (y.1 ∙ ap Some (sym (same_copy x.0 y.0 states value)))
  where
    bits_at : (a : ℕ) → length given.graph.signals ≤ a → (x y : Copy) → x.state < v.coded.graph.states
        → y.state < v.coded.graph.states → bit (copy_code v.coded x) a ≡ bit (copy_code v.coded y) a
        → ((a ≡ length v.coded.graph.signals) ⊎ (a ≡ length v.coded.graph.signals → ⊥))
        → bit (code v.coded x.state) a ≡ bit (code v.coded y.state) a
    bits_at a above x y x_there y_there same (inl new) =
        let n = length v.coded.graph.signals in
        no_bit (code v.coded x.state) n a (code_fits v.coded x.state set.keeps.coded x_there) (omega (arith, new))
        ∙ sym (no_bit (code v.coded y.state) n a (code_fits v.coded y.state set.keeps.coded y_there)
        (omega (arith, new)))
    bits_at a above x y x_there y_there same (inr old) = sym (old_bit v.coded x a old) ∙ same ∙ old_bit v.coded y a old

arcs_next : (given : CodedGraph) (v : Current) (p : TraceStep) (copies : List Copy) (h : StateGraph)
    → Setting given v p copies h → (k : ℕ) (e : Event) (m : ℕ) → Step h k e m
    → (e.sig < length given.graph.signals → Step given.graph (origin (next_current v copies h) k) e
    (origin (next_current v copies h) m)) × (length given.graph.signals ≤ e.sig
    → origin (next_current v copies h) m ≡ origin (next_current v copies h) k)
arcs_next given v p copies h set k e m step = at j.4
  where
    j : (x : Copy) × (slice_get copies k ≡ Some x) × (y : Copy) × (slice_get copies m ≡ Some y)
        × Moves v.coded.graph p.partition x e y
    j = from_copy v.coded.graph p.partition (new_signal p) copies h k e m set.insertion step

    at : Moves v.coded.graph p.partition j.0 e j.2
        → (e.sig < length given.graph.signals → Step given.graph (origin (next_current v copies h) k) e
        (origin (next_current v copies h) m)) × (length given.graph.signals ≤ e.sig
        → origin (next_current v copies h) m ≡ origin (next_current v copies h) k)
    at (inl copied) =
        let P : ℕ → ℕ → Type 0 = λ s t. Step given.graph s e t in (
          λ small. subst₂ P (sym (origin_at v copies h k j.0 j.1)) (sym (origin_at v copies h m j.2 j.3))
              (set.keeps.given_arcs j.0.state e j.2.state copied.step small),
          λ above. origin_at v copies h m j.2 j.3 ∙ set.keeps.inserted_arcs j.0.state e j.2.state copied.step above
              ∙ sym (origin_at v copies h k j.0 j.1),
        )
    at (inr switch) = (
      λ small. absurd (omega (arith, small, switch.new, set.keeps.more)),
      λ above. origin_at v copies h m j.2 j.3 ∙ ap (origin v) switch.stays ∙ sym (origin_at v copies h k j.0 j.1),
    )

-- an input is enabled at a place exactly where it is at the origin
inputs_next : (given : CodedGraph) (v : Current) (p : TraceStep) (copies : List Copy) (h : StateGraph)
    → Setting given v p copies h → (k : ℕ) (e : Event) → k < h.states → IsInput given.graph.signals e.sig
    → IsTrue (enables h k e) ↔ IsTrue (enables given.graph (origin (next_current v copies h) k) e)
inputs_next given v p copies h set k e there input = (
  λ enabled. (let found = step_from_enables h k e enabled in
      let small = slice_get_within given.graph.signals e.sig input.0 input.1 in
      enables-step given.graph (origin (next_current v copies h) k) e (origin (next_current v copies h) found.0)
      ((arcs_next given v p copies h set k e found.0 found.1).0 small)),
  λ enabled. (let x = copy_at v.coded.graph p.partition (new_signal p) copies h k set.insertion there in
      let P : ℕ → Type 0 = λ s. IsTrue (enables given.graph s e) in
      let at_state =
      (set.keeps.inputs x.0.state e x.2.within input).1 (subst P (origin_at v copies h k x.0 x.1) enabled) in
      let y = set.accepted.inputs x.0 e x.2 (input_kept given v e.sig set.keeps input) at_state in
      let on =
      goes_on v.coded.graph p.partition (new_signal p) copies h k e x.0 y.0 set.keeps.coded.graph_is
      set.accepted.lawful set.insertion x.1 y.2 in
      enables-step h k e on.0 on.2),
)

no_circle_next : (given : CodedGraph) (v : Current) (p : TraceStep) (copies : List Copy) (h : StateGraph)
    → Setting given v p copies h → (k : ℕ) (es : List Event) → Silently (length given.graph.signals) h k es k → es ≡ []
no_circle_next given v p copies h set k [] walk = refl
no_circle_next given v p copies h set k (e ∷ es) walk =
    let x = from_copy v.coded.graph p.partition (new_signal p) copies h k e walk.0 set.insertion walk.2 in
    let down =
    project (length given.graph.signals) v.coded.graph p.partition (new_signal p) copies h k (e ∷ es) k x.0 x.0
    set.insertion walk x.1 x.1 in
    let still = set.keeps.no_circle x.0.state down.0 down.1 in
    elim (once v.coded.graph p.partition x.0 (e ∷ es) x.0 (down.2 still)) [
      | inl none ↦ none
      | inr turned ↦ absurd (not_itself x.0.value turned)
    ]

can_make_next : (given : CodedGraph) (v : Current) (p : TraceStep) (copies : List Copy) (h : StateGraph)
    → Setting given v p copies h → (k : ℕ) (e : Event) (t : ℕ) → k < h.states
    → Step given.graph (origin (next_current v copies h) k) e t
    → CanMake (next_current v copies h) (length given.graph.signals) k e t
can_make_next given v p copies h set k e t there step =
    let n = length given.graph.signals in
    let g = v.coded.graph in
    let x = copy_at g p.partition (new_signal p) copies h k set.insertion there in
    let P : ℕ → Type 0 = λ s. Step given.graph s e t in
    let before = (set.keeps.can_make x.0.state e t x.2.within (subst P (origin_at v copies h k x.0 x.1) step)).0 in
    let graph = set.keeps.coded.graph_is in
    let up =
    lift_walk n g p.partition (new_signal p) copies h k x.0 before.silent before.at graph set.accepted.lawful
    set.insertion set.keeps.more x.1 before.walk in
    let Q : ℕ → Type 0 = λ s. Step g s e before.end in
    let last =
    lift n g p.partition (new_signal p) copies h up.1 up.3 e before.end graph set.accepted.lawful set.insertion
    set.keeps.more up.4 (subst Q (sym up.5) before.step) in
    record {
      silent = up.0 ++ last.silent;
      at = last.at;
      walk = join n h k up.0 up.1 last.silent last.at up.2 last.walk;
      end = last.end;
      step = last.step;
      origin_is = origin_at v copies h last.end last.to last.to_is ∙ ap (origin v) last.state ∙ before.origin_is;
    }

-- an input is made at once
input_at_once : (given : CodedGraph) (v : Current) (p : TraceStep) (copies : List Copy) (h : StateGraph)
    → Setting given v p copies h → (k : ℕ) (e : Event) (t : ℕ) → IsCoded given → k < h.states
    → Step given.graph (origin (next_current v copies h) k) e t → IsInput given.graph.signals e.sig
    → (f : CanMake (next_current v copies h) (length given.graph.signals) k e t) × (f.silent ≡ [])
input_at_once given v p copies h set k e t is there step input =
    let enabled =
    (inputs_next given v p copies h set k e there input).1
    (enables-step given.graph (origin (next_current v copies h) k) e t step) in
    let found = step_from_enables h k e enabled in
    let small = slice_get_within given.graph.signals e.sig input.0 input.1 in
    let below = (arcs_next given v p copies h set k e found.0 found.1).0 small in (
      record {
        silent = [];
        at = k;
        walk = refl;
        end = found.0;
        step = found.1;
        origin_is = is.deterministic (origin (next_current v copies h) k) e (origin (next_current v copies h) found.0) t
            below step;
      },
      refl,
    )

input_or_not : (k : SigKind) → (k ≡ Input) ⊎ (k ≡ Input → ⊥)
input_or_not Input = inl refl
input_or_not Output = inr (λ h. cc)
input_or_not Internal = inr (λ h. cc)
input_or_not Inserted = inr (λ h. cc)

is_input_or_not : (signals : List Signal) (a : ℕ) → a < length signals → IsInput signals a ⊎ (IsInput signals a → ⊥)
is_input_or_not signals a small = elim (slice_get_cases signals a).1 [
  | inl found ↦ at found.0 found.2 (input_or_not found.0.kind)
  | inr past ↦ absurd (omega arith)
]
  where
    at : (x : Signal) → slice_get signals a ≡ Some x → ((x.kind ≡ Input) ⊎ (x.kind ≡ Input → ⊥))
        → IsInput signals a ⊎ (IsInput signals a → ⊥)
    at x there (inl yes_input) = inl (x, there, yes_input)
    at x there (inr other) =
        inr (λ input. other (ap (λ (s : Signal). s.kind) (some_same x input.0 (slice_get signals a) there input.1)
        ∙ input.2))

follow_next : (given : CodedGraph) (v : Current) (p : TraceStep) (copies : List Copy) (h : StateGraph)
    → Setting given v p copies h → (k : ℕ) (e : Event) (t : ℕ) → IsCoded given → k < h.states
    → Step given.graph (origin (next_current v copies h) k) e t
    → (f : CanMake (next_current v copies h) (length given.graph.signals) k e t)
    × (IsInput given.graph.signals e.sig → f.silent ≡ [])
follow_next given v p copies h set k e t is there step =
    elim (is_input_or_not given.graph.signals e.sig (step_within given.graph (origin (next_current v copies h) k) e t
    is.graph_is step).1) [
      | inl input ↦ (let f = input_at_once given v p copies h set k e t is there step input in (f.0, λ _. f.1))
      | inr other ↦ (can_make_next given v p copies h set k e t there step, λ input. absurd (other input))
    ]

keeps_setting : (given : CodedGraph) (v : Current) (p : TraceStep) (copies : List Copy) (h : StateGraph) → IsCoded given
    → Setting given v p copies h → Keeps given (next_current v copies h)
keeps_setting given v p copies h is set =
    let g = v.coded.graph in
    let signals = signals_next given v p copies h set in
    record {
      coded =
          is_coded v.coded p.partition (new_signal p) copies h set.keeps.coded set.accepted.lawful set.insertion
          set.limits;
      proper = set.accepted.proper (new_signal p) copies h set.insertion;
      more = signals.0;
      given_signals = signals.1;
      new_signals = signals.2;
      count = length-map copies (λ (x : Copy). origin v x.state) ∙ sym set.insertion.count;
      start =
          origin_at v copies h h.start (record { state = g.start; value = entry (class_of p.partition g.start) })
          set.insertion.starts ∙ set.keeps.start;
      within = λ k there. (let x = copy_at g p.partition (new_signal p) copies h k set.insertion there in
          let P : ℕ → Type 0 = λ s. s < given.graph.states in
          subst P (sym (origin_at v copies h k x.0 x.1)) (set.keeps.within x.0.state x.2.within));
      values = values_next given v p copies h set;
      determined = determined_next given v p copies h set;
      given_arcs = λ k e m step. (arcs_next given v p copies h set k e m step).0;
      inserted_arcs = λ k e m step. (arcs_next given v p copies h set k e m step).1;
      inputs = inputs_next given v p copies h set;
      no_circle = no_circle_next given v p copies h set;
      can_make = λ k e t there step. follow_next given v p copies h set k e t is there step;
    }

-- an accepted insertion keeps all
pub keeps_next : (given : CodedGraph) (v : Current) (p : TraceStep) (u : Current) → IsCoded given → Keeps given v
    → Inserts v p u → Keeps given u
keeps_next given v p u is keeps ins =
    let P : Current → Type 0 = λ w. Keeps given w in
    subst P (sym ins.makes) (keeps_setting given v p ins.copies ins.graph is
    (record { keeps = keeps; accepted = ins.accepted; insertion = ins.insertion; limits = ins.limits }))

-- the given graph keeps all of itself
first_origin : (c : CodedGraph) (k : ℕ) → k < c.graph.states → origin (given_current c) k ≡ k
first_origin c k there = get_or-range_with_len 0 c.graph.states k 0 there ∙ omega arith

silent_first : (c : CodedGraph) (k : ℕ) (es : List Event) (m : ℕ) → IsCoded c
    → Silently (length c.graph.signals) c.graph k es m → es ≡ []
silent_first c k [] m is walk = refl
silent_first c k (e ∷ es) m is walk =
    let parts = step_within c.graph k e walk.0 is.graph_is walk.2 in absurd (omega (arith, parts.1, walk.1))

pub keeps_first : (given : CodedGraph) → IsCoded given → IsProper given.graph → Keeps given (given_current given)
keeps_first given is proper = record {
  coded = is;
  proper = proper;
  more = omega arith;
  given_signals = λ a small. refl;
  new_signals =
      λ a x above at. (let small = slice_get_within given.graph.signals a x at in absurd (omega (arith, small, above)));
  count = length-range_with_len 0 given.graph.states;
  start = first_origin given given.graph.start is.graph_is.starts;
  within = λ k there. (let e = first_origin given k there in omega (arith, e, there));
  values = λ k a there small. ap (λ (s : ℕ). bit (code given s) a) (sym (first_origin given k there));
  determined =
      λ k m k_there m_there same bits. sym (first_origin given k k_there) ∙ same ∙ first_origin given m m_there;
  given_arcs = λ k e m step small.
      (let parts = step_within given.graph k e m is.graph_is step in
      let P : ℕ → ℕ → Type 0 = λ s t. Step given.graph s e t in
      subst₂ P (sym (first_origin given k parts.0)) (sym (first_origin given m parts.2)) step);
  inserted_arcs =
      λ k e m step above. (let parts = step_within given.graph k e m is.graph_is step in
      absurd (omega (arith, parts.1, above)));
  inputs = λ k e there input. (let P : ℕ → Type 0 = λ s. IsTrue (enables given.graph s e) in
      ((λ h. subst P (sym (first_origin given k there)) h), (λ h. subst P (first_origin given k there) h)));
  no_circle = λ k es walk. silent_first given k es k is walk;
  can_make = λ k e t there step.
      (let P : ℕ → Type 0 = λ s. Step given.graph s e t in
      let at_k = subst P (first_origin given k there) step in
      let parts = step_within given.graph k e t is.graph_is at_k in (
        record { silent = []; at = k; walk = refl; end = t; step = at_k; origin_is = first_origin given t parts.2 },
        λ _. refl,
      ));
}

keeps_along : (given : CodedGraph) (v : Current) (trace : List TraceStep) (u : Current) → IsCoded given → Keeps given v
    → Grows v trace u → Keeps given u
keeps_along given v [] u is keeps grows = let P : Current → Type 0 = λ w. Keeps given w in subst P grows keeps
keeps_along given v (p ∷ trace) u is keeps grows =
    keeps_along given grows.0 trace u is (keeps_next given v p grows.0 is keeps grows.1) grows.2

-- the kept facts hold of each lineage
pub keeps : (given : CodedGraph) (trace : List TraceStep) (v : Current) → IsLineage given trace v → Keeps given v
keeps given trace v lineage =
    keeps_along given (given_current given) trace v lineage.coded (keeps_first given lineage.coded lineage.proper)
    lineage.grown
