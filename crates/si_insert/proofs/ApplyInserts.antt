-- The graph that `apply` makes is the inserted graph; so there is one for each lawful partition.
use Rattle.std.proofs.Common.{◌≡◌, ℕ, zero, suc, ◌+◌, ◌<◌, ◌↔◌, Bool, true, false, not, List, [], ◌∷◌, ◌++◌, length}
use Rattle.std.proofs.Common.{slice_get, filter, Contains, Some, refl, sym, ap, subst, subst₂, ◌∙◌, arith, inl, inr}
use Rattle.std.proofs.Common.{Less, nat_lt, lt-ltb, ◌==◌, eq-eqb, ap₂}
use Rattle.std.proofs.lemmas.Bool.{true≢false, and_parts, and_from, cases_Bool, not-true, not_from_false}
use Rattle.std.proofs.lemmas.Option.{slice_get_within, get_or_from_slice_get}
use Rattle.std.proofs.lemmas.List.Elements.{Contains-append_left, Contains-append_right, Contains-append_cases}
use Rattle.std.specs.List.{AllByRecursion}
use Rattle.std.specs.List.Sorted.{IsStrictlySortedBy}
use Rattle.si_base.specs.declared.ids.Event.{Event}
use Rattle.si_base.specs.declared.graph.Edge.{Edge}
use Rattle.si_base.specs.declared.graph.Signal.{Signal}
use Rattle.si_base.specs.declared.graph.SigKind.TheVariants.{Inserted}
use Rattle.si_base.specs.Graph.{StateGraph, Step, arc, IsGraph}
use Rattle.si_base.proofs.RightGateLemmas.{step_within}
use Rattle.si_base.proofs.OrderAscending.{nat_same}
use Rattle.si_base.proofs.Booleans.{twice_not}
use Rattle.si_insert.specs.declared.partition.Class.{Class}
use Rattle.si_insert.specs.declared.partition.Class.TheVariants.{Low, Rising, High, Falling}
use Rattle.si_insert.specs.Partition.{class_of, IsLawful}
use Rattle.si_insert.specs.Insertion.{Copy, IsCopy, IsCopied, IsSwitch, has_copy, waits, entry, switching, copy_cmp}
use Rattle.si_insert.specs.Insertion.{Joins, IsInsertedGraph}
use Rattle.si_insert.specs.Accepted.{copy_count}
use Rattle.si_insert.specs.GraphOfCopies.{copies_from, copies_of, place, edge_has_copy, copied_edge, out_of}
use Rattle.si_insert.specs.GraphOfCopies.{copied_edges, switches}
use Rattle.si_insert.specs.GraphOfCopies.{switch_edge, switch_edges, edges_from, new_edges, new_start, graph_of_copies}
use Rattle.si_insert.proofs.PartitionClasses.{arrives, entry_there, switching_there}
use Rattle.si_insert.proofs.InsertionCopies.{copy, one_place}
use Rattle.si_insert.proofs.FlatMaps.{Contains-flat_map, Contains-from_flat_map}
use Rattle.si_graph.proofs.ListMembers.{Contains-here, Contains-cons_cases, Contains-nil, Contains-filter}
use Rattle.si_graph.proofs.ListMembers.{Contains-from_filter, Contains-map, Contains-from_map}

-- ---- the list of copies
named : (i j : ℕ) (b : Bool) → i ≡ j → Some (copy i b) ≡ Some (copy j b)
named i j b same = ap (λ (s : ℕ). Some (copy s b)) same

after_one : (x : Copy) (xs : List Copy) (n : ℕ) (y : Copy) → slice_get xs n ≡ Some y
    → slice_get (x ∷ xs) (1 + n) ≡ Some y
after_one x xs n y h =
    let P : ℕ → Type 0 = λ k. slice_get (x ∷ xs) k ≡ Some y in
    let same : suc n ≡ 1 + n = omega arith in
    subst P same h

after_two : (x z : Copy) (xs : List Copy) (n : ℕ) (y : Copy) → slice_get xs n ≡ Some y
    → slice_get (x ∷ z ∷ xs) (2 + n) ≡ Some y
after_two x z xs n y h =
    let P : ℕ → Type 0 = λ k. slice_get (x ∷ z ∷ xs) k ≡ Some y in
    let same : suc (suc n) ≡ 2 + n = omega arith in
    subst P same h

pub place_holds : (i : ℕ) (classes : List Class) (s : ℕ) (b : Bool) → s < length classes
    → has_copy (class_of classes s) b ≡ true → slice_get (copies_from i classes) (place classes s b) ≡ Some
    (copy (i + s) b)
place_holds i [] s b within there = absurd (omega arith)
place_holds i (Low ∷ rest) zero false within there = named i (i + 0) false (omega arith)
place_holds i (Low ∷ rest) zero true within there = absurd (true≢false (sym there))
place_holds i (High ∷ rest) zero true within there = named i (i + 0) true (omega arith)
place_holds i (High ∷ rest) zero false within there = absurd (true≢false (sym there))
place_holds i (Rising ∷ rest) zero false within there = named i (i + 0) false (omega arith)
place_holds i (Rising ∷ rest) zero true within there = named i (i + 0) true (omega arith)
place_holds i (Falling ∷ rest) zero false within there = named i (i + 0) false (omega arith)
place_holds i (Falling ∷ rest) zero true within there = named i (i + 0) true (omega arith)
place_holds i (Low ∷ rest) (suc s) b within there =
    after_one (copy i false) (copies_from (i + 1) rest) (place rest s b) (copy (i + suc s) b)
    (place_holds (i + 1) rest s b (omega arith) there ∙ named (i + 1 + s) (i + suc s) b (omega arith))
place_holds i (High ∷ rest) (suc s) b within there =
    after_one (copy i true) (copies_from (i + 1) rest) (place rest s b) (copy (i + suc s) b)
    (place_holds (i + 1) rest s b (omega arith) there ∙ named (i + 1 + s) (i + suc s) b (omega arith))
place_holds i (Rising ∷ rest) (suc s) b within there =
    after_two (copy i false) (copy i true) (copies_from (i + 1) rest) (place rest s b) (copy (i + suc s) b)
    (place_holds (i + 1) rest s b (omega arith) there ∙ named (i + 1 + s) (i + suc s) b (omega arith))
place_holds i (Falling ∷ rest) (suc s) b within there =
    after_two (copy i false) (copy i true) (copies_from (i + 1) rest) (place rest s b) (copy (i + suc s) b)
    (place_holds (i + 1) rest s b (omega arith) there ∙ named (i + 1 + s) (i + suc s) b (omega arith))

length_copies : (i : ℕ) (classes : List Class) → length (copies_from i classes) ≡ copy_count classes
length_copies i [] = refl
length_copies i (Low ∷ rest) = let h = length_copies (i + 1) rest in omega (arith, h)
length_copies i (High ∷ rest) = let h = length_copies (i + 1) rest in omega (arith, h)
length_copies i (Rising ∷ rest) = let h = length_copies (i + 1) rest in omega (arith, h)
length_copies i (Falling ∷ rest) = let h = length_copies (i + 1) rest in omega (arith, h)

-- each of the list is a copy of a state from i on
pub record Found (i : ℕ) (classes : List Class) (x : Copy) : Type 0 where
  pub state : ℕ
  pub at : x.state ≡ i + state
  pub within : state < length classes
  pub there : has_copy (class_of classes state) x.value ≡ true

found_here : (i : ℕ) (c : Class) (rest : List Class) (b : Bool) (x : Copy) → has_copy c b ≡ true → copy i b ≡ x
    → Found i (c ∷ rest) x
found_here i c rest b x there same =
    let P : Copy → Type 0 = λ y. Found i (c ∷ rest) y in
    subst P same (record { state = 0; at = omega arith; within = omega arith; there = there })

found_later : (i : ℕ) (c : Class) (rest : List Class) (x : Copy) → Found (i + 1) rest x → Found i (c ∷ rest) x
found_later i c rest x f =
    record { state = suc f.state; at = omega (arith, f.at); within = omega (arith, f.within); there = f.there }

pub found : (i : ℕ) (classes : List Class) (x : Copy) → Contains (copies_from i classes) x → Found i classes x
found i [] x there = absurd (Contains-nil x there)
found i (Low ∷ rest) x there = elim (Contains-cons_cases (copy i false) (copies_from (i + 1) rest) x there) [
  | inl same ↦ found_here i Low rest false x refl same
  | inr later ↦ found_later i Low rest x (found (i + 1) rest x later)
]
found i (High ∷ rest) x there = elim (Contains-cons_cases (copy i true) (copies_from (i + 1) rest) x there) [
  | inl same ↦ found_here i High rest true x refl same
  | inr later ↦ found_later i High rest x (found (i + 1) rest x later)
]
found i (Rising ∷ rest) x there =
    elim (Contains-cons_cases (copy i false) (copy i true ∷ copies_from (i + 1) rest) x there) [
      | inl same ↦ found_here i Rising rest false x refl same
      | inr more ↦ elim (Contains-cons_cases (copy i true) (copies_from (i + 1) rest) x more) [
        | inl same ↦ found_here i Rising rest true x refl same
        | inr later ↦ found_later i Rising rest x (found (i + 1) rest x later)
      ]
    ]
found i (Falling ∷ rest) x there =
    elim (Contains-cons_cases (copy i false) (copy i true ∷ copies_from (i + 1) rest) x there) [
      | inl same ↦ found_here i Falling rest false x refl same
      | inr more ↦ elim (Contains-cons_cases (copy i true) (copies_from (i + 1) rest) x more) [
        | inl same ↦ found_here i Falling rest true x refl same
        | inr later ↦ found_later i Falling rest x (found (i + 1) rest x later)
      ]
    ]

-- in order
below : (x y : Copy) → x.state < y.state → copy_cmp x y ≡ Less
below x y less = let low : nat_lt x.state y.state ≡ true = lt-ltb x.state y.state less in rw low refl

all_later : (x : Copy) (i : ℕ) (classes : List Class) → x.state < i
    → AllByRecursion (λ y. copy_cmp x y ≡ Less) (copies_from i classes)
all_later x i [] less = tt
all_later x i (Low ∷ rest) less = (below x (copy i false) less, all_later x (i + 1) rest (omega arith))
all_later x i (High ∷ rest) less = (below x (copy i true) less, all_later x (i + 1) rest (omega arith))
all_later x i (Rising ∷ rest) less =
    (below x (copy i false) less, (below x (copy i true) less, all_later x (i + 1) rest (omega arith)))
all_later x i (Falling ∷ rest) less =
    (below x (copy i false) less, (below x (copy i true) less, all_later x (i + 1) rest (omega arith)))

two_values : (i : ℕ) → copy_cmp (copy i false) (copy i true) ≡ Less
two_values i = rw (nat_same i) refl

pub in_order : (i : ℕ) (classes : List Class) → IsStrictlySortedBy copy_cmp (copies_from i classes)
unfolding IsStrictlySortedBy
in_order i [] = tt
in_order i (Low ∷ rest) = (all_later (copy i false) (i + 1) rest (omega arith), in_order (i + 1) rest)
in_order i (High ∷ rest) = (all_later (copy i true) (i + 1) rest (omega arith), in_order (i + 1) rest)
in_order i (Rising ∷ rest) = (
  (two_values i, all_later (copy i false) (i + 1) rest (omega arith)),
  (all_later (copy i true) (i + 1) rest (omega arith), in_order (i + 1) rest),
)
in_order i (Falling ∷ rest) = (
  (two_values i, all_later (copy i false) (i + 1) rest (omega arith)),
  (all_later (copy i true) (i + 1) rest (omega arith), in_order (i + 1) rest),
)

-- ---- the list and the copies
pub at_place : (g : StateGraph) (classes : List Class) (x : Copy) → length classes ≡ g.states → IsCopy g classes x
    → slice_get (copies_of classes) (place classes x.state x.value) ≡ Some x
at_place g classes x count is =
    place_holds 0 classes x.state x.value (omega (arith, is.within, count)) is.there
    ∙ named (0 + x.state) x.state x.value (omega arith)

pub exactly : (g : StateGraph) (classes : List Class) (x : Copy) → length classes ≡ g.states
    → Contains (copies_of classes) x ↔ IsCopy g classes x
exactly g classes x count = (
  λ there. (let f = found 0 classes x there in
      let same : f.state ≡ x.state = omega (arith, f.at) in
      let P : ℕ → Type 0 = λ s. has_copy (class_of classes s) x.value ≡ true in
      record { within = omega (arith, f.within, same, count); there = subst P same f.there }),
  λ is. (let at = at_place g classes x count is in (
    place classes x.state x.value,
    slice_get_within (copies_of classes) (place classes x.state x.value) x at,
    get_or_from_slice_get (copies_of classes) (place classes x.state x.value) x x at,
  )),
)

-- ---- the arcs
arc_from : (k i m j : ℕ) (e f : Event) → i ≡ k → f ≡ e → j ≡ m → arc i f j ≡ arc k e m
arc_from k i m j e f p q r = cc

joins_copied : (g : StateGraph) (classes : List Class) (z : Copy) (k : ℕ) (e : Event) (m : ℕ) → IsGraph g
    → IsLawful g classes → Contains (copied_edges g classes z) (arc k e m) → Joins g classes (copies_of classes) k e m
joins_copied g classes z k e m graph lawful there =
    let b = z.value in
    let a = Contains-from_map (copied_edge classes b) (filter (edge_has_copy classes b) (out_of g z.state)) (arc k e m)
    there in
    let f = Contains-from_filter (edge_has_copy classes b) (out_of g z.state) a.0 a.1 in
    let parts =
    and_parts (has_copy (class_of classes a.0.from) b)
    (not (waits (class_of classes a.0.from) (class_of classes a.0.to) b)) f.1 in
    let free = not-true (waits (class_of classes a.0.from) (class_of classes a.0.to) b) parts.1 in
    let out = Contains-from_filter (λ (d : Edge). d.from == z.state) g.edges a.0 f.0 in
    let step : Step g a.0.from a.0.event a.0.to = out.0 in
    let inside = step_within g a.0.from a.0.event a.0.to graph step in
    let x = copy a.0.from b in
    let y = copy a.0.to b in
    let x_is : IsCopy g classes x = record { within = inside.0; there = parts.0 } in
    let y_is : IsCopy g classes y =
    record {
      within = inside.2;
      there = arrives (class_of classes a.0.from) (class_of classes a.0.to) b
          (lawful.arcs a.0.from a.0.event a.0.to step) parts.0 free;
    } in
    let here : Joins g classes (copies_of classes) (place classes a.0.from b) a.0.event (place classes a.0.to b) =
    record {
      from = x;
      to = y;
      from_is = at_place g classes x lawful.count x_is;
      to_is = at_place g classes y lawful.count y_is;
      moves = inl (record { step = step; keeps = refl; goes = free });
    } in
    let Q : Edge → Type 0 = λ d. Joins g classes (copies_of classes) d.from d.event d.to in
    subst Q a.2 here

class_if_switches : (up : Bool) (c : Class) → switches up c ≡ true → c ≡ switching up
class_if_switches true Low h = absurd (true≢false (sym h))
class_if_switches true Rising h = refl
class_if_switches true High h = absurd (true≢false (sym h))
class_if_switches true Falling h = absurd (true≢false (sym h))
class_if_switches false Low h = absurd (true≢false (sym h))
class_if_switches false Rising h = absurd (true≢false (sym h))
class_if_switches false High h = absurd (true≢false (sym h))
class_if_switches false Falling h = refl

switches_if_class : (up : Bool) (c : Class) → c ≡ switching up → switches up c ≡ true
switches_if_class true c same = rw same refl
switches_if_class false c same = rw same refl

other_value : (b up : Bool) → b ≡ not up → not b ≡ up
other_value b up same = rw same (sym (twice_not up))

-- the arc of the new signal out of a copy
pub only_switch : (g : StateGraph) (classes : List Class) (x : Copy) (a : Edge) → Contains (switch_edges g classes x) a
    → (switches (not x.value) (class_of classes x.state) ≡ true) × (switch_edge classes (length g.signals) x ≡ a)
only_switch g classes x a there = elim (cases_Bool (switches (not x.value) (class_of classes x.state))) [
  | inl yes_x ↦ elim (Contains-cons_cases (switch_edge classes (length g.signals) x) [] a (rw yes_x at there)) [
    | inl same ↦ (yes_x, same)
    | inr more ↦ absurd (Contains-nil a more)
  ]
  | inr no_x ↦ absurd (Contains-nil a (rw no_x at there))
]

joins_switch : (g : StateGraph) (classes : List Class) (x : Copy) (k : ℕ) (e : Event) (m : ℕ) → IsLawful g classes
    → IsCopy g classes x → Contains (switch_edges g classes x) (arc k e m) → Joins g classes (copies_of classes) k e m
joins_switch g classes x k e m lawful is there =
    let n = length g.signals in
    let only = only_switch g classes x (arc k e m) there in
    let class = class_if_switches (not x.value) (class_of classes x.state) only.0 in
    let y = copy x.state (not x.value) in
    let y_is : IsCopy g classes y =
    record { within = is.within; there = rw class (switching_there (not x.value) (not x.value)) } in
    let here : Joins g classes (copies_of classes) (place classes x.state x.value)
    (record { sig = n; up = not x.value }) (place classes x.state (not x.value)) =
    record {
      from = x;
      to = y;
      from_is = at_place g classes x lawful.count is;
      to_is = at_place g classes y lawful.count y_is;
      moves = inr (record { new = refl; stays = refl; from = twice_not x.value; to = refl; class = class });
    } in
    let Q : Edge → Type 0 = λ d. Joins g classes (copies_of classes) d.from d.event d.to in
    subst Q only.1 here

place_of : (g : StateGraph) (classes : List Class) (k : ℕ) (x : Copy) → IsLawful g classes
    → slice_get (copies_of classes) k ≡ Some x → place classes x.state x.value ≡ k
place_of g classes k x lawful at =
    let is =
    (exactly g classes x lawful.count).0 (
      k,
      slice_get_within (copies_of classes) k x at,
      get_or_from_slice_get (copies_of classes) k x x at,
    ) in
    one_place (copies_of classes) (place classes x.state x.value) k x (in_order 0 classes)
    (at_place g classes x lawful.count is) at

copied_from : (g : StateGraph) (classes : List Class) (x : Copy) (e : Event) (y : Copy) → IsCopy g classes x
    → IsCopied g classes x e y → Contains (copied_edges g classes x)
    (arc (place classes x.state x.value) e (place classes y.state y.value))
copied_from g classes x e y is copied =
    let a = arc x.state e y.state in
    let passes : edge_has_copy classes x.value a ≡ true =
    and_from _ _ is.there (not_from_false (waits (class_of classes x.state) (class_of classes y.state) x.value)
    copied.goes) in
    let out : Contains (out_of g x.state) a =
    Contains-filter (λ (d : Edge). d.from == x.state) g.edges a copied.step (eq-eqb x.state x.state refl) in
    let there =
    Contains-map (copied_edge classes x.value) (filter (edge_has_copy classes x.value) (out_of g x.state)) a
    (Contains-filter (edge_has_copy classes x.value) (out_of g x.state) a out passes) in
    let P : Bool → Type 0 =
    λ b. Contains (copied_edges g classes x) (arc (place classes x.state x.value) e (place classes y.state b)) in
    subst P (sym copied.keeps) there

switched_from : (g : StateGraph) (classes : List Class) (x : Copy) (e : Event) (y : Copy)
    → IsSwitch g classes x e y → Contains (switch_edges g classes x)
    (arc (place classes x.state x.value) e (place classes y.state y.value))
switched_from g classes x e y switch =
    let n = length g.signals in
    let up = other_value x.value e.up switch.from in
    let passes : switches (not x.value) (class_of classes x.state) ≡ true =
    switches_if_class (not x.value) (class_of classes x.state) (switch.class ∙ ap switching (sym up)) in
    let there : Contains (switch_edges g classes x) (switch_edge classes n x) =
    rw passes (Contains-here (switch_edge classes n x) []) in
    let make : ℕ → Bool → Event = λ a b. record { sig = a; up = b } in
    let same : switch_edge classes n x ≡ arc (place classes x.state x.value) e (place classes y.state y.value) =
    arc_from (place classes x.state x.value) (place classes x.state x.value) (place classes y.state y.value)
    (place classes x.state (not x.value)) e (make n (not x.value)) refl (ap₂ make (sym switch.new) up)
    (ap (λ (s : ℕ). place classes s (not x.value)) (sym switch.stays)
    ∙ ap (place classes y.state) (up ∙ sym switch.to)) in
    let P : Edge → Type 0 = λ a. Contains (switch_edges g classes x) a in
    subst P same there

pub new_edge_joins : (g : StateGraph) (classes : List Class) (k : ℕ) (e : Event) (m : ℕ) → IsGraph g
    → IsLawful g classes → Contains (new_edges g classes) (arc k e m) → Joins g classes (copies_of classes) k e m
new_edge_joins g classes k e m graph lawful there =
    let (x, is_there, has) =
    Contains-from_flat_map (edges_from g classes) (copies_of classes) (arc k e m) there in
    elim (Contains-append_cases (copied_edges g classes x) (switch_edges g classes x) (arc k e m) has) [
      | inl copied ↦ joins_copied g classes x k e m graph lawful copied
      | inr switch ↦ joins_switch g classes x k e m lawful ((exactly g classes x lawful.count).0 is_there) switch
    ]

pub joined_is_new : (g : StateGraph) (classes : List Class) (k : ℕ) (e : Event) (m : ℕ) → IsLawful g classes
    → Joins g classes (copies_of classes) k e m → Contains (new_edges g classes) (arc k e m)
joined_is_new g classes k e m lawful j =
    let x = j.from in
    let is_there : Contains (copies_of classes) x = (
      k,
      slice_get_within (copies_of classes) k x j.from_is,
      get_or_from_slice_get (copies_of classes) k x x j.from_is,
    ) in
    let x_is = (exactly g classes x lawful.count).0 is_there in
    let P : ℕ → ℕ → Type 0 = λ i l. Contains (edges_from g classes x) (arc i e l) in
    let here : P (place classes x.state x.value) (place classes j.to.state j.to.value) = elim j.moves [
      | inl copied ↦ Contains-append_left (copied_edges g classes x) (switch_edges g classes x) _
          (copied_from g classes x e j.to x_is copied)
      | inr switch ↦ Contains-append_right (copied_edges g classes x) (switch_edges g classes x) _
          (switched_from g classes x e j.to switch)
    ] in
    Contains-flat_map (edges_from g classes) (copies_of classes) x (arc k e m) is_there
    (subst₂ P (place_of g classes k x lawful j.from_is) (place_of g classes m j.to lawful j.to_is) here)

-- a graph with these parts and just these arcs is the inserted graph
pub is_insertion : (g : StateGraph) (classes : List Class) (new : Signal) (h : StateGraph) → IsGraph g
    → IsLawful g classes → new.kind ≡ Inserted → h.signals ≡ g.signals ++ new ∷ [] → h.states ≡ copy_count classes
    → h.start ≡ new_start g classes
    → ((a : Edge) → Contains h.edges a ↔ Contains (new_edges g classes) a)
    → IsInsertedGraph g classes new (copies_of classes) h
is_insertion g classes new h graph lawful kind signals states start edges = record {
  signals = signals;
  kind = kind;
  in_order = in_order 0 classes;
  exactly = λ x. exactly g classes x lawful.count;
  count = states ∙ sym (length_copies 0 classes);
  starts =
      (let x = copy g.start (entry (class_of classes g.start)) in
      let P : ℕ → Type 0 = λ k. slice_get (copies_of classes) k ≡ Some x in
      subst P (sym start) (at_place g classes x lawful.count
      (record { within = graph.starts; there = entry_there (class_of classes g.start) })));
  arcs =
      λ k e m. (
        (λ step. new_edge_joins g classes k e m graph lawful ((edges (arc k e m)).0 step)),
        (λ j. (edges (arc k e m)).1 (joined_is_new g classes k e m lawful j)),
      );
}

-- so there is one for each lawful partition
pub made_is_insertion : (g : StateGraph) (classes : List Class) (new : Signal) → IsGraph g → IsLawful g classes
    → new.kind ≡ Inserted → IsInsertedGraph g classes new (copies_of classes) (graph_of_copies g classes new)
made_is_insertion g classes new graph lawful kind =
    is_insertion g classes new (graph_of_copies g classes new) graph lawful kind refl refl refl
    (λ a. ((λ h. h), (λ h. h)))
