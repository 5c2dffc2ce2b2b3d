-- Values of instances: they don't fall as the output rises, and an inserted signal has the value of its instance.
use Rattle.std.proofs.Common.{◌≡◌, ℕ, zero, suc, ◌<◌, ◌&&◌, ◌||◌, ◌++◌, Bool, true, false, not, List, [], ◌∷◌, length}
use Rattle.std.proofs.Common.{map, All, IsTrue, get_or, slice_get, Some, refl, sym, ap, ◌∙◌, arith, inl, inr}
use Rattle.std.proofs.lemmas.Bool.{true≢false, cases_eq, and_parts, or_right, or_cases, false_from_ne_true}
use mathlib.Core.Bool.{beq}
use Rattle.std.specs.List.{list_any, list_all}
use Rattle.si_base.specs.declared.ids.Event.{Event}
use Rattle.si_base.specs.declared.ids.Literal.{Literal}
use Rattle.si_base.specs.declared.graph.Signal.{Signal}
use Rattle.si_base.specs.Bits.{bit}
use Rattle.si_base.specs.Graph.{StateGraph, IsGraph, rise, fall, enables}
use Rattle.si_base.specs.Codes.{CodedGraph, IsCoded, code, next_value}
use Rattle.si_base.specs.Netlist.{literal_value, sum_value}
use Rattle.si_base.proofs.GraphSteps.{enables-step, step_from_enables}
use Rattle.si_insert.specs.declared.partition.Class.{Class}
use Rattle.si_insert.specs.declared.partition.Class.TheVariants.{Low, Rising, High, Falling}
use Rattle.si_insert.specs.Partition.{class_of, IsLawful}
use Rattle.si_insert.specs.Insertion.{Copy, IsCopy, IsSwitch, IsInsertedGraph, has_copy, copy_code, switching, coded}
use Rattle.si_insert.proofs.InsertionCopies.{copy, copy_at, is_copy, new_switches}
use Rattle.si_insert.proofs.InsertionProper.{leads, goes_on, code_at, old_bit, new_bit}
use Rattle.si_cell.specs.Library.{Library, Instance, IsCell, IsLibrary, IsInstance, Cell, cell_at, no_cell, code_of}
use Rattle.si_cell.specs.Library.{pin_values, instance_value}
use Rattle.si_cell.proofs.ExpandedLemmas.{bit_of}
use Rattle.si_divisor.specs.Targets.{forced_by}
use Rattle.si_divisor.specs.PartitionFor.{IsPartitionFor}
use Rattle.si_divisor.specs.Laws.{to_one, IsUnate, InstancesAreUnate, NewSignalFits}
use Rattle.si_divisor.proofs.PartitionLemmas.{lawful, fits}

-- ---- lists of tests
uncons : {A : Type 0} (P : A → Type 0) (x : A) (xs : List A) → All P (x ∷ xs) → P x × All P xs
uncons P x xs all = (all 0 x (omega arith), λ k d within. all (suc k) d (omega (arith, within)))

all_on : {A : Type 0} (p q : A → Bool) (xs : List A) → All (λ x. p x ≡ true → q x ≡ true) xs → list_all p xs ≡ true
    → list_all q xs ≡ true
all_on p q [] on h = refl
all_on p q (x ∷ xs) on h =
    let parts = and_parts (p x) (list_all p xs) h in
    let cut = uncons (λ y. p y ≡ true → q y ≡ true) x xs on in
    let here : q x ≡ true = cut.0 parts.0 in
    rw here (all_on p q xs cut.1 parts.1)

any_on : {A : Type 0} (p q : A → Bool) (xs : List A) → All (λ x. p x ≡ true → q x ≡ true) xs → list_any p xs ≡ true
    → list_any q xs ≡ true
any_on p q [] on h = h
any_on p q (x ∷ xs) on h =
    let cut = uncons (λ y. p y ≡ true → q y ≡ true) x xs on in
    elim (or_cases (p x) (list_any p xs) h) [
      | inl here ↦ (let k : q x ≡ true = cut.0 here in rw k refl)
      | inr later ↦ or_right (q x) (list_any q xs) (any_on p q xs cut.1 later)
    ]

all_same : {A : Type 0} (P Q : A → Type 0) (xs : List A) → ((x : A) → P x → Q x) → All P xs → All Q xs
all_same P Q xs on all k d within = on _ (all k d within)

-- ---- the output is the last of the values
at_output : (xs : List Bool) (q : Bool) → get_or (xs ++ q ∷ []) (length xs) false ≡ q
at_output [] q = refl
at_output (x ∷ xs) q = at_output xs q

elsewhere : (xs : List Bool) (a b : Bool) (i : ℕ) → (i ≡ length xs → ⊥)
    → get_or (xs ++ a ∷ []) i false ≡ get_or (xs ++ b ∷ []) i false
elsewhere [] a b zero other = absurd (other refl)
elsewhere [] a b (suc i) other = refl
elsewhere (x ∷ xs) a b zero other = refl
elsewhere (x ∷ xs) a b (suc i) other = elsewhere xs a b i (λ same. other (ap suc same))

length_of_map : (f : Literal → Bool) (xs : List Literal) → length (map f xs) ≡ length xs
length_of_map f [] = refl
length_of_map f (x ∷ xs) = let k = length_of_map f xs in omega arith

-- a literal of the cell's sum that is true stays so as the output rises
literal_rises : (literals : List Literal) (k : ℕ) (l : Literal) → (l.sig ≡ length literals → IsTrue l.plain)
    → literal_value (pin_values literals k false) l ≡ true → literal_value (pin_values literals k true) l ≡ true
literal_rises literals k l plain h = elim (cases_eq l.sig (length values)) [
  | inl same ↦ (let p : l.plain ≡ true = plain (same ∙ length_of_map (literal_value k) literals) in
      rw (at_last same, p) refl)
  | inr other ↦ ap (λ (b : Bool). beq b l.plain) (bit_at true ∙ sym (elsewhere values false true l.sig other)
      ∙ sym (bit_at false)) ∙ h
]
  where
    values : List Bool
    values = map (literal_value k) literals

    bit_at : (q : Bool) → bit (pin_values literals k q) l.sig ≡ get_or (values ++ q ∷ []) l.sig false
    bit_at q = bit_of (values ++ q ∷ []) l.sig

    at_last : l.sig ≡ length values → bit (pin_values literals k true) l.sig ≡ true
    at_last same =
        bit_at true ∙ ap (λ i. get_or (values ++ true ∷ []) i false) same ∙ at_output values true

cube_rises : (literals : List Literal) (k : ℕ) (cube : List Literal)
    → All (λ (l : Literal). l.sig ≡ length literals → IsTrue l.plain) cube
    → list_all (literal_value (pin_values literals k false)) cube ≡ true
    → list_all (literal_value (pin_values literals k true)) cube ≡ true
cube_rises literals k cube plain =
    all_on (literal_value (pin_values literals k false)) (literal_value (pin_values literals k true)) cube
    (all_same (λ (l : Literal). l.sig ≡ length literals → IsTrue l.plain)
    (λ l. literal_value (pin_values literals k false) l ≡ true → literal_value (pin_values literals k true) l ≡ true)
    cube
    (λ l p. literal_rises literals k l p) plain)

cell_of : (library : Library) (i : Instance) → IsLibrary library → IsInstance library i
    → IsCell (cell_at library i.cell)
cell_of library i is instance = is.cells.each i.cell no_cell instance.cell

pub instances_are_unate : InstancesAreUnate
instances_are_unate library i is instance k h =
    any_on (list_all (value_at false)) (list_all (value_at true)) cell.sum
    (all_same IsPlain (λ cube. list_all (value_at false) cube ≡ true → list_all (value_at true) cube ≡ true) cell.sum
    (λ cube plain. cube_rises i.literals k cube (pins_are cube plain)) (cell_of library i is instance).own_plain) h
  where
    cell : Cell
    cell = cell_at library i.cell

    value_at : Bool → Literal → Bool
    value_at q = literal_value (pin_values i.literals k q)

    IsPlain : List Literal → Type 0
    IsPlain cube = All (λ (l : Literal). l.sig ≡ length cell.pins → IsTrue l.plain) cube

    pins_are : (cube : List Literal) → IsPlain cube
        → All (λ (l : Literal). l.sig ≡ length i.literals → IsTrue l.plain) cube
    pins_are cube plain j d within same = plain j d within (same ∙ instance.pins)

-- ---- the new signal in the inserted graph
-- where an event of the new signal is enabled
switches_at : (g : StateGraph) (classes : List Class) (new : Signal) (copies : List Copy) (h : StateGraph) (k : ℕ)
    (x : Copy) (up : Bool) → IsGraph g → IsInsertedGraph g classes new copies h → slice_get copies k ≡ Some x
    → IsTrue (enables h k (record { sig = length g.signals; up = up })) → (class_of classes x.state ≡ switching up)
    × (x.value ≡ not up)
switches_at g classes new copies h k x up graph is at enabled =
    let e : Event = record { sig = length g.signals; up = up } in
    let step = step_from_enables h k e enabled in
    let to = leads g classes new copies h k e step.0 x is step.1 at in
    let switch = new_switches g classes x e to.0 graph refl to.2 in
    (switch.class, switch.from)

enabled_at : (g : StateGraph) (classes : List Class) (new : Signal) (copies : List Copy) (h : StateGraph) (k : ℕ)
    (x : Copy) (up : Bool) → IsGraph g → IsLawful g classes → IsInsertedGraph g classes new copies h
    → slice_get copies k ≡ Some x
    → class_of classes x.state ≡ switching up → x.value ≡ not up
    → IsTrue (enables h k (record { sig = length g.signals; up = up }))
enabled_at g classes new copies h k x up graph lawful is at class value =
    let e : Event = record { sig = length g.signals; up = up } in
    let switch : IsSwitch g classes x e (copy x.state up) = record {
      new = refl;
      stays = refl;
      from = value;
      to =
          refl;
      class = class;
    } in
    let on = goes_on g classes new copies h k e x (copy x.state up) graph lawful is at (inr switch) in
    enables-step h k e on.0 on.2

low_value : (r b f : Bool) → r ≡ false → b ≡ false → (r || (b && not f)) ≡ false
low_value r b f p q = rw (p, q) refl

high_value : (r b f : Bool) → b ≡ true → f ≡ false → (r || (b && not f)) ≡ true
high_value true b f p q = refl
high_value false b f p q = rw (p, q) refl

rising_value : (r b f : Bool) → r ≡ true → (r || (b && not f)) ≡ true
rising_value r b f p = rw p refl

falling_value : (r b f : Bool) → r ≡ false → f ≡ true → (r || (b && not f)) ≡ false
falling_value r true f p q = rw (p, q) refl
falling_value r false f p q = rw p refl

-- the next value of the new signal is the target of the state
pub new_value : (c : CodedGraph) (classes : List Class) (new : Signal) (copies : List Copy) (h : StateGraph) (k : ℕ)
    (x : Copy) → IsCoded c → IsLawful c.graph classes → IsInsertedGraph c.graph classes new copies h
    → slice_get copies k ≡ Some x
    → next_value (coded c copies h) k (length c.graph.signals) ≡ to_one (class_of classes x.state)
new_value c classes new copies h k x is lawful inserted at =
    cases (class_of classes x.state) x.value refl refl there.there
  where
    g : StateGraph
    g = c.graph

    n : ℕ
    n = length c.graph.signals

    there : IsCopy c.graph classes x
    there = is_copy c.graph classes new copies h k x inserted at

    b : bit (code (coded c copies h) k) n ≡ x.value
    b = ap (λ i. bit i n) (code_at c copies h k x at) ∙ new_bit c x is there.within

    r : Bool
    r = enables h k (rise n)

    f : Bool
    f = enables h k (fall n)

    no_rise : (d : Class) → class_of classes x.state ≡ d → (d ≡ Rising → ⊥) → r ≡ false
    no_rise d p other =
        false_from_ne_true r
        (λ e. other (sym p ∙ (switches_at g classes new copies h k x true is.graph_is inserted at e).0))

    no_fall : (d : Class) → class_of classes x.state ≡ d → (d ≡ Falling → ⊥) → f ≡ false
    no_fall d p other =
        false_from_ne_true f
        (λ e. other (sym p ∙ (switches_at g classes new copies h k x false is.graph_is inserted at e).0))

    cases : (d : Class) (v : Bool) → class_of classes x.state ≡ d → x.value ≡ v → has_copy d v ≡ true
        → next_value (coded c copies h) k n ≡ to_one d
    cases Low true p q i = absurd (true≢false (sym i))
    cases Low false p q i =
        low_value r (bit (code (coded c copies h) k) n) f (no_rise Low p (λ (s : Low ≡ Rising). cc)) (b ∙ q)
    cases Rising true p q i =
        high_value r (bit (code (coded c copies h) k) n) f (b ∙ q) (no_fall Rising p (λ (s : Rising ≡ Falling). cc))
    cases Rising false p q i =
        rising_value r (bit (code (coded c copies h) k) n) f
        (enabled_at g classes new copies h k x true is.graph_is lawful inserted at p q)
    cases High true p q i =
        high_value r (bit (code (coded c copies h) k) n) f (b ∙ q) (no_fall High p (λ (s : High ≡ Falling). cc))
    cases High false p q i = absurd (true≢false (sym i))
    cases Falling true p q i =
        falling_value r (bit (code (coded c copies h) k) n) f (no_rise Falling p (λ (s : Falling ≡ Rising). cc))
        (enabled_at g classes new copies h k x false is.graph_is lawful inserted at p q)
    cases Falling false p q i =
        low_value r (bit (code (coded c copies h) k) n) f (no_rise Falling p (λ (s : Falling ≡ Rising). cc)) (b ∙ q)

pub new_fits : (c : CodedGraph) (value : ℕ → Bool → Bool) (classes : List Class) (new : Signal) (copies : List Copy)
    (h : StateGraph) (k : ℕ) (x : Copy) → IsCoded c → IsUnate value
    → IsPartitionFor c.graph (forced_by value c) classes
    → IsInsertedGraph c.graph classes new copies h → slice_get copies k ≡ Some x
    → value (code c x.state) x.value ≡ next_value (coded c copies h) k (length c.graph.signals)
new_fits c value classes new copies h k x is unate p inserted at =
    let there = is_copy c.graph classes new copies h k x inserted at in
    fits c value classes unate p x.state x.value there.within there.there
    ∙ sym (new_value c classes new copies h k x is (lawful c.graph (forced_by value c) classes is.graph_is p) inserted
    at)

-- an instance on given signals doesn't see the new one
values_agree : (c : CodedGraph) (x : Copy) (literals : List Literal)
    → All (λ (l : Literal). l.sig < length c.graph.signals) literals
    → map (literal_value (copy_code c x)) literals ≡ map (literal_value (code c x.state)) literals
values_agree c x [] below = refl
values_agree c x (l ∷ ls) below =
    let cut = uncons (λ (m : Literal). m.sig < length c.graph.signals) l ls below in
    let small : l.sig < length c.graph.signals = cut.0 in
    let head : bit (copy_code c x) l.sig ≡ bit (code c x.state) l.sig =
    old_bit c x l.sig (λ same. omega (arith, small, same)) in
    let first : literal_value (copy_code c x) l ≡ literal_value (code c x.state) l = ap (λ b. beq b l.plain) head in
    let rest = values_agree c x ls cut.1 in cc

pub new_signal_fits : NewSignalFits
new_signal_fits c library i classes new copies h is known over p inserted k within =
    ap (λ v. value v (bit (code (coded c copies h) k) n)) code_is
    ∙ ap (value (copy_code c x)) value_is
    ∙ ap (λ values. sum_value (code_of (values ++ x.value ∷ [])) (cell_at library i.cell).sum)
    (values_agree c x i.literals over.signals)
    ∙ new_fits c value classes new copies h k x is (instances_are_unate library i known over.instance) p inserted at.1
  where
    n : ℕ
    n = length c.graph.signals

    value : ℕ → Bool → Bool
    value = instance_value library i

    at : (y : Copy) × (slice_get copies k ≡ Some y) × IsCopy c.graph classes y
    at = copy_at c.graph classes new copies h k inserted within

    x : Copy
    x = at.0

    code_is : code (coded c copies h) k ≡ copy_code c x
    code_is = code_at c copies h k x at.1

    value_is : bit (code (coded c copies h) k) n ≡ x.value
    value_is = ap (λ v. bit v n) code_is ∙ new_bit c x is at.2.within
