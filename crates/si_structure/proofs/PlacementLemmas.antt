-- Instances, those for each gate at its place.
use Rattle.std.proofs.Common.{◌≡◌, ℕ, zero, suc, ◌+◌, true, false, List, [], ◌∷◌, ◌++◌, length, map, filter, flat_map}
use Rattle.std.proofs.Common.{slice_get, Some, bytes_eq, refl, ap, subst, ◌∙◌, arith, inl, inr}
use Rattle.std.specs.List.{AllByRecursion, zip}
use Rattle.std.proofs.lemmas.Bool.{cases_Bool}
use Rattle.si_base.specs.declared.ids.Literal.{Literal}
use Rattle.si_base.specs.declared.graph.Signal.{Signal}
use Rattle.si_base.specs.Graph.{is_driven, IsNonInput}
use Rattle.si_base.specs.Netlist.{Sum, Gate, Cell as CellGate, gate_place}
use Rattle.si_verilog.specs.Grammar.{Module}
use Rattle.si_verilog.specs.Meaning.{IsOfNetlist}
use Rattle.si_verilog.proofs.NetlistLemmas.{all_append}
use Rattle.si_structure.specs.Parts.{Part}
use Rattle.si_structure.specs.Meaning.{AreOfCells, alone, part_named}
use Rattle.si_structure.specs.StructureText.{PortedCell, cell_instances, cell_named, cell_netlist, complemented}
use Rattle.si_structure.specs.StructureText.{gate_instances, instances_if_any, inverted_pins, pins_if_any}

-- ---- lists of one item each, one after another

pub one_at : {A B : Type 0} (f : A → List B) (ps : List A) → AllByRecursion (λ p. (b : B) × (f p ≡ b ∷ [])) ps
    → (k : ℕ) (p : A) (b : B) → slice_get ps k ≡ Some p → f p ≡ b ∷ [] → slice_get (flat_map f ps) k ≡ Some b
one_at f [] all k p b there is = cc
one_at f (q ∷ qs) all zero p b there is =
    let same : q ≡ p = cc in
    let first : f q ≡ b ∷ [] = ap f same ∙ is in
    rw first refl
one_at f (q ∷ qs) all (suc k) p b there is =
    let first = all.0.1 in
    rw first (one_at f qs all.1 k p b there is)

pub ones_counted : {A B : Type 0} (f : A → List B) (ps : List A)
    → AllByRecursion (λ p. (b : B) × (f p ≡ b ∷ [])) ps → length (flat_map f ps) ≡ length ps
ones_counted f [] all = refl
ones_counted f (p ∷ ps) all =
    let first = all.0.1 in
    rw first (ap suc (ones_counted f ps all.1))

pub all_flat : {A B : Type 0} (P : B → Type 0) (f : A → List B) (ps : List A)
    → AllByRecursion (λ p. AllByRecursion P (f p)) ps → AllByRecursion P (flat_map f ps)
all_flat P f [] all = tt
all_flat P f (p ∷ ps) all = all_append P (f p) (flat_map f ps) all.0 (all_flat P f ps all.1)

-- ---- pairs

pub zip_all : {A B : Type 0} (P : A → Type 0) (Q : B → Type 0) (xs : List A) (ys : List B) → AllByRecursion P xs
    → AllByRecursion Q ys → AllByRecursion (λ p. P p.0 × Q p.1) (zip xs ys)
zip_all P Q [] ys all also = tt
zip_all P Q (a ∷ xs) [] all also = tt
zip_all P Q (a ∷ xs) (b ∷ ys) all also = ((all.0, also.0), zip_all P Q xs ys all.1 also.1)

pub weaker : {A : Type 0} (P Q : A → Type 0) → ((x : A) → P x → Q x) → (xs : List A) → AllByRecursion P xs
    → AllByRecursion Q xs
weaker P Q next [] all = tt
weaker P Q next (x ∷ xs) all = (next x all.0, weaker P Q next xs all.1)

pub zip_count : {A B : Type 0} (xs : List A) (ys : List B) → length ys ≡ length xs → length (zip xs ys) ≡ length xs
zip_count [] ys same = refl
zip_count (a ∷ xs) [] same = absurd (omega arith)
zip_count (a ∷ xs) (b ∷ ys) same =
    let rest : length ys ≡ length xs = omega arith in
    ap suc (zip_count xs ys rest)

pub zip_at : {A B : Type 0} (xs : List A) (ys : List B) (k : ℕ) (a : A) (b : B) → slice_get xs k ≡ Some a
    → slice_get ys k ≡ Some b → slice_get (zip xs ys) k ≡ Some (a, b)
zip_at [] ys k a b here there = cc
zip_at (u ∷ xs) [] k a b here there = cc
zip_at (u ∷ xs) (w ∷ ys) zero a b here there =
    let first : u ≡ a = cc in
    let second : w ≡ b = cc in
    λ i. Some (first i, second i)
zip_at (u ∷ xs) (w ∷ ys) (suc k) a b here there = zip_at xs ys k a b here there

-- ---- signals and gates

abbrev pub driven : List Signal → List Signal
driven xs = filter (λ (x : Signal). is_driven x.kind) xs

pub driven_at : (xs : List Signal) (z : ℕ) (x : Signal) → slice_get xs z ≡ Some x → is_driven x.kind ≡ true
    → slice_get (driven xs) (gate_place xs z) ≡ Some x
driven_at [] z x there is = cc
driven_at (y ∷ ys) zero x there is =
    let same : y ≡ x = cc in
    let first : is_driven y.kind ≡ true = ap (λ (s : Signal). is_driven s.kind) same ∙ is in
    rw first there
driven_at (y ∷ ys) (suc z) x there is = elim (cases_Bool (is_driven y.kind)) [
  | inl first ↦ (
      let place : 1 + gate_place ys z ≡ suc (gate_place ys z) = omega arith in
      rw (first, place) (driven_at ys z x there is))
  | inr input ↦ (
      let place : 0 + gate_place ys z ≡ gate_place ys z = omega arith in
      rw (input, place) (driven_at ys z x there is))
]

driven_place : (x : Signal) (xs : List Signal) (z : ℕ) → is_driven x.kind ≡ true
    → gate_place (x ∷ xs) (suc z) ≡ suc (gate_place xs z)
driven_place x xs z is = rw is (omega arith)

input_place : (x : Signal) (xs : List Signal) (z : ℕ) → is_driven x.kind ≡ false
    → gate_place (x ∷ xs) (suc z) ≡ gate_place xs z
input_place x xs z is = rw is (omega arith)

driven_count : (x : Signal) (xs : List Signal) (gates : ℕ) → is_driven x.kind ≡ true
    → gates ≡ length (driven (x ∷ xs)) → gates ≡ suc (length (driven xs))
driven_count x xs gates is count = rw is at count

input_count : (x : Signal) (xs : List Signal) (gates : ℕ) → is_driven x.kind ≡ false
    → gates ≡ length (driven (x ∷ xs)) → gates ≡ length (driven xs)
input_count x xs gates is count = rw is at count

-- what holds of the gate of each non-input holds of each gate
pub all_gates : (P : Gate → Type 0) (xs : List Signal) (gates : List Gate) → length gates ≡ length (driven xs)
    → ((z : ℕ) (g : Gate) → IsNonInput xs z → slice_get gates (gate_place xs z) ≡ Some g → P g)
    → AllByRecursion P gates
all_gates P [] [] count each = tt
all_gates P [] (g ∷ gs) count each = absurd (omega arith)
all_gates P (x ∷ xs) [] count each = tt
all_gates P (x ∷ xs) (g ∷ gs) count each = elim (cases_Bool (is_driven x.kind)) [
  | inl is ↦ (
      let some = driven_count x xs (length (g ∷ gs)) is count in
      let left : length gs ≡ length (driven xs) = omega arith in (
        each 0 g (x, refl, is) refl,
        all_gates P xs gs left
            (λ z h non_input there. each (suc z) h non_input (ap (slice_get (g ∷ gs)) (driven_place x xs z is)
            ∙ there)),
      ))
  | inr input ↦ all_gates P xs (g ∷ gs) (input_count x xs (length (g ∷ gs)) input count)
      (λ z h non_input there. each (suc z) h non_input (ap (slice_get (g ∷ gs)) (input_place x xs z input) ∙ there))
]

-- ---- modules by their names

-- a module of the cell of the name, and it is the first of the name in the text
pub record IsThere (parts : List Part) (name : List ℕ) (cell : PortedCell) : Type 0 where
  pub of : Module
  pub found : part_named parts name ≡ Some (alone of)
  pub is : IsOfNetlist (cell_netlist cell) of

pub module_found : (cells : List PortedCell) (modules : List Module) (parts : List Part) → AreOfCells cells modules
    → (name : List ℕ) (cell : PortedCell) → cell_named cells name ≡ Some cell
    → IsThere (map alone modules ++ parts) name cell
module_found [] [] parts are name cell found = cc
module_found [] (m ∷ ms) parts are name cell found = absurd are
module_found (c ∷ cs) [] parts are name cell found = absurd are
module_found (c ∷ cs) (m ∷ ms) parts are name cell found = elim (cases_Bool (bytes_eq c.cell.name name)) [
  | inl is ↦ (
      let here = rw is at found in
      let same : c ≡ cell = cc in
      let named : bytes_eq m.name name ≡ true = ap (λ (b : List ℕ). bytes_eq b name) are.0.named ∙ is in
      record {
        of = m;
        found = rw named refl;
        is = subst (λ (d : PortedCell). IsOfNetlist (cell_netlist d) m) same are.0;
      })
  | inr other ↦ (
      let later = module_found cs ms parts are.1 name cell (rw other at found) in
      let named : bytes_eq m.name name ≡ false = ap (λ (b : List ℕ). bytes_eq b name) are.0.named ∙ other in
      record {
        of = later.of;
        found = rw named later.found;
        is = later.is;
      })
]

-- ---- the instances of a gate

pub instances_one : (cells : List PortedCell) (all : List Signal) (forced name : List ℕ) (g : Gate) (c : PortedCell)
    (literals : List Literal) (sum : Sum) → g ≡ CellGate c.cell.name literals sum
    → cell_named cells c.cell.name ≡ Some c
    → gate_instances cells all forced name g ≡ cell_instances cells all forced name c literals ∷ []
instances_one cells all forced name g c literals sum same found =
    ap (gate_instances cells all forced name) same
    ∙ ap (λ o. instances_if_any cells all forced name o literals) found

pub pins_one : (cells : List PortedCell) (g : Gate) (c : PortedCell) (literals : List Literal) (sum : Sum)
    → g ≡ CellGate c.cell.name literals sum → cell_named cells c.cell.name ≡ Some c
    → inverted_pins cells g ≡ map (λ p. p.0) (complemented c.ports.pins literals)
pins_one cells g c literals sum same found =
    ap (inverted_pins cells) same ∙ ap (λ o. pins_if_any o literals) found
