-- A cell as a netlist of one gate can be read, and its module drives the output with the cell's sum.
use Rattle.std.proofs.Common.{◌≡◌, ◌≢◌, ℕ, zero, suc, ◌+◌, ◌<◌, ◌≤◌, Bool, true, false, List, [], ◌∷◌, ◌++◌, length}
use Rattle.std.proofs.Common.{map, filter, slice_get, Some, All, AllPairs, bytes_eq, if◌then◌else◌, refl, sym, ap, ◌∙◌}
use Rattle.std.proofs.Common.{subst, arith, length-append, codes}
use Rattle.std.specs.List.{AllByRecursion}
use Rattle.std.proofs.lemmas.Bool.{false_from_ne_true}
use Rattle.std.proofs.lemmas.List.{append-nil}
use Rattle.std.proofs.lemmas.List.Elements.{recursion_from_All}
use Rattle.std.proofs.lemmas.Slice.Eq.{bytes_eq-Decides}
use Rattle.si_base.specs.declared.ids.Literal.{Literal}
use Rattle.si_base.specs.declared.graph.Signal.{Signal}
use Rattle.si_base.specs.Bits.{bit}
use Rattle.si_base.specs.Graph.{is_driven, IsNonInput}
use Rattle.si_base.specs.Netlist.{Sum, SumGate, gate_place, sum_value, value_if_there}
use Rattle.si_base.specs.NetlistText.{name_of}
use Rattle.si_base.specs.WellFormed.{IsCube}
use Rattle.si_cell.specs.Library.{IsCell}
use Rattle.si_genlib.specs.Ports.{Ports, IsPortName, ArePortsOf}
use Rattle.si_verilog.specs.Declared.{port_name}
use Rattle.si_verilog.specs.Grammar.{Tree, Assign, Module, tree_value}
use Rattle.si_verilog.specs.Meaning.{IsOfNetlist, named_from, named_value}
use Rattle.si_verilog.specs.ModuleText.{ports_of}
use Rattle.si_verilog.proofs.NameLemmas.{IsWritable, signal_is_writable}
use Rattle.si_verilog.proofs.MeaningLemmas.{AreNamed, AreThere}
use Rattle.si_verilog.proofs.NetlistLemmas.{Writable, all_append}
use Rattle.si_structure.specs.StructureText.{PortedCell, cell_inputs, cell_netlist, cell_signals, feedback, input}
use Rattle.si_structure.specs.StructureText.{output, reads_own}
use Rattle.si_structure.proofs.ModuleLemmas.{IsReadable}
use Rattle.si_structure.proofs.NameLemmas.{feedback_writable, no_dollar, port_bytes, port_writable}

-- ---- signals that are inputs, and one output behind them

abbrev pub with_output : List (List ℕ) → List ℕ → List Signal
with_output names last = map input names ++ output last ∷ []

pub names_back : (names : List (List ℕ)) (last : List ℕ)
    → map (λ (x : Signal). x.name) (with_output names last) ≡ names ++ last ∷ []
names_back [] last = refl
names_back (n ∷ names) last = ap (λ (ns : List (List ℕ)). n ∷ ns) (names_back names last)

pub driven_is_last : (names : List (List ℕ)) (last : List ℕ)
    → filter (λ (x : Signal). is_driven x.kind) (with_output names last) ≡ output last ∷ []
driven_is_last [] last = refl
driven_is_last (n ∷ names) last = driven_is_last names last

last_drives : (names : List (List ℕ)) (last : List ℕ) → IsNonInput (with_output names last) (length names)
last_drives [] last = (output last, refl, refl)
last_drives (n ∷ names) last = last_drives names last

last_place : (names : List (List ℕ)) (last : List ℕ) → gate_place (with_output names last) (length names) ≡ 0
last_place [] last = refl
last_place (n ∷ names) last = let later = last_place names last in omega arith

last_name : (names : List (List ℕ)) (last : List ℕ) → name_of (with_output names last) (length names) ≡ last
last_name [] last = refl
last_name (n ∷ names) last = last_name names last

signal_count : (names : List (List ℕ)) (last : List ℕ) → length (with_output names last) ≡ suc (length names)
signal_count [] last = refl
signal_count (n ∷ names) last = ap suc (signal_count names last)

port_names : (names : List (List ℕ)) (last : List ℕ)
    → map port_name (ports_of (with_output names last)) ≡ names ++ last ∷ []
port_names [] last = refl
port_names (n ∷ names) last = ap (λ (ns : List (List ℕ)). n ∷ ns) (port_names names last)

writable_ports : (names : List (List ℕ)) (last : List ℕ) → AllByRecursion IsWritable names → IsWritable last
    → AllByRecursion Writable (with_output names last)
writable_ports [] last all writable = (writable, tt)
writable_ports (n ∷ names) last all writable = (all.0, writable_ports names last all.1 writable)

-- ---- names that are told apart

abbrev pub Apart : List (List ℕ) → Type 0
Apart [] = Unit {0}
Apart (n ∷ ns) = AllByRecursion (λ m. n ≢ m) ns × Apart ns

pub apart_append : (xs ys : List (List ℕ)) → Apart xs → Apart ys
    → AllByRecursion (λ x. AllByRecursion (λ y. x ≢ y) ys) xs → Apart (xs ++ ys)
apart_append [] ys one other cross = other
apart_append (x ∷ xs) ys one other cross =
    (all_append (λ y. x ≢ y) xs ys one.0 cross.0, apart_append xs ys one.1 other cross.1)

pub apart_from : (xs : List (List ℕ)) → AllPairs (λ x y. x ≢ y) xs → Apart xs
apart_from [] pairs = tt
apart_from (x ∷ xs) pairs = (
  recursion_from_All (λ (y : List ℕ). x ≢ y) xs (λ k d within. pairs 0 (suc k) d (omega arith) (omega arith)),
  apart_from xs (λ i j d before within. pairs (suc i) (suc j) d (omega arith) (omega arith)),
)

other_name : (name : List ℕ) (xs : List Signal) → AllByRecursion (λ m. name ≢ m) (map (λ (x : Signal). x.name) xs)
    → (z : ℕ) → z < length xs → name ≢ name_of xs z
other_name name [] apart z there = absurd (omega arith)
other_name name (x ∷ xs) apart zero there = apart.0
other_name name (x ∷ xs) apart (suc z) there = other_name name xs apart.1 z (omega arith)

valued_from : (i : ℕ) (xs : List Signal) → Apart (map (λ (x : Signal). x.name) xs) → (v z : ℕ) → z < length xs
    → named_from i xs v (name_of xs z) ≡ bit v (i + z)
valued_from i [] apart v z there = absurd (omega arith)
valued_from i (x ∷ xs) apart v zero there =
    let same : bytes_eq x.name x.name ≡ true = (bytes_eq-Decides x.name x.name).1 refl in
    let place : i ≡ i + 0 = omega arith in
    rw same (ap (bit v) place)
valued_from i (x ∷ xs) apart v (suc z) there =
    let within : z < length xs = omega arith in
    let other : bytes_eq x.name (name_of xs z) ≡ false = false_from_ne_true (bytes_eq x.name (name_of xs z))
    (λ same. other_name x.name xs apart.0 z within ((bytes_eq-Decides x.name (name_of xs z)).0 same)) in
    let place : (i + 1) + z ≡ i + suc z = omega arith in
    rw other (valued_from (i + 1) xs apart.1 v z within ∙ ap (bit v) place)

writable_at : (signals : List Signal) → AllByRecursion Writable signals → (z : ℕ) → z < length signals
    → IsWritable (name_of signals z)
writable_at [] all z there = absurd (omega arith)
writable_at (x ∷ xs) all zero there = all.0
writable_at (x ∷ xs) all (suc z) there = writable_at xs all.1 z (omega arith)

named_apart : (xs : List Signal) → AllByRecursion Writable xs → Apart (map (λ (x : Signal). x.name) xs) → AreNamed xs
named_apart xs writable apart = record {
  writable = writable_at xs writable;
  valued = λ v z there.
      let place : 0 + z ≡ z = omega arith in
      valued_from 0 xs apart v z there ∙ ap (bit v) place;
}

-- ---- the names of a cell's ports

no_feedback : (ports : Ports) (name : List ℕ) → IsPortName name → name ≢ feedback ports
no_feedback ports name is = no_dollar name ports.output (codes "in") (port_bytes name is)

abbrev inputs_by : Bool → Ports → List (List ℕ)
inputs_by reads ports = ports.pins ++ (if reads then feedback ports ∷ [] else [])

all_inserted : (P : List ℕ → Type 0) (xs : List (List ℕ)) (middle last : List ℕ)
    → AllByRecursion P (xs ++ last ∷ []) → P middle → AllByRecursion P ((xs ++ middle ∷ []) ++ last ∷ [])
all_inserted P [] middle last all also = (also, all)
all_inserted P (x ∷ xs) middle last all also = (all.0, all_inserted P xs middle last all.1 also)

apart_inserted : (xs : List (List ℕ)) (middle last : List ℕ) → Apart (xs ++ last ∷ [])
    → AllByRecursion (λ x. x ≢ middle) xs → middle ≢ last → Apart ((xs ++ middle ∷ []) ++ last ∷ [])
apart_inserted [] middle last apart others other = ((other, tt), (tt, tt))
apart_inserted (x ∷ xs) middle last apart others other = (
  all_inserted (λ y. x ≢ y) xs middle last apart.0 others.0,
  apart_inserted xs middle last apart.1 others.1 other,
)

before_feedback : (ports : Ports) (pins : List (List ℕ)) → AllByRecursion IsPortName (pins ++ ports.output ∷ [])
    → AllByRecursion (λ x. x ≢ feedback ports) pins
before_feedback ports [] are = tt
before_feedback ports (p ∷ pins) are = (no_feedback ports p are.0, before_feedback ports pins are.1)

last_is : (P : List ℕ → Type 0) (xs : List (List ℕ)) (last : List ℕ) → AllByRecursion P (xs ++ last ∷ []) → P last
last_is P [] last all = all.0
last_is P (x ∷ xs) last all = last_is P xs last all.1

pub fronts_are : (P : List ℕ → Type 0) (xs : List (List ℕ)) (last : List ℕ) → AllByRecursion P (xs ++ last ∷ [])
    → AllByRecursion P xs
fronts_are P [] last all = tt
fronts_are P (x ∷ xs) last all = (all.0, fronts_are P xs last all.1)

apart_ports : (ports : Ports) → AllByRecursion IsPortName (ports.pins ++ ports.output ∷ [])
    → Apart (ports.pins ++ ports.output ∷ []) → (reads : Bool) → Apart (inputs_by reads ports ++ ports.output ∷ [])
apart_ports ports are apart true = apart_inserted ports.pins (feedback ports) ports.output apart
    (before_feedback ports ports.pins are)
    (λ same. no_feedback ports ports.output (last_is IsPortName ports.pins ports.output are) (sym same))
apart_ports ports are apart false =
    subst (λ (xs : List (List ℕ)). Apart (xs ++ ports.output ∷ [])) (sym (append-nil ports.pins)) apart

pub ports_writable : (names : List (List ℕ)) → AllByRecursion IsPortName names → AllByRecursion IsWritable names
ports_writable [] are = tt
ports_writable (n ∷ names) are = (port_writable n are.0, ports_writable names are.1)

inputs_writable : (ports : Ports) → AllByRecursion IsPortName (ports.pins ++ ports.output ∷ []) → (reads : Bool)
    → AllByRecursion IsWritable (inputs_by reads ports)
inputs_writable ports are true = all_append IsWritable ports.pins (feedback ports ∷ [])
    (ports_writable ports.pins (fronts_are IsPortName ports.pins ports.output are))
    (feedback_writable ports (last_is IsPortName ports.pins ports.output are), tt)
inputs_writable ports are false = all_append IsWritable ports.pins []
    (ports_writable ports.pins (fronts_are IsPortName ports.pins ports.output are)) tt

inputs_count : (ports : Ports) (reads : Bool) → length ports.pins ≤ length (inputs_by reads ports)
inputs_count ports true = let both = length-append ports.pins (feedback ports ∷ []) in omega arith
inputs_count ports false = let both = length-append {A = List ℕ} ports.pins [] in omega arith

-- names before the last are told apart
pub apart_front : (xs : List (List ℕ)) (last : List ℕ) → Apart (xs ++ last ∷ []) → Apart xs
apart_front [] last apart = tt
apart_front (x ∷ xs) last apart = (fronts_are (λ y. x ≢ y) xs last apart.0, apart_front xs last apart.1)

-- ---- signals of its sum

cube_there : (n m : ℕ) → n ≤ m → (cube : List Literal) → All (λ l. l.sig < n) cube → AreThere m cube
cube_there n m fits cube all = recursion_from_All (λ (l : Literal). l.sig < m) cube
    (λ k d within. let here = all k d within in omega arith)

pub sum_there : (n m : ℕ) → n ≤ m → (sum : Sum) → AllByRecursion (IsCube n) sum → AllByRecursion (AreThere m) sum
sum_there n m fits [] cubes = tt
sum_there n m fits (c ∷ cs) cubes = (cube_there n m fits c cubes.0.there, sum_there n m fits cs cubes.1)

-- ---- the cell

-- a cell of a library, with names of its ports
pub record IsPortedCell (c : PortedCell) : Type 0 where
  pub cell : IsCell c.cell
  pub ports : ArePortsOf c.cell c.ports

pub names_are : (c : PortedCell) → IsPortedCell c → AllByRecursion IsPortName (c.ports.pins ++ c.ports.output ∷ [])
names_are c is = recursion_from_All IsPortName (c.ports.pins ++ c.ports.output ∷ []) is.ports.names

pub pins_are : (c : PortedCell) → IsPortedCell c → AllByRecursion IsPortName c.ports.pins
pins_are c is = fronts_are IsPortName c.ports.pins c.ports.output (names_are c is)

pub output_is : (c : PortedCell) → IsPortedCell c → IsPortName c.ports.output
output_is c is = last_is IsPortName c.ports.pins c.ports.output (names_are c is)

pub cell_readable : (c : PortedCell) → IsPortedCell c → IsReadable (cell_netlist c)
cell_readable c is =
    let ports = c.ports in
    let last = ports.output in
    let names = names_are c is in
    let inputs = cell_inputs c in
    let reads = reads_own c.cell in
    let writable = writable_ports inputs last (inputs_writable ports names reads)
    (port_writable last (last_is IsPortName ports.pins last names)) in
    let apart = apart_ports ports names (apart_from (ports.pins ++ last ∷ []) is.ports.distinct) reads in
    let few = inputs_count ports reads in
    let count = signal_count inputs last in
    let pins = is.ports.count in
    let fits : length c.cell.pins + 1 ≤ length (cell_signals c) = omega arith in
    record {
      model = signal_is_writable c.cell.name is.cell.name;
      writable = writable;
      named = named_apart (cell_signals c) writable (subst Apart (sym (names_back inputs last)) apart);
      count = ap length (sym (driven_is_last inputs last));
      there = (
        sum_there (length c.cell.pins + 1) (length (cell_signals c)) fits c.cell.sum
            (recursion_from_All (IsCube (length c.cell.pins + 1)) c.cell.sum is.cell.sum),
        tt,
      );
    }

-- its module has one assign, which has the value of its sum, whatever the values of its ports
pub record DrivesOwn (c : PortedCell) (m : Module) : Type 0 where
  pub tree : Tree
  pub assigned : m.assigns ≡ record { name = c.ports.output; tree = tree } ∷ []
  pub value : (v : ℕ) → tree_value (named_value (cell_signals c) v) tree ≡ sum_value v c.cell.sum
  pub ports : map port_name m.ports ≡ cell_inputs c ++ c.ports.output ∷ []

one_only : (assigns : List Assign) (a : Assign) (name : List ℕ) → slice_get assigns 0 ≡ Some a
    → map (λ (b : Assign). b.name) assigns ≡ name ∷ [] → assigns ≡ a ∷ []
one_only [] a name there names = cc
one_only (b ∷ []) a name there names = cc
one_only (b ∷ d ∷ assigns) a name there names = cc

pub drives_own : (c : PortedCell) (m : Module) → IsOfNetlist (cell_netlist c) m → DrivesOwn c m
drives_own c m of =
    let last = c.ports.output in
    let inputs = cell_inputs c in
    let gate = of.gates (length inputs) (last_drives inputs last) in
    let place = last_place inputs last in
    let named = last_name inputs last in
    let first : slice_get m.assigns 0 ≡ Some (record { name = last; tree = gate.tree }) =
    ap (slice_get m.assigns) (sym place) ∙ gate.there
    ∙ ap (λ (n : List ℕ). Some (record { name = n; tree = gate.tree })) named in
    record {
      tree = gate.tree;
      assigned = one_only m.assigns (record { name = last; tree = gate.tree }) last first
          (of.assigned ∙ ap (map (λ (x : Signal). x.name)) (driven_is_last inputs last));
      value = λ v. gate.value v
          ∙ ap (λ (p : ℕ). value_if_there (slice_get (SumGate c.cell.sum ∷ []) p) (length inputs) v) place;
      ports = ap (map port_name) of.ports ∙ port_names inputs last;
    }
