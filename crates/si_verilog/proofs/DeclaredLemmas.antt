-- A netlist's text declares each signal once, in signal order.
use Rattle.std.proofs.Common.{◌≡◌, ℕ, suc, ◌≤◌, false, List, [], ◌∷◌, ◌++◌, map}
use Rattle.std.proofs.Common.{refl, ap, ◌∙◌, arith}
use Rattle.std.specs.List.{AllByRecursion}
use Rattle.std.proofs.lemmas.List.Elements.{recursion_from_All}
use Rattle.si_base.specs.declared.graph.Signal.{Signal}
use Rattle.si_base.specs.declared.graph.SigKind.{SigKind}
use Rattle.si_base.specs.declared.graph.SigKind.TheVariants.{Input, Output, Internal, Inserted}
use Rattle.si_base.specs.Graph.{kind_place}
use Rattle.si_base.specs.Netlist.{Netlist}
use Rattle.si_base.specs.NetlistText.{names_of, same_kind}
use Rattle.si_base.specs.WellFormed.{IsNetlist}
use Rattle.si_netlist.proofs.GateLemmas.{AreInOrder, tail_in_order}
use Rattle.si_verilog.specs.Declared.{port_name, declared_names}
use Rattle.si_verilog.specs.Grammar.{InputPort, OutputPort, Module}
use Rattle.si_verilog.specs.Meaning.{IsOfNetlist}
use Rattle.si_verilog.specs.ModuleText.{wires_of}

head_first : (x : Signal) (xs : List Signal) → AreInOrder (x ∷ xs)
    → AllByRecursion (λ y. kind_place x.kind ≤ kind_place y.kind) xs
head_first x xs pairs = recursion_from_All (λ (y : Signal). kind_place x.kind ≤ kind_place y.kind) xs
    (λ k d within. pairs 0 (suc k) d (omega arith) (omega arith))

-- kinds before k are no longer met
other_kind : (k l : SigKind) → suc (kind_place k) ≤ kind_place l → same_kind k l ≡ false
other_kind Input Input before = absurd (omega arith)
other_kind Output Output before = absurd (omega arith)
other_kind Internal Internal before = absurd (omega arith)
other_kind Inserted Inserted before = absurd (omega arith)
other_kind k l before = refl

none_of : (kind : SigKind) (place : ℕ) (xs : List Signal) → suc (kind_place kind) ≤ place
    → AllByRecursion (λ y. place ≤ kind_place y.kind) xs → names_of kind xs ≡ []
none_of kind place [] before all = refl
none_of kind place (x ∷ xs) before all =
    let first = all.0 in
    let later : suc (kind_place kind) ≤ kind_place x.kind = omega arith in
    rw (other_kind kind x.kind later) (none_of kind place xs before all.1)

abbrev by_kinds : List Signal → List (List ℕ)
by_kinds xs = (names_of Input xs ++ names_of Output xs) ++ (names_of Internal xs ++ names_of Inserted xs)

-- names by their kinds, where the kinds stand in order
names_in_order : (xs : List Signal) → AreInOrder xs → by_kinds xs ≡ map (λ (x : Signal). x.name) xs
names_in_order [] pairs = refl
names_in_order (x ∷ xs) pairs = by x.kind refl (names_in_order xs (tail_in_order x xs pairs))
  where
    first : AllByRecursion (λ y. kind_place x.kind ≤ kind_place y.kind) xs
    first = head_first x xs pairs

    by : (k : SigKind) → x.kind ≡ k → by_kinds xs ≡ map (λ (y : Signal). y.name) xs
        → by_kinds (x ∷ xs) ≡ x.name ∷ map (λ (y : Signal). y.name) xs
    by Input is rest = rw is (ap (λ (l : List (List ℕ)). x.name ∷ l) rest)
    by Output is rest =
        let none = none_of Input 1 xs (omega arith) (rw is at first) in
        rw (is, none) (ap (λ (l : List (List ℕ)). x.name ∷ l) (rw none at rest))
    by Internal is rest =
        let none = none_of Input 2 xs (omega arith) (rw is at first) in
        let also = none_of Output 2 xs (omega arith) (rw is at first) in
        rw (is, none, also) (ap (λ (l : List (List ℕ)). x.name ∷ l) (rw (none, also) at rest))
    by Inserted is rest =
        let none = none_of Input 3 xs (omega arith) (rw is at first) in
        let also = none_of Output 3 xs (omega arith) (rw is at first) in
        let third = none_of Internal 3 xs (omega arith) (rw is at first) in
        rw (is, none, also, third) (ap (λ (l : List (List ℕ)). x.name ∷ l) (rw (none, also, third) at rest))

ports_named : (ins outs : List (List ℕ)) → map port_name (map InputPort ins ++ map OutputPort outs) ≡ ins ++ outs
ports_named [] [] = refl
ports_named [] (o ∷ outs) = ap (λ (l : List (List ℕ)). o ∷ l) (ports_named [] outs)
ports_named (i ∷ ins) outs = ap (λ (l : List (List ℕ)). i ∷ l) (ports_named ins outs)

pub all_declared : (n : Netlist) (m : Module) → IsNetlist n → IsOfNetlist n m
    → declared_names m ≡ map (λ (x : Signal). x.name) n.signals
all_declared n m is of = rw (of.ports, of.wires)
    (ap (λ (l : List (List ℕ)). l ++ wires_of n.signals)
    (ports_named (names_of Input n.signals) (names_of Output n.signals))
    ∙ names_in_order n.signals is.kinds)
