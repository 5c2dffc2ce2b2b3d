-- What a netlist has, as the writing of its text needs it.
use Rattle.std.proofs.Common.{◌≡◌, ◌≢◌, ℕ, zero, suc, ◌+◌, ◌<◌, true, false, List, [], ◌∷◌, ◌++◌, length}
use Rattle.std.proofs.Common.{AllPairs, bytes_eq, refl, ap, ◌∙◌, arith, inl, inr}
use Rattle.std.specs.Prelude.{IsTrue}
use Rattle.std.specs.List.{AllByRecursion}
use Rattle.std.proofs.lemmas.Bool.{cases_Bool, false_from_ne_true}
use Rattle.std.proofs.lemmas.List.Elements.{recursion_from_All}
use Rattle.std.proofs.lemmas.Slice.Eq.{bytes_eq-Decides}
use Rattle.si_base.specs.declared.ids.Literal.{Literal}
use Rattle.si_base.specs.declared.graph.Signal.{Signal}
use Rattle.si_base.specs.declared.graph.SigKind.{SigKind}
use Rattle.si_base.specs.Bits.{bit}
use Rattle.si_base.specs.Netlist.{Sum, Gate, SumGate, Gc, Cell, Netlist}
use Rattle.si_base.specs.NetlistText.{name_of, names_of, same_kind}
use Rattle.si_base.specs.WellFormed.{IsCube, IsSum, IsGate, IsNetlist}
use Rattle.si_base.specs.Words.{is_signal_name}
use Rattle.si_verilog.specs.Meaning.{named_from}
use Rattle.si_verilog.proofs.NameLemmas.{IsWritable, signal_is_writable}
use Rattle.si_verilog.proofs.MeaningLemmas.{AreNamed, AreThere, HasThere}

-- ---- names

abbrev pub Writable : Signal → Type 0
Writable x = IsWritable x.name

all_writable : (signals : List Signal) → AllByRecursion (λ x. IsTrue (is_signal_name x.name)) signals
    → AllByRecursion Writable signals
all_writable [] names = tt
all_writable (x ∷ xs) names = (signal_is_writable x.name names.0, all_writable xs names.1)

pub netlist_writable : (n : Netlist) → IsNetlist n → AllByRecursion Writable n.signals
netlist_writable n is = all_writable n.signals
    (recursion_from_All (λ (x : Signal). IsTrue (is_signal_name x.name)) n.signals is.names)

writable_at : (signals : List Signal) → AllByRecursion Writable signals → (z : ℕ) → z < length signals
    → IsWritable (name_of signals z)
writable_at [] all z there = absurd (omega arith)
writable_at (x ∷ xs) all zero there = all.0
writable_at (x ∷ xs) all (suc z) there = writable_at xs all.1 z (omega arith)

-- the names of a kind
pub kind_writable : (kind : SigKind) (signals : List Signal) → AllByRecursion Writable signals
    → AllByRecursion IsWritable (names_of kind signals)
kind_writable kind [] all = tt
kind_writable kind (x ∷ xs) all = elim (cases_Bool (same_kind kind x.kind)) [
  | inl here ↦ rw here (all.0, kind_writable kind xs all.1)
  | inr other ↦ rw other (kind_writable kind xs all.1)
]

pub all_append : {A : Type 0} (P : A → Type 0) (xs ys : List A) → AllByRecursion P xs → AllByRecursion P ys
    → AllByRecursion P (xs ++ ys)
all_append P [] ys all also = also
all_append P (x ∷ xs) ys all also = (all.0, all_append P xs ys all.1 also)

-- ---- values of names

abbrev AreApart : List Signal → Type 0
AreApart xs = AllPairs (λ x y. x.name ≢ y.name) xs

head_apart : (x : Signal) (xs : List Signal) → AreApart (x ∷ xs) → AllByRecursion (λ y. x.name ≢ y.name) xs
head_apart x xs pairs = recursion_from_All (λ (y : Signal). x.name ≢ y.name) xs
    (λ k d within. pairs 0 (suc k) d (omega arith) (omega arith))

tail_apart : (x : Signal) (xs : List Signal) → AreApart (x ∷ xs) → AreApart xs
tail_apart x xs pairs = λ i j d before within. pairs (suc i) (suc j) d (omega arith) (omega arith)

other_name : (name : List ℕ) (xs : List Signal) → AllByRecursion (λ y. name ≢ y.name) xs → (z : ℕ) → z < length xs
    → name ≢ name_of xs z
other_name name [] apart z there = absurd (omega arith)
other_name name (x ∷ xs) apart zero there = apart.0
other_name name (x ∷ xs) apart (suc z) there = other_name name xs apart.1 z (omega arith)

valued_from : (i : ℕ) (xs : List Signal) → AreApart xs → (v z : ℕ) → z < length xs
    → named_from i xs v (name_of xs z) ≡ bit v (i + z)
valued_from i [] apart v z there = absurd (omega arith)
valued_from i (x ∷ xs) apart v zero there =
    let same : bytes_eq x.name x.name ≡ true = (bytes_eq-Decides x.name x.name).1 refl in
    let place : i ≡ i + 0 = omega arith in
    rw same (ap (bit v) place)
valued_from i (x ∷ xs) apart v (suc z) there =
    let within : z < length xs = omega arith in
    let other : bytes_eq x.name (name_of xs z) ≡ false = false_from_ne_true (bytes_eq x.name (name_of xs z))
    (λ same. other_name x.name xs (head_apart x xs apart) z within
    ((bytes_eq-Decides x.name (name_of xs z)).0 same)) in
    let place : (i + 1) + z ≡ i + suc z = omega arith in
    rw other (valued_from (i + 1) xs (tail_apart x xs apart) v z within ∙ ap (bit v) place)

pub netlist_named : (n : Netlist) → IsNetlist n → AreNamed n.signals
netlist_named n is = record {
  writable = writable_at n.signals (netlist_writable n is);
  valued = λ v z there.
      let place : 0 + z ≡ z = omega arith in
      valued_from 0 n.signals is.distinct v z there ∙ ap (bit v) place;
}

-- ---- literals

sum_there : (count : ℕ) (sum : Sum) → AllByRecursion (IsCube count) sum → AllByRecursion (AreThere count) sum
sum_there count [] cubes = tt
sum_there count (c ∷ cs) cubes =
    (recursion_from_All (λ (l : Literal). l.sig < count) c cubes.0.there, sum_there count cs cubes.1)

is_there : (count : ℕ) (sum : Sum) → IsSum count sum → AllByRecursion (AreThere count) sum
is_there count sum is = sum_there count sum (recursion_from_All (IsCube count) sum is)

gate_there : (count : ℕ) (gate : Gate) → IsGate count gate → HasThere count gate
gate_there count (SumGate sum) is = is_there count sum is
gate_there count (Gc set reset) is = (is_there count set is.0, is_there count reset is.1)
gate_there count (Cell name literals sum) is = is_there count sum is.3

gates_there : (count : ℕ) (gates : List Gate) → AllByRecursion (IsGate count) gates
    → AllByRecursion (HasThere count) gates
gates_there count [] all = tt
gates_there count (g ∷ gs) all = (gate_there count g all.0, gates_there count gs all.1)

pub netlist_there : (n : Netlist) → IsNetlist n → AllByRecursion (HasThere (length n.signals)) n.gates
netlist_there n is = gates_there (length n.signals) n.gates
    (recursion_from_All (IsGate (length n.signals)) n.gates is.gates)
