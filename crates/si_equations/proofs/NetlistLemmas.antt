-- What a netlist has, as the writing of its text needs it.
use Rattle.std.proofs.Common.{◌≡◌, ◌≢◌, ℕ, zero, suc, ◌+◌, ◌<◌, ◌≤◌, ◌||◌, Bool, true, false, List, [], ◌∷◌, ◌++◌}
use Rattle.std.proofs.Common.{length, AllPairs, bytes_eq, map, filter, refl, ap, ◌∙◌, arith}
use Rattle.std.specs.Prelude.{IsTrue}
use Rattle.std.specs.List.{AllByRecursion}
use Rattle.std.proofs.lemmas.Bool.{false_from_ne_true}
use Rattle.std.proofs.lemmas.List.Elements.{recursion_from_All}
use Rattle.std.proofs.lemmas.Slice.Eq.{bytes_eq-Decides}
use Rattle.si_base.specs.declared.ids.Literal.{Literal}
use Rattle.si_base.specs.declared.graph.Signal.{Signal}
use Rattle.si_base.specs.declared.graph.SigKind.{SigKind}
use Rattle.si_base.specs.declared.graph.SigKind.TheVariants.{Input, Output, Internal, Inserted}
use Rattle.si_base.specs.Bits.{bit}
use Rattle.si_base.specs.Graph.{is_driven, kind_place, names_in}
use Rattle.si_base.specs.Netlist.{Sum, Gate, SumGate, Gc, Cell, Netlist}
use Rattle.si_base.specs.NetlistText.{name_of, names_of, same_kind}
use Rattle.si_base.specs.WellFormed.{IsCube, IsSum, IsGate, IsNetlist}
use Rattle.si_base.specs.Words.{is_signal_name}
use Rattle.si_netlist.proofs.GateLemmas.{AreInOrder, tail_in_order}
use Rattle.si_words.specs.Names.{stands_in}
use Rattle.si_words.proofs.NameWords.{same_bytes}
use Rattle.si_equations.specs.Names.{named_from}
use Rattle.si_equations.proofs.MeaningLemmas.{AreNamed, AreThere, HasThere}

-- ---- names and their values

abbrev pub AreApart : List Signal → Type 0
AreApart xs = AllPairs (λ x y. x.name ≢ y.name) xs

pub head_apart : (x : Signal) (xs : List Signal) → AreApart (x ∷ xs) → AllByRecursion (λ y. x.name ≢ y.name) xs
head_apart x xs pairs = recursion_from_All (λ (y : Signal). x.name ≢ y.name) xs
    (λ k d within. pairs 0 (suc k) d (omega arith) (omega arith))

pub tail_apart : (x : Signal) (xs : List Signal) → AreApart (x ∷ xs) → AreApart xs
tail_apart x xs pairs = λ i j d before within. pairs (suc i) (suc j) d (omega arith) (omega arith)

other_name : (name : List ℕ) (xs : List Signal) → AllByRecursion (λ y. name ≢ y.name) xs → (z : ℕ) → z < length xs
    → name ≢ name_of xs z
other_name name [] apart z there = absurd (omega arith)
other_name name (x ∷ xs) apart zero there = apart.0
other_name name (x ∷ xs) apart (suc z) there = other_name name xs apart.1 z (omega arith)

pub other_bytes : (a b : List ℕ) → a ≢ b → bytes_eq a b ≡ false
other_bytes a b other = false_from_ne_true (bytes_eq a b) (λ same. other ((bytes_eq-Decides a b).0 same))

valued_from : (i : ℕ) (xs : List Signal) → AreApart xs → (v z : ℕ) → z < length xs
    → named_from i (names_in xs) v (name_of xs z) ≡ bit v (i + z)
valued_from i [] apart v z there = absurd (omega arith)
valued_from i (x ∷ xs) apart v zero there =
    let same : bytes_eq x.name x.name ≡ true = same_bytes x.name in
    let place : i ≡ i + 0 = omega arith in
    rw same (ap (bit v) place)
valued_from i (x ∷ xs) apart v (suc z) there =
    let within : z < length xs = omega arith in
    let other : bytes_eq x.name (name_of xs z) ≡ false = other_bytes x.name (name_of xs z)
    (other_name x.name xs (head_apart x xs apart) z within) in
    let place : (i + 1) + z ≡ i + suc z = omega arith in
    rw other (valued_from (i + 1) xs (tail_apart x xs apart) v z within ∙ ap (bit v) place)

stands_at : (xs : List Signal) (z : ℕ) → z < length xs → stands_in (names_in xs) (name_of xs z) ≡ true
stands_at [] z there = absurd (omega arith)
stands_at (x ∷ xs) zero there = rw (same_bytes x.name) refl
stands_at (x ∷ xs) (suc z) there =
    by (bytes_eq (name_of xs z) x.name) (stands_in (names_in xs) (name_of xs z)) (stands_at xs z (omega arith))
  where
    by : (here later : Bool) → later ≡ true → (here || later) ≡ true
    by true later is = refl
    by false later is = is

good_at : (xs : List Signal) → AllByRecursion (λ x. IsTrue (is_signal_name x.name)) xs → (z : ℕ) → z < length xs
    → is_signal_name (name_of xs z) ≡ true
good_at [] all z there = absurd (omega arith)
good_at (x ∷ xs) all zero there = all.0
good_at (x ∷ xs) all (suc z) there = good_at xs all.1 z (omega arith)

all_good : (n : Netlist) → IsNetlist n → AllByRecursion (λ x. IsTrue (is_signal_name x.name)) n.signals
all_good n is = recursion_from_All (λ (x : Signal). IsTrue (is_signal_name x.name)) n.signals is.names

pub netlist_named : (n : Netlist) → IsNetlist n → AreNamed n.signals
netlist_named n is = record {
  good = good_at n.signals (all_good n is);
  valued = λ v z there.
      let place : 0 + z ≡ z = omega arith in
      valued_from 0 n.signals is.distinct v z there ∙ ap (bit v) place;
  stands = stands_at n.signals;
}

-- ---- literals

sum_there : (count : ℕ) (sum : Sum) → AllByRecursion (IsCube count) sum → AllByRecursion (AreThere count) sum
sum_there count [] cubes = tt
sum_there count (c ∷ cs) cubes =
    (recursion_from_All (λ (l : Literal). l.sig < count) c cubes.0.there, sum_there count cs cubes.1)

is_there : (count : ℕ) (sum : Sum) → IsSum count sum → AllByRecursion (AreThere count) sum
is_there count sum is = sum_there count sum (recursion_from_All (IsCube count) sum is)

gate_there : (count : ℕ) (gate : Gate) → IsGate count gate → HasThere count gate
gate_there count (SumGate sum) is = is_there count sum is
gate_there count (Gc set reset) is = (is_there count set is.0, is_there count reset is.1)
gate_there count (Cell name literals sum) is = is_there count sum is.3

gates_there : (count : ℕ) (gates : List Gate) → AllByRecursion (IsGate count) gates
    → AllByRecursion (HasThere count) gates
gates_there count [] all = tt
gates_there count (g ∷ gs) all = (gate_there count g all.0, gates_there count gs all.1)

pub netlist_there : (n : Netlist) → IsNetlist n → AllByRecursion (HasThere (length n.signals)) n.gates
netlist_there n is = gates_there (length n.signals) n.gates
    (recursion_from_All (IsGate (length n.signals)) n.gates is.gates)

-- ---- kinds in order

head_first : (x : Signal) (xs : List Signal) → AreInOrder (x ∷ xs)
    → AllByRecursion (λ y. kind_place x.kind ≤ kind_place y.kind) xs
head_first x xs pairs = recursion_from_All (λ (y : Signal). kind_place x.kind ≤ kind_place y.kind) xs
    (λ k d within. pairs 0 (suc k) d (omega arith) (omega arith))

-- kinds before k are no longer met
other_kind : (k l : SigKind) → suc (kind_place k) ≤ kind_place l → same_kind k l ≡ false
other_kind Input Input before = absurd (omega arith)
other_kind Output Output before = absurd (omega arith)
other_kind Internal Internal before = absurd (omega arith)
other_kind Inserted Inserted before = absurd (omega arith)
other_kind k l before = refl

none_of : (kind : SigKind) (place : ℕ) (xs : List Signal) → suc (kind_place kind) ≤ place
    → AllByRecursion (λ y. place ≤ kind_place y.kind) xs → names_of kind xs ≡ []
none_of kind place [] before all = refl
none_of kind place (x ∷ xs) before all =
    let first = all.0 in
    let later : suc (kind_place kind) ≤ kind_place x.kind = omega arith in
    rw (other_kind kind x.kind later) (none_of kind place xs before all.1)

-- the names of signals that are in neither list of the text
abbrev pub inner : List Signal → List (List ℕ)
inner xs = names_of Internal xs ++ names_of Inserted xs

abbrev pub by_kinds : List Signal → List (List ℕ)
by_kinds xs = (names_of Input xs ++ names_of Output xs) ++ inner xs

-- names by their kinds, where the kinds stand in order
pub names_in_order : (xs : List Signal) → AreInOrder xs → by_kinds xs ≡ names_in xs
names_in_order [] pairs = refl
names_in_order (x ∷ xs) pairs = by x.kind refl (names_in_order xs (tail_in_order x xs pairs))
  where
    first : AllByRecursion (λ y. kind_place x.kind ≤ kind_place y.kind) xs
    first = head_first x xs pairs

    by : (k : SigKind) → x.kind ≡ k → by_kinds xs ≡ map (λ (y : Signal). y.name) xs
        → by_kinds (x ∷ xs) ≡ x.name ∷ map (λ (y : Signal). y.name) xs
    by Input is rest = rw is (ap (λ (l : List (List ℕ)). x.name ∷ l) rest)
    by Output is rest =
        let none = none_of Input 1 xs (omega arith) (rw is at first) in
        rw (is, none) (ap (λ (l : List (List ℕ)). x.name ∷ l) (rw none at rest))
    by Internal is rest =
        let none = none_of Input 2 xs (omega arith) (rw is at first) in
        let also = none_of Output 2 xs (omega arith) (rw is at first) in
        rw (is, none, also) (ap (λ (l : List (List ℕ)). x.name ∷ l) (rw (none, also) at rest))
    by Inserted is rest =
        let none = none_of Input 3 xs (omega arith) (rw is at first) in
        let also = none_of Output 3 xs (omega arith) (rw is at first) in
        let third = none_of Internal 3 xs (omega arith) (rw is at first) in
        rw (is, none, also, third) (ap (λ (l : List (List ℕ)). x.name ∷ l) (rw (none, also, third) at rest))

-- the names of the non-inputs
abbrev pub driven_in : List Signal → List (List ℕ)
driven_in xs = names_in (filter (λ x. is_driven x.kind) xs)

pub driven_in_order : (xs : List Signal) → AreInOrder xs → names_of Output xs ++ inner xs ≡ driven_in xs
driven_in_order [] pairs = refl
driven_in_order (x ∷ xs) pairs = by x.kind refl (driven_in_order xs (tail_in_order x xs pairs))
  where
    first : AllByRecursion (λ y. kind_place x.kind ≤ kind_place y.kind) xs
    first = head_first x xs pairs

    by : (k : SigKind) → x.kind ≡ k → names_of Output xs ++ inner xs ≡ driven_in xs
        → names_of Output (x ∷ xs) ++ inner (x ∷ xs) ≡ driven_in (x ∷ xs)
    by Input is rest = rw is rest
    by Output is rest = rw is (ap (λ (l : List (List ℕ)). x.name ∷ l) rest)
    by Internal is rest =
        let none = none_of Output 2 xs (omega arith) (rw is at first) in
        rw (is, none) (ap (λ (l : List (List ℕ)). x.name ∷ l) (rw none at rest))
    by Inserted is rest =
        let none = none_of Output 3 xs (omega arith) (rw is at first) in
        let also = none_of Internal 3 xs (omega arith) (rw is at first) in
        rw (is, none, also) (ap (λ (l : List (List ℕ)). x.name ∷ l) (rw (none, also) at rest))
