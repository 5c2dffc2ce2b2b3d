-- The signals of a graph, and behind them those that have an equation: their names are distinct, and
-- not too many.
use Rattle.std.proofs.Common.{◌≡◌, ◌≢◌, ℕ, ◌+◌, ◌≤◌, not, Bool, true, false, List, [], ◌∷◌, ◌++◌, length}
use Rattle.std.proofs.Common.{Option, Some, None, All, AllPairs, position, bytes_eq, refl, ap, subst, arith}
use Rattle.std.proofs.Common.{inl, inr, option_map, if◌then◌else◌}
use Rattle.std.specs.List.{AllByRecursion, list_all}
use Rattle.std.proofs.lemmas.Bool.{or_parts}
use Rattle.std.proofs.lemmas.List.{length-map}
use Rattle.std.proofs.lemmas.List.Elements.{All-from_recursion, recursion_from_All}
use Rattle.si_base.specs.declared.graph.Signal.{Signal}
use Rattle.si_base.specs.declared.graph.SigKind.{SigKind}
use Rattle.si_base.specs.declared.graph.SigKind.TheVariants.{Input, Output, Internal, Inserted}
use Rattle.si_base.specs.Faults.{◌otherwise◌}
use Rattle.si_base.specs.GivenGraph.{signals_of}
use Rattle.si_base.specs.Graph.{StateGraph, IsGraph, is_driven, kind_place, names_in}
use Rattle.si_base.specs.Limits.{max_signals}
use Rattle.si_base.specs.Words.{is_signal_name}
use Rattle.si_base.proofs.ListLemmas.{Once, at_most}
use Rattle.si_base.proofs.OrderAscending.{In}
use Rattle.si_words.specs.Names.{stands_in}
use Rattle.si_equations.specs.Equations.{Equations, driven, signals}
use Rattle.si_equations.specs.Whole.{AreWhole}
use Rattle.si_from_equations.specs.Beside.{all_signals, has_name, has_signal, hidden_names, lists_place}
use Rattle.si_from_equations.proofs.ElementLemmas.{Pairs, each_of_both, in_either, in_standing, in_whole}
use Rattle.si_from_equations.proofs.ElementLemmas.{kept_pass, none_pass, of_each, other_name, pairs_by_place}
use Rattle.si_from_equations.proofs.ElementLemmas.{pairs_in_order, pairs_kept, pairs_of_both}
use Rattle.si_from_equations.proofs.WholeLemmas.{are_signal_names, driven_apart, driven_is_signal, few_signals}
use Rattle.si_from_equations.proofs.WholeLemmas.{input_is_signal}

-- ---- hidden signals
abbrev IsHidden : List Signal → List ℕ → Type 0
IsHidden given name = has_name given name ≡ false

not_true : (b : Bool) → not b ≡ true → b ≡ false
not_true true is = absurd cc
not_true false is = refl

are_hidden : (given : List Signal) (names : List (List ℕ)) → AllByRecursion (λ n. not (has_name given n) ≡ true) names
    → AllByRecursion (IsHidden given) names
are_hidden given [] all = tt
are_hidden given (n ∷ names) all = (not_true (has_name given n) all.0, are_hidden given names all.1)

hidden_are : (given : List Signal) (e : Equations) → AllByRecursion (IsHidden given) (hidden_names given e)
hidden_are given e =
    are_hidden given (hidden_names given e) (kept_pass (λ (n : List ℕ). not (has_name given n)) (driven e))

-- a signal apart from those with hidden names
abbrev OtherNames : Signal → Signal → Type 0
OtherNames x y = x.name ≢ y.name

apart_from : (x : Signal) (given : List Signal) (names : List (List ℕ)) → AllByRecursion (IsHidden (x ∷ given)) names
    → AllByRecursion (OtherNames x) (signals_of Inserted names) × AllByRecursion (IsHidden given) names
apart_from x given [] hidden = (tt, tt)
apart_from x given (n ∷ names) hidden =
    let parts = or_parts (bytes_eq n x.name) (has_name given n) hidden.0 in
    let rest = apart_from x given names hidden.1 in
    ((other_name n x.name parts.0, rest.0), (parts.1, rest.1))

across : (given : List Signal) (names : List (List ℕ)) → AllByRecursion (IsHidden given) names
    → AllByRecursion (λ x. AllByRecursion (OtherNames x) (signals_of Inserted names)) given
across [] names hidden = tt
across (x ∷ given) names hidden =
    let parts = apart_from x given names hidden in
    (parts.0, across given names parts.1)

-- ---- signals of one kind
each_signal : (name : List ℕ) (names : List (List ℕ)) → AllByRecursion (λ m. name ≢ m) names
    → AllByRecursion (OtherNames (record { name = name; kind = Inserted })) (signals_of Inserted names)
each_signal name [] all = tt
each_signal name (n ∷ names) all = (all.0, each_signal name names all.1)

pairs_signals : (names : List (List ℕ)) → Pairs (λ n m. n ≢ m) names → Pairs OtherNames (signals_of Inserted names)
pairs_signals [] pairs = tt
pairs_signals (n ∷ names) pairs = (each_signal n names pairs.0, pairs_signals names pairs.1)

abbrev HasSignalName : Signal → Type 0
HasSignalName x = is_signal_name x.name ≡ true

named_signals : (names : List (List ℕ)) → AllByRecursion (λ n. is_signal_name n ≡ true) names
    → AllByRecursion HasSignalName (signals_of Inserted names)
named_signals [] all = tt
named_signals (n ∷ names) all = (all.0, named_signals names all.1)

-- ---- names of signals
pub names_of_both : (given : List Signal) (names : List (List ℕ))
    → names_in (given ++ signals_of Inserted names) ≡ names_in given ++ names
names_of_both [] [] = refl
names_of_both [] (n ∷ names) = ap (λ (l : List (List ℕ)). n ∷ l) (names_of_both [] names)
names_of_both (x ∷ given) names = ap (λ (l : List (List ℕ)). x.name ∷ l) (names_of_both given names)

no_name : (name : List ℕ) (xs : List Signal) → AllByRecursion (λ y. name ≢ y.name) xs → In name (names_in xs) → ⊥
no_name name [] all there = there
no_name name (x ∷ xs) all (inl same) = all.0 same
no_name name (x ∷ xs) all (inr there) = no_name name xs all.1 there

once_named : (xs : List Signal) → Pairs OtherNames xs → Once (names_in xs)
once_named [] pairs = tt
once_named (x ∷ xs) pairs = (no_name x.name xs pairs.0, once_named xs pairs.1)

name_there : (P : List ℕ → Type 0) (name : List ℕ) (xs : List Signal) → AllByRecursion (λ x. P x.name) xs
    → In name (names_in xs) → P name
name_there P name [] all there = absurd there
name_there P name (x ∷ xs) all (inl same) = rw same all.0
name_there P name (x ∷ xs) all (inr there) = name_there P name xs all.1 there

-- ---- lists that match
first_none : {A : Type 0} (a b : Option A) → (a otherwise b) ≡ None → a ≡ None
first_none None b none = refl
first_none (Some x) b none = absurd cc

mapped_none : (a : Option ℕ) → option_map (λ k. k + 1) a ≡ None → a ≡ None
mapped_none None none = refl
mapped_none (Some k) none = absurd cc

not_false : (b : Bool) → not b ≡ false → b ≡ true
not_false true is = refl
not_false false is = absurd cc

have_all : (e : Equations) (xs : List Signal) → AllByRecursion (λ x. not (has_signal e x) ≡ false) xs
    → AllByRecursion (λ x. has_signal e x ≡ true) xs
have_all e [] all = tt
have_all e (x ∷ xs) all = (not_false (has_signal e x) all.0, have_all e xs all.1)

-- the equations have each signal of the graph
pub has_each : (given : List Signal) (e : Equations) → lists_place given e ≡ None
    → AllByRecursion (λ x. has_signal e x ≡ true) given
has_each given e none =
    let missing = position (λ x. not (has_signal e x)) given in
    let further = if list_all (has_name given) e.inputs then None else Some (length given + 1) in
    let first = mapped_none missing (first_none (option_map (λ k. k + 1) missing) further none) in
    have_all e given (none_pass (λ (x : Signal). not (has_signal e x)) given first)

signal_there : (e : Equations) (x : Signal) (drives : Bool) → stands_in (if drives then driven e else e.inputs) x.name ≡ true
    → In x.name (signals e)
signal_there e x true stands = driven_is_signal e x.name (in_standing (driven e) x.name stands)
signal_there e x false stands = input_is_signal e x.name (in_standing e.inputs x.name stands)

all_there : (e : Equations) (xs : List Signal) → AllByRecursion (λ x. has_signal e x ≡ true) xs
    → AllByRecursion (λ x. In x.name (signals e)) xs
all_there e [] all = tt
all_there e (x ∷ xs) all = (signal_there e x (is_driven x.kind) all.0, all_there e xs all.1)

-- ---- kinds
place_below : (kind : SigKind) → kind_place kind ≤ kind_place Inserted
place_below Input = omega arith
place_below Output = omega arith
place_below Internal = omega arith
place_below Inserted = omega arith

abbrev InOrder : Signal → Signal → Type 0
InOrder x y = kind_place x.kind ≤ kind_place y.kind

before_inserted : (x : Signal) (names : List (List ℕ)) → AllByRecursion (InOrder x) (signals_of Inserted names)
before_inserted x [] = tt
before_inserted x (n ∷ names) = (place_below x.kind, before_inserted x names)

inserted_in_order : (names : List (List ℕ)) → Pairs InOrder (signals_of Inserted names)
inserted_in_order [] = tt
inserted_in_order (n ∷ names) =
    (before_inserted (record { name = n; kind = Inserted }) names, inserted_in_order names)

all_before_inserted : (given : List Signal) (names : List (List ℕ))
    → AllByRecursion (λ x. AllByRecursion (InOrder x) (signals_of Inserted names)) given
all_before_inserted [] names = tt
all_before_inserted (x ∷ given) names = (before_inserted x names, all_before_inserted given names)

-- ---- all signals
module _ (g : StateGraph) (e : Equations) (is : IsGraph g) (whole : AreWhole e) (lists : lists_place g.signals e ≡ None)
  where
    abbrev all : List Signal
    all = all_signals g.signals e

    abbrev hidden : List (List ℕ)
    hidden = hidden_names g.signals e

    abbrev keeps : List ℕ → Bool
    keeps = λ n. not (has_name g.signals n)

    pairs_all : Pairs OtherNames all
    pairs_all = pairs_of_both OtherNames g.signals (signals_of Inserted hidden)
        (pairs_in_order OtherNames g.signals is.names)
        (pairs_signals hidden (pairs_kept (λ (n m : List ℕ). n ≢ m) keeps (driven e) (driven_apart e whole)))
        (across g.signals hidden (hidden_are g.signals e))

    pub all_distinct : AllPairs (λ x y. x.name ≢ y.name) all
    all_distinct = pairs_by_place OtherNames all pairs_all

    pub all_ordered : AllPairs (λ x y. kind_place x.kind ≤ kind_place y.kind) all
    all_ordered = pairs_by_place InOrder all (pairs_of_both InOrder g.signals (signals_of Inserted hidden)
        (pairs_in_order InOrder g.signals is.kinds) (inserted_in_order hidden) (all_before_inserted g.signals hidden))

    stands : (name : List ℕ) → In name (names_in all) → In name (signals e)
    stands name there =
        let parted = subst (λ (l : List (List ℕ)). In name l) (names_of_both g.signals hidden) there in
        elim (in_either name (names_in g.signals) hidden parted) [
          | inl first ↦ name_there (λ (n : List ℕ). In n (signals e)) name g.signals
              (all_there e g.signals (has_each g.signals e lists)) first
          | inr second ↦ driven_is_signal e name (in_whole keeps name (driven e) second)
        ]

    pub all_few : length all ≤ max_signals
    all_few =
        let few = at_most (names_in all) (signals e) (once_named all pairs_all) stands in
        let many = few_signals e whole in
        omega (arith, few, many, length-map all (λ (x : Signal). x.name))

    each_hidden : (names : List (List ℕ)) → ((n : List ℕ) → In n names → is_signal_name n ≡ true)
        → AllByRecursion (λ n. is_signal_name n ≡ true) names
    each_hidden [] each = tt
    each_hidden (n ∷ names) each = (each n (inl refl), each_hidden names (λ m there. each m (inr there)))

    hidden_named : AllByRecursion (λ n. is_signal_name n ≡ true) hidden
    hidden_named = each_hidden hidden (λ n there. of_each (λ (m : List ℕ). is_signal_name m ≡ true) n (signals e)
        (are_signal_names e whole) (driven_is_signal e n (in_whole keeps n (driven e) there)))

    pub all_named : All (λ x. is_signal_name x.name ≡ true) g.signals → All (λ x. is_signal_name x.name ≡ true) all
    all_named named = All-from_recursion HasSignalName all (each_of_both HasSignalName g.signals (signals_of Inserted hidden)
        (recursion_from_All HasSignalName g.signals named) (named_signals hidden hidden_named))
