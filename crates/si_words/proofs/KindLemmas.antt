-- Signals, one kind after another.
use Rattle.std.proofs.Common.{◌≡◌, ℕ, ◌<◌, ◌≤◌, false, List, [], ◌∷◌, ◌++◌, zero, suc, refl, sym, ap, ap₂, ◌∙◌}
use Rattle.std.proofs.Common.{arith, AllPairs}
use Rattle.std.specs.List.{AllByRecursion}
use Rattle.std.proofs.lemmas.List.Elements.{recursion_from_All}
use Rattle.si_base.specs.declared.graph.Signal.{Signal}
use Rattle.si_base.specs.declared.graph.SigKind.{SigKind}
use Rattle.si_base.specs.declared.graph.SigKind.TheVariants.{Input, Output, Internal, Inserted}
use Rattle.si_base.specs.Graph.{kind_place}
use Rattle.si_base.specs.NetlistText.{names_of, same_kind}
use Rattle.si_base.specs.GivenGraph.{signals_of}

-- signals of these names: inputs, outputs, internal signals and inserted ones
abbrev pub signals_in_kinds : (i o n s : List (List ℕ)) → List Signal
signals_in_kinds i o n s =
    signals_of Input i ++ (signals_of Output o ++ (signals_of Internal n ++ signals_of Inserted s))

abbrev pub in_kinds : List Signal → List Signal
in_kinds xs = signals_in_kinds (names_of Input xs) (names_of Output xs) (names_of Internal xs) (names_of Inserted xs)

abbrev Ranked : ℕ → List Signal → Type 0
Ranked k xs = AllByRecursion (λ (x : Signal). k ≤ kind_place x.kind) xs

abbrev Sorted : List Signal → Type 0
Sorted [] = Unit {0}
Sorted (x ∷ xs) = Ranked (kind_place x.kind) xs × Sorted xs

other_kind : (kind k : SigKind) → kind_place kind < kind_place k → same_kind kind k ≡ false
other_kind Input Input low = absurd (omega arith)
other_kind Input Output low = refl
other_kind Input Internal low = refl
other_kind Input Inserted low = refl
other_kind Output Input low = absurd (omega arith)
other_kind Output Output low = absurd (omega arith)
other_kind Output Internal low = refl
other_kind Output Inserted low = refl
other_kind Internal Input low = absurd (omega arith)
other_kind Internal Output low = absurd (omega arith)
other_kind Internal Internal low = absurd (omega arith)
other_kind Internal Inserted low = refl
other_kind Inserted Input low = absurd (omega arith)
other_kind Inserted Output low = absurd (omega arith)
other_kind Inserted Internal low = absurd (omega arith)
other_kind Inserted Inserted low = absurd (omega arith)

none_of : (kind : SigKind) (k : ℕ) (xs : List Signal) → kind_place kind < k → Ranked k xs → names_of kind xs ≡ []
none_of kind k [] low ranked = refl
none_of kind k (x ∷ xs) low ranked =
    let here : k ≤ kind_place x.kind = ranked.0 in
    rw (other_kind kind x.kind (omega arith)) (none_of kind k xs low ranked.1)

one_more : (name : List ℕ) (kind : SigKind) (xs : List Signal) → Ranked (kind_place kind) xs → xs ≡ in_kinds xs
    → record { name = name; kind = kind } ∷ xs ≡ in_kinds (record { name = name; kind = kind } ∷ xs)
one_more name Input xs ranked same = ap (λ (l : List Signal). record { name = name; kind = Input } ∷ l) same
one_more name Output xs ranked same =
    let i = none_of Input 1 xs (omega arith) ranked in
    let outputs = names_of Output xs in
    let internals = names_of Internal xs in
    let inserted = names_of Inserted xs in
    ap (λ (l : List Signal). record { name = name; kind = Output } ∷ l)
    (same ∙ ap (λ (a : List (List ℕ)). signals_in_kinds a outputs internals inserted) i)
    ∙ sym (ap (λ (a : List (List ℕ)). signals_in_kinds a (name ∷ outputs) internals inserted) i)
one_more name Internal xs ranked same =
    let i = none_of Input 2 xs (omega arith) ranked in
    let o = none_of Output 2 xs (omega arith) ranked in
    let internals = names_of Internal xs in
    let inserted = names_of Inserted xs in
    ap (λ (l : List Signal). record { name = name; kind = Internal } ∷ l)
    (same ∙ ap₂ (λ (a b : List (List ℕ)). signals_in_kinds a b internals inserted) i o)
    ∙ sym (ap₂ (λ (a b : List (List ℕ)). signals_in_kinds a b (name ∷ internals) inserted) i o)
one_more name Inserted xs ranked same =
    let i = none_of Input 3 xs (omega arith) ranked in
    let o = none_of Output 3 xs (omega arith) ranked in
    let n = none_of Internal 3 xs (omega arith) ranked in
    let internals = names_of Internal xs in
    let inserted = names_of Inserted xs in
    ap (λ (l : List Signal). record { name = name; kind = Inserted } ∷ l)
    (same ∙ ap₂ (λ (a b : List (List ℕ)). signals_in_kinds a b internals inserted) i o
    ∙ ap (λ (c : List (List ℕ)). signals_in_kinds [] [] c inserted) n)
    ∙ sym (ap₂ (λ (a b : List (List ℕ)). signals_in_kinds a b internals (name ∷ inserted)) i o
    ∙ ap (λ (c : List (List ℕ)). signals_in_kinds [] [] c (name ∷ inserted)) n)

kinds_apart : (xs : List Signal) → Sorted xs → xs ≡ in_kinds xs
kinds_apart [] sorted = refl
kinds_apart (x ∷ xs) sorted = one_more x.name x.kind xs sorted.0 (kinds_apart xs sorted.1)

sorted_from : (xs : List Signal) → AllPairs (λ (x y : Signal). kind_place x.kind ≤ kind_place y.kind) xs → Sorted xs
sorted_from [] pairs = tt
sorted_from (x ∷ xs) pairs = (
  recursion_from_All (λ (y : Signal). kind_place x.kind ≤ kind_place y.kind) xs
      (λ j d within. pairs zero (suc j) d (omega arith) (omega arith)),
  sorted_from xs (λ i j d before within. pairs (suc i) (suc j) d (omega arith) (omega arith)),
)

-- signals whose kinds are in order are those of each kind, one kind after another
pub one_kind_after_another : (xs : List Signal)
    → AllPairs (λ (x y : Signal). kind_place x.kind ≤ kind_place y.kind) xs → xs ≡ in_kinds xs
one_kind_after_another xs pairs = kinds_apart xs (sorted_from xs pairs)
