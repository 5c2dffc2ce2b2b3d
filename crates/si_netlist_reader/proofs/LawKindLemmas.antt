-- Signals in the order of their kinds, by their names.
use Rattle.std.proofs.Common.{◌≡◌, ℕ, ◌<◌, ◌≤◌, true, false, List, [], ◌∷◌, ◌++◌, length, map, filter, get_or, AllPairs}
use Rattle.std.proofs.Common.{refl, sym, ap, ap₂, subst, ◌∙◌, arith, append_assoc, codes}
use Rattle.std.proofs.lemmas.List.{append-nil, length-map, map-append, get_or-map}
use Rattle.std.proofs.lemmas.List.Elements.{All-from_recursion, filter-append}
use Rattle.std.proofs.lemmas.List.Kept.{AllPairs-cons}
use Rattle.std.specs.List.{AllByRecursion, zip}
use Rattle.si_base.specs.declared.graph.Signal.{Signal}
use Rattle.si_base.specs.declared.graph.SigKind.{SigKind}
use Rattle.si_base.specs.declared.graph.SigKind.TheVariants.{Input, Output, Internal, Inserted}
use Rattle.si_base.specs.Graph.{is_driven, kind_place, names_in}
use Rattle.si_base.specs.Netlist.{Gate, Insertion, Netlist}
use Rattle.si_base.specs.NetlistText.{same_kind, names_of, gate_words, bits_from, word_if_any, insert_line}
use Rattle.si_base.specs.NetlistText.{netlist_lines}
use Rattle.si_base.specs.GivenGraph.{signals_of}

abbrev pub signals_by : List (List ℕ) → List (List ℕ) → List (List ℕ) → List (List ℕ) → List Signal
signals_by i o n s = signals_of Input i ++ signals_of Output o ++ signals_of Internal n ++ signals_of Inserted s

abbrev pub driven_by : List (List ℕ) → List (List ℕ) → List (List ℕ) → List Signal
driven_by o n s = signals_of Output o ++ signals_of Internal n ++ signals_of Inserted s

names_append : (kind : SigKind) (xs ys : List Signal) → names_of kind (xs ++ ys) ≡ names_of kind xs ++ names_of kind ys
names_append kind xs ys =
    ap (map (λ (x : Signal). x.name)) (filter-append (λ (x : Signal). same_kind kind x.kind) xs ys)
    ∙ map-append (λ (x : Signal). x.name) (filter (λ (x : Signal). same_kind kind x.kind) xs)
    (filter (λ (x : Signal). same_kind kind x.kind) ys)

own : (kind k : SigKind) (xs : List (List ℕ)) → same_kind kind k ≡ true → names_of kind (signals_of k xs) ≡ xs
own kind k [] same = refl
own kind k (x ∷ xs) same = rw same (ap (λ (l : List (List ℕ)). x ∷ l) (own kind k xs same))

other : (kind k : SigKind) (xs : List (List ℕ)) → same_kind kind k ≡ false → names_of kind (signals_of k xs) ≡ []
other kind k [] same = refl
other kind k (x ∷ xs) same = rw same (other kind k xs same)

by_kind : (kind : SigKind) (i o n s a b c d : List (List ℕ)) → names_of kind (signals_of Input i) ≡ a
    → names_of kind (signals_of Output o) ≡ b → names_of kind (signals_of Internal n) ≡ c
    → names_of kind (signals_of Inserted s) ≡ d → names_of kind (signals_by i o n s) ≡ a ++ b ++ c ++ d
by_kind kind i o n s a b c d ea eb ec ed =
    let joined : List (List ℕ) → List (List ℕ) → List (List ℕ) = λ x y. x ++ y in
    let front : List Signal = signals_of Input i ++ signals_of Output o in
    let two : names_of kind front ≡ a ++ b =
    names_append kind (signals_of Input i) (signals_of Output o) ∙ ap₂ joined ea eb in
    let three : names_of kind (front ++ signals_of Internal n) ≡ a ++ b ++ c =
    names_append kind front (signals_of Internal n) ∙ ap₂ joined two ec in
    names_append kind (front ++ signals_of Internal n) (signals_of Inserted s) ∙ ap₂ joined three ed

pub inputs_of : (i o n s : List (List ℕ)) → names_of Input (signals_by i o n s) ≡ i
inputs_of i o n s = by_kind Input i o n s i [] [] [] (own Input Input i refl) (other Input Output o refl)
    (other Input Internal n refl) (other Input Inserted s refl) ∙ append-nil (i ++ [] ++ [])
    ∙ append-nil (i ++ []) ∙ append-nil i

pub outputs_of : (i o n s : List (List ℕ)) → names_of Output (signals_by i o n s) ≡ o
outputs_of i o n s = by_kind Output i o n s [] o [] [] (other Output Input i refl) (own Output Output o refl)
    (other Output Internal n refl) (other Output Inserted s refl) ∙ append-nil (o ++ []) ∙ append-nil o

pub internals_of : (i o n s : List (List ℕ)) → names_of Internal (signals_by i o n s) ≡ n
internals_of i o n s = by_kind Internal i o n s [] [] n [] (other Internal Input i refl) (other Internal Output o refl)
    (own Internal Internal n refl) (other Internal Inserted s refl) ∙ append-nil n

pub inserted_of : (i o n s : List (List ℕ)) → names_of Inserted (signals_by i o n s) ≡ s
inserted_of i o n s = by_kind Inserted i o n s [] [] [] s (other Inserted Input i refl) (other Inserted Output o refl)
    (other Inserted Internal n refl) (own Inserted Inserted s refl)

named : (k : SigKind) (xs : List (List ℕ)) → names_in (signals_of k xs) ≡ xs
named k [] = refl
named k (x ∷ xs) = ap (λ (l : List (List ℕ)). x ∷ l) (named k xs)

join2 : {a b c d : List (List ℕ)} → a ≡ b → c ≡ d → a ++ c ≡ b ++ d
join2 e f = ap₂ (λ (x y : List (List ℕ)). x ++ y) e f

pub driven_names : (o n s : List (List ℕ)) → names_in (driven_by o n s) ≡ o ++ n ++ s
driven_names o n s =
    map-append (λ (x : Signal). x.name) (signals_of Output o ++ signals_of Internal n) (signals_of Inserted s)
    ∙ join2 (map-append (λ (x : Signal). x.name) (signals_of Output o) (signals_of Internal n)
    ∙ join2 (named Output o) (named Internal n)) (named Inserted s)

pub all_names : (i o n s : List (List ℕ)) → names_in (signals_by i o n s) ≡ i ++ o ++ n ++ s
all_names i o n s =
    map-append (λ (x : Signal). x.name)
    (signals_of Input i ++ signals_of Output o ++ signals_of Internal n) (signals_of Inserted s)
    ∙ join2 (
    map-append (λ (x : Signal). x.name) (signals_of Input i ++ signals_of Output o) (signals_of Internal n)
    ∙ join2 (map-append (λ (x : Signal). x.name) (signals_of Input i) (signals_of Output o)
    ∙ join2 (named Input i) (named Output o)) (named Internal n)) (named Inserted s)

-- ---- the driven signals
drives : (k : SigKind) (xs : List (List ℕ)) → is_driven k ≡ true
    → filter (λ (x : Signal). is_driven x.kind) (signals_of k xs) ≡ signals_of k xs
drives k [] is = refl
drives k (x ∷ xs) is = rw is (ap (λ (l : List Signal). record { name = x; kind = k } ∷ l) (drives k xs is))

drives_not : (xs : List (List ℕ)) → filter (λ (x : Signal). is_driven x.kind) (signals_of Input xs) ≡ []
drives_not [] = refl
drives_not (x ∷ xs) = drives_not xs

join3 : {a b c d : List Signal} → a ≡ b → c ≡ d → a ++ c ≡ b ++ d
join3 e f = ap₂ (λ (x y : List Signal). x ++ y) e f

pub driven_of : (i o n s : List (List ℕ))
    → filter (λ (x : Signal). is_driven x.kind) (signals_by i o n s) ≡ driven_by o n s
driven_of i o n s =
    filter-append (λ (x : Signal). is_driven x.kind)
    (signals_of Input i ++ signals_of Output o ++ signals_of Internal n) (signals_of Inserted s)
    ∙ join3 (
    filter-append (λ (x : Signal). is_driven x.kind) (signals_of Input i ++ signals_of Output o) (signals_of Internal n)
    ∙ join3 (filter-append (λ (x : Signal). is_driven x.kind) (signals_of Input i) (signals_of Output o)
    ∙ join3 (drives_not i) (drives Output o refl)) (drives Internal n refl)) (drives Inserted s refl)

-- ---- a netlist by its parts, and its lines
abbrev pub netlist_by : List ℕ → List (List ℕ) → List (List ℕ) → List (List ℕ) → List (List ℕ) → ℕ
    → List Insertion → List Gate → Netlist
netlist_by model i o n s start inserts gates = record {
  model = model;
  signals = signals_by i o n s;
  start = start;
  inserts = inserts;
  gates = gates;
}

abbrev pub gate_lines : List Signal → List Signal → List Gate → List (List (List ℕ))
gate_lines signals driven gates = map (λ p. p.0.name ∷ gate_words signals p.1) (zip driven gates)

abbrev pub lines_by : List ℕ → List (List ℕ) → List (List ℕ) → List (List ℕ) → List (List ℕ) → ℕ → List Insertion
    → List Gate → List (List (List ℕ))
lines_by model i o n s start inserts gates = (codes ".model" ∷ model ∷ [])
    ∷ (codes ".inputs" ∷ i)
    ∷ (codes ".outputs" ∷ o)
    ∷ (codes ".internal" ∷ n)
    ∷ (codes ".inserted" ∷ s)
    ∷ (codes ".start" ∷ word_if_any (bits_from 0 (signals_by i o n s) start))
    ∷ map insert_line inserts
    ++ (codes ".gates" ∷ [])
    ∷ gate_lines (signals_by i o n s) (driven_by o n s) gates
    ++ (codes ".end" ∷ []) ∷ []

pub lines_are : (model : List ℕ) (i o n s : List (List ℕ)) (start : ℕ) (inserts : List Insertion) (gates : List Gate)
    → netlist_lines (netlist_by model i o n s start inserts gates) ≡ lines_by model i o n s start inserts gates
lines_are model i o n s start inserts gates =
    rw (inputs_of i o n s, outputs_of i o n s, internals_of i o n s, inserted_of i o n s, driven_of i o n s) refl

-- ---- the order of kinds
abbrev Ranked : ℕ → List Signal → Type 0
Ranked k [] = Unit {0}
Ranked k (x ∷ xs) = (k ≤ kind_place x.kind) × Ranked (kind_place x.kind) xs

rank_above : (j k : ℕ) (xs : List Signal) → j ≤ k → Ranked k xs
    → AllByRecursion (λ (x : Signal). j ≤ kind_place x.kind) xs
rank_above j k [] low ranked = tt
rank_above j k (x ∷ xs) low ranked =
    let here : k ≤ kind_place x.kind = ranked.0 in
    (omega arith, rank_above j (kind_place x.kind) xs (omega arith) ranked.1)

rank_pairs : (k : ℕ) (xs : List Signal) → Ranked k xs
    → AllPairs (λ (x y : Signal). kind_place x.kind ≤ kind_place y.kind) xs
rank_pairs k [] ranked = λ i j d before within. absurd (omega arith)
rank_pairs k (x ∷ xs) ranked = AllPairs-cons (λ (x y : Signal). kind_place x.kind ≤ kind_place y.kind) x xs
    (All-from_recursion (λ (y : Signal). kind_place x.kind ≤ kind_place y.kind) xs
    (rank_above (kind_place x.kind) (kind_place x.kind) xs (omega arith) ranked.1))
    (rank_pairs (kind_place x.kind) xs ranked.1)

rank_lower : (j k : ℕ) (xs : List Signal) → j ≤ k → Ranked k xs → Ranked j xs
rank_lower j k [] low ranked = tt
rank_lower j k (x ∷ xs) low ranked =
    let here : k ≤ kind_place x.kind = ranked.0 in
    (omega arith, ranked.1)

rank_front : (k : ℕ) (kind : SigKind) (xs : List (List ℕ)) (rest : List Signal) → k ≤ kind_place kind
    → Ranked (kind_place kind) rest → Ranked k (signals_of kind xs ++ rest)
rank_front k kind [] rest low ranked = rank_lower k (kind_place kind) rest low ranked
rank_front k kind (x ∷ xs) rest low ranked = (low, rank_front (kind_place kind) kind xs rest (omega arith) ranked)

rank_own : (k : ℕ) (kind : SigKind) (xs : List (List ℕ)) → k ≤ kind_place kind → Ranked k (signals_of kind xs)
rank_own k kind [] low = tt
rank_own k kind (x ∷ xs) low = (low, rank_own (kind_place kind) kind xs (omega arith))

pub kinds_in_order : (i o n s : List (List ℕ))
    → AllPairs (λ (x y : Signal). kind_place x.kind ≤ kind_place y.kind) (signals_by i o n s)
kinds_in_order i o n s =
    let outputs : List Signal = signals_of Output o in
    let internals : List Signal = signals_of Internal n in
    let inserted : List Signal = signals_of Inserted s in
    let grouped : signals_by i o n s ≡ signals_of Input i ++ (outputs ++ (internals ++ inserted)) =
    append_assoc (signals_of Input i ++ outputs) internals inserted
    ∙ append_assoc (signals_of Input i) outputs (internals ++ inserted) in
    let last : Ranked 2 inserted = rank_own 2 Inserted s (omega arith) in
    let from_internals : Ranked 1 (internals ++ inserted) = rank_front 1 Internal n inserted (omega arith) last in
    let from_outputs : Ranked 0 (outputs ++ (internals ++ inserted)) =
    rank_front 0 Output o (internals ++ inserted) (omega arith) from_internals in
    let all : Ranked 0 (signals_of Input i ++ (outputs ++ (internals ++ inserted))) =
    rank_front 0 Input i (outputs ++ (internals ++ inserted)) (omega arith) from_outputs in
    rank_pairs 0 (signals_by i o n s) (subst (Ranked 0) (sym grouped) all)

-- ---- facts on names are facts on signals
pub each_named : (P : List ℕ → Type 0) (signals : List Signal) → AllByRecursion P (names_in signals)
    → AllByRecursion (λ (x : Signal). P x.name) signals
each_named P [] all = tt
each_named P (x ∷ xs) all = (all.0, each_named P xs all.1)

pub pairs_named : (R : List ℕ → List ℕ → Type 0) (signals : List Signal) → AllPairs R (names_in signals)
    → AllPairs (λ (x y : Signal). R x.name y.name) signals
pairs_named R signals all = λ i j d before within.
    let count : length (names_in signals) ≡ length signals = length-map signals (λ (x : Signal). x.name) in
    let far : j < length (names_in signals) = omega arith in
    let near : i < length signals = omega arith in
    subst (λ (v : List ℕ). R v (get_or signals j d).name) (get_or-map (λ (x : Signal). x.name) signals i d [] near)
    (subst (λ (v : List ℕ). R (get_or (names_in signals) i []) v)
    (get_or-map (λ (x : Signal). x.name) signals j d [] within) (all i j [] before far))
